-- Each kind of step keeps the rule.
use Rattle.std.proofs.Common.{◌≡◌, ℕ, zero, suc, ◌+◌, ◌^◌, ◌<◌, ◌≤◌, eqb, true, false, List, [], ◌∷◌, ◌++◌, length, get_or, set, replicate, sym, refl, ap, ◌∙◌, subst, arith, length-append}
use mathlib.Core.Logic.{dite}
use mathlib.Core.Option.{none, some}
use native.Mathlib.Decide.{ℕ_discrete}
use lib.ListN.{get_elem?}
use lib.Seq.{set-get_or}
use prog.Atomic.{either}
use Rattle.complex_core.specs.Complexes.{ComplexView}
use Rattle.atomic_table.specs.Table.{step, rest, opening, Allows, Splits, Joins, Final, Seen, Act, keeps as stays, takes, gives, Valid, carried_after, stepped}
use Rattle.atomic_table.proofs.Lists.{set_here, set_else, exchanged}
use Rattle.flip_rules.specs.Entries.{JournalEntry}
use Rattle.board_rule.specs.Books.{Book}
use Rattle.board_rule.specs.Items.{item}
use Rattle.board_rule.specs.Tries.{wins}
use Rattle.board_rule.specs.Views.{home_at, keeps, Empty, newcomer, opened_by, with_item, with_journal, counted, lost_by, without_item, without_journal, committed, one_more_pass, one_back, living}
use Rattle.board_rule.specs.Rule.{Board, Past, Ruled, opener, Written}
use Rattle.board_rule.specs.Plays.{Seated, Sees, IsRefused, began, claimed, fetched, released, left, wrote, handed, given, gathered}
use Rattle.board_rule.specs.Ends.{Opens, Commits, AllBack, Closes}
use Rattle.board_rule.specs.Steps.{looked, taken}
use Rattle.board_rule.specs.declared.setup.Setup.{Setup}
use Rattle.board_rule.specs.Homes.{VersionedStar}
use Rattle.board_rule.specs.declared.data.Slot.{Slot}
use Rattle.board_rule.specs.declared.data.Slot.TheVariants.{Journal, Home}
use Rattle.board_rule.specs.declared.kept.Kept.{Kept}
use Rattle.board_rule.specs.declared.view.PassView.{PassView}
use Rattle.board_rule.specs.declared.view.MainView.{MainView}
use Rattle.board_rule.specs.declared.view.View.{View}
use Rattle.board_rule.specs.declared.view.View.TheVariants.{Main, Pass, Spent}
use Rattle.board_rule.proofs.Items.{off}
use Rattle.board_rule.proofs.Seats.{within}
use Rattle.board_rule.proofs.Owning.{refused_by}
use Rattle.board_rule.proofs.Writing.{written_as}
use Rattle.board_rule.proofs.Knowing.{sees_now, knows_opened, knows_more}
use Rattle.board_rule.proofs.Firm.{firm_of, firm_commit}
use Rattle.board_rule.proofs.TryingSteps.{tried_of}
use Rattle.board_rule.proofs.TryingSeats.{tried_closed}
use Rattle.board_rule.proofs.Steps.{the_main_view, opened, lost, won_more, refused, released as gave, fetched as took, left as gave_journal, now_after, wrote as wrote_entry, handed_out, taken_back, first}

-- what a step owes
abbrev Goes : Setup → Board → ℕ → ℕ → Seated → (ℕ → Seated → Type 0) → ℕ → Type 0
Goes setup s i id m then n = (w : View) × (a : Act Slot) × Valid s.homes m.1 a × Ruled setup (stepped s i n id m.1 w a) × then (get_or s.words i 0) (w, carried_after m.1 a)

-- a word that stays
stays_put : (setup : Setup) (s : Board) (p id : ℕ) (u : PassView) → Ruled setup (looked s id u) → Ruled setup record { words = set s.words p (get_or s.words p 0); homes = s.homes; views = set s.views id (Pass u) }
stays_put setup s p id u r = subst (λ (ws : List ℕ). Ruled setup record { words = ws; homes = s.homes; views = set s.views id (Pass u) }) (sym (set-get_or s.words p 0)) r

-- a word that becomes the worker's number
taken_by : (setup : Setup) (s : Board) (p id w : ℕ) (u : PassView) → w ≡ id → Ruled setup (taken s p id u) → Ruled setup record { words = set s.words p w; homes = set s.homes p none; views = set s.views id (Pass u) }
taken_by setup s p id w u is r = subst (λ (k : ℕ). Ruled setup record { words = set s.words p k; homes = set s.homes p none; views = set s.views id (Pass u) }) (sym is) r

firsts_at : (setup : Setup) (n id : ℕ) (v : PassView) (c : List (ℕ × Slot)) (p w : ℕ) → 0 < p → p ≤ setup.places → v.worker ≡ w → Empty v → setup.workers < 65536
    → Allows (Ruled setup) n id (Pass v, c) p (λ y. either (eqb y 0) w y) (began (step n p 0 w none) (Pass v, c))
firsts_at setup n id v c p w pos near worker empty few s r wide me _ =
    let is_id : w ≡ id = sym worker ∙ (r.owned.numbers id v me).0 in
    exchanged (get_or s.words p 0) 0 w (Goes setup s p id (Pass v, c) (began (step n p 0 w none) (Pass v, c)))
    (λ free. let x : VersionedStar = home_at r.now r.journal p in let u : PassView = opened_by v p x r.now in (
      Pass u,
      takes p (Home x),
      r.housed.stars p pos near free,
      taken_by setup s p id w u is_id (opened setup s r p id v me r.now pos near free empty).0,
      ((λ _. (x, r.now, refl, sees_now setup s.words (length s.views) r.journal r.now u r.written (knows_opened setup r.journal r.now v p r.now pos (r.living id v me).knows) refl)), λ nz. absurd (nz free)),
    ))
    (λ nz. let no_one = refused_by setup.workers setup.places s.words s.views r.main_view id v p r.owned me (empty p) few nz in (
      Pass (lost_by v p (get_or s.words p 0)),
      stays,
      tt,
      stays_put setup s p id (lost_by v p (get_or s.words p 0)) (lost setup s r p id v me pos nz empty).0,
      ((λ z. absurd (nz z)), λ _. (refl, subst (λ (k : ℕ). IsRefused k (get_or s.words p 0)) (sym is_id) no_one)),
    ))

claims_at : (setup : Setup) (n id : ℕ) (v : PassView) (c : List (ℕ × Slot)) (p w : ℕ) → 0 < p → p ≤ setup.places → v.worker ≡ w → keeps v p ≡ false → setup.workers < 65536 → v.claiming ≡ true
    → Allows (Ruled setup) n id (Pass v, c) p (λ y. either (eqb y 0) w y) (claimed (step n p 0 w none) (Pass v, c))
claims_at setup n id v c p w pos near worker hasn't few claiming s r wide me _ =
    let is_id : w ≡ id = sym worker ∙ (r.owned.numbers id v me).0 in
    exchanged (get_or s.words p 0) 0 w (Goes setup s p id (Pass v, c) (claimed (step n p 0 w none) (Pass v, c)))
    (λ free. let x : VersionedStar = home_at r.now r.journal p in let u : PassView = with_item v p x r.now in (
      Pass u,
      takes p (Home x),
      r.housed.stars p pos near free,
      taken_by setup s p id w u is_id (won_more setup s r p id v me r.now pos near free hasn't claiming).0,
      ((λ _. (x, r.now, refl, sees_now setup s.words (length s.views) r.journal r.now u r.written (knows_more setup r.journal r.now v p r.now pos (r.living id v me).knows) refl)), λ nz. absurd (nz free)),
    ))
    (λ nz. let no_one = refused_by setup.workers setup.places s.words s.views r.main_view id v p r.owned me hasn't few nz in (
      Pass (counted v p (get_or s.words p 0)),
      stays,
      tt,
      stays_put setup s p id (counted v p (get_or s.words p 0)) (refused setup s r p id v me nz hasn't).0,
      ((λ z. absurd (nz z)), λ _. (refl, subst (λ (k : ℕ). IsRefused k (get_or s.words p 0)) (sym is_id) no_one)),
    ))

fetches_at : (setup : Setup) (n id : ℕ) (v : PassView) (c : List (ℕ × Slot)) (w : ℕ) → v.worker ≡ w → v.has_journal ≡ false → setup.workers < 65536
    → Allows (Ruled setup) n id (Pass v, c) 0 (λ y. either (eqb y 0) w y) (fetched (step n 0 0 w none) (Pass v, c))
fetches_at setup n id v c w worker hasn't few s r wide me _ =
    let is_id : w ≡ id = sym worker ∙ (r.owned.numbers id v me).0 in
    exchanged (get_or s.words 0 0) 0 w (Goes setup s 0 id (Pass v, c) (fetched (step n 0 0 w none) (Pass v, c)))
    (λ free. let j = r.housed.book free in let b : Book = record { entries = r.journal; room = j.0 } in let u : PassView = with_journal v r.journal in (
      Pass u,
      takes 0 (Journal b),
      j.1,
      taken_by setup s 0 id w u is_id (took setup s r id v me free).0,
      ((λ _. (b, refl)), λ nz. absurd (nz free)),
    ))
    (λ nz. let no_one = refused_by setup.workers setup.places s.words s.views r.main_view id v 0 r.owned me hasn't few nz in (
      Pass (counted v 0 (get_or s.words 0 0)),
      stays,
      tt,
      stays_put setup s 0 id (counted v 0 (get_or s.words 0 0)) (refused setup s r 0 id v me nz hasn't).0,
      ((λ z. absurd (nz z)), λ _. (refl, subst (λ (k : ℕ). IsRefused k (get_or s.words 0 0)) (sym is_id) no_one)),
    ))

releases_at : (setup : Setup) (n id : ℕ) (v : PassView) (p : ℕ) (x : VersionedStar) (more : List (ℕ × Slot)) → n ≡ setup.places + 1 → 0 < p → keeps v p ≡ true → item v.items p ≡ some x
    → Allows (Ruled setup) n id (Pass v, (p, Home x) ∷ more) p (λ _. 0) (λ _. released (step n p 0 0 none) (Pass v, (p, Home x) ∷ more) 0)
releases_at setup n id v p x more sized pos has knows s r wide me _ = (Pass (without_item v p), gives, tt, (gave setup s r p id v me x (wide ∙ sized) pos has knows).0, refl)

leaves_at : (setup : Setup) (n id : ℕ) (v : PassView) (b : Book) (more : List (ℕ × Slot)) → n ≡ setup.places + 1 → v.has_journal ≡ true → b.entries ≡ v.journal
    → Allows (Ruled setup) n id (Pass v, (0, Journal b) ∷ more) 0 (λ _. 0) (λ _. left (step n 0 0 0 none) (Pass v, (0, Journal b) ∷ more) 0)
leaves_at setup n id v b more sized has as_was s r wide me _ = (Pass (without_journal v), gives, tt, (gave_journal setup s r id v me b (wide ∙ sized) has as_was).0, refl)

abbrev front_of : Slot → List (ℕ × Slot) → Slot
front_of x [] = x
front_of x (y ∷ ys) = y.1

same_journal : (a b : Book) → Journal a ≡ Journal b → a ≡ b
same_journal a b e = cc

same_book : (a b : Book) (more rest : List (ℕ × Slot)) → (0, Journal a) ∷ more ≡ (0, Journal b) ∷ rest → a ≡ b
same_book a b more rest e = same_journal a b (ap (front_of (Journal a)) e)

abbrev seat : PassView → List (ℕ × Slot) → Seated
seat h more = (Pass h, more)

last_of : (xs ys : List JournalEntry) (x y : JournalEntry) → xs ++ x ∷ [] ≡ ys ++ y ∷ [] → x ≡ y
last_of [] [] x y h = cc
last_of [] (z ∷ []) x y h = absurd (cc)
last_of [] (z ∷ z₁ ∷ zs) x y h = absurd (cc)
last_of (z ∷ []) [] x y h = absurd (cc)
last_of (z ∷ z₁ ∷ zs) [] x y h = absurd (cc)
last_of (z ∷ zs) (w ∷ ws) x y h = last_of zs ws x y (cc)

commits_at : (setup : Setup) (n id : ℕ) (v : PassView) (b : Book) (e : JournalEntry) (more : List (ℕ × Slot)) → n ≡ setup.places + 1 → v.has_journal ≡ true → b.entries ≡ v.journal ++ e ∷ [] → length b.entries < 2 ^ 64 → Commits setup v e
    → Allows (Ruled setup) n id (Pass v, (0, Journal b) ∷ more) 0 (λ _. 0) (λ _. wrote (step n 0 0 0 none) (Pass v, (0, Journal b) ∷ more) 0)
commits_at setup n id v b e more sized has writes fits may s r wide me _ =
    let k : ComplexView = now_after setup s r id v me e in
    let u : PassView = committed v e k in
    let f = firm_commit setup s r.journal r.now r.main_view (firm_of setup s r) id v b e (wide ∙ sized) me has writes fits may (r.past id v me).entries k in
    let known = f.knows id u (set_here s.views id (Pass u) (within s.views id (Pass v) me)) in
    let seen : Sees u = sees_now setup (set s.words 0 0) (length (set s.views id (Pass u))) (r.journal ++ e ∷ []) k u f.written known refl in
    let won = ((r.living id v me).holds.claims may.claiming).fewer in
    let enough : length u.mine ≤ wins v.tries = omega (arith, length-append v.mine (e ∷ []), won) in (
      Pass u,
      gives,
      tt,
      (wrote_entry setup s r id v me b e k (wide ∙ sized) has writes fits may).0,
      λ b' before d at is.
          let same : b ≡ b' = same_book b b' more more at in
          let e_is : e ≡ d = last_of v.journal before e d (sym writes ∙ (ap (λ (x : Book). x.entries) same ∙ is)) in
          subst (λ (x : JournalEntry). (l : ComplexView) × (seat u more ≡ seat (committed v x l) more) × Sees (committed v x l) × (length (committed v x l).mine ≤ wins v.tries)) e_is (k, refl, seen, enough),
    )

-- at a seat of which the view is known by an equation
at_seat : (setup : Setup) (n id : ℕ) (m : Seated) (v : PassView) (i : ℕ) (f : ℕ → ℕ) (then : Seated → ℕ → Seated → Type 0) → m.0 ≡ Pass v → Allows (Ruled setup) n id (Pass v, m.1) i f (then (Pass v, m.1)) → Allows (Ruled setup) n id m i f (then m)
at_seat setup n id m v i f then is all = subst (λ (x : View). Allows (Ruled setup) n id (x, m.1) i f (then (x, m.1))) (sym is) all

-- make
pub opens : (setup : Setup) (words : List ℕ) (slots : List Slot) → Opens setup words slots → Ruled setup (opening words slots (opener setup))
opens setup words slots o = (first setup words slots o).0

-- split
pub pass_views : (setup : Setup) (id : ℕ) (m : View) (c : MainView) → m ≡ Main c → length c.back ≤ setup.workers → Splits (Ruled setup) id m (handed m) (given m)
pass_views setup id m c is room = subst (λ (x : View). Splits (Ruled setup) id x (handed x) (given x)) (sym is)
    (λ s r me. subst
    (λ (d : MainView). get_elem? s.views id ≡ some (Main d) → length d.back ≤ setup.workers → Ruled setup record { words = s.words; homes = s.homes; views = set s.views id (Main (one_more_pass d)) ++ Pass (newcomer d.start d.places (length d.back)) ∷ [] })
    (the_main_view setup s r id c me) (λ me' room'. (handed_out setup s r id me' room').0) me room)

-- the first claim of a try, won or refused
pub firsts : (setup : Setup) (n id : ℕ) (m : Seated) (v : PassView) (p w : ℕ) → m.0 ≡ Pass v → 0 < p → p ≤ setup.places → v.worker ≡ w → Empty v → setup.workers < 65536
    → Allows (Ruled setup) n id m p (λ y. either (eqb y 0) w y) (began (step n p 0 w none) m)
firsts setup n id m v p w is pos near worker empty few = at_seat setup n id m v p (λ y. either (eqb y 0) w y) (began (step n p 0 w none)) is (firsts_at setup n id v m.1 p w pos near worker empty few)

-- a later claim of a place from 1
pub claims : (setup : Setup) (n id : ℕ) (m : Seated) (v : PassView) (p w : ℕ) → m.0 ≡ Pass v → 0 < p → p ≤ setup.places → v.worker ≡ w → keeps v p ≡ false → setup.workers < 65536 → v.claiming ≡ true
    → Allows (Ruled setup) n id m p (λ y. either (eqb y 0) w y) (claimed (step n p 0 w none) m)
claims setup n id m v p w is pos near worker free few claiming = at_seat setup n id m v p (λ y. either (eqb y 0) w y) (claimed (step n p 0 w none)) is (claims_at setup n id v m.1 p w pos near worker free few claiming)

-- a claim of place 0
pub fetches : (setup : Setup) (n id : ℕ) (m : Seated) (v : PassView) (w : ℕ) → m.0 ≡ Pass v → v.worker ≡ w → v.has_journal ≡ false → setup.workers < 65536
    → Allows (Ruled setup) n id m 0 (λ y. either (eqb y 0) w y) (fetched (step n 0 0 w none) m)
fetches setup n id m v w is worker free few = at_seat setup n id m v 0 (λ y. either (eqb y 0) w y) (fetched (step n 0 0 w none)) is (fetches_at setup n id v m.1 w worker free few)

-- release of a place from 1
pub releases : (setup : Setup) (n id : ℕ) (m : Seated) (v : PassView) (p : ℕ) (x : VersionedStar) → m.0 ≡ Pass v → m.1 ≡ (p, Home x) ∷ rest m.1 → n ≡ setup.places + 1 → 0 < p → keeps v p ≡ true → item v.items p ≡ some x
    → Allows (Ruled setup) n id m p (λ _. 0) (λ _. released (step n p 0 0 none) m 0)
releases setup n id m v p x is top sized pos has knows = subst (λ (y : Seated). Allows (Ruled setup) n id y p (λ _. 0) (λ _. released (step n p 0 0 none) y 0)) (λ i. (sym is i, sym top i)) (releases_at setup n id v p x (rest m.1) sized pos has knows)

-- release of the journal
pub leaves : (setup : Setup) (n id : ℕ) (m : Seated) (v : PassView) (b : Book) → m.0 ≡ Pass v → m.1 ≡ (0, Journal b) ∷ rest m.1 → n ≡ setup.places + 1 → v.has_journal ≡ true → b.entries ≡ v.journal
    → Allows (Ruled setup) n id m 0 (λ _. 0) (λ _. left (step n 0 0 0 none) m 0)
leaves setup n id m v b is top sized has as_was = subst (λ (y : Seated). Allows (Ruled setup) n id y 0 (λ _. 0) (λ _. left (step n 0 0 0 none) y 0)) (λ i. (sym is i, sym top i)) (leaves_at setup n id v b (rest m.1) sized has as_was)

-- commit
pub commits : (setup : Setup) (n id : ℕ) (m : Seated) (v : PassView) (b : Book) (e : JournalEntry) → m.0 ≡ Pass v → m.1 ≡ (0, Journal b) ∷ rest m.1 → n ≡ setup.places + 1 → v.has_journal ≡ true → b.entries ≡ v.journal ++ e ∷ [] → length b.entries < 2 ^ 64 → Commits setup v e
    → Allows (Ruled setup) n id m 0 (λ _. 0) (λ _. wrote (step n 0 0 0 none) m 0)
commits setup n id m v b e is top sized has writes fits may = subst (λ (y : Seated). Allows (Ruled setup) n id y 0 (λ _. 0) (λ _. wrote (step n 0 0 0 none) y 0)) (λ i. (sym is i, sym top i)) (commits_at setup n id v b e (rest m.1) sized has writes fits may)

-- join
pub gathers : (setup : Setup) (id other : ℕ) (m w : View) (c : MainView) (v : PassView) → m ≡ Main c → w ≡ Pass v → Empty v → Joins (Ruled setup) id m other w (gathered m w) Spent
gathers setup id other m w c v is is' empty = subst (λ (x : View × View). Joins (Ruled setup) id x.0 other x.1 (gathered x.0 x.1) Spent) (λ i. (sym is i, sym is' i))
    (λ s r me apart theirs. subst
    (λ (d : MainView). get_elem? s.views id ≡ some (Main d) → get_elem? s.views other ≡ some (Pass v) → Ruled setup record { words = s.words; homes = s.homes; views = set (set s.views id (Main (one_back d v))) other Spent })
    (the_main_view setup s r id c me) (λ me' was. (taken_back setup s r id other v me' was empty).0) me (sym (set_else s.views id other (Main (one_back c v)) apart) ∙ theirs))

-- ---- a board is closed

all_zero : (words : List ℕ) (n : ℕ) → length words ≡ n → ((p : ℕ) → get_or words p 0 ≡ 0) → words ≡ replicate n 0
all_zero [] zero l h = refl
all_zero [] (suc n) l h = absurd (omega arith)
all_zero (w ∷ ws) zero l h = absurd (omega arith)
all_zero (w ∷ ws) (suc n) l h = λ i. h 0 i ∷ all_zero ws n (omega arith) (λ p. h (suc p)) i

closes_at : (setup : Setup) (id : ℕ) (c : MainView) (words : List ℕ) (slots : List Slot) → AllBack c → Final (Seen (Ruled setup) id (Main c)) words slots → Closes setup c slots
closes_at setup id c words slots back f = record {
  book = record { entries = r.journal; room = j.0 };
  now = r.now;
  closed = record { written = written; past = past };
  journal = f.4 0 (Journal record { entries = r.journal; room = j.0 }) j.1;
  stars = λ p pos near. f.4 p (Home (home_at r.now r.journal p)) (r.housed.stars p pos near (free p));
}
  where
    s : Board
    s = f.0

    r : Ruled setup s
    r = f.1.0

    is : r.main_view ≡ c
    is = the_main_view setup s r id c f.1.1

    -- no pass lives
    nobody : {A : Type 0} (w : ℕ) (v : PassView) → get_elem? s.views w ≡ some (Pass v) → A
    nobody w v at = off (back w living (r.owned.numbers w v at).1 (ap (λ (d : MainView). get_elem? d.back w) (sym is) ∙ r.owned.lives w v at))

    free : (p : ℕ) → get_or s.words p 0 ≡ 0
    free p = dite (ℕ_discrete (get_or s.words p 0) 0) (λ z. z) (λ nz. let t = r.owned.owners p (get_or s.words p 0) refl (omega arith) in nobody (get_or s.words p 0) t.0 t.1)

    j : (room : ℕ) × (get_elem? s.homes 0 ≡ some (some (Journal record { entries = r.journal; room = room })))
    j = r.housed.book (free 0)

    seats : length s.views ≡ length c.back
    seats = sym r.owned.back ∙ ap (λ (d : MainView). length d.back) is

    written : Written setup (replicate (setup.places + 1) 0) (length c.back) r.journal r.now
    written = let n = seats in written_as setup s.words (replicate (setup.places + 1) 0) (length s.views) (length c.back) r.journal r.now (omega arith) r.written

    past : (w : ℕ) (k : Kept) → 0 < w → get_elem? c.back w ≡ some k → Past setup r.journal (length c.back) [] c w k.mine k.tries
    past = tried_closed setup s.words r.journal s.views r.main_view r.owned (tried_of setup s r) id c f.1.1 back

pub closes : (setup : Setup) (id : ℕ) (m : View) (c : MainView) (words : List ℕ) (slots : List Slot) → m ≡ Main c → AllBack c → Final (Seen (Ruled setup) id m) words slots → Closes setup c slots
closes setup id m c words slots is back f = closes_at setup id c words slots back (subst (λ (x : View). Final (Seen (Ruled setup) id x) words slots) is f)

-- ---- what is known of the stars held after each step that tells nothing of them
