-- Whose entries a journal has, with their numbers, and with one entry more.
use Rattle.std.proofs.Common.{◌≡◌, ◌≢◌, ℕ, ◌+◌, ◌<◌, ◌≤◌, eqb, Bool, true, false, cond, ◌&&◌, List, [], ◌∷◌, ◌++◌, map, length, refl, ap, ◌∙◌, subst, arith, eq-eqb, length-append}
use Rattle.std.specs.List.{AllByRecursion}
use Rattle.std.proofs.lemmas.List.{append-nil}
use Rattle.std.proofs.lemmas.List.Elements.{filter-append}
use Rattle.complex_core.specs.Complexes.{ComplexView}
use Rattle.flip_rules.specs.Entries.{JournalEntry}
use Rattle.flip_rules.specs.Journals.{mine, touches}
use Rattle.flip_rules.proofs.Journals.{touches-append}
use Rattle.core_laws.specs.Cores.{of_worker}
use Rattle.core_laws.specs.Serials.{numbers_from}
use Rattle.board_rule.specs.Rule.{IsEntry, Written}
use Rattle.board_rule.specs.declared.setup.Setup.{Setup}
use Rattle.board_rule.proofs.Items.{tested}

-- what holds of each holds of each of them
pub every : {A : Type 0} (P Q : A → Type 0) → ((x : A) → P x → Q x) → (xs : List A) → AllByRecursion P xs → AllByRecursion Q xs
every P Q f [] h = tt
every P Q f (x ∷ xs) h = (f x h.0, every P Q f xs h.1)

abbrev pub is_of : ℕ → ℕ → JournalEntry → Bool
is_of round w e = eqb e.round round && eqb e.worker w

neither : (b : Bool) → b && false ≡ false
neither true = refl
neither false = refl

is_its : (round w : ℕ) (e : JournalEntry) → e.round ≡ round → e.worker ≡ w → is_of round w e ≡ true
is_its round w e r o = ap (λ (b : Bool). b && eqb e.worker w) (eq-eqb e.round round r) ∙ eq-eqb e.worker w o

is_not : (round w : ℕ) (e : JournalEntry) → e.worker ≢ w → is_of round w e ≡ false
is_not round w e ne = tested e.worker w (λ b. eqb e.round round && b ≡ false) (λ y. absurd (ne y)) (λ _. neither (eqb e.round round))

-- one entry more
pub mine_more : (journal : List JournalEntry) (e : JournalEntry) (round w : ℕ) → e.round ≡ round → e.worker ≡ w → mine (journal ++ e ∷ []) round w ≡ mine journal round w ++ e ∷ []
mine_more journal e round w r o = filter-append (is_of round w) journal (e ∷ []) ∙ ap (λ (b : Bool). mine journal round w ++ cond b (e ∷ []) []) (is_its round w e r o)

pub mine_same : (journal : List JournalEntry) (e : JournalEntry) (round w : ℕ) → e.worker ≢ w → mine (journal ++ e ∷ []) round w ≡ mine journal round w
mine_same journal e round w ne = filter-append (is_of round w) journal (e ∷ [])
    ∙ (ap (λ (b : Bool). mine journal round w ++ cond b (e ∷ []) []) (is_not round w e ne) ∙ append-nil (mine journal round w))

pub touches_more : (journal : List JournalEntry) (e : JournalEntry) (p : ℕ) → touches journal p ≤ touches (journal ++ e ∷ []) p
touches_more journal e p = omega (arith, touches-append journal (e ∷ []) p)

-- of a pass that was not handed out there are none
pub mine_none : (journal : List JournalEntry) (round places seats w : ℕ) → AllByRecursion (IsEntry round places seats) journal → seats ≤ w → mine journal round w ≡ []
mine_none [] round places seats w h le = refl
mine_none (e ∷ es) round places seats w h le =
    let high = h.0.high in
    ap (λ (b : Bool). cond b (e ∷ mine es round w) (mine es round w)) (is_not round w e (λ z. omega arith)) ∙ mine_none es round places seats w h.1 le

-- all entries are of one round
mine_all : (journal : List JournalEntry) (round places seats w : ℕ) → AllByRecursion (IsEntry round places seats) journal → mine journal round w ≡ of_worker journal w
mine_all [] round places seats w h = refl
mine_all (e ∷ es) round places seats w h =
    ap (λ (b : Bool). cond (b && eqb e.worker w) (e ∷ mine es round w) (mine es round w)) (eq-eqb e.round round h.0.round_is)
    ∙ ap (λ (l : List JournalEntry). cond (eqb e.worker w) (e ∷ l) l) (mine_all es round places seats w h.1)

-- the number of an entry is how many of them are before it
number_at : (n : ℕ) (xs ys : List JournalEntry) (e : JournalEntry) → map (λ (d : JournalEntry). d.seq) (xs ++ e ∷ ys) ≡ numbers_from n (xs ++ e ∷ ys) → e.seq ≡ n + length xs
number_at n [] ys e h = let s = heads e.seq n _ _ h in omega arith
  where
    heads : (x y : ℕ) (xs ys : List ℕ) → x ∷ xs ≡ y ∷ ys → x ≡ y
    heads x y xs ys e = cc
number_at n (x ∷ xs) ys e h = let s = number_at (n + 1) xs ys e (tails x.seq n _ _ h) in omega arith
  where
    tails : (x y : ℕ) (xs ys : List ℕ) → x ∷ xs ≡ y ∷ ys → xs ≡ ys
    tails x y xs ys e = cc

-- no entry of a pass has the number that comes next
pub no_next : (setup : Setup) (words : List ℕ) (seats : ℕ) (journal : List JournalEntry) (now : ComplexView) (w : ℕ) (before after : List JournalEntry) (e : JournalEntry)
    → Written setup words seats journal now → journal ≡ before ++ e ∷ after → e.worker ≡ w → e.seq < length (mine journal setup.round w)
no_next setup words seats journal now w before after e k is by =
    let all : of_worker journal w ≡ of_worker before w ++ e ∷ of_worker after w =
    ap (λ (l : List JournalEntry). of_worker l w) is
    ∙ (filter-append (λ (d : JournalEntry). eqb d.worker w) before (e ∷ after)
    ∙ ap (λ (b : Bool). of_worker before w ++ cond b (e ∷ of_worker after w) (of_worker after w)) (eq-eqb e.worker w by)) in
    let P : List JournalEntry → Type 0 = λ es. map (λ (d : JournalEntry). d.seq) es ≡ numbers_from 0 es in
    let seq : e.seq ≡ 0 + length (of_worker before w) = number_at 0 (of_worker before w) (of_worker after w) e (subst P all (k.serial.numbered w)) in
    let len : length (mine journal setup.round w) ≡ length (of_worker before w ++ e ∷ of_worker after w) = ap length (mine_all journal setup.round setup.places seats w k.entries ∙ all) in
    omega (arith, len, seq, length-append (of_worker before w) (e ∷ of_worker after w))
