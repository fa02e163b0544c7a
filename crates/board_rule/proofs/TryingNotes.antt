-- What notes tell of beginnings of the journal, after each change.
use Rattle.std.proofs.Common.{◌≡◌, ◌≢◌, ◌⊎◌, ℕ, eqb, Bool, true, false, cond, ◌&&◌, List, [], ◌∷◌, ◌++◌, length, sym, refl, ap, ◌∙◌, subst, inl, inr, ⊎_elim, arith, append_assoc}
use mathlib.Core.Option.{some, some-injective, some-ne-none}
use Rattle.std.specs.List.{AllByRecursion}
use Rattle.std.proofs.lemmas.List.{append-nil}
use Rattle.complex_core.specs.Complexes.{ComplexView}
use Rattle.flip_rules.specs.Entries.{JournalEntry}
use Rattle.flip_rules.specs.Journals.{mine}
use Rattle.board_rule.specs.Items.{item}
use Rattle.board_rule.specs.Tries.{Try, won_try, refused_at, noted_at, at_last, last_with, last_note, last_count}
use Rattle.board_rule.specs.Views.{home_at}
use Rattle.board_rule.specs.Rule.{Written, Knows, FitsAt, Fits, Noted, Claims}
use Rattle.board_rule.specs.declared.setup.Setup.{Setup}
use Rattle.board_rule.specs.Homes.{VersionedStar}
use Rattle.board_rule.specs.declared.view.PassView.{PassView}
use Rattle.board_rule.proofs.Items.{tested, off, item_cons}
use Rattle.board_rule.proofs.TryingEntries.{every, no_next}

-- where an entry of the longer journal stands
pub split_more : (journal before after : List JournalEntry) (e d : JournalEntry) → journal ++ e ∷ [] ≡ before ++ d ∷ after → ((more : List JournalEntry) × (journal ≡ before ++ d ∷ more)) ⊎ ((before ≡ journal) × (d ≡ e))
split_more [] [] [] e d h = inr (refl, cc)
split_more [] [] (a ∷ as') e d h = absurd (cc)
split_more [] (b ∷ []) after e d h = absurd (cc)
split_more [] (b ∷ b₁ ∷ bs) after e d h = absurd (cc)
split_more (x ∷ xs) [] after e d h = let is : x ≡ d = cc in inl (xs, λ i. is i ∷ xs)
split_more (x ∷ xs) (b ∷ bs) after e d h =
    let is : x ≡ b = cc in
    ⊎_elim (λ (t : (more : List JournalEntry) × (xs ≡ bs ++ d ∷ more)). inl (t.0, λ i. is i ∷ t.1 i)) (λ (t : (bs ≡ xs) × (d ≡ e)). inr ((λ i. (sym is) i ∷ t.0 i), t.1)) (split_more xs bs after e d (cc))

fits_longer : (setup : Setup) (journal : List JournalEntry) (e : JournalEntry) (w : ℕ) (t : Try) → Fits setup journal w t → Fits setup (journal ++ e ∷ []) w t
fits_longer setup journal e w t f = record { before = f.before; after = f.after ++ e ∷ []; whole = ap (λ (l : List JournalEntry). l ++ e ∷ []) f.whole ∙ append_assoc f.before f.after (e ∷ []); fits = f.fits }

fits_now : (setup : Setup) (journal : List JournalEntry) (w : ℕ) (t : Try) → FitsAt setup journal w t → Fits setup journal w t
fits_now setup journal w t f = record { before = journal; after = []; whole = sym (append-nil journal); fits = f }

-- no entry of the pass has the number that the note says
abbrev pub NoneYet : List JournalEntry → ℕ → Try → Type 0
NoneYet journal w t = (before after : List JournalEntry) (e : JournalEntry) → journal ≡ before ++ e ∷ after → e.worker ≡ w → e.seq ≢ t.count

pub none_yet : (setup : Setup) (words : List ℕ) (seats : ℕ) (journal : List JournalEntry) (now : ComplexView) (w : ℕ) (t : Try) → Written setup words seats journal now → length (mine journal setup.round w) ≡ t.count → NoneYet journal w t
none_yet setup words seats journal now w t k same before after e is by seq = let l = no_next setup words seats journal now w before after e k is by in omega arith

picks : (n : ℕ) (t u : Try) (ts : List Try) → last_with n (t ∷ ts) ≡ some u → ((t.won ≡ true) × (t.count ≡ n) × (t ≡ u)) ⊎ (last_with n ts ≡ some u)
picks n t u ts h = by t.won refl (tested t.count n (λ b. cond (t.won && b) (some t) (last_with n ts) ≡ some u → ((t.won && b ≡ true) × (t.count ≡ n) × (t ≡ u)) ⊎ (last_with n ts ≡ some u))
    (λ e g. at_yes t.won g e) (λ ne g. inr (at_no t.won g)) h)
  where
    at_yes : (b : Bool) → cond (b && true) (some t) (last_with n ts) ≡ some u → t.count ≡ n → ((b && true ≡ true) × (t.count ≡ n) × (t ≡ u)) ⊎ (last_with n ts ≡ some u)
    at_yes true g e = inl (refl, e, some-injective t u g)
    at_yes false g e = inr g

    at_no : (b : Bool) → cond (b && false) (some t) (last_with n ts) ≡ some u → last_with n ts ≡ some u
    at_no true g = g
    at_no false g = g

    by : (b : Bool) → t.won ≡ b → ((t.won && eqb t.count n ≡ true) × (t.count ≡ n) × (t ≡ u)) ⊎ (last_with n ts ≡ some u) → ((t.won ≡ true) × (t.count ≡ n) × (t ≡ u)) ⊎ (last_with n ts ≡ some u)
    by true is r = ⊎_elim (λ s. inl (is, s.1, s.2)) (λ s. inr s) r
    by false is r = ⊎_elim (λ s. off (sym (ap (λ (b : Bool). b && eqb t.count n) is) ∙ s.0)) (λ s. inr s) r

skips : (n : ℕ) (t : Try) (ts : List Try) → (t.won ≡ false) ⊎ (t.count ≢ n) → last_with n (t ∷ ts) ≡ last_with n ts
skips n t ts (inl h) = ap (λ (b : Bool). cond (b && eqb t.count n) (some t) (last_with n ts)) h
skips n t ts (inr ne) = tested t.count n (λ b. cond (t.won && b) (some t) (last_with n ts) ≡ last_with n ts) (λ e. absurd (ne e)) (λ _. none_of t.won)
  where
    none_of : (b : Bool) → cond (b && false) (some t) (last_with n ts) ≡ last_with n ts
    none_of true = refl
    none_of false = refl

-- the marks of a pass that has none
pub noted_none : (setup : Setup) (journal : List JournalEntry) (w : ℕ) → Noted setup journal w []
noted_none setup journal w = record { fits = tt; last = λ before after e t is by h. absurd (some-ne-none t (sym h)) }

-- a won mark whose note fits the journal as it is
pub noted_new : (setup : Setup) (journal : List JournalEntry) (w : ℕ) (t : Try) (ts : List Try) → FitsAt setup journal w t → NoneYet journal w t → Noted setup journal w ts → Noted setup journal w (t ∷ ts)
noted_new setup journal w t ts f nobody o = record {
  fits = ((λ _. fits_now setup journal w t f), o.fits);
  last = λ before after e u is by h. ⊎_elim (λ s. absurd (nobody before after e is by (sym s.1))) (λ s. o.last before after e u is by s) (picks e.seq t u ts h);
}

-- a lost mark
pub noted_lost : (setup : Setup) (journal : List JournalEntry) (w : ℕ) (t : Try) (ts : List Try) → t.won ≡ false → Noted setup journal w ts → Noted setup journal w (t ∷ ts)
noted_lost setup journal w t ts h o = record { fits = ((λ y. off (sym h ∙ y)), o.fits); last = λ before after e u is by g. o.last before after e u is by (sym (skips e.seq t ts (inl h)) ∙ g) }

noted_tail : (setup : Setup) (journal : List JournalEntry) (w : ℕ) (t : Try) (ts : List Try) → NoneYet journal w t → Noted setup journal w (t ∷ ts) → Noted setup journal w ts
noted_tail setup journal w t ts nobody o = record {
  fits = o.fits.1;
  last = λ before after e u is by h. o.last before after e u is by (skips e.seq t ts (inr (λ z. nobody before after e is by (sym z))) ∙ h);
}

-- the latest note is longer, and no entry has its number yet
pub noted_more : (setup : Setup) (journal : List JournalEntry) (w : ℕ) (p : ℕ) (x : VersionedStar) (t : Try) (ts : List Try)
    → FitsAt setup journal w (noted_at p x t) → NoneYet journal w t → Noted setup journal w (t ∷ ts) → Noted setup journal w (noted_at p x t ∷ ts)
noted_more setup journal w p x t ts f nobody o = noted_new setup journal w (noted_at p x t) ts f nobody (noted_tail setup journal w t ts nobody o)

counted_fits : (setup : Setup) (journal : List JournalEntry) (w p q : ℕ) (t : Try) → FitsAt setup journal w t → FitsAt setup journal w (refused_at p q t)
counted_fits setup journal w p q t f = record { there = f.there; replays = f.replays; items = f.items; count = f.count }

-- only the counts of the latest mark change
pub noted_counted : (setup : Setup) (journal : List JournalEntry) (w p q : ℕ) (ts : List Try) → Noted setup journal w ts → Noted setup journal w (at_last (refused_at p q) ts)
noted_counted setup journal w p q [] o = o
noted_counted setup journal w p q (t ∷ ts) o = record {
  fits = ((λ y. longer (o.fits.0 y)), o.fits.1);
  last = λ before after e u is by h. choose before after e u is by (t.won && eqb t.count e.seq) refl h;
}
  where
    longer : Fits setup journal w t → Fits setup journal w (refused_at p q t)
    longer f = record { before = f.before; after = f.after; whole = f.whole; fits = counted_fits setup f.before w p q t f.fits }

    choose : (before after : List JournalEntry) (e : JournalEntry) (u : Try) → journal ≡ before ++ e ∷ after → e.worker ≡ w → (b : Bool) → t.won && eqb t.count e.seq ≡ b → cond b (some (refused_at p q t)) (last_with e.seq ts) ≡ some u → FitsAt setup before w u
    choose before after e u is by true y h = subst (FitsAt setup before w) (some-injective (refused_at p q t) u h)
        (counted_fits setup before w p q t (o.last before after e t is by (ap (λ (b : Bool). cond b (some t) (last_with e.seq ts)) y)))
    choose before after e u is by false none_so h = o.last before after e u is by (ap (λ (b : Bool). cond b (some t) (last_with e.seq ts)) none_so ∙ h)

all_longer : (setup : Setup) (journal : List JournalEntry) (e : JournalEntry) (w : ℕ) (ts : List Try) → AllByRecursion (λ t. t.won ≡ true → Fits setup journal w t) ts → AllByRecursion (λ t. t.won ≡ true → Fits setup (journal ++ e ∷ []) w t) ts
all_longer setup journal e w ts h = every (λ (t : Try). t.won ≡ true → Fits setup journal w t) (λ (t : Try). t.won ≡ true → Fits setup (journal ++ e ∷ []) w t) (λ t f y. fits_longer setup journal e w t (f y)) ts h

-- a commit of the pass itself
pub noted_commit : (setup : Setup) (journal : List JournalEntry) (e : JournalEntry) (w : ℕ) (t : Try) (ts : List Try) → t.won ≡ true → e.seq ≡ t.count → FitsAt setup journal w t → Noted setup journal w (t ∷ ts) → Noted setup (journal ++ e ∷ []) w (t ∷ ts)
noted_commit setup journal e w t ts y same f o = record {
  fits = all_longer setup journal e w (t ∷ ts) o.fits;
  last = λ before after d u is by h. ⊎_elim (λ s. o.last before s.0 d u s.1 by h)
      (λ s. let seq : d.seq ≡ t.count = ap (λ (x : JournalEntry). x.seq) s.1 ∙ same in
      let u_is : t ≡ u = some-injective t u (sym (here d.seq (sym seq)) ∙ h) in
      subst (λ (x : List JournalEntry × Try). FitsAt setup x.0 w x.1) (λ i. ((sym s.0) i, u_is i)) f)
      (split_more journal before after e d is);
}
  where
    here : (n : ℕ) → t.count ≡ n → last_with n (t ∷ ts) ≡ some t
    here n z = ap (λ (b : Bool). cond (b && eqb t.count n) (some t) (last_with n ts)) y ∙ tested t.count n (λ b. cond (true && b) (some t) (last_with n ts) ≡ some t) (λ _. refl) (λ ne. absurd (ne z))

-- a commit of another pass
pub noted_beside : (setup : Setup) (journal : List JournalEntry) (e : JournalEntry) (w : ℕ) (ts : List Try) → e.worker ≢ w → Noted setup journal w ts → Noted setup (journal ++ e ∷ []) w ts
noted_beside setup journal e w ts ne o = record {
  fits = all_longer setup journal e w ts o.fits;
  last = λ before after d u is by h. ⊎_elim (λ s. o.last before s.0 d u s.1 by h) (λ s. absurd (ne (sym (ap (λ (x : JournalEntry). x.worker) s.1) ∙ by))) (split_more journal before after e d is);
}

-- the note of a claiming pass tells what is so now
pub claiming_items : (setup : Setup) (journal : List JournalEntry) (now : ComplexView) (v : PassView) (t : Try) (ts : List Try) → Knows setup journal now v → Claims v → v.tries ≡ t ∷ ts → (q : ℕ) (y : VersionedStar) → item t.note q ≡ some y → y ≡ home_at now journal q
claiming_items setup journal now v t ts knew c is q y at = (knew.items q y (c.items q ∙ (ap (λ (l : List Try). item (last_note l) q) is ∙ at))).1

pub claiming_count : (setup : Setup) (journal : List JournalEntry) (w : ℕ) (v : PassView) (t : Try) (ts : List Try) → v.mine ≡ mine journal setup.round w → Claims v → v.tries ≡ t ∷ ts → length (mine journal setup.round w) ≡ t.count
claiming_count setup journal w v t ts done c is = ap length (sym done) ∙ (c.count ∙ ap last_count is)

-- so it fits the journal as it is
pub fits_claiming : (setup : Setup) (words : List ℕ) (seats : ℕ) (journal : List JournalEntry) (now : ComplexView) (w : ℕ) (v : PassView) (t : Try) (ts : List Try)
    → Written setup words seats journal now → Knows setup journal now v → v.mine ≡ mine journal setup.round w → Claims v → v.tries ≡ t ∷ ts → FitsAt setup journal w t
fits_claiming setup words seats journal now w v t ts k knew done c is = record { there = now; replays = k.replays; items = claiming_items setup journal now v t ts knew c is; count = claiming_count setup journal w v t ts done c is }

-- and so does the note of a first claim
pub fits_first : (setup : Setup) (words : List ℕ) (seats : ℕ) (journal : List JournalEntry) (now : ComplexView) (w p n : ℕ) (x : VersionedStar) → Written setup words seats journal now → x ≡ home_at now journal p → length (mine journal setup.round w) ≡ n → FitsAt setup journal w (won_try p x n)
fits_first setup words seats journal now w p n x k is count = record {
  there = now;
  replays = k.replays;
  items = λ q y at. ⊎_elim (λ (z : (p ≡ q) × (x ≡ y)). sym z.1 ∙ (is ∙ ap (home_at now journal) z.0)) (λ z. absurd (some-ne-none y (sym z))) (item_cons p q x y [] at);
  count = count;
}

-- and one more item that is so now
pub fits_more : (setup : Setup) (words : List ℕ) (seats : ℕ) (journal : List JournalEntry) (now : ComplexView) (w p : ℕ) (x : VersionedStar) (t : Try)
    → Written setup words seats journal now → x ≡ home_at now journal p → ((q : ℕ) (y : VersionedStar) → item t.note q ≡ some y → y ≡ home_at now journal q) → length (mine journal setup.round w) ≡ t.count → FitsAt setup journal w (noted_at p x t)
fits_more setup words seats journal now w p x t k is all count = record {
  there = now;
  replays = k.replays;
  items = λ q y at. ⊎_elim (λ (z : (p ≡ q) × (x ≡ y)). sym z.1 ∙ (is ∙ ap (home_at now journal) z.0)) (λ z. all q y z) (item_cons p q x y t.note at);
  count = count;
}
