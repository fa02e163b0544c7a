-- One more pair of a map.
use Rattle.std.proofs.Common.{◌≡◌, ◌<◌, ◌∙◌, ◌++◌, ◌∷◌, [], ℕ, zero, suc, Bool, true, false, cond, List, refl, sym, arith, length, take, get_or, nat_eq}
use Rattle.std.specs.List.{list_any}
use Rattle.std.proofs.lemmas.Bool.{true≢false}
use Rattle.std.specs.Cmp.{unsigned_tied}
use Rattle.std.proofs.lemmas.List.Folds.{list_any-append}
use Rattle.complex_core.specs.Maps.{ArePositive, Differ, reaches, takes}
use Rattle.complex_core.specs.MapFaults.{IsFirstTwice}
use Rattle.complex_core.proofs.Laws.{both_false, nat_eq_swap}
use Rattle.cert_text.specs.Lines.{IsSeen}
use Rattle.complex_core.proofs.Pairs.{at_the_end}
use Rattle.complex_core.proofs.Booleans.{left_off, right_off}

-- the numbers seen, with the next pair's
pub seen_more : (side : ℕ × ℕ → ℕ) (ps : List (ℕ × ℕ)) (p : ℕ × ℕ) (old new : ℕ → Bool) → ((x : ℕ) → old x ≡ list_any (λ q. nat_eq (side q) x) ps) → IsSeen old (side p) new
    → (x : ℕ) → new x ≡ list_any (λ q. nat_eq (side q) x) (ps ++ p ∷ [])
seen_more side ps p old new so_far step x =
    step x
    ∙ (λ j. cond (unsigned_tied (side p) x j) true (so_far x j))
    ∙ at_the_end (nat_eq (side p) x) (list_any (λ q. nat_eq (side q) x) ps)
    ∙ sym (list_any-append (λ q. nat_eq (side q) x) ps (p ∷ []))

pub positive_push : (ps : List (ℕ × ℕ)) (p : ℕ × ℕ) → ArePositive ps → (0 < p.0) × (0 < p.1) → ArePositive (ps ++ p ∷ [])
positive_push [] p all is = (is, tt)
positive_push (q ∷ qs) p all is = (all.0, positive_push qs p all.1 is)

-- ---- no pair repeats a number of an earlier one

other : (side : ℕ × ℕ → ℕ) (ps : List (ℕ × ℕ)) (i x : ℕ) (d : ℕ × ℕ) → list_any (λ q. nat_eq (side q) x) ps ≡ false → i < length ps → nat_eq (side (get_or ps i d)) x ≡ false
other side [] i x d none lt = absurd (omega arith)
other side (p ∷ ps) zero x d none lt = left_off (nat_eq (side p) x) (list_any (λ q. nat_eq (side q) x) ps) none
other side (p ∷ ps) (suc i) x d none lt = other side ps i x d (right_off (nat_eq (side p) x) (list_any (λ q. nat_eq (side q) x) ps) none) (omega arith)

pub none_before : (ps : List (ℕ × ℕ)) (i : ℕ) (d : ℕ × ℕ) → Differ ps → i < length ps → (takes (take i ps) (get_or ps i d).0 ≡ false) × (reaches (take i ps) (get_or ps i d).1 ≡ false)
none_before [] i d differ lt = absurd (omega arith)
none_before (p ∷ ps) zero d differ lt = (refl, refl)
none_before (p ∷ ps) (suc i) d differ lt =
    let more = none_before ps i d differ.2 (omega arith) in
    let first = other (λ q. q.0) ps i p.0 d differ.0 (omega arith) in
    let second = other (λ q. q.1) ps i p.1 d differ.1 (omega arith) in (
      both_false (nat_eq_swap p.0 (get_or ps i d).0 ∙ first) more.0,
      both_false (nat_eq_swap p.1 (get_or ps i d).1 ∙ second) more.1,
    )

pub never_twice : (ps : List (ℕ × ℕ)) (offset : ℕ) → Differ ps → IsFirstTwice ps offset → ⊥
never_twice ps offset differ is =
    let none = none_before ps offset (0, 0) differ is.inside in
    true≢false (sym is.there ∙ both_false none.0 none.1)
