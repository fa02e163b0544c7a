-- All legal flips of an index above d/2, best first.
use Rattle.std.proofs.Common.{◌≡◌, ℕ, ◌<◌, ◌≤◌, zero, suc, true, ◌||◌, List, [], ◌∷◌, length, sym, ◌∙◌, ap, refl, subst, arith, get_or, inl, inr}
use Rattle.std.specs.Prelude.{Contains}
use Rattle.std.specs.List.{AllByRecursion}
use Rattle.std.specs.List.Sorted.{IsStrictlySortedBy}
use Rattle.std.specs.Ordering.{nat_cmp, ordering_then, ordering_reverse, is_eq}
use Rattle.std.specs.Cmp.{IsTotalOrder}
use Rattle.std.specs.Cmp.Lexicographic.{nat_list_cmp_total}
use Rattle.std.specs.declared.cmp.Ordering.{Ordering}
use Rattle.std.specs.declared.cmp.Ordering.TheVariants.{Less, Equal, Greater}
use Rattle.std.proofs.lemmas.Cmp.{nat_cmp_total, on_total, then_total, back_total, tied_itself}
use Rattle.std.proofs.lemmas.Bool.Decides.{nat_tests}
use Rattle.complex_core.specs.Labels.{face_cmp}
use Rattle.complex_core.proofs.Sets.{above_head, among, same_members, Above}
use Rattle.complex_core.proofs.Sorting.{exact_faces}
use Rattle.complex_core.proofs.Laws.{both_ways, or_left, or_right}
use Rattle.flip_rules.specs.declared.flip.Flip.{Flip}
use Rattle.descent_laws.specs.Descents.{IsReducing, best_cmp}
use Rattle.descent_laws.specs.Laws.{CandidatesAreOne, FirstIsBest, NoneIsMinimal}
use Rattle.descent_laws.proofs.Reducing.{same_flip}
use Rattle.complex_core.proofs.SubsetLists.{two, clash}

pub best_total : IsTotalOrder best_cmp
best_total = then_total (back_total (on_total (λ (f : Flip). length f.b) nat_cmp_total)) (then_total (on_total (λ (f : Flip). f.a) nat_list_cmp_total) (on_total (λ (f : Flip). f.b) nat_list_cmp_total))

then_first : (p q : Ordering) → ordering_then p q ≡ Equal → p ≡ Equal
then_first Less q h = h
then_first Equal q h = refl
then_first Greater q h = h

then_second : (p q : Ordering) → ordering_then p q ≡ Equal → q ≡ Equal
then_second Less q h = cc
then_second Equal q h = h
then_second Greater q h = cc

pub best_exact : (f g : Flip) → best_cmp f g ≡ Equal → f ≡ g
best_exact f g h =
    let t : ordering_then (face_cmp f.a g.a) (face_cmp f.b g.b) ≡ Equal = then_second (nat_cmp (length g.b) (length f.b)) (ordering_then (face_cmp f.a g.a) (face_cmp f.b g.b)) h in
    same_flip f g (exact_faces f.a g.a (then_first (face_cmp f.a g.a) (face_cmp f.b g.b) t)) (exact_faces f.b g.b (then_second (face_cmp f.a g.a) (face_cmp f.b g.b) t))

pub equal_is : (o : Ordering) → is_eq o ≡ true → o ≡ Equal
equal_is Less h = cc
equal_is Equal h = refl
equal_is Greater h = cc

-- what a list has, as a test
pub among_has : (flips : List Flip) (f : Flip) → Contains flips f → among best_cmp f flips ≡ true
among_has [] f c = absurd (omega (arith, c.1))
among_has (g ∷ gs) f c = at c.0 (among_has gs f) c.1 c.2
  where
    at : (i : ℕ) → (Contains gs f → among best_cmp f gs ≡ true) → i < length (g ∷ gs) → get_or (g ∷ gs) i f ≡ f → among best_cmp f (g ∷ gs) ≡ true
    at zero later l e = or_left (is_eq (best_cmp f g)) (among best_cmp f gs) (ap (λ h. is_eq (best_cmp f h)) e ∙ ap is_eq (tied_itself best_total f))
    at (suc i) later l e = or_right (is_eq (best_cmp f g)) (among best_cmp f gs) (later (i, omega (arith, l), e))

pub each_among : (P : Flip → Type 0) (flips : List Flip) (f : Flip) → AllByRecursion P flips → among best_cmp f flips ≡ true → P f
each_among P [] f a t = clash true refl (sym t)
each_among P (g ∷ gs) f a t = elim (two (is_eq (best_cmp f g))) [
  | inl e ↦ subst P (sym (best_exact f g (equal_is (best_cmp f g) e))) a.0
  | inr e ↦ each_among P gs f a.1 (ap (λ c. c || among best_cmp f gs) (sym e) ∙ t)
]

pub candidates_are_one : CandidatesAreOne
candidates_are_one k fs gs p q = same_members best_total best_exact fs gs p.ordered q.ordered (λ f.
    both_ways (among best_cmp f fs) (among best_cmp f gs)
    (λ t. among_has gs f (q.all f (each_among (IsReducing k) fs f p.reduce t)))
    (λ t. among_has fs f (p.all f (each_among (IsReducing k) gs f q.reduce t))))

-- no member stands before the first
first_least : (f g : Flip) (fs : List Flip) → IsStrictlySortedBy best_cmp (f ∷ fs) → Contains (f ∷ fs) g → best_cmp g f ≡ Less → ⊥
first_least f g fs s c l = each_among (λ h. best_cmp h f ≡ Less → ⊥) (f ∷ fs) g (λ e. clash {P = ⊥} (is_eq (best_cmp f f)) (ap is_eq (tied_itself best_total f)) (ap is_eq e), all fs (above_head best_cmp f fs s)) (among_has (f ∷ fs) g c) l
  where
    all : (hs : List Flip) → Above best_cmp f hs → AllByRecursion (λ h. best_cmp h f ≡ Less → ⊥) hs
    all [] a = tt
    all (h ∷ hs) a = (λ e. let w : Less ≡ Greater = sym e ∙ best_total.antisymm h f ∙ ap ordering_reverse a.0 in cc, all hs a.1)

pub first_is_best : FirstIsBest
first_is_best k f fs c = record {
  reduces = c.reduce.0;
  greatest = λ g r. at_most (length g.b) (length f.b) (λ e. before g r (ap (λ o. ordering_then o (ordering_then (face_cmp g.a f.a) (face_cmp g.b f.b))) e));
  least = λ g r n e. before g r (ap (λ m. ordering_then (nat_cmp (length f.b) m) (ordering_then (face_cmp g.a f.a) (face_cmp g.b f.b))) n ∙ ap (λ o. ordering_then o (ordering_then (face_cmp g.a f.a) (face_cmp g.b f.b))) (tied_itself nat_cmp_total (length f.b)) ∙ ap (λ o. ordering_then o (face_cmp g.b f.b)) e);
}
  where
    before : (g : Flip) → IsReducing k g → best_cmp g f ≡ Less → ⊥
    before g r l = first_least f g fs c.ordered (c.all g r) l

    at_most : (m n : ℕ) → (nat_cmp n m ≡ Less → ⊥) → m ≤ n
    at_most m n h = grind (arith, nat_tests)

pub none_is_minimal : NoneIsMinimal
none_is_minimal k c = record { none = λ f r. absurd (omega (arith, (c.all f r).1)) }
