-- The run of a rising list of facets in which all facets lie that contain a set: they begin with a label that isn't above the set's least.
use Rattle.std.proofs.Common.{◌≡◌, ℕ, ◌<◌, ◌≤◌, zero, suc, inl, inr, get_or, true, false, nat_le, cond, ◌||◌, List, [], ◌∷◌, length, take, drop, sym, ◌∙◌, ap, refl, subst, arith}
use Rattle.std.specs.List.{AllByRecursion, AllWithin}
use Rattle.std.specs.List.Sorted.{IsStrictlySortedBy, IsPartitionedBy, IsPartitionPoint}
use Rattle.std.specs.Ordering.{nat_cmp, ordering_then}
use Rattle.std.specs.Cmp.Lexicographic.{slice_cmp}
use Rattle.std.specs.declared.cmp.Ordering.TheVariants.{Less, Equal, Greater}
use Rattle.std.proofs.lemmas.Bool.{cases_lt}
use Rattle.std.proofs.lemmas.Bool.Decides.{nat_tests}
use Rattle.std.proofs.lemmas.List.{take-append-drop}
use Rattle.std.proofs.lemmas.Map.Keys.{Less-from_sorted}
use Rattle.complex_core.specs.Labels.{IsFace, face_cmp, holds}
use Rattle.complex_core.specs.Complexes.{IsFacet, over, is_held}
use Rattle.complex_core.proofs.Sets.{above_tail, sorted_front}
use Rattle.complex_core.proofs.Faces.{less_cmp, equal_cmp}
use Rattle.complex_core.proofs.Subsets.{next_missing}

-- the least label of a face, or 0
abbrev pub least : List ℕ → ℕ
least xs = get_or xs 0 0

least_grows : (f g : List ℕ) → face_cmp f g ≡ Less → least f ≤ least g
least_grows [] g l = omega arith
least_grows (x ∷ xs) [] l = let e : Greater ≡ Less = l in cc
least_grows (x ∷ xs) (y ∷ ys) l =
    elim (nat_cmp x y) as (λ r. nat_cmp x y ≡ r → ordering_then r (slice_cmp nat_cmp xs ys) ≡ Less → x ≤ y) [
      | Less ↦ λ e _. omega (arith, less_cmp x y e)
      | Equal ↦ λ e _. omega (arith, equal_cmp x y e)
      | Greater ↦ λ e g. let t : Greater ≡ Less = g in cc
    ] refl l

lower_passes : (a b s : ℕ) → a ≤ b → nat_le b s ≡ true → nat_le a s ≡ true
lower_passes a b s h t = grind (arith, nat_tests)

parted_by_least : (s : ℕ) (fs : List (List ℕ)) → IsStrictlySortedBy face_cmp fs → IsPartitionedBy (λ f. nat_le (least f) s) fs
parted_by_least s fs rising = λ i j d le lt h. elim (cases_lt i j) [
  | inl below ↦ lower_passes (least (get_or fs i d)) (least (get_or fs j d)) s (least_grows (get_or fs i d) (get_or fs j d) (Less-from_sorted face_cmp fs i j d rising below lt)) h
  | inr not_below ↦ let e : j ≡ i = omega arith in let P : ℕ → Type 0 = λ k. nat_le (least (get_or fs k d)) s ≡ true in subst P e h
]

pub parted_run : (s : ℕ) (fs shown : List (List ℕ)) → shown ≡ fs → IsStrictlySortedBy face_cmp fs → IsPartitionedBy (λ f. nat_le (least f) s) shown
parted_run s fs shown e rising = let P : List (List ℕ) → Type 0 = λ gs. IsStrictlySortedBy face_cmp gs in parted_by_least s shown (subst P (sym e) rising)

missed : (f set : List ℕ) → IsFace f → 0 < length set → nat_le (least f) (least set) ≡ false → holds f set ≡ false
missed f [] face some h = absurd (omega (arith, some))
missed [] (y ∷ ys) face some h = refl
missed (x ∷ xs) (y ∷ ys) face some h = let above : y < x = grind (arith, nat_tests) in next_missing x y xs ys (above_tail nat_cmp 0 (x ∷ xs) face.rising) above

-- what lies behind the run contains the set nowhere
over_cut : (d : ℕ) (fs : List (List ℕ)) (set : List ℕ) (n : ℕ) → AllByRecursion (IsFacet d) fs → 0 < length set → AllWithin (λ f. nat_le (least f) (least set) ≡ false) fs n (length fs) → over (take n fs) set ≡ over fs set
over_cut d [] set zero facets some behind = refl
over_cut d [] set (suc n) facets some behind = refl
over_cut d (f ∷ fs) set zero facets some behind =
    over_cut d fs set zero facets.1 some (λ k e low high. behind (suc k) e (omega arith) (omega arith))
    ∙ sym (ap (λ b. cond b (f ∷ over fs set) (over fs set)) (missed f set facets.0.face some (behind 0 [] (omega arith) (omega arith))))
over_cut d (f ∷ fs) set (suc n) facets some behind =
    ap (λ gs. cond (holds f set) (f ∷ gs) gs) (over_cut d fs set n facets.1 some (λ k e low high. behind (suc k) e (omega arith) (omega arith)))

-- the run up to the position where the least labels exceed the set's
pub over_run : (d : ℕ) (fs shown cut : List (List ℕ)) (set : List ℕ) (s n : ℕ) → shown ≡ fs → cut ≡ fs → s ≡ least set → 0 < length set → AllByRecursion (IsFacet d) fs → IsPartitionPoint (λ f. nat_le (least f) s ≡ true) (λ f. nat_le (least f) s ≡ false) shown n → over (take n cut) set ≡ over fs set
over_run d fs shown cut set s n shows cuts first some facets position =
    let P : List (List ℕ) → ℕ → Type 0 = λ gs m. AllWithin (λ f. nat_le (least f) m ≡ false) gs n (length gs) in
    let behind : P fs (least set) = subst (λ (m : ℕ). P fs m) first (subst (λ (gs : List (List ℕ)). P gs s) shows position.1) in
    ap (λ gs. over (take n gs) set) cuts ∙ over_cut d fs set n facets some behind

pub sorted_run : (fs cut : List (List ℕ)) (n : ℕ) → cut ≡ fs → IsStrictlySortedBy face_cmp fs → IsStrictlySortedBy face_cmp (take n cut)
sorted_run fs cut n e s =
    let P : List (List ℕ) → Type 0 = λ gs. IsStrictlySortedBy face_cmp gs in
    sorted_front face_cmp (take n cut) (drop n cut) (subst P (sym e ∙ sym (take-append-drop n cut)) s)

-- some facet contains the set where one of those does that contain it
pub held_over : (fs : List (List ℕ)) (set : List ℕ) → is_held fs set ≡ is_held (over fs set) set
held_over [] set = refl
held_over (f ∷ fs) set =
    elim (holds f set) as (λ b. holds f set ≡ b → (b || is_held fs set) ≡ is_held (cond b (f ∷ over fs set) (over fs set)) set) [
      | true ↦ λ e. sym (ap (λ b. b || is_held (over fs set) set) e)
      | false ↦ λ _. held_over fs set
    ] refl

pub held_alike : (fs gs : List (List ℕ)) (set : List ℕ) → over fs set ≡ over gs set → is_held fs set ≡ is_held gs set
held_alike fs gs set e = held_over fs set ∙ ap (λ hs. is_held hs set) e ∙ sym (held_over gs set)
