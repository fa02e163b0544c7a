-- Sums over rising lists of sets.
use Rattle.std.proofs.Common.{◌≡◌, ℕ, Bool, true, false, not, nat_eq, ◌||◌, ◌&&◌, List, [], ◌∷◌, sym, ◌∙◌, ap, refl, arith, cond}
use Rattle.std.specs.List.{filter}
use Rattle.std.specs.List.Sorted.{IsStrictlySortedBy}
use Rattle.std.specs.Ordering.{match_ordering, is_eq}
use Rattle.std.specs.declared.cmp.Ordering.TheVariants.{Less, Equal, Greater}
use Rattle.std.specs.Cmp.{second_so}
use Rattle.std.specs.Cmp.Derive.{both_true}
use Rattle.std.specs.Cmp.Lexicographic.{pointwise, nat_list_cmp_total}
use Rattle.std.proofs.lemmas.Int.{ints}
use Rattle.std.proofs.lemmas.List.Kept.{IsStrictlySortedBy-filter}
use lib.IntN.{ℤ, pos, ◌+ℤ◌}
use Rattle.complex_core.specs.Labels.{face_cmp}
use Rattle.complex_core.specs.Rising.{rising, put}
use Rattle.complex_core.proofs.Sets.{among, above_head, above_tail, not_among, sorted_rising}
use Rattle.complex_core.proofs.Laws.{both_ways, or_left, or_right, listed, same_set_itself, listed-filter, listed-rising, listed-among, same_lists}
use Rattle.face_counts.specs.Eulers.{total}
use Rattle.complex_core.proofs.SubsetLists.{clash}

-- sums of equal values, two and two
pub total_pairs : (p q r s : List ℕ → ℤ) (xs : List (List ℕ)) → ((f : List ℕ) → listed xs f ≡ true → p f +ℤ q f ≡ r f +ℤ s f) → total p xs +ℤ total q xs ≡ total r xs +ℤ total s xs
total_pairs p q r s [] h = refl
total_pairs p q r s (x ∷ xs) h =
    let e : p x +ℤ q x ≡ r x +ℤ s x = h x (or_left (pointwise nat_eq x x) (listed xs x) (same_set_itself x)) in
    let g : total p xs +ℤ total q xs ≡ total r xs +ℤ total s xs = total_pairs p q r s xs (λ f t. h f (or_right (pointwise nat_eq x f) (listed xs f) t)) in
    omega (arith, ints, e, g)

pub total-filter : (p : List ℕ → Bool) (v : List ℕ → ℤ) (xs : List (List ℕ)) → total v (filter p xs) ≡ total (λ f. cond (p f) (v f) (pos 0)) xs
total-filter p v [] = refl
total-filter p v (x ∷ xs) =
    let g : total v (filter p xs) ≡ total (λ f. cond (p f) (v f) (pos 0)) xs = total-filter p v xs in
    elim (p x) as (λ c. total v (cond c (x ∷ filter p xs) (filter p xs)) ≡ cond c (v x) (pos 0) +ℤ total (λ f. cond (p f) (v f) (pos 0)) xs) [
      | true ↦ ap (λ z. v x +ℤ z) g
      | false ↦ omega (arith, ints, g)
    ]

pub total_split : (p : List ℕ → Bool) (v : List ℕ → ℤ) (xs : List (List ℕ)) → total v xs ≡ total v (filter p xs) +ℤ total v (filter (λ f. not (p f)) xs)
total_split p v [] = refl
total_split p v (x ∷ xs) =
    let g : total v xs ≡ total v (filter p xs) +ℤ total v (filter (λ f. not (p f)) xs) = total_split p v xs in
    elim (p x) as (λ c. v x +ℤ total v xs ≡ total v (cond c (x ∷ filter p xs) (filter p xs)) +ℤ total v (cond (not c) (x ∷ filter (λ f. not (p f)) xs) (filter (λ f. not (p f)) xs))) [
      | true ↦ omega (arith, ints, g)
      | false ↦ omega (arith, ints, g)
    ]

-- a rising list is picked from a longer one
pub total_pick : (v : List ℕ → ℤ) (xs us : List (List ℕ)) → IsStrictlySortedBy face_cmp xs → IsStrictlySortedBy face_cmp us → ((f : List ℕ) → listed xs f ≡ true → listed us f ≡ true) → total v xs ≡ total (λ f. cond (listed xs f) (v f) (pos 0)) us
total_pick v xs us s t h =
    ap (total v) (same_lists xs (filter (listed xs) us) s (IsStrictlySortedBy-filter face_cmp (listed xs) us t) (λ f.
    both_ways (listed xs f) (listed us f && listed xs f) (λ q. both_true (h f q) q) (second_so (listed us f) (listed xs f)) ∙ sym (listed-filter (listed xs) us f)))
    ∙ total-filter (listed xs) v us

-- each set once
abbrev pub Distinct : List (List ℕ) → Type 0
Distinct [] = Unit {0}
Distinct (x ∷ xs) = (listed xs x ≡ false) × Distinct xs

pub distinct_sorted : (xs : List (List ℕ)) → IsStrictlySortedBy face_cmp xs → Distinct xs
distinct_sorted [] s = tt
distinct_sorted (x ∷ xs) s = (sym (listed-among xs x) ∙ not_among nat_list_cmp_total x xs (above_head face_cmp x xs s), distinct_sorted xs (above_tail face_cmp x xs s))

total-put : (v : List ℕ → ℤ) (k : List ℕ) (xs : List (List ℕ)) → among face_cmp k xs ≡ false → total v (put face_cmp k xs) ≡ v k +ℤ total v xs
total-put v k [] n = refl
total-put v k (x ∷ xs) n =
    elim (face_cmp k x) as (λ r. (is_eq r || among face_cmp k xs) ≡ false → total v (match_ordering r (k ∷ x ∷ xs) (x ∷ xs) (x ∷ put face_cmp k xs)) ≡ v k +ℤ (v x +ℤ total v xs)) [
      | Less ↦ λ _. refl
      | Equal ↦ λ e. clash true refl e
      | Greater ↦ λ e. let g : total v (put face_cmp k xs) ≡ v k +ℤ total v xs = total-put v k xs e in omega (arith, ints, g)
    ] n

pub total-rising : (v : List ℕ → ℤ) (xs : List (List ℕ)) → Distinct xs → total v (rising face_cmp xs) ≡ total v xs
total-rising v [] d = refl
total-rising v (x ∷ xs) d = total-put v x (rising face_cmp xs) (listed-among (rising face_cmp xs) x ∙ listed-rising xs x ∙ d.0) ∙ ap (λ z. v x +ℤ z) (total-rising v xs d.1)

pub total_same : (v : List ℕ → ℤ) (xs ys : List (List ℕ)) → Distinct xs → Distinct ys → ((f : List ℕ) → listed xs f ≡ listed ys f) → total v xs ≡ total v ys
total_same v xs ys d e h =
    sym (total-rising v xs d)
    ∙ ap (total v) (same_lists (rising face_cmp xs) (rising face_cmp ys) (sorted_rising nat_list_cmp_total xs) (sorted_rising nat_list_cmp_total ys) (λ f. listed-rising xs f ∙ h f ∙ sym (listed-rising ys f)))
    ∙ total-rising v ys e
