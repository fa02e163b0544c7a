-- Faces that are made of lists and label by label.
use Rattle.std.proofs.Common.{◌≡◌, ℕ, zero, suc, ◌+◌, ◌-◌, ◌<◌, ◌≤◌, List, [], ◌∷◌, ◌++◌, length, map, take, get_or, sym, ◌∙◌, ap, subst, arith}
use Rattle.std.specs.List.{AllByRecursion}
use Rattle.std.specs.List.Sorted.{IsStrictlySortedBy}
use Rattle.std.specs.Ordering.{nat_cmp}
use Rattle.complex_core.specs.Labels.{IsFace, with}
use Rattle.complex_core.specs.FaceFaults.{FaceRefused}
use Rattle.complex_core.specs.declared.face.FaceFault.{FaceFault}
use Rattle.complex_core.specs.declared.face.FaceFault.TheVariants.{TooMany, NotRising}
use Rattle.complex_core.proofs.Sets.{Above, above_cons, above_head, above_tail, sorted_none}
use Rattle.complex_core.proofs.Laws.{length_put_le}
use Rattle.complex_core.proofs.Sorting.{each_append}
use Rattle.stars.proofs.Finding.{each_at}
use Rattle.make_complex.specs.Named.{one_of_each}

above_take : (low n : ℕ) (xs : List ℕ) → Above nat_cmp low xs → Above nat_cmp low (take n xs)
above_take low zero xs a = tt
above_take low (suc n) [] a = tt
above_take low (suc n) (x ∷ xs) a = (a.0, above_take low n xs a.1)

-- a beginning of a rising list rises
rises_take : (low n : ℕ) (xs : List ℕ) → IsStrictlySortedBy nat_cmp (low ∷ xs) → IsStrictlySortedBy nat_cmp (low ∷ take n xs)
rises_take low zero xs s = above_cons nat_cmp low [] tt (sorted_none nat_cmp)
rises_take low (suc n) [] s = s
rises_take low (suc n) (x ∷ xs) s =
    above_cons nat_cmp low (x ∷ take n xs) (above_take low (suc n) (x ∷ xs) (above_head nat_cmp low (x ∷ xs) s)) (rises_take x n xs (above_tail nat_cmp low (x ∷ xs) s))

-- the labels of a face are refused for no reason
pub never_refused : (xs : List ℕ) (e : FaceFault) → IsFace xs → FaceRefused xs e → ⊥
never_refused xs (TooMany n) h r = omega (arith, r.0, r.1, h.few)
never_refused xs (NotRising position) h r = r.1.there (rises_take 0 (position + 1) xs h.rising)

-- ---- one label of each pair

more_labels : (n : ℕ) (fs : List (List ℕ)) (x : ℕ) → AllByRecursion (λ f. length f ≤ n) fs → AllByRecursion (λ f. length f ≤ n + 1) (map (λ f. with f x) fs)
more_labels n [] x h = tt
more_labels n (f ∷ fs) x h = (omega (arith, length_put_le x f, h.0), more_labels n fs x h.1)

sizes_of_each : (sum n : ℕ) → AllByRecursion (λ f. length f ≤ n) (one_of_each sum n)
sizes_of_each sum zero = (omega arith, tt)
sizes_of_each sum (suc n) =
    let e : n + 1 ≡ suc n = omega arith in
    let P : ℕ → Type 0 = λ m. AllByRecursion (λ f. length f ≤ m) (one_of_each sum (suc n)) in
    subst P e (each_append (λ f. length f ≤ n + 1) (map (λ f. with f (n + 1)) (one_of_each sum n)) (map (λ f. with f (sum - (n + 1))) (one_of_each sum n))
    (more_labels n (one_of_each sum n) (n + 1) (sizes_of_each sum n))
    (more_labels n (one_of_each sum n) (sum - (n + 1)) (sizes_of_each sum n)))

at_most : (m n : ℕ) (fs : List (List ℕ)) → m ≤ n → AllByRecursion (λ f. length f ≤ m) fs → AllByRecursion (λ f. length f ≤ n) fs
at_most m n [] l h = tt
at_most m n (f ∷ fs) l h = (omega (arith, l, h.0), at_most m n fs l h.1)

pub few_of_each : (sum n : ℕ) (fs : List (List ℕ)) → fs ≡ one_of_each sum n → n ≤ 7 → AllByRecursion (λ f. length f ≤ 7) fs
few_of_each sum n fs e l = let P : List (List ℕ) → Type 0 = λ gs. AllByRecursion (λ f. length f ≤ 7) gs in subst P (sym e) (at_most n 7 (one_of_each sum n) l (sizes_of_each sum n))

-- one pair more
pub next_pair : (sum n : ℕ) (sets first both : List (List ℕ)) → sets ≡ one_of_each sum n → first ≡ [] ++ map (λ f. with f (n + 1)) sets → both ≡ first ++ map (λ f. with f (sum - (n + 1))) sets → both ≡ one_of_each sum (n + 1)
next_pair sum n sets first both e p q =
    q ∙ ap (λ fs. fs ++ map (λ f. with f (sum - (n + 1))) sets) p ∙ ap (λ fs. ([] ++ map (λ f. with f (n + 1)) fs) ++ map (λ f. with f (sum - (n + 1))) fs) e
    ∙ ap (one_of_each sum) (let s : suc n ≡ n + 1 = omega arith in s)

pub with_fits : (sets : List (List ℕ)) (i : ℕ) (f : List ℕ) (x : ℕ) → AllByRecursion (λ g. length g ≤ 7) sets → i < length sets → f ≡ get_or sets i f → length (with f x) ≤ 8
with_fits sets i f x h l e = let few : length (get_or sets i f) ≤ 7 = each_at (λ g. length g ≤ 7) sets i f h l in omega (arith, length_put_le x f, few, ap length e)
