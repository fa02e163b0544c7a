-- From a list of facets to a complex: sorting, sizes, and what an exchange leaves.
use Rattle.std.proofs.Common.{◌≡◌, ◌≢◌, ℕ, ◌-◌, ◌<◌, ◌≤◌, [], ◌∷◌, length, take, arith, ◌++◌, filter, cond, false, length-append, List, Bool, true, sym, ◌∙◌, ap, subst, nat_eq}
use Rattle.std.specs.List.{dedup, AllByRecursion}
use Rattle.std.specs.List.Sorted.{IsPermutation, IsSorted}
use Rattle.std.specs.Cmp.Lexicographic.{pointwise, nat_list_cmp_total, texts_ties}
use Rattle.std.specs.declared.cmp.Ordering.TheVariants.{Equal}
use Rattle.std.specs.FinSet.{slice_cmp-IsAntisymmetric, nat_cmp-IsAntisymmetric}
use Rattle.complex_core.specs.Labels.{face_cmp, IsFace}
use Rattle.std.proofs.Math.Seq.{take-length}
use Rattle.complex_core.specs.Rising.{rising}
use Rattle.complex_core.specs.Complexes.{IsComplex, IsFacet}
use Rattle.complex_core.specs.ComplexFaults.{CanMake, first_size}
use Rattle.complex_core.proofs.SortAny.{sorted_any}
use Rattle.complex_core.proofs.Sets.{some_rising, sorted_rising, each_rising}

pub exact_faces : (x y : List ℕ) → face_cmp x y ≡ Equal → x ≡ y
exact_faces = slice_cmp-IsAntisymmetric nat_cmp-IsAntisymmetric

pub sorted_sets : (xs ys : List (List ℕ)) → IsPermutation xs ys → IsSorted face_cmp ys → dedup (pointwise nat_eq) ys ≡ rising face_cmp xs
sorted_sets = sorted_any nat_list_cmp_total exact_faces texts_ties

-- sets of one size, as a loop has seen them
abbrev pub Sized : ℕ → List (List ℕ) → Type 0
Sized size ks = AllByRecursion (λ f. IsFace f × (length f ≡ size)) ks

pub all_sized : (size n : ℕ) (ks : List (List ℕ)) → n ≡ length ks → Sized size (take n ks) → Sized size ks
all_sized size n ks e h = let P : List (List ℕ) → Type 0 = λ js. Sized size js in subst P (ap (λ m. take m ks) e ∙ take-length ks) h

facets_from_sized : (size : ℕ) (ks : List (List ℕ)) → 0 < size → Sized size ks → AllByRecursion (IsFacet (size - 1)) ks
facets_from_sized size [] pos h = tt
facets_from_sized size (k ∷ ks) pos h = (record { face = h.0.0; size = omega (arith, h.0.1) }, facets_from_sized size ks pos h.1)

same_sizes : (size : ℕ) (ks : List (List ℕ)) → Sized size ks → AllByRecursion (λ f. length f ≡ size) ks
same_sizes size [] h = tt
same_sizes size (k ∷ ks) h = (h.0.1, same_sizes size ks h.1)

first_sized : (size : ℕ) (ks : List (List ℕ)) → 0 < length ks → Sized size ks → first_size ks ≡ size
first_sized size [] some h = absurd (omega (arith, some))
first_sized size (k ∷ ks) some h = h.0.1

small_sized : (size : ℕ) (ks : List (List ℕ)) → 0 < length ks → Sized size ks → size ≤ 8
small_sized size [] some h = absurd (omega (arith, some))
small_sized size (k ∷ ks) some h = omega (arith, h.0.1, h.0.0.few)

pub made_complex : (size : ℕ) (ks : List (List ℕ)) → 0 < length ks → size ≢ 0 → size ≢ 8 → Sized size ks → IsComplex (record { dim = size - 1; facets = rising face_cmp ks })
made_complex size ks some not_none not_all h = record {
  low = omega (arith, small_sized size ks some h);
  some = some_rising face_cmp ks some;
  rising = sorted_rising nat_list_cmp_total ks;
  pure = each_rising face_cmp (IsFacet (size - 1)) ks (facets_from_sized size ks (omega arith) h);
}

pub can_make : (size : ℕ) (ks : List (List ℕ)) → 0 < length ks → size ≢ 0 → size ≢ 8 → Sized size ks → CanMake ks
can_make size ks some not_none not_all h =
    let e : first_size ks ≡ size = first_sized size ks some h in
    record {
      begins = record { some = some; low = omega arith; high = omega (arith, small_sized size ks some h) };
      pure = let P : ℕ → Type 0 = λ n. AllByRecursion (λ f. length f ≡ n) ks in subst P (sym e) (same_sizes size ks h);
    }

pub each_filter : {K : Type 0} (P : K → Type 0) (p : K → Bool) (xs : List K) → AllByRecursion P xs → AllByRecursion P (filter p xs)
each_filter P p [] h = tt
each_filter P p (x ∷ xs) h = elim (p x) as (λ b. AllByRecursion P (cond b (x ∷ filter p xs) (filter p xs))) [ true ↦ (h.0, each_filter P p xs h.1) | false ↦ each_filter P p xs h.1 ]

pub each_append : {K : Type 0} (P : K → Type 0) (xs ys : List K) → AllByRecursion P xs → AllByRecursion P ys → AllByRecursion P (xs ++ ys)
each_append P [] ys h g = g
each_append P (x ∷ xs) ys h g = (h.0, each_append P xs ys h.1 g)

-- the complex of facets of one size
pub sorted_complex : (d : ℕ) (ks new : List (List ℕ)) → new ≡ rising face_cmp ks → d ≤ 6 → 0 < length ks → AllByRecursion (IsFacet d) ks → IsComplex (record { dim = d; facets = new })
sorted_complex d ks new e low some pure =
    let P : List (List ℕ) → Type 0 = λ fs. IsComplex (record { dim = d; facets = fs }) in
    subst P (sym e) (record {
      low = low;
      some = some_rising face_cmp ks some;
      rising = sorted_rising nat_list_cmp_total ks;
      pure = each_rising face_cmp (IsFacet d) ks pure;
    })

-- a complex after an exchange
pub exchanged : (p : List ℕ → Bool) (d : ℕ) (facets more : List (List ℕ)) → IsComplex (record { dim = d; facets = facets }) → 0 < length more → AllByRecursion (IsFacet d) more → IsComplex (record { dim = d; facets = rising face_cmp (filter p facets ++ more) })
exchanged p d facets more h some pure = record {
  low = h.low;
  some = some_rising face_cmp (filter p facets ++ more) (omega (arith, length-append (filter p facets) more, some));
  rising = sorted_rising nat_list_cmp_total (filter p facets ++ more);
  pure = each_rising face_cmp (IsFacet d) (filter p facets ++ more) (each_append (IsFacet d) (filter p facets) more (each_filter (IsFacet d) p facets h.pure) pure);
}
