-- Facts of the named complexes that are computed.
use Rattle.std.proofs.Common.{Result, Ok, Err, IfOk, ◌≡◌, ℕ, zero, suc, ◌+◌, ◌*◌, ◌<◌, ◌≤◌, Bool, true, nat_le, nat_lt, nat_eq, ◌&&◌, List, [], ◌∷◌, length, take, sym, ◌∙◌, ap, refl, subst, arith}
use Rattle.std.specs.List.{AllByRecursion, list_all}
use Rattle.std.specs.List.Sorted.{IsStrictlySortedBy}
use Rattle.std.specs.Ordering.{nat_cmp}
use Rattle.std.specs.Cmp.{first_so, second_so}
use Rattle.std.proofs.lemmas.Bool.Decides.{nat_tests}
use Rattle.complex_core.specs.Labels.{IsFace, face_cmp}
use Rattle.complex_core.specs.Rising.{rising}
use Rattle.complex_core.specs.Maps.{used}
use Rattle.complex_core.specs.ComplexFaults.{CanMake, first_size}
use Rattle.complex_core.proofs.Sets.{above_cons, sorted_none, above_head, above_lower}
use Rattle.complex_core.proofs.Faces.{cmp_less}
use Rattle.complex_core.proofs.Laws.{nat_eq_is}
use Rattle.std.proofs.lemmas.Cmp.{nat_cmp_total}
use Rattle.complex_core.specs.Complexes.{ComplexView}
use Rattle.make_complex.specs.Named.{simplex_facets, cross_facets, labels_to, one_of_each, torus_facets, plane_facets}
use Rattle.complex_core.specs.Subsets.{subsets_of}

-- the dimensions from 1 to 6
pub each_dim : (P : ℕ → Type 0) → P 1 → P 2 → P 3 → P 4 → P 5 → P 6 → (d : ℕ) → 1 ≤ d → d ≤ 6 → P d
each_dim P a b c d e f zero low high = absurd (omega (arith, low))
each_dim P a b c d e f (suc zero) low high = a
each_dim P a b c d e f (suc (suc zero)) low high = b
each_dim P a b c d e f (suc (suc (suc zero))) low high = c
each_dim P a b c d e f (suc (suc (suc (suc zero)))) low high = d
each_dim P a b c d e f (suc (suc (suc (suc (suc zero))))) low high = e
each_dim P a b c d e f (suc (suc (suc (suc (suc (suc zero)))))) low high = f
each_dim P a b c d e f (suc (suc (suc (suc (suc (suc (suc n))))))) low high = absurd (omega (arith, high))

-- ---- sizes

abbrev sized : ℕ → List (List ℕ) → Bool
sized n fs = list_all (λ f. nat_eq (length f) n) fs

all_sized : (n : ℕ) (fs : List (List ℕ)) → sized n fs ≡ true → AllByRecursion (λ f. length f ≡ n) fs
all_sized n [] t = tt
all_sized n (f ∷ fs) t = (nat_eq_is (length f) n (first_so (nat_eq (length f) n) (sized n fs) t), all_sized n fs (second_so (nat_eq (length f) n) (sized n fs) t))

can_make : (n : ℕ) (fs : List (List ℕ)) → 0 < length fs → 0 < n → n < 8 → first_size fs ≡ n → sized n fs ≡ true → CanMake fs
can_make n fs some low high first t = record {
  begins = record { some = some; low = omega (arith, low, first); high = omega (arith, high, first) };
  pure = let P : ℕ → Type 0 = λ m. AllByRecursion (λ f. length f ≡ m) fs in subst P (sym first) (all_sized n fs t);
}

-- these sets are the facets of a complex of dimension d, in some order
pub record AreFacetsOf (d : ℕ) (items facets : List (List ℕ)) : Type 0 where
  pub rise : rising face_cmp items ≡ facets
  pub can : CanMake items
  pub size : first_size items ≡ d + 1

pub simplex_made : (d : ℕ) → 1 ≤ d → d ≤ 6 → AreFacetsOf d (simplex_facets d) (simplex_facets d)
simplex_made = each_dim (λ d. AreFacetsOf d (simplex_facets d) (simplex_facets d))
    (record { rise = refl; can = can_make 2 (simplex_facets 1) (omega arith) (omega arith) (omega arith) refl refl; size = refl })
    (record { rise = refl; can = can_make 3 (simplex_facets 2) (omega arith) (omega arith) (omega arith) refl refl; size = refl })
    (record { rise = refl; can = can_make 4 (simplex_facets 3) (omega arith) (omega arith) (omega arith) refl refl; size = refl })
    (record { rise = refl; can = can_make 5 (simplex_facets 4) (omega arith) (omega arith) (omega arith) refl refl; size = refl })
    (record { rise = refl; can = can_make 6 (simplex_facets 5) (omega arith) (omega arith) (omega arith) refl refl; size = refl })
    (record { rise = refl; can = can_make 7 (simplex_facets 6) (omega arith) (omega arith) (omega arith) refl refl; size = refl })

abbrev pub crossing : ℕ → List (List ℕ)
crossing d = one_of_each (2 * d + 3) (d + 1)

pub cross_made : (d : ℕ) → 1 ≤ d → d ≤ 6 → AreFacetsOf d (crossing d) (cross_facets d)
cross_made = each_dim (λ d. AreFacetsOf d (crossing d) (cross_facets d))
    (record { rise = refl; can = can_make 2 (crossing 1) (omega arith) (omega arith) (omega arith) refl refl; size = refl })
    (record { rise = refl; can = can_make 3 (crossing 2) (omega arith) (omega arith) (omega arith) refl refl; size = refl })
    (record { rise = refl; can = can_make 4 (crossing 3) (omega arith) (omega arith) (omega arith) refl refl; size = refl })
    (record { rise = refl; can = can_make 5 (crossing 4) (omega arith) (omega arith) (omega arith) refl refl; size = refl })
    (record { rise = refl; can = can_make 6 (crossing 5) (omega arith) (omega arith) (omega arith) refl refl; size = refl })
    (record { rise = refl; can = can_make 7 (crossing 6) (omega arith) (omega arith) (omega arith) refl refl; size = refl })

abbrev pub torus_rows : List (List ℕ)
torus_rows =
    (1 ∷ 2 ∷ 4 ∷ []) ∷ (1 ∷ 2 ∷ 6 ∷ []) ∷ (1 ∷ 3 ∷ 4 ∷ []) ∷ (1 ∷ 3 ∷ 7 ∷ []) ∷ (1 ∷ 5 ∷ 6 ∷ []) ∷ (1 ∷ 5 ∷ 7 ∷ []) ∷ (2 ∷ 3 ∷ 5 ∷ []) ∷
    (2 ∷ 3 ∷ 7 ∷ []) ∷ (2 ∷ 4 ∷ 5 ∷ []) ∷ (2 ∷ 6 ∷ 7 ∷ []) ∷ (3 ∷ 4 ∷ 6 ∷ []) ∷ (3 ∷ 5 ∷ 6 ∷ []) ∷ (4 ∷ 5 ∷ 7 ∷ []) ∷ (4 ∷ 6 ∷ 7 ∷ []) ∷ []

pub torus_made : AreFacetsOf 2 torus_rows torus_facets
torus_made = record { rise = refl; can = can_make 3 torus_rows (omega arith) (omega arith) (omega arith) refl refl; size = refl }

pub plane_made : AreFacetsOf 2 plane_facets plane_facets
plane_made = record { rise = refl; can = can_make 3 plane_facets (omega arith) (omega arith) (omega arith) refl refl; size = refl }

-- ---- faces

-- each number is above the one before it
abbrev pub climbs : ℕ → List ℕ → Bool
climbs low [] = true
climbs low (x ∷ xs) = nat_lt low x && climbs x xs

climbs_above : (low : ℕ) (xs : List ℕ) → climbs low xs ≡ true → IsStrictlySortedBy nat_cmp (low ∷ xs)
climbs_above low [] t = above_cons nat_cmp low [] tt (sorted_none nat_cmp)
climbs_above low (x ∷ xs) t =
    let first : nat_lt low x ≡ true = first_so (nat_lt low x) (climbs x xs) t in
    let l = cmp_less low x (grind (arith, nat_tests)) in
    let rest : IsStrictlySortedBy nat_cmp (x ∷ xs) = climbs_above x xs (second_so (nat_lt low x) (climbs x xs) t) in
    above_cons nat_cmp low (x ∷ xs) (l, above_lower nat_cmp_total low x xs l (above_head nat_cmp x xs rest)) rest

abbrev pub is_face_list : List ℕ → Bool
is_face_list xs = nat_le (length xs) 8 && climbs 0 xs

pub face_by : (xs : List ℕ) → is_face_list xs ≡ true → IsFace xs
face_by xs t = let few : nat_le (length xs) 8 ≡ true = first_so (nat_le (length xs) 8) (climbs 0 xs) t in record { few = grind (arith, nat_tests); rising = climbs_above 0 xs (second_so (nat_le (length xs) 8) (climbs 0 xs) t) }

abbrev are_faces : List (List ℕ) → Bool
are_faces fs = list_all is_face_list fs

pub faces_by : (fs : List (List ℕ)) → are_faces fs ≡ true → AllByRecursion IsFace fs
faces_by [] t = tt
faces_by (f ∷ fs) t = (face_by f (first_so (is_face_list f) (are_faces fs) t), faces_by fs (second_so (is_face_list f) (are_faces fs) t))

pub torus_faces : AllByRecursion IsFace torus_rows
torus_faces = faces_by torus_rows refl

pub plane_faces : AllByRecursion IsFace plane_facets
plane_faces = faces_by plane_facets refl

-- ---- the labels of a simplex

abbrev pub eight : List ℕ
eight = 1 ∷ 2 ∷ 3 ∷ 4 ∷ 5 ∷ 6 ∷ 7 ∷ 8 ∷ []

pub record AreLabelsOf (d : ℕ) : Type 0 where
  pub face : IsFace (take (d + 2) eight)
  pub are : take (d + 2) eight ≡ labels_to (d + 2)

pub simplex_labels : (d : ℕ) → 1 ≤ d → d ≤ 6 → AreLabelsOf d
simplex_labels = each_dim AreLabelsOf
    (record { face = face_by (take 3 eight) refl; are = refl })
    (record { face = face_by (take 4 eight) refl; are = refl })
    (record { face = face_by (take 5 eight) refl; are = refl })
    (record { face = face_by (take 6 eight) refl; are = refl })
    (record { face = face_by (take 7 eight) refl; are = refl })
    (record { face = face_by (take 8 eight) refl; are = refl })

pub simplex_is : (d n : ℕ) (face : List ℕ) → 1 ≤ d → d ≤ 6 → face ≡ take (d + 2) eight → n ≡ d + 1 → subsets_of n face ≡ simplex_facets d
simplex_is d n face low high f m = (λ j. subsets_of (m j) (f j)) ∙ ap (subsets_of (d + 1)) (simplex_labels d low high).are

-- ---- for the answers

pub can_on : (d : ℕ) (items facets shown : List (List ℕ)) → AreFacetsOf d items facets → shown ≡ items → CanMake shown
can_on d items facets shown h e = let P : List (List ℕ) → Type 0 = λ fs. CanMake fs in subst P (sym e) h.can

pub size_on : (d : ℕ) (items facets shown : List (List ℕ)) → AreFacetsOf d items facets → shown ≡ items → first_size shown ≡ d + 1
size_on d items facets shown h e = ap first_size e ∙ h.size

pub named_on : {E : Type 0} (d : ℕ) (items facets shown named : List (List ℕ)) (r : Result ComplexView E) → AreFacetsOf d items facets → shown ≡ items → facets ≡ named → IfOk r (λ k. k ≡ record { dim = d; facets = rising face_cmp shown }) → IfOk r (λ k. k ≡ record { dim = d; facets = named })
named_on d items facets shown named (Err e) h is n made = tt
named_on d items facets shown named (Ok k) h is n made = made ∙ (λ j. record { dim = d; facets = (ap (rising face_cmp) is ∙ h.rise ∙ n) j })

-- ---- labels up to 4,096

abbrev pub low_labels : List (List ℕ) → Bool
low_labels fs = list_all (λ x. nat_le x 4096) (used fs)

pub uses_by : (fs : List (List ℕ)) → low_labels fs ≡ true → AllByRecursion (λ x. x ≤ 4096) (used fs)
uses_by fs t = each (used fs) t
  where
    each : (xs : List ℕ) → list_all (λ x. nat_le x 4096) xs ≡ true → AllByRecursion (λ x. x ≤ 4096) xs
    each [] t = tt
    each (x ∷ xs) t = let l : nat_le x 4096 ≡ true = first_so (nat_le x 4096) (list_all (λ y. nat_le y 4096) xs) t in (grind (arith, nat_tests), each xs (second_so (nat_le x 4096) (list_all (λ y. nat_le y 4096) xs) t))
