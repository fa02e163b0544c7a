-- The sets that some facet contains, and the faces.
use Rattle.std.proofs.Common.{◌≡◌, ℕ, ◌+◌, Bool, true, false, not, nat_eq, ◌||◌, ◌&&◌, List, [], ◌∷◌, length, sym, ◌∙◌, ap, refl, arith}
use Rattle.std.specs.List.{flat_map, list_any, filter}
use Rattle.std.specs.List.Sorted.{IsStrictlySortedBy}
use Rattle.std.specs.Ordering.{nat_cmp}
use Rattle.std.specs.Cmp.{first_so, second_so}
use Rattle.std.specs.Cmp.Derive.{both_true}
use Rattle.std.specs.Cmp.Lexicographic.{nat_list_cmp_total}
use Rattle.std.proofs.lemmas.Bool.Decides.{nat_tests}
use Rattle.std.proofs.lemmas.List.Kept.{IsStrictlySortedBy-filter}
use Rattle.complex_core.specs.Labels.{holds, face_cmp}
use Rattle.complex_core.specs.Rising.{rising}
use Rattle.complex_core.specs.Complexes.{IsComplex, ComplexView, is_held}
use Rattle.complex_core.specs.Subsets.{subsets_of}
use Rattle.complex_core.proofs.Sets.{above_tail, sorted_rising}
use Rattle.complex_core.proofs.Laws.{both_ways, nat_eq_same, listed, listed-filter, listed-rising, same_lists, some_listed}
use Rattle.complex_core.proofs.SubsetLists.{Chosen, chosen_is, chosen_from, part_is_face}
use Rattle.face_counts.specs.Faces.{subsets, parts, is_some, faces}
use Rattle.face_counts.specs.Laws.{FacesLaw}
use Rattle.face_counts.proofs.Sizes.{listed-subsets_of, any_both}
use Rattle.complex_core.proofs.SetLists.{listed-flat_map, found_set, pure_at}

-- ---- subsets

-- a set of labels, each of them in xs
pub record Within (xs s : List ℕ) : Type 0 where
  pub rises : IsStrictlySortedBy nat_cmp s
  pub part : holds xs s ≡ true

own_size : (xs s : List ℕ) → listed (subsets_of (length s) xs) s ≡ listed (subsets xs) s
own_size xs s = listed-subsets_of (length s) xs s ∙ ap (λ b. listed (subsets xs) s && b) (nat_eq_same (length s)) ∙ kept (listed (subsets xs) s)
  where
    kept : (b : Bool) → (b && true) ≡ b
    kept true = refl
    kept false = refl

pub subset_is : (xs s : List ℕ) → IsStrictlySortedBy nat_cmp xs → listed (subsets xs) s ≡ true → Within xs s
subset_is xs s r t = let c : Chosen (length s) xs s = chosen_is (length s) xs s r (own_size xs s ∙ t) in record { rises = c.rises; part = c.part }

pub subset_from : (xs s : List ℕ) → IsStrictlySortedBy nat_cmp xs → Within xs s → listed (subsets xs) s ≡ true
subset_from xs s r h = sym (own_size xs s) ∙ chosen_from (length s) xs s r (record { rises = h.rises; part = h.part; size = refl })

-- ---- parts

-- each member is a set
abbrev pub Sets : List (List ℕ) → Type 0
Sets fs = (f : List ℕ) → listed fs f ≡ true → IsStrictlySortedBy nat_cmp f

listed-parts : (fs : List (List ℕ)) (s : List ℕ) → listed (parts fs) s ≡ list_any (λ f. listed (subsets f) s) fs
listed-parts fs s = listed-rising (flat_map subsets fs) s ∙ listed-flat_map subsets fs s

pub part_is : (fs : List (List ℕ)) (s : List ℕ) → Sets fs → listed (parts fs) s ≡ true → IsStrictlySortedBy nat_cmp s × (is_held fs s ≡ true)
part_is fs s h t =
    let p : (f : List ℕ) × (listed fs f ≡ true) × (listed (subsets f) s ≡ true) = found_set (λ f. listed (subsets f) s) fs (sym (listed-parts fs s) ∙ t) in
    let q : Within p.0 s = subset_is p.0 s (h p.0 p.1) p.2 in
    (q.rises, some_listed (λ f. holds f s) fs p.0 p.1 q.part)

pub part_from : (fs : List (List ℕ)) (s : List ℕ) → Sets fs → IsStrictlySortedBy nat_cmp s → is_held fs s ≡ true → listed (parts fs) s ≡ true
part_from fs s h r t =
    let p : (f : List ℕ) × (listed fs f ≡ true) × (holds f s ≡ true) = found_set (λ f. holds f s) fs t in
    listed-parts fs s ∙ some_listed (λ f. listed (subsets f) s) fs p.0 p.1 (subset_from p.0 s (h p.0 p.1) (record { rises = r; part = p.2 }))

-- ---- faces

-- which sets of labels are faces
pub listed-faces : (fs : List (List ℕ)) (s : List ℕ) → Sets fs → IsStrictlySortedBy nat_cmp s → listed (faces fs) s ≡ (is_held fs s && is_some s)
listed-faces fs s h r = listed-filter is_some (parts fs) s ∙ ap (λ c. c && is_some s) (both_ways (listed (parts fs) s) (is_held fs s) (λ t. (part_is fs s h t).1) (part_from fs s h r))

pub face_is : (fs : List (List ℕ)) (s : List ℕ) → Sets fs → listed (faces fs) s ≡ true → IsStrictlySortedBy nat_cmp s × (is_held fs s ≡ true)
face_is fs s h t = part_is fs s h (first_so (listed (parts fs) s) (is_some s) (sym (listed-filter is_some (parts fs) s) ∙ t))

pub faces_rise : (fs : List (List ℕ)) → IsStrictlySortedBy face_cmp (faces fs)
faces_rise fs = IsStrictlySortedBy-filter face_cmp is_some (parts fs) (sorted_rising nat_list_cmp_total (flat_map subsets fs))

pub sets_of : (k : ComplexView) → IsComplex k → Sets k.facets
sets_of k h f t = above_tail nat_cmp 0 f (pure_at k.dim k.facets f h.pure t).face.rising

not_none : (s : List ℕ) → not (nat_eq (length s) 0) ≡ is_some s
not_none [] = refl
not_none (x ∷ s) = let e : nat_eq (length (x ∷ s)) 0 ≡ false = grind (arith, nat_tests) in ap not e

pub faces_law : FacesLaw
faces_law k h = record {
  rise = faces_rise k.facets;
  each = λ s. (
    (λ t.
        let p : IsStrictlySortedBy nat_cmp s × (is_held k.facets s ≡ true) = face_is k.facets s (sets_of k h) t in
        let q : (f : List ℕ) × (listed k.facets f ≡ true) × (holds f s ≡ true) = found_set (λ f. holds f s) k.facets p.1 in
        let z : is_some s ≡ true = second_so (listed (parts k.facets) s) (is_some s) (sym (listed-filter is_some (parts k.facets) s) ∙ t) in
        (part_is_face q.0 s (pure_at k.dim k.facets q.0 h.pure q.1).face p.0 q.2, both_true (not_none s ∙ z) p.1)),
    λ p. listed-faces k.facets s (sets_of k h) (above_tail nat_cmp 0 s p.0.rising)
        ∙ both_true (second_so (not (nat_eq (length s) 0)) (is_held k.facets s) p.1) (sym (not_none s) ∙ first_so (not (nat_eq (length s) 0)) (is_held k.facets s) p.1),
  );
}

-- ---- the faces of one size

drop_some : (a : Bool) (s : List ℕ) (j : ℕ) → ((a && is_some s) && nat_eq (length s) (j + 1)) ≡ (a && nat_eq (length s) (j + 1))
drop_some true [] j = let e : nat_eq (length {A = ℕ} []) (j + 1) ≡ false = grind (arith, nat_tests) in sym e
drop_some true (x ∷ s) j = refl
drop_some false s j = refl

pub sets_of_size : (j : ℕ) (fs : List (List ℕ)) → rising face_cmp (flat_map (subsets_of (j + 1)) fs) ≡ filter (λ s. nat_eq (length s) (j + 1)) (faces fs)
sets_of_size j fs =
    same_lists (rising face_cmp (flat_map (subsets_of (j + 1)) fs)) (filter (λ s. nat_eq (length s) (j + 1)) (faces fs))
    (sorted_rising nat_list_cmp_total (flat_map (subsets_of (j + 1)) fs)) (IsStrictlySortedBy-filter face_cmp (λ s. nat_eq (length s) (j + 1)) (faces fs) (faces_rise fs))
    (λ s.
    listed-rising (flat_map (subsets_of (j + 1)) fs) s
    ∙ listed-flat_map (subsets_of (j + 1)) fs s
    ∙ any_both (λ f. listed (subsets_of (j + 1) f) s) (λ f. listed (subsets f) s) (nat_eq (length s) (j + 1)) fs (λ f. listed-subsets_of (j + 1) f s)
    ∙ sym (listed-filter (λ r. nat_eq (length r) (j + 1)) (faces fs) s
    ∙ ap (λ c. c && nat_eq (length s) (j + 1)) (listed-filter is_some (parts fs) s ∙ ap (λ c. c && is_some s) (listed-parts fs s))
    ∙ drop_some (list_any (λ f. listed (subsets f) s) fs) s j))
