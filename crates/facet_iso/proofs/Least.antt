-- The least map over all facets of the second complex.
use Rattle.std.proofs.Common.{zero, suc, ◌≡◌, ℕ, ◌<◌, ◌≤◌, ◌+◌, Bool, true, false, nat_eq, ◌||◌, List, [], ◌∷◌, length, take, get_or, sym, ◌∙◌, ap, refl, subst, arith, inl, inr, Option, Some, None, IfSome, IfNone}
use Rattle.std.specs.List.Sorted.{IsStrictlySortedBy}
use Rattle.std.specs.Ordering.{nat_cmp, ordering_then}
use Rattle.std.specs.declared.cmp.Ordering.TheVariants.{Less, Greater}
use Rattle.std.specs.Cmp.Lexicographic.{pointwise, slice_cmp, nat_list_cmp_total}
use Rattle.std.proofs.lemmas.Cmp.{tied_itself}
use Rattle.std.proofs.lemmas.List.{take_all}
use Rattle.complex_core.specs.Labels.{face_cmp}
use Rattle.complex_core.specs.Complexes.{ComplexView, IsComplex, is_facet}
use Rattle.complex_core.specs.Maps.{face_image}
use Rattle.complex_core.proofs.Sets.{Above, above_head, above_tail}
use Rattle.complex_core.proofs.Laws.{listed-append, or_left, same_sets_is}
use Rattle.complex_core.proofs.Members.{taken_more}
use Rattle.complex_core.proofs.SubsetLists.{clash, two}
use Rattle.facet_iso.specs.Isomorphisms.{IsLeastMap, NoMap, Takes, least_facet, ordered_image}
use Rattle.facet_iso.specs.Searches.{Begins, IsLeastBegun, NoneBegins}
use Rattle.facet_iso.proofs.Images.{facet_to}
use Rattle.facet_iso.proofs.Trying.{least_there}
use Rattle.facet_iso.proofs.Counted.{same_number}

-- a facet of a rising list is before a place, there, or above it
where_facet : (fs : List (List ℕ)) (i : ℕ) (here f : List ℕ) {P : Type 0} → IsStrictlySortedBy face_cmp fs → i < length fs → here ≡ get_or fs i here → is_facet fs f ≡ true → (is_facet (take i fs) f ≡ true → P) → (here ≡ f → P) → (face_cmp here f ≡ Less → P) → P
where_facet [] i here f s l e t before at behind = absurd (omega (arith, l))
where_facet (g ∷ gs) zero here f s l e t before at behind = elim (two (pointwise nat_eq g f)) [
  | inl q ↦ at (e ∙ same_sets_is g f q)
  | inr q ↦ behind (ap (λ h. face_cmp h f) e ∙ above gs (above_head face_cmp g gs s) (sym (ap (λ b. b || is_facet gs f) q) ∙ t))
]
  where
    above : (hs : List (List ℕ)) → Above face_cmp g hs → is_facet hs f ≡ true → face_cmp g f ≡ Less
    above [] a u = clash true refl (sym u)
    above (h ∷ hs) a u = elim (two (pointwise nat_eq h f)) [
      | inl q ↦ ap (face_cmp g) (sym (same_sets_is h f q)) ∙ a.0
      | inr q ↦ above hs a.1 (sym (ap (λ b. b || is_facet hs f) q) ∙ u)
    ]
where_facet (g ∷ gs) (suc i) here f s l e t before at behind = elim (two (pointwise nat_eq g f)) [
  | inl q ↦ before (or_left (pointwise nat_eq g f) (is_facet (take i gs) f) q)
  | inr q ↦ where_facet gs i here f (above_tail face_cmp g gs s) (omega (arith, l)) e (sym (ap (λ b. b || is_facet gs f) q) ∙ t) (λ u. before (ap (λ b. b || is_facet (take i gs) f) q ∙ u)) at behind
]

-- no map leads to one of these facets
abbrev pub NoneTo : ComplexView → ComplexView → List (List ℕ) → Type 0
NoneTo k l facets = (f : List ℕ) → is_facet facets f ≡ true → NoneBegins k l f []

module _ (k l : ComplexView) (c : IsComplex k) (d : IsComplex l) where
  -- every map begins at the facet that the least facet becomes
  begins : (m : List (ℕ × ℕ)) → Takes k l m → (facet : List ℕ) → facet ≡ face_image m (least_facet k) → Begins k l facet [] m
  begins m t facet e = record { takes = t; onto = sym e; rest = ordered_image k m; order = refl }

  reached : (m : List (ℕ × ℕ)) → Takes k l m → is_facet l.facets (face_image m (least_facet k)) ≡ true
  reached m t = facet_to k l m t (least_facet k) (least_there k c)

  pub none_more : (fs : List (List ℕ)) (i : ℕ) (here : List ℕ) → i < length fs → here ≡ get_or fs i here → NoneTo k l (take i fs) → NoneBegins k l here [] → NoneTo k l (take (i + 1) fs)
  none_more fs i here b e n h f t = elim (two (is_facet (take i fs) f)) [
    | inl q ↦ n f q
    | inr q ↦
        let parts : (is_facet (take i fs) f || (pointwise nat_eq here f || false)) ≡ true = sym (listed-append (take i fs) (here ∷ []) f) ∙ ap (λ gs. is_facet gs f) (sym (taken_more fs i here b e)) ∙ t in
        let P : List ℕ → Type 0 = λ x. NoneBegins k l x [] in
        subst P (same_sets_is here f (last (pointwise nat_eq here f) (sym (ap (λ c. c || (pointwise nat_eq here f || false)) q) ∙ parts))) h
  ]
    where
      last : (c : Bool) → (c || false) ≡ true → c ≡ true
      last true u = refl
      last false u = u

  pub none_at_all : (shown : List (List ℕ)) (i : ℕ) → shown ≡ l.facets → length shown ≤ i → NoneTo k l (take i shown) → NoMap k l
  none_at_all shown i e b n m t = n (face_image m (least_facet k)) (ap (λ fs. is_facet fs (face_image m (least_facet k))) (take_all i shown b ∙ e) ∙ reached m t) m (begins m t (face_image m (least_facet k)) refl)

  pub least_at_all : (shown : List (List ℕ)) (i : ℕ) (here : List ℕ) (m : List (ℕ × ℕ)) → shown ≡ l.facets → i < length shown → here ≡ get_or shown i here → NoneTo k l (take i shown) → IsLeastBegun k l here [] m → IsLeastMap k l m
  least_at_all shown i here m e b at n a = record {
    takes = a.begins.takes;
    labels = a.labels;
    least = λ p t g.
        let fm : face_image m (least_facet k) ≡ here = a.begins.onto in
        let fp : List ℕ = face_image p (least_facet k) in
        let P : List (List ℕ) → Type 0 = λ fs. IsStrictlySortedBy face_cmp fs in
        where_facet shown i here fp {P = ⊥} (subst P (sym e) d.rising) b at (ap (λ fs. is_facet fs fp) e ∙ reached p t)
        (λ u. n fp u p (begins p t fp refl))
        (λ u. a.least p (begins p t here u) (sym (ap (λ o. ordering_then o (slice_cmp nat_cmp (ordered_image k m) (ordered_image k p))) (ap (λ f. face_cmp f fp) (fm ∙ u) ∙ tied_itself nat_list_cmp_total fp)) ∙ g))
        (λ u. let q : Less ≡ Greater = sym (ap (λ o. ordering_then o (slice_cmp nat_cmp (ordered_image k m) (ordered_image k p))) (ap (λ f. face_cmp f fp) fm ∙ u)) ∙ g in cc);
  }

  -- what no map does
  pub other_dim : (k.dim ≡ l.dim → ⊥) → NoMap k l
  other_dim n m t = n (ap (λ x. x.dim) t.image)

  pub other_number : (length k.facets ≡ length l.facets → ⊥) → NoMap k l
  other_number n m t = n (same_number k l c m t)

  -- what a search from no labels found
  module _ (here order : List ℕ) (o : Option (List (ℕ × ℕ))) (e : order ≡ []) where
    pub when_least : (m : List (ℕ × ℕ)) → IfSome o (IsLeastBegun k l here order) → o ≡ Some m → IsLeastBegun k l here [] m
    when_least m f q = let P : List ℕ → Type 0 = λ xs. IfSome o (IsLeastBegun k l here xs) in let Q : Option (List (ℕ × ℕ)) → Type 0 = λ p. IfSome p (IsLeastBegun k l here []) in subst Q q (subst P e f)

    pub when_none : IfNone o (NoneBegins k l here order) → o ≡ None → NoneBegins k l here []
    when_none f q = let P : List ℕ → Type 0 = λ xs. IfNone o (NoneBegins k l here xs) in let Q : Option (List (ℕ × ℕ)) → Type 0 = λ p. IfNone p (NoneBegins k l here []) in subst Q q (subst P e f)

    pub still_none : (now : List ℕ) → IfNone o (now ≡ order) → o ≡ None → now ≡ []
    still_none now f q = let Q : Option (List (ℕ × ℕ)) → Type 0 = λ p. IfNone p (now ≡ order) in subst Q q f ∙ e
