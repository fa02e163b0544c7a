-- The ordered image of one facet determines a map on a strong complex, where the other one is thin.
use Rattle.std.proofs.Common.{◌≡◌, ◌≢◌, ℕ, true, false, cond, nat_eq, ◌||◌, List, [], ◌∷◌, map, sym, ◌∙◌, ap, refl, subst, inl, inr, Option, Some, None, IfSome}
use Rattle.std.specs.Ordering.{nat_cmp, ordering_reverse, ordering_then}
use Rattle.std.specs.Cmp.Lexicographic.{pointwise, slice_cmp, nat_list_cmp_total}
use Rattle.std.specs.declared.cmp.Ordering.TheVariants.{Less, Greater}
use Rattle.std.proofs.lemmas.Cmp.{tied_itself}
use Rattle.complex_core.specs.Labels.{face_cmp, has, with, without}
use Rattle.complex_core.specs.Complexes.{ComplexView, IsComplex, is_facet}
use Rattle.complex_core.specs.Maps.{Differ, at, face_image, takes, used}
use Rattle.complex_core.specs.Rising.{rising}
use Rattle.complex_core.proofs.Laws.{nat_eq_is, nat_eq_same, or_left, or_right, same_set_itself, same_sets_is}
use Rattle.complex_core.proofs.Members.{in_without, with_back, without_has}
use Rattle.complex_core.proofs.SetLists.{neither_less}
use Rattle.complex_core.proofs.SubsetLists.{clash, two}
use Rattle.pseudo_test.specs.Chains.{Linked, Near}
use Rattle.pseudo_test.proofs.Incident.{dropped, set}
use Rattle.facet_iso.specs.Isomorphisms.{IsFit, IsLeastMap, IsOneLeastMap, Takes, least_facet, ordered_image}
use Rattle.facet_iso.specs.Laws.{OneLeastMap, OrderedImageDetermines}
use Rattle.facet_iso.proofs.Mapping.{pairs}
use Rattle.facet_iso.proofs.Neighbours.{Beyond, first_beyond, images_differ, next_beyond, one_beyond}
use Rattle.facet_iso.proofs.Trying.{in_used, least_there, map_alike, maps_alike}

module _ (k l : ComplexView) (m n : List (ℕ × ℕ)) (c : IsComplex k) (d : IsComplex l) (fit : IsFit l) (t : Takes k l m) (u : Takes k l n) where
  -- the maps are one on the labels of a set
  abbrev Agree : List ℕ → Type 0
  Agree f = (x : ℕ) → has f x ≡ true → at m x ≡ at n x

  -- over a ridge to the facet beside one
  beside : (f : List ℕ) (x y : ℕ) → is_facet k.facets f ≡ true → has f x ≡ true → is_facet k.facets (with (without f x) y) ≡ true → (with (without f x) y ≢ f) → Agree f → at m y ≡ at n y
  beside f x y fk fx gk other a =
      let images : face_image n f ≡ face_image m f = ap (rising nat_cmp) (map_alike (at n) (at m) f (λ z v. sym (a z v))) in
      let ridges : without (face_image n f) (at n x) ≡ without (face_image m f) (at m x) = λ i. without (images i) (sym (a x fx) i) in
      let P : List ℕ → Type 0 = λ r. Beyond l.facets r (at n y) in
      sym (one_beyond l (without (face_image m f) (at m x)) (at m x) (at m y) (at n y) d fit.thin (first_beyond k l c m t f x y fk fx gk other) (next_beyond k l c m t f x y fk fx gk other) (subst P ridges (next_beyond k l c n u f x y fk fx gk other)) (images_differ k l c m t f x y fk fx gk other) (λ e. images_differ k l c n u f x y fk fx gk other (e ∙ a x fx)))

  near : (f g : List ℕ) → is_facet k.facets f ≡ true → is_facet k.facets g ≡ true → Near k.facets f g → Agree f → Agree g
  near f g fk gk h a z v = elim (two (pointwise nat_eq f g)) [
    | inl e ↦ a z (ap (λ s. has s z) (same_sets_is f g e) ∙ v)
    | inr e ↦
        let p : (x : ℕ) × (has f x ≡ true) × (h.ridge ≡ without f x) = dropped k c h.ridge f h.is fk h.first in
        let q : (y : ℕ) × (has g y ≡ true) × (h.ridge ≡ without g y) = dropped k c h.ridge g h.is gk h.second in
        let made : with (without f p.0) q.0 ≡ g = ap (λ r. with r q.0) (sym p.2 ∙ q.2) ∙ with_back g q.0 (set k c g gk) q.1 in
        elim (two (nat_eq q.0 z)) [
          | inl w ↦
              let r : at m q.0 ≡ at n q.0 = beside f p.0 q.0 fk p.1 (ap (is_facet k.facets) made ∙ gk) (λ s. clash {P = ⊥} (pointwise nat_eq f g) (ap (pointwise nat_eq f) (sym made ∙ s) ∙ same_set_itself f) e) a in
              let i : q.0 ≡ z = nat_eq_is q.0 z w in ap (at m) (sym i) ∙ r ∙ ap (at n) i
          | inr w ↦ a z (without_has f p.0 z (ap (λ r. has r z) (sym p.2 ∙ q.2) ∙ in_without g q.0 z v (λ i. clash {P = ⊥} (nat_eq q.0 z) (ap (nat_eq q.0) i ∙ nat_eq_same q.0) w)))
        ]
  ]

  along : (f g : List ℕ) (chain : List (List ℕ)) → is_facet k.facets f ≡ true → Linked k.facets f chain g → Agree f → Agree g
  along f g [] fk h a = λ z v. a z (ap (λ s. has s z) h ∙ v)
  along f g (s ∷ chain) fk h a = along s g chain h.0 h.2 (near f s fk h.0 h.1 a)

  pub determined : IsFit k → ordered_image k m ≡ ordered_image k n → (x : ℕ) → has (used k.facets) x ≡ true → at m x ≡ at n x
  determined strong o x v =
      let f : (f : List ℕ) × (is_facet k.facets f ≡ true) × (has f x ≡ true) = in_used k.facets x v in
      let j = strong.strong.joined (least_facet k) f.0 (least_there k c) f.1 in
      along (least_facet k) f.0 j.chain (least_there k c) j.linked (λ z w. maps_alike (at m) (at n) (least_facet k) z o w) x f.2

pub ordered_image_determines : OrderedImageDetermines
ordered_image_determines k l m n c d fk fl t u o x v = determined k l m n c d fl t u fk o x v

-- ---- one least map

-- a map is its first numbers with their images
pairs_own : (m : List (ℕ × ℕ)) → Differ m → m ≡ pairs (at m) (map (λ p. p.0) m)
pairs_own [] d = refl
pairs_own (p ∷ ps) d = λ i. (p.0, here i) ∷ (pairs_own ps d.2 ∙ rest (map (λ q. q.0) ps) d.0 (λ x v. firsts_taken ps x v)) i
  where
    here : p.1 ≡ at (p ∷ ps) p.0
    here = sym (ap (λ b. cond b p.1 (at ps p.0)) (nat_eq_same p.0))

    firsts_taken : (qs : List (ℕ × ℕ)) (x : ℕ) → has (map (λ q. q.0) qs) x ≡ true → takes qs x ≡ true
    firsts_taken [] x v = v
    firsts_taken (q ∷ qs) x v = elim (two (nat_eq q.0 x)) [
      | inl e ↦ or_left (nat_eq q.0 x) (takes qs x) e
      | inr e ↦ or_right (nat_eq q.0 x) (takes qs x) (firsts_taken qs x (sym (ap (λ b. b || has (map (λ r. r.0) qs) x) e) ∙ v))
    ]

    rest : (xs : List ℕ) → takes ps p.0 ≡ false → ((x : ℕ) → has xs x ≡ true → takes ps x ≡ true) → pairs (at ps) xs ≡ pairs (at (p ∷ ps)) xs
    rest [] n f = refl
    rest (x ∷ xs) n f = λ i. (x, same i) ∷ rest xs n (λ y v. f y (or_right (nat_eq x y) (has xs y) v)) i
      where
        same : at ps x ≡ at (p ∷ ps) x
        same = elim (two (nat_eq p.0 x)) [
          | inl e ↦ clash (takes ps x) (f x (or_left (nat_eq x x) (has xs x) (nat_eq_same x))) (ap (takes ps) (sym (nat_eq_is p.0 x e)) ∙ n)
          | inr e ↦ sym (ap (λ b. cond b p.1 (at ps x)) e)
        ]

pairs_alike : (m n : List (ℕ × ℕ)) (xs : List ℕ) → ((x : ℕ) → has xs x ≡ true → at m x ≡ at n x) → pairs (at m) xs ≡ pairs (at n) xs
pairs_alike m n [] f = refl
pairs_alike m n (x ∷ xs) f = λ i. (x, f x (or_left (nat_eq x x) (has xs x) (nat_eq_same x)) i) ∷ pairs_alike m n xs (λ y v. f y (or_right (nat_eq x y) (has xs y) v)) i

-- of two least maps none is less
turned : (f g : List ℕ) → face_cmp f g ≡ Less → face_cmp g f ≡ Greater
turned f g e = nat_list_cmp_total.antisymm g f ∙ ap ordering_reverse e

same_facet : (k l : ComplexView) (m n : List (ℕ × ℕ)) → IsLeastMap k l m → IsLeastMap k l n → face_cmp (face_image m (least_facet k)) (face_image n (least_facet k)) ≡ Less → ⊥
same_facet k l m n a b e = b.least m a.takes (ap (λ o. ordering_then o (slice_cmp nat_cmp (ordered_image k n) (ordered_image k m))) (turned (face_image m (least_facet k)) (face_image n (least_facet k)) e))

same_order : (k l : ComplexView) (m n : List (ℕ × ℕ)) → IsLeastMap k l m → IsLeastMap k l n → face_image m (least_facet k) ≡ face_image n (least_facet k) → face_cmp (ordered_image k m) (ordered_image k n) ≡ Less → ⊥
same_order k l m n a b f e = b.least m a.takes (ap (λ o. ordering_then o (slice_cmp nat_cmp (ordered_image k n) (ordered_image k m))) (ap (face_cmp (face_image n (least_facet k))) f ∙ tied_itself nat_list_cmp_total (face_image n (least_facet k))) ∙ turned (ordered_image k m) (ordered_image k n) e)

pub one_least_map : OneLeastMap
one_least_map k l m n c d fk fl a b =
    let f : face_image m (least_facet k) ≡ face_image n (least_facet k) = neither_less (face_image m (least_facet k)) (face_image n (least_facet k)) (same_facet k l m n a b) (same_facet k l n m b a) in
    let o : ordered_image k m ≡ ordered_image k n = neither_less (ordered_image k m) (ordered_image k n) (same_order k l m n a b f) (same_order k l n m b a (sym f)) in
    pairs_own m a.takes.is_map.differ
    ∙ ap (pairs (at m)) a.labels
    ∙ pairs_alike m n (used k.facets) (determined k l m n c d fl a.takes b.takes fk o)
    ∙ ap (pairs (at n)) (sym b.labels)
    ∙ sym (pairs_own n b.takes.is_map.differ)

-- what was found is the one least map
pub one_found : (k l : ComplexView) (found : Option (List (ℕ × ℕ))) → IsComplex k → IsComplex l → IsFit k → IsFit l → IfSome found (IsLeastMap k l) → IfSome found (IsOneLeastMap k l)
one_found k l (Some m) ck cl fk fl a = λ n b. one_least_map k l n m ck cl fk fl b a
one_found k l None ck cl fk fl a = tt
