-- The labels of a complex, and those of the complex after a flip.
use Rattle.std.proofs.Common.{◌≡◌, ◌≢◌, ℕ, Bool, true, false, not, nat_eq, ◌||◌, ◌&&◌, List, [], ◌∷◌, sym, ◌∙◌, ap, refl, arith, inl, inr}
use Rattle.std.specs.List.{flat_map}
use Rattle.std.specs.List.Sorted.{IsStrictlySortedBy}
use Rattle.std.specs.Ordering.{nat_cmp}
use Rattle.std.specs.Cmp.{first_so, second_so}
use Rattle.std.specs.Cmp.Derive.{both_true}
use Rattle.std.specs.Cmp.Lexicographic.{pointwise}
use Rattle.std.proofs.lemmas.List.Folds.{list_any-append}
use Rattle.complex_core.specs.Labels.{has, holds, without}
use Rattle.complex_core.specs.Complexes.{ComplexView}
use Rattle.complex_core.specs.Maps.{used}
use Rattle.complex_core.proofs.Booleans.{or_none}
use Rattle.complex_core.proofs.Laws.{both_ways, has-union, holds_has, listed, listed-filter, listed-rising, nat_eq_is, nat_eq_same, or_left, or_right, same_set_itself}
use Rattle.complex_core.proofs.Members.{has-rising, in_without, without_has, without_other}
use Rattle.complex_core.proofs.SetLists.{found_set, used_label}
use Rattle.complex_core.proofs.SubsetLists.{two, clash}
use Rattle.flip_rules.specs.Flips.{join_boundary, flipped, Legal}
use Rattle.flip_rules.proofs.Back.{first_label}
use Rattle.flip_rules.proofs.Links.{side, side_of, listed-flipped}
use Rattle.flip_names.proofs.Boundaries.{other_label}
use Rattle.flip_names.proofs.Images.{listed_side}
use Rattle.flip_journal.specs.Carried.{vanishes}

-- a label of the complex is in a facet
pub used_found : (fs : List (List ℕ)) (x : ℕ) → has (used fs) x ≡ true → (f : List ℕ) × (listed fs f ≡ true) × (has f x ≡ true)
used_found fs x t = found_in fs (sym (has-rising (flat_map (λ g. g) fs) x) ∙ t)
  where
    found_in : (fs : List (List ℕ)) → has (flat_map (λ g. g) fs) x ≡ true → (f : List ℕ) × (listed fs f ≡ true) × (has f x ≡ true)
    found_in [] t = let e : false ≡ true = t in cc
    found_in (g ∷ gs) t = elim (two (has g x)) [
      | inl e ↦ (g, or_left (pointwise nat_eq g g) (listed gs g) (same_set_itself g), e)
      | inr e ↦
          let r : (f : List ℕ) × (listed gs f ≡ true) × (has f x ≡ true) = found_in gs (ap (λ c. c || has (flat_map (λ h. h) gs) x) (sym e) ∙ sym (list_any-append (λ y. nat_eq y x) g (flat_map (λ h. h) gs)) ∙ t) in
          (r.0, or_right (pointwise nat_eq g r.0) (listed gs r.0) r.1, r.2)
    ]

-- a label that vanishes is A alone
vanishes_alone : (a : List ℕ) (x : ℕ) → vanishes a x ≡ true → a ≡ x ∷ []
vanishes_alone [] x v = let e : false ≡ true = v in cc
vanishes_alone (y ∷ []) x v = ap (λ z. z ∷ []) (nat_eq_is y x v)
vanishes_alone (y ∷ z ∷ ys) x v = let e : false ≡ true = v in cc

-- a label of A that stays has another one beside it
stays_beside : (a : List ℕ) (x : ℕ) → IsStrictlySortedBy nat_cmp a → has a x ≡ true → vanishes a x ≡ false → (y : ℕ) × (has a y ≡ true) × (x ≢ y)
stays_beside [] x s t v = let e : false ≡ true = t in cc
stays_beside (y ∷ []) x s t v = clash (nat_eq y x || false) t (ap (λ c. c || false) v)
stays_beside (y ∷ z ∷ ys) x s t v = other_label (y ∷ z ∷ ys) x s (omega arith) t

module _ (k : ComplexView) (a b : List ℕ) (l : Legal k a b) (s : IsStrictlySortedBy nat_cmp a) where
  -- the labels of A are labels of the complex
  pub first_used : (x : ℕ) → has a x ≡ true → has (used k.facets) x ≡ true
  first_used x t =
      let q : (g : List ℕ) × (listed k.facets g ≡ true) × (holds g a ≡ true) = found_set (λ g. holds g a) k.facets l.face in
      used_label k.facets q.0 x q.1 (holds_has q.0 a x q.2 t)

  -- a side of B with A is a facet after the flip
  side_used : (x y : ℕ) → has a y ≡ true → has (side b a y) x ≡ true → has (used (flipped k a b).facets) x ≡ true
  side_used x y t u = used_label (flipped k a b).facets (side b a y) x (listed-flipped k a b (side b a y) ∙ or_right (listed k.facets (side b a y) && not (holds (side b a y) a)) (listed (join_boundary b a) (side b a y)) (listed_side [] tt b a y t)) u

  second_used : (x : ℕ) → has b x ≡ true → has (used (flipped k a b).facets) x ≡ true
  second_used x t =
      let y : (y : ℕ) × (has a y ≡ true) = first_label a l.shape.first in
      side_used x y.0 y.1 (has-union b (without a y.0) x ∙ or_left (has b x) (has (without a y.0) x) t)

  -- a label of a facet that contains A and doesn't vanish is there after the flip
  near_used : (g : List ℕ) (x : ℕ) → listed k.facets g ≡ true → holds g a ≡ true → has g x ≡ true → vanishes a x ≡ false → has (used (flipped k a b).facets) x ≡ true
  near_used g x t h u v =
      let there : listed (join_boundary a b) g ≡ true = sym (listed-rising (join_boundary a b) g) ∙ ap (λ fs. listed fs g) (sym l.link) ∙ listed-filter (λ f. holds f a) k.facets g ∙ both_true t h in
      let q : (z : ℕ) × (has b z ≡ true) × (g ≡ side a b z) = side_of a b g there in
      elim (two (has a x)) [
        | inl e ↦
            let o : (y : ℕ) × (has a y ≡ true) × (x ≢ y) = stays_beside a x s e v in
            side_used x o.0 o.1 (has-union b (without a o.0) x ∙ or_right (has b x) (has (without a o.0) x) (in_without a o.0 x e o.2))
        | inr e ↦
            let w : has (without b q.0) x ≡ true = ap (λ c. c || has (without b q.0) x) (sym e) ∙ sym (has-union a (without b q.0) x) ∙ ap (λ f. has f x) (sym q.2) ∙ u in
            second_used x (without_has b q.0 x w)
      ]

  was_used : (x : ℕ) → has (used k.facets) x ≡ true → vanishes a x ≡ false → has (used (flipped k a b).facets) x ≡ true
  was_used x t v =
      let q : (g : List ℕ) × (listed k.facets g ≡ true) × (has g x ≡ true) = used_found k.facets x t in
      elim (two (holds q.0 a)) [
        | inl h ↦ near_used q.0 x q.1 h q.2 v
        | inr h ↦ used_label (flipped k a b).facets q.0 x (listed-flipped k a b q.0 ∙ or_left (listed k.facets q.0 && not (holds q.0 a)) (listed (join_boundary b a) q.0) (both_true q.1 (ap not h))) q.2
      ]

  -- a label of a facet that doesn't contain A stays
  stays_kept : (g : List ℕ) (x : ℕ) → listed k.facets g ≡ true → holds g a ≡ false → has g x ≡ true → vanishes a x ≡ false
  stays_kept g x t h u = elim (two (vanishes a x)) [
    | inl v ↦ clash (holds g a) (ap (holds g) (vanishes_alone a x v) ∙ both_true u refl) h
    | inr v ↦ v
  ]

  -- so does a label of a side of B with A, which is one of A or of B
  stays_side : (x y : ℕ) → has a y ≡ true → has (side b a y) x ≡ true → ((has (used k.facets) x || has b x) && not (vanishes a x)) ≡ true
  stays_side x y t u = elim (two (has b x)) [
    | inl e ↦ both_true (or_right (has (used k.facets) x) (has b x) e) (elim (two (vanishes a x)) [
      | inl v ↦ clash (has b x) e (l.shape.apart x (ap (λ c. has c x) (vanishes_alone a x v) ∙ or_left (nat_eq x x) false (nat_eq_same x)))
      | inr v ↦ ap not v
    ])
    | inr e ↦
        let w : has (without a y) x ≡ true = ap (λ c. c || has (without a y) x) (sym e) ∙ sym (has-union b (without a y) x) ∙ u in
        both_true (or_left (has (used k.facets) x) (has b x) (first_used x (without_has a y x w))) (elim (two (vanishes a x)) [
          | inl v ↦ absurd (without_other a y x w (alone y x (ap (λ c. has c y) (sym (vanishes_alone a x v)) ∙ t)))
          | inr v ↦ ap not v
        ])
  ]
    where
      alone : (y x : ℕ) → has (x ∷ []) y ≡ true → x ≡ y
      alone y x t = elim (two (nat_eq x y)) [ inl e ↦ nat_eq_is x y e | inr e ↦ clash (nat_eq x y || false) t (ap (λ c. c || false) e) ]

  -- after the flip there are those that were there and those of B, less the one that vanishes
  pub labels_after : (x : ℕ) → has (used (flipped k a b).facets) x ≡ ((has (used k.facets) x || has b x) && not (vanishes a x))
  labels_after x = both_ways (has (used (flipped k a b).facets) x) ((has (used k.facets) x || has b x) && not (vanishes a x))
      (λ t.
      let q : (g : List ℕ) × (listed (flipped k a b).facets g ≡ true) × (has g x ≡ true) = used_found (flipped k a b).facets x t in
      let p : ((listed k.facets q.0 && not (holds q.0 a)) || listed (join_boundary b a) q.0) ≡ true = sym (listed-flipped k a b q.0) ∙ q.1 in
      elim (two (listed k.facets q.0 && not (holds q.0 a))) [
        | inl e ↦
            let there : listed k.facets q.0 ≡ true = first_so (listed k.facets q.0) (not (holds q.0 a)) e in
            both_true (or_left (has (used k.facets) x) (has b x) (used_label k.facets q.0 x there q.2)) (ap not (stays_kept q.0 x there (is_off (holds q.0 a) (second_so (listed k.facets q.0) (not (holds q.0 a)) e)) q.2))
        | inr e ↦
            let r : (y : ℕ) × (has a y ≡ true) × (q.0 ≡ side b a y) = side_of b a q.0 (ap (λ c. c || listed (join_boundary b a) q.0) (sym e) ∙ p) in
            stays_side x r.0 r.1 (ap (λ g. has g x) (sym r.2) ∙ q.2)
      ])
      (λ t.
      let v : vanishes a x ≡ false = is_off (vanishes a x) (second_so (has (used k.facets) x || has b x) (not (vanishes a x)) t) in
      elim (two (has b x)) [
        | inl e ↦ second_used x e
        | inr e ↦ was_used x (sym (or_none (has (used k.facets) x)) ∙ ap (λ c. has (used k.facets) x || c) (sym e) ∙ first_so (has (used k.facets) x || has b x) (not (vanishes a x)) t) v
      ])
    where
      is_off : (c : Bool) → not c ≡ true → c ≡ false
      is_off true h = let e : false ≡ true = h in cc
      is_off false h = refl
