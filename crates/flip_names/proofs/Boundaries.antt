-- A boundary of a simplex is one under each naming of its labels.
use Rattle.std.proofs.Common.{◌≡◌, ◌≢◌, ℕ, ◌≤◌, ◌<◌, true, nat_eq, List, [], ◌∷◌, length, map, sym, ◌∙◌, ap, refl, arith, inl, inr, subst}
use Rattle.std.specs.List.Sorted.{IsStrictlySortedBy}
use Rattle.std.specs.Ordering.{nat_cmp}
use Rattle.complex_core.specs.Labels.{has, union, without, face_cmp}
use Rattle.complex_core.specs.Rising.{rising}
use Rattle.complex_core.specs.Complexes.{ComplexView}
use Rattle.complex_core.specs.Maps.{Differ, ArePositive, takes, face_image, image, takes_all, renamed}
use Rattle.complex_core.proofs.Sets.{above_head, above_tail}
use Rattle.complex_core.proofs.Faces.{less_cmp}
use Rattle.complex_core.proofs.Laws.{each_has, listed, listed-rising, nat_eq_is, nat_eq_same, or_left, or_right, sorted_without, union_none}
use Rattle.complex_core.proofs.SubsetLists.{two, clash}
use Rattle.flip_rules.specs.Flips.{join_boundary}
use Rattle.flip_rules.specs.Boundaries.{IsBoundaryOf, IsBoundary}
use Rattle.flip_names.specs.Laws.{Renames, map_back, BoundaryIsKept}
use Rattle.flip_names.proofs.Images.{Taken, image_rises, image-rising, length-image, listed_side, join_boundary-image, taken_set}
use Rattle.flip_names.proofs.Back.{renamed_back, renames_back}
use Rattle.flip_names.proofs.Faces.{image_rising}
use Rattle.complex_core.proofs.Members.{in_without, passes_has}

-- of two labels or more there is another one
pub other_label : (w : List ℕ) (x : ℕ) → IsStrictlySortedBy nat_cmp w → 2 ≤ length w → has w x ≡ true → (y : ℕ) × (has w y ≡ true) × (x ≢ y)
other_label [] x s n t = absurd (omega (arith, n))
other_label (y ∷ []) x s n t = absurd (omega (arith, n))
other_label (y ∷ z ∷ w) x s n t = elim (two (nat_eq y x)) [
  | inl e ↦ (
    z,
    or_right (nat_eq y z) (has (z ∷ w) z) (or_left (nat_eq z z) (has w z) (nat_eq_same z)),
    λ q.
        let l : y < z = less_cmp y z (above_head nat_cmp y (z ∷ w) s).0 in
        let p : y ≡ x = nat_eq_is y x e in
        absurd (omega (arith, l, p, q)),
  )
  | inr e ↦ (y, or_left (nat_eq y y) (has (z ∷ w) y) (nat_eq_same y), λ q. clash {P = ⊥} (nat_eq y x) (ap (nat_eq y) q ∙ nat_eq_same y) e)
]

-- a set less one of its labels, as a side of a flip whose A is empty
plain_sides : (w c : List ℕ) → IsStrictlySortedBy nat_cmp w → map (λ x. without w x) c ≡ map (λ x. union [] (without w x)) c
plain_sides w [] s = refl
plain_sides w (x ∷ c) s = λ i. sym (union_none (without w x) (sorted_without w x s)) i ∷ plain_sides w c s i

module _ (m : List (ℕ × ℕ)) (k : ComplexView) (d : Differ m) (p : ArePositive m) (all : takes_all m k.facets ≡ true) (w : List ℕ) (b : IsBoundaryOf k w) where
  rises : IsStrictlySortedBy nat_cmp w
  rises = above_tail nat_cmp 0 w b.rises

  facets_are : k.facets ≡ rising face_cmp (join_boundary [] w)
  facets_are = b.all ∙ ap (rising face_cmp) (plain_sides w w rises)

  -- each label of the simplex is in a facet
  labels_taken : Taken m w
  labels_taken = each_has (takes m) w (λ x t.
      let o : (y : ℕ) × (has w y ≡ true) × (x ≢ y) = other_label w x rises (omega (arith, b.many)) t in
      let f : List ℕ = union [] (without w o.0) in
      let there : listed k.facets f ≡ true = ap (λ fs. listed fs f) facets_are ∙ listed-rising (join_boundary [] w) f ∙ listed_side m d [] w o.0 o.1 in
      passes_has (takes m) f x (taken_set m d k.facets all f there) (ap (λ g. has g x) (union_none (without w o.0) (sorted_without w o.0 rises)) ∙ in_without w o.0 x t o.2))

  image_is_boundary : IsBoundaryOf (renamed k m) (face_image m w)
  image_is_boundary = record {
    rises = image_rising m w p labels_taken;
    many = length-image m d w rises labels_taken ∙ b.many;
    all = ap (image m) facets_are
        ∙ image-rising m (join_boundary [] w)
        ∙ sym (join_boundary-image m d [] w labels_taken)
        ∙ ap (rising face_cmp) (sym (plain_sides (face_image m w) (face_image m w) (image_rises m w)));
  }

pub boundary_is_kept : BoundaryIsKept
boundary_is_kept m k r =
    let back : Renames (map_back m) (renamed k m) = renames_back m k r in
    let P : ComplexView → Type 0 = λ l. IsBoundary l in (
      λ b. (face_image m b.0, image_is_boundary m k r.is_map.differ r.is_map.positive r.taken b.0 b.1),
      λ b. subst P (renamed_back m k r) (face_image (map_back m) b.0, image_is_boundary (map_back m) (renamed k m) back.is_map.differ back.is_map.positive back.taken b.0 b.1),
    )
