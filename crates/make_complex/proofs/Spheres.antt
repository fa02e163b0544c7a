-- The named spheres: flips lead from the boundary of a cross polytope to the boundary of a simplex.
use Rattle.std.proofs.Common.{Some, ◌≡◌, ℕ, ◌+◌, ◌≤◌, Bool, true, List, [], ◌∷◌, length, sym, refl, subst, ◌&&◌}
use Rattle.std.specs.List.{AllByRecursion, list_all}
use Rattle.std.specs.Cmp.{first_so, second_so}
use Rattle.complex_core.specs.Complexes.{ComplexView, IsComplex}
use Rattle.flip_rules.specs.Flips.{OfFaces, replay}
use Rattle.flip_rules.specs.Boundaries.{IsBoundary}
use Rattle.flip_rules.specs.declared.flip.Flip.{Flip}
use Rattle.flip_laws.specs.Obstacles.{LooksLikeSphere}
use Rattle.flip_laws.proofs.Reaching.{boundary_looks, reaching_looks}
use Rattle.flip_laws.proofs.Simplices.{simplex_boundary}
use Rattle.make_complex.specs.declared.kind.Kind.TheVariants.{Simplex, Cross}
use Rattle.make_complex.specs.Named.{labels_to, named_complex}
use Rattle.make_complex.proofs.Computed.{each_dim, face_by, is_face_list}

abbrev flip : List ℕ → List ℕ → Flip
flip a b = record { a = a; b = b }

abbrev of_faces : List Flip → Bool
of_faces flips = list_all (λ f. is_face_list f.a && is_face_list f.b) flips

faces_of : (flips : List Flip) → of_faces flips ≡ true → AllByRecursion OfFaces flips
faces_of [] t = tt
faces_of (f ∷ flips) t =
    let here : (is_face_list f.a && is_face_list f.b) ≡ true = first_so (is_face_list f.a && is_face_list f.b) (of_faces flips) t in
    (record { first = face_by f.a (first_so (is_face_list f.a) (is_face_list f.b) here); second = face_by f.b (second_so (is_face_list f.a) (is_face_list f.b) here) }, faces_of flips (second_so (is_face_list f.a && is_face_list f.b) (of_faces flips) t))

-- the boundary of the simplex of these labels
abbrev simplex_on : ℕ → List ℕ → ComplexView
simplex_on d labels = record { dim = d; facets = simplex_boundary labels }

is_boundary : (d : ℕ) (labels : List ℕ) → is_face_list labels ≡ true → length labels ≡ d + 2 → IsBoundary (simplex_on d labels)
is_boundary d labels t n = (labels, record { rises = (face_by labels t).rising; many = n; all = refl })

simplex_looks : (d : ℕ) → is_face_list (labels_to (d + 2)) ≡ true → length (labels_to (d + 2)) ≡ d + 2 → named_complex Simplex d ≡ simplex_on d (labels_to (d + 2)) → LooksLikeSphere (named_complex Simplex d)
simplex_looks d t n e = let P : ComplexView → Type 0 = λ k. LooksLikeSphere k in subst P (sym e) (boundary_looks (simplex_on d (labels_to (d + 2))) (is_boundary d (labels_to (d + 2)) t n))

pub simplex_sphere : (d : ℕ) → 1 ≤ d → d ≤ 6 → LooksLikeSphere (named_complex Simplex d)
simplex_sphere = each_dim (λ d. LooksLikeSphere (named_complex Simplex d))
    (simplex_looks 1 refl refl refl)
    (simplex_looks 2 refl refl refl)
    (simplex_looks 3 refl refl refl)
    (simplex_looks 4 refl refl refl)
    (simplex_looks 5 refl refl refl)
    (simplex_looks 6 refl refl refl)

cross_looks : (d : ℕ) (labels : List ℕ) (flips : List Flip) → is_face_list labels ≡ true → length labels ≡ d + 2 → of_faces flips ≡ true → replay (named_complex Cross d) flips ≡ Some (simplex_on d labels) → IsComplex (named_complex Cross d) → LooksLikeSphere (named_complex Cross d)
cross_looks d labels flips t n f r h = reaching_looks (named_complex Cross d) flips h (faces_of flips f) (record { end = simplex_on d labels; replays = r; boundary = is_boundary d labels t n })

abbrev cross_flips_1 : List Flip
cross_flips_1 =
    flip (4 ∷ []) (2 ∷ 3 ∷ []) ∷ []

abbrev cross_flips_2 : List Flip
cross_flips_2 =
    flip (4 ∷ 5 ∷ []) (1 ∷ 6 ∷ []) ∷ flip (4 ∷ []) (1 ∷ 2 ∷ 6 ∷ []) ∷
    flip (5 ∷ []) (1 ∷ 3 ∷ 6 ∷ []) ∷ []

abbrev cross_flips_3 : List Flip
cross_flips_3 =
    flip (5 ∷ 7 ∷ 8 ∷ []) (3 ∷ 6 ∷ []) ∷ flip (5 ∷ 7 ∷ []) (1 ∷ 3 ∷ 6 ∷ []) ∷
    flip (1 ∷ 7 ∷ []) (3 ∷ 4 ∷ 6 ∷ []) ∷ flip (7 ∷ []) (3 ∷ 4 ∷ 6 ∷ 8 ∷ []) ∷
    flip (4 ∷ 8 ∷ []) (2 ∷ 3 ∷ 6 ∷ []) ∷ flip (8 ∷ []) (2 ∷ 3 ∷ 5 ∷ 6 ∷ []) ∷
    flip (5 ∷ []) (1 ∷ 2 ∷ 3 ∷ 6 ∷ []) ∷ []

abbrev cross_flips_4 : List Flip
cross_flips_4 =
    flip (1 ∷ 2 ∷ 3 ∷ 7 ∷ []) (5 ∷ 6 ∷ []) ∷ flip (1 ∷ 2 ∷ 7 ∷ []) (5 ∷ 6 ∷ 8 ∷ []) ∷
    flip (2 ∷ 3 ∷ 7 ∷ []) (5 ∷ 6 ∷ 10 ∷ []) ∷ flip (2 ∷ 7 ∷ []) (5 ∷ 6 ∷ 8 ∷ 10 ∷ []) ∷
    flip (1 ∷ 3 ∷ 7 ∷ []) (5 ∷ 6 ∷ 9 ∷ []) ∷ flip (1 ∷ 7 ∷ []) (5 ∷ 6 ∷ 8 ∷ 9 ∷ []) ∷
    flip (7 ∷ 8 ∷ []) (5 ∷ 6 ∷ 9 ∷ 10 ∷ []) ∷ flip (7 ∷ []) (3 ∷ 5 ∷ 6 ∷ 9 ∷ 10 ∷ []) ∷
    flip (1 ∷ 3 ∷ 9 ∷ []) (4 ∷ 5 ∷ 6 ∷ []) ∷ flip (3 ∷ 9 ∷ []) (4 ∷ 5 ∷ 6 ∷ 10 ∷ []) ∷
    flip (1 ∷ 9 ∷ []) (4 ∷ 5 ∷ 6 ∷ 8 ∷ []) ∷ flip (9 ∷ []) (4 ∷ 5 ∷ 6 ∷ 8 ∷ 10 ∷ []) ∷
    flip (1 ∷ 3 ∷ []) (2 ∷ 4 ∷ 5 ∷ 6 ∷ []) ∷ flip (1 ∷ []) (2 ∷ 4 ∷ 5 ∷ 6 ∷ 8 ∷ []) ∷
    flip (8 ∷ []) (2 ∷ 4 ∷ 5 ∷ 6 ∷ 10 ∷ []) ∷ []

abbrev cross_flips_5 : List Flip
cross_flips_5 =
    flip (3 ∷ 4 ∷ 7 ∷ 11 ∷ 12 ∷ []) (5 ∷ 8 ∷ []) ∷ flip (3 ∷ 7 ∷ 11 ∷ 12 ∷ []) (5 ∷ 8 ∷ 9 ∷ []) ∷
    flip (3 ∷ 7 ∷ 9 ∷ 11 ∷ []) (1 ∷ 5 ∷ 8 ∷ []) ∷ flip (3 ∷ 7 ∷ 11 ∷ []) (1 ∷ 4 ∷ 5 ∷ 8 ∷ []) ∷
    flip (3 ∷ 7 ∷ 9 ∷ 12 ∷ []) (2 ∷ 5 ∷ 8 ∷ []) ∷ flip (3 ∷ 7 ∷ 12 ∷ []) (2 ∷ 4 ∷ 5 ∷ 8 ∷ []) ∷
    flip (3 ∷ 4 ∷ 7 ∷ []) (1 ∷ 2 ∷ 5 ∷ 8 ∷ []) ∷ flip (3 ∷ 7 ∷ []) (1 ∷ 2 ∷ 5 ∷ 8 ∷ 9 ∷ []) ∷
    flip (1 ∷ 2 ∷ 4 ∷ 7 ∷ []) (5 ∷ 8 ∷ 10 ∷ []) ∷ flip (1 ∷ 2 ∷ 7 ∷ []) (5 ∷ 8 ∷ 9 ∷ 10 ∷ []) ∷
    flip (1 ∷ 4 ∷ 7 ∷ []) (5 ∷ 8 ∷ 10 ∷ 11 ∷ []) ∷ flip (1 ∷ 7 ∷ []) (5 ∷ 8 ∷ 9 ∷ 10 ∷ 11 ∷ []) ∷
    flip (2 ∷ 7 ∷ 9 ∷ []) (5 ∷ 8 ∷ 10 ∷ 12 ∷ []) ∷ flip (2 ∷ 7 ∷ []) (4 ∷ 5 ∷ 8 ∷ 10 ∷ 12 ∷ []) ∷
    flip (7 ∷ 9 ∷ []) (5 ∷ 8 ∷ 10 ∷ 11 ∷ 12 ∷ []) ∷ flip (7 ∷ []) (4 ∷ 5 ∷ 8 ∷ 10 ∷ 11 ∷ 12 ∷ []) ∷
    flip (2 ∷ 3 ∷ 9 ∷ 12 ∷ []) (5 ∷ 6 ∷ 8 ∷ []) ∷ flip (2 ∷ 9 ∷ 12 ∷ []) (5 ∷ 6 ∷ 8 ∷ 10 ∷ []) ∷
    flip (2 ∷ 3 ∷ 9 ∷ []) (1 ∷ 5 ∷ 6 ∷ 8 ∷ []) ∷ flip (2 ∷ 9 ∷ []) (1 ∷ 5 ∷ 6 ∷ 8 ∷ 10 ∷ []) ∷
    flip (1 ∷ 3 ∷ 9 ∷ []) (5 ∷ 6 ∷ 8 ∷ 11 ∷ []) ∷ flip (1 ∷ 9 ∷ []) (5 ∷ 6 ∷ 8 ∷ 10 ∷ 11 ∷ []) ∷
    flip (3 ∷ 9 ∷ []) (5 ∷ 6 ∷ 8 ∷ 11 ∷ 12 ∷ []) ∷ flip (9 ∷ []) (5 ∷ 6 ∷ 8 ∷ 10 ∷ 11 ∷ 12 ∷ []) ∷
    flip (2 ∷ 3 ∷ 12 ∷ []) (4 ∷ 5 ∷ 6 ∷ 8 ∷ []) ∷ flip (2 ∷ 3 ∷ []) (1 ∷ 4 ∷ 5 ∷ 6 ∷ 8 ∷ []) ∷
    flip (1 ∷ 3 ∷ []) (4 ∷ 5 ∷ 6 ∷ 8 ∷ 11 ∷ []) ∷ flip (3 ∷ []) (4 ∷ 5 ∷ 6 ∷ 8 ∷ 11 ∷ 12 ∷ []) ∷
    flip (1 ∷ 11 ∷ []) (4 ∷ 5 ∷ 6 ∷ 8 ∷ 10 ∷ []) ∷ flip (1 ∷ []) (2 ∷ 4 ∷ 5 ∷ 6 ∷ 8 ∷ 10 ∷ []) ∷
    flip (11 ∷ []) (4 ∷ 5 ∷ 6 ∷ 8 ∷ 10 ∷ 12 ∷ []) ∷ []

abbrev cross_flips_6 : List Flip
cross_flips_6 =
    flip (3 ∷ 4 ∷ 9 ∷ 10 ∷ 13 ∷ 14 ∷ []) (7 ∷ 8 ∷ []) ∷ flip (4 ∷ 9 ∷ 10 ∷ 13 ∷ 14 ∷ []) (7 ∷ 8 ∷ 12 ∷ []) ∷
    flip (3 ∷ 9 ∷ 10 ∷ 13 ∷ 14 ∷ []) (7 ∷ 8 ∷ 11 ∷ []) ∷ flip (9 ∷ 10 ∷ 13 ∷ 14 ∷ []) (7 ∷ 8 ∷ 11 ∷ 12 ∷ []) ∷
    flip (3 ∷ 4 ∷ 9 ∷ 10 ∷ 14 ∷ []) (2 ∷ 7 ∷ 8 ∷ []) ∷ flip (3 ∷ 9 ∷ 10 ∷ 14 ∷ []) (2 ∷ 7 ∷ 8 ∷ 11 ∷ []) ∷
    flip (4 ∷ 9 ∷ 10 ∷ 14 ∷ []) (2 ∷ 7 ∷ 8 ∷ 12 ∷ []) ∷ flip (9 ∷ 10 ∷ 14 ∷ []) (2 ∷ 7 ∷ 8 ∷ 11 ∷ 12 ∷ []) ∷
    flip (4 ∷ 9 ∷ 12 ∷ 13 ∷ 14 ∷ []) (5 ∷ 7 ∷ 8 ∷ []) ∷ flip (4 ∷ 9 ∷ 13 ∷ 14 ∷ []) (3 ∷ 5 ∷ 7 ∷ 8 ∷ []) ∷
    flip (3 ∷ 9 ∷ 13 ∷ 14 ∷ []) (5 ∷ 7 ∷ 8 ∷ 11 ∷ []) ∷ flip (9 ∷ 13 ∷ 14 ∷ []) (5 ∷ 7 ∷ 8 ∷ 11 ∷ 12 ∷ []) ∷
    flip (3 ∷ 9 ∷ 11 ∷ 14 ∷ []) (2 ∷ 5 ∷ 7 ∷ 8 ∷ []) ∷ flip (9 ∷ 11 ∷ 14 ∷ []) (2 ∷ 5 ∷ 7 ∷ 8 ∷ 12 ∷ []) ∷
    flip (3 ∷ 9 ∷ 14 ∷ []) (2 ∷ 4 ∷ 5 ∷ 7 ∷ 8 ∷ []) ∷ flip (9 ∷ 14 ∷ []) (2 ∷ 4 ∷ 5 ∷ 7 ∷ 8 ∷ 12 ∷ []) ∷
    flip (2 ∷ 10 ∷ 11 ∷ 12 ∷ 14 ∷ []) (6 ∷ 7 ∷ 8 ∷ []) ∷ flip (2 ∷ 11 ∷ 12 ∷ 14 ∷ []) (5 ∷ 6 ∷ 7 ∷ 8 ∷ []) ∷
    flip (2 ∷ 5 ∷ 11 ∷ 14 ∷ []) (3 ∷ 6 ∷ 7 ∷ 8 ∷ []) ∷ flip (2 ∷ 11 ∷ 14 ∷ []) (3 ∷ 6 ∷ 7 ∷ 8 ∷ 10 ∷ []) ∷
    flip (2 ∷ 3 ∷ 5 ∷ 14 ∷ []) (4 ∷ 6 ∷ 7 ∷ 8 ∷ []) ∷ flip (2 ∷ 5 ∷ 14 ∷ []) (4 ∷ 6 ∷ 7 ∷ 8 ∷ 12 ∷ []) ∷
    flip (2 ∷ 3 ∷ 14 ∷ []) (4 ∷ 6 ∷ 7 ∷ 8 ∷ 10 ∷ []) ∷ flip (2 ∷ 14 ∷ []) (4 ∷ 6 ∷ 7 ∷ 8 ∷ 10 ∷ 12 ∷ []) ∷
    flip (4 ∷ 10 ∷ 12 ∷ 14 ∷ []) (6 ∷ 7 ∷ 8 ∷ 13 ∷ []) ∷ flip (10 ∷ 12 ∷ 14 ∷ []) (6 ∷ 7 ∷ 8 ∷ 11 ∷ 13 ∷ []) ∷
    flip (11 ∷ 12 ∷ 14 ∷ []) (5 ∷ 6 ∷ 7 ∷ 8 ∷ 13 ∷ []) ∷ flip (12 ∷ 14 ∷ []) (4 ∷ 5 ∷ 6 ∷ 7 ∷ 8 ∷ 13 ∷ []) ∷
    flip (4 ∷ 5 ∷ 14 ∷ []) (3 ∷ 6 ∷ 7 ∷ 8 ∷ 13 ∷ []) ∷ flip (4 ∷ 14 ∷ []) (3 ∷ 6 ∷ 7 ∷ 8 ∷ 10 ∷ 13 ∷ []) ∷
    flip (5 ∷ 14 ∷ []) (3 ∷ 6 ∷ 7 ∷ 8 ∷ 11 ∷ 13 ∷ []) ∷ flip (14 ∷ []) (3 ∷ 6 ∷ 7 ∷ 8 ∷ 10 ∷ 11 ∷ 13 ∷ []) ∷
    flip (3 ∷ 6 ∷ 10 ∷ 11 ∷ 13 ∷ []) (1 ∷ 7 ∷ 8 ∷ []) ∷ flip (3 ∷ 6 ∷ 11 ∷ 13 ∷ []) (1 ∷ 5 ∷ 7 ∷ 8 ∷ []) ∷
    flip (3 ∷ 5 ∷ 6 ∷ 13 ∷ []) (1 ∷ 4 ∷ 7 ∷ 8 ∷ []) ∷ flip (3 ∷ 6 ∷ 13 ∷ []) (1 ∷ 4 ∷ 7 ∷ 8 ∷ 10 ∷ []) ∷
    flip (3 ∷ 5 ∷ 11 ∷ 13 ∷ []) (1 ∷ 7 ∷ 8 ∷ 9 ∷ []) ∷ flip (3 ∷ 5 ∷ 13 ∷ []) (1 ∷ 4 ∷ 7 ∷ 8 ∷ 9 ∷ []) ∷
    flip (3 ∷ 4 ∷ 13 ∷ []) (1 ∷ 7 ∷ 8 ∷ 9 ∷ 10 ∷ []) ∷ flip (3 ∷ 13 ∷ []) (1 ∷ 7 ∷ 8 ∷ 9 ∷ 10 ∷ 11 ∷ []) ∷
    flip (3 ∷ 5 ∷ 6 ∷ 11 ∷ []) (1 ∷ 2 ∷ 7 ∷ 8 ∷ []) ∷ flip (3 ∷ 5 ∷ 11 ∷ []) (1 ∷ 2 ∷ 7 ∷ 8 ∷ 9 ∷ []) ∷
    flip (3 ∷ 5 ∷ 6 ∷ []) (1 ∷ 2 ∷ 4 ∷ 7 ∷ 8 ∷ []) ∷ flip (3 ∷ 5 ∷ []) (1 ∷ 2 ∷ 4 ∷ 7 ∷ 8 ∷ 9 ∷ []) ∷
    flip (3 ∷ 6 ∷ 11 ∷ []) (1 ∷ 2 ∷ 7 ∷ 8 ∷ 10 ∷ []) ∷ flip (3 ∷ 11 ∷ []) (1 ∷ 2 ∷ 7 ∷ 8 ∷ 9 ∷ 10 ∷ []) ∷
    flip (3 ∷ 9 ∷ []) (1 ∷ 2 ∷ 4 ∷ 7 ∷ 8 ∷ 10 ∷ []) ∷ flip (3 ∷ []) (1 ∷ 2 ∷ 4 ∷ 6 ∷ 7 ∷ 8 ∷ 10 ∷ []) ∷
    flip (6 ∷ 10 ∷ 11 ∷ 13 ∷ []) (1 ∷ 7 ∷ 8 ∷ 12 ∷ []) ∷ flip (6 ∷ 10 ∷ 13 ∷ []) (1 ∷ 4 ∷ 7 ∷ 8 ∷ 12 ∷ []) ∷
    flip (6 ∷ 10 ∷ 11 ∷ []) (1 ∷ 2 ∷ 7 ∷ 8 ∷ 12 ∷ []) ∷ flip (6 ∷ 10 ∷ []) (1 ∷ 2 ∷ 4 ∷ 7 ∷ 8 ∷ 12 ∷ []) ∷
    flip (2 ∷ 10 ∷ 11 ∷ []) (1 ∷ 7 ∷ 8 ∷ 9 ∷ 12 ∷ []) ∷ flip (10 ∷ 11 ∷ []) (1 ∷ 7 ∷ 8 ∷ 9 ∷ 12 ∷ 13 ∷ []) ∷
    flip (2 ∷ 10 ∷ []) (1 ∷ 4 ∷ 7 ∷ 8 ∷ 9 ∷ 12 ∷ []) ∷ flip (10 ∷ []) (1 ∷ 4 ∷ 7 ∷ 8 ∷ 9 ∷ 12 ∷ 13 ∷ []) ∷
    flip (9 ∷ 11 ∷ 13 ∷ []) (1 ∷ 5 ∷ 7 ∷ 8 ∷ 12 ∷ []) ∷ flip (9 ∷ 13 ∷ []) (1 ∷ 4 ∷ 5 ∷ 7 ∷ 8 ∷ 12 ∷ []) ∷
    flip (4 ∷ 9 ∷ []) (1 ∷ 2 ∷ 5 ∷ 7 ∷ 8 ∷ 12 ∷ []) ∷ flip (9 ∷ []) (1 ∷ 2 ∷ 5 ∷ 7 ∷ 8 ∷ 11 ∷ 12 ∷ []) ∷
    flip (11 ∷ 13 ∷ []) (1 ∷ 5 ∷ 6 ∷ 7 ∷ 8 ∷ 12 ∷ []) ∷ flip (11 ∷ []) (1 ∷ 2 ∷ 5 ∷ 6 ∷ 7 ∷ 8 ∷ 12 ∷ []) ∷
    flip (2 ∷ []) (1 ∷ 4 ∷ 5 ∷ 6 ∷ 7 ∷ 8 ∷ 12 ∷ []) ∷ []

pub cross_sphere : (d : ℕ) → 1 ≤ d → d ≤ 6 → IsComplex (named_complex Cross d) → LooksLikeSphere (named_complex Cross d)
cross_sphere = each_dim (λ d. IsComplex (named_complex Cross d) → LooksLikeSphere (named_complex Cross d))
    (cross_looks 1 (1 ∷ 2 ∷ 3 ∷ []) cross_flips_1 refl refl refl refl)
    (cross_looks 2 (1 ∷ 2 ∷ 3 ∷ 6 ∷ []) cross_flips_2 refl refl refl refl)
    (cross_looks 3 (1 ∷ 2 ∷ 3 ∷ 4 ∷ 6 ∷ []) cross_flips_3 refl refl refl refl)
    (cross_looks 4 (2 ∷ 3 ∷ 4 ∷ 5 ∷ 6 ∷ 10 ∷ []) cross_flips_4 refl refl refl refl)
    (cross_looks 5 (2 ∷ 4 ∷ 5 ∷ 6 ∷ 8 ∷ 10 ∷ 12 ∷ []) cross_flips_5 refl refl refl refl)
    (cross_looks 6 (1 ∷ 4 ∷ 5 ∷ 6 ∷ 7 ∷ 8 ∷ 12 ∷ 13 ∷ []) cross_flips_6 refl refl refl refl)
