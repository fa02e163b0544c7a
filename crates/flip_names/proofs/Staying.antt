-- Legal flips whose B has two labels or more bring no new label.
use Rattle.std.proofs.Common.{◌≡◌, ◌≢◌, ℕ, true, nat_eq, List, [], ◌∷◌, Ok, Some, sym, ◌∙◌, ap, refl}
use Rattle.std.specs.List.{list_all}
use Rattle.std.specs.Ordering.{nat_cmp}
use Rattle.std.specs.Cmp.{first_so}
use Rattle.std.specs.Cmp.Derive.{both_true}
use Rattle.std.specs.Cmp.Lexicographic.{pointwise}
use Rattle.complex_core.specs.Labels.{has, holds, without}
use Rattle.complex_core.specs.Complexes.{ComplexView}
use Rattle.complex_core.specs.Maps.{takes, takes_all}
use Rattle.complex_core.proofs.Sets.{above_tail}
use Rattle.complex_core.proofs.Laws.{each_has, has-union, holds_has, listed, listed-filter, listed-rising, or_right, passes_listed, same_set_itself, some_has}
use Rattle.flip_rules.specs.declared.flip.Flip.{Flip}
use Rattle.flip_rules.specs.Flips.{join_boundary, broken_rule, flipped, replay, Legal, OfFaces}
use Rattle.flip_rules.proofs.Legal.{legal}
use Rattle.flip_rules.proofs.Links.{side, listed-join_boundary}
use Rattle.flip_rules.proofs.Replays.{first_flip}
use Rattle.flip_names.specs.Names.{takes_flip}
use Rattle.flip_names.specs.Laws.{HasPositiveIndex, ReducingFlipsStay}
use Rattle.flip_names.proofs.Images.{Taken}
use Rattle.flip_names.proofs.Boundaries.{other_label}
use Rattle.flip_names.proofs.Flips.{flip_stays_taken}
use Rattle.complex_core.proofs.Members.{in_without, passes_has}
use Rattle.complex_core.proofs.SetLists.{found_set}

-- the labels of A are in a facet that contains A, and each label of B is in the side without another one
flip_taken : (m : List (ℕ × ℕ)) (k : ComplexView) (f : Flip) → takes_all m k.facets ≡ true → OfFaces f → HasPositiveIndex f → broken_rule k f.a f.b ≡ Ok tt → takes_flip m f ≡ true
flip_taken m k f all faces many e = both_true first second
  where
    l : Legal k f.a f.b
    l = legal k f.a f.b e

    in_facet : (g : List ℕ) → listed k.facets g ≡ true → Taken m g
    in_facet g t = passes_listed (λ s. list_all (takes m) s) k.facets g all t

    first : Taken m f.a
    first =
        let q : (g : List ℕ) × (listed k.facets g ≡ true) × (holds g f.a ≡ true) = found_set (λ g. holds g f.a) k.facets l.face in
        each_has (takes m) f.a (λ x t. passes_has (takes m) q.0 x (in_facet q.0 q.1) (holds_has q.0 f.a x q.2 t))

    side_there : (y : ℕ) → has f.b y ≡ true → listed k.facets (side f.a f.b y) ≡ true
    side_there y t =
        let s : List ℕ = side f.a f.b y in
        first_so (listed k.facets s) (holds s f.a) (
        sym (listed-filter (λ g. holds g f.a) k.facets s)
        ∙ ap (λ fs. listed fs s) l.link
        ∙ listed-rising (join_boundary f.a f.b) s
        ∙ listed-join_boundary f.a f.b f.b s
        ∙ some_has (λ z. pointwise nat_eq (side f.a f.b z) s) f.b y t (same_set_itself s)
        )

    second : Taken m f.b
    second = each_has (takes m) f.b (λ x t.
        let o : (y : ℕ) × (has f.b y ≡ true) × (x ≢ y) = other_label f.b x (above_tail nat_cmp 0 f.b faces.second.rising) many t in
        passes_has (takes m) (side f.a f.b o.0) x (in_facet (side f.a f.b o.0) (side_there o.0 o.1)) (
        has-union f.a (without f.b o.0) x ∙ or_right (has f.a x) (has (without f.b o.0) x) (in_without f.b o.0 x t o.2)
        ))

pub reducing_flips_taken : ReducingFlipsStay
reducing_flips_taken m k l [] all faces many e = refl
reducing_flips_taken m k l (f ∷ fs) all faces many e =
    let p : (broken_rule k f.a f.b ≡ Ok tt) × (replay (flipped k f.a f.b) fs ≡ Some l) = first_flip k l f fs e in
    let t : takes_flip m f ≡ true = flip_taken m k f all faces.0 many.0 p.0 in
    both_true t (reducing_flips_taken m (flipped k f.a f.b) l fs (flip_stays_taken m k f all t) faces.1 many.1 p.1)
