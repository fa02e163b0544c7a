-- What flips take out of a complex and put in, as one exchange.
use Rattle.std.specs.Prelude.{ℕ, List, [], ◌∷◌, ◌++◌}
use Rattle.complex_core.specs.Labels.{face_cmp}
use Rattle.complex_core.specs.Rising.{rising}
use Rattle.complex_core.specs.Complexes.{ComplexView, staying}
use Rattle.flip_rules.specs.Flips.{join_boundary}
use Rattle.flip_rules.specs.declared.flip.Flip.{Flip}

-- all facets that the flips take out
abbrev pub taken_out : List Flip → List (List ℕ)
taken_out [] = []
taken_out (f ∷ fs) = join_boundary f.a f.b ++ taken_out fs

-- what is there of these facets and of those that the flips put in: each flip takes its own out again, and puts in its others
abbrev pub put_in_after : List (List ℕ) → List Flip → List (List ℕ)
put_in_after more [] = more
put_in_after more (f ∷ fs) = put_in_after (staying more (join_boundary f.a f.b) ++ join_boundary f.b f.a) fs

-- the facets that the flips put in, and that no later one of them takes out
abbrev pub put_in : List Flip → List (List ℕ)
put_in fs = put_in_after [] fs

-- the complex after some facets are taken out and others put in
abbrev pub exchanged_by : ComplexView → List (List ℕ) → List (List ℕ) → ComplexView
exchanged_by k out more = record k { facets = rising face_cmp (staying k.facets out ++ more) }
