-- Flags: a face and a facet that contains it, in order.
use Rattle.std.specs.Prelude.{ℕ, List, map, filter, nat_eq}
use Rattle.std.specs.List.{flat_map}
use Rattle.std.specs.Ordering.{ordering_then}
use Rattle.std.specs.Cmp.Lexicographic.{pointwise}
use Rattle.std.specs.declared.cmp.Ordering.{Ordering}
use Rattle.complex_core.specs.Labels.{face_cmp}
use Rattle.complex_core.specs.Rising.{rising}
use Rattle.complex_core.specs.Subsets.{subsets_of}

-- by faces, and by facets where these are equal
abbrev pub flag_cmp : List ℕ × List ℕ → List ℕ × List ℕ → Ordering
flag_cmp s t = ordering_then (face_cmp s.0 t.0) (face_cmp s.1 t.1)

-- those of one facet, with its faces of n labels
abbrev pub flags_of : ℕ → List ℕ → List (List ℕ × List ℕ)
flags_of n f = map (λ s. (s, f)) (subsets_of n f)

-- those of all facets, rising
abbrev pub flags : ℕ → List (List ℕ) → List (List ℕ × List ℕ)
flags n facets = rising flag_cmp (flat_map (flags_of n) facets)

-- those of one face
abbrev pub flags_at : List (List ℕ × List ℕ) → List ℕ → List (List ℕ × List ℕ)
flags_at flags face = filter (λ s. pointwise nat_eq s.0 face) flags
