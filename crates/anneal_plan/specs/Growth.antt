-- The faces of a star one label after another: each becomes the faces with one label more, which is above the one before it.
use Rattle.std.specs.Prelude.{ℕ, zero, suc, ◌&&◌, Bool, not, nat_eq, nat_lt, List, [], ◌∷◌, filter}
use Rattle.std.specs.List.{flat_map}
use Rattle.complex_core.specs.Labels.{with}
use Rattle.complex_core.specs.Complexes.{over}
use Rattle.complex_core.specs.Maps.{used}

-- whether a label may come next: above the last one, and not the vertex
abbrev pub comes_next : ℕ → ℕ → ℕ → Bool
comes_next p last x = nat_lt last x && not (nat_eq x p)

-- the labels that may come next of the facets over a face, rising
abbrev pub next_labels : List (List ℕ) → ℕ → ℕ → List ℕ → List ℕ
next_labels rows p last a = filter (comes_next p last) (used (over rows a))

-- the faces that a face becomes with n labels more
abbrev pub grown : List (List ℕ) → ℕ → ℕ → ℕ → List ℕ → List (List ℕ)
grown rows p zero last a = a ∷ []
grown rows p (suc n) last a = flat_map (λ x. grown rows p n x (with a x)) (next_labels rows p last a)
