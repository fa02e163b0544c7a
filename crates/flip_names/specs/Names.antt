-- Flips in other labels: each label is replaced by what it becomes under a map.
use Rattle.std.specs.Prelude.{ℕ, Bool, ◌&&◌, List, map}
use Rattle.std.specs.List.{list_all}
use Rattle.complex_core.specs.Maps.{takes, face_image}
use Rattle.flip_rules.specs.declared.flip.Flip.{Flip}

-- a flip in other labels, both of its sides rising
abbrev pub named_flip : List (ℕ × ℕ) → Flip → Flip
named_flip m f = record { a = face_image m f.a; b = face_image m f.b }

abbrev pub named_flips : List (ℕ × ℕ) → List Flip → List Flip
named_flips m flips = map (named_flip m) flips

-- whether each label of A and B has a pair
abbrev pub takes_flip : List (ℕ × ℕ) → Flip → Bool
takes_flip m f = list_all (takes m) f.a && list_all (takes m) f.b

abbrev pub takes_flips : List (ℕ × ℕ) → List Flip → Bool
takes_flips m flips = list_all (takes_flip m) flips
