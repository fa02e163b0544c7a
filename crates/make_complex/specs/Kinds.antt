-- The kinds of named complexes.
use Rattle.std.specs.Prelude.{ℕ, Bool, true, false, List, [], ◌∷◌, Option, codes, find}
use Rattle.std.specs.Str.{bytes_eq}
use Rattle.make_complex.specs.declared.kind.Kind.{Kind}
use Rattle.make_complex.specs.declared.kind.Kind.TheVariants.{Simplex, Cross, Torus, Plane}

-- the bytes of a kind's name
abbrev pub kind_name : Kind → List ℕ
kind_name Simplex = codes "simplex"
kind_name Cross = codes "cross"
kind_name Torus = codes "torus"
kind_name Plane = codes "plane"

-- all kinds
abbrev pub kinds : List Kind
kinds = Simplex ∷ Cross ∷ Torus ∷ Plane ∷ []

-- the kind of these bytes, if they are a name
abbrev pub kind_named : List ℕ → Option Kind
kind_named name = find (λ kind. bytes_eq name (kind_name kind)) kinds

-- 2 is the only dimension of the kind
abbrev pub is_surface : Kind → Bool
is_surface Simplex = false
is_surface Cross = false
is_surface Torus = true
is_surface Plane = true
