-- What is to be made, and what is made of it.
use Rattle.std.specs.Prelude.{◌≡◌, ◌↔◌, ◌≤◌, ℕ, true, IsTrue}
use Rattle.complex_core.specs.Complexes.{ComplexView}
use Rattle.face_counts.specs.Eulers.{euler}
use Rattle.pseudo_test.specs.Ridges.{Closed}
use Rattle.pseudo_test.specs.Chains.{StronglyConnected}
use Rattle.orient_test.specs.Signs.{Orientable}
use Rattle.make_complex.specs.declared.kind.Kind.{Kind}
use Rattle.make_complex.specs.Kinds.{is_surface}
use Rattle.make_complex.specs.Named.{named_euler, is_orientable}
use Rattle.make_complex.specs.Draws.{made_complex}

-- a kind, a dimension, a number of draws and a seed
pub record Recipe : Type 0 where
  pub kind : Kind
  pub dim : ℕ
  pub draws : ℕ
  pub seed : ℕ

abbrev pub recipe : Kind → ℕ → ℕ → ℕ → Recipe
recipe kind dim draws seed = record { kind = kind; dim = dim; draws = draws; seed = seed }

-- the generator makes something of it
pub record CanMake (r : Recipe) : Type 0 where
  pub low : 1 ≤ r.dim
  pub high : r.dim ≤ 6
  pub surface : is_surface r.kind ≡ true → r.dim ≡ 2
  pub draws : r.draws ≤ 100000

-- and this is what it makes
abbrev pub made : Recipe → ComplexView
made r = made_complex r.kind r.dim r.draws r.seed

-- it has the facts of its kind, which flips keep
pub record LooksNamed (r : Recipe) : Type 0 where
  pub closed : Closed (made r).facets
  pub strong : StronglyConnected (made r).facets
  pub euler : euler (made r).facets ≡ named_euler r.kind r.dim
  pub orientable : Orientable (made r).facets ↔ IsTrue (is_orientable r.kind)
