-- Chains of facets in which neighbours share a ridge.
use Rattle.std.specs.Prelude.{◌≡◌, true, ℕ, List, [], ◌∷◌}
use Rattle.std.specs.declared.cmp.Ordering.TheVariants.{Less}
use Rattle.complex_core.specs.Labels.{holds, face_cmp}
use Rattle.complex_core.specs.Complexes.{is_facet}
use Rattle.pseudo_test.specs.Ridges.{IsRidge}

-- two facets share a ridge
pub record Near (facets : List (List ℕ)) (f g : List ℕ) : Type 0 where
  pub ridge : List ℕ
  pub is : IsRidge facets ridge
  pub first : holds f ridge ≡ true
  pub second : holds g ridge ≡ true

-- from f over the facets of a chain, the last of which is g
abbrev pub Linked : List (List ℕ) → List ℕ → List (List ℕ) → List ℕ → Type 0
Linked facets f [] g = f ≡ g
Linked facets f (h ∷ chain) g = (is_facet facets h ≡ true) × Near facets f h × Linked facets h chain g

-- some chain leads from f to g
pub record Joined (facets : List (List ℕ)) (f g : List ℕ) : Type 0 where
  pub chain : List (List ℕ)
  pub linked : Linked facets f chain g

-- any two facets are joined
pub record StronglyConnected (facets : List (List ℕ)) : Type 0 where
  pub joined : (f g : List ℕ) → is_facet facets f ≡ true → is_facet facets g ≡ true → Joined facets f g

-- no facet is less than this one
pub record IsLeast (facets : List (List ℕ)) (first : List ℕ) : Type 0 where
  pub there : is_facet facets first ≡ true
  pub least : (g : List ℕ) → is_facet facets g ≡ true → face_cmp g first ≡ Less → ⊥

-- the least facet, and the least one that no chain joins to it
pub record IsApart (facets : List (List ℕ)) (first other : List ℕ) : Type 0 where
  pub begins : IsLeast facets first
  pub there : is_facet facets other ≡ true
  pub apart : Joined facets first other → ⊥
  pub least : (g : List ℕ) → is_facet facets g ≡ true → face_cmp g other ≡ Less → Joined facets first g
