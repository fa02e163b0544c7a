-- Walks over ridges of two facets, and how signs turn along them.
use Rattle.std.specs.Prelude.{◌≡◌, ◌≢◌, true, false, ℕ, Bool, not, List, [], ◌∷◌, map}
use Rattle.complex_core.specs.Labels.{has, without}
use Rattle.complex_core.specs.Complexes.{is_facet}
use Rattle.pseudo_test.specs.Ridges.{count}
use Rattle.orient_test.specs.Signs.{odd, times, position}

-- over a ridge of two facets from one to the other, by the labels that they drop there
pub record Step : Type 0 where
  pub to : List ℕ
  pub left : ℕ
  pub taken : ℕ

-- this step leads from f to another facet over a ridge that lies in these two alone
pub record IsStep (facets : List (List ℕ)) (f : List ℕ) (step : Step) : Type 0 where
  pub from_there : is_facet facets f ≡ true
  pub to_there : is_facet facets step.to ≡ true
  pub left_used : has f step.left ≡ true
  pub taken_used : has step.to step.taken ≡ true
  pub other : f ≢ step.to
  pub shared : without f step.left ≡ without step.to step.taken
  pub two : count facets (without f step.left) ≡ 2

-- from f by these steps to g
abbrev pub Walk : List (List ℕ) → List ℕ → List Step → List ℕ → Type 0
Walk facets f [] g = f ≡ g
Walk facets f (step ∷ steps) g = IsStep facets f step × Walk facets step.to steps g

-- whether neighbours have different signs in each orientation: where the two places are both even or both odd
abbrev pub turn : List ℕ → Step → Bool
turn f step = not (times (odd (position f step.left)) (odd (position step.to step.taken)))

-- whether the forced sign turns along a walk
abbrev pub turning : List ℕ → List Step → Bool
turning f [] = false
turning f (step ∷ steps) = times (turn f step) (turning step.to steps)

-- a chain of facets from f to g along which the sign turns so
pub record IsChain (facets : List (List ℕ)) (f g : List ℕ) (turns : Bool) (chain : List (List ℕ)) : Type 0 where
  pub steps : List Step
  pub is : chain ≡ f ∷ map (λ step. step.to) steps
  pub walk : Walk facets f steps g
  pub turned : turning f steps ≡ turns

-- a closed chain, whose first facet is its last one too, along which the forced signs contradict each other
pub record IsClash (facets : List (List ℕ)) (chain : List (List ℕ)) : Type 0 where
  pub first : List ℕ
  pub closed : IsChain facets first first true chain
