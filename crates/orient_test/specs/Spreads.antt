-- The signs that the sign of one facet forces on those that walks reach from it.
use Rattle.std.specs.Prelude.{◌≡◌, ◌<◌, ◌≤◌, ◌+◌, filter, is_some, true, false, ℕ, Bool, not, nat_eq, if◌then◌else◌, List, [], ◌∷◌, length, Option, None, Some, ◌++◌}
use Rattle.std.specs.Cmp.Lexicographic.{pointwise}
use Rattle.std.proofs.Common.{get_or}
use Rattle.orient_test.specs.declared.search.Reached.{Reached}
use Rattle.orient_test.specs.Signs.{times}
use Rattle.orient_test.specs.declared.search.Spread.{Spread}
use Rattle.orient_test.specs.declared.search.Spread.TheVariants.{Signed, Clash}
use Rattle.orient_test.specs.Walks.{Step, IsStep, turn, IsClash}
use Rattle.complex_core.specs.Complexes.{is_facet}

-- the facet at a position, whether its sign is turned, and from which position it was reached
abbrev pub at : List Reached → ℕ → Reached
at reached position = get_or reached position (record { facet = []; turned = false; from = 0 })

-- the first of two that is there
abbrev pub either : Option Bool → Option Bool → Option Bool
either None b = b
either (Some c) b = Some c

-- the sign that a facet was given last
abbrev pub given : List Reached → List ℕ → Option Bool
given [] f = None
given (r ∷ reached) f = either (given reached f) (if pointwise nat_eq r.facet f then Some r.turned else None)

-- the only facet that is reached from f over the ridge without a label, and whether the sign turns there
pub record IsNeighbour (facets : List (List ℕ)) (f : List ℕ) (label : ℕ) (g : List ℕ) (turns : Bool) : Type 0 where
  pub step : Step
  pub is : IsStep facets f step
  pub left : step.left ≡ label
  pub to : step.to ≡ g
  pub turned : turn f step ≡ turns
  pub only : (s : Step) → IsStep facets f s → s.left ≡ label → (s.to ≡ g) × (turn f s ≡ turns)

-- no facet is reached over that ridge
abbrev pub NoNeighbour : List (List ℕ) → List ℕ → ℕ → Type 0
NoNeighbour facets f label = (s : Step) → IsStep facets f s → s.left ≡ label → ⊥

-- this facet was reached over a ridge from an earlier one, and its sign is the one that this forces
pub record CameFrom (facets : List (List ℕ)) (reached : List Reached) (position : ℕ) : Type 0 where
  pub earlier : (at reached position).from < position
  pub step : Step
  pub is : IsStep facets (at reached position).facet step
  pub to : step.to ≡ (at reached (at reached position).from).facet
  pub turned : (at reached position).turned ≡ times (at reached (at reached position).from).turned (turn (at reached position).facet step)

-- the first facet's sign isn't turned, and each other one came from an earlier one
pub record IsTree (facets : List (List ℕ)) (reached : List Reached) : Type 0 where
  pub some : 0 < length reached
  pub begins : is_facet facets (at reached 0).facet ≡ true
  pub plain : (at reached 0).turned ≡ false
  pub came : (position : ℕ) → 0 < position → position < length reached → CameFrom facets reached position

-- each facet but the first came from an earlier one
abbrev pub ComeEarlier : List Reached → Type 0
ComeEarlier reached = (position : ℕ) → 0 < position → position < length reached → (at reached position).from < position

-- a step leads from one facet to another whose sign isn't the forced one
pub record Contradicts (facets : List (List ℕ)) (reached : List Reached) (there back : ℕ) : Type 0 where
  pub step : Step
  pub is : IsStep facets (at reached there).facet step
  pub to : step.to ≡ (at reached back).facet
  pub other : (at reached back).turned ≡ not (times (at reached there).turned (turn (at reached there).facet step))

-- over each ridge of two facets the sign of the one forces that of the other
abbrev pub IsForced : List (List ℕ) → (List ℕ → Option Bool) → Type 0
IsForced facets signs = (f : List ℕ) (c : Bool) (s : Step) → IsStep facets f s → signs f ≡ Some c → signs s.to ≡ Some (times c (turn f s))

-- where each facet stands that was reached
pub record IsPlaced (reached : List Reached) (places : List ℕ → Option ℕ) : Type 0 where
  pub there : (f : List ℕ) (position : ℕ) → places f ≡ Some position → (position < length reached) × ((at reached position).facet ≡ f) × (given reached f ≡ Some (at reached position).turned)
  pub absent : (f : List ℕ) → places f ≡ None → given reached f ≡ None

-- no more are reached than there are facets
abbrev pub IsFew : List (List ℕ) → List Reached → Type 0
IsFew facets reached = length reached + length (filter (λ f. not (is_some (given reached f))) facets) ≤ length facets

-- after a step over the ridge without a label the facet behind it has the forced sign
pub record IsCrossed (facets : List (List ℕ)) (reached now : List Reached) (next label : ℕ) : Type 0 where
  pub tree : IsTree facets now
  pub more : List Reached
  pub grows : now ≡ reached ++ more
  pub keeps : (f : List ℕ) (c : Bool) → given reached f ≡ Some c → given now f ≡ Some c
  pub few : IsFew facets reached → IsFew facets now
  pub forced : (s : Step) → IsStep facets (at reached next).facet s → s.left ≡ label → given now s.to ≡ Some (times (at reached next).turned (turn (at reached next).facet s))

-- what spreads from a facet
abbrev pub IsSpread : List (List ℕ) → List ℕ → Spread → Type 0
IsSpread facets start (Signed reached) = (given reached.items start ≡ Some false) × IsForced facets (given reached.items)
IsSpread facets start (Clash chain) = IsClash facets chain.items
