-- The laws of lists of flips.
use Rattle.std.specs.Prelude.{◌≡◌, ℕ, List, ◌++◌, length, Some}
use Rattle.std.specs.List.{AllByRecursion}
use Rattle.complex_core.specs.Complexes.{ComplexView, IsComplex}
use Rattle.complex_core.specs.Maps.{IsMap, ArePositive, renamed}
use Rattle.flip_rules.specs.declared.flip.Flip.{Flip}
use Rattle.flip_rules.specs.Flips.{OfFaces, replay}
use Rattle.flip_rules.specs.Laws.{inverse_list}
use Rattle.flip_journal.specs.Carried.{NamesLabels, IsLegalList, IsLeastUnused, LeadsTo, least_unused, carried_over, map_at_end}

-- the inverse list is as long
abbrev pub InverseIsAsLong : Type 0
InverseIsAsLong = (flips : List Flip) → length (inverse_list flips) ≡ length flips

-- what is carried over a map leads to a complex that the map at the end takes to the end of the given flips
abbrev pub CarriedLeads : Type 0
CarriedLeads = (k : ComplexView) (m : List (ℕ × ℕ)) (flips : List Flip) → IsComplex k → IsMap m → NamesLabels m k → AllByRecursion OfFaces flips → IsLegalList (renamed k m) flips → LeadsTo k m flips (carried_over m flips) (map_at_end m flips)

-- flips that lead from K to a complex that the map takes to L, on exactly its labels
pub record JoinsTo (k l : ComplexView) (flips : List Flip) (m : List (ℕ × ℕ)) : Type 0 where
  pub there : ComplexView
  pub replays : replay k flips ≡ Some there
  pub is_map : IsMap m
  pub labels : NamesLabels m there
  pub image : renamed there m ≡ l

-- where a map takes the end of K's flips to the end of L's flips, K's flips and the inverse list of L's, carried over the map, lead from K to L
abbrev pub CarriedJoins : Type 0
CarriedJoins = (k l end last : ComplexView) (m : List (ℕ × ℕ)) (flips others : List Flip) → IsComplex k → IsComplex l → AllByRecursion OfFaces flips → AllByRecursion OfFaces others → replay k flips ≡ Some end → replay l others ≡ Some last → IsMap m → NamesLabels m end → renamed end m ≡ last → JoinsTo k l (flips ++ carried_over m (inverse_list others)) (map_at_end m (inverse_list others))

-- a new label gets the least number from 1 that is no name
abbrev pub NewNameIsLeast : Type 0
NewNameIsLeast = (names : List (ℕ × ℕ)) → ArePositive names → IsLeastUnused names (least_unused names)
