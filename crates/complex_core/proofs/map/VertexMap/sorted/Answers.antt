use Rattle.std.proofs.Common.{List, ℕ, sym, subst}
use Rattle.complex_core.specs.Maps.{IsMap}
use Rattle.complex_core.proofs.Pairs.{made_map}
use Rattle.complex_core.proofs.map.VertexMap.sorted.Goals as goal

pub invariant_of-result : goal.invariant_of-result
invariant_of-result c = let P : List (ℕ × ℕ) → Type 0 = λ ps. IsMap ps in subst P (sym c.sort_pairs.ensures) (made_map c.args.pairs.items c.requires.positive c.requires.differ)
