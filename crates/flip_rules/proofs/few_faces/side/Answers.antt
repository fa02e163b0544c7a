use Rattle.std.proofs.Common.{◌≤◌, subst, sym, length, List, ℕ}
use Rattle.complex_core.specs.Labels.{union}
use Rattle.complex_core.proofs.Laws.{side_fits}
use Rattle.flip_rules.proofs.few_faces.side.Goals as goal

pub unreachable-requires : goal.unreachable-requires
unreachable-requires c =
    let P : List ℕ → Type 0 = λ ys. length (union c.args.first.now ys) ≤ 8 in
    c.in-None.ensures (subst P (sym c.without.ensures) (side_fits c.args.first.now c.args.second.now c.args.label c.requires))
