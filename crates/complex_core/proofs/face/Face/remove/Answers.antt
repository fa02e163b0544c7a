use Rattle.std.proofs.Common.{◌+◌, ◌*◌, ◌%◌, ◌^◌, length, ap, arith}
use Rattle.std.specs.List.{remove}
use Rattle.complex_core.proofs.Packs.{Packs}
use Rattle.complex_core.proofs.Edits.{remove_packed}
use Rattle.complex_core.proofs.face.Face.remove.Goals as goal

pub front-requires-clause-room : goal.front-requires-clause-room
front-requires-clause-room c = omega (arith, c.requires.inside, c.self.invariant.face.few, ap length c.self.view_is)

pub overflow_add-result : goal.overflow_add-result
overflow_add-result c =
    let p : Packs (c.front.result + c.behind.result * 65536 % 2 ^ 128) (remove c.args.self.now c.args.position) =
    remove_packed c.self.inside.bits c.front.result c.behind.result c.args.position c.args.self.now c.self.invariant c.self.view_is c.front.ensures c.behind.ensures c.requires.inside c.requires.face in
    omega (arith, p.small)

pub invariant_of-result : goal.invariant_of-result
invariant_of-result c =
    let p : Packs (c.front.result + c.behind.result * 65536 % 2 ^ 128) (remove c.args.self.now c.args.position) =
    remove_packed c.self.inside.bits c.front.result c.behind.result c.args.position c.args.self.now c.self.invariant c.self.view_is c.front.ensures c.behind.ensures c.requires.inside c.requires.face in
    p.packed

pub returns : goal.returns
returns c =
    let p : Packs (c.front.result + c.behind.result * 65536 % 2 ^ 128) (remove c.args.self.now c.args.position) =
    remove_packed c.self.inside.bits c.front.result c.behind.result c.args.position c.args.self.now c.self.invariant c.self.view_is c.front.ensures c.behind.ensures c.requires.inside c.requires.face in
    p.is
