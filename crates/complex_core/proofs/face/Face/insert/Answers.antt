use Rattle.std.proofs.Common.{◌+◌, ◌*◌, ◌-◌, ◌/◌, ◌%◌, ◌^◌, arith}
use Rattle.std.specs.List.{insert}
use Rattle.std.proofs.lemmas.List.Edits.{length-insert}
use Rattle.complex_core.proofs.Packs.{Packs}
use Rattle.complex_core.proofs.Edits.{insert_packed, front_under}
use Rattle.complex_core.proofs.face.Face.insert.Goals as goal

pub overflow_sub-behind : goal.overflow_sub-behind
overflow_sub-behind c = front_under c.self.inside.bits c.front-front.result c.args.position c.args.self.now c.self.invariant c.self.view_is c.front-front.ensures c.requires.position

pub overflow_add-result : goal.overflow_add-result
overflow_add-result c =
    let p : Packs (c.front-front.result + c.args.label * 2 ^ (112 - 16 * c.args.position) % 2 ^ 128 + (c.self.inside.bits - c.front-front.result) / 65536) (insert c.args.self.now c.args.position c.args.label) =
    insert_packed c.self.inside.bits c.front-front.result c.args.label (112 - 16 * c.args.position) c.args.position c.args.self.now c.self.invariant c.self.view_is c.front-front.ensures c.requires.position c.requires.face (omega (arith, c.ranges.label)) (omega (arith, c.requires.position, c.requires.face.few, length-insert c.args.self.now c.args.position c.args.label c.requires.position)) in
    omega (arith, p.small)

pub overflow_add-result-2 : goal.overflow_add-result-2
overflow_add-result-2 c =
    let p : Packs (c.front-front.result + c.args.label * 2 ^ (112 - 16 * c.args.position) % 2 ^ 128 + (c.self.inside.bits - c.front-front.result) / 65536) (insert c.args.self.now c.args.position c.args.label) =
    insert_packed c.self.inside.bits c.front-front.result c.args.label (112 - 16 * c.args.position) c.args.position c.args.self.now c.self.invariant c.self.view_is c.front-front.ensures c.requires.position c.requires.face (omega (arith, c.ranges.label)) (omega (arith, c.requires.position, c.requires.face.few, length-insert c.args.self.now c.args.position c.args.label c.requires.position)) in
    omega (arith, p.small)

pub invariant_of-result : goal.invariant_of-result
invariant_of-result c =
    let p : Packs (c.front-front.result + c.args.label * 2 ^ (112 - 16 * c.args.position) % 2 ^ 128 + (c.self.inside.bits - c.front-front.result) / 65536) (insert c.args.self.now c.args.position c.args.label) =
    insert_packed c.self.inside.bits c.front-front.result c.args.label (112 - 16 * c.args.position) c.args.position c.args.self.now c.self.invariant c.self.view_is c.front-front.ensures c.requires.position c.requires.face (omega (arith, c.ranges.label)) (omega (arith, c.requires.position, c.requires.face.few, length-insert c.args.self.now c.args.position c.args.label c.requires.position)) in
    p.packed

pub returns : goal.returns
returns c =
    let p : Packs (c.front-front.result + c.args.label * 2 ^ (112 - 16 * c.args.position) % 2 ^ 128 + (c.self.inside.bits - c.front-front.result) / 65536) (insert c.args.self.now c.args.position c.args.label) =
    insert_packed c.self.inside.bits c.front-front.result c.args.label (112 - 16 * c.args.position) c.args.position c.args.self.now c.self.invariant c.self.view_is c.front-front.ensures c.requires.position c.requires.face (omega (arith, c.ranges.label)) (omega (arith, c.requires.position, c.requires.face.few, length-insert c.args.self.now c.args.position c.args.label c.requires.position)) in
    p.is
