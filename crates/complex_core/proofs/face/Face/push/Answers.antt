use Rattle.std.proofs.Common.{◌+◌, ◌*◌, ◌-◌, ◌%◌, ◌^◌, ◌++◌, ◌∷◌, [], arith, length-append}
use Rattle.complex_core.proofs.Packs.{push_packed, Packs}
use Rattle.complex_core.proofs.face.Face.push.Goals as goal

pub overflow_add-self : goal.overflow_add-self
overflow_add-self c =
    let p : Packs (c.self.inside.bits + c.args.label * 2 ^ (112 - 16 * c.len.result) % 2 ^ 128) (c.args.self.now ++ c.args.label ∷ []) = push_packed c.self.inside.bits c.args.label _ c.args.self.now c.self.invariant c.self.view_is c.requires (omega (arith, c.ranges.label)) (omega (arith, c.requires.few, length-append c.args.self.now (c.args.label ∷ []), c.len.ensures.len)) in
    omega (arith, p.small)

pub invariant_of-self : goal.invariant_of-self
invariant_of-self c =
    let p : Packs (c.self.inside.bits + c.args.label * 2 ^ (112 - 16 * c.len.result) % 2 ^ 128) (c.args.self.now ++ c.args.label ∷ []) = push_packed c.self.inside.bits c.args.label _ c.args.self.now c.self.invariant c.self.view_is c.requires (omega (arith, c.ranges.label)) (omega (arith, c.requires.few, length-append c.args.self.now (c.args.label ∷ []), c.len.ensures.len)) in
    p.packed

pub returns : goal.returns
returns c =
    let p : Packs (c.self.inside.bits + c.args.label * 2 ^ (112 - 16 * c.len.result) % 2 ^ 128) (c.args.self.now ++ c.args.label ∷ []) = push_packed c.self.inside.bits c.args.label _ c.args.self.now c.self.invariant c.self.view_is c.requires (omega (arith, c.ranges.label)) (omega (arith, c.requires.few, length-append c.args.self.now (c.args.label ∷ []), c.len.ensures.len)) in
    p.is
