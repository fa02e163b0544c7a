use Rattle.std.proofs.Common.{◌++◌, ◌∙◌, vec_capacity, length, arith}
use Rattle.complex_core.specs.Labels.{face_cmp}
use Rattle.complex_core.specs.Rising.{rising}
use Rattle.complex_core.specs.Complexes.{staying}
use Rattle.complex_core.proofs.Exchanges.{both_fit}
use Rattle.flip_world.proofs.Drafts.{made_push}
use Rattle.flip_world.proofs.draft.Draft.push.Goals as goal

pub put_all_in-requires-clause-room : goal.put_all_in-requires-clause-room
put_all_in-requires-clause-room c = both_fit c.reserve.new.self.items c.as_slice-out.result.now (vec_capacity c.reserve.new.self) (omega (arith, c.reserve.new.self.ok.0, c.in_ok-reserve.ensures.ok))

pub put_all_in-requires-2-clause-room : goal.put_all_in-requires-2-clause-room
put_all_in-requires-2-clause-room c = both_fit c.take_all_out.new.sets.items c.as_slice-more.result.now (vec_capacity c.take_all_out.new.sets) (omega (arith, c.take_all_out.new.sets.ok.0, c.take_all_out.ensures.len, c.take_all_out.ensures.capacity, c.in_ok-reserve-2.ensures.ok))

pub invariant_of-self-2 : goal.invariant_of-self-2
invariant_of-self-2 c = made_push c.self.inside.flips.items c.self.inside.out.items c.self.inside.more.items c.args.flip.now c.as_slice-out.result.now c.as_slice-more.result.now c.put_all_in.new.sets.items c.take_all_out.new.sets.items c.put_all_in-2.new.sets.items c.push.new.self.items c.self.invariant c.labels-first.ensures.face c.labels-second.ensures.face (c.as_slice-out.ensures ∙ c.join_boundary-old_sides.ensures) (c.as_slice-more.ensures ∙ c.join_boundary-new_sides.ensures)
    (c.put_all_in.ensures.items ∙ (λ i. rising face_cmp (c.reserve.ensures.items i ++ c.as_slice-out.result.now)))
    (c.take_all_out.ensures.items ∙ (λ i. staying (c.reserve-2.ensures.items i) c.as_slice-out.result.now))
    c.put_all_in-2.ensures.items
    c.in_ok-push.ensures.items
