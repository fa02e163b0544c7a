use Rattle.core_laws.specs.Cores.{after}
use Rattle.flip_world.proofs.Drafts.{draft_near}
use Rattle.flip_world.proofs.judge.judged.Goals as goal

pub returns-clause-broken_rule : goal.returns-clause-broken_rule
returns-clause-broken_rule c = c.check_near.ensures.broken_rule (after c.args.complex.now c.args.draft.now)
    (draft_near c.args.complex.now c.args.draft.now c.around.result.now c.around-2.result.now c.in_ok-near_a.near_a.items c.in_ok-near_b.near_b.items c.deref.result.now c.deref-2.result.now c.args.flip.now.a c.args.flip.now.b c.dim.result
    c.dim.ensures.complex c.requires c.in_ok-near_a.ensures.over c.in_ok-near_b.ensures.over c.around.ensures.over c.around-2.ensures.over c.deref.ensures.value c.deref-2.ensures.value c.dim.ensures.dim)
