use Rattle.std.proofs.Common.{◌++◌, ◌∙◌, ap}
use Rattle.complex_core.specs.Labels.{face_cmp}
use Rattle.complex_core.specs.Rising.{rising}
use Rattle.complex_core.specs.Complexes.{over, staying}
use Rattle.flip_world.proofs.Drafts.{Near, made_near, draft_of}
use Rattle.flip_world.proofs.draft.Draft.near.Goals as goal

near_of : (c : goal.After-drop-held-2) → Near c.args.self.now c.args.run.now c.args.set.now c.in_ok-near.near.items
near_of c = made_near c.args.self.now c.self.inside.out.items c.self.inside.more.items c.args.run.now c.args.set.now c.in_ok-held.held.items c.in_ok-left.left.items c.in_ok-added.added.items c.in_ok-near.near.items
    (draft_of _ _ _ _ c.self.view_is c.self.invariant)
    c.in_ok-held.ensures
    (c.in_ok-left.ensures ∙ (λ i. staying (c.deref.ensures.value i) (c.deref-2.ensures.value i)))
    (c.in_ok-added.ensures ∙ ap (λ fs. over fs c.args.set.now) c.deref-3.ensures.value)
    (c.in_ok-near.ensures ∙ (λ i. rising face_cmp (c.deref-4.ensures.value i ++ c.deref-5.ensures.value i)))

pub returns-clause-over : goal.returns-clause-over
returns-clause-over c = (near_of c).over

pub returns-clause-rising : goal.returns-clause-rising
returns-clause-rising c = (near_of c).rising
