use Rattle.std.proofs.Common.{◌∙◌}
use Rattle.flip_world.proofs.Drafts.{made_flips, draft_of}
use Rattle.flip_world.proofs.draft.Draft.make.Goals as goal

pub exchange-requires-clause-some : goal.exchange-requires-clause-some
exchange-requires-clause-some c = (made_flips c.args.complex.now c.args.self.now c.self.inside.out.items c.self.inside.more.items c.deref.result.now c.deref-2.result.now (draft_of _ _ _ _ c.self.view_is c.self.invariant) c.facets-facets.ensures.complex c.requires.replays c.requires.some c.deref.ensures.value c.deref-2.ensures.value).some

pub exchange-requires-clause-pure : goal.exchange-requires-clause-pure
exchange-requires-clause-pure c = (made_flips c.args.complex.now c.args.self.now c.self.inside.out.items c.self.inside.more.items c.deref.result.now c.deref-2.result.now (draft_of _ _ _ _ c.self.view_is c.self.invariant) c.facets-facets.ensures.complex c.requires.replays c.requires.some c.deref.ensures.value c.deref-2.ensures.value).pure

pub returns-in-Ok-clause-ok : goal.returns-in-Ok-clause-ok
returns-in-Ok-clause-ok c = c.in-Ok.ensures.ok ∙ (made_flips c.args.complex.now c.args.self.now c.self.inside.out.items c.self.inside.more.items c.deref.result.now c.deref-2.result.now (draft_of _ _ _ _ c.self.view_is c.self.invariant) c.facets-facets.ensures.complex c.requires.replays c.requires.some c.deref.ensures.value c.deref-2.ensures.value).is
