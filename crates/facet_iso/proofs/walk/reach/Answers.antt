use Rattle.std.proofs.Common.{◌∙◌, sym, length, refl}
use Rattle.pseudo_test.proofs.Spreading.{with_can, left_one, taken_one, taken_len, in_tree}
use Rattle.facet_iso.proofs.Walking.{leads_on}
use Rattle.facet_iso.proofs.walk.reach.Goals as goal

pub unreachable-requires : goal.unreachable-requires
unreachable-requires c = c.in_default.ensures (with_can c.args.incidence.now c.requires.face)

pub returns-then-not-remove-clause-moved : goal.returns-then-not-remove-clause-moved
returns-then-not-remove-clause-moved c = left_one c.args.incidence.now c.in-Some.facet c.args.walk.now.reached.items c.args.walk.now.rest c.remove.new.self c.in-Some.ensures.1 (sym c.remove.ensures.test ∙ c.if-not-remove.true) c.if-not-remove.ensures.unchanged

pub returns-clause-moved : goal.returns-clause-moved
returns-clause-moved c = taken_one c.args.incidence.now c.in-Some.facet c.args.walk.now.reached.items c.push.new.self.items c.args.walk.now.rest c.remove.new.self c.in-Some.ensures.1 (sym c.remove.ensures.test ∙ c.if-not-remove.false) c.in_ok-push.ensures.items c.remove.ensures.updates.0 (taken_len c.remove.result (length c.remove.new.self.keys) (length c.args.walk.now.rest.keys) c.if-not-remove.false c.remove.ensures.len)

pub returns-clause-leads : goal.returns-clause-leads
returns-clause-leads c = leads_on c.args.walk.now.reached.items c.args.walk.now.rest.keys c.push.new.self.items c.args.walk.now.steps.items c.push-2.new.self.items c.args.incidence.now c.in-Some.facet _ c.requires.leads c.requires.apart c.requires.from c.requires.left c.requires.ridge refl c.in-Some.ensures.1 (sym (in_tree c.args.walk.now.rest c.in-Some.facet) ∙ sym c.remove.ensures.test ∙ c.if-not-remove.false) c.in_ok-push.ensures.items c.in_ok-push-2.ensures.items
