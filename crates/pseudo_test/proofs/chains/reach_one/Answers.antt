use Rattle.std.proofs.Common.{◌∙◌, sym, length}
use Rattle.pseudo_test.proofs.Spreading.{with_can, left_one, taken_one, taken_len}
use Rattle.pseudo_test.proofs.chains.reach_one.Goals as goal

pub unreachable-requires : goal.unreachable-requires
unreachable-requires c = c.in_default.ensures (with_can c.args.incidence.now c.requires)

pub returns-then-not-remove : goal.returns-then-not-remove
returns-then-not-remove c = left_one c.args.incidence.now c.in-Some.facet c.args.reached.now.items c.args.rest.now c.remove.new.self c.in-Some.ensures.1 (sym c.remove.ensures.test ∙ c.if-not-remove.true) c.if-not-remove.ensures.unchanged

pub returns : goal.returns
returns c = taken_one c.args.incidence.now c.in-Some.facet c.args.reached.now.items c.push.new.self.items c.args.rest.now c.remove.new.self c.in-Some.ensures.1 (sym c.remove.ensures.test ∙ c.if-not-remove.false) c.in_ok-push.ensures.items c.remove.ensures.updates.0 (taken_len c.remove.result (length c.remove.new.self.keys) (length c.args.rest.now.keys) c.if-not-remove.false c.remove.ensures.len)
