use Rattle.std.proofs.Common.{rules}
use Rattle.anneal_plan.specs.Proposals.{candidates}
use Rattle.anneal_plan.proofs.Trying.{index_decides, index_passed, no_index}
use Rattle.anneal_plan.proofs.propose.first_flip.Goals as goal

pub returns-in-Some : goal.returns-in-Some
returns-in-Some c =
    index_decides (candidates c.args.star.now.star c.args.fresh) c.args.word c.args.indices.first c.args.indices.count c.loop-tried.tried _ c.in-Some.flip c.loop-tried-test.true c.loop-tried.invariant c.in-Some.ensures

pub loop-tried-preserved : goal.loop-tried-preserved
loop-tried-preserved c =
    index_passed (candidates c.args.star.now.star c.args.fresh) c.args.word c.args.indices.first c.args.indices.count c.loop-tried.tried _ c.chosen_flip.result c.loop-tried-test.true c.loop-tried.invariant c.chosen_flip.ensures (search rules)

pub returns : goal.returns
returns c = no_index (candidates c.args.star.now.star c.args.fresh) c.args.word c.args.indices.first c.args.indices.count c.loop-tried.tried _ c.loop-tried-test.false c.loop-tried.invariant
