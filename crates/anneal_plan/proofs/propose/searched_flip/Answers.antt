use Rattle.std.proofs.Common.{sym, ap, ◌∙◌, ◌-◌}
use Rattle.anneal_plan.proofs.Choosing.{none_inside, chosen_first, chosen_later}
use Rattle.anneal_plan.proofs.propose.searched_flip.Goals as goal

pub returns-then-count-eq0 : goal.returns-then-count-eq0
returns-then-count-eq0 c =
    none_inside c.args.star.now.star c.args.index _ c.args.word c.count-count.result c.flips_of-first.result c.dim.ensures.star c.requires.low c.requires.high (ap (λ d. d - c.args.index) c.dim.ensures.dim) c.flips_of-first.ensures c.count-count.ensures c.if-count-eq0.true

pub returns-in-Some : goal.returns-in-Some
returns-in-Some c =
    chosen_first c.args.star.now.star c.args.index _ c.args.word c.count-count.result c.flips_of-first.result c.in-Some.flip c.dim.ensures.star c.requires.low c.requires.high (ap (λ d. d - c.args.index) c.dim.ensures.dim) c.flips_of-first.ensures c.count-count.ensures (sym c.in-Some.is ∙ c.get.ensures)

pub returns-in-None : goal.returns-in-None
returns-in-None c =
    chosen_later c.args.star.now.star c.args.index _ c.args.word c.count-count.result c.flips_of-first.result c.flips_of.result _ c.dim.ensures.star c.requires.low c.requires.high (ap (λ d. d - c.args.index) c.dim.ensures.dim) c.flips_of-first.ensures c.count-count.ensures c.flips_of.ensures c.get-in-None.ensures
