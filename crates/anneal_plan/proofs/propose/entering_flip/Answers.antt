use Rattle.std.proofs.Common.{rules, sym, ◌∙◌}
use Rattle.anneal_plan.proofs.Choosing.{no_label, none_enters, row_missed, row_enters}
use Rattle.anneal_plan.proofs.propose.entering_flip.Goals as goal

pub returns-in_err-label : goal.returns-in_err-label
returns-in_err-label c = c.from_residual.ensures ∙ sym (no_label c.args.star.now.star c.args.fresh c.args.word c.in_err-label.was)

pub returns-then-count-eq0 : goal.returns-then-count-eq0
returns-then-count-eq0 c = none_enters c.args.star.now.star c.args.fresh c.in_ok-label.label c.args.word c.count_apart-count.result (search rules) (search rules) c.if-count-eq0.true

pub returns-in_err-a : goal.returns-in_err-a
returns-in_err-a c = row_missed c.args.star.now.star c.args.fresh c.in_ok-label.label c.args.word c.count_apart-count.result c.nth_apart.result _ (search rules) (search rules) (search rules) (search rules) (search rules)

pub returns : goal.returns
returns c = row_enters c.args.star.now.star c.args.fresh c.in_ok-label.label c.args.word c.count_apart-count.result c.in_ok-a.a c.in_ok-b.b (search rules) (search rules) (search rules) (search rules)
