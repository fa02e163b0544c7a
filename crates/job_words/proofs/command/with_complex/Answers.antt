use Rattle.std.proofs.Common.{rules, ◌≡◌, ◌∙◌, ap, codes}
use Rattle.clap.specs.Words.{App, app_of, with_rule}
use Rattle.job_words.specs.Command.{number_rule, text_rule}
use Rattle.job_words.proofs.command.with_complex.Goals as goal

pub returns : goal.returns
returns c =
    let kind : app_of c.in_ok-kind.kind ≡ with_rule (app_of c.args.command) (text_rule (codes "kind") (codes "simplex")) = c.in_ok-kind.ensures in
    let dim : app_of c.in_ok-dim.dim ≡ with_rule (app_of c.in_ok-kind.kind) (number_rule (codes "dim") 1 6 (codes "2")) = search rules in
    let draws : app_of c.in_ok-draws.draws ≡ with_rule (app_of c.in_ok-dim.dim) (number_rule (codes "draws") 0 100000 (codes "0")) = search rules in
    draws ∙ ap (λ (a : App). with_rule a (number_rule (codes "draws") 0 100000 (codes "0"))) (dim ∙ ap (λ (a : App). with_rule a (number_rule (codes "dim") 1 6 (codes "2"))) (kind))
