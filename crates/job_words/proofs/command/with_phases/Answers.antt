use Rattle.std.proofs.Common.{rules, ◌≡◌, ◌∙◌, ap, codes}
use Rattle.clap.specs.Words.{App, app_of, with_rule}
use Rattle.job_words.specs.Command.{number_rule}
use Rattle.job_words.proofs.command.with_phases.Goals as goal

pub returns : goal.returns
returns c =
    let heat : app_of c.in_ok-heat.heat ≡ with_rule (app_of c.args.command) (number_rule (codes "heat") 0 1000 (codes "6")) = search rules in
    let relax : app_of c.in_ok-relax.relax ≡ with_rule (app_of c.in_ok-heat.heat) (number_rule (codes "relax") 0 1000 (codes "40")) = search rules in
    let depth : app_of c.in_ok-depth.depth ≡ with_rule (app_of c.in_ok-relax.relax) (number_rule (codes "depth") 1 4 (codes "2")) = search rules in
    let room : app_of c.in_ok-room.room ≡ with_rule (app_of c.in_ok-depth.depth) (number_rule (codes "room") 1 1024 (codes "16")) = search rules in
    room ∙ ap (λ (a : App). with_rule a (number_rule (codes "room") 1 1024 (codes "16"))) (depth ∙ ap (λ (a : App). with_rule a (number_rule (codes "depth") 1 4 (codes "2"))) (relax ∙ ap (λ (a : App). with_rule a (number_rule (codes "relax") 0 1000 (codes "40"))) (heat)))
