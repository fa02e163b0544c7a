use Rattle.std.proofs.Common.{rules, ◌≡◌, ◌∙◌, ap, codes, fold}
use Rattle.clap.specs.Words.{App, app_of, new_app, with_rule}
use Rattle.clap.specs.Simple.{app_of_fields}
use Rattle.job_words.specs.Command.{complex_rules, phase_rules, size_rules, the_app, wanted_rule, without_name}
use Rattle.job_words.proofs.command.command.Goals as goal

pub returns : goal.returns
unfolding the_app
returns c =
    let named : app_of c.new.result ≡ new_app (codes "bistellar") = search rules in
    let plain = ap app_of_fields c.no_binary_name-plain.ensures ∙ ap without_name named in
    let job : app_of c.in_ok-job.job ≡ with_rule (app_of c.no_binary_name-plain.result) (wanted_rule (codes "job")) = search rules in
    let job_app = job ∙ ap (λ (a : App). with_rule a (wanted_rule (codes "job"))) plain in
    let sizes = c.in_ok-sizes.ensures ∙ ap (λ (a : App). fold with_rule a size_rules) job_app in
    let phases = c.in_ok-phases.ensures ∙ ap (λ (a : App). fold with_rule a phase_rules) sizes in
    c.in_ok-complex.ensures ∙ ap (λ (a : App). fold with_rule a complex_rules) phases
