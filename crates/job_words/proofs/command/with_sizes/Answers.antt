use Rattle.std.proofs.Common.{rules, ◌≡◌, ◌∙◌, ap, codes}
use Rattle.clap.specs.Words.{App, app_of, with_rule}
use Rattle.job_words.specs.Command.{number_rule}
use Rattle.job_words.proofs.command.with_sizes.Goals as goal

pub returns : goal.returns
returns c =
    let workers : app_of c.in_ok-workers.workers ≡ with_rule (app_of c.args.command) (number_rule (codes "workers") 1 16 (codes "4")) = search rules in
    let seed : app_of c.in_ok-seed.seed ≡ with_rule (app_of c.in_ok-workers.workers) (number_rule (codes "seed") 0 4294967295 (codes "1")) = search rules in
    let rounds : app_of c.in_ok-rounds.rounds ≡ with_rule (app_of c.in_ok-seed.seed) (number_rule (codes "rounds") 0 10000 (codes "40")) = search rules in
    let tries : app_of c.in_ok-tries.tries ≡ with_rule (app_of c.in_ok-rounds.rounds) (number_rule (codes "tries") 1 1000 (codes "200")) = search rules in
    tries ∙ ap (λ (a : App). with_rule a (number_rule (codes "tries") 1 1000 (codes "200"))) (rounds ∙ ap (λ (a : App). with_rule a (number_rule (codes "rounds") 0 10000 (codes "40"))) (seed ∙ ap (λ (a : App). with_rule a (number_rule (codes "seed") 0 4294967295 (codes "1"))) (workers)))
