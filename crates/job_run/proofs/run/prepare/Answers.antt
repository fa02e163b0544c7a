use Rattle.std.proofs.Common.{map, string_bytes, ap, ◌∙◌, rules}
use Rattle.job_answer.proofs.Meanings.{if_ok_so}
use Rattle.job_run.specs.Jobs.{takes_input}
use Rattle.job_run.proofs.Jobs.{one_job}
use Rattle.job_run.proofs.Known.{found_is_answer}
use Rattle.job_run.proofs.run.prepare.Goals as goal

pub returns-in-Some-clause-told : goal.returns-in-Some-clause-told
returns-in-Some-clause-told g c = if_ok_so c.find_answer.result _ _ (λ a h. found_is_answer (g.S.Source.left c.args.source.now) (map string_bytes c.args.words.now) c.in-Some.job a.status a.text.items a.report (search rules) h) c.find_answer.ensures.told

pub returns-in-Some-clause-taken : goal.returns-in-Some-clause-taken
returns-in-Some-clause-taken g c = if_ok_so c.find_answer.result _ _ (λ a h j n t v. h (ap takes_input (one_job (map string_bytes c.args.words.now) c.in-Some.job j (search rules) n) ∙ t) v) c.find_answer.ensures.taken
