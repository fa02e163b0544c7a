use Rattle.std.proofs.Common.{map, string_bytes, rules}
use Rattle.job_run.proofs.Answering.{verdict_words, undecided_words, silent_words, refused_words, asking_words, begun_usage, nothing_taken}
use Rattle.job_run.proofs.Known.{answer_is_known, begun_is_known, headline_is_known, complete_is_known}
use Rattle.job_run.proofs.run.run_job.Goals as goal

pub returns-in-Ok-write_all-clause-answer : goal.returns-in-Ok-write_all-clause-answer
returns-in-Ok-write_all-clause-answer g c = λ w. answer_is_known (g.S.Source.left c.args.source.now) (g.K.Sink.written c.args.sink.now) (g.K.Sink.written c.write_all.new.sink) (map string_bytes c.args.words.now) c.in-Ok.field-0.status c.in-Ok.field-0.text.items c.in-Ok.field-0.report (search rules) (search rules)

pub returns-in-Ok-clause-prefix : goal.returns-in-Ok-clause-prefix
returns-in-Ok-clause-prefix g c = λ w. begun_is_known (g.S.Source.left c.args.source.now) (g.K.Sink.written c.args.sink.now) (g.K.Sink.written c.write_all.new.sink) (map string_bytes c.args.words.now) c.in-Ok.field-0.status c.in-Ok.field-0.text.items c.in-Ok.field-0.report (search rules) (search rules)

pub returns-in-Ok-write_all-clause-refused : goal.returns-in-Ok-write_all-clause-refused
returns-in-Ok-write_all-clause-refused g c = λ n. refused_words (map string_bytes c.args.words.now) c.in-Ok.field-0.status c.in-Ok.field-0.text.items c.in-Ok.field-0.report (search rules) n

pub returns-in-Ok-write_all-clause-job : goal.returns-in-Ok-write_all-clause-job
returns-in-Ok-write_all-clause-job g c = λ j n e. asking_words (map string_bytes c.args.words.now) c.in-Ok.field-0.status c.in-Ok.field-0.text.items c.in-Ok.field-0.report (search rules) j n e

pub returns-in-Ok-clause-usage_begun : goal.returns-in-Ok-clause-usage_begun
returns-in-Ok-clause-usage_begun g c = λ n w. begun_usage (g.K.Sink.written c.args.sink.now) (g.K.Sink.written c.write_all.new.sink) (map string_bytes c.args.words.now) c.in-Ok.field-0.status c.in-Ok.field-0.text.items c.in-Ok.field-0.report (search rules) n (search rules)

pub returns-in-Ok-write_all-clause-undecided : goal.returns-in-Ok-write_all-clause-undecided
returns-in-Ok-write_all-clause-undecided g c = λ e. undecided_words (map string_bytes c.args.words.now) c.in-Ok.field-0.status c.in-Ok.field-0.text.items c.in-Ok.field-0.report (search rules) e

pub returns-in-Ok-write_all-clause-reported : goal.returns-in-Ok-write_all-clause-reported
returns-in-Ok-write_all-clause-reported g c = λ j n v. (verdict_words (map string_bytes c.args.words.now) c.in-Ok.field-0.status c.in-Ok.field-0.text.items c.in-Ok.field-0.report (search rules) j n v).fits

pub returns-in-Ok-write_all-clause-report : goal.returns-in-Ok-write_all-clause-report
returns-in-Ok-write_all-clause-report g c = λ t o. silent_words (map string_bytes c.args.words.now) c.in-Ok.field-0.status c.in-Ok.field-0.text.items c.in-Ok.field-0.report (search rules) t o

pub returns-in-Ok-write_all-clause-headline : goal.returns-in-Ok-write_all-clause-headline
returns-in-Ok-write_all-clause-headline g c = λ j n v. headline_is_known (g.S.Source.left c.args.source.now) (g.K.Sink.written c.args.sink.now) (g.K.Sink.written c.write_all.new.sink) (map string_bytes c.args.words.now) j c.in-Ok.field-0.status c.in-Ok.field-0.text.items c.in-Ok.field-0.report (search rules) (search rules) n v

pub returns-in-Ok-write_all-clause-complete : goal.returns-in-Ok-write_all-clause-complete
returns-in-Ok-write_all-clause-complete g c = λ j n a b. complete_is_known (g.S.Source.left c.args.source.now) (map string_bytes c.args.words.now) j c.in-Ok.field-0.status c.in-Ok.field-0.text.items c.in-Ok.field-0.report (search rules) n

pub returns-in-Ok-write_all-clause-verdict : goal.returns-in-Ok-write_all-clause-verdict
returns-in-Ok-write_all-clause-verdict g c = λ j n v. (verdict_words (map string_bytes c.args.words.now) c.in-Ok.field-0.status c.in-Ok.field-0.text.items c.in-Ok.field-0.report (search rules) j n v).ends

pub returns-in-Ok-clause-report : goal.returns-in-Ok-clause-report
returns-in-Ok-clause-report g c = λ t o. silent_words (map string_bytes c.args.words.now) c.in-Ok.field-0.status c.in-Ok.field-0.text.items c.in-Ok.field-0.report (search rules) t o

pub returns-in-Err-ReadFault-clause-refused : goal.returns-in-Err-ReadFault-clause-refused
returns-in-Err-ReadFault-clause-refused g c = λ n. absurd (c.prepare.ensures.named (nothing_taken (map string_bytes c.args.words.now) n) (search rules))
