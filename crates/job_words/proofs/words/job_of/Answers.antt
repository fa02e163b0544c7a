use Rattle.std.proofs.Common.{rules}
use Rattle.clap.specs.Words.{found_of, rows_of}
use Rattle.job_words.proofs.Asked.{other_dim_found}
use Rattle.job_words.proofs.words.job_of.Goals as goal

pub returns-then-not-can_have-clause-err : goal.returns-then-not-can_have-clause-err
returns-then-not-can_have-clause-err c =
    other_dim_found (rows_of (found_of c.args.matches.now)) c.in-Some.name c.in-Some-from_name.kind c.number-dim.result
    (search rules) (search rules) (search rules) (search rules) (search rules)
