use Rattle.std.proofs.Common.{subst}
use Rattle.clap.specs.Words.{found_of, rows_of}
use Rattle.job_words.specs.Jobs.{NamesNone}
use Rattle.job_words.specs.declared.job.UsageFault.TheVariants.{Name}
use Rattle.job_words.proofs.Refusals.{unfit_by}
use Rattle.job_words.proofs.words.read_words.Goals as goal

pub returns-clause-name : goal.returns-clause-name
returns-clause-name c is =
    subst NamesNone c.in_ok-matches.ensures.rows
    (unfit_by _ (rows_of (found_of c.in_ok-matches.matches)) Name c.job_of.ensures.err is)
