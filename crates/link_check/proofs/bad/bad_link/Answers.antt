use Rattle.link_check.proofs.Judged.{found_of, none_of}
use Rattle.link_check.proofs.bad.bad_link.Goals as goal

pub returns-clause-found : goal.returns-clause-found
returns-clause-found c = found_of c.args.complex.now _ c.first_bad.ensures

pub returns-clause-none : goal.returns-clause-none
returns-clause-none c = none_of c.args.complex.now _ c.first_bad.ensures
