use Rattle.std.proofs.Common.{arith, rules}
use Rattle.job_manifold.proofs.Searched.{can_search, open_comes, open_quits}
use Rattle.job_manifold.proofs.job.search.Goals as goal

pub search_links-requires-clause-links : goal.search_links-requires-clause-links
search_links-requires-clause-links g c κs within = can_search c.args.complex.now c.requires.limits c.requires.looks

pub search_links-requires-clause-gates : goal.search_links-requires-clause-gates
search_links-requires-clause-gates g c = omega (arith, c.requires.numbers.workers, c.requires.gates)

pub returns-in_ok-open_text-in-Open-clause-searched : goal.returns-in_ok-open_text-in-Open-clause-searched
returns-in_ok-open_text-in-Open-clause-searched g c = open_comes c.args.complex.now c.args.plan.now c.in_ok-lists.field-0 c.in-Open.left _ _ c.in-Open.is c.in_ok-lists.ensures.answers (search rules) (search rules)

pub returns-in_ok-open_text-in-Open-clause-quits : goal.returns-in_ok-open_text-in-Open-clause-quits
returns-in_ok-open_text-in-Open-clause-quits g c = open_quits (λ x. g.G.Gate.quits x) c.args.gates.now c.search_links.new.gates c.in_ok-lists.field-0 c.in-Open.left c.in-Open.is c.in_ok-lists.ensures.quits
