use Rattle.flip_rules.proofs.Journals.{shortest_exists, shortest_is_one, stars_exist, star_is_one, star_stays}
use Rattle.flip_rules.proofs.laws.journal_law.Goals as goal

pub returns-clause-fronts : goal.returns-clause-fronts
returns-clause-fronts c = shortest_exists

pub returns-clause-front : goal.returns-clause-front
returns-clause-front c = shortest_is_one

pub returns-clause-stars : goal.returns-clause-stars
returns-clause-stars c = stars_exist

pub returns-clause-star : goal.returns-clause-star
returns-clause-star c = star_is_one

pub returns-clause-stays : goal.returns-clause-stays
returns-clause-stays c = star_stays
