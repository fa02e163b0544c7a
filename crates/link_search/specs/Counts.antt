-- How often gates said that a try ends, over the searches of all links.
use Rattle.std.specs.Prelude.{ℕ}
use Rattle.sphere_search.specs.declared.search.Searched.{Searched}
use Rattle.sphere_search.specs.declared.search.Searched.TheVariants.{Found, Gave}
use Rattle.link_check.specs.LinkSearches.{all_quits}
use Rattle.link_check.specs.declared.link_search.Links.{Links}
use Rattle.link_check.specs.declared.link_search.Links.TheVariants.{Manifold, Open}
use Rattle.round_run.specs.Gates.{all_quits_at}
use Rattle.round_run.specs.Reports.{ReportView}

-- the quits in the rounds of a report, of worker i, counted from 0
abbrev pub report_quits : ReportView → ℕ → ℕ
report_quits r i = all_quits_at r.rounds i

-- those that a search of one link tells: none where it found flips
abbrev pub searched_quits : Searched ReportView → ℕ → ℕ
searched_quits (Found flips) = λ i. 0
searched_quits (Gave r) = report_quits r

-- and those in all reports that are left
abbrev pub links_quits : Links ReportView → ℕ → ℕ
links_quits (Manifold lists) = λ i. 0
links_quits (Open left) = all_quits report_quits left.items
