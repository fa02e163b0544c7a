use Rattle.std.proofs.Common.{◌≤◌, ◌∙◌, List, sym, subst, arith, rules}
use Rattle.complex_core.specs.Maps.{used, greatest}
use Rattle.flip_rules.specs.declared.flip.Flip.{Flip}
use Rattle.sphere_search.specs.Searches.{ShowsSphere}
use Rattle.sphere_search.proofs.Labels.{greatest_small}
use Rattle.link_check.proofs.LinkSearching.{points_show}
use Rattle.link_search.proofs.Counting.{at_rest}
use Rattle.link_search.proofs.Telling.{sphere_shows}
use Rattle.link_search.proofs.links.search_link.Goals as goal

pub returns-then-dim-eq0-clause-answers : goal.returns-then-dim-eq0-clause-answers
returns-then-dim-eq0-clause-answers g c =
    let P : List Flip → Type 0 = λ flips. ShowsSphere c.args.link.now flips in
    subst P (sym c.new.ensures.items) (points_show c.args.link.now c.dim.ensures.complex (sym c.dim.ensures.dim ∙ c.if-dim-eq0.true) c.requires.closed)

pub returns-then-dim-eq0-clause-quits : goal.returns-then-dim-eq0-clause-quits
returns-then-dim-eq0-clause-quits g c = at_rest (λ x. g.G.Gate.quits x) c.args.gates.now

pub returns-then-dim-eq0-clause-later : goal.returns-then-dim-eq0-clause-later
returns-then-dim-eq0-clause-later g c = at_rest (λ x. g.G.Gate.quits x) c.args.gates.now

pub search_sphere-requires-clause-labels : goal.search_sphere-requires-clause-labels
search_sphere-requires-clause-labels g c =
    let most : greatest (used c.args.link.now.facets) ≤ 60000 = greatest_small 60000 (used c.args.link.now.facets) c.requires.labels in
    omega (arith, most, c.keeps_limits.ensures.room.1)

pub returns-in_ok-named_flips-in-Sphere-clause-answers : goal.returns-in_ok-named_flips-in-Sphere-clause-answers
returns-in_ok-named_flips-in-Sphere-clause-answers g c = sphere_shows c.args.link.now c.args.plan.now c.in-Sphere.report _ c.dim.ensures.complex c.keeps_limits.ensures (search rules) c.in_ok-named_flips-in-Sphere.ensures
