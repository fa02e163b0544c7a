use Rattle.std.proofs.Common.{ap, sym, ◌∙◌, length, rules}
use Rattle.facet_iso.proofs.Determined.{one_found}
use Rattle.facet_iso.proofs.Least.{other_dim, other_number}
use Rattle.facet_iso.proofs.least_map.isomorphism.Goals as goal

pub returns-then-dim-clause-none : goal.returns-then-dim-clause-none
returns-then-dim-clause-none c = other_dim c.args.first.now c.args.second.now c.dim.ensures.complex c.dim-2.ensures.complex (λ e. c.if-dim.true (c.dim.ensures.dim ∙ e ∙ sym c.dim-2.ensures.dim))

pub returns-then-facets-clause-none : goal.returns-then-facets-clause-none
returns-then-facets-clause-none c = other_number c.args.first.now c.args.second.now c.dim.ensures.complex c.dim-2.ensures.complex (λ e. c.if-facets.true (ap length c.facets.ensures.facets ∙ e ∙ sym (ap length c.facets-2.ensures.facets)))

pub returns-clause-one : goal.returns-clause-one
returns-clause-one c = one_found c.args.first.now c.args.second.now c.in_ok-least_map.field-0 c.dim.ensures.complex c.dim-2.ensures.complex (search rules) (search rules) c.in_ok-least_map.ensures.least
