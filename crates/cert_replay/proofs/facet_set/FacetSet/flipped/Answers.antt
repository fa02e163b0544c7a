use Rattle.std.proofs.Common.{◌∙◌, subst}
use Rattle.cert_replay.specs.Rows.{Puts}
use Rattle.cert_replay.proofs.RowSets.{flip_keeps}
use Rattle.cert_replay.proofs.facet_set.FacetSet.flipped.Goals as goal

pub invariant_of-result : goal.invariant_of-result
invariant_of-result c = (flip_keeps c.args.self c.self.inside.dim c.args.flip.now.a c.args.flip.now.b c.in_ok-out.out.items c.deref.result.now c.self.inside.rows c.take_facets.new.rows c.put_facets.new.rows c.self.view_is c.self.invariant.0 c.self.invariant.1 c.in_ok-out.ensures.faces.first c.in_ok-out.ensures.faces.second c.in_ok-out.ensures.legal c.in_ok-out.ensures.out c.deref.ensures.value c.take_facets.ensures (subst (λ fs. Puts fs c.take_facets.new.rows c.put_facets.new.rows) (c.as_slice.ensures ∙ c.join_boundary-more.ensures) c.in-Ok.ensures)).keeps

pub returns-in-Ok-clause-ok : goal.returns-in-Ok-clause-ok
returns-in-Ok-clause-ok c = (flip_keeps c.args.self c.self.inside.dim c.args.flip.now.a c.args.flip.now.b c.in_ok-out.out.items c.deref.result.now c.self.inside.rows c.take_facets.new.rows c.put_facets.new.rows c.self.view_is c.self.invariant.0 c.self.invariant.1 c.in_ok-out.ensures.faces.first c.in_ok-out.ensures.faces.second c.in_ok-out.ensures.legal c.in_ok-out.ensures.out c.deref.ensures.value c.take_facets.ensures (subst (λ fs. Puts fs c.take_facets.new.rows c.put_facets.new.rows) (c.as_slice.ensures ∙ c.join_boundary-more.ensures) c.in-Ok.ensures)).is
