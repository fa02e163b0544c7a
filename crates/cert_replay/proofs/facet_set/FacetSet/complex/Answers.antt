use Rattle.std.proofs.Common.{◌≡◌}
use Rattle.complex_core.specs.declared.complex.ComplexFault.TheVariants.{Limit, Mixed, Memory}
use Rattle.cert_replay.proofs.RowSets.{complex_told, never_refused}
use Rattle.cert_replay.proofs.facet_set.FacetSet.complex.Goals as goal

pub returns-in-Ok : goal.returns-in-Ok
returns-in-Ok c = complex_told c.args.self.now c.in-Ok.complex c.self.inside.dim c.self.inside.rows c.in_ok-facets.facets.items c.deref.result.now c.self.view_is c.self.invariant.1 c.in_ok-facets.ensures c.deref.ensures.value c.in-Ok.ensures.facets c.in-Ok.ensures.dim

pub unreachable-requires-in-Err-Limit : goal.unreachable-requires-in-Err-Limit
unreachable-requires-in-Err-Limit c =
    let e : Limit c.in-Err-Limit.field-0-0 ≡ Memory = never_refused c.self.inside.dim c.self.inside.rows c.in_ok-facets.facets.items c.deref.result.now (Limit c.in-Err-Limit.field-0-0) c.self.invariant.1 c.in_ok-facets.ensures c.deref.ensures.value (rw c.in-Err-Limit.field-0-is at c.in-Err-Limit.ensures.err) in
    cc

pub unreachable-requires-in-Err-Mixed : goal.unreachable-requires-in-Err-Mixed
unreachable-requires-in-Err-Mixed c =
    let e : Mixed c.in-Err-Mixed.field-0-0 ≡ Memory = never_refused c.self.inside.dim c.self.inside.rows c.in_ok-facets.facets.items c.deref.result.now (Mixed c.in-Err-Mixed.field-0-0) c.self.invariant.1 c.in_ok-facets.ensures c.deref.ensures.value (rw c.in-Err-Mixed.field-0-is at c.in-Err-Mixed.ensures.err) in
    cc
