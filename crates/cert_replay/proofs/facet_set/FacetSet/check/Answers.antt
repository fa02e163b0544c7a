use Rattle.std.proofs.Common.{◌∙◌, sym, ap}
use Rattle.complex_core.specs.Complexes.{ComplexView}
use Rattle.cert_replay.proofs.RowSets.{broken_rule_told}
use Rattle.cert_replay.proofs.facet_set.FacetSet.check.Goals as goal

pub returns-in-Ok-check_near-clause-legal : goal.returns-in-Ok-check_near-clause-legal
returns-in-Ok-check_near-clause-legal c =
    sym (broken_rule_told c.args.self.now c.self.inside.dim c.deref.result.now c.deref-2.result.now c.args.flip.now.a c.args.flip.now.b (ap (λ (l : ComplexView). l.dim) c.self.view_is) (λ n. c.deref.ensures.value ∙ c.in-Ok.ensures.over n) (λ n. c.deref-2.ensures.value ∙ c.in-Ok-over.ensures.over n))
    ∙ sym c.check_near.ensures.near ∙ c.in-Ok-check_near.is

pub returns-in-Err-clause-broken_rule : goal.returns-in-Err-clause-broken_rule
returns-in-Err-clause-broken_rule c =
    sym (broken_rule_told c.args.self.now c.self.inside.dim c.deref.result.now c.deref-2.result.now c.args.flip.now.a c.args.flip.now.b (ap (λ (l : ComplexView). l.dim) c.self.view_is) (λ n. c.deref.ensures.value ∙ c.in-Ok.ensures.over n) (λ n. c.deref-2.ensures.value ∙ c.in-Ok-over.ensures.over n))
    ∙ sym c.check_near.ensures.near ∙ c.in-Err.is
