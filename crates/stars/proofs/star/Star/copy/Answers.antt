use Rattle.std.proofs.Common.{◌∙◌, sym, subst}
use Rattle.stars.specs.CandidateLists.{AreLists}
use Rattle.stars.proofs.Views.{same_star}
use Rattle.stars.proofs.star.Star.copy.Goals as goal

pub invariant_of-result : goal.invariant_of-result
invariant_of-result c = same_star _ _ c.self.inside.lists.items c.copies_of.result.items (λ i. record { vertex = c.self.inside.vertex; dim = c.self.inside.dim; rows = (c.in_ok-from_slice.ensures.items ∙ c.deref.ensures.value) i }) c.self.invariant (λ r h. c.copies_of.ensures r (subst (AreLists r) (sym c.deref-2.ensures.value) h))
