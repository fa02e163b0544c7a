use Rattle.std.proofs.Common.{◌∙◌, refl, List, ℕ, subst, sym}
use Rattle.std.specs.List.{AllByRecursion}
use Rattle.complex_core.specs.Complexes.{IsFacet}
use Rattle.flip_rules.proofs.Links.{flipped_by_sides}
use Rattle.flip_rules.proofs.flip.apply.Goals as goal

pub exchange-requires-clause-pure : goal.exchange-requires-clause-pure
exchange-requires-clause-pure c = let P : List (List ℕ) → Type 0 = λ fs. AllByRecursion (IsFacet c.args.complex.now.dim) fs in subst P (sym (c.as_slice-2.ensures ∙ c.join_boundary-more.ensures)) c.in_default.ensures.facets.pure

pub returns-in-Ok-clause-ok : goal.returns-in-Ok-clause-ok
returns-in-Ok-clause-ok c =
    c.in-Ok.ensures.ok
    ∙ flipped_by_sides c.args.complex.now c.args.flip.now.a c.args.flip.now.b c.as_slice.result.now c.as_slice-2.result.now (c.as_slice.ensures ∙ c.join_boundary-out.ensures) (c.as_slice-2.ensures ∙ c.join_boundary-more.ensures) (c.in_default.ensures.legal.0 refl).link
