use Rattle.std.proofs.Common.{◌∙◌, List, ℕ, subst, sym}
use Rattle.std.specs.List.{AllByRecursion}
use Rattle.complex_core.specs.Complexes.{IsFacet}
use Rattle.flip_rules.proofs.Legal.{can_put}
use Rattle.make_complex.proofs.Flipping.{exchanged_is, stars_of_exchange}
use Rattle.make_complex.proofs.draws.make_flip.Goals as goal

pub exchange-requires-clause-pure : goal.exchange-requires-clause-pure
exchange-requires-clause-pure c =
    let P : List (List ℕ) → Type 0 = λ fs. AllByRecursion (IsFacet c.args.complex.now.dim) fs in
    subst P (sym (c.as_slice-in-Ok.ensures ∙ c.join_boundary-more.ensures)) (can_put c.args.complex.now c.args.flip.now.a c.args.flip.now.b c.requires.stars.complex c.flip.ensures.faces.first c.flip.ensures.faces.second c.requires.legal).pure

pub returns-in-Ok-clause-made : goal.returns-in-Ok-clause-made
returns-in-Ok-clause-made c =
    exchanged_is c.args.complex.now _ c.args.flip.now.a c.args.flip.now.b _ _ _ c.requires.legal (c.as_slice.ensures ∙ c.join_boundary-out.ensures) (c.as_slice-in-Ok.ensures ∙ c.join_boundary-more.ensures) c.exchange.ensures.ok

pub returns-in-Ok-clause-stars : goal.returns-in-Ok-clause-stars
returns-in-Ok-clause-stars c =
    stars_of_exchange c.args.complex.now _ _ c.args.flip.now.a c.args.flip.now.b _ (exchanged_is c.args.complex.now _ c.args.flip.now.a c.args.flip.now.b _ _ _ c.requires.legal (c.as_slice.ensures ∙ c.join_boundary-out.ensures) (c.as_slice-in-Ok.ensures ∙ c.join_boundary-more.ensures) c.exchange.ensures.ok) (c.in-Ok.ensures.stars c.args.complex.now c.requires.stars)
