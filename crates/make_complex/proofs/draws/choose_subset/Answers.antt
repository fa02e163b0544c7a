use Rattle.std.proofs.Common.{◌∙◌, ◌<◌, sym, subst, length, List, ℕ}
use Rattle.make_complex.proofs.Choosing.{some_subset}
use Rattle.make_complex.proofs.draws.choose_subset.Goals as goal

pub choose-requires : goal.choose-requires
choose-requires c =
    let P : List (List ℕ) → Type 0 = λ fs. 0 < length fs in
    subst P (sym (c.deref.ensures.value ∙ c.in_ok-subsets.ensures.subsets)) (some_subset c.args.size c.args.facet.now c.requires)
