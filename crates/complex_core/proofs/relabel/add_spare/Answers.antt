use Rattle.std.proofs.Common.{◌++◌, ◌∷◌, [], ◌+◌, sym, ◌∙◌, ap, append_assoc}
use Rattle.complex_core.specs.Maps.{next_after}
use Rattle.complex_core.proofs.Places.{next_after_push}
use Rattle.complex_core.proofs.relabel.add_spare.Goals as goal

pub loop-more-preserved : goal.loop-more-preserved
loop-more-preserved c =
    let n = c.args.greatest in
    let i = c.loop-more.more in
    c.in_ok-push.ensures.items ∙ ap (λ xs. xs ++ (n + i + 1) ∷ []) c.loop-more.invariant ∙ append_assoc c.args.labels.now.items (next_after n i) ((n + i + 1) ∷ []) ∙ ap (λ xs. c.args.labels.now.items ++ xs) (sym (next_after_push n i))
