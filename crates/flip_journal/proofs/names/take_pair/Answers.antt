use Rattle.std.proofs.Common.{◌∙◌, sym, rules}
use Rattle.std.proofs.lemmas.List.Sorted.{answers_always}
use Rattle.complex_core.proofs.Pairs.{none_searched}
use Rattle.flip_journal.proofs.Kept.{none_left_out, pair_taken}
use Rattle.flip_journal.proofs.names.take_pair.Goals as goal

pub returns-in-Ok : goal.returns-in-Ok
returns-in-Ok c =
    c.remove.ensures.items
    ∙ pair_taken c.deref.result.now c.args.pairs.now.items c.args.label c.in-Ok.position c.deref.ensures.value c.requires.differ c.in-Ok.ensures.bound (c.in-Ok.ensures.position (λ p. p.0) (answers_always _ _ _ (λ f a r g called. search rules)))

pub returns-in_default : goal.returns-in_default
returns-in_default c =
    sym (none_left_out c.args.pairs.now.items c.args.label (none_searched c.deref.result.now c.args.pairs.now.items c.args.label c.in_default.field-0 c.deref.ensures.value c.requires.rising (c.in_default.ensures.position (λ p. p.0) (answers_always _ _ _ (λ f a r g called. search rules)))))
