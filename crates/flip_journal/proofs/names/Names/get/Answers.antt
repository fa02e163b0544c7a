use Rattle.std.proofs.Common.{◌≡◌, ℕ, List, subst, true, false, ◌∙◌, ap, sym, rules}
use Rattle.std.proofs.lemmas.List.Sorted.{answers_always}
use Rattle.complex_core.specs.Maps.{takes, at}
use Rattle.complex_core.proofs.Pairs.{one_searched, none_searched}
use Rattle.flip_journal.proofs.names.Names.get.Goals as goal

pub returns-in-Ok-clause-get : goal.returns-in-Ok-clause-get
returns-in-Ok-clause-get c =
    let P : List (ℕ × ℕ) → Type 0 = λ ps. (takes ps c.args.label ≡ true) × (c.index.result.now.1 ≡ at ps c.args.label) in
    subst P c.self.view_is (one_searched c.deref.result.now c.self.inside.pairs.items c.args.label c.in-Ok.position c.index.result.now c.deref.ensures.value c.self.invariant.is_map.differ c.in-Ok.ensures.bound (c.in-Ok.ensures.position (λ p. p.0) (answers_always _ _ _ (λ f a r g called. search rules))) c.index.ensures)

pub returns-in-Err-clause-get : goal.returns-in-Err-clause-get
returns-in-Err-clause-get c = λ t.
    let f : takes c.self.inside.pairs.items c.args.label ≡ false = none_searched c.deref.result.now c.self.inside.pairs.items c.args.label c.in-Err.field-0 c.deref.ensures.value c.self.invariant.is_map.rising (c.in-Err.ensures.position (λ p. p.0) (answers_always _ _ _ (λ f a r g called. search rules))) in
    let e : true ≡ false = sym t ∙ ap (λ ps. takes ps c.args.label) (sym c.self.view_is) ∙ f in
    cc
