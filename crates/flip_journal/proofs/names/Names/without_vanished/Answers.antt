use Rattle.std.proofs.Common.{◌≡◌, true, false, ◌∙◌, ap, sym, arith, rules}
use Rattle.complex_core.specs.Maps.{takes, at}
use Rattle.flip_journal.proofs.Kept.{are_left, names_rise, none_left_out, vanishes_none, vanishes_one}
use Rattle.flip_journal.proofs.names.Names.without_vanished.Goals as goal

pub take_name-requires : goal.take_name-requires
take_name-requires c = names_rise c.self.inside.pairs.items c.self.inside.given.items c.self.invariant

pub invariant_of-self : goal.invariant_of-self
invariant_of-self c =
    let t : takes c.args.self c.label-label.result ≡ true = c.in-Some.ensures.get.0 in
    are_left c.self.inside.pairs.items c.take_pair.new.pairs.items c.self.inside.given.items c.take_name.new.names.items c.label-label.result c.in-Some.name c.self.invariant (ap (λ ps. takes ps c.label-label.result) c.self.view_is ∙ t) (c.in-Some.ensures.get.1 ∙ ap (λ ps. at ps c.label-label.result) (sym c.self.view_is)) c.take_pair.ensures c.take_name.ensures

pub returns-in_default : goal.returns-in_default
returns-in_default c =
    let n : takes c.args.self c.label-label.result ≡ false = search rules in
    sym (vanishes_one c.args.a.now c.label-label.result c.args.self (sym c.len.ensures.len ∙ c.if-len-eq1.true) c.label-label.ensures.label ∙ none_left_out c.args.self c.label-label.result n)

pub returns-else-len-eq1 : goal.returns-else-len-eq1
returns-else-len-eq1 c = sym (vanishes_none c.args.a.now c.args.self (λ e. absurd (omega (arith, e, c.len.ensures.len, c.if-len-eq1.false))))
