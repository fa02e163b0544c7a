use Rattle.std.proofs.Common.{◌≡◌, false, ◌∙◌, ap, sym, rules}
use Rattle.complex_core.specs.Maps.{takes}
use Rattle.flip_journal.specs.Carried.{least_unused}
use Rattle.flip_journal.proofs.Kept.{are_more, names_rise}
use Rattle.flip_journal.proofs.names.Names.with_label.Goals as goal

pub put_name-requires : goal.put_name-requires
put_name-requires c = names_rise c.self.inside.pairs.items c.self.inside.given.items c.self.invariant

pub invariant_of-self : goal.invariant_of-self
invariant_of-self c =
    let t : takes c.args.self c.args.label ≡ false = search rules in
    are_more c.self.inside.pairs.items c.put_pair.new.pairs.items c.self.inside.given.items c.put_name.new.names.items c.args.label c.new_name-name.result c.self.invariant c.requires (ap (λ ps. takes ps c.args.label) c.self.view_is ∙ t) (c.new_name-name.ensures ∙ ap least_unused (sym c.self.view_is)) c.in_ok-put_pair.ensures c.in_ok-put_name.ensures
