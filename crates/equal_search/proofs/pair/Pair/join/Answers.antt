use Rattle.std.proofs.Common.{ap, ◌∙◌, rules}
use Rattle.flip_rules.specs.Laws.{inverse_list}
use Rattle.equal_search.proofs.Joining.{joined, legal_there}
use Rattle.equal_search.proofs.pair.Pair.join.Goals as goal

pub carry-requires-clause-legal : goal.carry-requires-clause-legal
carry-requires-clause-legal c = legal_there c.args.self.now.first c.args.self.now.second c.args.between.now _ _ c.in_ok-told_end.ensures (c.deref-2.ensures.value ∙ (c.in_ok-back.ensures ∙ ap inverse_list (c.deref.ensures.value ∙ c.in_ok-named_flips.ensures))) c.requires.second c.requires.least

pub returns : goal.returns
returns c = joined c.args.self.now.first c.args.self.now.second c.args.between.now _ c.in_ok-carried.carried.items _ _ c.requires.first c.requires.second c.requires.least (c.deref-2.ensures.value ∙ (c.in_ok-back.ensures ∙ ap inverse_list (c.deref.ensures.value ∙ c.in_ok-named_flips.ensures))) c.in_ok-carried.ensures.flips c.in_ok-carried.ensures.map (search rules)
