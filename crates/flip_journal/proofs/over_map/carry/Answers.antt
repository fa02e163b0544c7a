use Rattle.std.proofs.Common.{◌≡◌, ◌++◌, [], ◌∷◌, rules}
use Rattle.flip_journal.proofs.Leading.{all_leads, one_more, taken_here}
use Rattle.flip_journal.proofs.over_map.carry.Goals as goal

pub unreachable-requires : goal.unreachable-requires
unreachable-requires c = c.in-None.ensures.named (taken_here c.args.from.now c.args.map.now c.args.flips.now c.loop-flip.flip-index c.flip-item.result c.loop-flip.carried.items c.loop-flip.names c.in_ok-names-2.names c.facets.ensures.complex c.pairs.ensures.map c.requires.labels c.requires.legal c.loop-flip.invariant c.loop-flip-test.true c.flip-item.is c.flip.ensures.faces c.in_ok-names-2.ensures)

pub loop-flip-preserved : goal.loop-flip-preserved
loop-flip-preserved c =
    let pushed : c.push.new.self.items ≡ c.loop-flip.carried.items ++ c.in-Some.named ∷ [] = search rules in
    one_more c.args.map.now c.args.flips.now c.loop-flip.flip-index c.flip-item.result c.loop-flip.carried.items c.push.new.self.items c.loop-flip.names c.in_ok-names-2.names c.without_vanished-names.result c.in-Some.named c.loop-flip.invariant c.loop-flip-test.true c.flip-item.is c.flip.ensures.faces c.in_ok-names-2.ensures c.in-Some.ensures.named.1 pushed c.without_vanished-names.ensures

pub returns-clause-leads : goal.returns-clause-leads
returns-clause-leads c = all_leads c.args.from.now c.args.map.now c.args.flips.now c.loop-flip.flip-index c.loop-flip.carried.items c.loop-flip.names c.in_ok-map.map c.facets.ensures.complex c.pairs.ensures.map c.requires.labels c.requires.legal c.loop-flip.invariant c.loop-flip-test.false c.in_ok-map.ensures
