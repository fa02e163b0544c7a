use Rattle.std.proofs.Common.{rules, arith, sym, ◌∙◌}
use Rattle.line_text.proofs.FlipLaws.{fits}
use Rattle.line_text.proofs.flip.add_label.Goals as goal

pub unreachable-requires : goal.unreachable-requires
unreachable-requires c =
    let room = fits c.args.labels c.args.side.now _ c.in-Some.label c.in-Some.ensures (sym c.contains.ensures ∙ c.if-contains.false) c.requires (search rules) in
    c.in-None.ensures (room.0, omega (arith, room.1))

pub returns-clause-few : goal.returns-clause-few
returns-clause-few c =
    let room = fits c.args.labels c.args.side.now _ c.in-Some.label c.in-Some.ensures (sym c.contains.ensures ∙ c.if-contains.false) c.requires (search rules) in
    rw c.in-Some-with.ensures.1 room.1
