use Rattle.std.proofs.Common.{ap, sym, ◌∙◌}
use Rattle.board_rule.specs.Items.{places_of}
use Rattle.vertex_claims.proofs.Turns.{places_turned}
use Rattle.vertex_claims.proofs.reordering.turn.Goals as goal

pub returns-clause-order : goal.returns-clause-order
returns-clause-order c = (
  c.push_back_reserved.ensures.items
      ∙ (places_turned c.args.seat.now.me.1 c.in-Some.first c.pop_front.new.self.items (sym c.in-Some.ensures.items ∙ c.requires.1) ∙ ap (λ m. places_of m.1) (sym c.turn.ensures.2)),
  c.push_back_reserved.ensures.capacity ∙ c.in-Some.ensures.capacity,
)
