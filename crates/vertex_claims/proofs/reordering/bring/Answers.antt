use Rattle.std.proofs.Common.{◌≡◌, ◌<◌, ℕ, true, length, get_or, ap, sym, refl, List, ◌∙◌, subst, arith}
use Rattle.board_rule.specs.Items.{places_of, has_item}
use Rattle.vertex_claims.specs.Held.{index_of}
use Rattle.vertex_claims.proofs.Turns.{shuffled_turn, shuffled_then, nearer, on_top, some_first}
use Rattle.vertex_claims.proofs.reordering.bring.Goals as goal

pub index-requires : goal.index-requires
index-requires c =
    let has : has_item c.loop-seat.seat.me.1 c.args.place ≡ true = c.loop-seat.invariant.slots.has c.args.place ∙ c.requires.1 in
    let some_there = some_first c.loop-seat.seat.me.1 c.args.place has in
    omega (arith, ap length c.loop-seat.invariant.ordered)

pub turn-requires : goal.turn-requires
turn-requires c =
    let has : has_item c.loop-seat.seat.me.1 c.args.place ≡ true = c.loop-seat.invariant.slots.has c.args.place ∙ c.requires.1 in
    let some_there = some_first c.loop-seat.seat.me.1 c.args.place has in
    (omega (arith, ap length c.loop-seat.invariant.ordered), c.loop-seat.invariant.ordered)

pub loop-seat-smaller : goal.loop-seat-smaller
loop-seat-smaller c =
    let has : has_item c.loop-seat.seat.me.1 c.args.place ≡ true = c.loop-seat.invariant.slots.has c.args.place ∙ c.requires.1 in
    let is : c.index.result.now ≡ get_or (places_of c.loop-seat.seat.me.1) 0 c.index.result.now = c.index.ensures ∙ ap (λ (l : List ℕ). get_or l 0 c.index.result.now) c.loop-seat.invariant.ordered in
    let near = nearer c.args.place c.index.result.now c.loop-seat.seat.me.1 has is c.loop-seat-test.true in
    subst (λ m. index_of c.args.place (places_of m.1) < index_of c.args.place (places_of c.loop-seat.seat.me.1)) (sym c.turn.ensures.seat.2) near

pub loop-seat-preserved : goal.loop-seat-preserved
loop-seat-preserved c = record {
  table = c.turn.ensures.seat.0 ∙ c.loop-seat.invariant.table;
  number = c.turn.ensures.seat.1 ∙ c.loop-seat.invariant.number;
  slots = shuffled_then _ _ _ c.loop-seat.invariant.slots (shuffled_turn _ _ (c.loop-seat.invariant.slots.once ∙ c.requires.2) c.turn.ensures.seat.2);
  ordered = c.turn.ensures.order.0;
  room = c.turn.ensures.order.1 ∙ c.loop-seat.invariant.room;
}

pub returns-clause-top : goal.returns-clause-top
returns-clause-top c =
    let has : has_item c.loop-seat.seat.me.1 c.args.place ≡ true = c.loop-seat.invariant.slots.has c.args.place ∙ c.requires.1 in
    let is : c.index.result.now ≡ get_or (places_of c.loop-seat.seat.me.1) 0 c.index.result.now = c.index.ensures ∙ ap (λ (l : List ℕ). get_or l 0 c.index.result.now) c.loop-seat.invariant.ordered in
    on_top c.loop-seat.seat.me c.loop-seat.seat.me.1 c.args.place c.index.result.now refl has is c.loop-seat-test.false
