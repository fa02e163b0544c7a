use Rattle.std.proofs.Common.{ℕ, ◌∙◌, sym, ap, subst, refl}
use Rattle.board_rule.specs.Views.{pass_view_of}
use Rattle.board_rule.specs.Plays.{Seated, Sees}
use Rattle.board_rule.specs.declared.data.Slot.TheVariants.{Home, Out}
use Rattle.board_rule.specs.declared.view.View.{View}
use Rattle.vertex_claims.specs.Held.{knows, slot_at}
use Rattle.vertex_claims.specs.Marks.{marks_of}
use Rattle.vertex_claims.proofs.Seats.{slot_there, ready_swapped, puts}
use Rattle.vertex_claims.proofs.Books.{book_put, room_put}
use Rattle.vertex_claims.proofs.Flags.{flags_view}
use Rattle.vertex_claims.proofs.pass.Pass.take_star.Goals as goal

pub bring-requires : goal.bring-requires
bring-requires c =
    let self = c.args.self.now in
    (self.ready.ordered, slot_there self.seat.me c.args.place _ c.requires.star.1, self.ready.once)

pub invariant_of-self-clause-ready : goal.invariant_of-self-clause-ready
invariant_of-self-clause-ready c =
    let self = c.args.self.now in
    ready_swapped self.seat.me c.bring.new.seat.me _ _ _ _ _ c.from.result _ _ self.ready c.bring.ensures.slots c.bring.ensures.order.0 c.exchange.ensures.2 c.exchange.ensures.3

pub invariant_of-self-clause-flagged : goal.invariant_of-self-clause-flagged
invariant_of-self-clause-flagged c =
    let self = c.args.self.now in
    flags_view self.seat.me c.exchange.new.seat.me self.held.items self.places (ap (λ (m : Seated). m.0) c.exchange.ensures.3 ∙ c.bring.ensures.slots.view) self.flagged

pub invariant_of-self-clause-book : goal.invariant_of-self-clause-book
invariant_of-self-clause-book c =
    let self = c.args.self.now in
    let mid = c.bring.new.seat.me in
    book_put self.seat.me c.exchange.new.seat.me c.from.result (Home c.requires.star.0) Out (ap (λ (q : ℕ). slot_at self.seat.me q) c.from.ensures ∙ c.requires.star.1) refl
    (puts self.seat.me mid c.exchange.new.seat.me c.from.result c.exchange.result Out c.bring.ensures.slots c.exchange.ensures.2 (ap (λ (m : Seated). m.1) c.exchange.ensures.3))
    (ap (λ (m : Seated). m.0) c.exchange.ensures.3 ∙ c.bring.ensures.slots.view) self.book

pub invariant_of-self-clause-room : goal.invariant_of-self-clause-room
invariant_of-self-clause-room c =
    let self = c.args.self.now in
    let mid = c.bring.new.seat.me in
    room_put self.seat.me c.exchange.new.seat.me c.from.result self.spare (Home c.requires.star.0) Out (ap (λ (q : ℕ). slot_at self.seat.me q) c.from.ensures ∙ c.requires.star.1) refl
    (puts self.seat.me mid c.exchange.new.seat.me c.from.result c.exchange.result Out c.bring.ensures.slots c.exchange.ensures.2 (ap (λ (m : Seated). m.1) c.exchange.ensures.3))
    self.room

pub invariant_of-self-clause-marked : goal.invariant_of-self-clause-marked
invariant_of-self-clause-marked c = c.args.self.now.marked ∙ sym (ap (λ (m : Seated). marks_of (knows m).tries) c.exchange.ensures.3 ∙ ap (λ (v : View). marks_of (pass_view_of v).tries) c.bring.ensures.slots.view)

pub invariant_of-self-clause-sees : goal.invariant_of-self-clause-sees
invariant_of-self-clause-sees c =
    let view = ap (λ (m : Seated). m.0) c.exchange.ensures.3 ∙ c.bring.ensures.slots.view in
    subst (λ (v : View). Sees (pass_view_of v)) (sym view) c.args.self.now.sees
