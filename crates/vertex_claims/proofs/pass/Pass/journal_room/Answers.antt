use Rattle.std.proofs.Common.{◌≡◌, ◌+◌, ℕ, List, ◌∷◌, ◌∙◌, ap, sym, subst, arith}
use Rattle.atomic_table.specs.Table.{rest}
use Rattle.board_rule.specs.Books.{Book}
use Rattle.board_rule.specs.Views.{pass_view_of}
use Rattle.board_rule.specs.Plays.{Seated, Sees}
use Rattle.board_rule.specs.declared.data.Slot.TheVariants.{Journal}
use Rattle.board_rule.specs.declared.view.View.{View}
use Rattle.vertex_claims.specs.declared.pass.Pass.{Pass as PassOf}
use Rattle.vertex_claims.specs.Held.{Ready, Flagged, HasBook, Shuffled, knows}
use Rattle.vertex_claims.specs.Marks.{marks_of}
use Rattle.board_rule.specs.Items.{places_of}
use Rattle.vertex_claims.proofs.Seats.{ready_swapped}
use Rattle.vertex_claims.proofs.Books.{journal_front, book_again, room_of, front_slot}
use Rattle.vertex_claims.proofs.Flags.{flags_view}
use Rattle.vertex_claims.proofs.pass.Pass.journal_room.Goals as goal
use Rattle.vertex_claims.proofs.pass.Pass.journal_room.Goals.{in-Ok, in-Err}

pub make_room-made-requires-clause-journal : goal.make_room-made-requires-clause-journal
make_room-made-requires-clause-journal c =
    let self = c.args.self.now in
    let mid = c.bring.new.seat.me in
    let top = c.bring.ensures.top in
    let j = journal_front self.seat.me mid top.0 c.bring.ensures.slots top.1 self.book c.requires.held in
    (j.0, top.1 ∙ ap (λ x. (0, x) ∷ rest mid.1) j.1)

-- the journal is back in its slot, with the same entries
record Again (self : PassOf) (mid new : Seated) (order : List ℕ) : Type 0 where
  ready : Ready new order (self.places + 1) self.worker
  flagged : Flagged new self.held.items self.places
  claims : self.claiming ≡ (knows new).claiming
  book : HasBook new
  marked : self.marks.items ≡ marks_of (knows new).tries
  sees : Sees (knows new)

again : (self : PassOf) (mid new : Seated) (order : List ℕ) (b n : Book) → Shuffled self.seat.me mid → order ≡ places_of mid.1 → new.0 ≡ mid.0 → mid.1 ≡ (0, Journal b) ∷ rest mid.1 → new.1 ≡ (0, Journal n) ∷ rest mid.1 → n.entries ≡ b.entries → Again self mid new order
again self mid new order b n s ord view is ends same =
    let put : new ≡ (mid.0, (0, Journal n) ∷ rest mid.1) = λ i. (view i, ends i) in
    let back : new.0 ≡ self.seat.me.0 = view ∙ s.view in
    record {
      ready = ready_swapped self.seat.me mid new _ order _ _ 0 (Journal b) (Journal n) self.ready s ord is put;
      flagged = flags_view self.seat.me new self.held.items self.places back self.flagged;
      claims = self.claims ∙ sym (ap (λ (v : View). (pass_view_of v).claiming) back);
      book = book_again self.seat.me mid new b n s is put same self.book;
      marked = self.marked ∙ sym (ap (λ (v : View). marks_of (pass_view_of v).tries) back);
      sees = subst (λ (v : View). Sees (pass_view_of v)) (sym back) self.sees;
    }

pub invariant_of-self-clause-ready : goal.invariant_of-self-clause-ready
invariant_of-self-clause-ready c =
    let j = c.make_room-made.ensures.journal in
    (again c.args.self.now c.bring.new.seat.me c.make_room-made.new.seat.me _ j.0 j.1 c.bring.ensures.slots c.bring.ensures.order.0 c.make_room-made.ensures.seat.2 j.2 j.3 j.4).ready

pub invariant_of-self-clause-flagged : goal.invariant_of-self-clause-flagged
invariant_of-self-clause-flagged c =
    let j = c.make_room-made.ensures.journal in
    (again c.args.self.now c.bring.new.seat.me c.make_room-made.new.seat.me _ j.0 j.1 c.bring.ensures.slots c.bring.ensures.order.0 c.make_room-made.ensures.seat.2 j.2 j.3 j.4).flagged

pub invariant_of-self-clause-claims : goal.invariant_of-self-clause-claims
invariant_of-self-clause-claims c =
    let j = c.make_room-made.ensures.journal in
    (again c.args.self.now c.bring.new.seat.me c.make_room-made.new.seat.me _ j.0 j.1 c.bring.ensures.slots c.bring.ensures.order.0 c.make_room-made.ensures.seat.2 j.2 j.3 j.4).claims

pub invariant_of-self-clause-book : goal.invariant_of-self-clause-book
invariant_of-self-clause-book c =
    let j = c.make_room-made.ensures.journal in
    (again c.args.self.now c.bring.new.seat.me c.make_room-made.new.seat.me _ j.0 j.1 c.bring.ensures.slots c.bring.ensures.order.0 c.make_room-made.ensures.seat.2 j.2 j.3 j.4).book

pub invariant_of-self-clause-marked : goal.invariant_of-self-clause-marked
invariant_of-self-clause-marked c =
    let j = c.make_room-made.ensures.journal in
    (again c.args.self.now c.bring.new.seat.me c.make_room-made.new.seat.me _ j.0 j.1 c.bring.ensures.slots c.bring.ensures.order.0 c.make_room-made.ensures.seat.2 j.2 j.3 j.4).marked

pub invariant_of-self-clause-sees : goal.invariant_of-self-clause-sees
invariant_of-self-clause-sees c =
    let j = c.make_room-made.ensures.journal in
    (again c.args.self.now c.bring.new.seat.me c.make_room-made.new.seat.me _ j.0 j.1 c.bring.ensures.slots c.bring.ensures.order.0 c.make_room-made.ensures.seat.2 j.2 j.3 j.4).sees

pub invariant_of-self-clause-room : goal.invariant_of-self-clause-room
invariant_of-self-clause-room c = elim c.match-made.branch [
  | in-Ok w ↦
      let j = w.in-Ok.ensures.journal in
      let is = w.self-is in
      room_of c.make_room-made.new.seat.me j.1 c.match-made.self (front_slot c.make_room-made.new.seat.me 0 (Journal j.1) (rest c.bring.new.seat.me.1) j.3) (omega (arith, j.5))
  | in-Err w ↦
      let j = c.make_room-made.ensures.journal in
      let is = w.self-is in
      room_of c.make_room-made.new.seat.me j.1 c.match-made.self (front_slot c.make_room-made.new.seat.me 0 (Journal j.1) (rest c.bring.new.seat.me.1) j.3) (omega arith)
]
