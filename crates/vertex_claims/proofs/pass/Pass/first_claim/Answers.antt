use Rattle.std.proofs.Common.{◌≡◌, ℕ, ◌++◌, ◌∷◌, [], true, sym, ap, ◌∙◌, arith, length}
use Rattle.complex_core.specs.Complexes.{ComplexView}
use Rattle.board_rule.specs.Tries.{won_try, lost_try}
use Rattle.board_rule.specs.Views.{keeps, opened_by, lost_by}
use Rattle.board_rule.specs.Plays.{Seated}
use Rattle.board_rule.specs.Homes.{VersionedStar}
use Rattle.board_rule.specs.declared.data.Slot.TheVariants.{Home}
use Rattle.board_rule.specs.declared.view.View.TheVariants.{Pass}
use Rattle.vertex_claims.specs.declared.mark.Found.TheVariants.{Won}
use Rattle.vertex_claims.specs.Held.{knows, slot_at}
use Rattle.vertex_claims.specs.Marks.{mark_of, marks_of}
use Rattle.vertex_claims.specs.Passes.{know}
use Rattle.board_rule.proofs.Keeps.{firsts}
use Rattle.vertex_claims.proofs.Seats.{is_a_pass, room_left, length-marks, opened_keeps}
use Rattle.vertex_claims.proofs.Books.{book_after, room_same, with_rest}
use Rattle.vertex_claims.proofs.Flags.{flags_set}
use Rattle.vertex_claims.proofs.pass.Pass.first_claim.Goals as goal

pub compare_exchange-found-requires : goal.compare_exchange-found-requires
compare_exchange-found-requires c =
    let self = c.args.self.now in
    let board = c.args.board.now in
    let place : c.from.result ≡ c.args.place = c.from.ensures in
    let req = c.requires.place in
    let sized = board.sized in
    let told = board.told in
    let few = board.few in (
      c.requires.board.table,
      omega arith,
      firsts board.table.shared.key _ self.seat.id self.seat.me (know self) c.from.result c.from-2.result (is_a_pass self.seat.me.0 self.ready.passes) (omega arith) (omega arith)
          (self.ready.number ∙ sym c.from-2.ensures) c.requires.empty (omega arith),
    )

pub push_front_reserved-requires : goal.push_front_reserved-requires
push_front_reserved-requires c =
    let self = c.args.self.now in
    let r = self.ready in
    let req = c.requires.place in
    let near = self.roomy in
    let places = c.requires.board.places in
    let left = room_left self.seat.me.1 c.args.place _ r.once r.below (r.agrees c.args.place ∙ c.requires.empty c.args.place) (omega arith) in
    omega (arith, left, ap length r.ordered)

pub push_reserved-requires : goal.push_reserved-requires
push_reserved-requires c =
    let self = c.args.self.now in
    let bound = self.bound in
    let left = c.requires.room in
    let marks = ap length self.marked in
    omega (arith, marks, length-marks (know self).tries, self.marks.ok)

pub push_reserved-requires-2 : goal.push_reserved-requires-2
push_reserved-requires-2 c =
    let self = c.args.self.now in
    let bound = self.bound in
    let left = c.requires.room in
    let marks = ap length self.marked in
    omega (arith, marks, length-marks (know self).tries, self.marks.ok)

-- the seat after a refused claim
refused : (c : goal.After-push_reserved) → c.compare_exchange-found.new.seat.me ≡ (Pass (lost_by (know c.args.self.now) c.from.result c.compare_exchange-found.result), c.args.self.now.seat.me.1)
refused c = (c.compare_exchange-found.ensures.2.1 c.if-found-ne0.true).0

pub invariant_of-self-clause-book : goal.invariant_of-self-clause-book
invariant_of-self-clause-book c =
    let e = refused c in
    book_after c.args.self.now.seat.me c.compare_exchange-found.new.seat.me (ap (λ (m : Seated). slot_at m 0) e) (ap (λ (m : Seated). (knows m).has_journal) e) (ap (λ (m : Seated). (knows m).journal) e) c.args.self.now.book

pub invariant_of-self-clause-room : goal.invariant_of-self-clause-room
invariant_of-self-clause-room c = room_same c.args.self.now.seat.me c.compare_exchange-found.new.seat.me c.args.self.now.spare (ap (λ (m : Seated). slot_at m 0) (refused c)) c.args.self.now.room

pub invariant_of-self-clause-bound : goal.invariant_of-self-clause-bound
invariant_of-self-clause-bound c =
    let self = c.args.self.now in
    let bound = self.bound in
    let left = c.requires.room in
    let marks = ap length self.marked in
    let more = c.push_reserved.ensures.len in
    let room = c.push_reserved.ensures.capacity in
    (omega (arith, marks, length-marks (know self).tries, self.marks.ok), omega arith)

pub invariant_of-self-clause-marked : goal.invariant_of-self-clause-marked
invariant_of-self-clause-marked c =
    let r = c.compare_exchange-found.result in
    let mark : c.first_mark.result ≡ mark_of (lost_try c.from.result r 0) = c.first_mark.ensures ∙ ap (λ (p : ℕ). mark_of (lost_try p r 0)) (sym c.from.ensures) in
    c.push_reserved.ensures.items ∙ ((λ i. c.args.self.now.marked i ++ mark i ∷ []) ∙ sym (ap (λ (m : Seated). marks_of (knows m).tries) (refused c)))

-- the seat after a claim that was won
won : (c : goal.After-push_reserved-2) → (x : VersionedStar) × (k : ComplexView) × (c.version_in-version.new.seat.me ≡ (Pass (opened_by (know c.args.self.now) c.from.result x k), (c.from.result, Home x) ∷ c.args.self.now.seat.me.1)) × (c.version_in-version.result ≡ x.version)
won c =
    let t = c.compare_exchange-found.ensures.2.0 c.if-found-ne0.false in
    let place = c.from.ensures in
    let m = c.compare_exchange-found.new.seat.me in
    let front = with_rest m.1 c.args.self.now.seat.me.1 (c.args.place, Home t.0) (ap (λ (n : Seated). n.1) t.2 ∙ (λ i. (place i, Home t.0) ∷ c.args.self.now.seat.me.1)) in
    (t.0, t.1, c.version_in-version.ensures.seat.2 ∙ t.2, c.version_in-version.ensures.version t.0 front)

pub invariant_of-self-2-clause-flagged : goal.invariant_of-self-2-clause-flagged
invariant_of-self-2-clause-flagged c =
    let self = c.args.self.now in
    let t = won c in
    let new = opened_keeps (know self) c.args.place c.from.result t.0 t.1 c.requires.place.0 c.from.ensures in
    let places = c.requires.board.places in
    let near = c.requires.place.1 in
    flags_set self.seat.me c.version_in-version.new.seat.me self.held.items self.places c.args.place c.from-3.result true self.flagged c.from-3.ensures (omega arith)
    (ap (λ (m : Seated). keeps (knows m) c.args.place) t.2 ∙ new.0) (λ q ne. ap (λ (m : Seated). keeps (knows m) q) t.2 ∙ new.1 q ne)

pub invariant_of-self-2-clause-bound : goal.invariant_of-self-2-clause-bound
invariant_of-self-2-clause-bound c =
    let self = c.args.self.now in
    let bound = self.bound in
    let left = c.requires.room in
    let marks = ap length self.marked in
    let more = c.push_reserved-2.ensures.len in
    let room = c.push_reserved-2.ensures.capacity in
    (omega (arith, marks, length-marks (know self).tries, self.marks.ok), omega arith)

pub invariant_of-self-2-clause-marked : goal.invariant_of-self-2-clause-marked
invariant_of-self-2-clause-marked c =
    let t = won c in
    let place = sym c.from.ensures in
    let mark : c.first_mark-2.result ≡ mark_of (won_try c.from.result t.0 0) = c.first_mark-2.ensures ∙ (λ i. record { place = place i; found = Won (t.3 i); vertices = 0; journal = 0; last = 0; owner = 0 }) in
    c.push_reserved-2.ensures.items ∙ ((λ i. c.args.self.now.marked i ++ mark i ∷ []) ∙ sym (ap (λ (m : Seated). marks_of (knows m).tries) t.2))
