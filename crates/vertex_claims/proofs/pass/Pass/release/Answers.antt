use Rattle.std.proofs.Common.{◌≡◌, ◌+◌, ℕ, true, false, List, ◌∷◌, cond, sym, ap, ◌∙◌, subst, arith, refl}
use mathlib.Core.Option.{none, some-injective}
use Rattle.atomic_table.specs.Table.{rest}
use Rattle.board_rule.specs.Items.{item}
use Rattle.board_rule.specs.Views.{keeps, pass_view_of, is_pass, without_item}
use Rattle.board_rule.specs.Plays.{Seated, Sees}
use Rattle.board_rule.specs.Homes.{VersionedStar}
use Rattle.board_rule.specs.declared.data.Slot.TheVariants.{Home}
use Rattle.board_rule.specs.declared.view.View.{View}
use Rattle.board_rule.proofs.Items.{tested}
use Rattle.board_rule.proofs.Sees.{sees_less}
use Rattle.board_rule.proofs.Keeps.{releases}
use Rattle.vertex_claims.specs.Held.{knows, slot_at, Ready}
use Rattle.vertex_claims.specs.Marks.{marks_of}
use Rattle.vertex_claims.specs.Passes.{know}
use Rattle.vertex_claims.proofs.Books.{book_after, room_same}
use Rattle.vertex_claims.proofs.Flags.{flags_set}
use Rattle.vertex_claims.proofs.Seats.{is_a_pass, slot_there, ready_gone, drops, without_keeps, less_keeps}
use Rattle.vertex_claims.proofs.pass.Pass.release.Goals as goal

pub bring-requires : goal.bring-requires
bring-requires c =
    let self = c.args.self.now in
    (self.ready.ordered, slot_there self.seat.me c.args.place _ c.requires.known.1, self.ready.once)

pub store-requires : goal.store-requires
store-requires c =
    let self = c.args.self.now in
    let board = c.args.board.now in
    let sized = board.sized in
    let mid = c.bring.new.seat.me in
    let place : c.from-2.result ≡ c.args.place = c.from-2.ensures in
    let top = c.bring.ensures.top in
    let s = c.bring.ensures.slots in
    let x : VersionedStar = c.requires.known.0 in
    let same_view = ap pass_view_of s.view in
    let is_x : top.0 ≡ Home x = some-injective top.0 (Home x) (sym top.2 ∙ (s.slots c.args.place ∙ c.requires.known.1)) in
    let there = slot_there self.seat.me c.args.place _ c.requires.known.1 in
    let has : keeps (know self) c.args.place ≡ true = sym (self.ready.agrees c.args.place) ∙ there in
    let pos = c.requires.place in
    let near = self.ready.below c.args.place there in
    let places = c.requires.board.places in
    let back = sym place in (
      c.bring.ensures.seat.0 ∙ c.requires.board.table,
      omega arith,
      releases board.table.shared.key _ c.bring.new.seat.id mid (knows mid) c.from-2.result x
          (is_a_pass mid.0 (ap is_pass s.view ∙ self.ready.passes))
          (top.1 ∙ (λ i. (back i, is_x i) ∷ rest mid.1))
          (sized.1 ∙ ap (λ (k : ℕ). k + 1) (sym board.told.0))
          (omega arith)
          (ap (λ (v : View). keeps (pass_view_of v) c.from-2.result) s.view ∙ (ap (λ (k : ℕ). keeps (know self) k) place ∙ has))
          (ap (λ (v : View). item (pass_view_of v).items c.from-2.result) s.view ∙ (ap (λ (k : ℕ). item (know self).items k) place ∙ c.requires.known.2)),
    )

pub invariant_of-self-clause-ready : goal.invariant_of-self-clause-ready
invariant_of-self-clause-ready c =
    let self = c.args.self.now in
    let mid = c.bring.new.seat.me in
    let place : c.from-2.result ≡ c.args.place = c.from-2.ensures in
    let pos = c.requires.place in
    let less = without_keeps (knows mid) c.from-2.result (omega arith) in
    let back = sym place in
    subst (λ (o : List ℕ). Ready c.store.new.seat.me o (self.places + 1) self.worker) (sym c.pop_front-place.ensures.rest)
    (ready_gone self.seat.me mid c.store.new.seat.me _ _ _ _ c.from-2.result c.bring.ensures.top.0 (without_item (knows mid) c.from-2.result) self.ready c.bring.ensures.slots c.bring.ensures.order.0
    (c.bring.ensures.top.1 ∙ (λ i. (back i, c.bring.ensures.top.0) ∷ rest mid.1)) c.store.ensures.2 refl less.0 less.1)

pub returns-clause-slots : goal.returns-clause-slots
returns-clause-slots c =
    let self = c.args.self.now in
    let mid = c.bring.new.seat.me in
    drops self.seat.me mid c.store.new.seat.me c.args.place c.bring.ensures.top.0 c.bring.ensures.slots self.ready.once c.bring.ensures.top.1 (ap (λ m. m.1) c.store.ensures.2)

pub invariant_of-self-clause-book : goal.invariant_of-self-clause-book
invariant_of-self-clause-book c =
    let self = c.args.self.now in
    let mid = c.bring.new.seat.me in
    let pos = c.requires.place in
    let gone = drops self.seat.me mid c.store.new.seat.me c.args.place c.bring.ensures.top.0 c.bring.ensures.slots self.ready.once c.bring.ensures.top.1 (ap (λ m. m.1) c.store.ensures.2) 0 in
    let other : slot_at c.store.new.seat.me 0 ≡ slot_at self.seat.me 0 = gone ∙ tested c.args.place 0 (λ b. cond b none (slot_at self.seat.me 0) ≡ slot_at self.seat.me 0) (λ e. absurd (omega arith)) (λ _. refl) in
    let view = c.bring.ensures.slots.view in
    book_after self.seat.me c.store.new.seat.me other (ap (λ m. (knows m).has_journal) c.store.ensures.2 ∙ ap (λ (v : View). (pass_view_of v).has_journal) view) (ap (λ m. (knows m).journal) c.store.ensures.2 ∙ ap (λ (v : View). (pass_view_of v).journal) view) self.book

pub invariant_of-self-clause-marked : goal.invariant_of-self-clause-marked
invariant_of-self-clause-marked c = c.args.self.now.marked ∙ sym (ap (λ (m : Seated). marks_of (knows m).tries) c.store.ensures.2 ∙ ap (λ (v : View). marks_of (pass_view_of v).tries) c.bring.ensures.slots.view)

pub invariant_of-self-clause-flagged : goal.invariant_of-self-clause-flagged
invariant_of-self-clause-flagged c =
    let self = c.args.self.now in
    let mid = c.bring.new.seat.me in
    let view = c.bring.ensures.slots.view in
    let less = less_keeps (knows mid) c.args.place c.from-2.result c.requires.place c.from-2.ensures in
    let there = slot_there self.seat.me c.args.place _ c.requires.known.1 in
    let near = self.ready.below c.args.place there in
    flags_set self.seat.me c.store.new.seat.me self.held.items self.places c.args.place c.from.result false self.flagged c.from.ensures (omega arith)
    (ap (λ (m : Seated). keeps (knows m) c.args.place) c.store.ensures.2 ∙ less.0)
    (λ q ne. ap (λ (m : Seated). keeps (knows m) q) c.store.ensures.2 ∙ (less.1 q ne ∙ ap (λ (v : View). keeps (pass_view_of v) q) view))

pub invariant_of-self-clause-room : goal.invariant_of-self-clause-room
invariant_of-self-clause-room c =
    let self = c.args.self.now in
    let mid = c.bring.new.seat.me in
    let pos = c.requires.place in
    let gone = drops self.seat.me mid c.store.new.seat.me c.args.place c.bring.ensures.top.0 c.bring.ensures.slots self.ready.once c.bring.ensures.top.1 (ap (λ m. m.1) c.store.ensures.2) 0 in
    let other : slot_at c.store.new.seat.me 0 ≡ slot_at self.seat.me 0 = gone ∙ tested c.args.place 0 (λ b. cond b none (slot_at self.seat.me 0) ≡ slot_at self.seat.me 0) (λ e. absurd (omega arith)) (λ _. refl) in
    room_same self.seat.me c.store.new.seat.me self.spare other self.room

pub invariant_of-self-clause-sees : goal.invariant_of-self-clause-sees
invariant_of-self-clause-sees c =
    let mid = c.bring.new.seat.me in
    let before : Sees (knows mid) = subst (λ (v : View). Sees (pass_view_of v)) (sym c.bring.ensures.slots.view) c.args.self.now.sees in
    subst (λ (m : Seated). Sees (knows m)) (sym c.store.ensures.2) (sees_less (knows mid) c.from-2.result before)
