use Rattle.std.proofs.Common.{◌+◌, ℕ, List, ◌∷◌, false, sym, ap, ◌∙◌, subst, arith, refl}
use Rattle.atomic_table.specs.Table.{rest}
use Rattle.board_rule.specs.Views.{keeps, pass_view_of, is_pass, without_journal}
use Rattle.board_rule.specs.Plays.{Seated, Sees}
use Rattle.board_rule.specs.declared.view.View.{View}
use Rattle.board_rule.proofs.Sees.{sees_left}
use Rattle.board_rule.proofs.Keeps.{leaves}
use Rattle.vertex_claims.specs.Held.{knows, Ready}
use Rattle.vertex_claims.specs.Marks.{marks_of}
use Rattle.vertex_claims.proofs.Seats.{is_a_pass, ready_gone, drops}
use Rattle.vertex_claims.proofs.Books.{journal_front, entries_of_front, no_book, without_journal_keeps}
use Rattle.vertex_claims.proofs.Flags.{flags_set}
use Rattle.vertex_claims.proofs.pass.Pass.leave_journal.Goals as goal

pub store-requires : goal.store-requires
store-requires c =
    let self = c.args.self.now in
    let board = c.args.board.now in
    let sized = board.sized in
    let mid = c.bring.new.seat.me in
    let s = c.bring.ensures.slots in
    let top = c.bring.ensures.top in
    let j = journal_front self.seat.me mid top.0 s top.1 self.book c.requires.held in
    let front = top.1 ∙ ap (λ x. (0, x) ∷ rest mid.1) j.1 in
    let entries = entries_of_front self.seat.me mid j.0 s front self.book c.requires.held in (
      c.bring.ensures.seat.0 ∙ c.requires.board.table,
      omega arith,
      leaves board.table.shared.key _ c.bring.new.seat.id mid (knows mid) j.0
          (is_a_pass mid.0 (ap is_pass s.view ∙ self.ready.passes))
          front
          (sized.1 ∙ ap (λ (k : ℕ). k + 1) (sym board.told.0))
          (ap (λ (v : View). (pass_view_of v).has_journal) s.view ∙ c.requires.held)
          (entries ∙ sym (ap (λ (v : View). (pass_view_of v).journal) s.view)),
    )

pub invariant_of-self-clause-ready : goal.invariant_of-self-clause-ready
invariant_of-self-clause-ready c =
    let self = c.args.self.now in
    let mid = c.bring.new.seat.me in
    let less = without_journal_keeps (knows mid) in
    subst (λ (o : List ℕ). Ready c.store.new.seat.me o (self.places + 1) self.worker) (sym c.pop_front-journal.ensures.rest)
    (ready_gone self.seat.me mid c.store.new.seat.me _ _ _ _ 0 c.bring.ensures.top.0 (without_journal (knows mid)) self.ready c.bring.ensures.slots c.bring.ensures.order.0 c.bring.ensures.top.1 c.store.ensures.2 refl less.0 less.1)

pub invariant_of-self-clause-book : goal.invariant_of-self-clause-book
invariant_of-self-clause-book c = no_book c.store.new.seat.me (ap (λ m. (knows m).has_journal) c.store.ensures.2)

pub returns-clause-slots : goal.returns-clause-slots
returns-clause-slots c =
    let self = c.args.self.now in
    let mid = c.bring.new.seat.me in
    drops self.seat.me mid c.store.new.seat.me 0 c.bring.ensures.top.0 c.bring.ensures.slots self.ready.once c.bring.ensures.top.1 (ap (λ m. m.1) c.store.ensures.2)

pub invariant_of-self-clause-marked : goal.invariant_of-self-clause-marked
invariant_of-self-clause-marked c = c.args.self.now.marked ∙ sym (ap (λ (m : Seated). marks_of (knows m).tries) c.store.ensures.2 ∙ ap (λ (v : View). marks_of (pass_view_of v).tries) c.bring.ensures.slots.view)

pub invariant_of-self-clause-flagged : goal.invariant_of-self-clause-flagged
invariant_of-self-clause-flagged c =
    let self = c.args.self.now in
    let view = c.bring.ensures.slots.view in
    let less = without_journal_keeps (knows c.bring.new.seat.me) in
    flags_set self.seat.me c.store.new.seat.me self.held.items self.places 0 0 false self.flagged refl (omega arith)
    (ap (λ (m : Seated). keeps (knows m) 0) c.store.ensures.2 ∙ less.0)
    (λ q ne. ap (λ (m : Seated). keeps (knows m) q) c.store.ensures.2 ∙ (less.1 q ne ∙ ap (λ (v : View). keeps (pass_view_of v) q) view))

pub invariant_of-self-clause-sees : goal.invariant_of-self-clause-sees
invariant_of-self-clause-sees c =
    let mid = c.bring.new.seat.me in
    let before : Sees (knows mid) = subst (λ (v : View). Sees (pass_view_of v)) (sym c.bring.ensures.slots.view) c.args.self.now.sees in
    subst (λ (m : Seated). Sees (knows m)) (sym c.store.ensures.2) (sees_left (knows mid) before)
