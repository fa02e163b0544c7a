use Rattle.std.proofs.Common.{◌≡◌, ◌≤◌, ◌+◌, ℕ, List, ◌∷◌, [], ◌++◌, false, sym, ap, ◌∙◌, subst, arith, refl, length, length-append}
use Rattle.complex_core.specs.Complexes.{ComplexView}
use Rattle.atomic_table.specs.Table.{rest}
use Rattle.flip_rules.specs.Entries.{JournalEntry}
use Rattle.flip_rules.specs.declared.flip.Flip.{Flip}
use Rattle.board_rule.specs.Tries.{wins}
use Rattle.board_rule.specs.Views.{pass_view_of, keeps, committed}
use Rattle.board_rule.specs.Plays.{Seated, Sees}
use Rattle.board_rule.specs.declared.view.PassView.{PassView}
use Rattle.board_rule.specs.declared.view.View.TheVariants.{Pass}
use Rattle.board_rule.specs.Ends.{Commits}
use Rattle.board_rule.proofs.Keeps.{commits}
use Rattle.vertex_claims.specs.declared.board.Board.{Board}
use Rattle.vertex_claims.specs.declared.pass.Pass.{Pass as PassOf}
use Rattle.vertex_claims.specs.Held.{knows, Ready}
use Rattle.vertex_claims.specs.Marks.{marks_of}
use Rattle.vertex_claims.specs.Passes.{know, entry_of}
use Rattle.vertex_claims.proofs.Seats.{wins_le, length-marks, is_a_pass, ready_gone, drops}
use Rattle.vertex_claims.proofs.Books.{entries_of_front, no_book, with_rest, committed_keeps}
use Rattle.vertex_claims.proofs.Flags.{flags_set}
use Rattle.vertex_claims.proofs.pass.Pass.commit.Goals as goal
use Rattle.vertex_claims.proofs.pass.Pass.commit.Goals.{After-store}

-- the entry, as contracts say it
same_entry : (self : PassOf) (board : Board) (flips : List Flip) (entry : JournalEntry) → entry ≡ record { round = board.round; worker = self.worker; seq = self.seq; flips = flips } → entry ≡ entry_of self board flips
same_entry self board flips entry is =
    let worker = sym self.ready.number in
    let next = self.next in
    let round = sym board.told.2 in
    is ∙ (λ i. record { round = round i; worker = worker i; seq = next i; flips = flips })

-- the view of a pass
abbrev is_view : (self : PassOf) → self.seat.me.0 ≡ Pass (know self)
is_view self = is_a_pass self.seat.me.0 self.ready.passes

pub store-requires : goal.store-requires
store-requires c =
    let self = c.args.self.now in
    let board = c.args.board.now in
    let sized = board.sized in
    let mid = c.bring.new.seat.me in
    let end = c.append.new.seat.me in
    let s = c.bring.ensures.slots in
    let j = c.append.ensures.journal in
    let has = c.requires.journal in
    let v : PassView = know self in
    let view : end.0 ≡ Pass v = c.append.ensures.seat.2 ∙ (s.view ∙ is_view self) in
    let e : JournalEntry = entry_of self board c.args.flips.now in
    let may : Commits board.table.shared.key v e = record {
      sees = self.sees;
      claiming = c.requires.claiming;
      worker = refl;
      round_is = refl;
      seq = refl;
      some = c.requires.count.0;
      few = c.requires.count.1;
      faces = c.know_faces.ensures;
      held = c.requires.held;
      legal = c.requires.legal;
    } in (
      c.append.ensures.seat.0 ∙ (c.bring.ensures.seat.0 ∙ c.requires.board.table),
      omega arith,
      commits board.table.shared.key _ c.append.new.seat.id end v j.1 e view
          (with_rest end.1 _ _ j.3)
          (sized.1 ∙ ap (λ (k : ℕ). k + 1) (sym board.told.0))
          has
          (j.4 ∙ (λ i. entries_of_front self.seat.me mid j.0 s j.2 self.book has i ++ same_entry self board c.args.flips.now c.in-Ok.entry c.in-Ok.ensures.ok i ∷ []))
          j.5
          may,
    )

-- what the commit tells
told : (c : After-store) → (k : ComplexView) × (c.store.new.seat.me ≡ (Pass (committed (know c.args.self.now) (entry_of c.args.self.now c.args.board.now c.args.flips.now) k), rest c.bring.new.seat.me.1))
    × Sees (committed (know c.args.self.now) (entry_of c.args.self.now c.args.board.now c.args.flips.now) k) × (length ((know c.args.self.now).mine ++ entry_of c.args.self.now c.args.board.now c.args.flips.now ∷ []) ≤ wins (know c.args.self.now).tries)
told c =
    let self = c.args.self.now in
    let board = c.args.board.now in
    let mid = c.bring.new.seat.me in
    let end = c.append.new.seat.me in
    let s = c.bring.ensures.slots in
    let j = c.append.ensures.journal in
    let e : JournalEntry = entry_of self board c.args.flips.now in
    let same : pass_view_of end.0 ≡ know self = ap pass_view_of (c.append.ensures.seat.2 ∙ s.view) in
    let others : rest end.1 ≡ rest mid.1 = ap rest j.3 in
    let t = c.store.ensures.2 j.1 j.0.entries e (with_rest end.1 _ _ j.3) (j.4 ∙ (λ i. j.0.entries ++ same_entry self board c.args.flips.now c.in-Ok.entry c.in-Ok.ensures.ok i ∷ [])) in
    let few = t.3 in (
      t.0,
      t.1 ∙ (λ i. (Pass (committed (same i) e t.0), others i)),
      subst (λ (v : PassView). Sees (committed v e t.0)) same t.2,
      subst (λ (v : PassView). length (v.mine ++ e ∷ []) ≤ wins v.tries) same few,
    )

-- a pass has at most as many entries as won marks
pub overflow_add-self : goal.overflow_add-self
overflow_add-self c =
    let self = c.args.self.now in
    let few = (told c).3 in
    let marks = ap length self.marked in
    let bound = self.bound in
    let next = self.next in
    omega (arith, length-marks (know self).tries, wins_le (know self).tries, length-append (know self).mine (entry_of self c.args.board.now c.args.flips.now ∷ []), self.marks.ok)

pub invariant_of-self-clause-ready : goal.invariant_of-self-clause-ready
invariant_of-self-clause-ready c =
    let self = c.args.self.now in
    let mid = c.bring.new.seat.me in
    let v : PassView = know self in
    let e : JournalEntry = entry_of self c.args.board.now c.args.flips.now in
    let t = told c in
    let less = committed_keeps v e t.0 in
    let same = ap pass_view_of c.bring.ensures.slots.view in
    subst (λ (o : List ℕ). Ready c.store.new.seat.me o (self.places + 1) self.worker) (sym c.pop_front-journal.ensures.rest)
    (ready_gone self.seat.me mid c.store.new.seat.me _ _ _ _ 0 c.bring.ensures.top.0 (committed v e t.0) self.ready c.bring.ensures.slots c.bring.ensures.order.0 c.bring.ensures.top.1 t.1
    (ap (λ (h : PassView). h.worker) (sym same)) less.0 (λ q ne. less.1 q ne ∙ ap (λ (h : PassView). keeps h q) (sym same)))

pub invariant_of-self-clause-flagged : goal.invariant_of-self-clause-flagged
invariant_of-self-clause-flagged c =
    let self = c.args.self.now in
    let t = told c in
    let less = committed_keeps (know self) (entry_of self c.args.board.now c.args.flips.now) t.0 in
    flags_set self.seat.me c.store.new.seat.me self.held.items self.places 0 0 false self.flagged refl (omega arith)
    (ap (λ (m : Seated). keeps (knows m) 0) t.1 ∙ less.0) (λ q ne. ap (λ (m : Seated). keeps (knows m) q) t.1 ∙ less.1 q ne)

pub invariant_of-self-clause-claims : goal.invariant_of-self-clause-claims
invariant_of-self-clause-claims c = sym (ap (λ (m : Seated). (knows m).claiming) (told c).1)

pub invariant_of-self-clause-book : goal.invariant_of-self-clause-book
invariant_of-self-clause-book c = no_book c.store.new.seat.me (ap (λ (m : Seated). (knows m).has_journal) (told c).1)

pub invariant_of-self-clause-marked : goal.invariant_of-self-clause-marked
invariant_of-self-clause-marked c = c.args.self.now.marked ∙ sym (ap (λ (m : Seated). marks_of (knows m).tries) (told c).1)

pub invariant_of-self-clause-next : goal.invariant_of-self-clause-next
invariant_of-self-clause-next c =
    let self = c.args.self.now in
    let longer = ap (λ (m : Seated). length (knows m).mine) (told c).1 in
    let before = self.next in
    omega (arith, longer, length-append (know self).mine (entry_of self c.args.board.now c.args.flips.now ∷ []))

pub invariant_of-self-clause-sees : goal.invariant_of-self-clause-sees
invariant_of-self-clause-sees c = let t = told c in subst (λ (m : Seated). Sees (knows m)) (sym t.1) t.2

pub returns-clause-known : goal.returns-clause-known
returns-clause-known c = let t = told c.before in (t.0, ap (λ (m : Seated). pass_view_of m.0) t.1)

pub returns-clause-slots : goal.returns-clause-slots
returns-clause-slots c =
    let self = c.args.self.now in
    let mid = c.bring.new.seat.me in
    drops self.seat.me mid c.store.new.seat.me 0 c.bring.ensures.top.0 c.bring.ensures.slots self.ready.once c.bring.ensures.top.1 (ap (λ (m : Seated). m.1) (told c.before).1)
