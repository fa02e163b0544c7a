use Rattle.std.proofs.Common.{ℕ, refl, arith}
use Rattle.std.proofs.lemmas.List.{length-take}
use Rattle.flip_io.proofs.Taken.{takes_more, takes_in_limit}
use Rattle.flip_io.proofs.whole.read_all.Goals as goal

pub returns-then-count-room-clause-taken : goal.returns-then-count-room-clause-taken
returns-then-count-room-clause-taken g c =
    takes_more _ _ _ c.pieces.taken.items c.read.new.buf c.in_ok-count.count _ c.pieces.invariant.taken c.in_ok-count.ensures.bound.0 c.in_ok-count.ensures.bytes.0 (omega (arith, c.in_ok-count.ensures.bound, length-take {A = ℕ}))

pub returns-then-count-room-clause-cause : goal.returns-then-count-room-clause-cause
returns-then-count-room-clause-cause g c = (refl, returns-then-count-room-clause-taken g c)

pub returns-in_err-extend_from_slice-clause-taken : goal.returns-in_err-extend_from_slice-clause-taken
returns-in_err-extend_from_slice-clause-taken g c =
    takes_in_limit _ _ _ _ _ c.pieces.taken.items c.read.new.buf c.in_ok-count.count c.from_residual-in_err-extend_from_slice.ensures.1 c.pieces.invariant.taken c.in_ok-count.ensures.bound.0 c.in_ok-count.ensures.bytes.0 (omega arith)
