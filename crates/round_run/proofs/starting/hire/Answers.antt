use Rattle.std.proofs.Common.{ℕ, ◌<◌, List, length, sym, subst, rules}
use Rattle.complex_core.specs.Complexes.{IsComplex}
use Rattle.round_run.specs.Reports.{scene}
use Rattle.round_run.proofs.Newcomers.{some_live, newly_made}
use Rattle.round_run.proofs.starting.hire.Goals as goal

pub new-requires-clause-live : goal.new-requires-clause-live
new-requires-clause-live c =
    let k : IsComplex c.args.start.now = subst IsComplex c.requires.told.start_is c.args.board.now.complex in
    subst (λ (xs : List ℕ). 0 < length xs) (sym c.in_ok-live.ensures) (some_live _ k)

pub returns-clause-worker : goal.returns-clause-worker
returns-clause-worker c =
    let pass = c.in_ok-pass.ensures in
    let made = c.new.ensures in
    newly_made (scene c.args.start.now c.args.places c.args.round c.args.plan.now) _ _ _ _ _ _ c.requires.told c.args.board.now.complex c.requires.dim c.requires.places
    pass.pass pass.newcomer (search rules) c.in_ok-live.ensures c.in_ok-free.ensures.free made.pass made.plan made.places made.none
