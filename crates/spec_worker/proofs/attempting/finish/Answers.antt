use Rattle.std.proofs.Common.{◌≡◌, ℕ, Result, Ok, Err, IfErr, subst}
use Rattle.vertex_claims.specs.declared.pass.Pass.{Pass}
use Rattle.held_stars.specs.Holding.{StartedTry, Restorable}
use Rattle.held_stars.specs.declared.hold.Hold.{Hold}
use Rattle.round_rules.specs.Tasks.{Task}
use Rattle.round_rules.specs.declared.tried.Tried.{Tried}
use Rattle.spec_worker.specs.Trying.{Ended}
use Rattle.spec_worker.proofs.attempting.finish.Goals as goal

-- the flips of a try that ended without an entry can be taken back
back : (task : Task) (s : StartedTry) (pass : Pass) (h : Hold) (made : Result ℕ Tried) (answer : Tried) → made ≡ Err answer → IfErr made (Ended task s pass h) → Restorable pass h
back task s pass h (Ok n) answer is e = let f : Ok n ≡ Err answer = is in cc
back task s pass h (Err a) answer is e = e.restorable

pub roll_back-requires : goal.roll_back-requires
roll_back-requires g c = let r = c.requires.made in record { restorable = (c.args.pass.now, back r.0 r.1 c.args.pass.now c.args.hold.now c.args.made c.in-Err.answer c.in-Err.is r.3) }

pub give_up-requires-in-Err-clause-settles : goal.give_up-requires-in-Err-clause-settles
give_up-requires-in-Err-clause-settles g c = let r = c.requires.made in c.roll_back.ensures.settles c.args.pass.now (back r.0 r.1 c.args.pass.now c.args.hold.now c.args.made c.in-Err.answer c.in-Err.is r.3)
