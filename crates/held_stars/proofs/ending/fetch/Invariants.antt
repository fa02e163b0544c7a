use Rattle.std.proofs.Common.{◌≡◌, ℕ, List, length}
use Rattle.vertex_claims.specs.Passes.{IsSame, SameSlots, know}
use Rattle.held_stars.specs.Holding.{waits}
use Rattle.held_stars.proofs.ending.fetch.Given as goal

abbrev pub invariant-loop : goal.invariant-loop
invariant-loop l = IsSame l.initial.pass l.pass × SameSlots l.initial.pass l.pass × ((owners : List ℕ) × (length owners ≡ l.counter) × (know l.pass ≡ waits (know l.initial.pass) owners))
