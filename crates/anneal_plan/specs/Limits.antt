-- The limits of a plan in their order, and the phases of a round.
use Rattle.std.specs.Prelude.{ℕ, ◌+◌, Bool, not, List, [], ◌∷◌, Option, find, option_map, nat_le, nat_lt, ◌&&◌, if◌then◌else◌}
use Rattle.anneal_plan.specs.declared.plan.PlanFault.{PlanFault}
use Rattle.anneal_plan.specs.declared.plan.PlanFault.TheVariants as fault
use Rattle.anneal_plan.specs.declared.plan.Phase.{Phase}
use Rattle.anneal_plan.specs.declared.plan.Phase.TheVariants.{Heat, Relax, Reduce}
use Rattle.anneal_plan.specs.Numbers.{Numbers, all_tries}

-- the number is one of the bounds, or lies between them
abbrev pub is_from : ℕ → ℕ → ℕ → Bool
is_from low high n = nat_le low n && nat_le n high

-- each limit by its fault, with whether the numbers keep it, in the order in which they are judged
abbrev pub limits : Numbers → List (PlanFault × Bool)
limits n = (fault.Workers, is_from 1 16 n.workers)
    ∷ (fault.Rounds, nat_le n.rounds 10000)
    ∷ (fault.Tries, is_from 1 1000 n.tries)
    ∷ (fault.Heat, nat_le n.heat 1000)
    ∷ (fault.Relax, nat_le n.relax 1000)
    ∷ (fault.Depth, is_from 1 4 n.depth)
    ∷ (fault.Room, is_from 1 1024 n.room)
    ∷ (fault.Product, nat_le (all_tries n) 250000)
    ∷ []

-- the first limit that the numbers pass
abbrev pub first_passed : Numbers → Option PlanFault
first_passed n = option_map (λ limit. limit.0) (find (λ limit. not limit.1) (limits n))

-- the phase of a try by its number in the round, from 0
abbrev pub phase_at : Numbers → ℕ → Phase
phase_at n t = if nat_lt t n.heat then Heat else if nat_lt t (n.heat + n.relax) then Relax else Reduce
