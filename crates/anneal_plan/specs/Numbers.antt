-- The numbers of a plan, and the limits that they keep.
use Rattle.std.specs.Prelude.{◌≤◌, ◌*◌, ℕ}

-- what a contract sees of a plan
pub record Numbers : Type 0 where
  pub seed : ℕ
  pub workers : ℕ
  pub rounds : ℕ
  pub tries : ℕ
  pub heat : ℕ
  pub relax : ℕ
  pub depth : ℕ
  pub room : ℕ

-- the same, from each number in order
abbrev pub numbers : ℕ → ℕ → ℕ → ℕ → ℕ → ℕ → ℕ → ℕ → Numbers
numbers seed workers rounds tries heat relax depth room = record {
  seed = seed;
  workers = workers;
  rounds = rounds;
  tries = tries;
  heat = heat;
  relax = relax;
  depth = depth;
  room = room;
}

-- how many tries all workers make in all rounds
abbrev pub all_tries : Numbers → ℕ
all_tries n = n.rounds * n.workers * n.tries

-- each number keeps its limits, and so do all tries together
pub record KeepsLimits (n : Numbers) : Type 0 where
  pub workers : (1 ≤ n.workers) × (n.workers ≤ 16)
  pub rounds : n.rounds ≤ 10000
  pub tries : (1 ≤ n.tries) × (n.tries ≤ 1000)
  pub heat : n.heat ≤ 1000
  pub relax : n.relax ≤ 1000
  pub depth : (1 ≤ n.depth) × (n.depth ≤ 4)
  pub room : (1 ≤ n.room) × (n.room ≤ 1024)
  pub product : all_tries n ≤ 250000
