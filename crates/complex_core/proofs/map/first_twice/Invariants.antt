use Rattle.std.proofs.Common.{◌≡◌, ℕ, take}
use Rattle.std.specs.Ordering.{nat_cmp}
use Rattle.std.specs.BTreeSet.{contains}
use Rattle.complex_core.specs.Maps.{takes, reaches, Differ}
use Rattle.complex_core.proofs.map.first_twice.Given as goal

abbrev pub invariant-loop-position : goal.invariant-loop-position
invariant-loop-position l = record {
  firsts : (x : ℕ) → contains nat_cmp l.firsts x ≡ takes (take l.position l.pairs) x;
  seconds : (y : ℕ) → contains nat_cmp l.seconds y ≡ reaches (take l.position l.pairs) y;
  differ : Differ (take l.position l.pairs);
}
