use Rattle.std.proofs.Common.{length, ◌-◌, ◌≡◌, ◌≤◌, [], ℕ}
use Rattle.std.specs.Ordering.{nat_cmp}
use Rattle.std.specs.BTreeSet.{contains}
use Rattle.complex_core.specs.Maps.{ArePositive, Differ, reaches, takes}
use Rattle.facet_text.specs.Lines.{items}
use Rattle.cert_text.specs.Readings.{so_many}
use Rattle.cert_text.specs.Lines.{pair_line}
use Rattle.cert_text.proofs.part.read_pair_lines.Given as goal

abbrev pub invariant-lines : goal.invariant-lines
invariant-lines l = record {
  within : l.offset ≤ length l.bytes;
  forth : l.from ≤ l.offset;
  firsts : (x : ℕ) → contains nat_cmp l.firsts x ≡ takes l.pairs.items x;
  seconds : (y : ℕ) → contains nat_cmp l.seconds y ≡ reaches l.pairs.items y;
  positive : ArePositive l.pairs.items;
  differ : Differ l.pairs.items;
  same : so_many pair_line (l.count - l.counter) l.pairs.items (items l.bytes l.offset) ≡ so_many pair_line l.count [] (items l.bytes l.from);
}
