use Rattle.std.proofs.Common.{◌≡◌, ◌+◌, ◌<◌, ◌≤◌, ℕ, List, true, false, get_or, vec_len, vec_capacity}
use Rattle.std.specs.Slots.{slots_items, slots_len, slots_filled}
use Rattle.complex_core.specs.Complexes.{ComplexView}
use Rattle.flip_rules.specs.Entries.{JournalEntry}
use Rattle.stars.specs.StarViews.{shown}
use Rattle.stars.specs.Building.{stars_of}
use Rattle.vertex_claims.specs.Laid.{HomesOf}
use Rattle.vertex_claims.proofs.slots.unpack.Given as goal

abbrev pub invariant-loop-p : goal.invariant-loop-p
invariant-loop-p l = record {
  same : slots_items l.closed.slots ≡ slots_items l.fn.closed.slots;
  long : slots_len l.closed.slots ≡ l.places + 1;
  full : (k : ℕ) → l.p < k → k < l.places + 1 → get_or (slots_filled l.closed.slots) k false ≡ true;
  empty : (k : ℕ) → k ≤ l.p → get_or (slots_filled l.closed.slots) k false ≡ false;
  count : vec_len l.stars ≡ l.p;
  room : vec_capacity l.stars ≡ vec_capacity l.fn.stars;
  stars : (k : ComplexView) (entries : List JournalEntry) → HomesOf (slots_items l.fn.closed.slots) l.places k entries → shown l.stars.items ≡ stars_of k.dim k.facets 0 l.p;
}
