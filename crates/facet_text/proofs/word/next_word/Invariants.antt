use Rattle.std.proofs.Common.{length, ◌-◌, ◌≤◌, ◌≡◌, true, filter}
use Rattle.std.specs.List.{list_all}
use Rattle.std.specs.Prelude.{slice_range}
use Rattle.facet_text.specs.Tokens.{is_blank}
use Rattle.facet_text.specs.Lines.{AfterEnds, is_feed, items}
use Rattle.facet_text.proofs.word.next_word.Given as goal

abbrev pub invariant-loop-start : goal.invariant-loop-start
invariant-loop-start l = record {
  within : l.start ≤ length l.bytes;
  forth : l.from ≤ l.start;
  few : l.feeds ≤ l.start;
  blanks : list_all is_blank (slice_range l.bytes l.from l.start) ≡ true;
  counted : l.feeds ≡ length (filter is_feed (slice_range l.bytes l.from l.start));
  same : AfterEnds (items l.bytes l.from) l.feeds (items l.bytes l.start);
}

abbrev pub decreases-loop-start : goal.decreases-loop-start
decreases-loop-start l = length l.bytes - l.start
