use Rattle.std.proofs.Common.{arith, ◌≡◌, ◌∙◌, ◌≤◌, ℕ, List, refl, sym, ap, subst, length, get_or, true, false, ◌<◌, ◌++◌}
use Rattle.facet_text.specs.Lines.{AfterEnds, Item, feeds_in, items}
use Rattle.facet_text.specs.Tokens.{is_blank}
use Rattle.std.specs.List.{list_all}
use Rattle.std.specs.Prelude.{slice_range}
use Rattle.std.proofs.lemmas.List.Sums.{AllPass-from_list_all}
use Rattle.std.proofs.lemmas.Bool.{true≢false}
use Rattle.facet_text.proofs.LineLaws.{a_word_stays, all_blanks, more_blanks, more_feeds, past_blank, items-word, items-end, only_ends}
use Rattle.facet_text.proofs.word.next_word.Goals as goal
use Rattle.facet_text.proofs.word.next_word.Goals.{then-loop-start-test+else-is_blank, else-loop-start-test}

few_feeds : (b : ℕ) → feeds_in b ≤ 1
few_feeds b = grind arith

pub loop-start-preserved : goal.loop-start-preserved
loop-start-preserved c = record {
  within = omega arith;
  forth = omega arith;
  blanks = more_blanks c.args.bytes.now c.args.from c.loop-start.start (omega arith) (omega arith) c.loop-start.invariant.blanks (sym c.if-is_blank.ensures);
  counted = rw c.feeds_in-feeds.ensures (more_feeds c.args.bytes.now c.args.from c.loop-start.start c.loop-start.feeds (omega arith) (omega arith) c.loop-start.invariant.counted);
  few = omega (arith, few_feeds (get_or c.args.bytes.now c.loop-start.start 0));
  same = rw c.feeds_in-feeds.ensures (past_blank c.args.bytes.now c.loop-start.start (items c.args.bytes.now c.args.from) c.loop-start.feeds (omega arith) (sym c.if-is_blank.ensures) c.loop-start.invariant.same);
}

pub returns-then-start-bytes-clause-first : goal.returns-then-start-bytes-clause-first
returns-then-start-bytes-clause-first c =
    only_ends _ c.loop-start.feeds (length c.args.bytes.now)
    (subst (AfterEnds (items c.args.bytes.now c.args.from) c.loop-start.feeds) (ap (items c.args.bytes.now) c.if-start-bytes.true ∙ items-end c.args.bytes.now) c.loop-start.invariant.same)

pub returns-clause-here : goal.returns-clause-here
returns-clause-here c =
    let inside : c.loop-start.start < length c.args.bytes.now = omega (arith, c.loop-start.invariant.within) in
    let solid : is_blank (get_or c.args.bytes.now c.loop-start.start 0) ≡ false = elim c.loop-start-test.branch [
      | then-loop-start-test+else-is_blank w ↦ sym w.if-is_blank.ensures
      | else-loop-start-test w ↦ absurd (omega arith)
    ] in
    items-word c.args.bytes.now c.loop-start.start c.word_end-end.result inside solid c.word_end-end.ensures.end

pub returns-clause-first : goal.returns-clause-first
returns-clause-first c =
    let bytes = c.args.bytes.now in
    let start = c.loop-start.start in
    let inside : start < length bytes = omega (arith, c.loop-start.invariant.within) in
    let solid : is_blank (get_or bytes start 0) ≡ false = elim c.loop-start-test.branch [
      | then-loop-start-test+else-is_blank w ↦ sym w.if-is_blank.ensures
      | else-loop-start-test w ↦ absurd (omega arith)
    ] in
    let same = c.loop-start.invariant.same in
    (same.0, same.1, same.2, same.3 ∙ ap (λ (is : List Item). same.0 ++ is) (items-word bytes start c.word_end-end.result inside solid c.word_end-end.ensures.end))

pub returns-then-start-bytes-clause-none : goal.returns-then-start-bytes-clause-none
returns-then-start-bytes-clause-none c =
    let all : list_all is_blank (slice_range c.args.bytes.now c.args.from (length c.args.bytes.now)) ≡ true =
    ap (λ (n : ℕ). list_all is_blank (slice_range c.args.bytes.now c.args.from n)) (sym c.if-start-bytes.true) ∙ c.loop-start.invariant.blanks in
    (λ _. all_blanks c.args.bytes.now c.args.from c.requires all, λ _. refl)

pub returns-clause-none : goal.returns-clause-none
returns-clause-none c =
    let bytes = c.args.bytes.now in
    let start = c.loop-start.start in
    let inside : start < length bytes = omega (arith, c.loop-start.invariant.within) in
    let solid : is_blank (get_or bytes start 0) ≡ false = elim c.loop-start-test.branch [
      | then-loop-start-test+else-is_blank w ↦ sym w.if-is_blank.ensures
      | else-loop-start-test w ↦ absurd (omega arith)
    ] in
    (λ e. absurd (true≢false e), a_word_stays bytes c.args.from start (omega (arith, c.loop-start.invariant.forth)) inside solid)

pub returns-clause-blanks : goal.returns-clause-blanks
returns-clause-blanks c = AllPass-from_list_all is_blank _ c.loop-start.invariant.blanks
