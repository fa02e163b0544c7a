use Rattle.std.proofs.Common.{arith, ◌≡◌, ◌++◌, ◌∷◌, [], sym, ◌∙◌}
use Rattle.std.proofs.lemmas.Result.{err_from_is_err_and}
use Rattle.std.specs.Ordering.{nat_cmp}
use Rattle.std.specs.BTreeSet.{contains}
use Rattle.complex_core.proofs.Pairs.{differ_push}
use Rattle.facet_text.specs.Lines.{items}
use Rattle.cert_text.specs.Lines.{pair_line}
use Rattle.cert_text.proofs.PairLaws.{positive_push, seen_more}
use Rattle.cert_text.proofs.Parts.{all_read, one_more, stops}
use Rattle.cert_text.proofs.part.read_pair_lines.Goals as goal

pub returns-in_err-pair-clause-read : goal.returns-in_err-pair-clause-read
returns-in_err-pair-clause-read c =
    let p = err_from_is_err_and c.from_residual.result c.from_residual.ensures.1 in
    let so_far = c.lines.invariant in
    rw (p.1, p.2) (stops c.in_err-pair.field-0.0 pair_line c.args.count c.lines.counter c.lines.pairs.items (items c.args.bytes.now c.lines.offset) _ c.lines-test.true (c.in_err-pair.ensures.read c.lines.pairs.items so_far.firsts so_far.seconds) so_far.same)

pub lines-preserved : goal.lines-preserved
lines-preserved c =
    let so_far = c.lines.invariant in
    let ps = c.lines.pairs.items in
    let p = c.in_ok-pair.pair in
    let is : c.push.new.self.items ≡ ps ++ p ∷ [] = c.in_ok-push.ensures.items in
    let new = c.in_ok-pair.ensures.new in
    rw is (record {
      within = omega (arith, c.in_ok-pair.ensures.offset);
      forth = omega (arith, c.in_ok-pair.ensures.offset, so_far.forth);
      firsts = seen_more (λ q. q.0) ps p (contains nat_cmp c.lines.firsts) (contains nat_cmp c.read_pair_line.new.firsts) so_far.firsts c.in_ok-pair.ensures.firsts;
      seconds = seen_more (λ q. q.1) ps p (contains nat_cmp c.lines.seconds) (contains nat_cmp c.read_pair_line.new.seconds) so_far.seconds c.in_ok-pair.ensures.seconds;
      positive = positive_push ps p so_far.positive c.in_ok-pair.ensures.positive;
      differ = differ_push ps p so_far.differ (sym (so_far.firsts p.0) ∙ new.0) (sym (so_far.seconds p.1) ∙ new.1);
      same = one_more pair_line c.args.count c.lines.counter ps (items c.args.bytes.now c.lines.offset) p (items c.args.bytes.now c.in_ok-pair.after) _ c.lines-test.true (c.in_ok-pair.ensures.read ps so_far.firsts so_far.seconds) so_far.same;
    })

pub returns-clause-read : goal.returns-clause-read
returns-clause-read c =
    all_read pair_line c.args.count c.lines.counter c.lines.pairs.items (items c.args.bytes.now c.lines.offset) _ c.lines-test.false c.lines.invariant.same
