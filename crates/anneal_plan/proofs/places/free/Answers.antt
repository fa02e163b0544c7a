use Rattle.std.proofs.Common.{◌∙◌, sym, ap, inl, inr, arith}
use Rattle.anneal_plan.proofs.Gaps.{gap_passed, gap_found, gaps_end, free_is, free_positive}
use Rattle.anneal_plan.proofs.places.free.Goals as goal
use Rattle.anneal_plan.proofs.places.free.Goals.{then-below-len+then-index-place, else-below-len+in_ok-push, else-below-len-via-then-below-len+else-index-place, else-below-len-via-else-below-len}

pub loop-before-preserved : goal.loop-before-preserved
loop-before-preserved c = elim c.if-below-len.branch [
  | then-below-len+then-index-place w ↦
      gap_passed _ c.loop-before.free.items c.in_ok-used.used.items _ c.loop-before.before c.args.places c.loop-before.below _ w.index.result.now c.loop-before-test.true (omega arith) w.index.ensures w.if-index-place.true (ap (λ v. v.items) w.free-is) w.below-is c.loop-before.invariant
  | else-below-len+in_ok-push w ↦
      gap_found _ c.loop-before.free.items c.in_ok-used.used.items _ c.loop-before.before c.args.places c.loop-before.below _ c.loop-before-test.true
      (elim w.else-below-len.branch [
        | else-below-len-via-then-below-len+else-index-place w' ↦ inr (w'.index.result.now, omega arith, w'.index.ensures, w'.if-index-place.false)
        | else-below-len-via-else-below-len w' ↦ inl (omega arith)
      ])
      (ap (λ v. v.items) w.free-is ∙ w.in_ok-push.ensures.items) w.below-is c.loop-before.invariant
]

pub returns-clause-free : goal.returns-clause-free
returns-clause-free c =
    gaps_end _ c.loop-before.free.items c.in_ok-used.used.items c.loop-before.before c.args.places c.loop-before.below c.loop-before-test.false c.loop-before.invariant
    ∙ sym (free_is c.args.start.now c.args.places c.in_ok-used.used.items c.dim.ensures.complex c.in_ok-used.ensures)

pub returns-clause-labels : goal.returns-clause-labels
returns-clause-labels c =
    free_positive c.loop-before.free.items c.in_ok-used.used.items c.loop-before.before c.args.places c.loop-before.below c.loop-before-test.false c.loop-before.invariant
