use Rattle.std.proofs.Common.{ap, ◌∙◌}
use Rattle.flip_rules.specs.Journals.{flat}
use Rattle.flip_names.specs.Names.{takes_flips}
use Rattle.round_run.proofs.Histories.{descent_here, descent_taken, left_more, pushed, pushed_none, round_taken, with_round, without_round}
use Rattle.round_run.proofs.report.Report.named_flips.Goals as goal
use Rattle.round_run.proofs.report.Report.named_flips.Goals.{in-Some+in_ok-push_entries, in_default}

pub push_named-requires : goal.push_named-requires
push_named-requires c =
    ap (λ m. takes_flips m c.deref.result.now) (ap (λ r. r.names) c.self.view_is)
    ∙ descent_taken _ _ _ _ _ _ c.loop-place.invariant
    (descent_here (λ v. v.items) _ _ _ _ _ _ (ap (λ r. r.descents) c.self.view_is) c.deref-descent-items.ensures.value c.loop-place-test.true c.descent-item.is c.deref.ensures.value)

pub push_entries-requires : goal.push_entries-requires
push_entries-requires c =
    ap (λ m. takes_flips m (flat c.entries.result.now)) (ap (λ r. r.names) c.self.view_is)
    ∙ round_taken _ _ _ _ _ _ _ c.loop-place.invariant
    (descent_here (λ v. v.items) _ _ _ _ _ _ (ap (λ r. r.descents) c.self.view_is) c.deref-descent-items.ensures.value c.loop-place-test.true c.descent-item.is c.deref.ensures.value)
    (with_round _ _ _ _ _ (c.deref-in-loop-place.ensures.value ∙ ap (λ r. r.rounds) c.self.view_is) c.in-Some.ensures.lookup.3.0 c.in-Some.ensures.lookup.1 c.entries.ensures)

pub loop-place-preserved : goal.loop-place-preserved
loop-place-preserved c = elim c.match-get.branch [
  | in-Some+in_ok-push_entries w ↦
      left_more _ _ _ _ _ _ _ _ c.loop-place.invariant
      (descent_here (λ v. v.items) _ _ _ _ _ _ (ap (λ r. r.descents) c.self.view_is) c.deref-descent-items.ensures.value c.loop-place-test.true c.descent-item.is c.deref.ensures.value)
      (with_round _ _ _ _ _ (c.deref-in-loop-place.ensures.value ∙ ap (λ r. r.rounds) c.self.view_is) w.in-Some.ensures.lookup.3.0 w.in-Some.ensures.lookup.1 w.entries.ensures)
      (ap (λ v. v.items) w.all-is ∙ pushed _ _ _ _ _ _ w.entries.result.now (ap (λ r. r.names) c.self.view_is) c.in_ok-push_named.ensures.named w.in_ok-push_entries.ensures)
  | in_default w ↦
      left_more _ _ _ _ _ _ _ _ c.loop-place.invariant
      (descent_here (λ v. v.items) _ _ _ _ _ _ (ap (λ r. r.descents) c.self.view_is) c.deref-descent-items.ensures.value c.loop-place-test.true c.descent-item.is c.deref.ensures.value)
      (without_round _ _ _ (c.deref-in-loop-place.ensures.value ∙ ap (λ r. r.rounds) c.self.view_is) w.in_default.ensures.lookup.3)
      (ap (λ v. v.items) w.all-is ∙ pushed_none _ _ _ _ _ (ap (λ r. r.names) c.self.view_is) c.in_ok-push_named.ensures.named)
]
