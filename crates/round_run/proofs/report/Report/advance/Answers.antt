use Rattle.std.proofs.Common.{ap, ◌∙◌, refl, arith, length, map}
use Rattle.std.proofs.lemmas.List.{map_push}
use Rattle.round_run.specs.Reports.{ReportView}
use Rattle.round_run.proofs.Searching.{stands_dim, stands_places, advanced, advanced_taken}
use Rattle.round_run.proofs.report.Report.advance.Goals as goal

pub overflow_cast-round : goal.overflow_cast-round
overflow_cast-round g c = omega (arith, c.requires.left, ap (λ (r : ReportView). length r.rounds) c.self.view_is, c.len-round.ensures, c.self.inside.rounds.ok)

pub run_round-requires-clause-dim : goal.run_round-requires-clause-dim
run_round-requires-clause-dim g c κs within = stands_dim _ _ _ _ _ c.self.view_is c.requires.stands.1

pub run_round-requires-clause-places : goal.run_round-requires-clause-places
run_round-requires-clause-places g c κs within = stands_places _ _ _ _ _ _ c.self.view_is c.pairs.ensures.pairs c.requires.stands.1

pub invariant_of-self : goal.invariant_of-self
invariant_of-self g c = advanced_taken c.args.plan.now _ (record { input = c.self.inside.input; names = c.self.inside.names; descents = map (λ v. v.items) c.push-2.new.self.items; rounds = c.push.new.self.items; end = c.in_ok-flips.end }) c.requires.stands (advanced _ (length c.pairs.result.now) c.len-round.result c.in_ok-record.record c.in_ok-record.next c.in_ok-flips.flips.items _ _ _ c.self.view_is c.requires.left.0 (record {
  places_are = ap length c.pairs.ensures.pairs;
  number_is = omega (arith, c.len-round.ensures, c.self.inside.rounds.ok);
  made = c.in_ok-record.ensures.round;
  descent = c.in_ok-flips.ensures.descent;
  input = refl;
  names = refl;
  descents = ap (map (λ v. v.items)) c.in_ok-push-2.ensures.items ∙ map_push (λ v. v.items) c.self.inside.descents.items c.in_ok-flips.flips;
  rounds = c.in_ok-push.ensures.items;
}))

pub returns-clause-stands : goal.returns-clause-stands
returns-clause-stands g c = advanced _ (length c.pairs.result.now) c.len-round.result c.in_ok-record.record c.in_ok-record.next c.in_ok-flips.flips.items _ _ _ c.self.view_is c.requires.left.0 (record {
  places_are = ap length c.pairs.ensures.pairs;
  number_is = omega (arith, c.len-round.ensures, c.self.inside.rounds.ok);
  made = c.in_ok-record.ensures.round;
  descent = c.in_ok-flips.ensures.descent;
  input = refl;
  names = refl;
  descents = ap (map (λ v. v.items)) c.in_ok-push-2.ensures.items ∙ map_push (λ v. v.items) c.self.inside.descents.items c.in_ok-flips.flips;
  rounds = c.in_ok-push.ensures.items;
})
