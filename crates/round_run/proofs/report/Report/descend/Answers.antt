use Rattle.std.proofs.Common.{ap, ◌∙◌, refl, map}
use Rattle.std.proofs.lemmas.List.{map_push}
use Rattle.round_run.proofs.Searching.{descended, descended_taken}
use Rattle.round_run.proofs.report.Report.descend.Goals as goal

pub returns : goal.returns
returns c = descended _ c.in_ok-flips.flips.items _ _ _ c.self.view_is c.requires.opened (record {
  descent = c.in_ok-flips.ensures.descent;
  input = refl;
  names = refl;
  descents = ap (map (λ v. v.items)) c.in_ok-push.ensures.items ∙ map_push (λ v. v.items) c.self.inside.descents.items c.in_ok-flips.flips;
  rounds = refl;
})

pub invariant_of-self : goal.invariant_of-self
invariant_of-self c = descended_taken c.args.plan.now _ (record { input = c.self.inside.input; names = c.self.inside.names; descents = map (λ v. v.items) c.push.new.self.items; rounds = c.self.inside.rounds.items; end = c.in_ok-flips.end }) c.requires.opened (descended _ c.in_ok-flips.flips.items _ _ _ c.self.view_is c.requires.opened (record {
  descent = c.in_ok-flips.ensures.descent;
  input = refl;
  names = refl;
  descents = ap (map (λ v. v.items)) c.in_ok-push.ensures.items ∙ map_push (λ v. v.items) c.self.inside.descents.items c.in_ok-flips.flips;
  rounds = refl;
}))
