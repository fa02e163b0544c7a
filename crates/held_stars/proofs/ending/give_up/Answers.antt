use Rattle.std.proofs.Common.{◌∙◌, ap}
use Rattle.board_rule.specs.Items.{item}
use Rattle.board_rule.specs.declared.view.PassView.{PassView}
use Rattle.vertex_claims.specs.Passes.{know}
use Rattle.held_stars.proofs.GivenUp.{none_given, given_one, last_known}
use Rattle.held_stars.proofs.ending.give_up.Goals as goal

pub send_home-requires-clause-known : goal.send_home-requires-clause-known
send_home-requires-clause-known c = last_known c.loop-star.pass c.args.flips.now c.loop-star.lent.items c.pop.new.self.items c.in-Some.star c.vertex-place.result c.loop-star.invariant.0.settles c.in-Some.ensures.items c.vertex-place.ensures.vertex

pub release-requires-clause-known : goal.release-requires-clause-known
release-requires-clause-known c =
    let x = last_known c.loop-star.pass c.args.flips.now c.loop-star.lent.items c.pop.new.self.items c.in-Some.star c.vertex-place.result c.loop-star.invariant.0.settles c.in-Some.ensures.items c.vertex-place.ensures.vertex in
    (x.0, c.send_home.ensures.slot x.0 x.1 x.2, ap (λ (h : PassView). item h.items c.vertex-place.result) c.send_home.ensures.known ∙ x.1)

pub loop-star-preserved : goal.loop-star-preserved
loop-star-preserved c =
    let e = c.send_home.ensures in
    let r = c.release.ensures in (
      given_one c.args.pass.now c.loop-star.pass c.send_home.new.pass c.release.new.self c.args.flips.now c.loop-star.lent.items c.pop.new.self.items c.in-Some.star c.vertex-place.result c.loop-star.invariant.0 c.in-Some.ensures.items c.vertex-place.ensures.vertex e.same e.known e.slots r.same r.known.0 r.slots,
      c.pop.ensures.capacity ∙ c.loop-star.invariant.1,
    )
