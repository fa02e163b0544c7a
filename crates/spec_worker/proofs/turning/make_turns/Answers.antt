use Rattle.std.proofs.Common.{◌≤◌, refl, arith}
use Rattle.vertex_claims.specs.Passes.{places_on}
use Rattle.held_stars.proofs.LentStars.{same_passes}
use Rattle.held_stars.proofs.Gates.{follows_self, follows_both, keeps_self, keeps_both}
use Rattle.spec_worker.proofs.Series.{here, free_positive, none_made, stopped, all_made, is_next, next_within, one_more, rest_of, rest_then}
use Rattle.spec_worker.proofs.turning.make_turns.Goals as goal

pub loop-turn-init : goal.loop-turn-init
loop-turn-init g c = (none_made c.args.try_plan.now c.args.dim (places_on c.args.board.now) c.args.pass.now c.args.hold.now c.requires.room.0 c.requires.room.1, omega arith, follows_self _ _ (keeps_self _ _ _ _ _ refl refl refl))

pub propose-requires-clause-star : goal.propose-requires-clause-star
propose-requires-clause-star g c =
    let r = c.requires.turned in
    let t = c.loop-turn.invariant.0.turned r.0 r.1 r.2 r.3 r.4 in
    let x = here c.args.try_plan.now c.args.dim r.0 r.1 c.loop-turn.pass c.loop-turn.hold (rest_of r.0 r.1 c.loop-turn.hold) r.2 r.3 t in
    (x.now, x.stars, (let e : 1 ≤ x.now.dim = omega (arith, x.dim_is, c.requires.dim.0) in e))

pub propose-requires-clause-held : goal.propose-requires-clause-held
propose-requires-clause-held g c =
    let r = c.requires.turned in
    let t = c.loop-turn.invariant.0.turned r.0 r.1 r.2 r.3 r.4 in
    (here c.args.try_plan.now c.args.dim r.0 r.1 c.loop-turn.pass c.loop-turn.hold (rest_of r.0 r.1 c.loop-turn.hold) r.2 r.3 t).held

pub propose-requires-clause-free : goal.propose-requires-clause-free
propose-requires-clause-free g c = free_positive (places_on c.args.board.now) c.args.try_plan.now.free.now c.requires.try_plan.free

pub returns-in_default-clause-turned : goal.returns-in_default-clause-turned
returns-in_default-clause-turned g c =
    stopped c.args.try_plan.now c.args.dim (places_on c.args.board.now) c.loop-turn.turn c.args.pass.now c.args.hold.now c.loop-turn.pass c.loop-turn.hold _ c.propose.result c.loop-turn.invariant.0 refl c.propose.ensures.lent.0 c.in_default.is c.propose.ensures.proposal

pub take_turn-requires-clause-places : goal.take_turn-requires-clause-places
take_turn-requires-clause-places g c =
    let r = c.requires.turned in
    next_within c.args.try_plan.now c.args.dim (places_on c.args.board.now) c.loop-turn.turn c.args.pass.now c.args.hold.now c.loop-turn.pass c.loop-turn.hold c.in-Some.flip r.0 r.1 c.loop-turn.invariant.0 c.requires.try_plan c.requires.board.1 c.in-Some.ensures.fits r.2 r.3 r.4

pub take_turn-requires-clause-next : goal.take_turn-requires-clause-next
take_turn-requires-clause-next g c =
    let r = c.requires.turned in (
      r.1,
      rest_then r.0 r.1 c.loop-turn.hold c.in-Some.flip,
      is_next c.args.try_plan.now c.args.dim (places_on c.args.board.now) c.loop-turn.turn c.args.pass.now c.args.hold.now c.loop-turn.pass c.loop-turn.hold _ c.propose.result c.in-Some.flip c.loop-turn.invariant.0 c.loop-turn-test.true refl c.propose.ensures.lent.0 c.in-Some.is c.propose.ensures.proposal c.in-Some.ensures.fits r.0 r.1 r.2 r.3 r.4,
    )

pub returns-in-Err-clause-same : goal.returns-in-Err-clause-same
returns-in-Err-clause-same g c = same_passes c.args.pass.now c.loop-turn.pass c.take_turn.new.pass c.loop-turn.invariant.0.same c.take_turn.ensures.same

pub returns-in-Err-clause-ends : goal.returns-in-Err-clause-ends
returns-in-Err-clause-ends g c = λ task s told begun was.
    c.in-Err.ensures.ends task s (rest_then task s c.loop-turn.hold c.in-Some.flip) told.dim_is
    (is_next c.args.try_plan.now c.args.dim (places_on c.args.board.now) c.loop-turn.turn c.args.pass.now c.args.hold.now c.loop-turn.pass c.loop-turn.hold _ c.propose.result c.in-Some.flip c.loop-turn.invariant.0 c.loop-turn-test.true refl c.propose.ensures.lent.0 c.in-Some.is c.propose.ensures.proposal c.in-Some.ensures.fits task s told begun was)

pub loop-turn-preserved : goal.loop-turn-preserved
loop-turn-preserved g c =
    let o = c.args.try_plan.now in
    let n = places_on c.args.board.now in
    let e = c.in_default-take_turn.ensures in
    let i = c.loop-turn.invariant in
    let r = c.requires.turned in
    let later = i.1 in
    let within = next_within o c.args.dim n c.loop-turn.turn c.args.pass.now c.args.hold.now c.loop-turn.pass c.loop-turn.hold c.in-Some.flip r.0 r.1 i.0 c.requires.try_plan c.requires.board.1 c.in-Some.ensures.fits r.2 r.3 r.4 in (
      one_more o c.args.dim n c.loop-turn.turn c.args.pass.now c.args.hold.now c.loop-turn.pass c.take_turn.new.pass c.loop-turn.hold _ c.take_turn.new.hold c.in-Some.flip i.0 e.same e.kept e.room refl e.flips within
          (is_next o c.args.dim n c.loop-turn.turn c.args.pass.now c.args.hold.now c.loop-turn.pass c.loop-turn.hold _ c.propose.result c.in-Some.flip i.0 c.loop-turn-test.true refl c.propose.ensures.lent.0 c.in-Some.is c.propose.ensures.proposal c.in-Some.ensures.fits) e.turned,
      omega (arith, later, e.later),
      follows_both _ _ _ _ _ _ i.2 e.heard (λ h k g. keeps_both _ _ _ _ _ _ _ h k g),
    )

pub returns-clause-turned : goal.returns-clause-turned
returns-clause-turned g c = all_made c.args.try_plan.now c.args.dim (places_on c.args.board.now) c.loop-turn.turn c.args.pass.now c.args.hold.now c.loop-turn.pass c.loop-turn.hold c.loop-turn.invariant.0 (omega arith)

pub returns-in_default-clause-heard : goal.returns-in_default-clause-heard
returns-in_default-clause-heard g c = c.loop-turn.invariant.2

pub returns-in-Err-clause-heard : goal.returns-in-Err-clause-heard
returns-in-Err-clause-heard g c = follows_both _ _ _ _ _ _ c.loop-turn.invariant.2 c.in-Err.ensures.heard (λ h k g. keeps_both _ _ _ _ _ _ _ h k g)

pub returns-clause-heard : goal.returns-clause-heard
returns-clause-heard g c = c.loop-turn.invariant.2
