use Rattle.std.proofs.Common.{◌+◌, length, rules, refl, Err}
use Rattle.held_stars.specs.Gates.{Follows, noted_in}
use Rattle.held_stars.proofs.Gates.{follows_then, follows_both, keeps_claimed, keeps_both, keeps_more}
use Rattle.vertex_claims.specs.Passes.{know}
use Rattle.spec_worker.specs.Hearing.{Concludes}
use Rattle.spec_worker.proofs.Hearing.{ends_here, concludes_then}
use Rattle.spec_worker.specs.Trying.{Ended}
use Rattle.spec_worker.proofs.ConcludedTries.{ended_quit}
use Rattle.spec_worker.proofs.attempting.explore.Goals as goal

pub returns-in_err-ask-clause-ends : goal.returns-in_err-ask-clause-ends
returns-in_err-ask-clause-ends g c = λ task s told of turned.
    let ends : Ended task s c.args.pass.now c.args.hold.now c.in_err-ask.field-0.0 = ended_quit task s c.args.pass.now c.args.hold.now s.flips c.in_err-ask.field-0.0 c.in_err-ask.ensures.quit.0 turned in
    search rules

pub returns-in_err-ask-clause-heard : goal.returns-in_err-ask-clause-heard
returns-in_err-ask-clause-heard g c =
    let p = noted_in (know c.args.pass.now).tries in
    let f = length c.args.hold.now.flips.items in
    let heard : Follows (g.G.Gate.heard c.args.gate.now) (g.G.Gate.heard c.ask.new.gate) (Concludes (Err c.in_err-ask.field-0.0) p (p + 1) f f) = follows_then _ _ _ _ c.in_err-ask.ensures.heard (λ h k e. ends_here _ _ _ _ _ h k (keeps_claimed _ _ _ _ _ refl refl h k e)) in
    search rules

pub returns-in_err-make_turns-clause-heard : goal.returns-in_err-make_turns-clause-heard
returns-in_err-make_turns-clause-heard g c =
    let old = c.args.hold.now in
    let now = c.make_turns.new.hold in
    let heard : Follows (g.G.Gate.heard c.args.gate.now) (g.G.Gate.heard c.make_turns.new.gate) (Concludes (Err c.in_err-make_turns.field-0.0) (noted_in (know c.args.pass.now).tries) (noted_in (know c.make_turns.new.pass).tries + 1) (length old.flips.items) (length now.flips.items)) =
    follows_both _ _ _ _ _ _ c.in_ok-ask.ensures.heard c.in_err-make_turns.ensures.heard (λ h k g a b. ends_here _ _ _ _ _ h g (keeps_both _ _ _ _ _ _ _ h k g (keeps_claimed _ _ _ _ _ refl refl h k a) (keeps_more _ _ _ _ _ k g b))) in
    search rules

pub returns-clause-heard : goal.returns-clause-heard
returns-clause-heard g c =
    follows_both _ _ _ _ _ _
    (follows_both _ _ _ _ _ _ c.in_ok-ask.ensures.heard c.in_ok-make_turns.ensures.heard (λ h k g a b. keeps_both _ _ _ _ _ _ _ h k g (keeps_claimed _ _ _ _ _ refl refl h k a) (keeps_more _ _ _ _ _ k g b)))
    c.conclude.ensures.heard (λ h k g a b. concludes_then _ _ _ _ _ _ _ h k g a b)
