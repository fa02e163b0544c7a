use Rattle.std.proofs.Common.{◌∙◌, refl}
use mathlib.Core.Option.{some}
use Rattle.board_rule.specs.Views.{home}
use Rattle.board_rule.specs.declared.data.Slot.TheVariants.{Home}
use Rattle.vertex_claims.specs.Passes.{know}
use Rattle.held_stars.proofs.GivenUp.{held_of, not_held}
use Rattle.held_stars.proofs.Claims.{puts_both, put_here, found_vertex, first_held, claimed, going_claimed, ends_refused, ends_quit, ok_any, err_quit, here_now}
use Rattle.held_stars.proofs.Gates.{follows_self, follows_then, keeps_self, keeps_claimed, same_noted, noted_refused, noted_won}
use Rattle.held_stars.proofs.claiming.claim_label.Goals as goal

pub returns-then-holds-clause-label : goal.returns-then-holds-clause-label
returns-then-holds-clause-label g c = held_of (know c.args.pass.now) c.args.label c.holds.result c.requires.going.3.free c.holds.ensures c.if-holds.true

pub returns-then-holds-clause-going : goal.returns-then-holds-clause-going
returns-then-holds-clause-going g c = λ s now going label made. (now, going, made, refl)

pub returns-in-Err-clause-ends : goal.returns-in-Err-clause-ends
returns-in-Err-clause-ends g c = λ s now going label made.
    let lost = c.in-Err.ensures.lost in
    here_now s c.claim.new.self c.args.hold.now c.in-Err.field-0.place c.in-Err.field-0.owner c.args.label lost.0
    (ends_refused s c.args.pass.now c.claim.new.self c.args.hold.now now c.args.label c.in-Err.field-0.owner going made c.requires.label.0
    (not_held (know c.args.pass.now) c.args.label c.holds.result c.args.pass.now.sees c.holds.ensures c.if-holds.false) label lost.1 lost.2 lost.3)

pub lend-requires-clause-star : goal.lend-requires-clause-star
lend-requires-clause-star g c = let won = c.in-Ok.ensures.star c.requires.label.0 in (won.0, put_here c.args.pass.now c.claim.new.self c.args.label (some (Home won.0)) won.3, found_vertex (know c.args.pass.now) c.claim.new.self c.args.label won.0 won.1 won.2)

pub lend-requires-clause-rising : goal.lend-requires-clause-rising
lend-requires-clause-rising g c = c.requires.going.3.held.rising

pub lend-requires-clause-fresh : goal.lend-requires-clause-fresh
lend-requires-clause-fresh g c = c.requires.going.3.held.each c.args.label ∙ not_held (know c.args.pass.now) c.args.label c.holds.result c.args.pass.now.sees c.holds.ensures c.if-holds.false

pub returns-in-Ok-clause-going : goal.returns-in-Ok-clause-going
returns-in-Ok-clause-going g c = λ s now going label made.
    let won = c.in-Ok.ensures.star c.requires.label.0 in
    let here = put_here c.args.pass.now c.claim.new.self c.args.label (some (Home won.0)) won.3 in
    let out = c.lend.ensures.slots won.0 here in
    let known = c.lend.ensures.known ∙ won.2 in
    let free = not_held (know c.args.pass.now) c.args.label c.holds.result c.args.pass.now.sees c.holds.ensures c.if-holds.false in
    let more = claimed c.args.pass.now c.lend.new.pass c.args.hold.now.flips.items c.args.hold.now.lent.items c.lend.new.lent.items now c.args.label won.0 won.1 out.0 made known
    (puts_both c.args.pass.now c.claim.new.self c.lend.new.pass c.args.label (some (Home won.0)) (some (Home (home out.0 won.0.version))) won.3 out.1) free (c.lend.ensures.lent won.0 here) in
    ok_any c.ask.result (more.complex, going_claimed s (know c.args.pass.now) (know c.lend.new.pass) c.args.label won.0 won.1 going known free label, more.made, more.stars s.place (first_held s (know c.args.pass.now) going))

pub returns-in-Ok-clause-ends : goal.returns-in-Ok-clause-ends
returns-in-Ok-clause-ends g c = λ s now going label made.
    let won = c.in-Ok.ensures.star c.requires.label.0 in
    let here = put_here c.args.pass.now c.claim.new.self c.args.label (some (Home won.0)) won.3 in
    let out = c.lend.ensures.slots won.0 here in
    let known = c.lend.ensures.known ∙ won.2 in
    let free = not_held (know c.args.pass.now) c.args.label c.holds.result c.args.pass.now.sees c.holds.ensures c.if-holds.false in
    let more = claimed c.args.pass.now c.lend.new.pass c.args.hold.now.flips.items c.args.hold.now.lent.items c.lend.new.lent.items now c.args.label won.0 won.1 out.0 made known
    (puts_both c.args.pass.now c.claim.new.self c.lend.new.pass c.args.label (some (Home won.0)) (some (Home (home out.0 won.0.version))) won.3 out.1) free (c.lend.ensures.lent won.0 here) in
    err_quit _ _ c.ask.result c.ask.ensures.quit (λ answer is. ends_quit s c.lend.new.pass _ more.complex answer (going_claimed s (know c.args.pass.now) (know c.lend.new.pass) c.args.label won.0 won.1 going known free label) more.made is)

pub returns-then-holds-clause-heard : goal.returns-then-holds-clause-heard
returns-then-holds-clause-heard g c = follows_self _ _ (keeps_self _ _ _ _ _ refl refl refl)

pub returns-in-Err-clause-heard : goal.returns-in-Err-clause-heard
returns-in-Err-clause-heard g c =
    follows_self _ _ (keeps_self _ _ _ _ _ refl (same_noted _ _ c.in-Err.ensures.lost.2 ∙ noted_refused (know c.args.pass.now).tries c.args.label c.in-Err.field-0.owner) refl)

pub returns-in-Ok-clause-heard : goal.returns-in-Ok-clause-heard
returns-in-Ok-clause-heard g c =
    let won = c.in-Ok.ensures.star c.requires.label.0 in
    follows_then _ _ _ _ c.ask.ensures.heard (keeps_claimed _ _ _ _ _ (same_noted _ _ (c.lend.ensures.known ∙ won.2) ∙ noted_won _ _ _ c.args.label won.0 c.requires.going.2.noting.tries) refl)
