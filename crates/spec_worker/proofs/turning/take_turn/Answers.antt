use Rattle.std.proofs.Common.{◌≡◌, ◌∙◌, Result, Ok, Err, OnOk, IfErr, [], ◌∷◌, length, length-append, sym, ap, refl}
use Rattle.stars.specs.StarViews.{shown}
use Rattle.vertex_claims.specs.Passes.{know}
use Rattle.held_stars.proofs.MadeFlips.{union_touches, union_few, touch_one, labels_lent}
use Rattle.held_stars.specs.Gates.{is_stop}
use Rattle.held_stars.proofs.Gates.{follows_then, follows_both, keeps_as, keeps_self, keeps_flipped, keeps_both}
use Rattle.round_rules.specs.declared.tried.Tried.{Tried}
use Rattle.round_rules.specs.declared.tried.Tried.TheVariants.{Quit}
use Rattle.spec_worker.proofs.Turns.{all_among, next_shape, claimed, turned, ended_quit, ended_claim_quit, ended_busy, ended_memory, ended_blocked}
use Rattle.spec_worker.proofs.turning.take_turn.Goals as goal

ok_any : {P : Type 0} (r : Result (Unit {0}) Tried) → P → OnOk r P
ok_any (Ok u) p = p
ok_any (Err e) p = tt

err_quit : (P : Type 0) (Q : Tried → Type 0) (r : Result (Unit {0}) Tried) → IfErr r (λ a. (a ≡ Quit) × P) → ((a : Tried) → a ≡ Quit → Q a) → IfErr r Q
err_quit P Q (Ok u) h f = tt
err_quit P Q (Err e) h f = f e h.0

pub unreachable-requires : goal.unreachable-requires
unreachable-requires g c =
    let r = c.requires.next in
    c.in_default.ensures (union_few c.args.dim c.args.flip.now c.requires.dim (next_shape r.0 c.args.dim c.args.pass.now c.args.hold.now c.args.flip.now r.1 r.2))

pub claim_labels-requires-clause-places : goal.claim_labels-requires-clause-places
claim_labels-requires-clause-places g c = λ q t. c.requires.places q (touch_one q c.args.flip.now (sym (union_touches c.deref.result.now c.args.flip.now q (c.deref.ensures ∙ c.labels.ensures.labels ∙ c.in-Some.ensures.1)) ∙ t))

pub claim_labels-requires-clause-going : goal.claim_labels-requires-clause-going
claim_labels-requires-clause-going g c =
    let r = c.requires.next in
    (r.0, r.2.turned.now, r.2.turned.going, r.2.turned.made, all_among r.0 c.args.dim c.args.pass.now c.args.hold.now c.args.flip.now r.1 c.deref.result.now r.2 (c.deref.ensures ∙ c.labels.ensures.labels ∙ c.in-Some.ensures.1))

pub returns-in-Err-Busy-clause-ends : goal.returns-in-Err-Busy-clause-ends
returns-in-Err-Busy-clause-ends g c = λ task s next is n.
    ended_busy task s c.claim_labels.new.pass c.claim_labels.new.hold _ _ _ _ _ c.in-Err-Busy.field-0-is c.in-Err-Busy.place-is c.in-Err-Busy.owner-is
    (c.in-Err-Busy.ensures.ends s n.turned.now n.turned.going (all_among s c.args.dim c.args.pass.now c.args.hold.now c.args.flip.now next c.deref.result.now n (c.deref.ensures ∙ c.labels.ensures.labels ∙ c.in-Some.ensures.1)) n.turned.made)

pub returns-in-Err-Quit-clause-ends : goal.returns-in-Err-Quit-clause-ends
returns-in-Err-Quit-clause-ends g c = λ task s next is n.
    ended_claim_quit task s c.claim_labels.new.pass c.claim_labels.new.hold _ c.in-Err-Quit.field-0-is
    (c.in-Err-Quit.ensures.ends s n.turned.now n.turned.going (all_among s c.args.dim c.args.pass.now c.args.hold.now c.args.flip.now next c.deref.result.now n (c.deref.ensures ∙ c.labels.ensures.labels ∙ c.in-Some.ensures.1)) n.turned.made)

pub make_flip-requires-clause-made : goal.make_flip-requires-clause-made
make_flip-requires-clause-made g c =
    let r = c.requires.next in
    let e = c.in-Ok.ensures in
    let t = claimed r.0 c.args.dim c.args.pass.now c.claim_labels.new.pass c.args.hold.now c.claim_labels.new.hold c.args.flip.now r.1 c.deref.result.now r.2 (c.deref.ensures ∙ c.labels.ensures.labels ∙ c.in-Some.ensures.1) c.in-Some.ensures.0 e.hold.0 e.hold.2 e.held (e.going r.0) in
    (c.claim_labels.new.pass, t.now, t.made)

pub make_flip-requires-clause-labels : goal.make_flip-requires-clause-labels
make_flip-requires-clause-labels g c =
    let r = c.requires.next in
    let e = c.in-Ok.ensures in
    let t = claimed r.0 c.args.dim c.args.pass.now c.claim_labels.new.pass c.args.hold.now c.claim_labels.new.hold c.args.flip.now r.1 c.deref.result.now r.2 (c.deref.ensures ∙ c.labels.ensures.labels ∙ c.in-Some.ensures.1) c.in-Some.ensures.0 e.hold.0 e.hold.2 e.held (e.going r.0) in
    labels_lent (know c.claim_labels.new.pass).items (shown c.claim_labels.new.hold.lent.items) c.args.flip.now t.made.held t.labels

pub returns-in-Ok-make_flip-clause-turned : goal.returns-in-Ok-make_flip-clause-turned
returns-in-Ok-make_flip-clause-turned g c = λ s next n.
    let e = c.in-Ok.ensures in
    let m = c.in-Ok-make_flip.ensures in
    let t = claimed s c.args.dim c.args.pass.now c.claim_labels.new.pass c.args.hold.now c.claim_labels.new.hold c.args.flip.now next c.deref.result.now n (c.deref.ensures ∙ c.labels.ensures.labels ∙ c.in-Some.ensures.1) c.in-Some.ensures.0 e.hold.0 e.hold.2 e.held (e.going s) in
    ok_any c.ask.result (turned s c.claim_labels.new.pass c.claim_labels.new.hold c.make_flip.new.hold c.args.flip.now next t (m.made c.claim_labels.new.pass t.now t.made) m.flips.0 m.lent)

pub returns-in-Ok-make_flip-clause-ends : goal.returns-in-Ok-make_flip-clause-ends
returns-in-Ok-make_flip-clause-ends g c = λ task s next is n.
    let e = c.in-Ok.ensures in
    let m = c.in-Ok-make_flip.ensures in
    let t = claimed s c.args.dim c.args.pass.now c.claim_labels.new.pass c.args.hold.now c.claim_labels.new.hold c.args.flip.now next c.deref.result.now n (c.deref.ensures ∙ c.labels.ensures.labels ∙ c.in-Some.ensures.1) c.in-Some.ensures.0 e.hold.0 e.hold.2 e.held (e.going s) in
    let done = turned s c.claim_labels.new.pass c.claim_labels.new.hold c.make_flip.new.hold c.args.flip.now next t (m.made c.claim_labels.new.pass t.now t.made) m.flips.0 m.lent in
    err_quit _ _ c.ask.result c.ask.ensures.quit (λ a quits. ended_quit task s c.claim_labels.new.pass c.make_flip.new.hold next a done quits)

pub returns-in-Err-Illegal-clause-ends : goal.returns-in-Err-Illegal-clause-ends
returns-in-Err-Illegal-clause-ends g c = λ task s next is n.
    let e = c.in-Ok.ensures in
    let m = c.in-Err-Illegal.ensures in
    let t = claimed s c.args.dim c.args.pass.now c.claim_labels.new.pass c.args.hold.now c.claim_labels.new.hold c.args.flip.now next c.deref.result.now n (c.deref.ensures ∙ c.labels.ensures.labels ∙ c.in-Some.ensures.1) c.in-Some.ensures.0 e.hold.0 e.hold.2 e.held (e.going s) in
    ended_blocked task s c.args.flip.now next c.claim_labels.new.pass c.claim_labels.new.hold c.make_flip.new.hold _ _ t (n.dim_is ∙ sym is) c.in-Err-Illegal.field-0-is (m.broken_rule c.claim_labels.new.pass t.now t.made) (m.restorable c.claim_labels.new.pass t.now t.made)

pub returns-in-Err-Memory-clause-ends : goal.returns-in-Err-Memory-clause-ends
returns-in-Err-Memory-clause-ends g c = λ task s next is n.
    let e = c.in-Ok.ensures in
    let m = c.in-Err-Memory.ensures in
    let t = claimed s c.args.dim c.args.pass.now c.claim_labels.new.pass c.args.hold.now c.claim_labels.new.hold c.args.flip.now next c.deref.result.now n (c.deref.ensures ∙ c.labels.ensures.labels ∙ c.in-Some.ensures.1) c.in-Some.ensures.0 e.hold.0 e.hold.2 e.held (e.going s) in
    ended_memory task s c.args.flip.now next c.claim_labels.new.pass c.claim_labels.new.hold c.make_flip.new.hold _ t (n.dim_is ∙ sym is) c.in-Err-Memory.field-0-is (λ x broken. m.told c.claim_labels.new.pass t.now x t.made broken) (m.restorable c.claim_labels.new.pass t.now t.made)

pub returns-in-Err-Busy-clause-heard : goal.returns-in-Err-Busy-clause-heard
returns-in-Err-Busy-clause-heard g c = follows_then _ _ _ _ c.in-Err-Busy.ensures.heard (keeps_as _ _ _ _ _ _ (ap is_stop c.in-Err-Busy.field-0-is))

pub returns-in-Err-Quit-clause-heard : goal.returns-in-Err-Quit-clause-heard
returns-in-Err-Quit-clause-heard g c = follows_then _ _ _ _ c.in-Err-Quit.ensures.heard (keeps_as _ _ _ _ _ _ (ap is_stop c.in-Err-Quit.field-0-is))

pub returns-in-Ok-make_flip-clause-heard : goal.returns-in-Ok-make_flip-clause-heard
returns-in-Ok-make_flip-clause-heard g c =
    let m = c.in-Ok-make_flip.ensures in
    follows_both _ _ _ _ _ _ c.in-Ok.ensures.heard c.ask.ensures.heard (λ h k g a e. keeps_both _ _ _ _ _ _ _ h k g a (keeps_flipped _ _ _ _ _ refl (ap length m.flips.0 ∙ length-append c.claim_labels.new.hold.flips.items (c.args.flip.now ∷ [])) k g e))

pub returns-in-Err-Illegal-clause-heard : goal.returns-in-Err-Illegal-clause-heard
returns-in-Err-Illegal-clause-heard g c =
    let m = c.in-Err-Illegal.ensures in
    follows_then _ _ _ _ c.in-Ok.ensures.heard (λ h g a. keeps_both _ _ _ _ _ _ _ h g g a (keeps_self _ _ _ _ _ refl refl (ap length m.flips.1) g))

pub returns-in-Err-Memory-clause-heard : goal.returns-in-Err-Memory-clause-heard
returns-in-Err-Memory-clause-heard g c =
    let m = c.in-Err-Memory.ensures in
    follows_then _ _ _ _ c.in-Ok.ensures.heard (λ h g a. keeps_both _ _ _ _ _ _ _ h g g a (keeps_self _ _ _ _ _ refl refl (ap length m.flips.1) g))
