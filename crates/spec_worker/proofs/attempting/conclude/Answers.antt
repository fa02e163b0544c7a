use Rattle.std.proofs.Common.{◌∷◌, ◌∙◌, w32, rules, sym, subst, refl}
use lib.IntN.{ℤ}
use mir.Val.{SFits}
use Rattle.std.proofs.lemmas.Int.{to_z-of_z}
use Rattle.spec_worker.proofs.Hearing.{ends_here, journal_here}
use Rattle.held_stars.proofs.Gates.{follows_self, follows_then, keeps_self, same_noted, noted_waiting}
use Rattle.vertex_claims.specs.Passes.{round_of, know, entry_of}
use Rattle.round_rules.specs.declared.tried.Tried.TheVariants.{Declined}
use Rattle.spec_worker.specs.Trying.{Ended}
use Rattle.spec_worker.proofs.ConcludedTries.{no_flips, some_flips, permitted, above, none_made, declined, refused, left_quit, left_memory, may_claim, labels_held, legal_now, entered, told_lost, told_won, told_left, told_entered}
use Rattle.spec_worker.proofs.attempting.conclude.Goals as goal

pub returns-then-is_empty-clause-ends : goal.returns-then-is_empty-clause-ends
returns-then-is_empty-clause-ends g c = λ task s told of turned.
    let flips = c.args.hold.now.flips in
    none_made task s c.args.pass.now c.args.hold.now (no_flips flips.items flips.len c.is_empty.result flips.ok.0 c.is_empty.ensures c.if-is_empty.true) turned

pub returns-in-Err-clause-ends : goal.returns-in-Err-clause-ends
returns-in-Err-clause-ends g c = λ task s told of turned.
    let flips = c.args.hold.now.flips in
    let fits : SFits w32 c.in-Err.sum = search rules in
    subst (λ (sum : ℤ). Ended task s c.args.pass.now c.args.hold.now (Declined sum)) (sym (to_z-of_z w32 c.in-Err.sum fits))
    (declined task s c.args.pass.now c.args.hold.now c.in-Err.sum (some_flips flips.items flips.len c.is_empty.result flips.ok.0 c.is_empty.ensures c.if-is_empty.false) of turned
    (above task c.args.try_plan.now c.args.dim c.deref.result.now flips.items c.in-Err.sum told c.deref.ensures.value c.in-Err.ensures.above))

pub returns-in-Err-fetch-clause-ends : goal.returns-in-Err-fetch-clause-ends
returns-in-Err-fetch-clause-ends g c = λ task s told of turned.
    let flips = c.args.hold.now.flips in
    let lost = c.in-Err-fetch.ensures.lost in
    refused task s c.args.pass.now c.fetch.new.pass c.args.hold.now lost.0 c.in-Err-fetch.owner (some_flips flips.items flips.len c.is_empty.result flips.ok.0 c.is_empty.ensures c.if-is_empty.false) of turned
    (permitted task c.args.try_plan.now c.args.dim c.deref.result.now flips.items told c.deref.ensures.value c.in_default.ensures.allowed)
    lost.1 lost.2 lost.3 lost.4

pub returns-in-Err-ask-clause-ends : goal.returns-in-Err-ask-clause-ends
returns-in-Err-ask-clause-ends g c = λ task s told of turned.
    let won = c.in_default-fetch.ensures.won in
    let left = c.leave_journal.ensures in
    left_quit task s c.args.pass.now c.fetch.new.pass c.leave_journal.new.self c.args.hold.now won.0 won.1.entries c.in-Err-ask.answer c.in-Err-ask.ensures.quit.0 turned won.3 won.4 left.known left.slots

pub returns-then-is_err-clause-ends : goal.returns-then-is_err-clause-ends
returns-then-is_err-clause-ends g c = λ task s told of turned.
    let won = c.in_default-fetch.ensures.won in
    let room = c.journal_room.ensures in
    let left = c.leave_journal-then-is_err.ensures in
    let flips = c.args.hold.now.flips in
    left_memory task s c.args.pass.now c.journal_room.new.self c.leave_journal-then-is_err.new.self c.args.hold.now won.0 won.1.entries (some_flips flips.items flips.len c.is_empty.result flips.ok.0 c.is_empty.ensures c.if-is_empty.false) of turned won.2 (room.known ∙ won.3)
    (λ q ne. room.slots q ne ∙ won.4 q ne) left.known left.slots

pub commit-requires-clause-claiming : goal.commit-requires-clause-claiming
commit-requires-clause-claiming g c =
    let won = c.in_default-fetch.ensures.won in
    let r = c.requires.turned in
    may_claim r.1 c.args.pass.now c.journal_room.new.self c.args.hold.now won.0 won.1.entries r.4 (c.journal_room.ensures.known ∙ won.3)

pub commit-requires-clause-held : goal.commit-requires-clause-held
commit-requires-clause-held g c =
    let won = c.in_default-fetch.ensures.won in
    let r = c.requires.turned in
    labels_held r.1 c.args.pass.now c.journal_room.new.self c.args.hold.now won.0 won.1.entries c.deref-2.result.now r.4 (c.journal_room.ensures.known ∙ won.3) c.deref-2.ensures.value

pub commit-requires-clause-legal : goal.commit-requires-clause-legal
commit-requires-clause-legal g c =
    let won = c.in_default-fetch.ensures.won in
    let r = c.requires.turned in
    legal_now r.1 c.args.pass.now c.journal_room.new.self c.args.hold.now won.0 won.1.entries c.deref-2.result.now r.4 (c.journal_room.ensures.known ∙ won.3) c.deref-2.ensures.value

pub returns-clause-commits : goal.returns-clause-commits
returns-clause-commits g c = λ task s told of turned.
    let flips = c.args.hold.now.flips in
    let won = c.in_default-fetch.ensures.won in
    let room = c.journal_room.ensures in
    let made = c.commit.ensures in
    entered task s c.args.pass.now c.journal_room.new.self c.commit.new.self c.args.hold.now won.0 won.1.entries c.deref-2.result.now (round_of c.args.board.now) c.commit.result made.known.0 (some_flips flips.items flips.len c.is_empty.result flips.ok.0 c.is_empty.ensures c.if-is_empty.false) of turned
    (permitted task c.args.try_plan.now c.args.dim c.deref.result.now flips.items told c.deref.ensures.value c.in_default.ensures.allowed)
    won.2 (room.known ∙ won.3) (λ q ne. room.slots q ne ∙ won.4 q ne) c.deref-2.ensures.value made.seq made.known.1 made.slots

pub returns-in-Err-fetch-clause-kept : goal.returns-in-Err-fetch-clause-kept
returns-in-Err-fetch-clause-kept g c = let lost = c.in-Err-fetch.ensures.lost in told_lost (know c.args.pass.now) (know c.fetch.new.pass) (c.in-Err-fetch.owner ∷ lost.0) lost.3

pub returns-in-Err-ask-clause-kept : goal.returns-in-Err-ask-clause-kept
returns-in-Err-ask-clause-kept g c =
    let won = c.in_default-fetch.ensures.won in
    told_left (know c.args.pass.now) (know c.fetch.new.pass) (know c.leave_journal.new.self) (told_won (know c.args.pass.now) (know c.fetch.new.pass) won.0 won.1.entries won.3) c.leave_journal.ensures.known

pub returns-then-is_err-clause-kept : goal.returns-then-is_err-clause-kept
returns-then-is_err-clause-kept g c =
    let won = c.in_default-fetch.ensures.won in
    told_left (know c.args.pass.now) (know c.journal_room.new.self) (know c.leave_journal-then-is_err.new.self) (told_won (know c.args.pass.now) (know c.journal_room.new.self) won.0 won.1.entries (c.journal_room.ensures.known ∙ won.3)) c.leave_journal-then-is_err.ensures.known

pub returns-clause-kept : goal.returns-clause-kept
returns-clause-kept g c =
    let won = c.in_default-fetch.ensures.won in
    let made = c.commit.ensures.known in
    told_entered (know c.args.pass.now) (know c.journal_room.new.self) (know c.commit.new.self) (entry_of c.journal_room.new.self c.args.board.now c.deref-2.result.now) made.0 (told_won (know c.args.pass.now) (know c.journal_room.new.self) won.0 won.1.entries (c.journal_room.ensures.known ∙ won.3)) made.1

pub returns-then-is_empty-clause-heard : goal.returns-then-is_empty-clause-heard
returns-then-is_empty-clause-heard g c = follows_self _ _ (λ h. ends_here _ _ _ _ _ h h (keeps_self _ _ _ _ _ refl refl refl h))

pub returns-in-Err-clause-heard : goal.returns-in-Err-clause-heard
returns-in-Err-clause-heard g c = follows_self _ _ (λ h. ends_here _ _ _ _ _ h h (keeps_self _ _ _ _ _ refl refl refl h))

pub returns-in-Err-fetch-clause-heard : goal.returns-in-Err-fetch-clause-heard
returns-in-Err-fetch-clause-heard g c =
    let lost = c.in-Err-fetch.ensures.lost in
    follows_self _ _ (λ h. ends_here _ _ _ _ _ h h (keeps_self _ _ _ _ _ refl (same_noted _ _ lost.3 ∙ noted_waiting (know c.args.pass.now) (c.in-Err-fetch.owner ∷ lost.0)) refl h))

pub returns-in-Err-ask-clause-heard : goal.returns-in-Err-ask-clause-heard
returns-in-Err-ask-clause-heard g c =
    let won = c.in_default-fetch.ensures.won in
    follows_then _ _ _ _ c.in-Err-ask.ensures.heard (λ h g e. journal_here _ _ _ _ (same_noted _ _ c.leave_journal.ensures.known ∙ (same_noted _ _ won.3 ∙ noted_waiting (know c.args.pass.now) won.0)) h g e)

pub returns-then-is_err-clause-heard : goal.returns-then-is_err-clause-heard
returns-then-is_err-clause-heard g c =
    let won = c.in_default-fetch.ensures.won in
    follows_then _ _ _ _ c.in_default-ask.ensures.heard (λ h g e. journal_here _ _ _ _ (same_noted _ _ c.leave_journal-then-is_err.ensures.known ∙ (same_noted _ _ (c.journal_room.ensures.known ∙ won.3) ∙ noted_waiting (know c.args.pass.now) won.0)) h g e)

pub returns-clause-heard : goal.returns-clause-heard
returns-clause-heard g c =
    let won = c.in_default-fetch.ensures.won in
    follows_then _ _ _ _ c.in_default-ask.ensures.heard (λ h g e. journal_here _ _ _ _ (same_noted _ _ c.commit.ensures.known.1 ∙ (same_noted _ _ (c.journal_room.ensures.known ∙ won.3) ∙ noted_waiting (know c.args.pass.now) won.0)) h g e)
