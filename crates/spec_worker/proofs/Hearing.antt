-- What the gate of a worker hears, try after try.
use Rattle.std.proofs.Common.{◌≡◌, ℕ, ◌+◌, Bool, false, cond, List, [], ◌∷◌, ◌++◌, length, length-append, Result, Ok, Err, IfOk, IfErr, inl, inr, sym, ◌∙◌, ap, refl, subst, arith}
use Rattle.flip_rules.specs.Entries.{JournalEntry}
use Rattle.board_rule.specs.Tries.{Try}
use Rattle.board_rule.proofs.Items.{off}
use Rattle.vertex_claims.specs.Passes.{know}
use Rattle.vertex_claims.specs.declared.pass.Pass.{Pass}
use Rattle.held_stars.specs.Gates.{Heard, Keeps, after_asked, fails, noted_in}
use Rattle.held_stars.specs.Holding.{StartedTry}
use Rattle.held_stars.specs.declared.hold.Hold.{Hold}
use Rattle.held_stars.specs.declared.point.Point.TheVariants.{Start, Journal}
use Rattle.round_rules.specs.Accounts.{quits}
use Rattle.round_rules.specs.Tasks.{Task}
use Rattle.round_rules.specs.declared.tried.Tried.{Tried}
use Rattle.round_rules.specs.declared.tried.Tried.TheVariants.{Committed, Busy, Nothing, Blocked, Declined, Quit, NoMemory}
use Rattle.spec_worker.specs.Trying.{Ended, Entered, Cause}
use Rattle.spec_worker.specs.Hearing.{AtMostOnce, Concludes, TryHeard, RunHeard, after_made, commits, flips_in, is_commit, is_quit}
use Rattle.spec_worker.specs.declared.turning.TryPlan.{TryPlan}
use Rattle.spec_worker.proofs.BegunTries.{Begun}
use Rattle.spec_worker.proofs.WholeRuns.{quits_snoc}

-- ---- the end of a try

-- it ended without an entry, before the journal
pub ends_here : (a : Tried) (p p2 f f2 : ℕ) (h g : Heard) → Keeps (is_quit a) p p2 f f2 h g → Concludes (Err a) p p2 f f2 h g
ends_here a p p2 f f2 h g k = record { ended = k.ended; started = k.started; claimed = k.claimed; flipped = k.flipped; once = inl k.fetched; fetched = λ yes. off yes; committed = k.committed }

-- it was asked at the journal
pub journal_here : (made : Result ℕ Tried) (p p2 f : ℕ) → p2 ≡ p → (h g : Heard) → g ≡ after_asked Journal (fails is_quit made) h → Concludes made p p2 f f h g
journal_here made p p2 f noted h g e =
    let claims = ap (λ (k : Heard). k.claimed) e in
    let flips = ap (λ (k : Heard). k.flipped) e in
    let fetches = ap (λ (k : Heard). k.fetched) e in
    record {
      ended = ap (λ (k : Heard). k.ended) e;
      started = ap (λ (k : Heard). k.started) e;
      claimed = omega (arith, noted, claims);
      flipped = omega (arith, flips);
      once = inr fetches;
      fetched = λ _. fetches;
      committed = ap (λ (k : Heard). k.committed) e;
    }

-- its end after its turns
pub concludes_then : (made : Result ℕ Tried) (p p2 p3 f f2 f3 : ℕ) (h k g : Heard) → Keeps false p (p2 + 1) f f2 h k → Concludes made p2 p3 f2 f3 k g → Concludes made p (p3 + 1) f f3 h g
concludes_then made p p2 p3 f f2 f3 h k g a b =
    let none : k.ended ≡ h.ended + 0 = a.ended in
    let ended = b.ended in
    let first = a.claimed in
    let claims = b.claimed in
    let turns = a.flipped in
    let flips = b.flipped in
    let unasked = a.fetched in
    record {
      ended = omega (arith, none, ended);
      started = b.started ∙ a.started;
      claimed = omega (arith, first, claims);
      flipped = omega (arith, turns, flips);
      once = subst (λ (n : ℕ). AtMostOnce n g.fetched) unasked b.once;
      fetched = λ yes. let asked = b.fetched yes in omega (arith, unasked, asked);
      committed = b.committed ∙ a.committed;
    }

-- ---- one try

flips_snoc : (es : List JournalEntry) (e : JournalEntry) → flips_in (es ++ e ∷ []) ≡ flips_in es + length e.flips
flips_snoc [] e = omega arith
flips_snoc (x ∷ es) e = let h = flips_snoc es e in omega (arith, h)

no_entry : (task : Task) (s : StartedTry) (t : Try) (a : Tried) → Cause task s t a → is_commit a ≡ false
no_entry task s t (Committed n) cause = absurd cause.0.entered
no_entry task s t (Busy q o) cause = refl
no_entry task s t Nothing cause = refl
no_entry task s t (Blocked f) cause = refl
no_entry task s t (Declined c) cause = refl
no_entry task s t Quit cause = refl
no_entry task s t NoMemory cause = refl

-- the first place of a try is noted
pub first_noted : (n : ℕ) → 1 + n ≡ n + 1
first_noted n = omega arith

-- the last of its claims and flips were made, and it was ended
pub tried_heard : (task : Task) (o : TryPlan) (a b c d : Pass) (h n : Hold) (dim round : ℕ) (g : Begun task o a b h dim) → (know d).mine ≡ (know c).mine → h.flips.items ≡ [] → (made : Result ℕ Tried) (answer : Tried)
    → IfOk made (Entered task round g.begun c n) → IfErr made (Ended task g.begun c n) → IfOk made (λ seq. answer ≡ Committed seq) × IfErr made (λ cause. answer ≡ cause)
    → (l p q r : ℕ) → p ≡ l + 1 → r ≡ q → (x k y : Heard) → Concludes made p (q + 1) (length h.flips.items) (length n.flips.items) x k → y ≡ after_made made k
    → TryHeard 0 answer l r (flips_in (know a).mine) (flips_in (know d).mine) x y
tried_heard task o a b c d h n dim round g mine empty (Ok seq) answer entered ended is l p q r first last x k y concludes e =
    let starts = ap (λ (t : Heard). t.started) e in
    let claims = ap (λ (t : Heard). t.claimed) e in
    let flips = ap (λ (t : Heard). t.flipped) e in
    let fetches = ap (λ (t : Heard). t.fetched) e in
    let told = ap (λ (t : Heard). t.committed) e in
    let begun = concludes.started in
    let claimed = concludes.claimed in
    let made = concludes.flipped in
    let fetched = concludes.fetched refl in
    let same = concludes.committed in
    let zero_then = ap length empty in
    let all_now = ap length entered.flips in
    let entries = ap flips_in (mine ∙ entered.row.entered.entry) ∙ flips_snoc g.begun.mine _ in
    let were = ap flips_in g.mine in
    let one = ap (λ (t : Tried). commits (t ∷ [])) is.0 in
    let ended = ap (λ (t : Heard). t.ended) e in
    let kept : k.ended ≡ x.ended + 0 = concludes.ended in
    let none : cond {A = ℕ} (is_quit answer) 1 0 ≡ 0 = ap (λ (t : Tried). cond {A = ℕ} (is_quit t) 1 0) is.0 in
    record {
      ended = omega (arith, ended, kept, none);
      started = omega (arith, starts, begun);
      claimed = omega (arith, claims, claimed, first, last);
      flipped = λ _. omega (arith, flips, made, zero_then, all_now, entries, were);
      once = subst (λ (m : ℕ). AtMostOnce x.fetched m) (sym fetches) concludes.once;
      fetched = λ _. omega (arith, fetches, fetched);
      committed = omega (arith, told, same, one);
    }
tried_heard task o a b c d h n dim round g mine empty (Err cause) answer entered ended is l p q r first last x k y concludes e =
    let starts = ap (λ (t : Heard). t.started) e in
    let claims = ap (λ (t : Heard). t.claimed) e in
    let fetches = ap (λ (t : Heard). t.fetched) e in
    let told = ap (λ (t : Heard). t.committed) e in
    let begun = concludes.started in
    let claimed = concludes.claimed in
    let same = concludes.committed in
    let no : is_commit answer ≡ false = ap is_commit is.1 ∙ no_entry task g.begun ended.try_now cause ended.reason in
    let zero_more : commits (answer ∷ []) ≡ 0 = ap (λ (t : Bool). cond t 1 0 + 0) no in
    let ended = ap (λ (t : Heard). t.ended) e in
    let kept = concludes.ended in
    let quit = ap (λ (t : Tried). cond {A = ℕ} (is_quit t) 1 0) is.1 in
    record {
      ended = omega (arith, ended, kept, quit);
      started = omega (arith, starts, begun);
      claimed = omega (arith, claims, claimed, first, last);
      flipped = λ yes. off (sym no ∙ yes);
      once = subst (λ (m : ℕ). AtMostOnce x.fetched m) (sym fetches) concludes.once;
      fetched = λ yes. off (sym no ∙ yes);
      committed = omega (arith, told, same, zero_more);
    }

-- another worker had its place
pub busy_heard : (p o l m n k : ℕ) → m ≡ 0 + l → (h : Heard) → TryHeard 0 (Busy p o) l m n k h h
busy_heard p o l m n k e h = record { ended = omega arith; started = omega arith; claimed = omega (arith, e); flipped = λ yes. off yes; once = inl refl; fetched = λ yes. off yes; committed = omega arith }

-- the gate ended it at its start
pub quit_heard : (a : Tried) (l m n : ℕ) → a ≡ Quit → (h g : Heard) → g ≡ after_asked Start (is_quit a) h → TryHeard 1 a l l m n h g
quit_heard a l m n is h g e =
    let claims = ap (λ (t : Heard). t.claimed) e in
    let told = ap (λ (t : Heard). t.committed) e in
    let zero_more = ap (λ (t : Tried). commits (t ∷ [])) is in
    record {
      ended = ap (λ (t : Heard). t.ended) e;
      started = ap (λ (t : Heard). t.started) e;
      claimed = omega (arith, claims);
      flipped = λ yes. off (sym (ap is_commit is) ∙ yes);
      once = inl (ap (λ (t : Heard). t.fetched) e);
      fetched = λ yes. off (sym (ap is_commit is) ∙ yes);
      committed = omega (arith, told, zero_more);
    }

-- the gate let it begin
pub begun_heard : (a : Tried) (l m n o : ℕ) (h k g : Heard) → k ≡ after_asked Start false h → TryHeard 0 a l m n o k g → TryHeard 1 a l m n o h g
begun_heard a l m n o h k g e rest =
    let claims = ap (λ (t : Heard). t.claimed) e in
    let flips = ap (λ (t : Heard). t.flipped) e in
    let told = ap (λ (t : Heard). t.committed) e in
    let none : k.ended ≡ h.ended + 0 = ap (λ (t : Heard). t.ended) e in
    let more = rest.claimed in
    let all_told = rest.committed in
    let starts = ap (λ (t : Heard). t.started) e in
    let no_more = rest.started in
    let fetches = ap (λ (t : Heard). t.fetched) e in
    record {
      ended = (let ended = rest.ended in omega (arith, none, ended));
      started = omega (arith, starts, no_more);
      claimed = omega (arith, claims, more);
      flipped = λ yes. let made = rest.flipped yes in omega (arith, flips, made);
      once = subst (λ (x : ℕ). AtMostOnce x g.fetched) fetches rest.once;
      fetched = λ yes. let won = rest.fetched yes in omega (arith, fetches, won);
      committed = omega (arith, told, all_told);
    }

-- its answer was kept
pub kept_heard : (a : Tried) (l m n o p q : ℕ) → p ≡ m → q ≡ o → (h g : Heard) → TryHeard 1 a l m n o h g → TryHeard 1 a l p n q h g
kept_heard a l m n o p q d e h g t = record {
  ended = t.ended;
  started = t.started;
  claimed = (let claimed = t.claimed in omega (arith, claimed, d));
  flipped = λ yes. let made = t.flipped yes in omega (arith, made, e);
  once = t.once;
  fetched = t.fetched;
  committed = t.committed;
}

-- ---- all tries

commits_snoc : (xs : List Tried) (a : Tried) → commits (xs ++ a ∷ []) ≡ commits xs + commits (a ∷ [])
commits_snoc [] a = omega arith
commits_snoc (x ∷ xs) a = let h = commits_snoc xs a in omega (arith, h)

one_quits : (a : Tried) → quits (a ∷ []) ≡ cond (is_quit a) 1 0
one_quits (Committed n) = refl
one_quits (Busy q o) = refl
one_quits Nothing = refl
one_quits (Blocked f) = refl
one_quits (Declined c) = refl
one_quits Quit = refl
one_quits NoMemory = refl

-- no try was made
pub none_heard : (ts : List Try) (xs : List Tried) → ts ≡ [] → xs ≡ [] → (h : Heard) → RunHeard ts xs h h
none_heard ts xs d e h =
    let zero_noted = ap noted_in d in
    let zero_told = ap commits e in
    let zero_quits = ap quits e in
    let zero_tries = ap length e in
    record { ended = omega (arith, zero_quits); started = omega (arith, zero_tries); none = λ _. refl; claimed = omega (arith, zero_noted); committed = omega (arith, zero_told) }

-- one try more
pub one_heard : (ts us : List Try) (xs ys : List Tried) (r : Tried) (m n : ℕ) → ys ≡ xs ++ r ∷ [] → (h k g : Heard) → RunHeard ts xs h k → TryHeard 1 r (noted_in ts) (noted_in us) m n k g → RunHeard us ys h g
one_heard ts us xs ys r m n e h k g was t =
    let told = was.committed in
    let more = t.committed in
    let all_told = ap commits e ∙ commits_snoc xs r in
    let claimed = was.claimed in
    let claims = t.claimed in
    let ended = was.ended in
    let quit = t.ended in
    let all_quits = ap quits e ∙ quits_snoc xs r in
    let last = one_quits r in
    let tries = ap length e ∙ length-append xs (r ∷ []) in
    let starts = was.started in
    let start = t.started in
    record {
      ended = omega (arith, ended, quit, all_quits, last);
      started = omega (arith, starts, start, tries);
      none = λ out. let zero_tries = ap length out in absurd (omega (arith, zero_tries, tries));
      claimed = omega (arith, claimed, claims);
      committed = omega (arith, told, more, all_told);
    }
