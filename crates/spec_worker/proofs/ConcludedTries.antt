-- How a try ends whose turns were made.
use Rattle.std.proofs.Common.{◌≡◌, ◌≢◌, ℕ, ◌+◌, ◌<◌, Bool, true, false, cond, suc, ℤ, ◌≤ℤ◌, ◌<ℤ◌, List, [], ◌∷◌, ◌++◌, length, ◌==◌, Some, IsSome, sym, ◌∙◌, ap, refl, subst, arith}
use Rattle.std.proofs.lemmas.List.{append-nil, nil_from_length}
use Rattle.std.specs.List.{AllByRecursion}
use mathlib.Core.Option.{some, none}
use Rattle.complex_core.specs.Complexes.{ComplexView}
use Rattle.flip_rules.specs.Flips.{replay}
use Rattle.flip_rules.specs.Entries.{JournalEntry}
use Rattle.flip_rules.specs.declared.flip.Flip.{Flip}
use Rattle.flip_rules.proofs.Replays.{replay_dim}
use Rattle.star_laws.specs.Stars.{flips_touch, LabelsPass, star_after_all}
use Rattle.star_laws.proofs.ReplayStars.{star_replayed}
use Rattle.stars.specs.StarViews.{VertexStar, shown}
use Rattle.anneal_plan.specs.declared.plan.Phase.{Phase}
use Rattle.anneal_plan.specs.Proposals.{allowed_of}
use Rattle.board_rule.specs.Items.{item, has_item}
use Rattle.board_rule.specs.Plays.{IsRefused}
use Rattle.board_rule.specs.Tries.{Try, refused_at, one_more}
use Rattle.board_rule.specs.Views.{home, star_in, counted, with_journal, without_journal, committed, flipped_home, all_flipped}
use Rattle.board_rule.specs.Homes.{VersionedStar}
use Rattle.board_rule.specs.declared.data.Slot.TheVariants.{Home}
use Rattle.board_rule.specs.declared.view.PassView.{PassView}
use Rattle.board_rule.proofs.Items.{tested, off, some_of, has_flipped, item_flipped}
use Rattle.vertex_claims.specs.Passes.{know, slot, Puts, SameSlots}
use Rattle.vertex_claims.specs.declared.pass.Pass.{Pass}
use Rattle.held_stars.specs.Holding.{StartedTry, Noting, Going, Made, waits}
use Rattle.held_stars.specs.declared.hold.Hold.{Hold}
use Rattle.held_stars.proofs.GivenUp.{waits_journal}
use Rattle.held_stars.proofs.LentStars.{each_star_there, is_star}
use Rattle.held_stars.proofs.MadeFlips.{made_moved}
use Rattle.round_rules.specs.Own.{ReplaysOn}
use Rattle.round_rules.specs.Tasks.{Task, changes}
use Rattle.round_rules.specs.declared.tried.Tried.{Tried}
use Rattle.round_rules.specs.declared.tried.Tried.TheVariants.{Busy, Nothing, Declined, Quit, NoMemory}
use Rattle.spec_worker.specs.declared.turning.TryPlan.{TryPlan}
use Rattle.spec_worker.specs.Trying.{IsTold, IsStartOf, Turned, Ended, Entered, Cause}

-- ---- refused claims of place 0

-- the try after them, the latest first
abbrev pub waited : Try → List ℕ → Try
waited t [] = t
waited t (o ∷ os) = refused_at 0 o (waited t os)

-- what a pass knows after them
abbrev pub waiting : PassView → Try → List ℕ → List Try → PassView
waiting v t os ts = record v { tries = waited t os ∷ ts }

pub waits_is : (v : PassView) (t : Try) (os : List ℕ) (ts : List Try) → v.tries ≡ t ∷ ts → waits v os ≡ waiting v t os ts
waits_is v t [] ts e = λ i. record v { tries = e i }
waits_is v t (o ∷ os) ts e = ap (λ (w : PassView). counted w 0 o) (waits_is v t os ts e)

-- the journal's count, as long as it has room
pub waited_journal : (t : Try) (os : List ℕ) → t.journal ≡ 0 → length os < 1000 → (waited t os).journal ≡ length os
waited_journal t [] e few = e
waited_journal t (o ∷ os) e few =
    let old : (waited t os).journal ≡ length os = waited_journal t os e (omega arith) in
    ap one_more old ∙ by (length os) (omega arith)
  where
    by : (n : ℕ) → n < 1000 → one_more n ≡ suc n
    by n h = omega arith

pub waited_vertices : (t : Try) (os : List ℕ) → (waited t os).vertices ≡ t.vertices
waited_vertices t [] = refl
waited_vertices t (o ∷ os) = waited_vertices t os

-- what else it has of the try before them
pub record SameNote (t u : Try) : Type 0 where
  pub place : u.place ≡ t.place
  pub won : u.won ≡ t.won
  pub found : u.found ≡ t.found
  pub note : u.note ≡ t.note
  pub count : u.count ≡ t.count

pub waited_note : (t : Try) (os : List ℕ) → SameNote t (waited t os)
waited_note t [] = record { place = refl; won = refl; found = refl; note = refl; count = refl }
waited_note t (o ∷ os) = let n = waited_note t os in record { place = n.place; won = n.won; found = n.found; note = n.note; count = n.count }

pub noting_same : (s : StartedTry) (v w : PassView) (t u : Try) → Noting s v t → SameNote t u → w.tries ≡ u ∷ s.earlier → w.worker ≡ v.worker → w.start ≡ v.start → Noting s w u
noting_same s v w t u n same tries worker start = record {
  tries = tries;
  place = same.place ∙ n.place;
  won = same.won ∙ n.won;
  found = n.found ∙ sym same.found;
  first = ap (λ (l : List (ℕ × VersionedStar)). item l s.place) same.note ∙ n.first;
  count = same.count ∙ n.count;
  among = λ q t. n.among q (ap (λ (l : List (ℕ × VersionedStar)). has_item l q) (sym same.note) ∙ t);
  worker = worker ∙ n.worker;
  start = ap (λ (k : ComplexView). k.dim) start ∙ n.start;
}

-- a pass knows what it knew, but for refused claims of place 0 and for the journal
pub record Waits (v w : PassView) (t : Try) (os : List ℕ) (earlier : List Try) : Type 0 where
  pub tries : w.tries ≡ waited t os ∷ earlier
  pub mine : w.mine ≡ v.mine
  pub worker : w.worker ≡ v.worker
  pub start : w.start ≡ v.start
  pub items : w.items ≡ v.items
  pub seen : w.seen ≡ v.seen
  pub claiming : w.claiming ≡ v.claiming

pub waits_of : (v w : PassView) (t : Try) (os : List ℕ) (ts : List Try) → v.tries ≡ t ∷ ts → w ≡ waits v os → Waits v w t os ts
waits_of v w t os ts e is =
    let all : w ≡ waiting v t os ts = is ∙ waits_is v t os ts e in
    record {
      tries = ap (λ (h : PassView). h.tries) all;
      mine = ap (λ (h : PassView). h.mine) all;
      worker = ap (λ (h : PassView). h.worker) all;
      start = ap (λ (h : PassView). h.start) all;
      items = ap (λ (h : PassView). h.items) all;
      seen = ap (λ (h : PassView). h.seen) all;
      claiming = ap (λ (h : PassView). h.claiming) all;
    }

-- the same with the journal, and after it was left
pub waits_then : (v w : PassView) (t : Try) (os : List ℕ) (ts : List Try) (entries : List JournalEntry) → v.tries ≡ t ∷ ts → w ≡ with_journal (waits v os) entries → Waits v w t os ts
waits_then v w t os ts entries e is =
    let old : Waits v (waits v os) t os ts = waits_of v (waits v os) t os ts e refl in
    record {
      tries = ap (λ (h : PassView). h.tries) is ∙ old.tries;
      mine = ap (λ (h : PassView). h.mine) is ∙ old.mine;
      worker = ap (λ (h : PassView). h.worker) is ∙ old.worker;
      start = ap (λ (h : PassView). h.start) is ∙ old.start;
      items = ap (λ (h : PassView). h.items) is ∙ old.items;
      seen = ap (λ (h : PassView). h.seen) is ∙ old.seen;
      claiming = ap (λ (h : PassView). h.claiming) is ∙ old.claiming;
    }

pub waits_left : (v w x : PassView) (t : Try) (os : List ℕ) (ts : List Try) → Waits v w t os ts → x ≡ without_journal w → Waits v x t os ts
waits_left v w x t os ts old is = record {
  tries = ap (λ (h : PassView). h.tries) is ∙ old.tries;
  mine = ap (λ (h : PassView). h.mine) is ∙ old.mine;
  worker = ap (λ (h : PassView). h.worker) is ∙ old.worker;
  start = ap (λ (h : PassView). h.start) is ∙ old.start;
  items = ap (λ (h : PassView). h.items) is ∙ old.items;
  seen = ap (λ (h : PassView). h.seen) is ∙ old.seen;
  claiming = ap (λ (h : PassView). h.claiming) is ∙ old.claiming;
}

-- ---- what stays

-- a pass is told the same of its board
abbrev pub SameTold : PassView → PassView → Type 0
SameTold v w = (w.worker ≡ v.worker) × (w.start ≡ v.start) × (w.places ≡ v.places)

told_then : (v w x : PassView) → SameTold v w → x ≡ w → SameTold v x
told_then v w x h is = (ap (λ (u : PassView). u.worker) is ∙ h.0, ap (λ (u : PassView). u.start) is ∙ h.1, ap (λ (u : PassView). u.places) is ∙ h.2)

told_waiting : (v : PassView) (os : List ℕ) → SameTold v (waits v os)
told_waiting v [] = (refl, refl, refl)
told_waiting v (o ∷ os) = told_waiting v os

pub told_lost : (v w : PassView) (os : List ℕ) → w ≡ waits v os → SameTold v w
told_lost v w os is = told_then v (waits v os) w (told_waiting v os) is

pub told_won : (v w : PassView) (os : List ℕ) (entries : List JournalEntry) → w ≡ with_journal (waits v os) entries → SameTold v w
told_won v w os entries is = told_then v (with_journal (waits v os) entries) w (told_waiting v os) is

pub told_left : (v w x : PassView) → SameTold v w → x ≡ without_journal w → SameTold v x
told_left v w x h is = told_then v (without_journal w) x h is

pub told_entered : (v w x : PassView) (e : JournalEntry) (k : ComplexView) → SameTold v w → x ≡ committed w e k → SameTold v x
told_entered v w x e k h is = told_then v (committed w e k) x h is

-- ---- tests

pub no_flips : (fs : List Flip) (n : ℕ) (b : Bool) → n ≡ length fs → b ≡ (n == 0) → b ≡ true → fs ≡ []
no_flips fs n b long is h = nil_from_length fs (sym long ∙ tested n 0 (λ t. t ≡ true → n ≡ 0) (λ e _. e) (λ _ f. off f) (sym is ∙ h))

pub some_flips : (fs : List Flip) (n : ℕ) (b : Bool) → n ≡ length fs → b ≡ (n == 0) → b ≡ false → fs ≢ []
some_flips fs n b long is h e = tested n 0 (λ t. t ≡ false → n ≡ 0 → ⊥) (λ _ f _. off (sym f)) (λ ne _ z. ne z) (sym is ∙ h) (long ∙ ap length e)

-- what holds at what is told holds at the task
told_so : (P : ℕ → Phase → Type 0) (task : Task) (o : TryPlan) (dim : ℕ) → IsTold o dim task → P dim o.phase → P task.dim task.phase
told_so P task o dim told h = subst (λ (d : ℕ). P d task.phase) (sym told.dim_is) (subst (P dim) (sym told.phase) h)

-- the phase of the task allows the flips, or it doesn't
pub permitted : (task : Task) (o : TryPlan) (dim : ℕ) (shown flips : List Flip) → IsTold o dim task → shown ≡ flips → changes dim shown ≤ℤ allowed_of dim o.phase → changes task.dim flips ≤ℤ allowed_of task.dim task.phase
permitted task o dim shown flips told is h = told_so (λ d p. changes d flips ≤ℤ allowed_of d p) task o dim told (subst (λ (fs : List Flip). changes dim fs ≤ℤ allowed_of dim o.phase) is h)

pub above : (task : Task) (o : TryPlan) (dim : ℕ) (shown flips : List Flip) (sum : ℤ) → IsTold o dim task → shown ≡ flips → (sum ≡ changes dim shown) × (allowed_of dim o.phase <ℤ sum) → (sum ≡ changes task.dim flips) × (allowed_of task.dim task.phase <ℤ sum)
above task o dim shown flips sum told is h = told_so (λ d p. (sum ≡ changes d flips) × (allowed_of d p <ℤ sum)) task o dim told (h.0 ∙ ap (changes dim) is, h.1)

-- ---- ends without an entry

pub ended : (task : Task) (s : StartedTry) (a b : Pass) (h : Hold) (now : ComplexView) (os : List ℕ) (answer : Tried) (g : Going s (know a)) → Made a h now → Waits (know a) (know b) g.try_now os s.earlier → (know b).has_journal ≡ false → ((q : ℕ) → q ≢ 0 → slot b q ≡ slot a q)
    → Cause task s (waited g.try_now os) answer → Ended task s b h answer
ended task s a b h now os answer g m w free slots cause = record {
  try_now = waited g.try_now os;
  noting = noting_same s (know a) (know b) g.try_now (waited g.try_now os) g.noting (waited_note g.try_now os) w.tries w.worker w.start;
  mine = w.mine ∙ g.mine;
  reason = cause;
  restorable = (now, made_moved a b h.flips.items h.lent.items now m w.seen w.items free slots);
}

-- where nothing was claimed after the turns
pub ended_here : (task : Task) (s : StartedTry) (a : Pass) (h : Hold) (rest : List Flip) (answer : Tried) (t : Turned s a h rest) → Cause task s t.going.try_now answer → Ended task s a h answer
ended_here task s a h rest answer t cause = ended task s a a h t.now [] answer t.going t.made (waits_of (know a) (know a) t.going.try_now [] s.earlier t.going.noting.tries refl) t.made.free (λ q _. refl) cause

pub ended_quit : (task : Task) (s : StartedTry) (a : Pass) (h : Hold) (rest : List Flip) (answer : Tried) → answer ≡ Quit → Turned s a h rest → Ended task s a h answer
ended_quit task s a h rest answer is t = subst (Ended task s a h) (sym is) (ended_here task s a h rest Quit t (tt, tt))

-- all flips were made
pub all_made : (s : StartedTry) (a : Pass) (h : Hold) → Turned s a h [] → s.flips ≡ h.flips.items
all_made s a h t = t.whole ∙ append-nil h.flips.items

pub none_made : (task : Task) (s : StartedTry) (a : Pass) (h : Hold) → h.flips.items ≡ [] → Turned s a h [] → Ended task s a h Nothing
none_made task s a h empty t = ended_here task s a h [] Nothing t ((all_made s a h t ∙ empty, t.going.fresh), tt)

-- the flips replay on the noted stars
pub replays_on : (task : Task) (s : StartedTry) (a : Pass) (h : Hold) (u : Try) (t : Turned s a h []) → IsStartOf task s → u.note ≡ t.going.try_now.note → ReplaysOn task.dim u.note s.flips
replays_on task s a h u t of same =
    let flips : s.flips ≡ h.flips.items = all_made s a h t in
    let note : u.note ≡ (know a).items = same ∙ t.going.note in
    record {
      complex = (know a).seen;
      end = t.now;
      stars = record {
        complex = a.sees.complex;
        dim = a.sees.dim ∙ (t.going.noting.start ∙ of.dim);
        stars = λ p x at. (a.sees.stars p x (ap (λ (l : List (ℕ × VersionedStar)). item l p) (sym note) ∙ at)).1;
      };
      labels = λ p h. ap (λ (l : List (ℕ × VersionedStar)). has_item l p) note ∙ t.made.labels p (ap (flips_touch p) (sym flips) ∙ h);
      replays = ap (replay (know a).seen) flips ∙ t.made.replays;
    }

pub declined : (task : Task) (s : StartedTry) (a : Pass) (h : Hold) (c : ℤ) → h.flips.items ≢ [] → IsStartOf task s → Turned s a h [] → (c ≡ changes task.dim h.flips.items) × (allowed_of task.dim task.phase <ℤ c) → Ended task s a h (Declined c)
declined task s a h c any of t over = ended_here task s a h [] (Declined c) t (
  record {
    some = λ e. any (sym (all_made s a h t) ∙ e);
    legal = replays_on task s a h t.going.try_now t of refl;
    sum = over.0 ∙ ap (changes task.dim) (sym (all_made s a h t));
    above = over.1;
    unrefused = t.going.fresh;
  },
  tt,
)

-- place 0 was refused each time
pub refused : (task : Task) (s : StartedTry) (a b : Pass) (h : Hold) (os : List ℕ) (o : ℕ) → h.flips.items ≢ [] → IsStartOf task s → Turned s a h [] → changes task.dim h.flips.items ≤ℤ allowed_of task.dim task.phase
    → length os ≡ 63 → IsRefused (know a).worker o → know b ≡ waits (know a) (o ∷ os) → SameSlots a b → Ended task s b h (Busy 0 o)
refused task s a b h os o any of t allowed count worker known slots =
    let old = t.going.try_now in
    let u = waited old (o ∷ os) in
    let w : Waits (know a) (know b) old (o ∷ os) s.earlier = waits_of (know a) (know b) old (o ∷ os) s.earlier t.going.noting.tries known in
    let journal : u.journal ≡ 64 = waited_journal old (o ∷ os) t.going.fresh.1 (omega (arith, count)) ∙ (let e : suc (length os) ≡ 64 = omega (arith, count) in e) in
    ended task s a b h t.now (o ∷ os) (Busy 0 o) t.going t.made w (ap (λ (h : PassView). h.has_journal) known ∙ (waits_journal (know a) (o ∷ os) ∙ t.made.free)) (λ q _. slots q) (
      record {
        last = refl;
        owner = refl;
        vertex = λ low. absurd (omega (arith, low));
        journal = λ _. record {
          some = λ e. any (sym (all_made s a h t) ∙ e);
          allowed = subst (λ (fs : List Flip). changes task.dim fs ≤ℤ allowed_of task.dim task.phase) (sym (all_made s a h t)) allowed;
          legal = replays_on task s a h u t of (waited_note old (o ∷ os)).note;
          vertices = waited_vertices old (o ∷ os) ∙ t.going.fresh.0;
          journal = journal;
        };
      },
      subst (λ (n : ℕ). IsRefused n o) t.going.noting.worker worker,
    )

-- place 0 was won and is given back as it was
pub left_behind : (task : Task) (s : StartedTry) (a b c : Pass) (h : Hold) (os : List ℕ) (entries : List JournalEntry) (answer : Tried) (t : Turned s a h []) → know b ≡ with_journal (waits (know a) os) entries → ((q : ℕ) → q ≢ 0 → slot b q ≡ slot a q)
    → know c ≡ without_journal (know b) → Puts b c 0 none → Cause task s (waited t.going.try_now os) answer → Ended task s c h answer
left_behind task s a b c h os entries answer t won slots left puts cause =
    ended task s a c h t.now os answer t.going t.made (waits_left (know a) (know b) (know c) t.going.try_now os s.earlier (waits_then (know a) (know b) t.going.try_now os s.earlier entries t.going.noting.tries won) left)
    (ap (λ (h : PassView). h.has_journal) left)
    (λ q ne. puts q ∙ (tested 0 q (λ e. cond e none (slot b q) ≡ slot b q) (λ e. absurd (ne (sym e))) (λ _. refl) ∙ slots q ne))
    cause

pub left_quit : (task : Task) (s : StartedTry) (a b c : Pass) (h : Hold) (os : List ℕ) (entries : List JournalEntry) (answer : Tried) → answer ≡ Quit → Turned s a h [] → know b ≡ with_journal (waits (know a) os) entries → ((q : ℕ) → q ≢ 0 → slot b q ≡ slot a q)
    → know c ≡ without_journal (know b) → Puts b c 0 none → Ended task s c h answer
left_quit task s a b c h os entries answer is t won slots left puts = subst (Ended task s c h) (sym is) (left_behind task s a b c h os entries Quit t won slots left puts (tt, tt))

-- and there was no memory for the entry
pub left_memory : (task : Task) (s : StartedTry) (a b c : Pass) (h : Hold) (os : List ℕ) (entries : List JournalEntry) → h.flips.items ≢ [] → IsStartOf task s → Turned s a h [] → length os < 64 → know b ≡ with_journal (waits (know a) os) entries → ((q : ℕ) → q ≢ 0 → slot b q ≡ slot a q)
    → know c ≡ without_journal (know b) → Puts b c 0 none → Ended task s c h NoMemory
left_memory task s a b c h os entries any of t count won slots left puts =
    let old = t.going.try_now in
    left_behind task s a b c h os entries NoMemory t won slots left puts (
      record {
        front = s.flips;
        rest = [];
        some = λ e. any (sym (all_made s a h t) ∙ e);
        first = sym (append-nil s.flips);
        legal = replays_on task s a h (waited old os) t of (waited_note old os).note;
        vertices = waited_vertices old os ∙ t.going.fresh.0;
        journal = let j : (waited old os).journal ≡ length os = waited_journal old os t.going.fresh.1 (omega (arith, count)) in omega (arith, count, j);
      },
      tt,
    )

-- ---- the entry

-- the flips pass the tests of a commit
pub may_claim : (s : StartedTry) (a b : Pass) (h : Hold) (os : List ℕ) (entries : List JournalEntry) → Turned s a h [] → know b ≡ with_journal (waits (know a) os) entries → (know b).claiming ≡ true
may_claim s a b h os entries t won = (waits_then (know a) (know b) t.going.try_now os s.earlier entries t.going.noting.tries won).claiming ∙ t.going.claiming

pub labels_held : (s : StartedTry) (a b : Pass) (h : Hold) (os : List ℕ) (entries : List JournalEntry) (shown : List Flip) → Turned s a h [] → know b ≡ with_journal (waits (know a) os) entries → shown ≡ h.flips.items → LabelsPass (has_item (know b).items) shown
labels_held s a b h os entries shown t won is p touch =
    ap (λ (l : List (ℕ × VersionedStar)). has_item l p) (waits_then (know a) (know b) t.going.try_now os s.earlier entries t.going.noting.tries won).items ∙ t.made.labels p (ap (flips_touch p) (sym is) ∙ touch)

pub legal_now : (s : StartedTry) (a b : Pass) (h : Hold) (os : List ℕ) (entries : List JournalEntry) (shown : List Flip) → Turned s a h [] → know b ≡ with_journal (waits (know a) os) entries → shown ≡ h.flips.items → IsSome (replay (know b).seen shown)
legal_now s a b h os entries shown t won is =
    let all : replay (know b).seen shown ≡ Some t.now = ap (λ (k : ComplexView). replay k shown) (waits_then (know a) (know b) t.going.try_now os s.earlier entries t.going.noting.tries won).seen ∙ (ap (replay (know a).seen) is ∙ t.made.replays) in
    subst IsSome (sym all) refl

-- a star that is held is that of its place now
star_now : (k m : ComplexView) (flips : List Flip) (q : ℕ) (y : VersionedStar) → replay k flips ≡ Some m → y.star ≡ star_in k q → star_in m q ≡ (flipped_home flips q y).star
star_now k m flips q y e is = (λ i. record { vertex = q; dim = replay_dim k m flips e i; rows = star_replayed k m flips q e i }) ∙ ap (λ (s : VertexStar). record s { rows = star_after_all s.rows flips q }) (sym is)

pub entered : (task : Task) (s : StartedTry) (a b c : Pass) (h : Hold) (os : List ℕ) (entries : List JournalEntry) (written : List Flip) (round n : ℕ) (k : ComplexView) → h.flips.items ≢ [] → IsStartOf task s → Turned s a h []
    → changes task.dim h.flips.items ≤ℤ allowed_of task.dim task.phase → length os < 64 → know b ≡ with_journal (waits (know a) os) entries → ((q : ℕ) → q ≢ 0 → slot b q ≡ slot a q) → written ≡ h.flips.items → n ≡ length (know b).mine
    → know c ≡ committed (know b) (record { round = round; worker = (know b).worker; seq = length (know b).mine; flips = written }) k → Puts b c 0 none → Entered task round s c h n
entered task s a b c h os entries written round n k any of t allowed count won slots is number known puts =
    let old = t.going.try_now in
    let w : Waits (know a) (know b) old os s.earlier = waits_then (know a) (know b) old os s.earlier entries t.going.noting.tries won in
    let mine : (know b).mine ≡ s.mine = w.mine ∙ t.going.mine in
    let worker : (know b).worker ≡ s.worker = w.worker ∙ t.going.noting.worker in
    let flips : s.flips ≡ h.flips.items = all_made s a h t in
    let items : (know c).items ≡ all_flipped h.flips.items (know a).items = ap (λ (v : PassView). v.items) known ∙ (λ i. all_flipped (is i) (w.items i)) in
    let seq : n ≡ length s.mine = number ∙ ap length mine in
    record {
      try_now = waited old os;
      noting = noting_same s (know a) (know c) old (waited old os) t.going.noting (waited_note old os) (ap (λ (v : PassView). v.tries) known ∙ w.tries) (ap (λ (v : PassView). v.worker) known ∙ w.worker) (ap (λ (v : PassView). v.start) known ∙ w.start);
      row = record {
        some = λ e. any (sym flips ∙ e);
        allowed = subst (λ (fs : List Flip). changes task.dim fs ≤ℤ allowed_of task.dim task.phase) (sym flips) allowed;
        entered = record {
          number = seq;
          entry = ap (λ (v : PassView). v.mine) known ∙ (λ i. mine i ++ (record { round = round; worker = worker i; seq = (sym number) i; flips = (is ∙ sym flips) i }) ∷ []);
        };
        vertices = waited_vertices old os ∙ t.going.fresh.0;
        journal = let j : (waited old os).journal ≡ length os = waited_journal old os t.going.fresh.1 (omega (arith, count)) in omega (arith, count, j);
      };
      flips = sym flips;
      settles = record {
        held = record {
          rising = t.made.held.rising;
          each = λ q. t.made.held.each q ∙ (sym (has_flipped h.flips.items (know a).items q) ∙ ap (λ (l : List (ℕ × VersionedStar)). has_item l q) (sym items));
        };
        known = each_star_there (shown h.lent.items) t.made.stars (λ u there of.
            let x = some_of (know c).items u.vertex (ap (λ (l : List (ℕ × VersionedStar)). has_item l u.vertex) items ∙ (has_flipped h.flips.items (know a).items u.vertex ∙ (sym (t.made.held.each u.vertex) ∙ there))) in
            let f : (y : VersionedStar) × (item (know a).items u.vertex ≡ some y) × (x.0 ≡ flipped_home h.flips.items u.vertex y) = item_flipped h.flips.items (know a).items u.vertex x.0 (ap (λ (l : List (ℕ × VersionedStar)). item l u.vertex) (sym items) ∙ x.1) in
            (x.0, x.1, is_star t.now u of ∙ (star_now (know a).seen t.now h.flips.items u.vertex f.0 t.made.replays (a.sees.stars u.vertex f.0 f.1).1 ∙ ap (λ (z : VersionedStar). z.star) (sym f.2))));
        slots = λ q x at.
            let f : (y : VersionedStar) × (item (know a).items q ≡ some y) × (x ≡ flipped_home h.flips.items q y) = item_flipped h.flips.items (know a).items q x (ap (λ (l : List (ℕ × VersionedStar)). item l q) (sym items) ∙ at) in
            let y = f.0 in
            let low : 0 < q = (a.sees.stars q y f.1).0 in
            let ne : q ≢ 0 = λ e. absurd (omega (arith, low, e)) in
            let o = t.made.slots q y f.1 in
            let same : y.version ≡ o.1 = (let v = o.3 in omega (arith, v)) in
            (o.0, o.1, puts q ∙ (tested 0 q (λ e. cond e none (slot b q) ≡ slot b q) (λ e. absurd (ne (sym e))) (λ _. refl) ∙ (slots q ne ∙ o.2)), ap (λ (z : VersionedStar). z.version) f.2 ∙ ap (λ (m : ℕ). m + cond (flips_touch q h.flips.items) 1 0) same);
      };
      free = ap (λ (v : PassView). v.has_journal) known;
    }
