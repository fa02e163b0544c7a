-- A try between two turns.
use Rattle.std.proofs.Common.{◌≡◌, ℕ, ◌+◌, ◌<◌, ◌≤◌, true, List, [], ◌∷◌, ◌++◌, length, Option, Some, None, sym, ◌∙◌, ap, refl, subst, arith, length-append}
use Rattle.std.specs.List.{AllByRecursion}
use Rattle.std.proofs.lemmas.Bool.{true≢false}
use mathlib.Core.Option.{some}
use Rattle.flip_rules.specs.Flips.{replay}
use Rattle.flip_rules.specs.Journals.{flip_touches}
use Rattle.flip_rules.specs.declared.flip.Flip.{Flip}
use Rattle.star_laws.specs.Stars.{flips_touch}
use Rattle.stars.specs.StarViews.{VertexStar, KeptStar, vertices, shown, AreStarsOf}
use Rattle.complex_core.specs.Labels.{has}
use Rattle.complex_core.specs.Complexes.{ComplexView}
use Rattle.board_rule.specs.Items.{item, has_item}
use Rattle.board_rule.specs.Views.{star_in}
use Rattle.board_rule.proofs.Items.{has_some}
use Rattle.board_rule.specs.Homes.{VersionedStar}
use Rattle.anneal_plan.specs.Fits.{FitsStar}
use Rattle.anneal_plan.specs.Proposals.{proposal_of}
use Rattle.anneal_plan.specs.Turns.{after_flips, turn_count, rest_after}
use Rattle.anneal_plan.proofs.Turning.{turns_start, turns_go_on, turns_stop, turns_end}
use Rattle.vertex_claims.specs.Passes.{IsSame, know}
use Rattle.vertex_claims.specs.declared.pass.Pass.{Pass}
use Rattle.held_stars.specs.Holding.{StartedTry, Roomy, IsMade}
use Rattle.held_stars.specs.declared.hold.Hold.{Hold}
use Rattle.held_stars.proofs.LentStars.{same_passes}
use Rattle.held_stars.proofs.MadeFlips.{touch_snoc, touch_one, are_stars}
use Rattle.round_rules.specs.Tasks.{Task}
use Rattle.spec_worker.specs.Trying.{IsFit, IsTold, IsStartOf, Turned, IsNext}
use Rattle.spec_worker.specs.declared.turning.TryPlan.{TryPlan}
use Rattle.spec_worker.proofs.Turns.{home_dim}
use Rattle.spec_worker.proofs.Within.{Within, each_more, within_star}
use Rattle.stars.proofs.Mapping.{either}

-- the flips that follow those that were made
abbrev pub rest_of : Task → StartedTry → Hold → List Flip
rest_of task s h = rest_after s.home.star task.phase task.words task.free task.depth h.flips.items

-- so many turns were made, with labels up to n
pub record Between (o : TryPlan) (dim n turn : ℕ) (a : Pass) (h : Hold) (b : Pass) (g : Hold) : Type 0 where
  pub same : IsSame a b
  pub worker : (know b).worker ≡ (know a).worker
  pub start : (know b).start ≡ (know a).start
  pub places : (know b).places ≡ (know a).places
  pub room : Roomy g
  pub count : length g.flips.items ≡ turn
  pub within : Within n g.flips.items
  pub turned : (task : Task) (s : StartedTry) → IsTold o dim task → IsStartOf task s → Turned s a h s.flips → Turned s b g (rest_of task s g)

pub none_made : (o : TryPlan) (dim n : ℕ) (a : Pass) (h : Hold) → Roomy h → h.flips.items ≡ [] → Between o dim n 0 a h a h
none_made o dim n a h room none = record {
  same = record { table = refl; worker = refl; places = refl; limit = refl };
  worker = refl;
  start = refl;
  places = refl;
  room = room;
  count = ap length none;
  within = λ q t. absurd (true≢false (sym t ∙ ap (flips_touch q) none));
  turned = λ task s told begun t. subst (Turned s a h) (begun.flips ∙ turns_start s.home.star task.phase task.words task.free task.depth ∙ ap (rest_after s.home.star task.phase task.words task.free task.depth) (sym none)) t;
}

-- the star at the place of a try, which is lent
pub record Here (o : TryPlan) (dim : ℕ) (s : StartedTry) (h : Hold) : Type 0 where
  pub now : ComplexView
  pub stars : AreStarsOf now (shown h.lent.items)
  pub held : has (vertices (shown h.lent.items)) o.place ≡ true
  pub star : star_in now o.place ≡ after_flips s.home.star h.flips.items
  pub dim_is : now.dim ≡ dim

pub here : (o : TryPlan) (dim : ℕ) (task : Task) (s : StartedTry) (pass : Pass) (h : Hold) (rest : List Flip) → IsTold o dim task → IsStartOf task s → Turned s pass h rest → Here o dim s h
here o dim task s pass h rest told begun t =
    let at : item (know pass).items s.place ≡ some s.home = ap (λ (l : List (ℕ × VersionedStar)). item l s.place) (sym t.going.note) ∙ t.going.noting.first in
    let place : o.place ≡ s.place = sym told.place ∙ sym begun.place in
    record {
      now = t.now;
      stars = are_stars pass h.flips.items h.lent.items t.now t.made;
      held = t.made.held.each o.place ∙ (ap (has_item (know pass).items) place ∙ has_some (know pass).items s.place s.home at);
      star = ap (star_in t.now) place ∙ t.star;
      dim_is = ap (λ (x : VertexStar). x.dim) t.star ∙ home_dim s (know pass) pass.sees t.going ∙ begun.dim ∙ told.dim_is;
    }

pub free_positive : (n : ℕ) (free : List ℕ) → AllByRecursion (λ x. (0 < x) × (x ≤ n)) free → AllByRecursion (λ x. 0 < x) free
free_positive n free h = each_more (λ x p. p.0) free h

-- what is kept after a proposal
pub moved : (s : StartedTry) (pass : Pass) (h g : Hold) (rest : List Flip) → g.flips.items ≡ h.flips.items → g.lent.items ≡ h.lent.items → Turned s pass h rest → Turned s pass g rest
moved s pass h g rest flips lent t = record {
  going = t.going;
  now = t.now;
  made = subst (λ (fs : List Flip). IsMade pass fs g.lent.items t.now) (sym flips) (subst (λ (l : List KeptStar). IsMade pass h.flips.items l t.now) (sym lent) t.made);
  whole = t.whole ∙ ap (λ (fs : List Flip). fs ++ rest) (sym flips);
  star = t.star ∙ ap (after_flips s.home.star) (sym flips);
  lent = let p = t.lent in omega (arith, p, ap length flips, ap length lent);
}

-- what is proposed by the order is what the task proposes
proposed : (o : TryPlan) (dim turn : ℕ) (task : Task) (s : StartedTry) (h : Hold) (x : VertexStar) (r : Option Flip) → IsTold o dim task → x ≡ after_flips s.home.star h.flips.items → length h.flips.items ≡ turn
    → r ≡ proposal_of x o.phase o.words.now turn o.free.now → proposal_of (after_flips s.home.star h.flips.items) task.phase task.words (length h.flips.items) task.free ≡ r
proposed o dim turn task s h x r told star count is = (λ i. proposal_of (sym star i) (told.phase i) (told.words i) (count i) (told.free i)) ∙ sym is

-- what a turn proposes at the stars that are lent
abbrev pub Proposes : TryPlan → ℕ → Hold → Option Flip → Type 0
Proposes o turn h r = (k : ComplexView) → AreStarsOf k (shown h.lent.items) → r ≡ proposal_of (star_in k o.place) o.phase o.words.now turn o.free.now

abbrev pub Fitting : TryPlan → Hold → Flip → Type 0
Fitting o h f = (k : ComplexView) → AreStarsOf k (shown h.lent.items) → FitsStar (star_in k o.place) o.free.now f

-- no turn is left
pub stopped : (o : TryPlan) (dim n turn : ℕ) (a : Pass) (h : Hold) (b : Pass) (g k : Hold) (r : Option Flip) → Between o dim n turn a h b g → k.flips.items ≡ g.flips.items → k.lent.items ≡ g.lent.items → r ≡ None → Proposes o turn g r
    → (task : Task) (s : StartedTry) → IsTold o dim task → IsStartOf task s → Turned s a h s.flips → Turned s b k []
stopped o dim n turn a h b g k r t flips lent none proposal task s told begun was =
    let now = t.turned task s told begun was in
    let x = here o dim task s b g (rest_of task s g) told begun now in
    let p = proposed o dim turn task s g (star_in x.now o.place) r told x.star t.count (proposal x.now x.stars) ∙ none in
    subst (Turned s b k) (turns_stop s.home.star task.phase task.words task.free task.depth g.flips.items p) (moved s b g k (rest_of task s g) flips lent now)

pub all_made : (o : TryPlan) (dim n turn : ℕ) (a : Pass) (h : Hold) (b : Pass) (g : Hold) → Between o dim n turn a h b g → o.count ≤ turn
    → (task : Task) (s : StartedTry) → IsTold o dim task → IsStartOf task s → Turned s a h s.flips → Turned s b g []
all_made o dim n turn a h b g t end task s told begun was =
    let l : turn_count task.words task.depth ≤ length g.flips.items = omega (arith, told.count, t.count, end) in
    subst (Turned s b g) (turns_end s.home.star task.phase task.words task.free task.depth g.flips.items l) (t.turned task s told begun was)

-- the flips after the next one
abbrev pub rest_then : Task → StartedTry → Hold → Flip → List Flip
rest_then task s h f = rest_after s.home.star task.phase task.words task.free task.depth (h.flips.items ++ f ∷ [])

-- a flip that is proposed is the next one
pub is_next : (o : TryPlan) (dim n turn : ℕ) (a : Pass) (h : Hold) (b : Pass) (g k : Hold) (r : Option Flip) (f : Flip) → Between o dim n turn a h b g → turn < o.count → k.flips.items ≡ g.flips.items → k.lent.items ≡ g.lent.items → r ≡ Some f → Proposes o turn g r → Fitting o g f
    → (task : Task) (s : StartedTry) → IsTold o dim task → IsStartOf task s → Turned s a h s.flips → IsNext s dim b k f (rest_then task s g f)
is_next o dim n turn a h b g k r f t left flips lent some_f proposal fits task s told begun was =
    let now = t.turned task s told begun was in
    let x = here o dim task s b g (rest_of task s g) told begun now in
    let p = proposed o dim turn task s g (star_in x.now o.place) r told x.star t.count (proposal x.now x.stars) ∙ some_f in
    let l : length g.flips.items < turn_count task.words task.depth = omega (arith, told.count, t.count, left) in
    record {
      turned = subst (Turned s b k) (turns_go_on s.home.star task.phase task.words task.free task.depth g.flips.items f l p) (moved s b g k (rest_of task s g) flips lent now);
      dim_is = begun.dim ∙ told.dim_is;
      free = o.free.now;
      fits = subst (λ (y : VertexStar). FitsStar y o.free.now f) (x.star ∙ ap (after_flips s.home.star) (sym flips)) (fits x.now x.stars);
    }

pub next_within : (o : TryPlan) (dim n turn : ℕ) (a : Pass) (h : Hold) (b : Pass) (g : Hold) (f : Flip) (task : Task) (s : StartedTry) → Between o dim n turn a h b g → IsFit o n → (know a).places ≡ n → Fitting o g f → IsTold o dim task → IsStartOf task s → Turned s a h s.flips → Within n (f ∷ [])
unfolding here
next_within o dim n turn a h b g f task s t fit places fits told begun was =
    let now = t.turned task s told begun was in
    let x = here o dim task s b g (rest_of task s g) told begun now in
    within_star (know b) g.flips.items x.now o.place n (star_in x.now o.place) o.free.now f b.sees (t.places ∙ places) now.made.replays t.within fit.free refl (fits x.now x.stars)

-- one more turn
pub one_more : (o : TryPlan) (dim n turn : ℕ) (a : Pass) (h : Hold) (b d : Pass) (g k e : Hold) (f : Flip) → Between o dim n turn a h b g → IsSame b d
    → ((know d).worker ≡ (know b).worker) × ((know d).start ≡ (know b).start) × ((know d).places ≡ (know b).places) → Roomy e → k.flips.items ≡ g.flips.items → e.flips.items ≡ k.flips.items ++ f ∷ [] → Within n (f ∷ [])
    → ((task : Task) (s : StartedTry) → IsTold o dim task → IsStartOf task s → Turned s a h s.flips → IsNext s dim b k f (rest_then task s g f))
    → ((s : StartedTry) (next : List Flip) → IsNext s dim b k f next → Turned s d e next)
    → Between o dim n (turn + 1) a h d e
one_more o dim n turn a h b d g k e f t same_d kept room old more few next turned =
    let flips : e.flips.items ≡ g.flips.items ++ f ∷ [] = more ∙ ap (λ (fs : List Flip). fs ++ f ∷ []) old in
    record {
      same = same_passes a b d t.same same_d;
      worker = kept.0 ∙ t.worker;
      start = kept.1 ∙ t.start;
      places = kept.2 ∙ t.places;
      room = room;
      count = omega (arith, t.count, ap length flips, length-append g.flips.items (f ∷ []));
      within = λ q u. either (flips_touch q g.flips.items) (flip_touches q f) (q ≤ n) (sym (touch_snoc q g.flips.items f) ∙ ap (flips_touch q) (sym flips) ∙ u)
          (t.within q) (λ x. few q (touch_one q f x));
      turned = λ task s told begun was. subst (Turned s d e) (ap (rest_after s.home.star task.phase task.words task.free task.depth) (sym flips)) (turned s (rest_then task s g f) (next task s told begun was));
    }
