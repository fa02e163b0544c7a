-- From notes that fit beginnings of the journal to the rows of the outcomes.
use Rattle.std.proofs.Common.{◌≡◌, ◌≢◌, ℕ, zero, suc, ◌<◌, true, false, nat_eq, ◌&&◌, List, [], ◌∷◌, ◌++◌, length, length-append, sym, refl, ap, ◌∙◌, subst, arith, inl, inr, append_assoc}
use mathlib.Core.Option.{some}
use Rattle.std.specs.List.{AllByRecursion}
use Rattle.std.proofs.lemmas.Bool.{true≢false}
use Rattle.complex_core.specs.Labels.{has as in_set}
use Rattle.complex_core.proofs.Laws.{or_left, or_right}
use Rattle.flip_rules.specs.Entries.{JournalEntry}
use Rattle.flip_rules.specs.Journals.{flat, mine, touches, flip_touches, star_of, At}
use Rattle.flip_rules.specs.declared.flip.Flip.{Flip}
use Rattle.flip_rules.proofs.Replays.{replay_dim}
use Rattle.star_laws.specs.Stars.{Rises, flips_touch}
use Rattle.star_laws.proofs.FlipStars.{broken_rule_alike}
use Rattle.stars.specs.StarViews.{VertexStar}
use Rattle.board_rule.specs.Items.{item, has_item}
use Rattle.board_rule.specs.Tries.{Try, last_with}
use Rattle.board_rule.specs.Homes.{VersionedStar}
use Rattle.vertex_claims.specs.Marks.{mark_of}
use Rattle.vertex_claims.specs.declared.mark.Mark.{Mark}
use Rattle.round_rules.specs.Rows.{Row}
use Rattle.round_rules.specs.Own.{ReplaysOn, BlockedOn, EntersNext, OwnRow}
use Rattle.round_rules.specs.Outcomes.{Beginning, LegalAfter, BlockedAfter, EntersAfter, RowAfter, Idle, WonRow, star_at}
use Rattle.round_rules.specs.Tasks.{Scene, Task, turns_of}
use Rattle.round_rules.specs.declared.tried.Tried.{Tried}
use Rattle.round_rules.specs.declared.tried.Tried.TheVariants.{Committed, Busy, Nothing, Blocked, Declined, Quit, NoMemory}
use Rattle.round_rules.proofs.Lists.{stands}
use Rattle.round_rules.proofs.Beginnings.{star_after_beginning}
use Rattle.round_rules.proofs.Carrying.{FitsAfter, Replayed, alike, replayed}

-- a beginning of the journal that fits the try
pub record Fitting (s : Scene) (entries : List JournalEntry) (w : ℕ) (t : Try) : Type 0 where
  pub before : List JournalEntry
  pub next : List JournalEntry
  pub whole : entries ≡ before ++ next
  pub fits : FitsAfter s.start s.round before w t

-- each won try of the worker has one, and the last one of a number that an entry has fits what stands before this entry
pub record NotedIn (s : Scene) (entries : List JournalEntry) (w : ℕ) (tries : List Try) : Type 0 where
  pub fits : AllByRecursion (λ t. t.won ≡ true → Fitting s entries w t) tries
  pub last : (before next : List JournalEntry) (e : JournalEntry) (t : Try) → entries ≡ before ++ e ∷ next → e.worker ≡ w → last_with e.seq tries ≡ some t → FitsAfter s.start s.round before w t

-- what the note has of the try's place
pub record AtHome (t : Try) (home : VersionedStar) : Type 0 where
  pub first : item t.note t.place ≡ some home
  pub version : home.version ≡ t.found

-- ---- such beginnings

beginning_of : (s : Scene) (before next entries : List JournalEntry) (w : ℕ) (t : Try) (home : VersionedStar) → entries ≡ before ++ next → FitsAfter s.start s.round before w t → AtHome t home → Beginning s entries w t.count t.place t.found before
beginning_of s before next entries w t home whole fits h = record {
  next = next;
  whole = whole;
  touched = sym (ap (λ (x : VersionedStar). x.version) (fits.items t.place home h.first)) ∙ h.version;
  own = fits.count;
}

-- flips that are legal in order on the noted stars are legal after the beginning
carried : (s : Scene) (entries : List JournalEntry) (w : ℕ) (t : Try) (d : ℕ) (flips : List Flip) → d ≡ s.start.dim → (f : Fitting s entries w t) (on : ReplaysOn d t.note flips) → Replayed (has_item t.note) f.fits.there on.end flips
carried s entries w t d flips dim f on =
    let same : f.fits.there.dim ≡ d = replay_dim s.start f.fits.there (flat f.before) f.fits.replays ∙ sym dim in
    replayed (has_item t.note) on.complex f.fits.there on.end flips (alike d t.note f.before on.complex f.fits.there on.stars same f.fits.items) on.labels on.replays

legal_of : (s : Scene) (entries : List JournalEntry) (w : ℕ) (t : Try) (home : VersionedStar) (d : ℕ) (flips : List Flip) → d ≡ s.start.dim → Fitting s entries w t → AtHome t home → ReplaysOn d t.note flips → LegalAfter s entries w t.count t.place t.found flips
legal_of s entries w t home d flips dim f h on =
    let r = carried s entries w t d flips dim f on in
    record { before = f.before; beginning = beginning_of s f.before f.next entries w t home f.whole f.fits h; there = f.fits.there; end = r.end; history = f.fits.replays; replays = r.replays }

-- ---- the rows

blocked_after : (s : Scene) (entries : List JournalEntry) (w : ℕ) (task : Task) (t : Try) (home : VersionedStar) (flips : List Flip) (g : Flip) → task.dim ≡ s.start.dim → Fitting s entries w t → AtHome t home → BlockedOn task.dim t.note flips g → BlockedAfter s entries w t.count t.place t.found flips g
blocked_after s entries w task t home flips g dim f h o =
    let r = carried s entries w t task.dim flips dim f o.legal in
    record {
      legal = record { before = f.before; beginning = beginning_of s f.before f.next entries w t home f.whole f.fits h; there = f.fits.there; end = r.end; history = f.fits.replays; replays = r.replays };
      face = sym (broken_rule_alike (has_item t.note) o.legal.end r.end g.a g.b r.alike
          (λ p has. o.labels p (or_left (flip_touches p g) false (or_left (in_set g.a p) (in_set g.b p) has)))
          (λ p has. o.labels p (or_left (flip_touches p g) false (or_right (in_set g.a p) (in_set g.b p) has))))
          ∙ o.face;
    }

enters_after : (s : Scene) (entries : List JournalEntry) (w : ℕ) (tries : List Try) (t : Try) (home : VersionedStar) (was now rest : List JournalEntry) (n : ℕ) (flips : List Flip) → NotedIn s entries w tries → mine entries s.round w ≡ now ++ rest → (length was < length now → last_with (length was) tries ≡ some t) → AtHome t home
    → EntersNext s.round w was now n flips → EntersAfter s entries w t.count t.place t.found n flips
enters_after s entries w tries t home was now rest n flips noted own latest h o =
    let e : JournalEntry = record { round = s.round; worker = w; seq = n; flips = flips } in
    let whole : mine entries s.round w ≡ was ++ e ∷ rest = own ∙ (ap (λ (l : List JournalEntry). l ++ rest) o.entry ∙ append_assoc was (e ∷ []) rest) in
    let at = stands (λ (x : JournalEntry). nat_eq x.round s.round && nat_eq x.worker w) entries was rest e whole in
    let longer : length was < length now = omega (arith, ap {B = ℕ} length o.entry, length-append was (e ∷ [])) in
    let fits = noted.last at.before at.next e t at.whole refl (ap (λ (k : ℕ). last_with k tries) o.number ∙ latest longer) in
    record { before = at.before; next = at.next; whole = at.whole; beginning = beginning_of s at.before (e ∷ at.next) entries w t home at.whole fits h }

-- a row goes over to where flips are legal, blocked and entries as they were
carry_row : (Legal More : List Flip → Type 0) (IsBlocked MoreBlocked : List Flip → Flip → Type 0) (IsEntered MoreEntered : ℕ → List Flip → Type 0) (task : Task) (m : Mark) (flips : List Flip) (a : Tried)
    → ((fs : List Flip) → Legal fs → More fs) → ((fs : List Flip) (f : Flip) → IsBlocked fs f → MoreBlocked fs f) → ((n : ℕ) → IsEntered n flips → MoreEntered n flips) → Row Legal IsBlocked IsEntered task m flips a → Row More MoreBlocked MoreEntered task m flips a
carry_row L M B C E F task m flips (Committed n) legal blocked entered r = record { some = r.some; allowed = r.allowed; entered = entered n r.entered; vertices = r.vertices; journal = r.journal }
carry_row L M B C E F task m flips (Busy q o) legal blocked entered r = record {
  last = r.last;
  owner = r.owner;
  vertex = r.vertex;
  journal = λ zero. let j = r.journal zero in record { some = j.some; allowed = j.allowed; legal = legal flips j.legal; vertices = j.vertices; journal = j.journal };
}
carry_row L M B C E F task m flips Nothing legal blocked entered r = r
carry_row L M B C E F task m flips (Blocked g) legal blocked entered r = record { front = r.front; rest = r.rest; member = r.member; blocked = blocked r.front g r.blocked; unrefused = r.unrefused }
carry_row L M B C E F task m flips (Declined c) legal blocked entered r = record { some = r.some; legal = legal flips r.legal; sum = r.sum; above = r.above; unrefused = r.unrefused }
carry_row L M B C E F task m flips Quit legal blocked entered r = tt
carry_row L M B C E F task m flips NoMemory legal blocked entered r = record { front = r.front; rest = r.rest; some = r.some; first = r.first; legal = legal r.front r.legal; vertices = r.vertices; journal = r.journal }

pub row_of : (s : Scene) (entries : List JournalEntry) (w : ℕ) (task : Task) (tries : List Try) (t : Try) (home : VersionedStar) (was now rest : List JournalEntry) (flips : List Flip) (a : Tried) → task.dim ≡ s.start.dim → NotedIn s entries w tries → Fitting s entries w t → mine entries s.round w ≡ now ++ rest
    → (length was < length now → last_with (length was) tries ≡ some t) → AtHome t home → OwnRow task s.round w t was now flips a → RowAfter s entries w task t.count t.found (mark_of t) flips a
row_of s entries w task tries t home was now rest flips a dim noted f own latest h o =
    carry_row (ReplaysOn task.dim t.note) (LegalAfter s entries w t.count t.place t.found) (BlockedOn task.dim t.note) (BlockedAfter s entries w t.count t.place t.found) (EntersNext s.round w was now) (EntersAfter s entries w t.count t.place t.found) task (mark_of t) flips a
    (λ fs. legal_of s entries w t home task.dim fs dim f h)
    (λ fs g. blocked_after s entries w task t home fs g dim f h)
    (λ n. enters_after s entries w tries t home was now rest n flips noted own latest h)
    o.0

-- no try without a flip answers anything else
idle_of : (Legal : List Flip → Type 0) (IsBlocked : List Flip → Flip → Type 0) (IsEntered : ℕ → List Flip → Type 0) (task : Task) (m : Mark) (flips : List Flip) (a : Tried) → flips ≡ [] → Row Legal IsBlocked IsEntered task m flips a → Idle a
idle_of L B E task m flips (Committed n) none r = absurd (r.some none)
idle_of L B E task m flips (Busy zero o) none r = absurd ((r.journal refl).some none)
idle_of L B E task m flips (Busy (suc q) o) none r = let v = r.vertex (omega arith) in absurd (true≢false (sym v.label ∙ ap (flips_touch (suc q)) none))
idle_of L B E task m flips Nothing none r = inl refl
idle_of L B E task m flips (Blocked f) none r = absurd (no_member r.front f r.rest (sym r.member ∙ none))
  where
    no_member : (front : List Flip) (f : Flip) (rest : List Flip) → front ++ f ∷ rest ≢ []
    no_member [] f rest h = cc
    no_member (g ∷ gs) f rest h = cc
idle_of L B E task m flips (Declined c) none r = absurd (r.some none)
idle_of L B E task m flips Quit none r = inr refl
idle_of L B E task m flips NoMemory none r = absurd (r.some (none_in r.front r.rest (sym r.first ∙ none)))
  where
    none_in : (front rest : List Flip) → front ++ rest ≡ [] → front ≡ []
    none_in [] rest h = refl
    none_in (g ∷ gs) rest h = cc

-- the star that the note has of the try's place is the one that the version tells
pub home_is : (s : Scene) (entries : List JournalEntry) (w : ℕ) (t : Try) (home : VersionedStar) → (f : Fitting s entries w t) → AtHome t home → home.star ≡ star_at s t.place (star_of f.fits.there t.place)
home_is s entries w t home f h =
    let dim = replay_dim s.start f.fits.there (flat f.before) f.fits.replays in
    ap (λ (x : VersionedStar). x.star) (f.fits.items t.place home h.first) ∙ (λ i. record { vertex = t.place; dim = dim i; rows = star_of f.fits.there t.place })

pub at_home : (s : Scene) (entries : List JournalEntry) (w : ℕ) (t : Try) (home : VersionedStar) → Rises s.start → (f : Fitting s entries w t) → AtHome t home → At s.start entries t.place t.found (star_of f.fits.there t.place)
at_home s entries w t home rises f h =
    let touched : touches f.before t.place ≡ t.found = sym (ap (λ (x : VersionedStar). x.version) (f.fits.items t.place home h.first)) ∙ h.version in
    let whole = sym f.whole in
    subst (λ (x : List JournalEntry × ℕ). At s.start x.0 t.place x.1 (star_of f.fits.there t.place)) (λ i. (whole i, touched i)) (star_after_beginning s.start f.fits.there f.before f.next t.place rises f.fits.replays)

pub won_row : (s : Scene) (entries : List JournalEntry) (w : ℕ) (task : Task) (t : Try) (home : VersionedStar) (a : Tried) → Rises s.start → Fitting s entries w t → AtHome t home → RowAfter s entries w task t.count t.found (mark_of t) (turns_of task home.star) a → WonRow s entries w task t.count t.found (mark_of t) a
won_row s entries w task t home a rises f h r =
    let rows = star_of f.fits.there t.place in
    let row : RowAfter s entries w task t.count t.found (mark_of t) (turns_of task (star_at s t.place rows)) a = subst (λ (x : VertexStar). RowAfter s entries w task t.count t.found (mark_of t) (turns_of task x) a) (home_is s entries w t home f h) r in
    record {
      rows = rows;
      at = at_home s entries w t home rises f h;
      before = f.before;
      beginning = beginning_of s f.before f.next entries w t home f.whole f.fits h;
      idle = λ none. idle_of (LegalAfter s entries w t.count t.place t.found) (BlockedAfter s entries w t.count t.place t.found) (EntersAfter s entries w t.count t.place t.found) task (mark_of t) (turns_of task (star_at s t.place rows)) a none row;
      row = row;
    }
