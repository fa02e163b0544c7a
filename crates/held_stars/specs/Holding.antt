-- What a worker holds of a board, and what it remembers of it.
use Rattle.std.specs.Prelude.{◌≡◌, ◌≢◌, ◌⊎◌, ℕ, ◌+◌, ◌<◌, ◌≤◌, true, false, cond, List, ◌∷◌, [], ◌++◌, length, take, slice_index, Some, vec_capacity, ⊤}
use Rattle.std.specs.List.{AllByRecursion, insert}
use mathlib.Core.Option.{some}
use Rattle.complex_core.specs.Labels.{IsRising, has}
use Rattle.complex_core.specs.Complexes.{ComplexView}
use Rattle.flip_rules.specs.Flips.{replay, OfFaces}
use Rattle.flip_rules.specs.Entries.{JournalEntry}
use Rattle.flip_rules.specs.declared.flip.Flip.{Flip}
use Rattle.star_laws.specs.Stars.{star, flips_touch, LabelsPass}
use Rattle.stars.specs.StarViews.{VertexStar, KeptStar, vertices, shown, IsStarOf}
use Rattle.board_rule.specs.Items.{item, has_item}
use Rattle.board_rule.specs.Plays.{IsRefused}
use Rattle.board_rule.specs.Tries.{Try, Unrefused}
use Rattle.board_rule.specs.Views.{home, counted}
use Rattle.board_rule.specs.Homes.{VersionedStar}
use Rattle.board_rule.specs.declared.data.Slot.TheVariants.{Home}
use Rattle.board_rule.specs.declared.view.PassView.{PassView}
use Rattle.vertex_claims.specs.Passes.{know, slot}
use Rattle.vertex_claims.specs.declared.pass.Pass.{Pass}
use Rattle.held_stars.specs.declared.stopped.Stopped.{Stopped}
use Rattle.held_stars.specs.declared.stopped.Stopped.TheVariants.{Busy, Quit}
use Rattle.held_stars.specs.declared.hold.Hold.{Hold}

-- ---- the places that are held

-- each has a slot with its version, which may lack what these flips add to it; which star lies there plays no part
abbrev pub HasVersions : Pass → List Flip → Type 0
HasVersions pass flips = (q : ℕ) (x : VersionedStar) → item (know pass).items q ≡ some x → (s : VertexStar) × (n : ℕ) × (slot pass q ≡ some (Home (home s n))) × (x.version ≡ n + cond (flips_touch q flips) 1 0)

-- these stars, rising, are those of exactly these places
pub record AreOf (items : List (ℕ × VersionedStar)) (stars : List VertexStar) : Type 0 where
  pub rising : IsRising (vertices stars)
  pub each : (q : ℕ) → has (vertices stars) q ≡ has_item items q

-- this star is known of its place
abbrev pub IsKnown : List (ℕ × VersionedStar) → VertexStar → Type 0
IsKnown items s = (x : VersionedStar) × (item items s.vertex ≡ some x) × (s ≡ x.star)

-- the stars of the places that are held are lent, as they are known, and their slots have the versions, but for what these flips add to them
pub record Settles (pass : Pass) (flips : List Flip) (stars : List VertexStar) : Type 0 where
  pub held : AreOf (know pass).items stars
  pub known : AllByRecursion (IsKnown (know pass).items) stars
  pub slots : HasVersions pass flips

-- ---- stars that are lent

-- a star is lent beside others, in its place among them, with room for its facets
pub record Lends (old new : List KeptStar) (s : VertexStar) : Type 0 where
  pub at : ℕ
  pub kept : KeptStar
  pub star : kept.star ≡ s
  pub fits : length s.rows ≤ kept.room
  pub now : new ≡ insert old at kept
  pub rising : IsRising (vertices (shown new))

-- it has room for its facets
abbrev pub FitsRoom : KeptStar → Type 0
FitsRoom s = length s.star.rows ≤ s.room

-- each of these stars has room for what it is in a complex
abbrev pub HaveRoom : ComplexView → List KeptStar → Type 0
HaveRoom k near = AllByRecursion (λ s. length (star k.facets s.star.vertex) ≤ s.room) near

-- and for what it was before each of the flips that led from a complex
abbrev pub KeepRoom : ComplexView → List Flip → List KeptStar → Type 0
KeepRoom k flips near = (front rest : List Flip) (m : ComplexView) → flips ≡ front ++ rest → replay k front ≡ Some m → HaveRoom m near

-- ---- memory that is taken once

pub record Roomy (h : Hold) : Type 0 where
  pub flips : 4 ≤ vec_capacity h.flips
  pub lent : 33 ≤ vec_capacity h.lent

-- ---- a try whose first claim was won

-- where it began, the flips whose labels it may claim, with which star and version it found its place, and the tries and entries before it
pub record StartedTry : Type 0 where
  pub place : ℕ
  pub flips : List Flip
  pub home : VersionedStar
  pub dim : ℕ
  pub worker : ℕ
  pub earlier : List Try
  pub mine : List JournalEntry

-- what the pass notes of it: beside its place it has only labels of its flips
pub record Noting (begun : StartedTry) (v : PassView) (t : Try) : Type 0 where
  pub tries : v.tries ≡ t ∷ begun.earlier
  pub place : t.place ≡ begun.place
  pub won : t.won ≡ true
  pub found : begun.home.version ≡ t.found
  pub first : item t.note begun.place ≡ some begun.home
  pub count : t.count ≡ length begun.mine
  pub among : (q : ℕ) → has_item t.note q ≡ true → (q ≡ begun.place) ⊎ (flips_touch q begun.flips ≡ true)
  pub worker : v.worker ≡ begun.worker
  pub start : v.start.dim ≡ begun.dim

-- it goes on, and no later claim was refused
pub record Going (begun : StartedTry) (v : PassView) : Type 0 where
  pub try_now : Try
  pub noting : Noting begun v try_now
  pub note : try_now.note ≡ v.items
  pub mine : v.mine ≡ begun.mine
  pub claiming : v.claiming ≡ true
  pub fresh : Unrefused try_now.vertices try_now.journal

-- these flips were made on the stars of the places that are held, which are lent, and are those of a complex now
pub record IsMade (pass : Pass) (flips : List Flip) (lent : List KeptStar) (now : ComplexView) : Type 0 where
  pub replays : replay (know pass).seen flips ≡ Some now
  pub faces : AllByRecursion OfFaces flips
  pub labels : LabelsPass (has_item (know pass).items) flips
  pub held : AreOf (know pass).items (shown lent)
  pub stars : AllByRecursion (IsStarOf now) (shown lent)
  pub room : KeepRoom (know pass).seen flips lent
  pub slots : HasVersions pass []
  pub free : (know pass).has_journal ≡ false

abbrev pub Made : Pass → Hold → ComplexView → Type 0
Made pass h now = IsMade pass h.flips.items h.lent.items now

-- the flips that were made can be taken back
abbrev pub Restorable : Pass → Hold → Type 0
Restorable pass h = (now : ComplexView) × Made pass h now

-- one later claim was refused, as another worker held the place: a label of its flips, from 1, and another one than that where it began
pub record RefusedAt (begun : StartedTry) (t : Try) (q o : ℕ) : Type 0 where
  pub low : 0 < q
  pub last : t.last ≡ q
  pub owner : t.owner ≡ o
  pub worker : IsRefused begun.worker o
  pub other : q ≢ t.place
  pub label : flips_touch q begun.flips ≡ true
  pub vertices : t.vertices ≡ 1
  pub journal : t.journal ≡ 0

-- what the note of the try has of why it stopped
abbrev pub Reason : StartedTry → Try → Stopped → Type 0
Reason begun t (Busy q o) = RefusedAt begun t q o
Reason begun t Quit = Unrefused t.vertices t.journal

-- it stopped, no entry is new, and the flips that it made can be taken back
pub record Ends (begun : StartedTry) (pass : Pass) (h : Hold) (stop : Stopped) : Type 0 where
  pub try_now : Try
  pub noting : Noting begun (know pass) try_now
  pub mine : (know pass).mine ≡ begun.mine
  pub reason : Reason begun try_now stop
  pub restorable : Restorable pass h

-- the owners that were found at place 0, the latest first
abbrev pub waits : PassView → List ℕ → PassView
waits v [] = v
waits v (o ∷ os) = counted (waits v os) 0 o

-- ---- claims of labels in order

-- how many labels of a list were won or held already when its claims ended at one of them: the one before which the gate ended the try was won
abbrev pub gained : Stopped → ℕ → ℕ
gained (Busy q o) i = i
gained Quit i = i + 1

-- a claim that was refused was of this label, and left what is held
abbrev pub RefusedOf : ℕ → List (ℕ × VersionedStar) → List (ℕ × VersionedStar) → Stopped → Type 0
RefusedOf label was now (Busy q o) = (q ≡ label) × (now ≡ was)
RefusedOf label was now Quit = ⊤

-- a place that is refused is this label
abbrev pub IsAt : ℕ → Stopped → Type 0
IsAt label (Busy q o) = q ≡ label
IsAt label Quit = ⊤

-- the claims of some labels, one after another, ended at one of them: those before it are held, and beside what was held nothing but these, with that one where it was won
pub record EndedAt (labels : List ℕ) (was now : List (ℕ × VersionedStar)) (stop : Stopped) : Type 0 where
  pub index : ℕ
  pub within : index < length labels
  pub before : (q : ℕ) → has (take index labels) q ≡ true → has_item now q ≡ true
  pub only : (q : ℕ) → has_item now q ≡ true → (has_item was q ≡ true) ⊎ (has (take (gained stop index) labels) q ≡ true)
  pub at : IsAt (slice_index labels index) stop
