-- What a gate hears of the tries of its worker.
use Rattle.std.specs.Prelude.{◌≡◌, ℕ, ◌+◌, Bool, true, false, cond, List, [], ◌∷◌, length, Option, Some, IfSome, Result, Ok, Err}
use Rattle.board_rule.specs.Tries.{Try}
use Rattle.held_stars.specs.declared.point.Point.{Point}
use Rattle.held_stars.specs.declared.point.Point.TheVariants.{Start, Claimed, Flipped, Journal}
use Rattle.held_stars.specs.declared.point.Step.{Step}
use Rattle.held_stars.specs.declared.point.Step.TheVariants.{Go, Quit}
use Rattle.held_stars.specs.declared.stopped.Stopped.{Stopped}
use Rattle.held_stars.specs.declared.stopped.Stopped.TheVariants.{Busy, Quit as QuitHere}

-- how often its answer ended a try, how often it was asked as a try began, after a claim, after a flip, and after the journal was won, and of how many commits it was told
pub record Heard : Type 0 where
  pub ended : ℕ
  pub started : ℕ
  pub claimed : ℕ
  pub flipped : ℕ
  pub fetched : ℕ
  pub committed : ℕ

-- whether this answer of a gate ends a try
abbrev pub is_quit : Step → Bool
is_quit Go = false
is_quit Quit = true

-- it gave an answer that ended the try, or didn't
abbrev pub after_answer : Bool → Heard → Heard
after_answer ends h = record h { ended = h.ended + cond ends 1 0 }

-- it was asked at a point, and its answer ended the try or didn't
abbrev pub after_asked : Point → Bool → Heard → Heard
after_asked Start ends h = record (after_answer ends h) { started = h.started + 1 }
after_asked Claimed ends h = record (after_answer ends h) { claimed = h.claimed + 1 }
after_asked Flipped ends h = record (after_answer ends h) { flipped = h.flipped + 1 }
after_asked Journal ends h = record (after_answer ends h) { fetched = h.fetched + 1 }

-- it was told that a try was committed
abbrev pub after_committed : Heard → Heard
after_committed h = record h { committed = h.committed + 1 }

-- what a gate tells afterwards, where it tells, follows from what it told before
abbrev pub Follows : Option Heard → Option Heard → (Heard → Heard → Type 0) → Type 0
Follows old new P = IfSome new (λ g. (h : Heard) × (old ≡ Some h) × P h g)

-- whether a result is an error of this kind
abbrev pub fails : {A E : Type 0} → (E → Bool) → Result A E → Bool
fails kind (Ok a) = false
fails kind (Err e) = kind e

-- whether claims stopped as the gate ended the try
abbrev pub is_stop : Stopped → Bool
is_stop (Busy p o) = false
is_stop QuitHere = true

-- how many places were won in these tries, as their notes say
abbrev pub noted_in : List Try → ℕ
noted_in [] = 0
noted_in (t ∷ rest) = length t.note + noted_in rest

-- so many places were noted and flips made before and so many now: the gate was asked once for each new one, wasn't asked as a try begins or at the journal, was told of no commit, and one answer of it ended the try or none did
pub record Keeps (ends : Bool) (noted_then noted_now flips_then flips_now : ℕ) (h g : Heard) : Type 0 where
  pub ended : g.ended ≡ h.ended + cond ends 1 0
  pub started : g.started ≡ h.started
  pub claimed : g.claimed + noted_then ≡ h.claimed + noted_now
  pub flipped : g.flipped + flips_then ≡ h.flipped + flips_now
  pub fetched : g.fetched ≡ h.fetched
  pub committed : g.committed ≡ h.committed
