-- What the gate of a worker hears of its tries.
use Rattle.std.specs.Prelude.{◌≡◌, ◌⊎◌, ℕ, ◌+◌, Bool, true, false, cond, List, [], ◌∷◌, length, Result, Ok, Err}
use Rattle.std.specs.Result.{is_ok}
use Rattle.flip_rules.specs.Entries.{JournalEntry}
use Rattle.board_rule.specs.Tries.{Try}
use Rattle.held_stars.specs.Gates.{Heard, after_committed, fails, noted_in}
use Rattle.round_rules.specs.Accounts.{quits}
use Rattle.round_rules.specs.declared.tried.Tried.{Tried}
use Rattle.round_rules.specs.declared.tried.Tried.TheVariants.{Committed, Busy, Nothing, Blocked, Declined, Quit, NoMemory}

-- whether an answer is a quit
abbrev pub is_quit : Tried → Bool
is_quit (Committed s) = false
is_quit (Busy q o) = false
is_quit Nothing = false
is_quit (Blocked f) = false
is_quit (Declined c) = false
is_quit Quit = true
is_quit NoMemory = false

-- whether an answer is of a try that was committed
abbrev pub is_commit : Tried → Bool
is_commit (Committed s) = true
is_commit (Busy q o) = false
is_commit Nothing = false
is_commit (Blocked f) = false
is_commit (Declined c) = false
is_commit Quit = false
is_commit NoMemory = false

-- how many of the answers are of tries that were committed
abbrev pub commits : List Tried → ℕ
commits [] = 0
commits (a ∷ rest) = cond (is_commit a) 1 0 + commits rest

-- how many flips these entries have
abbrev pub flips_in : List JournalEntry → ℕ
flips_in [] = 0
flips_in (e ∷ rest) = length e.flips + flips_in rest

-- it was told of a commit where an entry was made
abbrev pub after_made : Result ℕ Tried → Heard → Heard
after_made (Ok n) h = after_committed h
after_made (Err a) h = h

-- a count stayed, or rose by one
abbrev pub AtMostOnce : ℕ → ℕ → Type 0
AtMostOnce before after = (after ≡ before) ⊎ (after ≡ before + 1)

-- so many places were noted and flips made before and so many now, and the gate was asked of each; it was asked at the journal at most once, and once where the flips were committed
pub record Concludes (made : Result ℕ Tried) (noted_then noted_now flips_then flips_now : ℕ) (h g : Heard) : Type 0 where
  pub ended : g.ended ≡ h.ended + cond (fails is_quit made) 1 0
  pub started : g.started ≡ h.started
  pub claimed : g.claimed + noted_then ≡ h.claimed + noted_now
  pub flipped : g.flipped + flips_then ≡ h.flipped + flips_now
  pub once : AtMostOnce h.fetched g.fetched
  pub fetched : is_ok made ≡ true → g.fetched ≡ h.fetched + 1
  pub committed : g.committed ≡ h.committed

-- a try with this answer: the gate quit once where the answer is a quit, and else never; it was asked so often as the try began, once for each claim that was won, and at most once at the journal; it was told of the try exactly where it was committed, and then was asked once for each flip of its entry, and once at the journal; the tries noted so many places before and now, and the entries had so many flips
pub record TryHeard (starts : ℕ) (answer : Tried) (noted_then noted_now flips_then flips_now : ℕ) (h g : Heard) : Type 0 where
  pub ended : g.ended ≡ h.ended + cond (is_quit answer) 1 0
  pub started : g.started ≡ h.started + starts
  pub claimed : g.claimed + noted_then ≡ h.claimed + noted_now
  pub flipped : is_commit answer ≡ true → g.flipped + flips_then ≡ h.flipped + flips_now
  pub once : AtMostOnce h.fetched g.fetched
  pub fetched : is_commit answer ≡ true → g.fetched ≡ h.fetched + 1
  pub committed : g.committed ≡ h.committed + commits (answer ∷ [])

-- tries with these answers: the gate quit as often as answers are quits, was asked as each began and once for each claim that was won, and was told of each commit; without a try it was not asked
pub record RunHeard (tries : List Try) (answers : List Tried) (h g : Heard) : Type 0 where
  pub ended : g.ended ≡ h.ended + quits answers
  pub started : g.started ≡ h.started + length answers
  pub none : answers ≡ [] → g ≡ h
  pub claimed : g.claimed ≡ h.claimed + noted_in tries
  pub committed : g.committed ≡ h.committed + commits answers
