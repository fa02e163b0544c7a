-- Counts of faults, and what a call says of them.
use Rattle.std.specs.Prelude.{◌≡◌, ◌≢◌, ℕ, ◌+◌, ◌-◌, ◌^◌, ◌≤◌, ◌<◌, min, List, length, Result, OnErr, MatchResult}

-- one more, where a count stops at the end of its type
abbrev pub one_more : ℕ → ℕ
one_more count = min (count + 1) (2 ^ 64 - 1)

-- the count rose, unless it stands at the end of its type
abbrev pub Rose : ℕ → ℕ → Type 0
Rose before now = before ≢ 2 ^ 64 - 1 → before < now

-- a count of faults doesn't fall, and has risen where the call failed
pub record HasCause {T E : Type 0} (before now : ℕ) (result : Result T E) : Type 0 where
  pub later : before ≤ now
  pub failed : OnErr result (Rose before now)

-- a count of faults is one more where the call failed, and else as it was
abbrev pub CountsFaults : {T E : Type 0} → ℕ → ℕ → Result T E → Type 0
CountsFaults before now result = MatchResult result (λ _. now ≡ before) (λ _. now ≡ one_more before)

-- n of the bytes of a piece, and at least one where there is one
pub record Progresses (piece : List ℕ) (n : ℕ) : Type 0 where
  pub within : n ≤ length piece
  pub some : 0 < length piece → 0 < n
