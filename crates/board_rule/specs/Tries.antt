-- The tries of a pass, the latest first: each has a mark, and a note of what was won in it.
use Rattle.std.specs.Prelude.{◌≡◌, ℕ, ◌+◌, Bool, true, false, cond, ◌==◌, ◌&&◌, min, List, [], ◌∷◌}
use mathlib.Core.Option.{Option, some, none}
use Rattle.std.specs.List.{list_any}
use Rattle.board_rule.specs.Items.{has_item}
use Rattle.board_rule.specs.Homes.{VersionedStar}

pub record Try : Type 0 where
  -- the mark: the place of the first claim, whether it was won, and the version that was won or the owner that was found
  pub place : ℕ
  pub won : Bool
  pub found : ℕ
  -- the refused claims after it, at places from 1 and at place 0, and the place and the owner of the last of these
  pub vertices : ℕ
  pub journal : ℕ
  pub last : ℕ
  pub owner : ℕ
  -- the note: the items that were won, and how many entries the pass had then
  pub note : List (ℕ × VersionedStar)
  pub count : ℕ

abbrev pub won_try : ℕ → VersionedStar → ℕ → Try
won_try p x n = record { place = p; won = true; found = x.version; vertices = 0; journal = 0; last = 0; owner = 0; note = (p, x) ∷ []; count = n }

abbrev pub lost_try : ℕ → ℕ → ℕ → Try
lost_try p o n = record { place = p; won = false; found = o; vertices = 0; journal = 0; last = 0; owner = 0; note = []; count = n }

-- a count stands still at its type's end
abbrev pub one_more : ℕ → ℕ
one_more n = min (n + 1) 4294967295

-- a refused claim is counted
abbrev pub refused_at : ℕ → ℕ → Try → Try
refused_at p o t = record t { vertices = cond (p == 0) t.vertices (one_more t.vertices); journal = cond (p == 0) (one_more t.journal) t.journal; last = p; owner = o }

-- these counts say that no later claim was refused, at a place from 1 or at place 0
abbrev pub Unrefused : ℕ → ℕ → Type 0
Unrefused vertices journal = (vertices ≡ 0) × (journal ≡ 0)

-- a won place is noted
abbrev pub noted_at : ℕ → VersionedStar → Try → Try
noted_at p x t = record t { note = (p, x) ∷ t.note }

-- the latest try changes
abbrev pub at_last : (Try → Try) → List Try → List Try
at_last f [] = []
at_last f (t ∷ ts) = f t ∷ ts

abbrev pub last_note : List Try → List (ℕ × VersionedStar)
last_note [] = []
last_note (t ∷ ts) = t.note

abbrev pub last_won : List Try → Bool
last_won [] = false
last_won (t ∷ ts) = t.won

abbrev pub last_count : List Try → ℕ
last_count [] = 0
last_count (t ∷ ts) = t.count

-- how many first claims were won
abbrev pub wins : List Try → ℕ
wins [] = 0
wins (t ∷ ts) = cond t.won 1 0 + wins ts

-- the latest won try whose note says n entries
abbrev pub last_with : ℕ → List Try → Option Try
last_with n [] = none
last_with n (t ∷ ts) = cond (t.won && (t.count == n)) (some t) (last_with n ts)

-- whether the note of some won try has the place
abbrev pub has_won : List Try → ℕ → Bool
has_won tries p = list_any (λ t. t.won && has_item t.note p) tries
