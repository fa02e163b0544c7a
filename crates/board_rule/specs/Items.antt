-- Lists of places, each with a value.
use Rattle.std.specs.Prelude.{ℕ, Bool, true, false, cond, ◌==◌, List, [], ◌∷◌}
use mathlib.Core.Option.{Option, some, none}

module _ {A : Type 0} where
  -- the value of a place
  abbrev pub item : List (ℕ × A) → ℕ → Option A
  item [] p = none
  item (x ∷ xs) p = cond (x.0 == p) (some x.1) (item xs p)

  abbrev pub has_item : List (ℕ × A) → ℕ → Bool
  has_item [] p = false
  has_item (x ∷ xs) p = cond (x.0 == p) true (has_item xs p)

  -- no place stands twice
  abbrev pub single : List (ℕ × A) → Bool
  single [] = true
  single (x ∷ xs) = cond (has_item xs x.0) false (single xs)

  abbrev pub places_of : List (ℕ × A) → List ℕ
  places_of [] = []
  places_of (x ∷ xs) = x.0 ∷ places_of xs

  -- the list less a place
  abbrev pub without : ℕ → List (ℕ × A) → List (ℕ × A)
  without p [] = []
  without p (x ∷ xs) = cond (x.0 == p) (without p xs) (x ∷ without p xs)
