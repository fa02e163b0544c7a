-- The one text of a flip, and which flips may be written to be read again.
use Rattle.std.specs.Prelude.{◌≡◌, ◌<◌, ◌≤◌, ℕ, true, List, [], ◌∷◌, ◌++◌, length}
use Rattle.std.specs.List.{AllByRecursion, flat_map}
use Rattle.std.specs.Fmt.{decimal}
use Rattle.complex_core.specs.Labels.{IsRising}
use Rattle.flip_rules.specs.declared.flip.Flip.{Flip}
use Rattle.line_text.specs.declared.label.Labels.{Labels}
use Rattle.line_text.specs.Labels.{allows}

-- a label with a space after it, and with one before it
abbrev pub spaced : ℕ → List ℕ
spaced n = decimal n ++ 32 ∷ []

abbrev pub set_off : ℕ → List ℕ
set_off n = 32 ∷ decimal n

-- `1 2 | 3 4`
unfoldable pub flip_text : Flip → List ℕ
flip_text f = flat_map spaced f.a ++ (124 ∷ flat_map set_off f.b)

-- 1 to 7 of the labels, rising
pub record IsSide (labels : Labels) (side : List ℕ) : Type 0 where
  pub low : 0 < length side
  pub high : length side ≤ 7
  pub rising : IsRising side
  pub allowed : AllByRecursion (λ n. allows labels n ≡ true) side

pub record HasSides (labels : Labels) (f : Flip) : Type 0 where
  pub a : IsSide labels f.a
  pub b : IsSide labels f.b
