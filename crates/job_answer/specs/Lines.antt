-- The lines that answers share. Each ends with a line feed.
use Rattle.std.specs.Prelude.{ℕ, List, [], ◌∷◌, ◌++◌, codes}
use Rattle.std.specs.List.{flat_map}
use Rattle.std.specs.Fmt.{decimal, signed_decimal}
use lib.IntN.{ℤ}
use Rattle.facet_text.specs.Writing.{text_of}
use Rattle.line_text.specs.Writing.{flip_text, set_off}
use Rattle.flip_rules.specs.declared.flip.Flip.{Flip}
use Rattle.flip_rules.specs.declared.flip.Illegal.{Illegal}
use Rattle.flip_rules.specs.declared.flip.Illegal.TheVariants.{Shape, NotAFace, LinkDiffers, BIsFace}

abbrev pub complex_line : List (List ℕ) → List ℕ
complex_line facets = text_of facets ++ 10 ∷ []

abbrev pub flip_line : Flip → List ℕ
flip_line f = flip_text f ++ 10 ∷ []

-- the rule that a flip breaks
abbrev pub reason_name : Illegal → List ℕ
reason_name Shape = codes "shape"
reason_name NotAFace = codes "no-face"
reason_name LinkDiffers = codes "link-differs"
reason_name BIsFace = codes "b-face"

-- ---- facts of a complex

abbrev pub euler_line : ℤ → List ℕ
euler_line characteristic = codes "euler " ++ (signed_decimal characteristic ++ 10 ∷ [])

-- a ridge, and in how many facets it lies
abbrev pub ridge_line : List ℕ → ℕ → List ℕ
ridge_line ridge count = codes "closed no ridge" ++ (flat_map set_off ridge ++ (codes " in " ++ (decimal count ++ 10 ∷ [])))

-- two facets
abbrev pub apart_line : List ℕ → List ℕ → List ℕ
apart_line first other = codes "strong no" ++ (flat_map set_off first ++ (codes " |" ++ (flat_map set_off other ++ 10 ∷ [])))

abbrev pub clash_line : List ℕ
clash_line = codes "orientable no" ++ 10 ∷ []
