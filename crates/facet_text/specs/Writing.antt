-- The one text of a complex, and which complexes it may be written of to be read again.
use Rattle.std.specs.Prelude.{◌≡◌, ◌<◌, ◌≤◌, ◌+◌, ℕ, List, [], ◌∷◌, ◌++◌, drop, length, map, if◌then◌else◌, nat_lt, nat_eq}
use Rattle.std.specs.List.{AllByRecursion, join_with_byte, prefix_len, starts_with}
use Rattle.std.specs.Fmt.{decimal}
use Rattle.complex_core.specs.Complexes.{IsComplex, ComplexView}
use Rattle.facet_text.specs.Tokens.{has}
use Rattle.facet_text.specs.declared.token.Class.TheVariants.{Blank}
use Rattle.facet_text.specs.Grammar.{Facets, labels_of}

-- `[`, the pieces with commas between them, `]`
abbrev pub bracketed : List (List ℕ) → List ℕ
bracketed pieces = 91 ∷ join_with_byte 44 pieces ++ 93 ∷ []

abbrev pub facet_text : List ℕ → List ℕ
facet_text labels = bracketed (map decimal labels)

unfoldable pub text_of : Facets → List ℕ
text_of fs = bracketed (map facet_text fs)

-- what stands between a piece and the one before it
abbrev pub comma_before : ℕ → List ℕ
comma_before i = if nat_lt 0 i then 44 ∷ [] else []

-- bytes were at most added
abbrev pub OnlyAdds : List ℕ → List ℕ → Type 0
OnlyAdds old new = (more : List ℕ) × (new ≡ old ++ more)

-- the limits that a text keeps
pub record KeepsLimits (k : ComplexView) : Type 0 where
  pub complex : IsComplex k
  pub dim : 0 < k.dim
  pub small : AllByRecursion (λ f. AllByRecursion (λ n. n ≤ 60000) f) k.facets
  pub few_facets : length k.facets ≤ 20000
  pub few_labels : length (labels_of k) ≤ 4096

-- how many bytes reach from here to the end of a `;` that stands first but for blanks, or none
abbrev pub to_semicolon : List ℕ → ℕ
to_semicolon bs =
    let blanks = prefix_len (has Blank) bs in
    if starts_with nat_eq (drop blanks bs) (59 ∷ []) then blanks + 1 else 0
