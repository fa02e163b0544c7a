-- The texts that `equiv` answers. Each line ends with a line feed.
use Rattle.std.specs.Prelude.{ℕ, Bool, true, false, List, [], ◌∷◌, ◌++◌, codes}
use Rattle.std.specs.Fmt.{decimal, signed_decimal}
use Rattle.complex_core.specs.Complexes.{ComplexView}
use Rattle.cert_text.specs.Statements.{Equal}
use Rattle.cert_text.specs.Writing.{text_of}
use Rattle.flip_rules.specs.declared.flip.Flip.{Flip}
use Rattle.flip_laws.specs.declared.difference.Differ.{Differ}
use Rattle.flip_laws.specs.declared.difference.Differ.TheVariants as differ
use Rattle.search_lines.specs.Lines.{verdict_lines}

-- yes or no
abbrev pub answer_word : Bool → List ℕ
answer_word true = codes "yes"
answer_word false = codes "no"

-- a fact, and what it is of the first complex and of the second
abbrev pub two_line : List ℕ → List ℕ → List ℕ → List ℕ
two_line fact first second = fact ++ (first ++ (32 ∷ second ++ 10 ∷ []))

-- in what they differ
abbrev pub difference_line : Differ → List ℕ
difference_line (differ.Dimension m n) = two_line (codes "dimension ") (decimal m) (decimal n)
difference_line (differ.Euler m n) = two_line (codes "euler ") (signed_decimal m) (signed_decimal n)
difference_line (differ.Orientable s t) = two_line (codes "orientable ") (answer_word s) (answer_word t)

abbrev pub difference_text : Differ → List ℕ
difference_text d = codes "no" ++ (10 ∷ difference_line d)

-- after so many rounds, the certificate with these flips and pairs, whose target is the second complex
abbrev pub found_text : ℕ → ComplexView → List Flip → List (ℕ × ℕ) → List ℕ
found_text rounds target flips pairs = verdict_lines (codes "yes") rounds ++ text_of (Equal target flips pairs)

-- after so many rounds, how many facets the two ends have
abbrev pub undecided_text : ℕ → ℕ → ℕ → List ℕ
undecided_text rounds first second = verdict_lines (codes "undecided") rounds ++ two_line (codes "facets ") (decimal first) (decimal second)
