-- The text of a complex and, behind it, of a certificate that flips lead from it to an image of another one.
use Rattle.std.specs.Prelude.{◌≡◌, ◌≤◌, ◌+◌, ℕ, List, ◌∷◌, ◌++◌, length, Ok}
use Rattle.std.specs.List.{AllByRecursion}
use Rattle.complex_core.specs.Complexes.{ComplexView}
use Rattle.facet_text.specs.Grammar.{complex_at}
use Rattle.facet_text.specs.Writing as facet
use Rattle.cert_text.specs.Statements.{Equal}
use Rattle.cert_text.specs.Grammar.{certificate_at}
use Rattle.cert_text.specs.Writing as cert
use Rattle.flip_rules.specs.declared.flip.Flip.{Flip}

-- the complex on a line, and the certificate with this target, these flips and the pairs of this map
abbrev pub certified : ComplexView → ComplexView → List Flip → List (ℕ × ℕ) → List ℕ
certified k target flips pairs = facet.text_of k.facets ++ (10 ∷ cert.text_of (Equal target flips pairs))

-- the complex is read from this text, and the certificate behind it
pub record IsReadAgain (k target : ComplexView) (flips : List Flip) (pairs : List (ℕ × ℕ)) : Type 0 where
  pub offset : ℕ
  pub complex : complex_at (certified k target flips pairs) 0 ≡ Ok (k, offset)
  pub certificate : certificate_at (certified k target flips pairs) offset ≡ Ok (Equal target flips pairs)

-- so it is where complex and certificate keep the limits of their texts
abbrev pub CertifiedIsRead : Type 0
CertifiedIsRead = (k target : ComplexView) (flips : List Flip) (pairs : List (ℕ × ℕ)) → facet.KeepsLimits k → cert.KeepsLimits (Equal target flips pairs) → IsReadAgain k target flips pairs

-- at most so many flips, each with at most eight labels on both sides together, and at most so many pairs
pub record AreFew (flips : List Flip) (pairs : List (ℕ × ℕ)) : Type 0 where
  pub few_flips : length flips ≤ 5040000
  pub few_labels : AllByRecursion (λ f. length f.a + length f.b ≤ 8) flips
  pub few_pairs : length pairs ≤ 5121

-- then the text has no more bytes than an input of a certificate may
abbrev pub CertifiedIsShort : Type 0
CertifiedIsShort = (k target : ComplexView) (flips : List Flip) (pairs : List (ℕ × ℕ)) → facet.KeepsLimits k → cert.KeepsLimits (Equal target flips pairs) → AreFew flips pairs → length (certified k target flips pairs) ≤ 268435456
