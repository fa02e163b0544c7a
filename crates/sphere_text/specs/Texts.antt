-- The text of a complex and, behind it, of a certificate that it is a sphere.
use Rattle.std.specs.Prelude.{◌≡◌, ◌≤◌, ℕ, List, ◌∷◌, ◌++◌, length, Ok}
use Rattle.complex_core.specs.Complexes.{ComplexView}
use Rattle.facet_text.specs.Grammar.{complex_at}
use Rattle.facet_text.specs.Writing as facet
use Rattle.cert_text.specs.Statements.{Sphere}
use Rattle.cert_text.specs.Grammar.{certificate_at}
use Rattle.cert_text.specs.Writing as cert
use Rattle.flip_rules.specs.declared.flip.Flip.{Flip}

-- the complex on a line, and the certificate with these flips
abbrev pub certified : ComplexView → List Flip → List ℕ
certified k flips = facet.text_of k.facets ++ (10 ∷ cert.text_of (Sphere flips))

-- the complex is read from this text, and the certificate behind it
pub record IsReadAgain (k : ComplexView) (flips : List Flip) : Type 0 where
  pub offset : ℕ
  pub complex : complex_at (certified k flips) 0 ≡ Ok (k, offset)
  pub certificate : certificate_at (certified k flips) offset ≡ Ok (Sphere flips)

-- so it is where complex and flips keep the limits of their texts
abbrev pub CertifiedIsRead : Type 0
CertifiedIsRead = (k : ComplexView) (flips : List Flip) → facet.KeepsLimits k → cert.AreFlips flips → IsReadAgain k flips

-- and where there are no more flips than a complex may have facets, the text has no more bytes than the text of a complex may
abbrev pub CertifiedIsShort : Type 0
CertifiedIsShort = (k : ComplexView) (flips : List Flip) → facet.KeepsLimits k → cert.AreFlips flips → length flips ≤ 20000 → length (certified k flips) ≤ 4194304
