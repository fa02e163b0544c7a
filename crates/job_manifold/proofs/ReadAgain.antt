-- The text of a complex and of a certificate behind it is read again.
use Rattle.std.proofs.Common.{◌≡◌, ℕ, List, length, Ok}
use Rattle.complex_core.specs.Complexes.{ComplexView}
use Rattle.facet_text.specs.Grammar.{complex_at}
use Rattle.facet_text.specs.Writing as facet
use Rattle.cert_text.specs.Statements.{OfVertex, Manifold}
use Rattle.cert_text.specs.Grammar.{certificate_at}
use Rattle.cert_text.specs.Writing as cert
use Rattle.sphere_text.proofs.ReadAgain.{behind_complex, complex_again}
use Rattle.job_manifold.specs.Texts.{certified}

-- the complex is read from this text, and the certificate behind it
pub record IsReadAgain (k : ComplexView) (lists : List OfVertex) : Type 0 where
  pub offset : ℕ
  pub complex : complex_at (certified k lists) 0 ≡ Ok (k, offset)
  pub certificate : certificate_at (certified k lists) offset ≡ Ok (Manifold lists)

pub certified_is_read : (k : ComplexView) (lists : List OfVertex) → facet.KeepsLimits k → cert.KeepsLimits (Manifold lists) → IsReadAgain k lists
certified_is_read k lists keeps good = record {
  offset = length (facet.text_of k.facets);
  complex = complex_again k (Manifold lists) keeps;
  certificate = behind_complex k (Manifold lists) good;
}
