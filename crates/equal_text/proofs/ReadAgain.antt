-- The text of a complex and of a certificate behind it is read again.
use Rattle.std.proofs.Common.{length}
use Rattle.facet_text.specs.Writing as facet
use Rattle.cert_text.specs.Statements.{Equal}
use Rattle.sphere_text.proofs.ReadAgain.{behind_complex, complex_again}
use Rattle.equal_text.specs.Texts.{CertifiedIsRead}

pub certified_is_read : CertifiedIsRead
certified_is_read k target flips pairs keeps good = record {
  offset = length (facet.text_of k.facets);
  complex = complex_again k (Equal target flips pairs) keeps;
  certificate = behind_complex k (Equal target flips pairs) good;
}
