-- What the bytes of an input of `replay` tell, or their first fault.
use Rattle.std.specs.Prelude.{◌≡◌, ℕ, List, Result, Ok, Err}
use Rattle.complex_core.specs.Complexes.{ComplexView}
use Rattle.facet_text.specs.Grammar.{complex_at, Reading as ComplexReading}
use Rattle.cert_text.specs.Statements.{Statement, statement}
use Rattle.cert_text.specs.Grammar.{certificate_at}
use Rattle.cert_text.specs.declared.certificate.Certificate.{Certificate}
use Rattle.cert_text.specs.declared.fault.CertFault.{CertFault}
use Rattle.cert_text.specs.declared.fault.CertFault.TheVariants as cert
use Rattle.job_answer.specs.Faults.{of_text, Fails}
use Rattle.job_answer.specs.declared.fault.Fault.{Fault}
use Rattle.job_answer.specs.declared.fault.Fault.TheVariants.{Syntax, Label, Count, Memory}

-- why a certificate is refused
abbrev pub of_cert : CertFault → Fault
of_cert (cert.Syntax offset) = Syntax offset
of_cert (cert.Label offset) = Label offset
of_cert (cert.Count offset) = Count offset
of_cert (cert.Target e) = of_text e
of_cert cert.Memory = Memory

-- a complex and what a certificate states of it, or the first fault
abbrev pub Reading : Type 0
Reading = Result (ComplexView × Statement) Fault

-- what is stated of this complex
abbrev pub stated : ComplexView → Result Statement CertFault → Reading
stated k (Ok c) = Ok (k, c)
stated k (Err e) = Err (of_cert e)

-- the certificate stands behind the complex, and goes on to the end
abbrev pub behind : List ℕ → ComplexReading → Reading
behind bytes (Ok x) = stated x.0 (certificate_at bytes x.1)
behind bytes (Err e) = Err (of_text e)

-- The complex and the statement that the bytes tell `replay`, or their first fault.
abbrev pub input_of : List ℕ → Reading
input_of bytes = behind bytes (complex_at bytes 0)

-- what a function returned is this reading, unless memory ran out
abbrev pub Gives : Result (ComplexView × Certificate) Fault → Reading → Type 0
Gives (Ok x) read = read ≡ Ok (x.0, statement x.1)
Gives (Err e) read = Fails e read
