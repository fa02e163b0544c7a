-- What is read, or the first fault.
use Rattle.std.specs.Prelude.{◌≡◌, ◌++◌, ℕ, zero, suc, List, [], ◌∷◌, Result, Ok, Err}
use Rattle.facet_text.specs.Lines.{Item, items}
use Rattle.line_text.specs.declared.fault.LineFault.{LineFault}
use Rattle.line_text.specs.declared.fault.LineFault.TheVariants as line
use Rattle.cert_text.specs.declared.fault.CertFault.{CertFault}
use Rattle.cert_text.specs.declared.fault.CertFault.TheVariants as fault

-- what is read, and the items after it
abbrev pub Reading : Type 0 → Type 0
Reading X = Result (X × List Item) CertFault

-- one part after another
infixl 10 ◌>>=◌
unfoldable pub ◌>>=◌ : {A B : Type 0} → Result A CertFault → (A → Result B CertFault) → Result B CertFault
(Ok x) >>= f = f x
(Err e) >>= f = Err e

abbrev pub cert_fault : LineFault → CertFault
cert_fault (line.Syntax offset) = fault.Syntax offset
cert_fault (line.Label offset) = fault.Label offset

-- what is read of a line
unfoldable pub of_line : {X : Type 0} → Result X LineFault → Result X CertFault
of_line (Ok x) = Ok x
of_line (Err e) = Err (cert_fault e)

-- So many of a kind, one after another. Those before come first, and what may come next may depend on them.
unfoldable pub so_many : {X : Type 0} → (List X → List Item → Reading X) → ℕ → List X → List Item → Reading (List X)
so_many one zero xs is = Ok (xs, is)
so_many one (suc n) xs is = one xs is >>= λ x. so_many one n (xs ++ x.0 ∷ []) x.1

-- What a function returned is this reading, unless memory ran out.
abbrev pub Fails : {X : Type 0} → CertFault → Result X CertFault → Type 0
Fails fault.Memory read = Unit {0}
Fails e read = read ≡ Err e

abbrev pub Gives : {X Y : Type 0} → (X → Y) → Result X CertFault → Result Y CertFault → Type 0
Gives view (Ok x) read = read ≡ Ok (view x)
Gives view (Err e) read = Fails e read

-- The same of a part, with the offset after it.
abbrev pub Reads : {X Y : Type 0} → List ℕ → (X → Y) → Result (X × ℕ) CertFault → Reading Y → Type 0
Reads bytes view (Ok x) read = read ≡ Ok (view x.0, items bytes x.1)
Reads bytes view (Err e) read = Fails e read

-- The same of a part of which only the offset after it is answered.
abbrev pub Passes : List ℕ → Result ℕ CertFault → Result (List Item) CertFault → Type 0
Passes bytes (Ok offset) read = read ≡ Ok (items bytes offset)
Passes bytes (Err e) read = Fails e read
