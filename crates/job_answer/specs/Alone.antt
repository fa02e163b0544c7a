-- The complex that the bytes of an input tell alone, or the two, or their first fault.
use Rattle.std.specs.Prelude.{◌≡◌, ℕ, List, [], ◌∷◌, Result, Ok, Err}
use Rattle.complex_core.specs.Complexes.{ComplexView}
use Rattle.facet_text.specs.Grammar.{complex_at, Reading as ComplexReading}
use Rattle.facet_text.specs.Tokens.{Spot, tokens}
use Rattle.job_answer.specs.Faults.{of_text, Fails}
use Rattle.job_answer.specs.declared.fault.Fault.{Fault}
use Rattle.job_answer.specs.declared.fault.Fault.TheVariants.{Syntax}

-- a complex, or the first fault
abbrev pub Alone : Type 0
Alone = Result ComplexView Fault

-- only blanks stand behind the complex
abbrev pub ended : ComplexView → List Spot → Alone
ended k [] = Ok k
ended k ((kind, text, at) ∷ ts) = Err (Syntax at)

abbrev pub alone : List ℕ → ComplexReading → Alone
alone bytes (Ok x) = ended x.0 (tokens bytes x.1)
alone bytes (Err e) = Err (of_text e)

-- The complex that the bytes tell, behind which only blanks stand, or their first fault.
abbrev pub complex_of : List ℕ → Alone
complex_of bytes = alone bytes (complex_at bytes 0)

-- what a function returned is this reading, unless memory ran out
abbrev pub GivesComplex : Result ComplexView Fault → Alone → Type 0
GivesComplex (Ok k) read = read ≡ Ok k
GivesComplex (Err e) read = Fails e read

-- ---- two complexes, one behind the other

-- two complexes, or the first fault
abbrev pub Two : Type 0
Two = Result (ComplexView × ComplexView) Fault

-- and this one behind it
abbrev pub behind : ComplexView → Alone → Two
behind first (Ok second) = Ok (first, second)
behind first (Err e) = Err e

abbrev pub two : List ℕ → ComplexReading → Two
two bytes (Ok x) = behind x.0 (alone bytes (complex_at bytes x.1))
two bytes (Err e) = Err (of_text e)

-- The complexes that the bytes tell, one behind the other and only blanks behind them, or their first fault.
abbrev pub complexes_of : List ℕ → Two
complexes_of bytes = two bytes (complex_at bytes 0)

-- what a function returned is this reading, unless memory ran out
abbrev pub GivesTwo : Result (ComplexView × ComplexView) Fault → Two → Type 0
GivesTwo (Ok ks) read = read ≡ Ok ks
GivesTwo (Err e) read = Fails e read
