-- Why an input is refused, and the line that says so.
use Rattle.std.specs.Prelude.{◌≡◌, ℕ, List, [], ◌∷◌, ◌++◌, Result, Err, codes}
use Rattle.std.specs.Fmt.{decimal}
use Rattle.facet_text.specs.declared.fault.TextFault.{TextFault}
use Rattle.facet_text.specs.declared.fault.TextFault.TheVariants as text
use Rattle.job_answer.specs.declared.status.Status.{Status}
use Rattle.job_answer.specs.declared.status.Status.TheVariants.{BadInput}
use Rattle.job_answer.specs.declared.fault.Fault.{Fault}
use Rattle.job_answer.specs.declared.fault.Fault.TheVariants.{TooLong, Syntax, Label, Twice, Size, NotPure, TooManyFacets, TooManyLabels, Count, Number, Unfit, Memory}

-- ---- the line of a fault

-- `bad input`, and these words
abbrev pub bad_line : List ℕ → List ℕ
bad_line words = codes "bad input " ++ (words ++ 10 ∷ [])

-- the same, and a number: an offset, or which complex it is
abbrev pub bad_line_at : List ℕ → ℕ → List ℕ
bad_line_at words number = bad_line (words ++ (32 ∷ decimal number))

-- the line of a fault (no input has the fault `Memory`)
abbrev pub fault_line : Fault → List ℕ
fault_line TooLong = bad_line (codes "too long")
fault_line (Syntax offset) = bad_line_at (codes "syntax") offset
fault_line (Label offset) = bad_line_at (codes "label") offset
fault_line (Twice offset) = bad_line_at (codes "twice") offset
fault_line (Size offset) = bad_line_at (codes "size") offset
fault_line (NotPure offset) = bad_line_at (codes "not pure") offset
fault_line TooManyFacets = bad_line (codes "too many facets")
fault_line TooManyLabels = bad_line (codes "too many labels")
fault_line (Count offset) = bad_line_at (codes "count") offset
fault_line (Number offset) = bad_line_at (codes "number") offset
fault_line (Unfit which) = bad_line_at (codes "unfit") which
fault_line Memory = []

-- ---- the faults of the text of a complex

abbrev pub of_text : TextFault → Fault
of_text (text.Syntax offset) = Syntax offset
of_text (text.Label offset) = Label offset
of_text (text.Twice offset) = Twice offset
of_text (text.Size offset) = Size offset
of_text (text.NotPure offset) = NotPure offset
of_text text.TooManyFacets = TooManyFacets
of_text text.TooManyLabels = TooManyLabels
of_text text.Memory = Memory

-- this fault was read, unless memory ran out
abbrev pub Fails : {X : Type 0} → Fault → Result X Fault → Type 0
Fails Memory read = Unit {0}
Fails e read = read ≡ Err e

-- BadInput, and the line of this fault
pub record Refuses (first : Fault) (status : Status) (text : List ℕ) : Type 0 where
  pub is_bad : status ≡ BadInput
  pub says : text ≡ fault_line first
