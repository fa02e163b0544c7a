-- Bytes are read in one way.
use Rattle.std.proofs.Common.{◌≡◌, ℕ, List, inl, inr, Result, Ok, Err, sym, ◌∙◌, ap}
use Rattle.complex_core.specs.Complexes.{ComplexView}
use Rattle.job_answer.specs.Alone.{Two, complexes_of}
use Rattle.job_answer.specs.declared.fault.Fault.{Fault}
use Rattle.job_answer.specs.declared.fault.Fault.TheVariants.{Unfit}
use Rattle.job_pairs.specs.Readings.{IsFirstUnfit, Pair, TellsUnfit, reads, reads_fit}

module _ (Fit : ComplexView → Type 0) where
  one_unfit : (read : Pair) (i j : ℕ) → IsFirstUnfit Fit read i → IsFirstUnfit Fit read j → i ≡ j
  one_unfit read i j (inl a) (inl b) = a.0 ∙ sym b.0
  one_unfit read i j (inl a) (inr b) = absurd (a.1 b.1)
  one_unfit read i j (inr a) (inl b) = absurd (b.1 a.1)
  one_unfit read i j (inr a) (inr b) = a.0 ∙ sym b.0

  fit_none : (read : Pair) (i : ℕ) → Fit read.0 → Fit read.1 → IsFirstUnfit Fit read i → ⊥
  fit_none read i f g (inl a) = a.1 f
  fit_none read i f g (inr a) = a.2 g

  one_fault : (read : Pair) (e f : Fault) → TellsUnfit Fit read e → TellsUnfit Fit read f → e ≡ f
  one_fault read e f a b = a.says ∙ ap Unfit (one_unfit read a.which b.which a.unfit b.unfit) ∙ sym b.says

  one_of : (read : Two) (r q : Result Pair Fault) → reads_fit Fit read r → reads_fit Fit read q → r ≡ q
  one_of (Ok read) (Ok x) (Ok y) a b = ap Ok (sym a.same ∙ b.same)
  one_of (Ok read) (Ok x) (Err f) a b = absurd (fit_none read b.which a.first a.second b.unfit)
  one_of (Ok read) (Err e) (Ok y) a b = absurd (fit_none read a.which b.first b.second a.unfit)
  one_of (Ok read) (Err e) (Err f) a b = ap Err (one_fault read e f a b)
  one_of (Err e) r q a b = sym a ∙ b

pub reading_is_one : (Fit : ComplexView → Type 0) (bytes : List ℕ) (r q : Result Pair Fault) → reads Fit bytes r → reads Fit bytes q → r ≡ q
reading_is_one Fit bytes = one_of Fit (complexes_of bytes)
