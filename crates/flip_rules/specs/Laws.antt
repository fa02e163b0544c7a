-- The laws of replays.
use Rattle.std.specs.Prelude.{◌≡◌, ℕ, ◌<◌, ◌⊎◌, List, [], ◌∷◌, ◌++◌, length, Some}
use Rattle.std.specs.List.{AllByRecursion}
use Rattle.complex_core.specs.Complexes.{ComplexView, IsComplex, IsFacet}
use Rattle.flip_rules.specs.Flips.{OfFaces, replay}
use Rattle.flip_rules.specs.Certificates.{IsFirstIllegal}
use Rattle.flip_rules.specs.Exchanges.{taken_out, put_in, exchanged_by}
use Rattle.flip_rules.specs.declared.flip.Flip.{Flip}
use Rattle.flip_rules.specs.declared.flip.Illegal.{Illegal}

-- flips that come to an end are followed from there
abbrev pub ReplayGoesOn : Type 0
ReplayGoesOn = (k m : ComplexView) (fs gs : List Flip) → replay k fs ≡ Some m → replay k (fs ++ gs) ≡ replay m gs

-- a replay leads from a complex to a complex, of the same dimension
pub record StaysComplex (k m : ComplexView) : Type 0 where
  pub dim : m.dim ≡ k.dim
  pub complex : IsComplex m

abbrev pub ReplayKeepsComplexes : Type 0
ReplayKeepsComplexes = (k m : ComplexView) (fs : List Flip) → IsComplex k → AllByRecursion OfFaces fs → replay k fs ≡ Some m → StaysComplex k m

-- the inverse flips, last first
abbrev pub inverse_list : List Flip → List Flip
inverse_list [] = []
inverse_list (f ∷ fs) = inverse_list fs ++ record { a = f.b; b = f.a } ∷ []

-- they lead back
abbrev pub ReplaysBack : Type 0
ReplaysBack = (k m : ComplexView) (fs : List Flip) → IsComplex k → AllByRecursion OfFaces fs → replay k fs ≡ Some m → replay m (inverse_list fs) ≡ Some k

-- the flips come to an end, or one of them is the first illegal one
abbrev pub ReplayDecides : Type 0
ReplayDecides = (k : ComplexView) (fs : List Flip) → ((m : ComplexView) × (replay k fs ≡ Some m)) ⊎ ((n : ℕ) × (e : Illegal) × IsFirstIllegal k fs n e)

-- never both
abbrev pub FirstIllegalExcludes : Type 0
FirstIllegalExcludes = (k m : ComplexView) (fs : List Flip) (n : ℕ) (e : Illegal) → IsFirstIllegal k fs n e → replay k fs ≡ Some m → ⊥

-- and there is one first illegal flip at most, with one reason
abbrev pub FirstIllegalIsOne : Type 0
FirstIllegalIsOne = (k : ComplexView) (fs : List Flip) (n o : ℕ) (e f : Illegal) → IsFirstIllegal k fs n e → IsFirstIllegal k fs o f → (n ≡ o) × (e ≡ f)

-- a replay is one exchange of facets
abbrev pub ReplayIsExchange : Type 0
ReplayIsExchange = (k m : ComplexView) (fs : List Flip) → IsComplex k → replay k fs ≡ Some m → m ≡ exchanged_by k (taken_out fs) (put_in fs)

-- what at least one flip puts in can be put in by an exchange
pub record CanExchange (d : ℕ) (more : List (List ℕ)) : Type 0 where
  pub some : 0 < length more
  pub pure : AllByRecursion (IsFacet d) more

abbrev pub PutInIsPure : Type 0
PutInIsPure = (k m : ComplexView) (fs : List Flip) → IsComplex k → AllByRecursion OfFaces fs → replay k fs ≡ Some m → 0 < length fs → CanExchange k.dim (put_in fs)
