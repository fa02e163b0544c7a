-- What an answer of `manifold` tells.
use Rattle.std.specs.Prelude.{◌≡◌, ◌↔◌, ℕ, List}
use Rattle.std.specs.declared.option.Option.{Option}
use Rattle.anneal_plan.specs.Numbers.{Numbers}
use Rattle.job_answer.specs.Meanings.{Answers}
use Rattle.job_answer.specs.declared.status.Status.{Status}
use Rattle.job_answer.specs.declared.status.Status.TheVariants.{Yes, No, Undecided}
use Rattle.job_manifold.specs.Answers.{LooksLikeManifold, Records, TellsComplex, TellsFault, TellsManifold, TellsOpen, meaning}

-- at No the text names a ridge that doesn't lie in two facets, or a face whose link is no sphere
abbrev pub NoIsSound : Type 0
NoIsSound = (plan : Numbers) (bytes : List ℕ) (status : Status) (text : List ℕ) (found : Option Records) → Answers (meaning plan) bytes status text found → status ≡ No → TellsFault bytes text

-- a complex gets a No exactly where it isn't closed or has a bad face
abbrev pub NoIsExact : Type 0
NoIsExact = (plan : Numbers) (bytes : List ℕ) (status : Status) (text : List ℕ) (found : Option Records) → Answers (meaning plan) bytes status text found → (t : TellsComplex bytes) → status ≡ No ↔ (LooksLikeManifold t.complex → ⊥)

-- at Yes it is a certificate
abbrev pub YesIsCertified : Type 0
YesIsCertified = (plan : Numbers) (bytes : List ℕ) (status : Status) (text : List ℕ) (found : Option Records) → Answers (meaning plan) bytes status text found → status ≡ Yes → TellsManifold bytes text

-- at Undecided the searches of the links that stay open are reported
abbrev pub UndecidedTellsSearches : Type 0
UndecidedTellsSearches = (plan : Numbers) (bytes : List ℕ) (status : Status) (text : List ℕ) (found : Option Records) → Answers (meaning plan) bytes status text found → status ≡ Undecided → TellsOpen bytes text plan found
