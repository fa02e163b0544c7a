-- What an answer of `equiv` tells.
use Rattle.std.specs.Prelude.{◌≡◌, ℕ, List}
use Rattle.std.specs.declared.option.Option.{Option}
use Rattle.anneal_plan.specs.Numbers.{Numbers}
use Rattle.job_answer.specs.Meanings.{Answers}
use Rattle.job_answer.specs.Statuses.{EndsSearch}
use Rattle.job_answer.specs.declared.status.Status.{Status}
use Rattle.job_answer.specs.declared.status.Status.TheVariants.{Yes, No}
use Rattle.job_equiv.specs.Answers.{Reports, meaning, TellsDifference, TellsOneList, TellsSearches}

-- at No the text tells a difference
abbrev pub NoIsSound : Type 0
NoIsSound = (plan : Numbers) (bytes : List ℕ) (status : Status) (text : List ℕ) (found : Option Reports) → Answers (meaning plan) bytes status text found → status ≡ No → TellsDifference bytes text

-- at Yes it is a certificate of one list
abbrev pub YesIsOneList : Type 0
YesIsOneList = (plan : Numbers) (bytes : List ℕ) (status : Status) (text : List ℕ) (found : Option Reports) → Answers (meaning plan) bytes status text found → status ≡ Yes → TellsOneList bytes text plan found

-- at Yes and Undecided both searches are reported
abbrev pub VerdictTellsSearches : Type 0
VerdictTellsSearches = (plan : Numbers) (bytes : List ℕ) (status : Status) (text : List ℕ) (found : Option Reports) → Answers (meaning plan) bytes status text found → EndsSearch status → TellsSearches bytes plan found
