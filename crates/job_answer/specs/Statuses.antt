-- How jobs end, and which ends are verdicts.
use Rattle.std.specs.Prelude.{◌≡◌, ◌⊎◌, ℕ}
use Rattle.job_answer.specs.declared.status.Status.{Status}
use Rattle.job_answer.specs.declared.status.Status.TheVariants.{Yes, No, Undecided, Usage, BadInput, ReadFault, WriteFault, NoMemory}

-- Yes or No
abbrev pub IsDecided : Status → Type 0
IsDecided status = (status ≡ Yes) ⊎ (status ≡ No)

-- Yes, No or Undecided
abbrev pub HasVerdict : Status → Type 0
HasVerdict status = IsDecided status ⊎ (status ≡ Undecided)

-- Yes or Undecided
abbrev pub EndsSearch : Status → Type 0
EndsSearch status = (status ≡ Yes) ⊎ (status ≡ Undecided)

-- the number that the program ends with
abbrev pub status_number : Status → ℕ
status_number Yes = 0
status_number No = 1
status_number Undecided = 2
status_number Usage = 3
status_number BadInput = 4
status_number ReadFault = 5
status_number WriteFault = 6
status_number NoMemory = 7
