-- What a job means: which bytes are its inputs, and what it answers to them.
use Rattle.std.specs.Prelude.{◌≡◌, ◌⊎◌, ◌≤◌, ◌<◌, ℕ, List, length, Result, Ok, Err}
use Rattle.job_answer.specs.Faults.{Refuses}
use Rattle.job_answer.specs.Statuses.{HasVerdict}
use Rattle.job_answer.specs.declared.fault.Fault.{Fault}
use Rattle.job_answer.specs.declared.fault.Fault.TheVariants.{TooLong}
use Rattle.job_answer.specs.declared.status.Status.{Status}

-- A job; F is what it reports beside its text
pub record Meaning (F : Type 0) : Type 1 where
  -- the most bytes of an input
  pub limit : ℕ
  -- what the bytes tell, or why they are no input: one of these
  pub Input : Type 0
  pub reads : List ℕ → Result Input Fault → Type 0
  -- the status, the text and the report that answer this input
  pub answers : Input → Status → List ℕ → F → Type 0
  -- what is reported where nothing is found
  pub nothing : F
  -- the statuses that are verdicts of the job, and what it reports with each
  pub may_end : Status → Type 0
  pub fits : Status → F → Type 0
  -- an input has one answer
  pub is_fixed : Type 0
  -- what a verdict on these bytes shows: the journal that is reported is one legal history, and a Yes is what its replay shows
  pub headline : List ℕ → Status → List ℕ → F → Type 0

-- the reading of the bytes is this one
abbrev pub by : {X : Type 0} → (List ℕ → Result X Fault) → List ℕ → Result X Fault → Type 0
by read bytes r = read bytes ≡ r

-- ---- the answer to bytes

-- more bytes than an input may have
pub record IsTooLong {F : Type 0} (m : Meaning F) (bytes : List ℕ) (status : Status) (text : List ℕ) (found : F) : Type 0 where
  pub long : m.limit < length bytes
  pub refused : Refuses TooLong status text
  pub reports : found ≡ m.nothing

-- no input, for its first fault
pub record IsNoInput {F : Type 0} (m : Meaning F) (bytes : List ℕ) (status : Status) (text : List ℕ) (found : F) : Type 0 where
  pub first : Fault
  pub has : m.reads bytes (Err first)
  pub refused : Refuses first status text
  pub reports : found ≡ m.nothing

-- an input, which this answers
pub record IsDone {F : Type 0} (m : Meaning F) (bytes : List ℕ) (status : Status) (text : List ℕ) (found : F) : Type 0 where
  pub told : m.Input
  pub input : m.reads bytes (Ok told)
  pub answer : m.answers told status text found

-- what bytes of a length within the limit are answered
abbrev pub Judges : {F : Type 0} → Meaning F → List ℕ → Status → List ℕ → F → Type 0
Judges m bytes status text found = IsNoInput m bytes status text found ⊎ IsDone m bytes status text found

pub record IsRead {F : Type 0} (m : Meaning F) (bytes : List ℕ) (status : Status) (text : List ℕ) (found : F) : Type 0 where
  pub short : length bytes ≤ m.limit
  pub judged : Judges m bytes status text found

-- The answer of a job to bytes.
abbrev pub Answers : {F : Type 0} → Meaning F → List ℕ → Status → List ℕ → F → Type 0
Answers m bytes status text found = IsTooLong m bytes status text found ⊎ IsRead m bytes status text found

-- the bytes are an input of the job
pub record IsInput {F : Type 0} (m : Meaning F) (bytes : List ℕ) : Type 0 where
  pub short : length bytes ≤ m.limit
  pub told : m.Input
  pub input : m.reads bytes (Ok told)

-- ---- what holds of every job

-- the same status, the same text, and the same report
pub record Same {F : Type 0} (s t : Status) (xs ys : List ℕ) (p q : F) : Type 0 where
  pub statuses : s ≡ t
  pub texts : xs ≡ ys
  pub reports : p ≡ q

-- bytes are read in one way; its ends are verdicts; each of its answers is one of them, with a report that fits, and has the headline; and where an input
-- has one answer there is one
pub record Lawful {F : Type 0} (m : Meaning F) : Type 0 where
  pub reads : (bytes : List ℕ) (r q : Result m.Input Fault) → m.reads bytes r → m.reads bytes q → r ≡ q
  pub verdict : (s : Status) → m.may_end s → HasVerdict s
  pub ends : (x : m.Input) (s : Status) (text : List ℕ) (p : F) → m.answers x s text p → m.may_end s
  pub fits : (x : m.Input) (s : Status) (text : List ℕ) (p : F) → m.answers x s text p → m.fits s p
  pub headline : (bytes : List ℕ) (s : Status) (text : List ℕ) (p : F) → length bytes ≤ m.limit → IsDone m bytes s text p → m.headline bytes s text p
  pub one : m.is_fixed → (x : m.Input) (s t : Status) (xs ys : List ℕ) (p q : F) → m.answers x s xs p → m.answers x t ys q → Same s t xs ys p q

-- ---- a job under the reports of all jobs

-- a report of the job, of which P holds, seen as a report of any job
pub record Reported {F G : Type 0} (into : F → G) (P : F → Type 0) (found : G) : Type 0 where
  pub report : F
  pub reports : found ≡ into report
  pub holds : P report

abbrev pub reported_as : {F G : Type 0} → (F → G) → Meaning F → Meaning G
reported_as into m = record {
  limit = m.limit;
  Input = m.Input;
  reads = m.reads;
  answers = λ x status text. Reported into (m.answers x status text);
  nothing = into m.nothing;
  may_end = m.may_end;
  fits = λ status. Reported into (m.fits status);
  is_fixed = m.is_fixed;
  headline = λ bytes status text. Reported into (m.headline bytes status text);
}
