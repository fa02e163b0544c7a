-- What the job `trace` answers.
pub mod TraceTexts
pub mod Traced
pub mod TraceRuns
pub mod Readings
pub mod Answers
pub mod Laws
