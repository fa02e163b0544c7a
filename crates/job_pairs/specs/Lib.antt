-- Two complexes of an input that are fit for a job.
pub mod Readings
