-- Traces, and how bytes tell one.
pub mod Traces
pub mod Grammar
pub mod Outcomes
