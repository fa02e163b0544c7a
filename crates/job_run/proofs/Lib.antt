mod Jobs
mod Judged
mod Answering
mod Known
