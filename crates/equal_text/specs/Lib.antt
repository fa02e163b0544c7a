-- Certificates of equivalences: their text behind a complex, and the flips that two searches tell.
pub mod Texts
pub mod Lists
