-- The text of a complex and of a certificate that it is a sphere.
pub mod Texts
pub mod Statements
