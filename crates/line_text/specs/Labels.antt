-- Which labels a text may use.
use Rattle.std.specs.Prelude.{ℕ, Bool, ◌&&◌, nat_le}
use Rattle.complex_core.specs.Maps.{takes}
use Rattle.facet_text.specs.Tokens.{between}
use Rattle.line_text.specs.declared.label.Labels.{Labels}
use Rattle.line_text.specs.declared.label.Labels.TheVariants.{UpTo, Of}

abbrev pub among : Labels → ℕ → Bool
among (UpTo most) n = nat_le n most
among (Of map) n = takes map.now n

-- a label is from 1 to 65,535, and one of these
unfoldable pub allows : Labels → ℕ → Bool
allows labels n = between 1 65535 n && among labels n
