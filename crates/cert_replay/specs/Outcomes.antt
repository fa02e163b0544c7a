-- What a list of flips comes to, before its end is judged.
use Rattle.std.specs.Prelude.{◌≡◌, List, Some}
use Rattle.complex_core.specs.Complexes.{ComplexView}
use Rattle.flip_rules.specs.Flips.{replay}
use Rattle.flip_rules.specs.Certificates.{IsFirstIllegal}
use Rattle.flip_rules.specs.declared.flip.Flip.{Flip}
use Rattle.cert_replay.specs.declared.outcome.Outcome.{Outcome}
use Rattle.cert_replay.specs.declared.outcome.Outcome.TheVariants.{End, Bad}

-- the complex where the flips end, or the first illegal flip, counted from 1, and the rule that it breaks
abbrev pub ComesTo : ComplexView → List Flip → Outcome → Type 0
ComesTo k flips (End end) = replay k flips ≡ Some end
ComesTo k flips (Bad number reason) = IsFirstIllegal k flips number reason
