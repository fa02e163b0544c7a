use Rattle.std.proofs.Common.{rules}
use Rattle.complex_core.specs.MapFaults.{IsFirstTwice}
use Rattle.cert_text.proofs.PairLaws.{never_twice}
use Rattle.cert_text.proofs.part.map_of.Goals as goal

pub unreachable-requires : goal.unreachable-requires
unreachable-requires c =
    let twice : IsFirstTwice c.args.pairs.now c.in-Err-Twice.field-0-0 = search rules in
    never_twice c.args.pairs.now c.in-Err-Twice.field-0-0 c.requires.differ twice
