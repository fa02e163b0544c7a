use Rattle.std.proofs.Common.{◌<◌, rules}
use Rattle.link_check.proofs.Judged.{first_some, least_bad, none_bad}
use Rattle.link_check.proofs.bad.first_bad.Goals as goal

pub returns-in-Some : goal.returns-in-Some
returns-in-Some c = least_bad c.args.complex.now c.loop-size.size c.in-Some.bad (first_some c.args.complex.now c.loop-size.size _ c.in-Some.bad c.in-Some.is c.in_ok-bad.ensures) c.loop-size.invariant

pub returns : goal.returns
returns c =
    let past : c.args.complex.now.dim < c.loop-size.size = search rules in
    none_bad c.args.complex.now c.loop-size.size past c.loop-size.invariant
