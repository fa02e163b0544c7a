use Rattle.std.proofs.Common.{Some, take, sym, ap, ◌∙◌}
use Rattle.complex_core.proofs.Members.{taken_more}
use Rattle.flip_rules.specs.Flips.{replay}
use Rattle.flip_rules.proofs.Replays.{replay_then}
use Rattle.checks.proofs.journals.are_legal.Goals as goal

pub loop-flip-preserved : goal.loop-flip-preserved
loop-flip-preserved c =
    ap (replay c.args.complex) (taken_more c.args.flips.now c.loop-flip.flip-index c.flip-item.result c.loop-flip-test.true c.flip-item.is)
    ∙ replay_then c.args.complex c.loop-flip.complex (take c.loop-flip.flip-index c.args.flips.now) c.flip-item.result c.loop-flip.invariant c.in-Ok.ensures.legal
    ∙ ap Some (sym c.in-Ok.ensures.ok)
