use mathlib.Core.Option.{some}
use Rattle.board_rule.specs.declared.data.Slot.TheVariants.{Out}
use Rattle.held_stars.proofs.Claims.{put_here}
use Rattle.held_stars.proofs.lending.swap_star.Goals as goal

pub put_star-requires-clause-out : goal.put_star-requires-clause-out
put_star-requires-clause-out c = put_here c.args.pass.now c.take_star.new.self c.args.place (some Out) c.take_star.ensures.slots
