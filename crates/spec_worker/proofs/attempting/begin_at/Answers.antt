use Rattle.std.proofs.Common.{ap}
use mathlib.Core.Option.{some}
use Rattle.stars.specs.StarViews.{VertexStar}
use Rattle.board_rule.specs.declared.data.Slot.TheVariants.{Home}
use Rattle.held_stars.proofs.Claims.{put_here}
use Rattle.spec_worker.proofs.BegunTries.{first_star}
use Rattle.spec_worker.proofs.attempting.begin_at.Goals as goal

pub begin-requires-clause-star : goal.begin-requires-clause-star
begin-requires-clause-star c =
    let won = c.in_ok-first_claim.ensures.won in
    (won.0, put_here c.args.pass.now c.first_claim.new.self c.args.place (some (Home won.0)) won.3, ap (λ (s : VertexStar). s.vertex) (first_star c.args.pass.now c.first_claim.new.self c.args.place won.0 won.1 won.2))
