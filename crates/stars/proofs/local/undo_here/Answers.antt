use Rattle.std.proofs.Common.{◌∙◌, ap}
use Rattle.complex_core.specs.Labels.{holds}
use Rattle.flip_rules.proofs.Legal.{can_put}
use Rattle.stars.specs.StarViews.{shown, vertices}
use Rattle.stars.proofs.Flipping.{union_fits, labels_held, room_of_counts}
use Rattle.stars.proofs.local.undo_here.Goals as goal

pub unreachable-requires : goal.unreachable-requires
unreachable-requires c = c.in_default.ensures (union_fits c.requires.stars.0.dim c.args.flip.now.b c.args.flip.now.a (can_put c.requires.stars.0 c.args.flip.now.b c.args.flip.now.a c.requires.stars.1.complex c.len-second.ensures.face c.len-first.ensures.face c.requires.stars.2))

pub change_by-requires-clause-stars : goal.change_by-requires-clause-stars
change_by-requires-clause-stars c = (c.requires.stars.0, c.requires.stars.1, c.requires.stars.2, can_put c.requires.stars.0 c.args.flip.now.b c.args.flip.now.a c.requires.stars.1.complex c.len-second.ensures.face c.len-first.ensures.face c.requires.stars.2)

pub change_by-requires-clause-held : goal.change_by-requires-clause-held
change_by-requires-clause-held c = ap (holds (vertices (shown c.args.near.now))) c.in-Some.ensures.1 ∙ labels_held (vertices (shown c.args.near.now)) c.args.flip.now.b c.args.flip.now.a c.requires.held.second c.requires.held.first

pub change_by-requires-clause-room : goal.change_by-requires-clause-room
change_by-requires-clause-room c = room_of_counts c.requires.stars.0 c.args.near.now c.args.flip.now.b c.args.flip.now.a c.in-Some.labels c.requires.stars.1 c.requires.stars.2 c.in-Some.ensures.1 c.requires.room
