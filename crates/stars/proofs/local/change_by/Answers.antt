use Rattle.std.proofs.Common.{◌∙◌, sym, ap}
use Rattle.stars.specs.StarViews.{shown, vertices}
use Rattle.complex_core.specs.Labels.{holds}
use Rattle.complex_core.proofs.Faces.{face_same}
use Rattle.stars.proofs.Flipping.{can_change, change_within, made_flipped}
use Rattle.stars.proofs.local.change_by.Goals as goal

pub change_stars-requires-clause-can : goal.change_stars-requires-clause-can
change_stars-requires-clause-can c = can_change c.requires.stars.0 (shown c.args.near.now) c.args.a.now c.args.b.now c.deref.result.now c.as_slice-2.result.now c.requires.stars.1 (ap (holds (vertices (shown c.args.near.now))) (c.deref.ensures ∙ c.labels.ensures.labels) ∙ c.requires.held) c.requires.stars.3 (face_same c.args.labels.now c.deref.result.now (sym (c.deref.ensures ∙ c.labels.ensures.labels)) c.labels.ensures.face) (c.as_slice-2.ensures ∙ c.join_boundary-more.ensures)

pub change_stars-requires-clause-within : goal.change_stars-requires-clause-within
change_stars-requires-clause-within c = change_within c.args.a.now c.args.b.now c.args.labels.now c.as_slice.result.now c.as_slice-2.result.now c.labels.ensures.face c.requires.labels (c.as_slice.ensures ∙ c.join_boundary-out.ensures) (c.as_slice-2.ensures ∙ c.join_boundary-more.ensures)

pub returns-clause-stars : goal.returns-clause-stars
returns-clause-stars c = made_flipped c.requires.stars.0 (shown c.args.near.now) (shown c.change_stars.new.near) c.args.a.now c.args.b.now c.deref.result.now c.as_slice.result.now c.as_slice-2.result.now c.requires.stars.1 c.requires.stars.2 c.change_stars.ensures.stars (c.deref.ensures ∙ c.labels.ensures.labels ∙ c.requires.labels) (c.as_slice.ensures ∙ c.join_boundary-out.ensures) (c.as_slice-2.ensures ∙ c.join_boundary-more.ensures)
