use Rattle.std.proofs.Common.{◌≡◌, ◌≤◌, Ok, ◌∙◌, ap, sym, subst, length, arith}
use Rattle.std.proofs.lemmas.List.{length-map}
use Rattle.complex_core.specs.Labels.{holds, union, without}
use Rattle.flip_rules.specs.Flips.{broken_rule, join_boundary}
use Rattle.stars.specs.StarViews.{AreStarsOf, shown, vertices}
use Rattle.complex_core.specs.Complexes.{ComplexView}
use Rattle.stars.specs.Changes.{HasSpare}
use Rattle.stars.specs.FlipsHere.{stars_flipped}
use Rattle.stars.proofs.Flipping.{union_fits, labels_held, room_of_spare, stars_of_last}
use Rattle.stars.proofs.local.flip_here.Goals as goal

pub unreachable-requires : goal.unreachable-requires
unreachable-requires c = c.in_default-union.ensures (union_fits c.requires.stars.0.dim c.args.flip.now.a c.args.flip.now.b (c.in_default.ensures.facets c.requires.stars.0 c.requires.stars.1))

pub make_room-requires-clause-held : goal.make_room-requires-clause-held
make_room-requires-clause-held c = ap (holds (vertices (shown c.args.near.now))) (c.deref.ensures ∙ c.labels.ensures.labels ∙ c.in-Some.ensures.1) ∙ labels_held (vertices (shown c.args.near.now)) c.args.flip.now.a c.args.flip.now.b c.requires.held.first c.requires.held.second

pub change_by-requires-clause-stars : goal.change_by-requires-clause-stars
change_by-requires-clause-stars c =
    let k : ComplexView = c.requires.stars.0 in
    (k, subst (AreStarsOf k) (sym c.make_room.ensures.stars) c.requires.stars.1, sym (c.in_default.ensures.broken_rule k c.requires.stars.1), c.in_default.ensures.facets k c.requires.stars.1)

pub change_by-requires-clause-held : goal.change_by-requires-clause-held
change_by-requires-clause-held c = ap (λ ss. holds (vertices ss) c.in-Some.labels) c.make_room.ensures.stars ∙ ap (holds (vertices (shown c.args.near.now))) c.in-Some.ensures.1 ∙ labels_held (vertices (shown c.args.near.now)) c.args.flip.now.a c.args.flip.now.b c.requires.held.first c.requires.held.second

pub change_by-requires-clause-room : goal.change_by-requires-clause-room
change_by-requires-clause-room c =
    let more : length (join_boundary c.args.flip.now.b c.args.flip.now.a) ≤ c.len.result = omega (arith, c.len.ensures, length-map c.args.flip.now.a (λ x. union c.args.flip.now.b (without c.args.flip.now.a x))) in
    room_of_spare c.make_room.new.near c.in-Some.labels (join_boundary c.args.flip.now.a c.args.flip.now.b) (join_boundary c.args.flip.now.b c.args.flip.now.a) c.len.result more (subst (λ ls. HasSpare c.make_room.new.near ls c.len.result) (c.deref.ensures ∙ c.labels.ensures.labels) c.in-Ok.ensures.enough)

pub returns-in-Ok-clause-stars : goal.returns-in-Ok-clause-stars
returns-in-Ok-clause-stars c = λ k h.
    let ok : broken_rule k c.args.flip.now.a c.args.flip.now.b ≡ Ok tt = sym (c.in_default.ensures.broken_rule k h) in
    let last : shown c.change_by.new.near ≡ stars_flipped (shown c.args.near.now) c.args.flip.now.a c.args.flip.now.b = c.change_by.ensures.stars ∙ ap (λ ss. stars_flipped ss c.args.flip.now.a c.args.flip.now.b) c.make_room.ensures.stars in
    stars_of_last k (shown c.args.near.now) (shown c.change_by.new.near) c.args.flip.now last c.local_check.ensures.faces ok h
