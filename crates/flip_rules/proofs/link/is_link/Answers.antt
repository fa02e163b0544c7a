use Rattle.std.proofs.Common.{◌∙◌, sym, refl, true, false}
use Rattle.flip_rules.proofs.Links.{link_by_tests, are_sides}
use Rattle.flip_rules.proofs.link.is_link.Goals as goal

pub returns-then-have_sides : goal.returns-then-have_sides
returns-then-have_sides c =
    sym (link_by_tests c.args.facets.now c.as_slice.result.now c.as_slice-then-have_sides.result.now c.args.first.now c.args.second.now true c.are_sides.result c.requires.rising
    (c.as_slice.ensures ∙ c.join_boundary-sides.ensures) (c.as_slice-then-have_sides.ensures ∙ c.join_boundary-sides.ensures) (sym c.have_sides.ensures ∙ c.if-have_sides.true) (sym c.are_sides.ensures))

pub returns-else-have_sides : goal.returns-else-have_sides
returns-else-have_sides c =
    c.if-have_sides.false
    ∙ sym (link_by_tests c.args.facets.now c.as_slice.result.now c.as_slice.result.now c.args.first.now c.args.second.now false (are_sides c.args.facets.now c.args.first.now c.as_slice.result.now) c.requires.rising
    (c.as_slice.ensures ∙ c.join_boundary-sides.ensures) (c.as_slice.ensures ∙ c.join_boundary-sides.ensures) (sym c.have_sides.ensures ∙ c.if-have_sides.false) refl)
