use Rattle.std.proofs.Common.{◌∙◌, sym, refl, true, false}
use Rattle.flip_rules.proofs.Links.{link_by_tests, held_by_tests, fault_told, are_sides}
use Rattle.flip_rules.proofs.flip.check_link.Goals as goal

pub returns-then-are_sides : goal.returns-then-are_sides
returns-then-are_sides c =
    fault_told c.args.near_a.now c.args.first.now c.args.second.now true true
    (held_by_tests c.args.near_a.now c.as_slice.result.now c.args.first.now c.args.second.now c.requires.some (c.as_slice.ensures ∙ c.join_boundary-sides.ensures) (sym c.have_sides.ensures ∙ c.if-have_sides.true))
    (link_by_tests c.args.near_a.now c.as_slice.result.now c.as_slice-then-have_sides.result.now c.args.first.now c.args.second.now true true c.requires.rising
    (c.as_slice.ensures ∙ c.join_boundary-sides.ensures) (c.as_slice-then-have_sides.ensures ∙ c.join_boundary-sides.ensures) (sym c.have_sides.ensures ∙ c.if-have_sides.true) (sym c.are_sides.ensures ∙ c.if-are_sides.true))

pub returns-else-are_sides : goal.returns-else-are_sides
returns-else-are_sides c =
    fault_told c.args.near_a.now c.args.first.now c.args.second.now true false
    (held_by_tests c.args.near_a.now c.as_slice.result.now c.args.first.now c.args.second.now c.requires.some (c.as_slice.ensures ∙ c.join_boundary-sides.ensures) (sym c.have_sides.ensures ∙ c.if-have_sides.true))
    (link_by_tests c.args.near_a.now c.as_slice.result.now c.as_slice-then-have_sides.result.now c.args.first.now c.args.second.now true false c.requires.rising
    (c.as_slice.ensures ∙ c.join_boundary-sides.ensures) (c.as_slice-then-have_sides.ensures ∙ c.join_boundary-sides.ensures) (sym c.have_sides.ensures ∙ c.if-have_sides.true) (sym c.are_sides.ensures ∙ c.if-are_sides.false))

pub returns-then-is_held : goal.returns-then-is_held
returns-then-is_held c =
    fault_told c.args.near_a.now c.args.first.now c.args.second.now true false
    (sym c.is_held.ensures ∙ c.if-is_held.true)
    (link_by_tests c.args.near_a.now c.as_slice.result.now c.as_slice.result.now c.args.first.now c.args.second.now false (are_sides c.args.near_a.now c.args.first.now c.as_slice.result.now) c.requires.rising
    (c.as_slice.ensures ∙ c.join_boundary-sides.ensures) (c.as_slice.ensures ∙ c.join_boundary-sides.ensures) (sym c.have_sides.ensures ∙ c.if-have_sides.false) refl)
