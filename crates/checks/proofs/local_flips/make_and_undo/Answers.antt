use Rattle.complex_core.specs.Complexes.{ComplexView}
use Rattle.flip_rules.specs.Flips.{flipped}
use Rattle.stars.proofs.Undoing.{CanUndo, can_undo}
use Rattle.checks.proofs.local_flips.make_and_undo.Goals as goal

can : (c : goal.After-undo_here-arg-1) → CanUndo (flipped c.requires.stars.0 c.args.flip.now.a c.args.flip.now.b) c.flip_here.new.near c.args.flip.now
can c =
    let k : ComplexView = c.requires.stars.0 in
    can_undo k c.args.near.now c.flip_here.new.near c.args.flip.now c.requires.stars.1 c.requires.held c.flip_here.ensures.faces (c.in_default.ensures.legal k c.requires.stars.1) c.in_default.ensures.ok (c.in_default.ensures.stars k c.requires.stars.1) c.flip_here.ensures.rooms c.know_rooms.ensures

pub undo_here-requires-clause-stars : goal.undo_here-requires-clause-stars
undo_here-requires-clause-stars c = (_, (can c).stars, (can c).legal)

pub undo_here-requires-clause-held : goal.undo_here-requires-clause-held
undo_here-requires-clause-held c = (can c).held

pub undo_here-requires-clause-room : goal.undo_here-requires-clause-room
undo_here-requires-clause-room c = (can c).room
