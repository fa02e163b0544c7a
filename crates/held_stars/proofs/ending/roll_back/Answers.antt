use Rattle.std.proofs.Common.{◌∙◌, sym, ap, subst, rules}
use Rattle.stars.specs.StarViews.{shown, rooms, counts, EachAtMost, HasLabels}
use Rattle.stars.specs.FlipsHere.{stars_flipped}
use Rattle.held_stars.proofs.MadeFlips.{Before, before, near_stars, flip_undone, settled}
use Rattle.held_stars.proofs.ending.roll_back.Goals as goal

pub undo_here-requires-clause-stars : goal.undo_here-requires-clause-stars
undo_here-requires-clause-stars c =
    let r = c.requires.restorable in
    let m = c.loop-flip.invariant.0 r.0 r.1 in
    (m.0, near_stars r.0 _ _ _ m.0 m.1 c.deref_mut.ensures.value, (before r.0 _ c.pop.new.self.items c.in-Some.flip _ m.0 m.1 c.in-Some.ensures.items).legal)

pub undo_here-requires-clause-held : goal.undo_here-requires-clause-held
undo_here-requires-clause-held c =
    let r = c.requires.restorable in
    let m = c.loop-flip.invariant.0 r.0 r.1 in
    subst (λ l. HasLabels (shown l) c.in-Some.flip) (sym c.deref_mut.ensures.value) (before r.0 _ c.pop.new.self.items c.in-Some.flip _ m.0 m.1 c.in-Some.ensures.items).labels

pub undo_here-requires-clause-room : goal.undo_here-requires-clause-room
undo_here-requires-clause-room c =
    let r = c.requires.restorable in
    let m = c.loop-flip.invariant.0 r.0 r.1 in
    subst (λ l. EachAtMost (counts (stars_flipped (shown l) c.in-Some.flip.b c.in-Some.flip.a)) (rooms l)) (sym c.deref_mut.ensures.value) (before r.0 _ c.pop.new.self.items c.in-Some.flip _ m.0 m.1 c.in-Some.ensures.items).room

pub loop-flip-preserved : goal.loop-flip-preserved
loop-flip-preserved c = (
  (λ pass r.
      let m = c.loop-flip.invariant.0 pass r in
      flip_undone pass _ c.pop.new.self.items c.in-Some.flip _ _ c.undo_here.new.near _ m.0 m.1 c.in-Some.ensures.items c.deref_mut.ensures.value c.undo_here.ensures.stars c.undo_here.ensures.rooms c.loop-flip.hold.lent.ok.0),
  c.pop.ensures.capacity ∙ c.loop-flip.invariant.1,
  c.loop-flip.invariant.2,
)

pub returns-clause-settles : goal.returns-clause-settles
returns-clause-settles c = λ pass r. let m = c.loop-flip.invariant.0 pass r in settled pass _ _ m.0 m.1 (search rules)
