use Rattle.held_stars.proofs.MadeFlips.{near_stars, flip_made, none_made}
use Rattle.held_stars.proofs.flipping.make_flip.Goals as goal

pub flip_here-requires-clause-stars : goal.flip_here-requires-clause-stars
flip_here-requires-clause-stars c = let r = c.requires.made in (r.1, near_stars r.0 _ _ _ r.1 r.2 c.deref_mut.ensures.value)

pub returns-in-Ok-clause-legal : goal.returns-in-Ok-clause-legal
returns-in-Ok-clause-legal c = λ pass now m. c.in-Ok.ensures.legal now (near_stars pass _ _ _ now m c.deref_mut.ensures.value)

pub returns-in-Ok-clause-made : goal.returns-in-Ok-clause-made
returns-in-Ok-clause-made c = λ pass now m.
    let e = c.in-Ok.ensures in
    let are = near_stars pass _ _ _ now m c.deref_mut.ensures.value in
    flip_made pass c.args.hold.now.flips.items _ c.args.hold.now.lent.items _ c.flip_here.new.near _ _ now c.args.flip.now m c.requires.labels e.faces (e.legal now are) c.deref_mut.ensures.value e.ok (e.stars now are) e.rooms c.args.hold.now.lent.ok.0 c.know_rooms.ensures c.deref.ensures.value c.push_reserved.ensures.items

pub returns-in-Ok-clause-told : goal.returns-in-Ok-clause-told
returns-in-Ok-clause-told c = λ pass now e m broken. c.in-Ok.ensures.told now e (near_stars pass _ _ _ now m c.deref_mut.ensures.value) broken

pub returns-in-Err-clause-broken_rule : goal.returns-in-Err-clause-broken_rule
returns-in-Err-clause-broken_rule c = λ pass now m. c.in-Err.ensures.broken_rule now (near_stars pass _ _ _ now m c.deref_mut.ensures.value)

pub returns-in-Err-clause-told : goal.returns-in-Err-clause-told
returns-in-Err-clause-told c = λ pass now e m broken. c.in-Err.ensures.told now e (near_stars pass _ _ _ now m c.deref_mut.ensures.value) broken

pub returns-in-Err-clause-restorable : goal.returns-in-Err-clause-restorable
returns-in-Err-clause-restorable c = λ pass now m. (now, none_made pass _ c.args.hold.now.lent.items _ c.flip_here.new.near _ now m c.deref_mut.ensures.value c.in-Err.ensures.err c.in-Err.ensures.rooms c.args.hold.now.lent.ok.0)
