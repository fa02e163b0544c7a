use Rattle.std.proofs.Common.{◌<◌, Ok, Err, ◌∙◌, ap, sym, cond, is_ok, length, vec_capacity, arith}
use Rattle.std.specs.List.{insert}
use Rattle.complex_core.specs.Labels.{face_cmp}
use Rattle.complex_core.proofs.Searching.{Stands, Missing}
use Rattle.complex_core.proofs.Exchanges.{search_face, one_fits}
use Rattle.complex_core.proofs.complex.put_in.Goals as goal

pub unwrap-requires : goal.unwrap-requires
unwrap-requires c =
    let m : Missing face_cmp c.args.sets.now.items c.args.set.now c.in-Err.position = search_face c.deref.result.now c.args.sets.now.items c.args.set.now (Err c.in-Err.position) c.deref.ensures.value c.requires.rising c.in-Err.ensures.bound c.in-Err.ensures.position in
    let fits : length c.args.sets.now.items < vec_capacity c.args.sets.now = one_fits c.args.sets.now.items c.args.set.now c.in-Err.position (vec_capacity c.args.sets.now) m c.requires.room in
    c.insert.ensures.succeeds (omega (arith, fits, c.args.sets.now.ok.0))

pub returns-in-Err-clause-capacity : goal.returns-in-Err-clause-capacity
returns-in-Err-clause-capacity c =
    let m : Missing face_cmp c.args.sets.now.items c.args.set.now c.in-Err.position = search_face c.deref.result.now c.args.sets.now.items c.args.set.now (Err c.in-Err.position) c.deref.ensures.value c.requires.rising c.in-Err.ensures.bound c.in-Err.ensures.position in
    let fits : length c.args.sets.now.items < vec_capacity c.args.sets.now = one_fits c.args.sets.now.items c.args.set.now c.in-Err.position (vec_capacity c.args.sets.now) m c.requires.room in
    (c.insert.ensures.in_place (omega (arith, fits, c.args.sets.now.ok.0))).1.0

pub returns-in-Err-clause-items : goal.returns-in-Err-clause-items
returns-in-Err-clause-items c =
    let m : Missing face_cmp c.args.sets.now.items c.args.set.now c.in-Err.position = search_face c.deref.result.now c.args.sets.now.items c.args.set.now (Err c.in-Err.position) c.deref.ensures.value c.requires.rising c.in-Err.ensures.bound c.in-Err.ensures.position in
    c.insert.ensures.items ∙ ap (λ r. cond (is_ok r) (insert c.args.sets.now.items c.in-Err.position c.args.set.now) c.args.sets.now.items) c.unwrap.ensures ∙ m.inserted

pub returns-in_default-clause-items : goal.returns-in_default-clause-items
returns-in_default-clause-items c =
    let s : Stands face_cmp c.args.sets.now.items c.args.set.now c.in_default.field-0 = search_face c.deref.result.now c.args.sets.now.items c.args.set.now (Ok c.in_default.field-0) c.deref.ensures.value c.requires.rising c.in_default.ensures.bound c.in_default.ensures.position in
    sym s.same
