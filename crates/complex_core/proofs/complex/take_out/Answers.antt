use Rattle.std.proofs.Common.{Ok, Err, ◌∙◌}
use Rattle.complex_core.specs.Labels.{face_cmp}
use Rattle.complex_core.proofs.Searching.{Stands, Missing}
use Rattle.complex_core.proofs.Exchanges.{search_face, taken_out, nothing_out}
use Rattle.complex_core.proofs.complex.take_out.Goals as goal

pub returns-in-Ok-clause-items : goal.returns-in-Ok-clause-items
returns-in-Ok-clause-items c =
    let s : Stands face_cmp c.args.sets.now.items c.args.set.now c.in-Ok.position = search_face c.deref.result.now c.args.sets.now.items c.args.set.now (Ok c.in-Ok.position) c.deref.ensures.value c.requires c.in-Ok.ensures.bound c.in-Ok.ensures.position in
    c.remove.ensures.items ∙ taken_out c.args.sets.now.items c.args.set.now c.in-Ok.position s

pub returns-in_default-clause-items : goal.returns-in_default-clause-items
returns-in_default-clause-items c =
    let m : Missing face_cmp c.args.sets.now.items c.args.set.now c.in_default.field-0 = search_face c.deref.result.now c.args.sets.now.items c.args.set.now (Err c.in_default.field-0) c.deref.ensures.value c.requires c.in_default.ensures.bound c.in_default.ensures.position in
    nothing_out c.args.sets.now.items c.args.set.now c.in_default.field-0 m
