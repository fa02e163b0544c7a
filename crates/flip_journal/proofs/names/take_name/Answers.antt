use Rattle.std.proofs.Common.{Ok, Err, ◌∙◌, sym}
use Rattle.std.specs.Ordering.{nat_cmp}
use Rattle.complex_core.proofs.Searching.{Stands, Missing}
use Rattle.flip_journal.proofs.Kept.{filter_names, search_name}
use Rattle.flip_journal.proofs.names.take_name.Goals as goal

pub returns-in-Ok : goal.returns-in-Ok
returns-in-Ok c =
    let s : Stands nat_cmp c.args.names.now.items c.args.name c.in-Ok.position = search_name c.deref.result.now c.args.names.now.items c.args.name (Ok c.in-Ok.position) c.deref.ensures.value c.requires c.in-Ok.ensures.bound c.in-Ok.ensures.position in
    c.remove.ensures.items ∙ s.removed ∙ filter_names c.args.names.now.items c.args.name

pub returns-in_default : goal.returns-in_default
returns-in_default c =
    let m : Missing nat_cmp c.args.names.now.items c.args.name c.in_default.field-0 = search_name c.deref.result.now c.args.names.now.items c.args.name (Err c.in_default.field-0) c.deref.ensures.value c.requires c.in_default.ensures.bound c.in_default.ensures.position in
    sym m.same ∙ filter_names c.args.names.now.items c.args.name
