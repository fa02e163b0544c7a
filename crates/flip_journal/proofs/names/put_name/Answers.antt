use Rattle.std.proofs.Common.{◌≡◌, Ok, Err, ◌∙◌, sym, rules}
use Rattle.std.specs.List.{insert}
use Rattle.std.specs.Ordering.{nat_cmp}
use Rattle.complex_core.proofs.Searching.{Stands, Missing}
use Rattle.flip_journal.proofs.Kept.{search_name}
use Rattle.flip_journal.proofs.names.put_name.Goals as goal

pub returns-in_ok-insert : goal.returns-in_ok-insert
returns-in_ok-insert c =
    let m : Missing nat_cmp c.args.names.now.items c.args.name c.in-Err.position = search_name c.deref.result.now c.args.names.now.items c.args.name (Err c.in-Err.position) c.deref.ensures.value c.requires c.in-Err.ensures.bound c.in-Err.ensures.position in
    let e : c.insert.new.self.items ≡ insert c.args.names.now.items c.in-Err.position c.args.name = search rules in
    e ∙ m.inserted

pub returns-in_default : goal.returns-in_default
returns-in_default c =
    let s : Stands nat_cmp c.args.names.now.items c.args.name c.in_default.field-0 = search_name c.deref.result.now c.args.names.now.items c.args.name (Ok c.in_default.field-0) c.deref.ensures.value c.requires c.in_default.ensures.bound c.in_default.ensures.position in
    sym s.same
