use Rattle.std.proofs.Common.{◌≡◌, Ok, Err, ◌∙◌, sym, rules}
use Rattle.std.specs.List.{insert}
use Rattle.complex_core.specs.Maps.{pair_cmp}
use Rattle.complex_core.proofs.Searching.{Stands, Missing}
use Rattle.flip_journal.proofs.Kept.{search_pair}
use Rattle.flip_journal.proofs.names.put_pair.Goals as goal

pub returns-in_ok-insert : goal.returns-in_ok-insert
returns-in_ok-insert c =
    let m : Missing pair_cmp c.args.pairs.now.items c.args.pair c.in-Err.position = search_pair c.deref.result.now c.args.pairs.now.items c.args.pair (Err c.in-Err.position) c.deref.ensures.value c.requires c.in-Err.ensures.bound c.in-Err.ensures.position in
    let e : c.insert.new.self.items ≡ insert c.args.pairs.now.items c.in-Err.position c.args.pair = search rules in
    e ∙ m.inserted

pub returns-in_default : goal.returns-in_default
returns-in_default c =
    let s : Stands pair_cmp c.args.pairs.now.items c.args.pair c.in_default.field-0 = search_pair c.deref.result.now c.args.pairs.now.items c.args.pair (Ok c.in_default.field-0) c.deref.ensures.value c.requires c.in_default.ensures.bound c.in_default.ensures.position in
    sym s.same
