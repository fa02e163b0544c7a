use Rattle.std.proofs.Common.{◌∙◌, sym, ap}
use Rattle.std.proofs.lemmas.Result.{err_from_is_err_and}
use Rattle.facet_text.specs.Lines.{items}
use Rattle.trace_text.specs.Grammar.{in_line}
use Rattle.trace_text.proofs.Parts.{flip_same}
use Rattle.trace_text.proofs.event.flip_here.Goals as goal

pub returns-in_err-read-clause-read : goal.returns-in_err-read-clause-read
returns-in_err-read-clause-read c =
    let p = err_from_is_err_and c.from_residual.result c.from_residual.ensures.1 in
    rw (p.1, p.2) (ap in_line (sym (flip_same c.args.places (items c.args.bytes.now c.args.from)) ∙ c.in_err-read.ensures.read))

pub returns-clause-read : goal.returns-clause-read
returns-clause-read c = ap in_line (sym (flip_same c.args.places (items c.args.bytes.now c.args.from)) ∙ c.in_ok-read.ensures.read)
