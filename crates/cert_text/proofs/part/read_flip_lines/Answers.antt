use Rattle.std.proofs.lemmas.Result.{err_from_is_err_and}
use Rattle.facet_text.specs.Lines.{items}
use Rattle.cert_text.specs.Lines.{flip_line}
use Rattle.cert_text.proofs.Parts.{all_read, stops}
use Rattle.cert_text.proofs.part.read_flip_lines.Goals as goal

pub returns-in_err-flip-clause-read : goal.returns-in_err-flip-clause-read
returns-in_err-flip-clause-read c =
    let p = err_from_is_err_and c.from_residual.result c.from_residual.ensures.1 in
    rw (p.1, p.2) (stops c.in_err-flip.field-0.0 flip_line c.args.count c.lines.counter c.lines.flips.items (items c.args.bytes.now c.lines.offset) _ c.lines-test.true (c.in_err-flip.ensures.read _) c.lines.invariant.same)

pub returns-clause-read : goal.returns-clause-read
returns-clause-read c =
    all_read flip_line c.args.count c.lines.counter c.lines.flips.items (items c.args.bytes.now c.lines.offset) _ c.lines-test.false c.lines.invariant.same
