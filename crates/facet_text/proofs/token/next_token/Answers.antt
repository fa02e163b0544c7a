use Rattle.std.proofs.Common.{arith, ◌+◌, ◌<◌, drop, length, get_or, refl, sym, ◌∙◌, ap}
use Rattle.std.proofs.lemmas.Bool.{true≢false}
use Rattle.facet_text.specs.Tokens.{tokens}
use Rattle.facet_text.proofs.ReadLaws.{label_digits}
use Rattle.facet_text.proofs.TokenLaws.{before_blank, span_text, tokens-blanks, tokens-end, tokens-one, all_blank, not_blank, not_all_blank}
use Rattle.facet_text.proofs.token.next_token.Goals as goal

pub returns-then-start-bytes-clause-first : goal.returns-then-start-bytes-clause-first
returns-then-start-bytes-clause-first c =
    tokens-blanks c.args.bytes.now c.args.from c.run_end-start.result c.run_end-start.ensures.end ∙ ap (tokens c.args.bytes.now) c.if-start-bytes.true ∙ tokens-end c.args.bytes.now

pub returns-then-start-bytes-clause-none : goal.returns-then-start-bytes-clause-none
returns-then-start-bytes-clause-none c =
    (λ _. all_blank c.args.bytes.now c.args.from (sym c.if-start-bytes.true ∙ c.run_end-start.ensures.end), λ _. refl)

pub returns-clause-first : goal.returns-clause-first
returns-clause-first c =
    let bytes = c.args.bytes.now in
    let start = c.run_end-start.result in
    let inside : start < length bytes = omega arith in
    let solid = not_blank bytes c.args.from start c.run_end-start.ensures.end inside in
    tokens-blanks bytes c.args.from start c.run_end-start.ensures.end
    ∙ tokens-one bytes start c.span_at-kind.result.1 inside solid c.span_at-kind.ensures.end
    ∙ rw c.span_at-kind.ensures.kind refl

pub returns-clause-none : goal.returns-clause-none
returns-clause-none c =
    (λ e. absurd (true≢false e), not_all_blank c.args.bytes.now c.args.from c.run_end-start.result c.run_end-start.ensures.end (omega arith))

pub returns-clause-digits : goal.returns-clause-digits
returns-clause-digits c = λ e.
    let bytes = c.args.bytes.now in
    let start = c.run_end-start.result in
    let text = label_digits (get_or bytes start 0) (drop (start + 1) bytes) (sym c.span_at-kind.ensures.kind ∙ e) in
    rw (span_text bytes start c.span_at-kind.result.1 (omega arith) c.span_at-kind.ensures.end) text

pub returns-clause-blanks : goal.returns-clause-blanks
returns-clause-blanks c = before_blank c.args.bytes.now c.args.from c.run_end-start.result c.run_end-start.ensures.end
