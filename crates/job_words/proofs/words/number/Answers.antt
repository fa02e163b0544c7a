use Rattle.std.proofs.Common.{◌≡◌, ◌∙◌, ap, sym, ℕ, arith, []}
use Rattle.std.specs.Prelude.{Some, None, Option, unwrap_or}
use Rattle.std.specs.Str.Parse.{ParsesUnsigned, ExplainsUnsignedError, HasUnsignedDigitsIfOk, digits_value, without_leading_plus}
use Rattle.clap.specs.Words.{Text, found_of, one_of, rows_of, without_minus}
use Rattle.clap.proofs.CallerReads.{signed_reads}
use Rattle.clap.proofs.WalkLemmas.{one_text-rows}
use Rattle.job_words.proofs.words.number.Goals as goal

never : (o : Option ℕ) (n : ℕ) → o ≡ None → o ≡ Some n → ⊥
never o n e f = cc

pub unreachable-requires : goal.unreachable-requires
unreachable-requires c =
    let one = c.get_one.ensures.value (without_minus c.requires.text) c.requires.one in
    let got = signed_reads _ (λ bs r. ParsesUnsigned 32 10 bs r × ExplainsUnsignedError 10 bs r × HasUnsignedDigitsIfOk bs r) 32 c.args.low c.args.high c.requires.text c.get_one.result one (λ u x g. g.0) (omega arith) c.requires.good.1 in
    never _ _ c.in-None.is got.1

pub returns-clause-value : goal.returns-clause-value
returns-clause-value c =
    let read = c.in-Some.ensures.value (without_minus c.requires.text) c.requires.one in
    let text : one_of c.args.id.now (rows_of (found_of c.args.matches.now)) ≡ Some (without_minus c.requires.text) = sym (one_text-rows (found_of c.args.matches.now) c.args.id.now) ∙ c.requires.one in
    read.0.1 ∙ ap (λ (o : Option Text). digits_value 10 (without_leading_plus (unwrap_or o []))) (sym text)
