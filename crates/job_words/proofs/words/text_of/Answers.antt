use Rattle.std.proofs.Common.{◌≡◌, ◌∙◌, ap, []}
use Rattle.std.specs.Prelude.{Option, Some, unwrap_or}
use Rattle.clap.specs.Words.{Text, found_of, first_of, rows_of}
use Rattle.clap.proofs.WalkLemmas.{first_value-rows}
use Rattle.job_words.proofs.words.text_of.Goals as goal

pub returns : goal.returns
returns c =
    let is : Some c.in-Some.text.now ≡ first_of c.args.id.now (rows_of (found_of c.args.matches.now)) = c.in-Some.ensures ∙ first_value-rows (found_of c.args.matches.now) c.args.id.now in
    ap (λ (o : Option Text). unwrap_or o []) is
