use Rattle.std.proofs.Common.{rules, ◌≡◌, false}
use Rattle.std.specs.Str.{bytes_eq}
use Rattle.cert_text.specs.Lines.{stated}
use Rattle.cert_text.proofs.Parts.{other_word}
use Rattle.cert_text.proofs.line.read_stated.Goals as goal

pub returns-then-not-is_word-clause-read : goal.returns-then-not-is_word-clause-read
unfolding stated
returns-then-not-is_word-clause-read c =
    let other : bytes_eq c.in_ok-word.word.text.now c.args.name.now ≡ false = search rules in
    other_word _ _ _ _ _ _ c.in_ok-word.ensures.first other
