use Rattle.std.proofs.Common.{rules, ◌≡◌, false, codes}
use Rattle.std.specs.Str.{bytes_eq}
use Rattle.cert_text.specs.Grammar.{header_at}
use Rattle.cert_text.proofs.Parts.{other_word}
use Rattle.cert_text.proofs.read.read_header.Goals as goal

pub returns-then-not-is_word-clause-read : goal.returns-then-not-is_word-clause-read
unfolding header_at
returns-then-not-is_word-clause-read c =
    let other : bytes_eq c.in_ok-word.word.text.now (codes "bistellar") ≡ false = search rules in
    other_word _ _ _ _ _ _ c.in_ok-word.ensures.first other
