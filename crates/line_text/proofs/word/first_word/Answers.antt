use Rattle.std.proofs.Common.{◌≡◌, ◌≤◌, ◌∷◌, ℕ, List, [], length, Option, Some, None}
use Rattle.std.specs.Prelude.{MatchOption}
use Rattle.facet_text.specs.Lines.{AfterEnds, AreEnds, items, line_end, view}
use Rattle.facet_text.specs.declared.word.Word.{Word}
use Rattle.line_text.specs.Numbers.{line_start}
use Rattle.line_text.proofs.LineLaws.{start_at_end, start_at_word}
use Rattle.line_text.proofs.word.first_word.Goals as goal

started : (bytes : List ℕ) (from : ℕ) (w : Option Word) → from ≤ length bytes
    → MatchOption w (AreEnds (items bytes from)) (λ w. AfterEnds (items bytes from) w.feeds (view w ∷ items bytes w.end))
    → MatchOption w (line_start (items bytes from) ≡ line_end (length bytes) ∷ []) (λ w. line_start (items bytes from) ≡ view w ∷ items bytes w.end)
started bytes from None le h = start_at_end bytes from le h
started bytes from (Some w) le h = start_at_word _ _ _ _ _ h

pub returns-clause-first : goal.returns-clause-first
returns-clause-first c = started c.args.bytes.now c.args.from c.next_word.result c.requires c.next_word.ensures.first
