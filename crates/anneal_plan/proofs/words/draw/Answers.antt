use Rattle.std.proofs.Common.{◌<◌, length, ℕ, arith}
use Rattle.std.proofs.lemmas.List.{length-set}
use Rattle.anneal_plan.proofs.WordLists.{Draws, draws, words_next, words_end, after_next, after_end}
use Rattle.anneal_plan.proofs.words.draw.Goals as goal

pub loop-word-preserved : goal.loop-word-preserved
loop-word-preserved c =
    let d : Draws c.loop-word.words c.next_word.new.self c.next_word.result = draws c.loop-word.words c.next_word.new.self c.next_word.result c.next_word.ensures in
    let below : c.loop-word.word-index < length c.loop-word.word-items = omega (arith, c.loop-word.invariant.long) in
    record {
      long = omega (arith, length-set {A = ℕ}, c.loop-word.invariant.long);
      words = words_next 8 c.loop-word.word-index _ _ _ c.loop-word.word-items _ (omega arith) below d c.loop-word.invariant.words;
      after = after_next 8 c.loop-word.word-index _ _ _ c.next_word.result (omega arith) d c.loop-word.invariant.after;
    }

pub returns-clause-words : goal.returns-clause-words
returns-clause-words c = words_end 8 c.loop-word.word-index _ _ c.loop-word.word-items (omega arith) c.loop-word.invariant.long c.loop-word.invariant.words

pub returns-clause-after : goal.returns-clause-after
returns-clause-after c = after_end 8 c.loop-word.word-index _ _ (omega arith) c.loop-word.invariant.after
