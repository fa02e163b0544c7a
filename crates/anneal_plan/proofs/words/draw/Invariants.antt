use Rattle.std.proofs.Common.{◌≡◌, ◌-◌, ◌++◌, take, length}
use Rattle.anneal_plan.specs.Words.{words_from, after_words}
use Rattle.anneal_plan.proofs.words.draw.Given as goal

-- the words so far, and those that the generator still gives, are all words
abbrev pub invariant-loop-word : goal.invariant-loop-word
invariant-loop-word l = record {
  long : length l.word-items ≡ 8;
  words : words_from l.fn.words 8 ≡ take l.word-index l.word-items ++ words_from l.words (8 - l.word-index);
  after : after_words l.fn.words 8 ≡ after_words l.words (8 - l.word-index);
}
