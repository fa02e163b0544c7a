use Rattle.make_complex.proofs.WordSteps.{three_words}
use Rattle.make_complex.proofs.words.draw_words.Goals as goal

pub returns-clause-facet : goal.returns-clause-facet
returns-clause-facet c = (three_words c.args.words.now _ _ _ _ _ _ c.next_word-facet.ensures c.next_word-index.ensures c.next_word-subset.ensures).first

pub returns-clause-index : goal.returns-clause-index
returns-clause-index c = (three_words c.args.words.now _ _ _ _ _ _ c.next_word-facet.ensures c.next_word-index.ensures c.next_word-subset.ensures).second

pub returns-clause-subset : goal.returns-clause-subset
returns-clause-subset c = (three_words c.args.words.now _ _ _ _ _ _ c.next_word-facet.ensures c.next_word-index.ensures c.next_word-subset.ensures).third

pub returns-clause-after : goal.returns-clause-after
returns-clause-after c = (three_words c.args.words.now _ _ _ _ _ _ c.next_word-facet.ensures c.next_word-index.ensures c.next_word-subset.ensures).after
