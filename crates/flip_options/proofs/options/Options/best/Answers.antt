use Rattle.std.proofs.Common.{sym, ◌∙◌, ap}
use Rattle.flip_options.specs.OptionViews.{found_flips}
use Rattle.flip_options.proofs.Making.{first_best}
use Rattle.flip_options.proofs.options.Options.best.Goals as goal

pub returns-clause-best : goal.returns-clause-best
returns-clause-best c = λ k h. first_best k c.in-Some.candidates c.args.self.now c.first_flip.result (sym c.self.view_is ∙ ap found_flips c.in-Some.is) c.first_flip.ensures h
