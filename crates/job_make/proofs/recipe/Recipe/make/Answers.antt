use Rattle.job_make.specs.Recipes.{recipe}
use Rattle.job_make.proofs.Telling.{keeps_all}
use Rattle.job_make.proofs.recipe.Recipe.make.Goals as goal

pub returns-clause-limits : goal.returns-clause-limits
returns-clause-limits c = keeps_all (recipe c.self.inside.kind c.self.inside.dim c.self.inside.draws c.self.inside.seed) c.in_ok-complex.complex c.self.invariant c.dim-dim.ensures.complex c.in_ok-complex.ensures.dim c.in_ok-complex.ensures.greatest c.in_ok-complex.ensures.facets c.in_ok-complex.ensures.labels
