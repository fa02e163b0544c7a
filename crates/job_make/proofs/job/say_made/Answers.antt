use Rattle.std.proofs.Common.{◌∙◌, ◌++◌, inr, ap, refl}
use Rattle.job_answer.specs.Lines.{complex_line}
use Rattle.job_make.proofs.Telling.{is_made}
use Rattle.job_make.proofs.job.say_made.Goals as goal

pub returns : goal.returns
returns c = inr (record {
  told = tt;
  input = refl;
  answer = is_made c.args.recipe.now c.in_ok-complex.complex _ (complex_line c.in_ok-complex.complex.facets) c.in_ok-complex.ensures.made c.in_ok-complex.ensures.limits c.in_ok-complex.ensures.looks refl
      (c.in_ok-write_complex_line.ensures ∙ ap (λ bs. bs ++ complex_line c.in_ok-complex.complex.facets) c.new-text.ensures.items);
})
