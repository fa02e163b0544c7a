use Rattle.std.proofs.Common.{ap, ◌≡◌, ◌∙◌, ◌-◌}
use Rattle.std.proofs.lemmas.Result.{IfOk-weaker}
use Rattle.stars.specs.Candidates.{candidate_faces}
use Rattle.anneal_plan.proofs.Finding.{candidates_out}
use Rattle.anneal_plan.proofs.listed.faces_of.Goals as goal

pub returns : goal.returns
returns c = IfOk-weaker c.faces_out.result (λ v. _) (λ v. v.items ≡ candidate_faces c.args.star.now.star c.args.index) (λ v e. e ∙ candidates_out c.args.star.now.star c.args.index (c.dim.result - c.args.index) c.dim.ensures.star c.requires.low c.requires.high (ap (λ d. d - c.args.index) c.dim.ensures.dim)) c.faces_out.ensures
