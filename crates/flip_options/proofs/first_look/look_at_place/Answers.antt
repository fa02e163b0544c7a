use Rattle.std.proofs.Common.{◌∙◌, ap}
use Rattle.std.proofs.lemmas.Result.{on_ok_weaker}
use Rattle.complex_core.specs.Labels.{with}
use Rattle.flip_options.proofs.FirstLooking.{from_place, unwrapped}
use Rattle.flip_options.proofs.first_look.look_at_place.Goals as goal

pub returns : goal.returns
returns c =
    on_ok_weaker c.look_from.result
    (λ p. from_place c.args.stars.now c.args.candidates.now c.look_from.new.candidates c.args.place c.most_labels-most.result c.unwrap-face.result p (unwrapped _ _ _ _ c.unwrap-face.ensures c.with.ensures ∙ ap (λ f. with f c.args.place) c.new.ensures) c.most_labels-most.ensures)
    c.look_from.ensures
