use Rattle.std.proofs.Common.{◌≡◌, ◌<◌, Option, List, ℕ, get_or, true, sym, subst, ◌∙◌}
use Rattle.std.specs.List.{list_all}
use Rattle.std.specs.Option.{SomeIff}
use Rattle.complex_core.specs.Maps.{takes, face_image}
use Rattle.complex_core.proofs.Images.{image_done, image_fits, label_taken, positive_at}
use Rattle.flip_journal.proofs.names.Names.face.Goals as goal

pub returns-in_err-get-clause-image : goal.returns-in_err-get-clause-image
returns-in_err-get-clause-image c =
    let P : Option (List ℕ) → Type 0 = λ r. SomeIff r (list_all (takes c.args.self.now) c.args.face.now ≡ true) (face_image c.args.self.now c.args.face.now) in
    subst P (sym c.from_residual.ensures) (λ all. c.in_err-get.ensures.get (label_taken c.args.self.now c.as_slice-label-items.result.now c.args.face.now c.loop-label.label-index (c.as_slice-label-items.ensures ∙ c.labels.ensures.labels) c.loop-label-test.true all))

pub returns-in_err-image-clause-image : goal.returns-in_err-image-clause-image
returns-in_err-image-clause-image c =
    let P : Option (List ℕ) → Type 0 = λ r. SomeIff r (list_all (takes c.args.self.now) c.args.face.now ≡ true) (face_image c.args.self.now c.args.face.now) in
    let Q : ℕ → Type 0 = λ y. 0 < y in
    subst P (sym c.from_residual-in_err-image.ensures) (λ all. c.in_err-image.ensures (
      subst Q (sym c.in_ok-get.ensures.get.1) (positive_at c.args.self.now (get_or c.as_slice-label-items.result.now c.loop-label.label-index 0) c.in_ok-get.ensures.map.positive c.in_ok-get.ensures.get.0),
      image_fits c.args.self.now c.as_slice-label-items.result.now c.args.face.now c.loop-label.image c.loop-label.label-index c.in_ok-get.field-0 (c.as_slice-label-items.ensures ∙ c.labels.ensures.labels) c.labels.ensures.face c.loop-label-test.true c.loop-label.invariant.made,
    ))

pub returns-clause-image : goal.returns-clause-image
returns-clause-image c = image_done _ _ _ _ _ (c.as_slice-label-items.ensures ∙ c.labels.ensures.labels) c.loop-label-test.false c.loop-label.invariant.made c.loop-label.invariant.taken
