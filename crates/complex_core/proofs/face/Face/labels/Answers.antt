use Rattle.std.proofs.Common.{◌≡◌, ◌∙◌, sym, ap, take}
use Rattle.complex_core.specs.Labels.{padded}
use Rattle.complex_core.proofs.Packs.{front_padded}
use Rattle.complex_core.proofs.face.Face.labels.Goals as goal

pub new-requires-clause-zeros : goal.new-requires-clause-zeros
new-requires-clause-zeros c =
    let front : take c.len.result c.padded.result ≡ c.args.self.now = (λ i. take (c.len.ensures.len i) (c.padded.ensures.places i)) ∙ front_padded 8 8 c.args.self.now c.len.ensures.face.few in
    c.padded.ensures.places ∙ ap padded (sym front)

pub returns-clause-labels : goal.returns-clause-labels
returns-clause-labels c = c.new.ensures ∙ (λ i. take (c.len.ensures.len i) (c.padded.ensures.places i)) ∙ front_padded 8 8 c.args.self.now c.len.ensures.face.few
