use Rattle.std.proofs.Common.{◌≡◌, Option, Vec, Global, false, true, subst}
use Rattle.std.specs.Option.{MatchOption}
use Rattle.complex_core.specs.declared.face.Face.{Face}
use Rattle.complex_core.specs.Maps.{takes_all, face_images}
use Rattle.complex_core.proofs.Images.{images_pure}
use Rattle.complex_core.proofs.complex.Complex.relabel.Goals as goal

pub sorted-requires-clause-pure : goal.sorted-requires-clause-pure
sorted-requires-clause-pure c =
    let m = c.args.map.now in
    let fs = c.facets.result.now in
    let P : Option (Vec Face Global) → Type 0 = λ r. MatchOption r (takes_all m fs ≡ false) (λ v. (takes_all m fs ≡ true) × (v.items ≡ face_images m fs)) in
    images_pure c.args.self.now c.dim.result m fs c.in-Some.facets.items c.facets.ensures.facets c.dim.ensures.dim c.dim.ensures.complex c.pairs.ensures.map (subst P c.in-Some.is c.in_ok-facets.ensures)
