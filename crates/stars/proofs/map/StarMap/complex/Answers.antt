use Rattle.std.proofs.Common.{◌≡◌, ◌∙◌, ap}
use Rattle.std.specs.List.{flat_map}
use Rattle.stars.specs.StarViews.{all_stars, shown}
use Rattle.stars.specs.Building.{first_rows}
use Rattle.stars.proofs.Mapping.{items_are}
use Rattle.stars.proofs.Shown.{gathered_all}
use Rattle.stars.proofs.Gathering.{gathered_facets, can_make, made_if}
use Rattle.stars.proofs.map.StarMap.complex.Goals as goal

pub complex_of-requires : goal.complex_of-requires
complex_of-requires c =
    let items : shown c.deref-star-items.result.now ≡ all_stars c.args.self.now = ap shown c.deref-star-items.ensures.value ∙ items_are c.args.self.now c.self.inside.dim (shown c.self.inside.stars.items) c.self.view_is c.self.invariant.1 in
    let all : c.loop-star.facets.items ≡ flat_map first_rows (all_stars c.args.self.now) = gathered_all c.args.self.now c.deref-star-items.result.now c.loop-star.facets.items c.loop-star.star-index items c.loop-star-test.false c.loop-star.invariant in
    can_make c.requires.0 (flat_map first_rows (all_stars c.args.self.now)) c.deref.result.now c.requires.1.complex (gathered_facets c.requires.0 c.args.self.now c.requires.1) (c.deref.ensures.value ∙ all)

pub returns : goal.returns
returns c =
    let items : shown c.deref-star-items.result.now ≡ all_stars c.args.self.now = ap shown c.deref-star-items.ensures.value ∙ items_are c.args.self.now c.self.inside.dim (shown c.self.inside.stars.items) c.self.view_is c.self.invariant.1 in
    let all : c.loop-star.facets.items ≡ flat_map first_rows (all_stars c.args.self.now) = gathered_all c.args.self.now c.deref-star-items.result.now c.loop-star.facets.items c.loop-star.star-index items c.loop-star-test.false c.loop-star.invariant in
    made_if c.args.self.now c.deref.result.now c.complex_of.result (c.deref.ensures.value ∙ all) c.complex_of.ensures.facets c.complex_of.ensures.dim
