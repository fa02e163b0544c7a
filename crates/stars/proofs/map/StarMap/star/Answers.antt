use Rattle.std.proofs.Common.{◌≡◌, ◌-◌}
use Rattle.stars.specs.StarViews.{all_stars, shown}
use Rattle.stars.proofs.Mapping.{items_are, placed_star}
use Rattle.stars.proofs.Shown.{shown_here, place_inside}
use Rattle.stars.proofs.map.StarMap.star.Goals as goal

pub returns : goal.returns
returns c =
    let items : shown c.self.inside.stars.items ≡ all_stars c.args.self.now = items_are c.args.self.now c.self.inside.dim (shown c.self.inside.stars.items) c.self.view_is c.self.invariant.1 in
    placed_star c.args.self.now (shown c.self.inside.stars.items) c.args.place c.index.result.now.star items c.requires.low c.requires.high (shown_here c.self.inside.stars.items (c.args.place - 1) c.index.result.now (place_inside c.args.self.now c.self.inside.stars.items c.args.place items c.requires.low c.requires.high) c.index.ensures)
