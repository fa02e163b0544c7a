use Rattle.std.proofs.Common.{◌≡◌, ◌∙◌, ap}
use Rattle.stars.specs.StarViews.{all_stars, shown}
use Rattle.stars.proofs.Mapping.{items_are, shown_stars, shown_labels}
use Rattle.stars.proofs.map.StarMap.check.Goals as goal

pub local_check-requires-clause-stars : goal.local_check-requires-clause-stars
local_check-requires-clause-stars c =
    let items : shown c.deref.result.now ≡ all_stars c.args.self.now = ap shown c.deref.ensures.value ∙ items_are c.args.self.now c.self.inside.dim (shown c.self.inside.stars.items) c.self.view_is c.self.invariant.1 in
    (c.requires.stars.0, shown_stars c.requires.stars.0 c.args.self.now (shown c.deref.result.now) items c.requires.stars.1)

pub local_check-requires-clause-held : goal.local_check-requires-clause-held
local_check-requires-clause-held c =
    let items : shown c.deref.result.now ≡ all_stars c.args.self.now = ap shown c.deref.ensures.value ∙ items_are c.args.self.now c.self.inside.dim (shown c.self.inside.stars.items) c.self.view_is c.self.invariant.1 in
    shown_labels c.args.self.now c.args.flip.now (shown c.deref.result.now) items c.len-first.ensures.face c.len-second.ensures.face c.requires.places

pub returns-clause-broken_rule : goal.returns-clause-broken_rule
returns-clause-broken_rule c = λ k h.
    let items : shown c.deref.result.now ≡ all_stars c.args.self.now = ap shown c.deref.ensures.value ∙ items_are c.args.self.now c.self.inside.dim (shown c.self.inside.stars.items) c.self.view_is c.self.invariant.1 in
    c.local_check.ensures.broken_rule k (shown_stars k c.args.self.now (shown c.deref.result.now) items h)
