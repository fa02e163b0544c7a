use Rattle.std.proofs.Common.{◌≡◌, ◌<◌, ◌^◌, ◌++◌, arith, List, length, map, take, drop, OnOk, sym, ◌∙◌, ap, subst}
use Rattle.flip_rules.specs.Flips.{flipped}
use Rattle.stars.specs.StarViews.{VertexStar, KeptStar, AreNumbered, IsStarListOf, all_stars, shown}
use Rattle.stars.specs.FlipsHere.{stars_flipped}
use Rattle.stars.proofs.Mapping.{items_are, shown_stars, shown_labels, kept_fields, flipped_map}
use Rattle.stars.proofs.Finding.{length-shown}
use Rattle.stars.proofs.Shown.{refilled}
use Rattle.stars.proofs.map.StarMap.flip.Goals as goal

pub flip_here-requires-clause-stars : goal.flip_here-requires-clause-stars
flip_here-requires-clause-stars c =
    let items : shown c.deref_mut.result.now ≡ all_stars c.args.self.now = ap shown c.deref_mut.ensures.value ∙ items_are c.args.self.now c.self.inside.dim (shown c.self.inside.stars.items) c.self.view_is c.self.invariant.1 in
    (c.requires.stars.0, shown_stars c.requires.stars.0 c.args.self.now (shown c.deref_mut.result.now) items c.requires.stars.1)

pub flip_here-requires-clause-held : goal.flip_here-requires-clause-held
flip_here-requires-clause-held c =
    let items : shown c.deref_mut.result.now ≡ all_stars c.args.self.now = ap shown c.deref_mut.ensures.value ∙ items_are c.args.self.now c.self.inside.dim (shown c.self.inside.stars.items) c.self.view_is c.self.invariant.1 in
    shown_labels c.args.self.now c.args.flip.now (shown c.deref_mut.result.now) items c.len-first.ensures.face c.len-second.ensures.face c.requires.places

pub invariant_of-self : goal.invariant_of-self
invariant_of-self c =
    let old : List KeptStar = c.self.inside.stars.items in
    let same : c.deref_mut.result.now ≡ old = c.deref_mut.ensures.value in
    let filled : take c.self.inside.stars.len (c.flip_here.new.near ++ drop (length c.flip_here.new.near) old) ≡ c.flip_here.new.near = refilled c.self.inside.stars.len old c.flip_here.new.near c.self.inside.stars.ok.0 (c.flip_here.auto.near ∙ ap length same) in
    let P : List KeptStar → Type 0 = λ ss. (length ss < 2 ^ 16) × AreNumbered c.self.inside.dim (shown ss) in
    let few : P c.deref_mut.result.now = subst P (sym same) c.self.invariant in
    let kept : (length (shown c.flip_here.new.near) < 2 ^ 16) × AreNumbered c.self.inside.dim (shown c.flip_here.new.near) = kept_fields c.args.flip.now.a c.args.flip.now.b c.self.inside.dim (shown c.deref_mut.result.now) (shown c.flip_here.new.near) c.flip_here.result c.flip_here.ensures.ok c.flip_here.ensures.err (omega (arith, few.0, length-shown c.deref_mut.result.now)) few.1 in
    subst P (sym filled) (omega (arith, kept.0, length-shown c.flip_here.new.near), kept.1)

pub returns-clause-legal : goal.returns-clause-legal
returns-clause-legal c = λ k h.
    let items : shown c.deref_mut.result.now ≡ all_stars c.args.self.now = ap shown c.deref_mut.ensures.value ∙ items_are c.args.self.now c.self.inside.dim (shown c.self.inside.stars.items) c.self.view_is c.self.invariant.1 in
    c.flip_here.ensures.legal k (shown_stars k c.args.self.now (shown c.deref_mut.result.now) items h)

pub returns-clause-stars : goal.returns-clause-stars
returns-clause-stars c = λ k h.
    let old : List KeptStar = c.self.inside.stars.items in
    let same : c.deref_mut.result.now ≡ old = c.deref_mut.ensures.value in
    let items : shown c.deref_mut.result.now ≡ all_stars c.args.self.now = ap shown c.deref_mut.ensures.value ∙ items_are c.args.self.now c.self.inside.dim (shown c.self.inside.stars.items) c.self.view_is c.self.invariant.1 in
    let filled : take c.self.inside.stars.len (c.flip_here.new.near ++ drop (length c.flip_here.new.near) old) ≡ c.flip_here.new.near = refilled c.self.inside.stars.len old c.flip_here.new.near c.self.inside.stars.ok.0 (c.flip_here.auto.near ∙ ap length same) in
    let Q : List KeptStar → Type 0 = λ ss. OnOk c.flip_here.result (IsStarListOf (flipped k c.args.flip.now.a c.args.flip.now.b) (record { dim = c.self.inside.dim; stars = map (λ (s : VertexStar). s.rows) (shown ss) })) in
    let R : List KeptStar → Type 0 = λ ss. OnOk c.flip_here.result (shown c.flip_here.new.near ≡ stars_flipped (shown ss) c.args.flip.now.a c.args.flip.now.b) in
    subst Q (sym filled) (flipped_map k c.args.self.now c.args.flip.now c.self.inside.dim (shown old) (shown c.flip_here.new.near) c.flip_here.result c.self.view_is c.self.invariant.1 (subst R same c.flip_here.ensures.ok) (c.flip_here.ensures.stars k (shown_stars k c.args.self.now (shown c.deref_mut.result.now) items h)) h c.requires.places)

pub returns-clause-broken_rule : goal.returns-clause-broken_rule
returns-clause-broken_rule c = λ k h.
    let items : shown c.deref_mut.result.now ≡ all_stars c.args.self.now = ap shown c.deref_mut.ensures.value ∙ items_are c.args.self.now c.self.inside.dim (shown c.self.inside.stars.items) c.self.view_is c.self.invariant.1 in
    c.flip_here.ensures.broken_rule k (shown_stars k c.args.self.now (shown c.deref_mut.result.now) items h)

pub returns-clause-told : goal.returns-clause-told
returns-clause-told c = λ k e h.
    let items : shown c.deref_mut.result.now ≡ all_stars c.args.self.now = ap shown c.deref_mut.ensures.value ∙ items_are c.args.self.now c.self.inside.dim (shown c.self.inside.stars.items) c.self.view_is c.self.invariant.1 in
    c.flip_here.ensures.told k e (shown_stars k c.args.self.now (shown c.deref_mut.result.now) items h)
