use Rattle.std.proofs.Common.{ℕ, ◌<◌, ◌∙◌, List, length, get_or, set, rules}
use Rattle.stars.specs.StarViews.{KeptStar, shown}
use Rattle.stars.proofs.Changing.{FirstChanged, first_changed, first_pure, first_room, changed_none, own, nil_from}
use Rattle.stars.proofs.rows.+change_stars.Goals as goal

pub change-requires-clause-pure : goal.change-requires-clause-pure
change-requires-clause-pure t c = first_pure c.args.near.now c.place_of-place.result c.index-near-place.result c.args.labels.now c.args.more.now c.requires.can c.place_of-place.ensures.within

pub change-requires-clause-room : goal.change-requires-clause-room
change-requires-clause-room t c = first_room c.args.near.now c.place_of-place.result c.in-Some.label.now c.index-near-place.result c.args.labels.now c.in-Some.others.now c.args.out.now c.args.more.now c.requires.room c.in-Some.ensures.cases.0 c.place_of-place.ensures.within (c.place_of-place.ensures.there c.index-near-place.result)

pub change_stars-requires : goal.change_stars-requires
change_stars-requires t c =
    let near : List KeptStar = c.args.near.now in
    let i : ℕ = c.place_of-place.result in
    let s : KeptStar = get_or near i c.index-near-place.result in
    let l : i < length near = c.place_of-place.ensures.within in
    let f : FirstChanged near (set near i c.change.new.self) c.args.labels.now c.in-Some.others.now c.args.out.now c.args.more.now = first_changed near i c.in-Some.label.now s c.change.new.self c.args.labels.now c.in-Some.others.now c.args.out.now c.args.more.now c.requires.can c.requires.room c.in-Some.ensures.cases.0 l (own near i c.index-near-place.result l) (c.place_of-place.ensures.there c.index-near-place.result) c.change.ensures in
    (search rules, (f.can, (c.requires.within, f.room)))

pub returns-in-Some-clause-stars : goal.returns-in-Some-clause-stars
returns-in-Some-clause-stars t c =
    let near : List KeptStar = c.args.near.now in
    let i : ℕ = c.place_of-place.result in
    let s : KeptStar = get_or near i c.index-near-place.result in
    let l : i < length near = c.place_of-place.ensures.within in
    let f : FirstChanged near (set near i c.change.new.self) c.args.labels.now c.in-Some.others.now c.args.out.now c.args.more.now = first_changed near i c.in-Some.label.now s c.change.new.self c.args.labels.now c.in-Some.others.now c.args.out.now c.args.more.now c.requires.can c.requires.room c.in-Some.ensures.cases.0 l (own near i c.index-near-place.result l) (c.place_of-place.ensures.there c.index-near-place.result) c.change.ensures in
    c.change_stars.ensures.stars ∙ f.stars

pub returns-in-Some-clause-rooms : goal.returns-in-Some-clause-rooms
returns-in-Some-clause-rooms t c =
    let near : List KeptStar = c.args.near.now in
    let i : ℕ = c.place_of-place.result in
    let s : KeptStar = get_or near i c.index-near-place.result in
    let l : i < length near = c.place_of-place.ensures.within in
    let f : FirstChanged near (set near i c.change.new.self) c.args.labels.now c.in-Some.others.now c.args.out.now c.args.more.now = first_changed near i c.in-Some.label.now s c.change.new.self c.args.labels.now c.in-Some.others.now c.args.out.now c.args.more.now c.requires.can c.requires.room c.in-Some.ensures.cases.0 l (own near i c.index-near-place.result l) (c.place_of-place.ensures.there c.index-near-place.result) c.change.ensures in
    c.change_stars.ensures.rooms ∙ f.rooms

pub returns-in_default-clause-stars : goal.returns-in_default-clause-stars
returns-in_default-clause-stars t c = changed_none (shown c.args.near.now) c.args.labels.now c.args.out.now c.args.more.now (nil_from c.args.labels.now c.in_default.ensures.cases)
