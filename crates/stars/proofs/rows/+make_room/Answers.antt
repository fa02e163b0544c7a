use Rattle.std.proofs.Common.{ℕ, ◌<◌, ◌∙◌, List, length, get_or, set, subst, sym, ap, rules}
use Rattle.complex_core.specs.Labels.{IsRising, has, holds}
use Rattle.std.specs.Cmp.{second_so}
use Rattle.std.proofs.lemmas.Result.{on_ok_weaker}
use Rattle.stars.specs.StarViews.{KeptStar, VertexStar, shown, vertices}
use Rattle.stars.proofs.Changing.{own}
use Rattle.stars.proofs.Rooms.{Roomier, roomier, roomier_then, spare_made}
use Rattle.stars.proofs.rows.+make_room.Goals as goal

pub returns-in_err-reserve-clause-stars : goal.returns-in_err-reserve-clause-stars
returns-in_err-reserve-clause-stars t c =
    let near : List KeptStar = c.args.near.now in
    let i : ℕ = c.place_of-place.result in
    let l : i < length near = c.place_of-place.ensures.within in
    (roomier near i (get_or near i c.index-near-place.result) c.reserve.new.self l (own near i c.index-near-place.result l) c.reserve.ensures.star c.reserve.ensures.room).stars

pub returns-in_err-reserve-clause-rooms : goal.returns-in_err-reserve-clause-rooms
returns-in_err-reserve-clause-rooms t c =
    let near : List KeptStar = c.args.near.now in
    let i : ℕ = c.place_of-place.result in
    let l : i < length near = c.place_of-place.ensures.within in
    (roomier near i (get_or near i c.index-near-place.result) c.reserve.new.self l (own near i c.index-near-place.result l) c.reserve.ensures.star c.reserve.ensures.room).rooms

pub make_room-requires : goal.make_room-requires
make_room-requires t c =
    let near : List KeptStar = c.args.near.now in
    let i : ℕ = c.place_of-place.result in
    let l : i < length near = c.place_of-place.ensures.within in
    let made : Roomier near (set near i c.reserve.new.self) = roomier near i (get_or near i c.index-near-place.result) c.reserve.new.self l (own near i c.index-near-place.result l) c.reserve.ensures.star c.reserve.ensures.room in
    let P : List VertexStar → Type 0 = λ ss. IsRising (vertices ss) in
    (search rules, (subst P (sym made.stars) c.requires.rising, ap (λ ss. holds (vertices ss) c.in-Some.others.now) made.stars ∙ second_so (has (vertices (shown near)) c.in-Some.label.now) (holds (vertices (shown near)) c.in-Some.others.now) (ap (holds (vertices (shown near))) (sym c.in-Some.ensures.cases.0) ∙ c.requires.held)))

pub returns-clause-stars : goal.returns-clause-stars
returns-clause-stars t c =
    let near : List KeptStar = c.args.near.now in
    let i : ℕ = c.place_of-place.result in
    let l : i < length near = c.place_of-place.ensures.within in
    let made : Roomier near (set near i c.reserve.new.self) = roomier near i (get_or near i c.index-near-place.result) c.reserve.new.self l (own near i c.index-near-place.result l) c.reserve.ensures.star c.reserve.ensures.room in
    (roomier_then near (set near i c.reserve.new.self) c.make_room.new.near made c.make_room.ensures.stars c.make_room.ensures.rooms).stars

pub returns-clause-rooms : goal.returns-clause-rooms
returns-clause-rooms t c =
    let near : List KeptStar = c.args.near.now in
    let i : ℕ = c.place_of-place.result in
    let l : i < length near = c.place_of-place.ensures.within in
    let made : Roomier near (set near i c.reserve.new.self) = roomier near i (get_or near i c.index-near-place.result) c.reserve.new.self l (own near i c.index-near-place.result l) c.reserve.ensures.star c.reserve.ensures.room in
    (roomier_then near (set near i c.reserve.new.self) c.make_room.new.near made c.make_room.ensures.stars c.make_room.ensures.rooms).rooms

pub returns-clause-enough : goal.returns-clause-enough
returns-clause-enough t c =
    let near : List KeptStar = c.args.near.now in
    let i : ℕ = c.place_of-place.result in
    let s : KeptStar = get_or near i c.index-near-place.result in
    let l : i < length near = c.place_of-place.ensures.within in
    let made : Roomier near (set near i c.reserve.new.self) = roomier near i s c.reserve.new.self l (own near i c.index-near-place.result l) c.reserve.ensures.star c.reserve.ensures.room in
    on_ok_weaker c.make_room.result (spare_made near c.make_room.new.near i c.in-Some.label.now c.args.more s c.reserve.new.self c.args.labels.now c.in-Some.others.now c.in-Some.ensures.cases.0 c.requires.rising l (own near i c.index-near-place.result l) (c.place_of-place.ensures.there c.index-near-place.result) c.reserve.ensures.star c.in_ok-reserve.ensures.enough made c.make_room.ensures.stars c.make_room.ensures.rooms) c.make_room.ensures.enough
