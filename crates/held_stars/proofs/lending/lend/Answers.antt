use Rattle.std.proofs.Common.{◌≡◌, ◌≤◌, nat_lt, true, false, ◌∙◌, sym, ap, cond, is_ok, subst, length}
use Rattle.std.specs.List.{insert}
use Rattle.std.specs.List.Sorted.{IsPartitionPoint}
use Rattle.held_stars.proofs.LentStars.{lends_at, one_home}
use Rattle.held_stars.proofs.lending.lend.Goals as goal

pub returns-clause-lent : goal.returns-clause-lent
returns-clause-lent c = λ x here.
    let old = c.args.lent.now.items in
    let e = c.place_among-at.ensures in
    let at = c.place_among-at.result in
    let own = c.requires.star in
    let same = c.swap_star-star.ensures.star x here in
    lends_at old _ at c.args.place c.swap_star-star.result x.star c.requires.rising c.requires.place c.requires.fresh (subst (λ l. at ≤ length l) c.deref.ensures.value e.within)
    (subst (λ l. IsPartitionPoint (λ u. nat_lt u.star.vertex c.args.place ≡ true) (λ u. nat_lt u.star.vertex c.args.place ≡ false) l at) c.deref.ensures.value e.parts)
    same (one_home x c.requires.star.0 (sym here ∙ own.1) own.2) c.swap_star-star.ensures.fits (c.insert.ensures.items ∙ ap (λ r. cond (is_ok r) (insert old at c.swap_star-star.result) old) c.unwrap.ensures)

pub returns-clause-slots : goal.returns-clause-slots
returns-clause-slots c = λ x here. (c.empty-empty.result.star, c.swap_star-star.ensures.slots x here)
