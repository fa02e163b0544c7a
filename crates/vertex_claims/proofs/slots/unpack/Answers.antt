use Rattle.std.proofs.Common.{◌≡◌, ◌≢◌, ◌+◌, ◌∷◌, [], ◌++◌, ℕ, suc, List, Bool, false, get_or, set, ap, sym, ◌∙◌, subst, arith, get_or-set_other, get_or-set_same}
use mathlib.Core.Option.{some, some-injective}
use mathlib.Core.Logic.{dite}
use native.Mathlib.Decide.{ℕ_discrete}
use lib.ListN.{get_elem?}
use Rattle.std.specs.Slots.{slots_filled, slots_counts}
use Rattle.stars.proofs.Shown.{shown_more}
use Rattle.stars.specs.Building.{stars_of}
use Rattle.board_rule.specs.Views.{star_in, home_at}
use Rattle.board_rule.specs.Homes.{VersionedStar}
use Rattle.board_rule.specs.declared.data.Slot.{Slot}
use Rattle.board_rule.specs.declared.data.Slot.TheVariants.{Home}
use Rattle.vertex_claims.proofs.Ends.{stars_next, same_home}
use Rattle.vertex_claims.proofs.slots.unpack.Goals as goal

pub unreachable-requires-in_default-take : goal.unreachable-requires-in_default-take
unreachable-requires-in_default-take c =
    let p = c.loop-p.p in
    let near = c.loop-p-test.true in
    let t = c.requires.stars (p + 1) (omega arith) (omega arith) in
    c.in_default-take.not-Home t.0 (some-injective _ _ (sym c.take-in-loop-p.ensures.value ∙ (ap (λ (l : List Slot). get_elem? l (p + 1)) c.loop-p.invariant.same ∙ t.1)))

pub loop-p-preserved : goal.loop-p-preserved
loop-p-preserved c =
    let p = c.loop-p.p in
    let inv = c.loop-p.invariant in
    let took = c.take-in-loop-p.ensures in
    let near = c.loop-p-test.true in
    let long = inv.long in
    let count = inv.count in
    let sizes = slots_counts c.loop-p.closed.slots in
    let s0 = sizes.0 in
    let s1 = sizes.1 in
    let flags = took.others.1 in
    record {
      same = took.others.0 ∙ inv.same;
      long = took.others.2 ∙ inv.long;
      full = λ k after before. let ne : k ≢ p + 1 = omega arith in ap (λ (l : List Bool). get_or l k false) flags ∙ (get_or-set_other (slots_filled c.loop-p.closed.slots) (p + 1) k false false ne ∙ inv.full k (omega arith) before);
      empty = λ k before. ap (λ (l : List Bool). get_or l k false) flags ∙ dite (ℕ_discrete k (p + 1))
          (λ e. subst (λ (j : ℕ). get_or (set (slots_filled c.loop-p.closed.slots) (p + 1) false) j false ≡ false) (sym e) (get_or-set_same (slots_filled c.loop-p.closed.slots) (p + 1) false false (omega arith)))
          (λ ne. get_or-set_other (slots_filled c.loop-p.closed.slots) (p + 1) k false false ne ∙ inv.empty k (omega arith));
      count = c.push_reserved.ensures.len ∙ ap (λ (k : ℕ). k + 1) count;
      room = c.push_reserved.ensures.capacity ∙ inv.room;
      stars = λ k entries homes.
          let at = homes (p + 1) (omega arith) (omega arith) in
          let found : Home c.in-Home.home ≡ Home (home_at k entries (p + 1)) = sym c.in-Home.is ∙ some-injective _ _ (sym took.value ∙ (ap (λ (l : List Slot). get_elem? l (p + 1)) inv.same ∙ at)) in
          let home_is = same_home c.in-Home.home (home_at k entries (p + 1)) (ap (λ (x : Slot). some x) found) in
          let star_is : c.into_parts-star.result.0.star ≡ star_in k (p + 1) = c.into_parts-star.ensures.star ∙ ap (λ (h : VersionedStar). h.star) home_is in
          let next : suc p ≡ p + 1 = omega arith in
          shown_more c.loop-p.stars.items c.push_reserved.new.self.items c.into_parts-star.result.0 c.push_reserved.ensures.items ∙ ((λ i. inv.stars k entries homes i ++ star_is i ∷ []) ∙ (sym (stars_next k.dim k.facets 0 p (p + 1) (omega arith)) ∙ ap (stars_of k.dim k.facets 0) next));
    }

pub returns-clause-stars : goal.returns-clause-stars
returns-clause-stars c = λ k entries homes.
    let last : c.loop-p.p ≡ c.args.places = omega (arith, c.loop-p-test.false, c.loop-p.auto.p-end) in
    c.loop-p.invariant.stars k entries homes ∙ ap (stars_of k.dim k.facets 0) last
