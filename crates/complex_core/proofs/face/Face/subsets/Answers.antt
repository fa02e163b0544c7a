use Rattle.std.proofs.Common.{rules, ◌≡◌, sym, ◌∙◌, ap, subst, ◌∷◌, ◌++◌, [], length}
use Rattle.std.specs.Vec.{vec_len}
use Rattle.itertools.specs.Odometer.{ways}
use Rattle.itertools.specs.Pool.{ascending_low, ascending_high, combination_left}
use Rattle.complex_core.specs.Labels.{IsFace}
use Rattle.complex_core.specs.Subsets.{subsets_of}
use Rattle.std.specs.Ordering.{nat_cmp}
use Rattle.complex_core.proofs.Sets.{above_tail}
use Rattle.complex_core.proofs.SubsetLists.{subset_is, subset_from, subsets_rise}
use Rattle.complex_core.proofs.Combinations.{coming_first, coming_next}
use Rattle.complex_core.proofs.face.Face.subsets.Goals as goal

pub loop-labels-init : goal.loop-labels-init
loop-labels-init c =
    let made = c.in_ok-labels-items.labels-items in
    let pool : made.pool.items ≡ c.args.self.now = search rules in
    let long : vec_len made.pool ≡ length made.pool.items = made.pool.ok.0 in
    let left : combination_left made ≡ ways ascending_low (ascending_high (length made.pool.items) c.args.size) c.args.size [] = c.in_ok-labels-items.ensures.places ∙ ap (λ n. ways ascending_low (ascending_high n c.args.size) c.args.size []) long in
    let same = c.into_iter-labels-iterator.ensures.into_iter_gives in
    record {
      can = search rules;
      coming = rw same (coming_first (λ x y. y ≡ x) (λ x y e. e) c.args.size c.args.self.now c.new-all.result.items made.pool.items (combination_left made) c.new-all.ensures.items pool left);
    }

pub extend-requires : goal.extend-requires
extend-requires c =
    let came = coming_next (λ x y. y ≡ x) c.args.size c.args.self.now c.loop-labels.all.items c.loop-labels.labels-iterator c.next.new.self c.in-Some.labels c.in_ok-labels.labels c.in_ok-labels.was c.in-Some.ensures.steps c.loop-labels.invariant.coming in
    let face : IsFace c.in_ok-labels.labels.items = (subset_is c.args.size c.args.self.now c.in_ok-labels.labels.items c.labels.ensures.face came.there).face in
    subst IsFace (sym ((λ i. c.new-subset.ensures i ++ c.deref-in-loop-labels.ensures.value i))) face

pub loop-labels-preserved : goal.loop-labels-preserved
loop-labels-preserved c =
    let came = coming_next (λ x y. y ≡ x) c.args.size c.args.self.now c.loop-labels.all.items c.loop-labels.labels-iterator c.next.new.self c.in-Some.labels c.in_ok-labels.labels c.in_ok-labels.was c.in-Some.ensures.steps c.loop-labels.invariant.coming in
    let set : c.extend.new.self ≡ c.in_ok-labels.labels.items = c.extend.ensures ∙ (λ i. c.new-subset.ensures i ++ c.deref-in-loop-labels.ensures.value i) in
    let all : c.push.new.self.items ≡ c.loop-labels.all.items ++ c.in_ok-labels.labels.items ∷ [] = c.in_ok-push.ensures.items ∙ ap (λ s. c.loop-labels.all.items ++ s ∷ []) set in
    record {
      can = search rules;
      coming = rw all came.coming;
    }

pub returns-clause-rising : goal.returns-clause-rising
returns-clause-rising c =
    let all : c.loop-labels.all.items ≡ subsets_of c.args.size c.args.self.now = search rules in
    rw all (subsets_rise c.args.size c.args.self.now (above_tail nat_cmp 0 c.args.self.now c.labels.ensures.face.rising))

pub returns-clause-each : goal.returns-clause-each
returns-clause-each c =
    let all : c.loop-labels.all.items ≡ subsets_of c.args.size c.args.self.now = search rules in
    rw all (λ set. (subset_is c.args.size c.args.self.now set c.labels.ensures.face, subset_from c.args.size c.args.self.now set c.labels.ensures.face))
