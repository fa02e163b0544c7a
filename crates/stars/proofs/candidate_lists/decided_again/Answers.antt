use Rattle.std.proofs.Common.{rules, ◌<◌, ◌∙◌, length, get_or, arith}
use Rattle.std.proofs.lemmas.List.{length-set}
use Rattle.stars.specs.StarViews.{VertexStar}
use Rattle.stars.specs.CandidateLists.{CandidateList}
use Rattle.stars.proofs.Keeping.{Fits, halfway_goes_on, halfway_ends, old_rises, decided}
use Rattle.stars.proofs.candidate_lists.decided_again.Goals as goal

pub decide-requires-clause-rising : goal.decide-requires-clause-rising
decide-requires-clause-rising c =
    let l : CandidateList = c.index_mut.result.now in
    let old : VertexStar = c.requires.lists.0 in
    let inside : c.loop-place.place < length c.loop-place.lists.items = (search rules) in
    let f : Fits old (get_or c.loop-place.lists.items c.loop-place.place l) = (c.loop-place.invariant.half old c.requires.lists.1 c.requires.lists.2 c.requires.lists.3).left c.loop-place.place l (omega arith) inside in
    old_rises old l (get_or c.loop-place.lists.items c.loop-place.place l) c.index_mut.ensures.value f

pub loop-place-preserved : goal.loop-place-preserved
loop-place-preserved c =
    let l : CandidateList = c.index_mut.result.now in
    let inside : c.loop-place.place < length c.loop-place.lists.items = (search rules) in
    record {
      long = length-set c.loop-place.lists.items c.loop-place.place c.decide.new.self ∙ c.loop-place.invariant.long;
      half = λ old h a w.
          let f : Fits old (get_or c.loop-place.lists.items c.loop-place.place l) = (c.loop-place.invariant.half old h a w).left c.loop-place.place l (omega arith) inside in
          halfway_goes_on old c.args.star.now.star c.loop-place.place c.loop-place.lists.items c.decide.new.self inside (c.loop-place.invariant.half old h a w)
          (decided old c.args.star.now.star c.args.labels.now l (get_or c.loop-place.lists.items c.loop-place.place l) c.decide.new.self h c.decide.ensures.star c.requires.labels w c.index_mut.ensures.value f c.decide.ensures.index (search rules));
    }

pub returns : goal.returns
returns c =
    let old : VertexStar = c.requires.lists.0 in
    halfway_ends old c.args.star.now.star c.loop-place.place c.loop-place.lists.items (search rules) (c.loop-place.invariant.half old c.requires.lists.1 c.requires.lists.2 c.requires.lists.3)
