use Rattle.std.proofs.Common.{rules}
use Rattle.std.specs.Ordering.{nat_cmp}
use Rattle.std.specs.BTreeMap.{get}
use Rattle.facet_iso.specs.Trials.{AreImages}
use Rattle.facet_iso.proofs.Trying.{sound_of}
use Rattle.facet_iso.proofs.Mapping.{all_known, pairs_positive, none_twice, answer_made, when_none, when_some}
use Rattle.facet_iso.proofs.trial.map_of.Goals as goal

pub spread-requires-clause-sound : goal.spread-requires-clause-sound
spread-requires-clause-sound c = sound_of c.args.first.now c.args.second.now c.args.search.now c.requires.search

pub returns-in_default : goal.returns-in_default
returns-in_default c = when_none c.args.first.now c.args.second.now c.args.order.now c.in_ok-images.field-0 (c.in_ok-images.ensures c.args.first.now c.args.second.now c.requires.search c.requires.facet c.requires.order) c.in_default.is

pub pairs_of-requires : goal.pairs_of-requires
pairs_of-requires c =
    let a : AreImages c.args.first.now c.args.second.now c.args.order.now (get nat_cmp c.in-Some.images) = when_some c.args.first.now c.args.second.now c.args.order.now c.in_ok-images.field-0 c.in-Some.images (c.in_ok-images.ensures c.args.first.now c.args.second.now c.requires.search c.requires.facet c.requires.order) c.in-Some.is in
    all_known c.args.first.now c.args.second.now c.requires.search.first c.args.order.now (get nat_cmp c.in-Some.images) a c.in_ok-labels.field-0.items c.deref.result.now c.in_ok-labels.ensures c.deref.ensures.value

pub from_pairs-requires : goal.from_pairs-requires
from_pairs-requires c =
    let a : AreImages c.args.first.now c.args.second.now c.args.order.now (get nat_cmp c.in-Some.images) = when_some c.args.first.now c.args.second.now c.args.order.now c.in_ok-images.field-0 c.in-Some.images (c.in_ok-images.ensures c.args.first.now c.args.second.now c.requires.search c.requires.facet c.requires.order) c.in-Some.is in
    pairs_positive c.args.first.now c.args.second.now c.requires.search.first c.args.order.now (get nat_cmp c.in-Some.images) a c.in_ok-labels.field-0.items c.deref.result.now c.in_ok-pairs.pairs.items c.deref-2.result.now c.in_ok-labels.ensures c.deref.ensures.value c.in_ok-pairs.ensures c.deref-2.ensures.value

pub returns-in-Ok : goal.returns-in-Ok
returns-in-Ok c =
    let a : AreImages c.args.first.now c.args.second.now c.args.order.now (get nat_cmp c.in-Some.images) = when_some c.args.first.now c.args.second.now c.args.order.now c.in_ok-images.field-0 c.in-Some.images (c.in_ok-images.ensures c.args.first.now c.args.second.now c.requires.search c.requires.facet c.requires.order) c.in-Some.is in
    answer_made c.args.first.now c.args.second.now c.requires.search.first c.args.order.now (get nat_cmp c.in-Some.images) a c.in_ok-labels.field-0.items c.deref.result.now c.in_ok-pairs.pairs.items c.deref-2.result.now _ c.in_ok-labels.ensures c.deref.ensures.value c.in_ok-pairs.ensures c.deref-2.ensures.value c.in-Ok.ensures.pairs _ (search rules) c.if_takes.ensures.none c.if_takes.ensures.some

pub returns-in-Err-Twice : goal.returns-in-Err-Twice
returns-in-Err-Twice c =
    let a : AreImages c.args.first.now c.args.second.now c.args.order.now (get nat_cmp c.in-Some.images) = when_some c.args.first.now c.args.second.now c.args.order.now c.in_ok-images.field-0 c.in-Some.images (c.in_ok-images.ensures c.args.first.now c.args.second.now c.requires.search c.requires.facet c.requires.order) c.in-Some.is in
    none_twice c.args.first.now c.args.second.now c.requires.search.first c.args.order.now (get nat_cmp c.in-Some.images) a c.in_ok-labels.field-0.items c.deref.result.now c.in_ok-pairs.pairs.items c.deref-2.result.now c.in-Err-Twice.field-0-0 c.in_ok-labels.ensures c.deref.ensures.value c.in_ok-pairs.ensures c.deref-2.ensures.value (search rules)
