use Rattle.std.proofs.Common.{◌≡◌, length}
use Rattle.complex_core.specs.Links.{link}
use Rattle.link_check.specs.BadLinks.{HasLink}
use Rattle.link_check.specs.Sizes.{AreFlagsAt}
use Rattle.link_check.proofs.Judged.{sets, sets_are, has_at, near_at, fact_some, fact_none, good_more, none_of_size, first_of_size}
use Rattle.link_check.proofs.bad.bad_of_size.Goals as goal

pub fact_at-requires : goal.fact_at-requires
fact_at-requires c =
    let all : c.deref-face-items.result.now ≡ sets c.args.size c.args.complex.now.facets = sets_are c.args.size c.args.complex.now.facets c.deref-face-items.result.now c.in_ok-faces.faces.items c.deref.result.now c.in_ok-flags.flags.items c.deref-face-items.ensures.value c.in_ok-faces.ensures c.deref.ensures.value c.in_ok-flags.ensures.flags in
    let has : HasLink c.args.complex.now c.face-item.result × (length c.face-item.result ≡ c.args.size) = has_at c.args.complex.now c.args.size c.loop-face.face-index c.face-item.result c.deref-face-items.result.now c.all_flags.ensures.complex c.requires.some c.requires.proper all c.loop-face-test.true c.face-item.is in
    (c.args.complex.now, near_at c.args.complex.now c.args.size c.face-item.result c.flags_at.result.now c.deref-in-loop-face.result.now c.in_ok-flags.flags.items c.all_flags.ensures.complex has c.flags_at.ensures c.deref-in-loop-face.ensures.value c.in_ok-flags.ensures.flags)

pub returns-in-Some : goal.returns-in-Some
returns-in-Some c =
    let k = c.args.complex.now in
    let all : c.deref-face-items.result.now ≡ sets c.args.size c.args.complex.now.facets = sets_are c.args.size c.args.complex.now.facets c.deref-face-items.result.now c.in_ok-faces.faces.items c.deref.result.now c.in_ok-flags.flags.items c.deref-face-items.ensures.value c.in_ok-faces.ensures c.deref.ensures.value c.in_ok-flags.ensures.flags in
    let has : HasLink c.args.complex.now c.face-item.result × (length c.face-item.result ≡ c.args.size) = has_at c.args.complex.now c.args.size c.loop-face.face-index c.face-item.result c.deref-face-items.result.now c.all_flags.ensures.complex c.requires.some c.requires.proper all c.loop-face-test.true c.face-item.is in
    let near : AreFlagsAt c.args.complex.now c.face-item.result c.flags_at.result.now = near_at c.args.complex.now c.args.size c.face-item.result c.flags_at.result.now c.deref-in-loop-face.result.now c.in_ok-flags.flags.items c.all_flags.ensures.complex has c.flags_at.ensures c.deref-in-loop-face.ensures.value c.in_ok-flags.ensures.flags in
    first_of_size k c.args.size c.loop-face.face-index (record { face = c.face-item.result; fact = c.in-Some.fact }) c.deref-face-items.result.now c.all_flags.ensures.complex all c.loop-face-test.true c.face-item.is has
    (fact_some (link k c.face-item.result) _ c.in-Some.fact c.in-Some.is (c.in_ok-fact.ensures k near)) c.loop-face.invariant

pub loop-face-preserved : goal.loop-face-preserved
loop-face-preserved c =
    let k = c.args.complex.now in
    let all : c.deref-face-items.result.now ≡ sets c.args.size c.args.complex.now.facets = sets_are c.args.size c.args.complex.now.facets c.deref-face-items.result.now c.in_ok-faces.faces.items c.deref.result.now c.in_ok-flags.flags.items c.deref-face-items.ensures.value c.in_ok-faces.ensures c.deref.ensures.value c.in_ok-flags.ensures.flags in
    let has : HasLink c.args.complex.now c.face-item.result × (length c.face-item.result ≡ c.args.size) = has_at c.args.complex.now c.args.size c.loop-face.face-index c.face-item.result c.deref-face-items.result.now c.all_flags.ensures.complex c.requires.some c.requires.proper all c.loop-face-test.true c.face-item.is in
    let near : AreFlagsAt c.args.complex.now c.face-item.result c.flags_at.result.now = near_at c.args.complex.now c.args.size c.face-item.result c.flags_at.result.now c.deref-in-loop-face.result.now c.in_ok-flags.flags.items c.all_flags.ensures.complex has c.flags_at.ensures c.deref-in-loop-face.ensures.value c.in_ok-flags.ensures.flags in
    good_more k c.loop-face.face-index c.face-item.result c.deref-face-items.result.now c.loop-face-test.true c.face-item.is (fact_none (link k c.face-item.result) _ c.in-None.is (c.in_ok-fact.ensures k near)) c.loop-face.invariant

pub returns : goal.returns
returns c =
    let all : c.deref-face-items.result.now ≡ sets c.args.size c.args.complex.now.facets = sets_are c.args.size c.args.complex.now.facets c.deref-face-items.result.now c.in_ok-faces.faces.items c.deref.result.now c.in_ok-flags.flags.items c.deref-face-items.ensures.value c.in_ok-faces.ensures c.deref.ensures.value c.in_ok-flags.ensures.flags in
    none_of_size c.args.complex.now c.args.size c.loop-face.face-index c.deref-face-items.result.now c.all_flags.ensures.complex all c.loop-face-test.false c.loop-face.invariant
