use Rattle.std.proofs.Common.{inr}
use Rattle.cert_replay.proofs.VertexLists.{vertex_used, judged, shown_more, link_breaks, link_elsewhere, links_shown}
use Rattle.cert_replay.proofs.judge.replay_lists.Goals as goal

pub link_of-requires-clause-used : goal.link_of-requires-clause-used
link_of-requires-clause-used c = vertex_used c.args.lists.now _ c.loop-list.list-index c.list-item.result c.requires.vertices c.loop-list-test.true c.list-item.is

pub returns-in-Bad : goal.returns-in-Bad
returns-in-Bad c = link_breaks c.args.complex.now c.args.lists.now c.loop-list.list-index c.list-item.result c.in_ok-more.field-0 c.loop-list.flips c.in-Bad.number c.in_ok-number-in-Bad.number c.in-Bad.fault c.requires.vertices c.loop-list.invariant
    (judged c.args.complex.now c.in_ok-link.link c.args.lists.now c.loop-list.list-index c.list-item.result c.deref.result.now c.in_ok-more.field-0 c.loop-list-test.true c.list-item.is c.in_ok-link.ensures c.deref.ensures.value c.in_ok-more.ensures)
    c.in-Bad.is c.in_ok-number-in-Bad.ensures

pub returns-in-WrongEnd : goal.returns-in-WrongEnd
returns-in-WrongEnd c = inr (link_elsewhere c.args.complex.now c.args.lists.now c.loop-list.list-index c.list-item.result c.in_ok-more.field-0 c.loop-list.flips c.requires.vertices c.loop-list.invariant
    (judged c.args.complex.now c.in_ok-link.link c.args.lists.now c.loop-list.list-index c.list-item.result c.deref.result.now c.in_ok-more.field-0 c.loop-list-test.true c.list-item.is c.in_ok-link.ensures c.deref.ensures.value c.in_ok-more.ensures)
    c.in-WrongEnd.is)

pub loop-list-preserved : goal.loop-list-preserved
loop-list-preserved c = shown_more c.args.complex.now c.args.lists.now c.loop-list.list-index c.list-item.result c.in_ok-more.field-0 c.loop-list.flips c.in-Valid.more c.in-Valid.facets c.in_ok-flips-in-Valid.flips c.loop-list.invariant
    (judged c.args.complex.now c.in_ok-link.link c.args.lists.now c.loop-list.list-index c.list-item.result c.deref.result.now c.in_ok-more.field-0 c.loop-list-test.true c.list-item.is c.in_ok-link.ensures c.deref.ensures.value c.in_ok-more.ensures)
    c.in-Valid.is c.in_ok-flips-in-Valid.ensures

pub returns : goal.returns
returns c = links_shown c.args.complex.now c.args.lists.now c.loop-list.list-index c.loop-list.flips c.requires.vertices c.loop-list-test.false c.loop-list.invariant
