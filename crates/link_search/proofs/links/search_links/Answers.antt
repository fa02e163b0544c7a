use Rattle.std.proofs.Common.{◌≡◌, ◌∙◌, ℕ, List, take, get_or, slice_index_or, sym, subst, refl}
use Rattle.std.proofs.lemmas.List.{get_or_default, take_all}
use Rattle.complex_core.specs.Maps.{used}
use Rattle.complex_core.proofs.Members.{taken_more}
use Rattle.link_check.specs.Vertices.{vertex_link}
use Rattle.link_check.specs.LinkSearches.{HasFlags}
use Rattle.link_check.proofs.LinkSearching.{has_flags, rise_to, link_is_closed, link_is_small}
use Rattle.round_run.proofs.Counts.{rise_less}
use Rattle.link_search.proofs.Counting.{at_rest, none_left, one_more, given_up, at_end}
use Rattle.link_search.proofs.Walking.{Walked, walk_begins, walk_goes_on, walk_ends}
use Rattle.link_search.proofs.links.search_links.Goals as goal

pub returns-in_err-flags-clause-later : goal.returns-in_err-flags-clause-later
returns-in_err-flags-clause-later g c = at_rest (λ x. g.G.Gate.quits x) _

pub returns-in_err-vertices-clause-later : goal.returns-in_err-vertices-clause-later
returns-in_err-vertices-clause-later g c = at_rest (λ x. g.G.Gate.quits x) _

pub loop-vertex-init : goal.loop-vertex-init
loop-vertex-init g c = record {
  walked = walk_begins c.args.complex.now c.args.plan.now _ _ _ refl c.new-lists.ensures.items c.new-left.ensures.items;
  quits = none_left (λ x. g.G.Gate.quits x) c.args.gates.now _ c.new-left.ensures.items;
}

pub link_of-requires : goal.link_of-requires
link_of-requires g c =
    let k = c.args.complex.now in
    let items = c.as_slice-vertex-items.result.now in
    let i = c.loop-vertex.vertex-index in
    let v = slice_index_or c.as_slice-vertex-items.result.now c.loop-vertex.vertex-index 0 in
    let at : slice_index_or c.as_slice-vertex-items.result.now c.loop-vertex.vertex-index 0 ≡ get_or c.as_slice-vertex-items.result.now c.loop-vertex.vertex-index (slice_index_or c.as_slice-vertex-items.result.now c.loop-vertex.vertex-index 0) = get_or_default items i 0 v c.loop-vertex-test.true in
    let has : HasFlags c.args.complex.now (slice_index_or c.as_slice-vertex-items.result.now c.loop-vertex.vertex-index 0) c.deref.result.now = has_flags k v i c.in_ok-vertices.vertices.items items c.in_ok-flags.flags.items c.deref.result.now c.all_flags.ensures.complex c.requires.links.dim c.in_ok-vertices.ensures c.as_slice-vertex-items.ensures.value c.loop-vertex-test.true at c.deref.ensures.value c.in_ok-flags.ensures.flags in
    (k, has)

pub search_link-requires-clause-closed : goal.search_link-requires-clause-closed
search_link-requires-clause-closed g c κs within =
    let k = c.args.complex.now in
    let items = c.as_slice-vertex-items.result.now in
    let i = c.loop-vertex.vertex-index in
    let v = slice_index_or c.as_slice-vertex-items.result.now c.loop-vertex.vertex-index 0 in
    let at : slice_index_or c.as_slice-vertex-items.result.now c.loop-vertex.vertex-index 0 ≡ get_or c.as_slice-vertex-items.result.now c.loop-vertex.vertex-index (slice_index_or c.as_slice-vertex-items.result.now c.loop-vertex.vertex-index 0) = get_or_default items i 0 v c.loop-vertex-test.true in
    let has : HasFlags c.args.complex.now (slice_index_or c.as_slice-vertex-items.result.now c.loop-vertex.vertex-index 0) c.deref.result.now = has_flags k v i c.in_ok-vertices.vertices.items items c.in_ok-flags.flags.items c.deref.result.now c.all_flags.ensures.complex c.requires.links.dim c.in_ok-vertices.ensures c.as_slice-vertex-items.ensures.value c.loop-vertex-test.true at c.deref.ensures.value c.in_ok-flags.ensures.flags in
    let is : c.in_ok-link.link ≡ vertex_link c.args.complex.now (slice_index_or c.as_slice-vertex-items.result.now c.loop-vertex.vertex-index 0) = c.in_ok-link.ensures k has in
    link_is_closed k c.in_ok-link.link v c.all_flags.ensures.complex c.requires.links.closed is

pub search_link-requires-clause-labels : goal.search_link-requires-clause-labels
search_link-requires-clause-labels g c κs within =
    let k = c.args.complex.now in
    let items = c.as_slice-vertex-items.result.now in
    let i = c.loop-vertex.vertex-index in
    let v = slice_index_or c.as_slice-vertex-items.result.now c.loop-vertex.vertex-index 0 in
    let at : slice_index_or c.as_slice-vertex-items.result.now c.loop-vertex.vertex-index 0 ≡ get_or c.as_slice-vertex-items.result.now c.loop-vertex.vertex-index (slice_index_or c.as_slice-vertex-items.result.now c.loop-vertex.vertex-index 0) = get_or_default items i 0 v c.loop-vertex-test.true in
    let has : HasFlags c.args.complex.now (slice_index_or c.as_slice-vertex-items.result.now c.loop-vertex.vertex-index 0) c.deref.result.now = has_flags k v i c.in_ok-vertices.vertices.items items c.in_ok-flags.flags.items c.deref.result.now c.all_flags.ensures.complex c.requires.links.dim c.in_ok-vertices.ensures c.as_slice-vertex-items.ensures.value c.loop-vertex-test.true at c.deref.ensures.value c.in_ok-flags.ensures.flags in
    let is : c.in_ok-link.link ≡ vertex_link c.args.complex.now (slice_index_or c.as_slice-vertex-items.result.now c.loop-vertex.vertex-index 0) = c.in_ok-link.ensures k has in
    link_is_small k c.in_ok-link.link v c.all_flags.ensures.complex c.requires.links.labels is

pub returns-in_err-link-clause-later : goal.returns-in_err-link-clause-later
returns-in_err-link-clause-later g c = rise_less (λ x. g.G.Gate.quits x) _ _ _ c.loop-vertex.invariant.quits

pub returns-in_err-searched-clause-later : goal.returns-in_err-searched-clause-later
returns-in_err-searched-clause-later g c = given_up (λ x. g.G.Gate.quits x) _ _ _ _ c.loop-vertex.invariant.quits c.search_link.ensures.later

pub returns-in_err-file-clause-later : goal.returns-in_err-file-clause-later
returns-in_err-file-clause-later g c = given_up (λ x. g.G.Gate.quits x) _ _ _ _ c.loop-vertex.invariant.quits c.search_link.ensures.later

pub loop-vertex-preserved : goal.loop-vertex-preserved
loop-vertex-preserved g c =
    let k = c.args.complex.now in
    let items = c.as_slice-vertex-items.result.now in
    let i = c.loop-vertex.vertex-index in
    let v = slice_index_or c.as_slice-vertex-items.result.now c.loop-vertex.vertex-index 0 in
    let at : slice_index_or c.as_slice-vertex-items.result.now c.loop-vertex.vertex-index 0 ≡ get_or c.as_slice-vertex-items.result.now c.loop-vertex.vertex-index (slice_index_or c.as_slice-vertex-items.result.now c.loop-vertex.vertex-index 0) = get_or_default items i 0 v c.loop-vertex-test.true in
    let has : HasFlags c.args.complex.now (slice_index_or c.as_slice-vertex-items.result.now c.loop-vertex.vertex-index 0) c.deref.result.now = has_flags k v i c.in_ok-vertices.vertices.items items c.in_ok-flags.flags.items c.deref.result.now c.all_flags.ensures.complex c.requires.links.dim c.in_ok-vertices.ensures c.as_slice-vertex-items.ensures.value c.loop-vertex-test.true at c.deref.ensures.value c.in_ok-flags.ensures.flags in
    let is : c.in_ok-link.link ≡ vertex_link c.args.complex.now (slice_index_or c.as_slice-vertex-items.result.now c.loop-vertex.vertex-index 0) = c.in_ok-link.ensures k has in
    let all : c.as_slice-vertex-items.result.now ≡ used c.args.complex.now.facets = c.as_slice-vertex-items.ensures.value ∙ c.in_ok-vertices.ensures in
    let P : List ℕ → Type 0 = λ done. Walked k c.args.plan.now done c.file.new.lists.items c.file.new.left.items in
    record {
      walked = subst P (sym (taken_more items i v c.loop-vertex-test.true at))
          (walk_goes_on k c.args.plan.now (take i items) c.loop-vertex.lists.items c.file.new.lists.items c.loop-vertex.left.items c.file.new.left.items v c.in_ok-link.link c.in_ok-searched.searched
          c.all_flags.ensures.complex c.requires.links.labels (rise_to k v i items all c.loop-vertex-test.true at) is c.loop-vertex.invariant.walked c.in_ok-searched.ensures.answers c.in_ok-file.ensures);
      quits = one_more (λ x. g.G.Gate.quits x) c.args.gates.now c.loop-vertex.gates c.search_link.new.gates v c.in_ok-searched.searched c.loop-vertex.lists.items c.file.new.lists.items c.loop-vertex.left.items c.file.new.left.items c.loop-vertex.invariant.quits c.in_ok-searched.ensures.quits c.in_ok-file.ensures;
    }

pub returns-clause-answers : goal.returns-clause-answers
returns-clause-answers g c =
    walk_ends c.args.complex.now c.args.plan.now _ c.loop-vertex.lists.items c.loop-vertex.left.items c.links_of.result
    (take_all c.loop-vertex.vertex-index c.as_slice-vertex-items.result.now c.loop-vertex-test.false ∙ c.as_slice-vertex-items.ensures.value ∙ c.in_ok-vertices.ensures) c.loop-vertex.invariant.walked c.links_of.ensures

pub returns-clause-quits : goal.returns-clause-quits
returns-clause-quits g c = at_end (λ x. g.G.Gate.quits x) c.args.gates.now c.loop-vertex.gates c.loop-vertex.lists.items c.loop-vertex.left.items c.links_of.result c.loop-vertex.invariant.quits c.links_of.ensures

pub returns-clause-later : goal.returns-clause-later
returns-clause-later g c = rise_less (λ x. g.G.Gate.quits x) _ _ _ c.loop-vertex.invariant.quits
