use Rattle.std.proofs.Common.{◌≡◌, ◌∙◌, ap, length}
use Rattle.std.specs.List.{flat_map}
use Rattle.std.proofs.lemmas.List.{take_all}
use Rattle.std.proofs.lemmas.List.Filters.{dedup_is}
use Rattle.complex_core.specs.Labels.{face_cmp}
use Rattle.complex_core.specs.Rising.{rising}
use Rattle.complex_core.specs.Subsets.{subsets_of}
use Rattle.complex_core.proofs.Sorting.{sorted_sets}
use Rattle.face_counts.proofs.count.count_sets.Goals as goal

pub returns-clause-count : goal.returns-clause-count
returns-clause-count c =
    let all : c.loop-facet.sets.items ≡ flat_map (subsets_of c.args.size) c.args.facets.now = c.loop-facet.invariant ∙ ap (flat_map (subsets_of c.args.size)) (take_all c.loop-facet.facet-index c.args.facets.now c.loop-facet-test.false) in
    let once : c.dedup.new.self.items ≡ rising face_cmp c.loop-facet.sets.items = dedup_is _ _ _ c.dedup.ensures.filtered ∙ sorted_sets _ _ c.sort_unstable.ensures.permutation c.sort_unstable.ensures.sorted in
    ap length (c.as_slice.ensures.value ∙ once ∙ ap (rising face_cmp) all)
