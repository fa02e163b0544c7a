use Rattle.std.proofs.Common.{◌≡◌, ◌++◌, ◌∙◌, ap}
use Rattle.std.proofs.lemmas.List.Filters.{dedup_is}
use Rattle.complex_core.specs.Labels.{face_cmp}
use Rattle.complex_core.specs.Rising.{rising}
use Rattle.complex_core.proofs.Sorting.{sorted_sets}
use Rattle.flip_world.proofs.draft.joined.Goals as goal

pub returns : goal.returns
returns c =
    let all : c.extend_from_slice.new.self.items ≡ c.args.first.now ++ c.args.second.now = c.in_ok-extend_from_slice.ensures.items ∙ ap (λ gs. gs ++ c.args.second.now) c.in_ok-all.ensures.items in
    dedup_is _ _ _ c.dedup.ensures.filtered ∙ sorted_sets _ _ c.sort_unstable.ensures.permutation c.sort_unstable.ensures.sorted ∙ ap (rising face_cmp) all
