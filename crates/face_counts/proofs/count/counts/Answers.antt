use Rattle.std.proofs.Common.{◌≡◌, ◌∙◌, sym, ap, ◌+◌, length, ◌++◌, ◌∷◌, []}
use Rattle.face_counts.specs.Faces.{faces, number}
use Rattle.face_counts.proofs.Parts.{sets_of_size}
use Rattle.face_counts.proofs.Sums.{next_number, small_more}
use Rattle.complex_core.specs.Subsets.{subsets_of}
use Rattle.complex_core.specs.Labels.{face_cmp}
use Rattle.complex_core.specs.Rising.{rising}
use Rattle.std.specs.List.{flat_map}
use Rattle.face_counts.proofs.count.counts.Goals as goal

pub loop-j-preserved : goal.loop-j-preserved
loop-j-preserved c =
    let fs = c.args.complex.now.facets in
    let n : c.in_ok-count_sets.field-0 ≡ number (faces fs) c.loop-j.j = c.in_ok-count_sets.ensures.count ∙ ap (λ gs. length (rising face_cmp (flat_map (subsets_of (c.loop-j.j + 1)) gs))) c.facets.ensures.facets ∙ ap length (sets_of_size c.loop-j.j fs) in
    let all : c.push.new.self.items ≡ c.loop-j.all.items ++ c.in_ok-count_sets.field-0 ∷ [] = c.in_ok-push.ensures.items in
    record {
      counted = all ∙ (λ i. c.loop-j.invariant.counted i ++ n i ∷ []) ∙ sym (next_number (faces fs) c.loop-j.j);
      small = rw all (small_more _ _ _ c.loop-j.invariant.small c.in_ok-count_sets.ensures.small);
    }
