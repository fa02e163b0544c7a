use Rattle.std.proofs.Common.{◌≡◌, ◌∷◌, [], ◌++◌, List, map, ap, sym, refl, ◌∙◌}
use Rattle.std.proofs.lemmas.List.{map-append}
use Rattle.stars.specs.StarViews.{VertexStar, shown}
use Rattle.stars.proofs.Shown.{shown_more}
use Rattle.board_rule.specs.Views.{home}
use Rattle.board_rule.specs.declared.data.Slot.{Slot}
use Rattle.board_rule.specs.declared.data.Slot.TheVariants.{Journal, Home}
use Rattle.vertex_claims.proofs.slots.homes.Goals as goal

pub loop-star-preserved : goal.loop-star-preserved
loop-star-preserved c =
    let i = c.loop-star.invariant in
    let f : VertexStar → Slot = λ s. Home (home s 0) in
    let more : map f (shown (c.loop-star.yielded ++ c.in-Some.star ∷ [])) ≡ map f (shown c.loop-star.yielded) ++ f c.in-Some.star.star ∷ [] = ap (map f) (shown_more c.loop-star.yielded (c.loop-star.yielded ++ c.in-Some.star ∷ []) c.in-Some.star refl) ∙ map-append f (shown c.loop-star.yielded) (c.in-Some.star.star ∷ []) in
    (i.0, i.1, c.in_ok-push-2.ensures.items ∙ ((λ j. i.2 j ++ Home (c.new-in-loop-star.ensures j) ∷ []) ∙ ap (λ (l : List Slot). Journal i.0 ∷ l) (sym more)))
