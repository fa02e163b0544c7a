use Rattle.std.proofs.Common.{◌≡◌, ◌∷◌, [], map}
use Rattle.board_rule.specs.Books.{Book}
use Rattle.stars.specs.StarViews.{shown}
use Rattle.board_rule.specs.Views.{home}
use Rattle.board_rule.specs.declared.data.Slot.TheVariants.{Journal, Home}
use Rattle.vertex_claims.proofs.slots.homes.Given as goal

abbrev pub invariant-loop-star : goal.invariant-loop-star
invariant-loop-star l = (b : Book) × (b.entries ≡ []) × (l.slots.items ≡ Journal b ∷ map (λ s. Home (home s 0)) (shown l.yielded))
