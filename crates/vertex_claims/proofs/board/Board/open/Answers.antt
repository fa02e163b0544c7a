use Rattle.std.proofs.Common.{◌+◌, ℕ, List, ap, sym, ◌∙◌, subst}
use lib.ListN.{replicate}
use Rattle.complex_core.specs.Complexes.{ComplexView}
use Rattle.stars.specs.StarViews.{UsesUpTo, IsStarListOf, shown}
use Rattle.board_rule.specs.declared.setup.Setup.{Setup}
use Rattle.board_rule.proofs.Keeps.{opens}
use Rattle.vertex_claims.proofs.Ends.{may_open}
use Rattle.vertex_claims.proofs.board.Board.open.Goals as goal

pub new-requires : goal.new-requires
new-requires c =
    let setup : Setup = record { start = c.of-2.result; places = c.args.places; workers = c.args.workers; round = c.args.round } in
    let m = c.in_ok-of.field-0 in
    let start = sym c.of-2.ensures in
    let made = c.in_ok-slots.ensures in
    let zeros : ℕ → List ℕ = λ k. replicate (k + 1) 0 in
    opens setup _ _ (may_open setup _ _ m (shown c.into_stars-stars.result.items) made.0
    (subst (λ (k : ComplexView). IsStarListOf k m) start c.in_ok-of.ensures.stars)
    c.in_ok-of.ensures.places
    c.into_stars-stars.ensures
    made.1
    (c.as_slice.ensures.value ∙ (c.in_ok-words.ensures.items_if_clones_equal (λ y h. h) ∙ ap zeros c.from.ensures))
    made.2
    (subst (λ (k : ComplexView). UsesUpTo k c.args.places) start c.requires.places))
