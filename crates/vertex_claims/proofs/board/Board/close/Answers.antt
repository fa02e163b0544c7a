use Rattle.std.proofs.Common.{◌≡◌, ℕ, List, ap, sym, ◌∙◌, subst, arith, length}
use Rattle.atomic_table.specs.Table.{Final, Seen}
use Rattle.flip_rules.specs.Journals.{flat}
use Rattle.flip_rules.proofs.Replays.{replay_dim}
use Rattle.stars.specs.StarViews.{VertexStar, AreNumbered, shown}
use Rattle.stars.specs.Building.{stars_of}
use Rattle.board_rule.specs.Rule.{Ruled}
use Rattle.board_rule.specs.Ends.{AllBack, Closes}
use Rattle.board_rule.specs.declared.data.Slot.{Slot}
use Rattle.board_rule.proofs.Keeps.{closes}
use Rattle.vertex_claims.specs.Passes.{main_knows}
use Rattle.vertex_claims.specs.declared.board.Board.{Board}
use Rattle.vertex_claims.specs.declared.main_seat.Main.{Main}
use Rattle.vertex_claims.proofs.Ends.{is_end, numbered_stars}
use Rattle.vertex_claims.proofs.Seats.{is_a_main}
use Rattle.vertex_claims.proofs.board.Board.close.Goals as goal
use Rattle.stars.proofs.Finding.{length-shown}
use Rattle.stars.proofs.Placing.{length-stars_of}

-- what the rule says at the end
at_end : (board : Board) (main : Main) (ws : List ℕ) (xs : List Slot) → AllBack (main_knows main) → Final (Seen (Ruled board.table.shared.key) main.seat.id main.seat.me.0) ws xs → Closes board.table.shared.key (main_knows main) xs
at_end board main ws xs back f = closes board.table.shared.key main.seat.id main.seat.me.0 (main_knows main) ws xs (is_a_main main.seat.me.0 main.is_main) back f

-- the complex at the end has the dimension of the start
same_dim : (board : Board) (main : Main) (xs : List Slot) (x : Closes board.table.shared.key (main_knows main) xs) → x.now.dim ≡ board.table.shared.key.start.value.dim
same_dim board main xs x = replay_dim board.table.shared.key.start.value x.now (flat x.book.entries) x.closed.written.replays

numbered_as : (stars : List VertexStar) (d e : ℕ) (facets : List (List ℕ)) (n : ℕ) → stars ≡ stars_of d facets 0 n → d ≡ e → AreNumbered e stars
numbered_as stars d e facets n is same = subst (λ (ss : List VertexStar). AreNumbered e ss) (sym is) (subst (λ (j : ℕ). AreNumbered j (stars_of d facets 0 n)) same (numbered_stars d facets 0 n))

pub unpack-journal-requires-clause-journal : goal.unpack-journal-requires-clause-journal
unpack-journal-requires-clause-journal c = let x = at_end c.args.self c.args.main _ _ c.requires.back c.close_with.ensures.values.2 in (x.book, x.journal)

pub unpack-journal-requires-clause-stars : goal.unpack-journal-requires-clause-stars
unpack-journal-requires-clause-stars c =
    let x = at_end c.args.self c.args.main _ _ c.requires.back c.close_with.ensures.values.2 in
    let told = c.args.self.told in
    let places = c.from-2.ensures in
    λ p pos near. (_, x.stars p pos (omega arith))

pub from_stars-requires-clause-few : goal.from_stars-requires-clause-few
from_stars-requires-clause-few c =
    let x = at_end c.args.self c.args.main _ _ c.requires.back c.close_with.ensures.values.2 in
    let told = c.args.self.told in
    let places = c.from-2.ensures in
    let stars = c.unpack-journal.ensures.stars x.now x.book.entries (λ p pos near. x.stars p pos (omega arith)) in
    omega (arith, ap length stars, length-shown c.unpack-journal.result.1.items, length-stars_of x.now.dim x.now.facets 0 c.from-2.result)

pub from_stars-requires-clause-numbered : goal.from_stars-requires-clause-numbered
from_stars-requires-clause-numbered c =
    let x = at_end c.args.self c.args.main _ _ c.requires.back c.close_with.ensures.values.2 in
    let told = c.args.self.told in
    let places = c.from-2.ensures in
    let stars = c.unpack-journal.ensures.stars x.now x.book.entries (λ p pos near. x.stars p pos (omega arith)) in
    numbered_as (shown c.unpack-journal.result.1.items) x.now.dim c.args.self.dim x.now.facets c.from-2.result stars (same_dim c.args.self c.args.main _ x ∙ told.3)

pub returns : goal.returns
returns c =
    let x = at_end c.args.self c.args.main _ _ c.requires.back c.close_with.ensures.values.2 in
    let told = c.args.self.told in
    let places = c.from-2.ensures in
    let stars = c.unpack-journal.ensures.stars x.now x.book.entries (λ p pos near. x.stars p pos (omega arith)) in
    is_end c.args.self.table.shared.key (main_knows c.args.main) _ x c.unpack-journal.result.0 c.in_ok-into_journal.field-0 c.from_stars.result c.unpack-journal.ensures.journal c.in_ok-into_journal.ensures
    (c.from_stars.ensures.dim ∙ sym told.3)
    (c.from_stars.ensures.stars ∙ (stars ∙ ap (stars_of x.now.dim x.now.facets 0) (places ∙ sym told.0)))
    (same_dim c.args.self c.args.main _ x)
