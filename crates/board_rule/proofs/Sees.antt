-- What is known of the stars that are held, after each step that tells nothing of them.
use Rattle.std.proofs.Common.{ℕ}
use Rattle.board_rule.specs.Views.{without_item, without_journal}
use Rattle.board_rule.specs.Plays.{Sees}
use Rattle.board_rule.specs.declared.view.PassView.{PassView}
use Rattle.board_rule.proofs.Items.{item_without}

pub sees_left : (v : PassView) → Sees v → Sees (without_journal v)
sees_left v s = record { complex = s.complex; dim = s.dim; within = s.within; stars = s.stars; versions = s.versions }

-- a place from 1 goes
pub sees_less : (v : PassView) (p : ℕ) → Sees v → Sees (without_item v p)
sees_less v p s = record {
  complex = s.complex;
  dim = s.dim;
  within = s.within;
  stars = λ q y at. s.stars q y (item_without p q y v.items at);
  versions = λ q y at. s.versions q y (item_without p q y v.items at);
}
