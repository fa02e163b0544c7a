-- The rule over any run of steps.
use Rattle.std.proofs.Common.{◌≡◌, suc, ◌+◌, map, List, [], ◌∷◌, length, refl, ap, ◌∙◌, length-set}
use Rattle.std.specs.List.{AllByRecursion}
use mathlib.Core.Option.{none, some}
use Rattle.atomic_table.specs.Table.{opening}
use Rattle.board_rule.specs.Rule.{Board, Ruled, opener}
use Rattle.board_rule.specs.Steps.{Moves, wins_first, loses_first, wins_later, wins_journal, loses_later, releases, leaves, writes, hands_out, takes_back, IsRun, RunningLaw}
use Rattle.board_rule.specs.declared.setup.Setup.{Setup}
use Rattle.board_rule.specs.declared.data.Slot.{Slot}
use Rattle.board_rule.specs.declared.data.Slot.TheVariants.{Journal, Home}
use Rattle.board_rule.proofs.Keeps.{opens}
use Rattle.board_rule.proofs.Lawful.{first_won, first_refused, later_won, journal_won, later_refused, release_law, leave_law, commit_law, hand_out_law, take_back_law}

-- the rule, and as many slots as there are places
abbrev Whole : Setup → Board → Type 0
Whole setup s = Ruled setup s × (length s.homes ≡ setup.places + 1)

sized : (setup : Setup) (s t made : Board) → t ≡ made → length made.homes ≡ length s.homes → length s.homes ≡ setup.places + 1 → length t.homes ≡ setup.places + 1
sized setup s t made is same wide = ap (λ (u : Board). length u.homes) is ∙ (same ∙ wide)

moved : (setup : Setup) (s t : Board) → Whole setup s → Moves setup s t → Whole setup t
moved setup s t w (wins_first id p k) = ((first_won setup s t w.0 id p k).0, sized setup s t _ k.after (length-set s.homes p none) w.1)
moved setup s t w (loses_first id p k) = ((first_refused setup s t w.0 id p k).0, sized setup s t _ k.after refl w.1)
moved setup s t w (wins_later id p k) = ((later_won setup s t w.0 id p k).0, sized setup s t _ k.after (length-set s.homes p none) w.1)
moved setup s t w (wins_journal id k) = ((journal_won setup s t w.0 id k).0, sized setup s t _ k.after (length-set s.homes 0 none) w.1)
moved setup s t w (loses_later id p k) = ((later_refused setup s t w.0 id p k).0, sized setup s t _ k.after refl w.1)
moved setup s t w (releases id p k) = ((release_law setup s t w.0 id p w.1 k).0, sized setup s t _ k.after (length-set s.homes p (some (Home k.home))) w.1)
moved setup s t w (leaves id k) = ((leave_law setup s t w.0 id w.1 k).0, sized setup s t _ k.after (length-set s.homes 0 (some (Journal k.book))) w.1)
moved setup s t w (writes id e k) = ((commit_law setup s t w.0 id e w.1 k).0, sized setup s t _ k.after (length-set s.homes 0 (some (Journal k.book))) w.1)
moved setup s t w (hands_out id k) = ((hand_out_law setup s t w.0 id k).0, sized setup s t _ k.after refl w.1)
moved setup s t w (takes_back id other k) = ((take_back_law setup s t w.0 id other k).0, sized setup s t _ k.after refl w.1)

all_whole : (setup : Setup) (s : Board) (states : List Board) → Whole setup s → IsRun setup s states → AllByRecursion (Ruled setup) states
all_whole setup s [] w run = tt
all_whole setup s (t ∷ ts) w run = let n = moved setup s t w run.0 in (n.0, all_whole setup t ts n run.1)

mapped : (slots : List Slot) → length (map (λ (x : Slot). some x) slots) ≡ length slots
mapped [] = refl
mapped (x ∷ xs) = ap suc (mapped xs)

pub running_law : RunningLaw
running_law setup words slots states o wide run = all_whole setup (opening words slots (opener setup)) states (opens setup words slots o, mapped slots ∙ wide) run
