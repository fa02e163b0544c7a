-- What main and the passes know, and what changes in it.
use Rattle.std.specs.Prelude.{◌≡◌, ℕ, ◌+◌, Bool, true, false, cond, ◌==◌, List, [], ◌∷◌, ◌++◌, map, length, slice_set}
use Rattle.complex_core.specs.Complexes.{ComplexView}
use Rattle.flip_rules.specs.Entries.{JournalEntry}
use Rattle.flip_rules.specs.Journals.{touches}
use Rattle.flip_rules.specs.declared.flip.Flip.{Flip}
use Rattle.star_laws.specs.Stars.{star, star_after_all, flips_touch}
use Rattle.stars.specs.StarViews.{VertexStar}
use Rattle.board_rule.specs.Items.{has_item, without}
use Rattle.board_rule.specs.Tries.{Try, won_try, lost_try, at_last, noted_at, refused_at}
use Rattle.board_rule.specs.Homes.{VersionedStar}
use Rattle.board_rule.specs.declared.view.PassView.{PassView}
use Rattle.board_rule.specs.declared.kept.Kept.{Kept}
use Rattle.board_rule.specs.declared.view.MainView.{MainView}
use Rattle.board_rule.specs.declared.view.View.{View}
use Rattle.board_rule.specs.declared.view.View.TheVariants.{Main, Pass, Spent}

-- ---- homes

abbrev pub home : VertexStar → ℕ → VersionedStar
home s n = record { star = s; version = n }

-- the star of a place
abbrev pub star_in : ComplexView → ℕ → VertexStar
star_in k p = record { vertex = p; dim = k.dim; rows = star k.facets p }

-- the star of a place in a complex, and how many entries of a journal touch the place
abbrev pub home_at : ComplexView → List JournalEntry → ℕ → VersionedStar
home_at k journal p = home (star_in k p) (touches journal p)

-- a place's home after an entry of these flips
abbrev pub flipped_home : List Flip → ℕ → VersionedStar → VersionedStar
flipped_home flips p x = home (record x.star { rows = star_after_all x.star.rows flips p }) (x.version + cond (flips_touch p flips) 1 0)

abbrev pub all_flipped : List Flip → List (ℕ × VersionedStar) → List (ℕ × VersionedStar)
all_flipped flips items = map (λ x. (x.0, flipped_home flips x.0 x.1)) items

-- ---- a pass

-- it holds the place
abbrev pub keeps : PassView → ℕ → Bool
keeps v p = cond (p == 0) v.has_journal (has_item v.items p)

-- it holds no place
abbrev pub Empty : PassView → Type 0
Empty v = (p : ℕ) → keeps v p ≡ false

-- a pass that was just handed out
abbrev pub newcomer : ComplexView → ℕ → ℕ → PassView
newcomer start places worker = record { worker = worker; start = start; places = places; items = []; seen = start; has_journal = false; journal = []; mine = []; claiming = false; tries = [] }

-- a first claim, won and refused
abbrev pub opened_by : PassView → ℕ → VersionedStar → ComplexView → PassView
opened_by v p x k = record v { items = (p, x) ∷ v.items; seen = k; claiming = true; tries = won_try p x (length v.mine) ∷ v.tries }

abbrev pub lost_by : PassView → ℕ → ℕ → PassView
lost_by v p o = record v { tries = lost_try p o (length v.mine) ∷ v.tries }

-- a later claim of a place from 1, won
abbrev pub with_item : PassView → ℕ → VersionedStar → ComplexView → PassView
with_item v p x k = record v { items = (p, x) ∷ v.items; seen = k; tries = at_last (noted_at p x) v.tries }

-- a later claim of any place, refused
abbrev pub counted : PassView → ℕ → ℕ → PassView
counted v p o = record v { tries = at_last (refused_at p o) v.tries }

-- a claim of place 0, won
abbrev pub with_journal : PassView → List JournalEntry → PassView
with_journal v journal = record v { has_journal = true; journal = journal }

-- a place from 1 is given back
abbrev pub without_item : PassView → ℕ → PassView
without_item v p = record v { items = without p v.items; claiming = false }

-- place 0 is given back
abbrev pub without_journal : PassView → PassView
without_journal v = record v { has_journal = false; journal = [] }

-- an entry is written, and place 0 is given back
abbrev pub committed : PassView → JournalEntry → ComplexView → PassView
committed v e k = record v { items = all_flipped e.flips v.items; seen = k; has_journal = false; journal = []; mine = v.mine ++ e ∷ []; claiming = false }

-- ---- main

abbrev pub kept : Bool → List JournalEntry → List Try → Kept
kept gone mine tries = record { gone = gone; mine = mine; tries = tries }

-- nothing is kept of a pass that lives
abbrev pub living : Kept
living = kept false [] []

-- a pass was handed out
abbrev pub one_more_pass : MainView → MainView
one_more_pass c = record c { back = c.back ++ living ∷ [] }

-- this pass was taken back
abbrev pub one_back : MainView → PassView → MainView
one_back c v = record c { back = slice_set c.back v.worker (kept true v.mine v.tries) }

-- ---- seats

abbrev pub nowhere : ComplexView
nowhere = record { dim = 0; facets = [] }

abbrev pub pass_view_of : View → PassView
pass_view_of (Main c) = newcomer nowhere 0 0
pass_view_of (Pass v) = v
pass_view_of Spent = newcomer nowhere 0 0

abbrev pub is_pass : View → Bool
is_pass (Main c) = false
is_pass (Pass v) = true
is_pass Spent = false

abbrev pub is_main : View → Bool
is_main (Main c) = true
is_main (Pass v) = false
is_main Spent = false

abbrev pub main_view_of : View → MainView
main_view_of (Main c) = c
main_view_of (Pass v) = record { start = nowhere; places = 0; back = [] }
main_view_of Spent = record { start = nowhere; places = 0; back = [] }
