-- What each step tells its thread: of the step, the seat before, the number found and the seat after. A seat is its view and the slots that it holds.
use Rattle.std.specs.Prelude.{◌≡◌, ◌≢◌, ℕ, ◌<◌, ◌≤◌, ◌^◌, List, [], ◌∷◌, ◌++◌, length}
use mathlib.Core.Option.{some}
use Rattle.atomic_table.specs.Table.{Me, Step, rest}
use Rattle.complex_core.specs.Complexes.{ComplexView, IsComplex}
use Rattle.flip_rules.specs.Entries.{JournalEntry}
use Rattle.stars.specs.StarViews.{UsesUpTo}
use Rattle.board_rule.specs.Books.{Book}
use Rattle.board_rule.specs.Items.{item}
use Rattle.board_rule.specs.Tries.{wins}
use Rattle.board_rule.specs.Views.{star_in, pass_view_of, main_view_of, newcomer, opened_by, lost_by, with_item, counted, with_journal, without_item, without_journal, committed, one_more_pass, one_back}
use Rattle.board_rule.specs.Homes.{VersionedStar}
use Rattle.board_rule.specs.declared.data.Slot.{Slot}
use Rattle.board_rule.specs.declared.data.Slot.TheVariants.{Journal, Home}
use Rattle.board_rule.specs.declared.view.PassView.{PassView}
use Rattle.board_rule.specs.declared.view.View.{View}
use Rattle.board_rule.specs.declared.view.View.TheVariants.{Main, Pass}

abbrev pub Seated : Type 0
Seated = Me Slot View

abbrev pub Tells : Type 1
Tells = Step Slot → Seated → ℕ → Seated → Type 0

-- the stars that a pass knows are stars of one complex of the start's dimension, all labels of which are places, and each version fits a word
pub record Sees (v : PassView) : Type 0 where
  pub complex : IsComplex v.seen
  pub dim : v.seen.dim ≡ v.start.dim
  pub within : UsesUpTo v.seen v.places
  pub stars : (p : ℕ) (x : VersionedStar) → item v.items p ≡ some x → (0 < p) × (x.star ≡ star_in v.seen p)
  pub versions : (p : ℕ) (x : VersionedStar) → item v.items p ≡ some x → x.version < 2 ^ 64

-- the word names another pass
abbrev pub IsRefused : ℕ → ℕ → Type 0
IsRefused w r = (r ≢ 0) × (r ≢ w) × (r < 65536)

-- the first claim of a try
abbrev pub began : Tells
began st m r n = (r ≡ 0 → (x : VersionedStar) × (k : ComplexView) × (n ≡ (Pass (opened_by (pass_view_of m.0) st.word x k), (st.word, Home x) ∷ m.1)) × Sees (opened_by (pass_view_of m.0) st.word x k))
    × (r ≢ 0 → (n ≡ (Pass (lost_by (pass_view_of m.0) st.word r), m.1)) × IsRefused st.second r)

-- a later claim of a place from 1
abbrev pub claimed : Tells
claimed st m r n = (r ≡ 0 → (x : VersionedStar) × (k : ComplexView) × (n ≡ (Pass (with_item (pass_view_of m.0) st.word x k), (st.word, Home x) ∷ m.1)) × Sees (with_item (pass_view_of m.0) st.word x k))
    × (r ≢ 0 → (n ≡ (Pass (counted (pass_view_of m.0) st.word r), m.1)) × IsRefused st.second r)

-- a claim of the journal
abbrev pub fetched : Tells
fetched st m r n = (r ≡ 0 → (b : Book) × (n ≡ (Pass (with_journal (pass_view_of m.0) b.entries), (0, Journal b) ∷ m.1)))
    × (r ≢ 0 → (n ≡ (Pass (counted (pass_view_of m.0) 0 r), m.1)) × IsRefused st.second r)

-- a place from 1 is given back
abbrev pub released : Tells
released st m r n = n ≡ (Pass (without_item (pass_view_of m.0) st.word), rest m.1)

-- the journal is given back as it was
abbrev pub left : Tells
left st m r n = n ≡ (Pass (without_journal (pass_view_of m.0)), rest m.1)

-- the journal is given back with an entry, which is its last one
abbrev pub wrote : Tells
wrote st m r n = (b : Book) (before : List JournalEntry) (e : JournalEntry) → m.1 ≡ (0, Journal b) ∷ rest m.1 → b.entries ≡ before ++ e ∷ []
    → (k : ComplexView) × (n ≡ (Pass (committed (pass_view_of m.0) e k), rest m.1)) × Sees (committed (pass_view_of m.0) e k) × (length (committed (pass_view_of m.0) e k).mine ≤ wins (pass_view_of m.0).tries)

-- main after a pass was handed out, and the pass
abbrev pub handed : View → View
handed m = Main (one_more_pass (main_view_of m))

abbrev pub given : View → View
given m = Pass (newcomer (main_view_of m).start (main_view_of m).places (length (main_view_of m).back))

-- main after a pass was taken back
abbrev pub gathered : View → View → View
gathered m v = Main (one_back (main_view_of m) (pass_view_of v))
