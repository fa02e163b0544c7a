-- The counts of gates: how often each has said that a try ends.
use Rattle.std.specs.Prelude.{◌≡◌, ℕ, zero, suc, ◌+◌, ◌≤◌, List, [], ◌∷◌, length}
use mathlib.Core.Option.{some}
use lib.ListN.{get_elem?}
use Rattle.round_rules.specs.Accounts.{quits}
use Rattle.round_rules.specs.Rounds.{RoundView}
use Rattle.round_rules.specs.declared.tried.Tried.{Tried}

-- how many quits list number i has
abbrev pub quits_at : List (List Tried) → ℕ → ℕ
quits_at [] i = 0
quits_at (answers ∷ rest) zero = quits answers
quits_at (answers ∷ rest) (suc i) = quits_at rest i

-- and in all rounds
abbrev pub all_quits_at : List RoundView → ℕ → ℕ
all_quits_at [] i = 0
all_quits_at (r ∷ rest) i = quits_at r.tries i + all_quits_at rest i

-- the same gates, of which number i said at least so often that a try ends
module _ {A : Type 0} where
  pub record Rise (count : A → ℕ) (was now : List A) (said : ℕ → ℕ) : Type 0 where
    pub same : length now ≡ length was
    pub rise : (i : ℕ) (a b : A) → get_elem? was i ≡ some a → get_elem? now i ≡ some b → count a + said i ≤ count b
