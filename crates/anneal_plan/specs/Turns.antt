-- The flips that a try proposes, one after another.
use Rattle.std.specs.Prelude.{◌≡◌, ◌≤◌, true, ℕ, zero, suc, ◌+◌, ◌-◌, ◌%◌, ◌<◌, List, [], ◌∷◌, ◌++◌, length, slice_index, Option, Some, None}
use Rattle.std.specs.List.{AllByRecursion}
use Rattle.complex_core.specs.Labels.{has}
use Rattle.star_laws.specs.Stars.{star_after, star_after_all}
use Rattle.flip_rules.specs.declared.flip.Flip.{Flip}
use Rattle.stars.specs.StarViews.{VertexStar}
use Rattle.anneal_plan.specs.declared.plan.Phase.{Phase}
use Rattle.anneal_plan.specs.Proposals.{proposal_of}

-- the star after a flip, and after flips one after another
abbrev pub after_flip : VertexStar → Flip → VertexStar
after_flip s f = record s { rows = star_after s.rows f.a f.b s.vertex }

abbrev pub after_flips : VertexStar → List Flip → VertexStar
after_flips s flips = record s { rows = star_after_all s.rows flips s.vertex }

-- the flip of a turn, and what follows it; nothing where the turn has no proposal
abbrev pub turn_then : Option Flip → (Flip → List Flip) → List Flip
turn_then None more = []
turn_then (Some f) more = f ∷ more f

-- at most n flips from a turn on: each is the proposal of its turn on the star after those before it
abbrev pub turns_from : ℕ → ℕ → VertexStar → Phase → List ℕ → List ℕ → List Flip
turns_from zero turn s phase words free = []
turns_from (suc n) turn s phase words free = turn_then (proposal_of s phase words turn free) (λ f. turns_from n (turn + 1) (after_flip s f) phase words free)

-- how many turns a try has at most: word 7 chooses it
abbrev pub turn_count : List ℕ → ℕ → ℕ
turn_count words depth = 1 + slice_index words 7 % depth

-- the flips of a try that begins at a star
unfoldable pub turns : VertexStar → Phase → List ℕ → List ℕ → ℕ → List Flip
turns s phase words free depth = turns_from (turn_count words depth) 0 s phase words free

-- those that follow some first ones
unfoldable pub rest_after : VertexStar → Phase → List ℕ → List ℕ → ℕ → List Flip → List Flip
rest_after s phase words free depth front = turns_from (turn_count words depth - length front) (length front) (after_flips s front) phase words free

-- ---- laws

-- all follow none
abbrev pub TurnsStart : Type 0
TurnsStart = (s : VertexStar) (phase : Phase) (words free : List ℕ) (depth : ℕ) → turns s phase words free depth ≡ rest_after s phase words free depth []

-- while there are turns, the proposal of the next turn follows, and then what follows it
abbrev pub TurnsGoOn : Type 0
TurnsGoOn = (s : VertexStar) (phase : Phase) (words free : List ℕ) (depth : ℕ) (front : List Flip) (f : Flip) → length front < turn_count words depth → proposal_of (after_flips s front) phase words (length front) free ≡ Some f
    → rest_after s phase words free depth front ≡ f ∷ rest_after s phase words free depth (front ++ f ∷ [])

-- nothing follows where the next turn has no proposal, and nothing after the last turn
abbrev pub TurnsStop : Type 0
TurnsStop = (s : VertexStar) (phase : Phase) (words free : List ℕ) (depth : ℕ) (front : List Flip) → proposal_of (after_flips s front) phase words (length front) free ≡ None → rest_after s phase words free depth front ≡ []

abbrev pub TurnsEnd : Type 0
TurnsEnd = (s : VertexStar) (phase : Phase) (words free : List ℕ) (depth : ℕ) (front : List Flip) → turn_count words depth ≤ length front → rest_after s phase words free depth front ≡ []

-- behind the first ones of a try stand those that follow them
abbrev pub TurnsSplit : Type 0
TurnsSplit = (s : VertexStar) (phase : Phase) (words free : List ℕ) (depth : ℕ) (front rest : List Flip) → turns s phase words free depth ≡ front ++ rest → rest ≡ rest_after s phase words free depth front

-- there are at most as many as turns
abbrev pub TurnsAreFew : Type 0
TurnsAreFew = (s : VertexStar) (phase : Phase) (words free : List ℕ) (depth : ℕ) → length (turns s phase words free depth) ≤ turn_count words depth

-- each has the vertex in A
abbrev pub TurnsHaveVertex : Type 0
TurnsHaveVertex = (s : VertexStar) (phase : Phase) (words free : List ℕ) (depth : ℕ) → AllByRecursion (λ row. has row s.vertex ≡ true) s.rows → AllByRecursion (λ f. has f.a s.vertex ≡ true) (turns s phase words free depth)
