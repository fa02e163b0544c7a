-- What a try proposes: a flip at a vertex, which the phase, some words and the star of the vertex determine.
use Rattle.std.specs.Prelude.{ℕ, ◌+◌, ◌-◌, ◌/◌, ◌%◌, zero, suc, not, nat_eq, if◌then◌else◌, List, [], ◌∷◌, length, map, filter, Option, Some, None, slice_get, slice_index, ℤ, pos, negsuc}
use Rattle.std.specs.Option.{option_or}
use Rattle.complex_core.specs.Labels.{has}
use Rattle.flip_rules.specs.declared.flip.Flip.{Flip}
use Rattle.stars.specs.StarViews.{VertexStar}
use Rattle.stars.specs.Candidates.{flip_of, opposite, candidate_faces}
use Rattle.anneal_plan.specs.declared.plan.Phase.{Phase}
use Rattle.anneal_plan.specs.declared.plan.Phase.TheVariants.{Heat, Relax, Reduce}

-- the greatest change of the number of facets that a try of this phase may commit
abbrev pub allowed_of : ℕ → Phase → ℤ
allowed_of d Heat = pos d
allowed_of d Relax = pos (d % 2)
allowed_of d Reduce = negsuc 0

-- ---- the candidates of an index

-- the flips of an index from 1, in rising order of A, which has d + 1 - i labels
unfoldable pub inner : VertexStar → ℕ → List Flip
inner s i = map (λ a. flip_of a (opposite s.rows a)) (candidate_faces s i)

-- the flips of index 0, which bring a label in: A is a facet that doesn't have it
unfoldable pub entering : VertexStar → Option ℕ → List Flip
entering s None = []
entering s (Some x) = map (λ a. flip_of a (x ∷ [])) (filter (λ f. not (has f x)) s.rows)

-- the candidates of an index, in their order; index 0 has the label that it may bring in, if there is one
abbrev pub candidates : VertexStar → Option ℕ → ℕ → List Flip
candidates s fresh i = if nat_eq i 0 then entering s fresh else inner s i

-- ---- the choice

-- so many numbers, falling
abbrev pub falling : ℕ → ℕ → List ℕ
falling high zero = []
falling high (suc n) = high ∷ falling (high - 1) n

-- the indices of a phase in dimension d, in the order in which they are tried
abbrev pub indices : ℕ → Phase → ℕ → List ℕ
indices d Heat word = word % ((d + 1) / 2) ∷ []
indices d Relax word = if nat_eq (d % 2) 0 then d / 2 ∷ [] else (d + 1) / 2 ∷ (d - 1) / 2 ∷ []
indices d Reduce word = falling d (d - d / 2)

-- the label that a flip of index 0 brings in: another one at each turn
abbrev pub fresh_label : List ℕ → ℕ → ℕ → Option ℕ
fresh_label free word turn = slice_get free ((word % length free + turn) % length free)

-- the flip that a word chooses among some
abbrev pub chosen : List Flip → ℕ → Option Flip
chosen flips word = slice_get flips (word % length flips)

-- the flip that a word chooses at the first index with candidates
abbrev pub first_chosen : (ℕ → List Flip) → ℕ → List ℕ → Option Flip
first_chosen flips word [] = None
first_chosen flips word (i ∷ more) = option_or (chosen (flips i) word) (first_chosen flips word more)

-- the flip that is proposed at a turn, by the words of a try
unfoldable pub proposal_of : VertexStar → Phase → List ℕ → ℕ → List ℕ → Option Flip
proposal_of s phase words turn free =
    first_chosen (candidates s (fresh_label free (slice_index words 6) turn)) (slice_index words (2 + turn)) (indices s.dim phase (slice_index words 1))
