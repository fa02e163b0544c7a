-- The next label of the facets over a face, found in one pass, with the facets that have it.
use Rattle.std.specs.Prelude.{ℕ, Bool, true, false, nat_eq, nat_lt, if◌then◌else◌, List, [], ◌∷◌, ◌++◌, length, fold, Option, Some, None}
use Rattle.std.specs.List.{find}
use Rattle.complex_core.specs.Labels.{holds}
use Rattle.anneal_plan.specs.Growth.{comes_next}

-- the least label that may come next, if there is one, and the facets that have it, as many as fit: whether these are all
pub record Next : Type 0 where
  pub label : Option ℕ
  pub rows : List (List ℕ)
  pub whole : Bool

-- before the first facet
abbrev pub nothing_yet : Next
nothing_yet = record { label = None; rows = []; whole = true }

-- a facet with a lesser label, and one more with the least label so far
abbrev pub started : List ℕ → ℕ → Next
started row x = record { label = Some x; rows = row ∷ []; whole = true }

abbrev pub joined : Next → List ℕ → Next
joined near row = if nat_eq (length near.rows) 256 then record near { whole = false } else record near { rows = near.rows ++ row ∷ [] }

abbrev pub nearer : Next → List ℕ → ℕ → Option ℕ → Next
nearer near row x None = started row x
nearer near row x (Some least) = if nat_lt least x then near else if nat_eq least x then joined near row else started row x

abbrev pub met : Next → List ℕ → Option ℕ → Next
met near row None = near
met near row (Some x) = nearer near row x near.label

-- after one facet more, and after all
abbrev pub seen : List ℕ → ℕ → ℕ → Next → List ℕ → Next
seen a p last near row = if holds row a then met near row (find (comes_next p last) row) else near

unfoldable pub nearest : List (List ℕ) → ℕ → ℕ → List ℕ → Next
nearest rows p last a = fold (seen a p last) nothing_yet rows
