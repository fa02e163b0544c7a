-- The facets of a complex as an ordered set of rows: one for each facet and each of its labels.
use Rattle.std.specs.Prelude.{◌≡◌, ℕ, ◌+◌, ◌&&◌, ◌||◌, not, List, [], map}
use Rattle.std.specs.Ordering.{nat_cmp, ordering_then}
use Rattle.std.specs.BTreeSet.{BTreeSet, contains, keys_between}
use Rattle.std.specs.declared.cmp.Ordering.{Ordering}
use Rattle.std.specs.declared.ops.Bound.TheVariants.{Included, Excluded}
use Rattle.complex_core.specs.Labels.{has, face_cmp}
use Rattle.complex_core.specs.Rising.{rising}
use Rattle.complex_core.specs.Complexes.{is_facet}

-- a label, and a facet that has it
abbrev pub Row : Type 0
Row = ℕ × List ℕ

-- by the labels, and by the facets where these are equal
abbrev pub row_cmp : Row → Row → Ordering
row_cmp p q = ordering_then (nat_cmp p.0 q.0) (face_cmp p.1 q.1)

-- there is a row for each facet and each of its labels, and no other
pub record AreRowsOf (facets : List (List ℕ)) (rows : BTreeSet Row) : Type 0 where
  pub each : (x : ℕ) (f : List ℕ) → contains row_cmp rows (x, f) ≡ (is_facet facets f && has f x)

-- the facets that the rows have
abbrev pub facets_in : BTreeSet Row → List (List ℕ)
facets_in rows = rising face_cmp (map (λ r. r.1) rows.keys)

-- the facets of the rows of a label, in order: those from the label with the empty set up to the next label
abbrev pub facets_at : ℕ → BTreeSet Row → List (List ℕ)
facets_at x rows = map (λ r. r.1) (keys_between row_cmp (Included (x, [])) (Excluded (x + 1, [])) rows)

-- the rows of these facets are put in
pub record Puts (more : List (List ℕ)) (old new : BTreeSet Row) : Type 0 where
  pub each : (x : ℕ) (f : List ℕ) → contains row_cmp new (x, f) ≡ (contains row_cmp old (x, f) || (is_facet more f && has f x))

-- the rows of these facets are taken out
pub record Takes (out : List (List ℕ)) (old new : BTreeSet Row) : Type 0 where
  pub each : (x : ℕ) (f : List ℕ) → contains row_cmp new (x, f) ≡ (contains row_cmp old (x, f) && not (is_facet out f && has f x))
