-- What each proposal is: a flip that is legal exactly where its B is no face.
use Rattle.std.specs.Prelude.{◌≡◌, true, ℕ, ◌||◌, if◌then◌else◌, List, [], Ok, Err}
use Rattle.std.specs.List.{AllByRecursion}
use Rattle.complex_core.specs.Labels.{has, face_cmp}
use Rattle.complex_core.specs.Rising.{rising}
use Rattle.complex_core.specs.Complexes.{ComplexView, over, is_held}
use Rattle.complex_core.specs.Maps.{used}
use Rattle.flip_rules.specs.Flips.{OfFaces, Shaped, join_boundary, broken_rule}
use Rattle.flip_rules.specs.declared.flip.Flip.{Flip}
use Rattle.flip_rules.specs.declared.flip.Illegal.TheVariants.{BIsFace}
use Rattle.stars.specs.StarViews.{VertexStar, IsStarOf}
use Rattle.anneal_plan.specs.declared.plan.Phase.{Phase}
use Rattle.anneal_plan.specs.Proposals.{candidates, fresh_label, indices}
use Rattle.std.specs.Prelude.{slice_index}

-- A has the vertex, and the facets of the star over A are those that the flip takes out
pub record FitsStar (s : VertexStar) (free : List ℕ) (f : Flip) : Type 0 where
  pub vertex : has f.a s.vertex ≡ true
  pub faces : OfFaces f
  pub shape : Shaped s.dim f.a f.b
  pub link : over s.rows f.a ≡ rising face_cmp (join_boundary f.a f.b)
  -- A has labels of the star, and B labels of the star or free ones
  pub first : (x : ℕ) → has f.a x ≡ true → has (used s.rows) x ≡ true
  pub second : (x : ℕ) → has f.b x ≡ true → (has (used s.rows) x || has free x) ≡ true

-- no index of the phase has a candidate
abbrev pub HasNoCandidate : VertexStar → Phase → List ℕ → ℕ → List ℕ → Type 0
HasNoCandidate s phase words turn free =
    AllByRecursion (λ i. candidates s (fresh_label free (slice_index words 6) turn) i ≡ []) (indices s.dim phase (slice_index words 1))

-- on each complex with this star such a flip breaks no rule but the last one
abbrev pub OnlyBCanBreak : Type 0
OnlyBCanBreak = (k : ComplexView) (s : VertexStar) (free : List ℕ) (f : Flip) → IsStarOf k s → FitsStar s free f → broken_rule k f.a f.b ≡ (if is_held k.facets f.b then Err BIsFace else Ok tt)
