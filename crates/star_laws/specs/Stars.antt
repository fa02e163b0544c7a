-- The star of a label, and what two complexes have in common on the stars of some labels.
use Rattle.std.specs.Prelude.{◌≡◌, true, ℕ, Bool, List, [], ◌∷◌, ◌++◌, Option, Some, None}
use Rattle.std.specs.List.{list_any}
use Rattle.std.specs.List.Sorted.{IsStrictlySortedBy}
use Rattle.complex_core.specs.Labels.{face_cmp}
use Rattle.complex_core.specs.Rising.{rising}
use Rattle.complex_core.specs.Complexes.{ComplexView, over, beside}
use Rattle.flip_rules.specs.Flips.{join_boundary}
use Rattle.flip_rules.specs.Journals.{flip_touches}
use Rattle.flip_rules.specs.declared.flip.Flip.{Flip}

-- the star of a label: the facets that contain it
abbrev pub star : List (List ℕ) → ℕ → List (List ℕ)
star facets p = over facets (p ∷ [])

-- the facets are in order, each once
abbrev pub Rises : ComplexView → Type 0
Rises k = IsStrictlySortedBy face_cmp k.facets

-- whether some of these flips has this label
abbrev pub flips_touch : ℕ → List Flip → Bool
flips_touch p flips = list_any (flip_touches p) flips

-- each label of these flips passes the test
abbrev pub LabelsPass : (ℕ → Bool) → List Flip → Type 0
LabelsPass held flips = (p : ℕ) → flips_touch p flips ≡ true → held p ≡ true

-- two complexes of one dimension, with the same star of each label that passes the test
pub record AlikeOn (held : ℕ → Bool) (k l : ComplexView) : Type 0 where
  pub dim : k.dim ≡ l.dim
  pub stars : (p : ℕ) → held p ≡ true → star k.facets p ≡ star l.facets p

-- two replays come to an end both or neither, and the ends are alike
abbrev pub EndAlikeOn : (ℕ → Bool) → Option ComplexView → Option ComplexView → Type 0
EndAlikeOn held (Some m) (Some n) = AlikeOn held m n
EndAlikeOn held (Some m) None = ⊥
EndAlikeOn held None (Some n) = ⊥
EndAlikeOn held None None = Unit {0}

-- a label's star after the flip (A, B): without the rows that contain A, and with the (A less a) ∪ B that have the label
abbrev pub star_after : List (List ℕ) → List ℕ → List ℕ → ℕ → List (List ℕ)
star_after rows a b p = rising face_cmp (beside rows a ++ star (join_boundary b a) p)

-- the same after one flip after another
abbrev pub star_after_all : List (List ℕ) → List Flip → ℕ → List (List ℕ)
star_after_all rows [] p = rows
star_after_all rows (f ∷ fs) p = star_after_all (star_after rows f.a f.b p) fs p
