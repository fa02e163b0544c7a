-- Flips told in the labels of a complex whose image they change.
--     names    what the labels of the changed complex are called: the map turned round, as pairs of a label and its name, rising in the labels
use Rattle.std.specs.Prelude.{◌≡◌, ℕ, ◌+◌, ◌<◌, Bool, true, false, not, nat_eq, if◌then◌else◌, List, [], ◌∷◌, map, filter, Some}
use Rattle.std.specs.Ordering.{nat_cmp}
use Rattle.complex_core.specs.Rising.{put, rising}
use Rattle.complex_core.specs.Complexes.{ComplexView}
use Rattle.complex_core.specs.Maps.{IsMap, pair_cmp, takes, reaches, used, renamed}
use Rattle.flip_rules.specs.declared.flip.Flip.{Flip}
use Rattle.flip_rules.specs.Flips.{replay}
use Rattle.flip_names.specs.Names.{named_flip}
use Rattle.flip_names.specs.Laws.{map_back}

-- the first numbers of the map are exactly the labels of the complex
abbrev pub NamesLabels : List (ℕ × ℕ) → ComplexView → Type 0
NamesLabels m k = map (λ p. p.0) m ≡ used k.facets

-- the flips are legal in order
abbrev pub IsLegalList : ComplexView → List Flip → Type 0
IsLegalList k flips = (end : ComplexView) × (replay k flips ≡ Some end)

-- ---- the name of a new label

-- the first number from n on that rising numbers from n on leave out
abbrev pub first_gap : ℕ → List ℕ → ℕ
first_gap n [] = n
first_gap n (x ∷ xs) = if nat_eq x n then first_gap (n + 1) xs else n

-- the names that are given, rising
abbrev pub given : List (ℕ × ℕ) → List ℕ
given names = rising nat_cmp (map (λ p. p.1) names)

abbrev pub least_unused : List (ℕ × ℕ) → ℕ
least_unused names = first_gap 1 (given names)

-- ---- one flip

abbrev pub with_label : List (ℕ × ℕ) → ℕ → List (ℕ × ℕ)
with_label names x = if takes names x then names else put pair_cmp (x, least_unused names) names

-- the labels that have no name get one, one after another
abbrev pub with_labels : List (ℕ × ℕ) → List ℕ → List (ℕ × ℕ)
with_labels names [] = names
with_labels names (x ∷ xs) = with_labels (with_label names x) xs

-- whether a flip of this A takes the label out of a complex: A is this label alone
abbrev pub vanishes : List ℕ → ℕ → Bool
vanishes [] x = false
vanishes (y ∷ []) x = nat_eq y x
vanishes (y ∷ z ∷ ys) x = false

-- the names for a flip, and those after it
abbrev pub names_for : List (ℕ × ℕ) → Flip → List (ℕ × ℕ)
names_for names f = with_labels names f.b

abbrev pub names_after : List (ℕ × ℕ) → Flip → List (ℕ × ℕ)
names_after names f = filter (λ p. not (vanishes f.a p.0)) (names_for names f)

-- ---- flips one after another

abbrev pub carried : List (ℕ × ℕ) → List Flip → List Flip
carried names [] = []
carried names (f ∷ fs) = named_flip (names_for names f) f ∷ carried (names_after names f) fs

abbrev pub names_at_end : List (ℕ × ℕ) → List Flip → List (ℕ × ℕ)
names_at_end names [] = names
names_at_end names (f ∷ fs) = names_at_end (names_after names f) fs

-- the flips over a map, and the map that takes their end to the end of the given ones
abbrev pub carried_over : List (ℕ × ℕ) → List Flip → List Flip
carried_over m flips = carried (map_back m) flips

abbrev pub map_at_end : List (ℕ × ℕ) → List Flip → List (ℕ × ℕ)
map_at_end m flips = map_back (names_at_end (map_back m) flips)

-- pairs of labels and names, and their names, as the program keeps them
pub record AreNames (pairs : List (ℕ × ℕ)) (names : List ℕ) : Type 0 where
  pub is_map : IsMap pairs
  pub given_are : names ≡ given pairs

-- ---- what they say

-- the given flips lead from the image of a complex to an end; the carried ones lead from the complex to one that the map n takes there, on exactly its labels
pub record LeadsTo (k : ComplexView) (m : List (ℕ × ℕ)) (flips out : List Flip) (n : List (ℕ × ℕ)) : Type 0 where
  pub there : ComplexView
  pub end : ComplexView
  pub given : replay (renamed k m) flips ≡ Some end
  pub carried : replay k out ≡ Some there
  pub is_map : IsMap n
  pub labels : NamesLabels n there
  pub image : renamed there n ≡ end

-- the least number from 1 that isn't a name
pub record IsLeastUnused (names : List (ℕ × ℕ)) (n : ℕ) : Type 0 where
  pub positive : 0 < n
  pub unused : reaches names n ≡ false
  pub least : (x : ℕ) → 0 < x → x < n → reaches names x ≡ true
