-- The places of a complex: each has a name, so each flip on them can be told, and no facet is added.
use Rattle.std.proofs.Common.{◌≡◌, ℕ, ◌+◌, ◌<◌, ◌≤◌, true, List, [], ◌∷◌, ◌++◌, length, ◌∙◌, refl, arith}
use Rattle.std.specs.List.{AllByRecursion, list_all}
use Rattle.std.specs.Cmp.Derive.{both_true}
use Rattle.std.proofs.lemmas.List.Folds.{list_all-append}
use Rattle.complex_core.specs.Labels.{IsFace, has}
use Rattle.complex_core.specs.Maps.{takes, names_of, used, greatest, next_after}
use Rattle.complex_core.specs.Complexes.{ComplexView}
use Rattle.complex_core.proofs.Laws.{each_has, or_left, or_right}
use Rattle.flip_rules.specs.Entries.{JournalEntry}
use Rattle.flip_rules.specs.Flips.{OfFaces}
use Rattle.flip_rules.specs.Journals.{flat, flip_touches}
use Rattle.flip_rules.specs.declared.flip.Flip.{Flip}
use Rattle.star_laws.specs.Stars.{flips_touch}
use Rattle.flip_names.specs.Names.{takes_flip, takes_flips}
use Rattle.board_rule.specs.Rule.{IsEntry}
use Rattle.complex_core.proofs.Members.{label_low}
use Rattle.complex_core.proofs.Places.{length_numbered, place_named}

-- ---- names

-- the map takes each place, and there are as many places as pairs
abbrev pub TakesPlaces : List (ℕ × ℕ) → Type 0
TakesPlaces m = (p : ℕ) → 0 < p → p ≤ length m → takes m p ≡ true

pub names_take_places : (k : ComplexView) (room : ℕ) → TakesPlaces (names_of k.facets room)
names_take_places k room p low high =
    let labels : List ℕ = used k.facets ++ next_after (greatest (used k.facets)) room in
    place_named 1 labels p (omega (arith, low)) (omega (arith, high, length_numbered 1 labels))

-- ---- facets

-- ---- flips

face_taken : (m : List (ℕ × ℕ)) (f : List ℕ) → TakesPlaces m → IsFace f → ((p : ℕ) → has f p ≡ true → p ≤ length m) → list_all (takes m) f ≡ true
face_taken m f d h labels = each_has (takes m) f (λ p t. d p (label_low f p h t) (labels p t))

flips_taken : (m : List (ℕ × ℕ)) (flips : List Flip) → TakesPlaces m → AllByRecursion OfFaces flips → ((p : ℕ) → flips_touch p flips ≡ true → p ≤ length m) → takes_flips m flips ≡ true
flips_taken m [] d faces labels = refl
flips_taken m (f ∷ fs) d faces labels =
    let here : (p : ℕ) → flip_touches p f ≡ true → p ≤ length m = λ p t. labels p (or_left (flip_touches p f) (flips_touch p fs) t) in
    let first : list_all (takes m) f.a ≡ true = face_taken m f.a d faces.0.first (λ p t. here p (or_left (has f.a p) (has f.b p) t)) in
    let second : list_all (takes m) f.b ≡ true = face_taken m f.b d faces.0.second (λ p t. here p (or_right (has f.a p) (has f.b p) t)) in
    both_true (both_true first second) (flips_taken m fs d faces.1 (λ p t. labels p (or_right (flip_touches p f) (flips_touch p fs) t)))

pub entries_taken : (m : List (ℕ × ℕ)) (round seats : ℕ) (es : List JournalEntry) → TakesPlaces m → AllByRecursion (IsEntry round (length m) seats) es → takes_flips m (flat es) ≡ true
entries_taken m round seats [] d h = refl
entries_taken m round seats (e ∷ es) d h = list_all-append (takes_flip m) e.flips (flat es) ∙ both_true (flips_taken m e.flips d h.0.faces h.0.labels) (entries_taken m round seats es d h.1)
