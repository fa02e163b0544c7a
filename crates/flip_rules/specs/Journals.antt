-- Journals of flips: which flips they list, whose entries, and which places they touch.
use Rattle.std.specs.Prelude.{◌≡◌, ℕ, ◌≤◌, Bool, ◌&&◌, ◌||◌, nat_eq, List, [], ◌∷◌, ◌++◌, length, filter, Some}
use Rattle.std.specs.List.{list_any, flat_map}
use Rattle.complex_core.specs.Labels.{has}
use Rattle.complex_core.specs.Complexes.{ComplexView, over}
use Rattle.flip_rules.specs.Flips.{replay}
use Rattle.flip_rules.specs.declared.flip.Flip.{Flip}
use Rattle.flip_rules.specs.Entries.{JournalEntry}

-- all flips of the entries, in order
abbrev pub flat : List JournalEntry → List Flip
flat entries = flat_map (λ e. e.flips) entries

-- the entries of this round and worker, in order
abbrev pub mine : List JournalEntry → ℕ → ℕ → List JournalEntry
mine entries round worker = filter (λ e. nat_eq e.round round && nat_eq e.worker worker) entries

-- whether a flip has this place among its labels
abbrev pub flip_touches : ℕ → Flip → Bool
flip_touches place f = has f.a place || has f.b place

-- whether some flip of the entry has this place among its labels
abbrev pub entry_touches : ℕ → JournalEntry → Bool
entry_touches place e = list_any (flip_touches place) e.flips

-- how many entries touch this place
abbrev pub touches : List JournalEntry → ℕ → ℕ
touches entries place = length (filter (entry_touches place) entries)

-- the star of a place: the facets that contain it
abbrev pub star_of : ComplexView → ℕ → List (List ℕ)
star_of k place = over k.facets (place ∷ [])

-- this beginning of the entries is the shortest one in which so many touch the place
pub record IsShortest (entries : List JournalEntry) (place count : ℕ) (front : List JournalEntry) : Type 0 where
  pub rest : List JournalEntry
  pub splits : entries ≡ front ++ rest
  pub touched : touches front place ≡ count
  pub least : (short more : List JournalEntry) → front ≡ short ++ more → touches short place ≡ count → more ≡ []

-- these facets are the star of the place after the shortest beginning of the entries in which so many touch it
pub record At (k : ComplexView) (entries : List JournalEntry) (place count : ℕ) (facets : List (List ℕ)) : Type 0 where
  pub front : List JournalEntry
  pub shortest : IsShortest entries place count front
  pub there : ComplexView
  pub replays : replay k (flat front) ≡ Some there
  pub star : facets ≡ star_of there place

-- ---- laws

-- there is such a beginning for each count up to all touches
abbrev pub ShortestExists : Type 0
ShortestExists = (entries : List JournalEntry) (place count : ℕ) → count ≤ touches entries place → (front : List JournalEntry) × IsShortest entries place count front

-- and one at most
abbrev pub ShortestIsOne : Type 0
ShortestIsOne = (entries front other : List JournalEntry) (place count : ℕ) → IsShortest entries place count front → IsShortest entries place count other → front ≡ other

-- so a place has one star for each count, where the flips of the entries come to an end
abbrev pub StarsExist : Type 0
StarsExist = (k m : ComplexView) (entries : List JournalEntry) (place count : ℕ) → replay k (flat entries) ≡ Some m → count ≤ touches entries place → (facets : List (List ℕ)) × At k entries place count facets

abbrev pub StarIsOne : Type 0
StarIsOne = (k : ComplexView) (entries : List JournalEntry) (place count : ℕ) (facets others : List (List ℕ)) → At k entries place count facets → At k entries place count others → facets ≡ others

-- entries that follow don't change it
abbrev pub StarStays : Type 0
StarStays = (k : ComplexView) (entries more : List JournalEntry) (place count : ℕ) (facets : List (List ℕ)) → At k entries place count facets → At k (entries ++ more) place count facets
