-- How bytes spell a complex: its words in order, with blanks between any two of them.
use Rattle.std.specs.Prelude.{◌≡◌, ◌<◌, ◌≤◌, ◌⊎◌, ℕ, true, false, List, [], ◌∷◌, ◌++◌, length, map}
use Rattle.std.specs.List.{AllByRecursion}
use Rattle.std.specs.Ordering.{nat_cmp}
use Rattle.std.specs.Str.Parse.{digits_value}
use Rattle.complex_core.specs.Labels.{has as has_label}
use Rattle.complex_core.specs.Rising.{rising}
use Rattle.complex_core.specs.ComplexFaults.{first_size}
use Rattle.facet_text.specs.declared.token.Class.TheVariants.{Blank, Digit, Letter, NameByte}
use Rattle.facet_text.specs.Tokens.{has}
use Rattle.facet_text.specs.Grammar.{Facets, complex_of, labels_of}

abbrev pub Word : Type 0
Word = List ℕ

-- a letter, and then letters, digits, `_`, `#`, `.` and `-`
abbrev pub IsName : Word → Type 0
IsName [] = ⊥
IsName (b ∷ bs) = (has Letter b ≡ true) × AllByRecursion (λ c. has NameByte c ≡ true) bs

-- one digit or more
abbrev pub IsNumber : Word → Type 0
IsNumber [] = ⊥
IsNumber (b ∷ bs) = (has Digit b ≡ true) × AllByRecursion (λ c. has Digit c ≡ true) bs

-- `=` or `:=`
abbrev pub IsAssign : Word → Type 0
IsAssign w = (w ≡ 61 ∷ []) ⊎ (w ≡ 58 ∷ 61 ∷ [])

-- nothing, or a name that the complex is given
abbrev pub IsNaming : List Word → Type 0
IsNaming [] = Unit {0}
IsNaming (name ∷ []) = ⊥
IsNaming (name ∷ sign ∷ []) = IsName name × IsAssign sign
IsNaming (name ∷ sign ∷ more ∷ words) = ⊥

-- nothing, or `;`
abbrev pub IsEnding : List Word → Type 0
IsEnding words = (words ≡ []) ⊎ (words ≡ (59 ∷ []) ∷ [])

-- further numbers of a facet, each after a comma, then `]` and the words after it
abbrev pub more_numbers : List Word → List Word → List Word
more_numbers [] after = (93 ∷ []) ∷ after
more_numbers (n ∷ ns) after = (44 ∷ []) ∷ n ∷ more_numbers ns after

-- a facet: `[`, its numbers with commas between them, `]`
abbrev pub facet_words : List Word → List Word → List Word
facet_words [] after = (91 ∷ []) ∷ (93 ∷ []) ∷ after
facet_words (n ∷ ns) after = (91 ∷ []) ∷ n ∷ more_numbers ns after

-- further facets, each after a comma, then `]` and the words after it
abbrev pub more_facets : List (List Word) → List Word → List Word
more_facets [] after = (93 ∷ []) ∷ after
more_facets (f ∷ fs) after = (44 ∷ []) ∷ facet_words f (more_facets fs after)

-- the list: `[`, its facets with commas between them, `]`
abbrev pub list_words : List (List Word) → List Word → List Word
list_words [] after = (91 ∷ []) ∷ (93 ∷ []) ∷ after
list_words (f ∷ fs) after = (91 ∷ []) ∷ facet_words f (more_facets fs after)

abbrev pub AreBlanks : List ℕ → Type 0
AreBlanks bs = AllByRecursion (λ b. has Blank b ≡ true) bs

-- the bytes are these words, each after any number of blanks, and then the rest
abbrev pub Spread : List Word → List ℕ → List ℕ → Type 0
Spread [] bytes rest = bytes ≡ rest
Spread (w ∷ words) bytes rest =
    (blanks : List ℕ) × (more : List ℕ) × AreBlanks blanks × (bytes ≡ blanks ++ (w ++ more)) × Spread words more rest

-- The bytes before the rest spell facets with these numbers.
pub record Spells (bytes : List ℕ) (facets : List (List Word)) (rest : List ℕ) : Type 0 where
  pub naming : List Word
  pub ending : List Word
  pub is_naming : IsNaming naming
  pub is_ending : IsEnding ending
  pub numbers : AllByRecursion (λ f. AllByRecursion IsNumber f) facets
  pub spread : Spread (naming ++ list_words facets ending) bytes rest

-- the labels of facets that were spelled, in the order of the text
abbrev pub values : List (List Word) → Facets
values facets = map (λ f. map (digits_value 10) f) facets

-- their complex
abbrev pub spelled : List (List Word) → Facets
spelled facets = map (rising nat_cmp) (values facets)

abbrev pub AllDiffer : List ℕ → Type 0
AllDiffer [] = Unit {0}
AllDiffer (n ∷ ns) = (has_label ns n ≡ false) × AllDiffer ns

-- 2 to 7 different labels, each from 1 to 60,000
pub record IsGood (labels : List ℕ) : Type 0 where
  pub low : 2 ≤ length labels
  pub high : length labels ≤ 7
  pub range : AllByRecursion (λ n. (1 ≤ n) × (n ≤ 60000)) labels
  pub differ : AllDiffer labels

-- at least one facet, all good and of one size, with at most 20,000 distinct facets and 4,096 distinct labels
pub record AreGood (facets : List (List Word)) : Type 0 where
  pub some : 0 < length facets
  pub good : AllByRecursion IsGood (values facets)
  pub pure : AllByRecursion (λ f. length f ≡ first_size (values facets)) (values facets)
  pub few_facets : length (complex_of (spelled facets)).facets ≤ 20000
  pub few_labels : length (labels_of (complex_of (spelled facets))) ≤ 4096
