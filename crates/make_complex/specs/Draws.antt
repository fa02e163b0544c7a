-- What draws make of a complex.
use Rattle.std.specs.Prelude.{ℕ, zero, suc, ◌+◌, ◌-◌, ◌%◌, ◌&&◌, Bool, nat_eq, nat_le, if◌then◌else◌, List, [], ◌∷◌, length}
use Rattle.std.specs.Result.{is_ok}
use Rattle.std.proofs.Common.{get_or}
use Rattle.rand_pcg.specs.Lcg.{Lcg}
use Rattle.complex_core.specs.Complexes.{ComplexView, over}
use Rattle.complex_core.specs.Maps.{used}
use Rattle.complex_core.specs.Links.{less}
use Rattle.complex_core.specs.Subsets.{subsets_of}
use Rattle.flip_rules.specs.Flips.{broken_rule, flipped}
use Rattle.make_complex.specs.declared.kind.Kind.{Kind}
use Rattle.make_complex.specs.Named.{named_complex}
use Rattle.make_complex.specs.Words.{generator, after_words, word_at}

-- the least number from n on that isn't in a rising list
abbrev pub first_gap : ℕ → List ℕ → ℕ
first_gap n [] = n
first_gap n (x ∷ xs) = if nat_eq x n then first_gap (n + 1) xs else n

-- the least label from 1 that isn't used
abbrev pub least_unused : List (List ℕ) → ℕ
least_unused facets = first_gap 1 (used facets)

-- the member of a list that a word chooses: the one with the number word mod length, from 0
abbrev pub chosen : List (List ℕ) → ℕ → List ℕ
chosen sets word = get_or sets (word % length sets) []

-- B of an index and A: the least unused label, or from index 1 on the union of the facets that contain A, less A
abbrev pub second_of : List (List ℕ) → ℕ → List ℕ → List ℕ
second_of facets zero a = least_unused facets ∷ []
second_of facets (suc i) a = less (used (over facets a)) a

-- at most 20,000 facets, and at most 4,096 labels
abbrev pub is_within : ComplexView → Bool
is_within k = nat_le (length k.facets) 20000 && nat_le (length (used k.facets)) 4096

-- the complex after the flip (A, B) if it is legal and leaves the complex within the limits, else the complex itself
abbrev pub flipped_within : ComplexView → List ℕ → List ℕ → ComplexView
flipped_within k a b = if is_ok (broken_rule k a b) && is_within (flipped k a b) then flipped k a b else k

-- the same, if B has the labels of the index
abbrev pub flipped_at : ComplexView → ℕ → List ℕ → List ℕ → ComplexView
flipped_at k i a b = if nat_eq (length b) (i + 1) then flipped_within k a b else k

-- A of an index and two words: the one word chooses a facet, the other one of its subsets with d + 1 - i labels
abbrev pub first_of : ComplexView → ℕ → ℕ → ℕ → List ℕ
first_of k i facet_word subset_word = chosen (subsets_of (k.dim + 1 - i) (chosen k.facets facet_word)) subset_word

-- the complex after a draw of an index that has chosen A
abbrev pub after_choice : ComplexView → ℕ → List ℕ → ComplexView
after_choice k i a = flipped_at k i a (second_of k.facets i a)

-- the complex after a draw by three words
abbrev pub after_draw : ComplexView → ℕ → ℕ → ℕ → ComplexView
after_draw k u0 u1 u2 = after_choice k (u1 % (k.dim + 1)) (first_of k (u1 % (k.dim + 1)) u0 u2)

-- the complex after n draws, each by the next three words
abbrev pub after_draws : ComplexView → Lcg → ℕ → ComplexView
after_draws k g zero = k
after_draws k g (suc n) = after_draws (after_draw k (word_at g 0) (word_at g 1) (word_at g 2)) (after_words g 3) n

-- what the generator makes
abbrev pub made_complex : Kind → ℕ → ℕ → ℕ → ComplexView
made_complex kind d draws seed = after_draws (named_complex kind d) (generator seed) draws
