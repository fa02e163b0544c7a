-- The next words of a generator, one after another.
use Rattle.std.proofs.Common.{◌≡◌, ℕ, zero, suc, ◌+◌, ◌-◌, ◌*◌, ◌<◌, ◌≤◌, List, [], ◌∷◌, ◌++◌, length, take, get_or, sym, ◌∙◌, ap, refl, arith, append_assoc}
use Rattle.std.proofs.Math.ListN.{set}
use Rattle.std.proofs.lemmas.List.{take_more_set, take_all, append-nil}
use Rattle.rand_core.specs.Steps.{first_words}
use Rattle.rand_pcg.specs.Lcg.{Lcg, state_after}
use Rattle.rand_pcg.specs.Pcg.{multiplier_64, pcg32}
use Rattle.anneal_plan.specs.Words.{words_from, after_words, word_at, DrawsFollow}

abbrev m : ℕ
m = multiplier_64

words-suc : (n : ℕ) (g : Lcg) → words_from g (suc n) ≡ (pcg32 g).0 ∷ words_from (pcg32 g).1 n
unfolding first_words
words-suc n g = refl

words-zero : (g : Lcg) → words_from g 0 ≡ []
unfolding first_words
words-zero g = refl

pub after-suc : (n : ℕ) (g : Lcg) → after_words g (suc n) ≡ after_words (pcg32 g).1 n
unfolding state_after
after-suc n g = refl

pub after-zero : (g : Lcg) → after_words g 0 ≡ g
unfolding state_after
after-zero g = refl

-- how many are left, with one taken
pub left_suc : (n i : ℕ) → i < n → n - i ≡ suc (n - (i + 1))
left_suc n i h = omega arith

-- what holds of a word and the generator after it
pub record Draws (g h : Lcg) (w : ℕ) : Type 0 where
  pub word : w ≡ (pcg32 g).0
  pub after : h ≡ (pcg32 g).1

pub draws : (g h : Lcg) (w : ℕ) → (w, h) ≡ pcg32 g → Draws g h w
draws g h w e = record { word = ap (λ p. p.0) e; after = ap (λ p. p.1) e }

pub words_next : (n i : ℕ) (start g h : Lcg) (xs : List ℕ) (w : ℕ) → i < n → i < length xs → Draws g h w → words_from start n ≡ take i xs ++ words_from g (n - i) → words_from start n ≡ take (i + 1) (set xs i w) ++ words_from h (n - (i + 1))
words_next n i start g h xs w l k d e =
    e ∙ ap (λ j. take i xs ++ words_from g j) (left_suc n i l)
    ∙ ap (λ ys. take i xs ++ ys) (words-suc (n - (i + 1)) g ∙ (λ j. sym d.word j ∷ words_from (sym d.after j) (n - (i + 1))))
    ∙ sym (append_assoc (take i xs) (w ∷ []) (words_from h (n - (i + 1))))
    ∙ ap (λ ys. ys ++ words_from h (n - (i + 1))) (sym (take_more_set xs i w k))

pub after_next : (n i : ℕ) (start g h : Lcg) (w : ℕ) → i < n → Draws g h w → after_words start n ≡ after_words g (n - i) → after_words start n ≡ after_words h (n - (i + 1))
after_next n i start g h w l d e =
    e ∙ ap (after_words g) (left_suc n i l) ∙ after-suc (n - (i + 1)) g ∙ ap (λ s. after_words s (n - (i + 1))) (sym d.after)

pub words_end : (n i : ℕ) (start g : Lcg) (xs : List ℕ) → n ≤ i → length xs ≡ n → words_from start n ≡ take i xs ++ words_from g (n - i) → xs ≡ words_from start n
words_end n i start g xs l k e =
    sym (take_all i xs (omega (arith, l, k))) ∙ sym (append-nil (take i xs)) ∙ ap (λ ys. take i xs ++ ys) (sym (ap (words_from g) (let z : n - i ≡ 0 = omega arith in z) ∙ words-zero g)) ∙ sym e

pub after_end : (n i : ℕ) (start g : Lcg) → n ≤ i → after_words start n ≡ after_words g (n - i) → g ≡ after_words start n
after_end n i start g l e = sym (e ∙ ap (after_words g) (let z : n - i ≡ 0 = omega arith in z) ∙ after-zero g)

-- ---- draw after draw

pub after-add : (i n : ℕ) (g : Lcg) → after_words g (i + n) ≡ after_words (after_words g i) n
after-add zero n g = ap (after_words g) (let e : 0 + n ≡ n = omega arith in e) ∙ ap (λ s. after_words s n) (sym (after-zero g))
after-add (suc i) n g =
    ap (after_words g) (let e : suc i + n ≡ suc (i + n) = omega arith in e) ∙ after-suc (i + n) g ∙ after-add i n (pcg32 g).1 ∙ ap (λ s. after_words s n) (sym (after-suc i g))

word_in : (n k : ℕ) (g : Lcg) → k < n → get_or (words_from g n) k 0 ≡ word_at g k
word_in zero k g h = absurd (omega (arith, h))
word_in (suc n) zero g h = ap (λ xs. get_or xs 0 0) (words-suc n g) ∙ ap (λ s. (pcg32 s).0) (sym (after-zero g))
word_in (suc n) (suc k) g h = ap (λ xs. get_or xs (suc k) 0) (words-suc n g) ∙ word_in n k (pcg32 g).1 (omega (arith, h)) ∙ ap (λ s. (pcg32 s).0) (sym (after-suc k g))

pub draws_follow : DrawsFollow
draws_follow g t k h = word_in 8 k (after_words g (8 * t)) h ∙ ap (λ s. (pcg32 s).0) (sym (after-add (8 * t) k g))
