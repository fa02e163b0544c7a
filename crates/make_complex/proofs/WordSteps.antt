-- The three words of a draw.
use Rattle.std.proofs.Common.{◌≡◌, ℕ, suc, sym, ◌∙◌, ap, refl}
use Rattle.rand_pcg.specs.Lcg.{Lcg, state_after}
use Rattle.rand_pcg.specs.Pcg.{pcg32}
use Rattle.make_complex.specs.Words.{after_words, word_at}

after-suc : (n : ℕ) (g : Lcg) → after_words g (suc n) ≡ after_words (pcg32 g).1 n
unfolding state_after
after-suc n g = refl

after-zero : (g : Lcg) → after_words g 0 ≡ g
unfolding state_after
after-zero g = refl

pub record AreWords (g h : Lcg) (u0 u1 u2 : ℕ) : Type 0 where
  pub first : u0 ≡ word_at g 0
  pub second : u1 ≡ word_at g 1
  pub third : u2 ≡ word_at g 2
  pub after : h ≡ after_words g 3

pub three_words : (g a b h : Lcg) (u0 u1 u2 : ℕ) → (u0, a) ≡ pcg32 g → (u1, b) ≡ pcg32 a → (u2, h) ≡ pcg32 b → AreWords g h u0 u1 u2
three_words g a b h u0 u1 u2 p q r =
    let one : after_words g 1 ≡ a = after-suc 0 g ∙ after-zero (pcg32 g).1 ∙ sym (ap (λ t. t.1) p) in
    let two : after_words g 2 ≡ b = after-suc 1 g ∙ after-suc 0 (pcg32 g).1 ∙ after-zero (pcg32 (pcg32 g).1).1 ∙ ap (λ s. (pcg32 s).1) (sym (ap (λ t. t.1) p)) ∙ sym (ap (λ t. t.1) q) in
    record {
      first = ap (λ t. t.0) p ∙ ap (λ s. (pcg32 s).0) (sym (after-zero g));
      second = ap (λ t. t.0) q ∙ ap (λ s. (pcg32 s).0) (sym one);
      third = ap (λ t. t.0) r ∙ ap (λ s. (pcg32 s).0) (sym two);
      after = ap (λ t. t.1) r ∙ ap (λ s. (pcg32 s).1) (sym two) ∙ sym (after-suc 2 g ∙ after-suc 1 (pcg32 g).1 ∙ after-suc 0 (pcg32 (pcg32 g).1).1 ∙ after-zero (pcg32 (pcg32 (pcg32 g).1).1).1 ∙ ap (λ s. (pcg32 s).1) (sym (after-suc 1 g ∙ after-suc 0 (pcg32 g).1 ∙ after-zero (pcg32 (pcg32 g).1).1)));
    }
