-- A list whose members each belong to one of n parts.
use Rattle.std.proofs.Common.{◌≡◌, ℕ, zero, suc, ◌*◌, ◌<◌, ◌≤◌, Bool, true, false, not, cond, List, [], ◌∷◌, length, filter, sym, refl, ap, ◌∙◌, subst, arith}
use Rattle.std.specs.List.{AllByRecursion}
use Rattle.std.proofs.Math.Nat.{suc-mul}
use Rattle.std.proofs.lemmas.List.Filters.{length-filter_both}

module _ {A : Type 0} where
  -- a member of the part that it names, which is from 1 to n
  pub record Homed (part : ℕ → A → Bool) (home : A → ℕ) (n : ℕ) (x : A) : Type 0 where
    pub low : 0 < home x
    pub high : home x ≤ n
    pub here : part (home x) x ≡ true

  kept_head : (P : A → Type 0) (p : A → Bool) (x : A) (xs : List A) → p x ≡ true → AllByRecursion P (filter p (x ∷ xs)) → P x
  kept_head P p x xs is h = (let g : AllByRecursion P (x ∷ filter p xs) = subst (λ (b : Bool). AllByRecursion P (cond b (x ∷ filter p xs) (filter p xs))) is h in g).0

  kept_tail : (P : A → Type 0) (p : A → Bool) (x : A) (xs : List A) → AllByRecursion P (filter p (x ∷ xs)) → AllByRecursion P (filter p xs)
  kept_tail P p x xs h = elim (p x) as (λ b. AllByRecursion P (cond b (x ∷ filter p xs) (filter p xs)) → AllByRecursion P (filter p xs)) [ true ↦ λ g. g.1 | false ↦ λ g. g ] h

  -- what holds of each member of each part holds of all
  pub each_part : (P : A → Type 0) (part : ℕ → A → Bool) (home : A → ℕ) (n : ℕ) (xs : List A) → AllByRecursion (Homed part home n) xs → ((w : ℕ) → 0 < w → w ≤ n → AllByRecursion P (filter (part w) xs)) → AllByRecursion P xs
  each_part P part home n [] h all = tt
  each_part P part home n (x ∷ xs) h all = (kept_head P (part (home x)) x xs h.0.here (all (home x) h.0.low h.0.high), each_part P part home n xs h.1 (λ w low high. kept_tail P (part w) x xs (all w low high)))

  -- the members of the other parts
  abbrev others : (A → Bool) → List A → List A
  others p xs = filter (λ x. not (p x)) xs

  fewer : (p q : A → Bool) (xs : List A) → length (filter p (filter q xs)) ≤ length (filter p xs)
  fewer p q [] = omega arith
  fewer p q (x ∷ xs) = let i = fewer p q xs in elim (q x) as (λ b. length (filter p (cond b (x ∷ filter q xs) (filter q xs))) ≤ length (cond (p x) (x ∷ filter p xs) (filter p xs))) [
    | true ↦ elim (p x) as (λ c. length (cond c (x ∷ filter p (filter q xs)) (filter p (filter q xs))) ≤ length (cond c (x ∷ filter p xs) (filter p xs))) [ true ↦ omega (arith, i) | false ↦ i ]
    | false ↦ elim (p x) as (λ c. length (filter p (filter q xs)) ≤ length (cond c (x ∷ filter p xs) (filter p xs))) [ true ↦ omega (arith, i) | false ↦ i ]
  ]

  -- who isn't in the last part is in one before it
  homed_before : (part : ℕ → A → Bool) (home : A → ℕ) (n : ℕ) (x : A) → Homed part home (suc n) x → part (suc n) x ≡ false → Homed part home n x
  homed_before part home n x h out = record { low = h.low; high = omega (arith, h.high, not_last); here = h.here }
    where
      not_last : home x ≡ suc n → ⊥
      not_last e = let clash : true ≡ false = sym h.here ∙ (ap (λ w. part w x) e ∙ out) in cc

  homed_others : (part : ℕ → A → Bool) (home : A → ℕ) (n : ℕ) (xs : List A) → AllByRecursion (Homed part home (suc n)) xs → AllByRecursion (Homed part home n) (others (part (suc n)) xs)
  homed_others part home n [] h = tt
  homed_others part home n (x ∷ xs) h =
      let rest = homed_others part home n xs h.1 in
      elim (part (suc n) x) as (λ b. part (suc n) x ≡ b → AllByRecursion (Homed part home n) (cond (not b) (x ∷ others (part (suc n)) xs) (others (part (suc n)) xs))) [
        | true ↦ λ _. rest
        | false ↦ λ out. (homed_before part home n x h.0 out, rest)
      ] refl

  -- n parts of at most t members have at most n * t members together
  pub few_in_parts : (part : ℕ → A → Bool) (home : A → ℕ) (t n : ℕ) (xs : List A) → AllByRecursion (Homed part home n) xs → ((w : ℕ) → 0 < w → w ≤ n → length (filter (part w) xs) ≤ t) → length xs ≤ n * t
  few_in_parts part home t zero [] h all = omega arith
  few_in_parts part home t zero (x ∷ xs) h all = let low = h.0.low in let high = h.0.high in absurd (omega (arith, low, high))
  few_in_parts part home t (suc n) xs h all =
      let last = part (suc n) in
      let both = length-filter_both last (λ x. not (last x)) (λ x. refl) xs in
      let rest = few_in_parts part home t n (others last xs) (homed_others part home n xs h) (λ w low high. let g = fewer (part w) (λ x. not (last x)) xs in let a = all w low (omega (arith, high)) in omega (arith, g, a)) in
      let here = all (suc n) (omega arith) (omega arith) in
      let product = suc-mul n t in
      omega (arith, both, rest, here, product)
