-- The least label of a flip that fails a test.
use Rattle.std.proofs.Common.{◌≡◌, ℕ, ◌≤◌, min, Bool, true, false, not, cond, nat_eq, ◌||◌, ◌⊎◌, inl, inr, List, [], ◌∷◌, Option, Some, None, MatchOption, find, sym, ◌∙◌, ap, refl, subst, arith}
use Rattle.std.specs.List.Sorted.{IsStrictlySortedBy}
use Rattle.std.specs.Ordering.{nat_cmp}
use Rattle.std.proofs.lemmas.Bool.{true≢false, cases_lt}
use Rattle.complex_core.specs.Labels.{has, IsFace}
use Rattle.complex_core.proofs.Sets.{Above, above_head, above_tail}
use Rattle.complex_core.proofs.Faces.{less_cmp}
use Rattle.complex_core.proofs.Laws.{nat_eq_is, nat_eq_same, or_left, or_right}
use Rattle.flip_rules.specs.Journals.{flip_touches}
use Rattle.flip_rules.specs.declared.flip.Flip.{Flip}
use Rattle.flip_world.specs.Labels.{lesser}
use Rattle.core_laws.specs.Steps.{EachLabel, IsLeastFailing}

-- the least of a rising list that fails a test
record LeastOf (test : ℕ → Bool) (xs : List ℕ) (x : ℕ) : Type 0 where
  there : has xs x ≡ true
  fails : test x ≡ false
  least : (p : ℕ) → has xs p ≡ true → test p ≡ false → x ≤ p

abbrev Found : (ℕ → Bool) → List ℕ → Option ℕ → Type 0
Found test xs r = MatchOption r ((p : ℕ) → has xs p ≡ true → test p ≡ true) (LeastOf test xs)

above_le : (x p : ℕ) (xs : List ℕ) → Above nat_cmp x xs → has xs p ≡ true → x ≤ p
above_le x p [] a t = absurd (true≢false (sym t))
above_le x p (y ∷ ys) a t =
    elim (nat_eq y p) as (λ b. nat_eq y p ≡ b → (b || has ys p) ≡ true → x ≤ p) [
      | true ↦ λ e _. let f : y ≡ p = nat_eq_is y p e in omega (arith, less_cmp x y a.0, f)
      | false ↦ λ _ g. above_le x p ys a.1 g
    ] refl t

more : (test : ℕ → Bool) (x : ℕ) (xs : List ℕ) (r : Option ℕ) → test x ≡ true → Found test xs r → Found test (x ∷ xs) r
more test x xs (Some y) e h = record { there = or_right (nat_eq x y) (has xs y) h.there; fails = h.fails; least = λ p t f. h.least p (rest p t f) f }
  where
    rest : (p : ℕ) → has (x ∷ xs) p ≡ true → test p ≡ false → has xs p ≡ true
    rest p t f = elim (nat_eq x p) as (λ b. nat_eq x p ≡ b → (b || has xs p) ≡ true → has xs p ≡ true) [
      | true ↦ λ g _. absurd (true≢false (sym (ap test (sym (nat_eq_is x p g)) ∙ e) ∙ f))
      | false ↦ λ _ g. g
    ] refl t
more test x xs None e h = λ p t. elim (nat_eq x p) as (λ b. nat_eq x p ≡ b → (b || has xs p) ≡ true → test p ≡ true) [
  | true ↦ λ g _. ap test (sym (nat_eq_is x p g)) ∙ e
  | false ↦ λ _ g. h p g
] refl t

found_first : (test : ℕ → Bool) (xs : List ℕ) → IsStrictlySortedBy nat_cmp xs → Found test xs (find (λ p. not (test p)) xs)
found_first test [] s = λ p t. absurd (true≢false (sym t))
found_first test (x ∷ xs) s =
    elim (test x) as (λ b. test x ≡ b → Found test (x ∷ xs) (cond (not b) (Some x) (find (λ p. not (test p)) xs))) [
      | true ↦ λ e. more test x xs (find (λ p. not (test p)) xs) e (found_first test xs (above_tail nat_cmp x xs s))
      | false ↦ λ e. record {
        there = or_left (nat_eq x x) (has xs x) (nat_eq_same x);
        fails = e;
        least = λ p t f. elim (nat_eq x p) as (λ b. nat_eq x p ≡ b → (b || has xs p) ≡ true → x ≤ p) [
          | true ↦ λ g _. let h : x ≡ p = nat_eq_is x p g in omega (arith, h)
          | false ↦ λ _ g. above_le x p xs (above_head nat_cmp x xs s) g
        ] refl t;
      }
    ] refl

touches_either : (f : Flip) (p : ℕ) (C : Type 0) → flip_touches p f ≡ true → (has f.a p ≡ true → C) → (has f.b p ≡ true → C) → C
touches_either f p C t one other = elim (has f.a p) as (λ b. has f.a p ≡ b → (b || has f.b p) ≡ true → C) [ true ↦ λ e _. one e | false ↦ λ _ g. other g ] refl t

either_least : (test : ℕ → Bool) (f : Flip) (r s : Option ℕ) → Found test f.a r → Found test f.b s → MatchOption (lesser r s) (EachLabel test f) (IsLeastFailing test f)
either_least test f None None h g = λ p t. touches_either f p (test p ≡ true) t (h p) (g p)
either_least test f (Some x) None h g = record {
  there = or_left (has f.a x) (has f.b x) h.there;
  fails = h.fails;
  least = λ p t e. touches_either f p (x ≤ p) t (λ u. h.least p u e) (λ u. absurd (true≢false (sym (g p u) ∙ e)));
}
either_least test f None (Some y) h g = record {
  there = or_right (has f.a y) (has f.b y) g.there;
  fails = g.fails;
  least = λ p t e. touches_either f p (y ≤ p) t (λ u. absurd (true≢false (sym (h p u) ∙ e))) (λ u. g.least p u e);
}
either_least test f (Some x) (Some y) h g = record {
  there = min_either (λ z. flip_touches z f ≡ true) x y (or_left (has f.a x) (has f.b x) h.there) (or_right (has f.a y) (has f.b y) g.there);
  fails = min_either (λ z. test z ≡ false) x y h.fails g.fails;
  least = λ p t e. touches_either f p (min x y ≤ p) t (λ u. let l : x ≤ p = h.least p u e in omega (arith, l)) (λ u. let l : y ≤ p = g.least p u e in omega (arith, l));
}
  where
    min_either : (P : ℕ → Type 0) (x y : ℕ) → P x → P y → P (min x y)
    min_either P x y p q = elim (min_is x y) [ inl e ↦ subst P (sym e) p | inr e ↦ subst P (sym e) q ]
      where
        min_is : (x y : ℕ) → (min x y ≡ x) ⊎ (min x y ≡ y)
        min_is x y = elim (cases_lt x y) [ inl l ↦ inl (omega (arith, l)) | inr l ↦ inr (omega (arith, l)) ]

pub least_label : (test : ℕ → Bool) (f : Flip) (one other : List ℕ) (r : Option ℕ) → IsFace f.a → IsFace f.b → one ≡ f.a → other ≡ f.b → r ≡ lesser (find (λ p. not (test p)) one) (find (λ p. not (test p)) other) → MatchOption r (EachLabel test f) (IsLeastFailing test f)
least_label test f one other r fa fb ea eb e =
    let P : Option ℕ → Type 0 = λ o. MatchOption o (EachLabel test f) (IsLeastFailing test f) in
    subst P (sym (e ∙ (λ i. lesser (find (λ p. not (test p)) (ea i)) (find (λ p. not (test p)) (eb i)))))
    (either_least test f (find (λ p. not (test p)) f.a) (find (λ p. not (test p)) f.b)
    (found_first test f.a (above_tail nat_cmp 0 f.a fa.rising)) (found_first test f.b (above_tail nat_cmp 0 f.b fb.rising)))
