-- Pairs that share no first and no second number, and what they make of a label.
use Rattle.std.proofs.Common.{◌≡◌, ℕ, ◌+◌, ◌<◌, ◌≤◌, zero, suc, get_or, Bool, true, false, not, nat_eq, cond, inl, inr, Ok, Err, ◌||◌, ◌&&◌, List, [], ◌∷◌, ◌++◌, length, take, sym, ◌∙◌, ap, refl, subst, arith}
use Rattle.std.specs.List.{list_any}
use Rattle.std.specs.List.Sorted.{IsStrictlySortedBy, IsPermutation, IsSorted, IsNonDecreasingBy, IsBinarySearchResult}
use Rattle.std.specs.List.{dedup}
use Rattle.std.specs.Cmp.{IsTotalOrder, both_tied, unsigned_tied}
use Rattle.std.specs.Cmp.Lexicographic.{on_texts}
use Rattle.std.specs.Ordering.{nat_cmp, ordering_then, ordering_index, is_eq, match_ordering}
use Rattle.std.specs.declared.cmp.Ordering.{Ordering}
use Rattle.std.specs.declared.cmp.Ordering.TheVariants.{Less, Equal, Greater}
use Rattle.std.proofs.lemmas.Bool.{cases_lt}
use Rattle.std.proofs.lemmas.Map.Keys.{Less-from_sorted}
use Rattle.std.proofs.lemmas.Bool.Decides.{nat_tests}
use Rattle.std.proofs.lemmas.List.{take_more}
use Rattle.std.proofs.lemmas.List.Folds.{list_any-append}
use Rattle.complex_core.specs.Rising.{put, rising}
use Rattle.complex_core.specs.Maps.{pair_cmp, takes, reaches, Differ, ArePositive, IsMap, turned, at}
use Rattle.complex_core.proofs.Sets.{any-put, any-rising, each_rising, sorted_rising}
use Rattle.complex_core.proofs.SortAny.{sorted_any}
use Rattle.complex_core.proofs.Faces.{equal_cmp, less_cmp, cmp_less, cmp_greater}
use Rattle.complex_core.proofs.Laws.{both_false, nat_eq_is, nat_eq_swap, or_right}
use Rattle.complex_core.proofs.Booleans.{right_off}

-- ---- the order of pairs

then_equal : (r : Ordering) → ordering_then r Equal ≡ r
then_equal Less = refl
then_equal Equal = refl
then_equal Greater = refl

pub pair_total : IsTotalOrder pair_cmp
pair_total =
    let P : (ℕ × ℕ → ℕ × ℕ → Ordering) → Type 0 = λ R. IsTotalOrder R in
    subst P (λ i p q. ordering_then (nat_cmp p.0 q.0) (then_equal (nat_cmp p.1 q.1) i)) (on_texts (λ (p : ℕ × ℕ). p.0 ∷ p.1 ∷ []))

pub pair_exact : (p q : ℕ × ℕ) → pair_cmp p q ≡ Equal → p ≡ q
pair_exact p q e =
    elim (nat_cmp p.0 q.0) as (λ r. nat_cmp p.0 q.0 ≡ r → ordering_then r (nat_cmp p.1 q.1) ≡ Equal → p ≡ q) [
      | Less ↦ λ _ g. let t : Less ≡ Equal = g in cc
      | Equal ↦ λ f g. let a : p.0 ≡ q.0 = equal_cmp p.0 q.0 f in let b : p.1 ≡ q.1 = equal_cmp p.1 q.1 g in λ i. (a i, b i)
      | Greater ↦ λ _ g. let t : Greater ≡ Equal = g in cc
    ] refl e

pub sorted_pairs : (xs ys : List (ℕ × ℕ)) → IsPermutation xs ys → IsSorted pair_cmp ys → dedup (λ p q. nat_eq p.0 q.0 && nat_eq p.1 q.1) ys ≡ rising pair_cmp xs
sorted_pairs = sorted_any pair_total pair_exact (λ p q. both_tied (nat_eq p.0 q.0) (nat_eq p.1 q.1) (nat_cmp p.0 q.0) (nat_cmp p.1 q.1) (sym (unsigned_tied p.0 q.0)) (sym (unsigned_tied p.1 q.1)))

-- ---- pairs that differ

other_first : (x y : ℕ) (b : Bool) → (nat_eq x y || b) ≡ false → nat_eq y x ≡ false
other_first x y b h =
    elim (nat_eq x y) as (λ t. nat_eq x y ≡ t → (t || b) ≡ false → nat_eq y x ≡ false) [
      | true ↦ λ _ g. let f : true ≡ false = g in cc
      | false ↦ λ e _. nat_eq_swap y x ∙ e
    ] refl h

pub takes-rising : (pairs : List (ℕ × ℕ)) (x : ℕ) → takes (rising pair_cmp pairs) x ≡ takes pairs x
takes-rising pairs x = any-rising pair_cmp pair_exact (λ p. nat_eq p.0 x) pairs

pub reaches-rising : (pairs : List (ℕ × ℕ)) (y : ℕ) → reaches (rising pair_cmp pairs) y ≡ reaches pairs y
reaches-rising pairs y = any-rising pair_cmp pair_exact (λ p. nat_eq p.1 y) pairs

differ_put : (k : ℕ × ℕ) (ps : List (ℕ × ℕ)) → takes ps k.0 ≡ false → reaches ps k.1 ≡ false → Differ ps → Differ (put pair_cmp k ps)
differ_put k [] t r d = (refl, refl, tt)
differ_put k (p ∷ ps) t r d =
    elim (pair_cmp k p) as (λ o. Differ (match_ordering o (k ∷ p ∷ ps) (p ∷ ps) (p ∷ put pair_cmp k ps))) [
      | Less ↦ (t, r, d)
      | Equal ↦ d
      | Greater ↦ (
        any-put pair_cmp pair_exact (λ q. nat_eq q.0 p.0) k ps ∙ both_false (other_first p.0 k.0 (takes ps k.0) t) d.0,
        any-put pair_cmp pair_exact (λ q. nat_eq q.1 p.1) k ps ∙ both_false (other_first p.1 k.1 (reaches ps k.1) r) d.1,
        differ_put k ps (right_off (nat_eq p.0 k.0) (takes ps k.0) t) (right_off (nat_eq p.1 k.1) (reaches ps k.1) r) d.2,
      )
    ]

differ_rising : (pairs : List (ℕ × ℕ)) → Differ pairs → Differ (rising pair_cmp pairs)
differ_rising [] d = tt
differ_rising (p ∷ ps) d = differ_put p (rising pair_cmp ps) (takes-rising ps p.0 ∙ d.0) (reaches-rising ps p.1 ∙ d.1) (differ_rising ps d.2)

pub made_map : (pairs : List (ℕ × ℕ)) → ArePositive pairs → Differ pairs → IsMap (rising pair_cmp pairs)
made_map pairs positive differ = record {
  positive = each_rising pair_cmp (λ p. (0 < p.0) × (0 < p.1)) pairs positive;
  rising = sorted_rising pair_total pairs;
  differ = differ_rising pairs differ;
}

-- one more pair at the end
pub differ_push : (ps : List (ℕ × ℕ)) (p : ℕ × ℕ) → Differ ps → takes ps p.0 ≡ false → reaches ps p.1 ≡ false → Differ (ps ++ p ∷ [])
differ_push [] p d t r = (refl, refl, tt)
differ_push (q ∷ qs) p d t r = (
  list_any-append (λ s. nat_eq s.0 q.0) qs (p ∷ []) ∙ both_false d.0 (both_false (other_first q.0 p.0 (takes qs p.0) t) refl),
  list_any-append (λ s. nat_eq s.1 q.1) qs (p ∷ []) ∙ both_false d.1 (both_false (other_first q.1 p.1 (reaches qs p.1) r) refl),
  differ_push qs p d.2 (right_off (nat_eq q.0 p.0) (takes qs p.0) t) (right_off (nat_eq q.1 p.1) (reaches qs p.1) r),
)

-- ---- pairs turned round

pub takes-turned : (pairs : List (ℕ × ℕ)) (x : ℕ) → takes (turned pairs) x ≡ reaches pairs x
takes-turned [] x = refl
takes-turned (p ∷ ps) x = ap (λ b. nat_eq p.1 x || b) (takes-turned ps x)

pub reaches-turned : (pairs : List (ℕ × ℕ)) (y : ℕ) → reaches (turned pairs) y ≡ takes pairs y
reaches-turned [] y = refl
reaches-turned (p ∷ ps) y = ap (λ b. nat_eq p.0 y || b) (reaches-turned ps y)

pub positive_turned : (pairs : List (ℕ × ℕ)) → ArePositive pairs → ArePositive (turned pairs)
positive_turned [] h = tt
positive_turned (p ∷ ps) h = ((h.0.1, h.0.0), positive_turned ps h.1)

pub differ_turned : (pairs : List (ℕ × ℕ)) → Differ pairs → Differ (turned pairs)
differ_turned [] d = tt
differ_turned (p ∷ ps) d = (takes-turned ps p.1 ∙ d.1, reaches-turned ps p.0 ∙ d.0, differ_turned ps d.2)

-- ---- what a label becomes

-- the pair at a position is the one that a search by its first number finds
pub found_pair : (ps : List (ℕ × ℕ)) (x i : ℕ) (d : ℕ × ℕ) → Differ ps → i < length ps → (get_or ps i d).0 ≡ x → (takes ps x ≡ true) × ((get_or ps i d).1 ≡ at ps x)
found_pair [] x i d differ l e = absurd (omega (arith, l))
found_pair (p ∷ ps) x zero d differ l e = let t : nat_eq p.0 x ≡ true = grind (arith, nat_tests) in (ap (λ b. b || takes ps x) t, sym (ap (λ b. cond b p.1 (at ps x)) t))
found_pair (p ∷ ps) x (suc i) d differ l e =
    let r : (takes ps x ≡ true) × ((get_or ps i d).1 ≡ at ps x) = found_pair ps x i d differ.2 (omega arith) e in
    let other : nat_eq p.0 x ≡ false = other_pair p.0 x ps differ.0 r.0 in
    (or_right (nat_eq p.0 x) (takes ps x) r.0, r.1 ∙ sym (ap (λ b. cond b p.1 (at ps x)) other))
  where
    other_pair : (a x : ℕ) (ps : List (ℕ × ℕ)) → takes ps a ≡ false → takes ps x ≡ true → nat_eq a x ≡ false
    other_pair a x ps f t = elim (nat_eq a x) as (λ b. nat_eq a x ≡ b → b ≡ false) [
      | true ↦ λ e. sym t ∙ ap (takes ps) (sym (nat_eq_is a x e)) ∙ f
      | false ↦ λ _. refl
    ] refl

pub missing_pair : (ps : List (ℕ × ℕ)) (x : ℕ) (d : ℕ × ℕ) → ((k : ℕ) → k < length ps → nat_eq (get_or ps k d).0 x ≡ false) → takes ps x ≡ false
missing_pair [] x d h = refl
missing_pair (p ∷ ps) x d h = both_false (h 0 (omega arith)) (missing_pair ps x d (λ k l. h (suc k) (omega arith)))

-- ---- the numbers seen so far

pub at_the_end : (a b : Bool) → cond a true b ≡ (b || (a || false))
at_the_end true true = refl
at_the_end true false = refl
at_the_end false true = refl
at_the_end false false = refl

-- a set of the numbers seen, with the next pair's
pub seen_next : (side : ℕ × ℕ → ℕ) (ps : List (ℕ × ℕ)) (i : ℕ) (d : ℕ × ℕ) (old new : ℕ → Bool) → i < length ps → ((x : ℕ) → old x ≡ list_any (λ p. nat_eq (side p) x) (take i ps)) → ((x : ℕ) → new x ≡ cond (is_eq (nat_cmp (side (get_or ps i d)) x)) true (old x)) → (x : ℕ) → new x ≡ list_any (λ p. nat_eq (side p) x) (take (i + 1) ps)
seen_next side ps i d old new l so_far step x =
    step x
    ∙ (λ j. cond (unsigned_tied (side (get_or ps i d)) x j) true (so_far x j))
    ∙ at_the_end (nat_eq (side (get_or ps i d)) x) (list_any (λ p. nat_eq (side p) x) (take i ps))
    ∙ sym (list_any-append (λ p. nat_eq (side p) x) (take i ps) (get_or ps i d ∷ []))
    ∙ ap (list_any (λ p. nat_eq (side p) x)) (sym (take_more ps i d l))

pub was_new : (new there : Bool) → new ≡ not there → new ≡ true → there ≡ false
was_new new true e t = let f : true ≡ false = sym t ∙ e in cc
was_new new false e t = refl

pub differ_next : (ps : List (ℕ × ℕ)) (i : ℕ) (d : ℕ × ℕ) → i < length ps → Differ (take i ps) → takes (take i ps) (get_or ps i d).0 ≡ false → reaches (take i ps) (get_or ps i d).1 ≡ false → Differ (take (i + 1) ps)
differ_next ps i d l differ t r = let P : List (ℕ × ℕ) → Type 0 = λ qs. Differ qs in subst P (sym (take_more ps i d l)) (differ_push (take i ps) (get_or ps i d) differ t r)

-- ---- a search by the first number

firsts_grow : (p q : ℕ × ℕ) → pair_cmp p q ≡ Less → p.0 ≤ q.0
firsts_grow p q e =
    elim (nat_cmp p.0 q.0) as (λ r. nat_cmp p.0 q.0 ≡ r → ordering_then r (nat_cmp p.1 q.1) ≡ Less → p.0 ≤ q.0) [
      | Less ↦ λ f _. omega (arith, less_cmp p.0 q.0 f)
      | Equal ↦ λ f _. omega (arith, equal_cmp p.0 q.0 f)
      | Greater ↦ λ _ g. let t : Greater ≡ Less = g in cc
    ] refl e

index_grows : (a b x : ℕ) → a ≤ b → ordering_index (nat_cmp a x) ≤ ordering_index (nat_cmp b x)
index_grows a b x h = elim (cases_lt a x) [
  | inl low ↦ let e : nat_cmp a x ≡ Less = cmp_less a x low in rw e (omega arith)
  | inr high ↦ elim (cases_lt x b) [
    | inl above ↦ let e : nat_cmp b x ≡ Greater = cmp_greater b x above in rw e (at_most (nat_cmp a x))
    | inr same ↦ let e : a ≡ x = omega arith in let f : b ≡ x = omega arith in rw (e, f) (omega arith)
  ]
]
  where
    at_most : (r : Ordering) → ordering_index r ≤ ordering_index Greater
    at_most Less = omega arith
    at_most Equal = omega arith
    at_most Greater = omega arith

first_searchable : (ps : List (ℕ × ℕ)) (x : ℕ) → IsStrictlySortedBy pair_cmp ps → IsNonDecreasingBy (λ p. ordering_index (nat_cmp p.0 x)) ps
first_searchable ps x s = λ i j d le l. elim (cases_lt i j) [
  | inl lt ↦ index_grows (get_or ps i d).0 (get_or ps j d).0 x (firsts_grow (get_or ps i d) (get_or ps j d) (Less-from_sorted pair_cmp ps i j d s lt l))
  | inr ge ↦ let e : i ≡ j = omega arith in rw e (omega arith)
]

-- where the search ends at no pair, there is none
pub none_searched : (shown ps : List (ℕ × ℕ)) (x position : ℕ) → shown ≡ ps → IsStrictlySortedBy pair_cmp ps → IsBinarySearchResult (λ p. nat_cmp p.0 x) shown (Err position) → takes ps x ≡ false
none_searched shown ps x position e s =
    let P : List (ℕ × ℕ) → Type 0 = λ qs. IsBinarySearchResult (λ p. nat_cmp p.0 x) qs (Err position) → takes ps x ≡ false in
    subst P (sym e) (λ search. missing_pair ps x (0, 0) (λ k l. elim (cases_lt k position) [
      | inl low ↦ let c : nat_cmp (get_or ps k (0, 0)).0 x ≡ Less = (search (first_searchable ps x s)).0 k (0, 0) (omega arith) low in let n : (get_or ps k (0, 0)).0 < x = less_cmp _ _ c in grind (arith, nat_tests)
      | inr high ↦ let c : nat_cmp (get_or ps k (0, 0)).0 x ≡ Greater = (search (first_searchable ps x s)).1 k (0, 0) high l in let n : x < (get_or ps k (0, 0)).0 = greater_cmp _ _ c in grind (arith, nat_tests)
    ]))
  where
    greater_cmp : (x y : ℕ) → nat_cmp x y ≡ Greater → y < x
    greater_cmp x y h = grind (arith, nat_tests)

pub one_searched : (shown ps : List (ℕ × ℕ)) (x position : ℕ) (p : ℕ × ℕ) → shown ≡ ps → Differ ps → position < length shown → IsBinarySearchResult (λ q. nat_cmp q.0 x) shown (Ok position) → p ≡ get_or ps position p → (takes ps x ≡ true) × (p.1 ≡ at ps x)
one_searched shown ps x position p e differ =
    let P : List (ℕ × ℕ) → Type 0 = λ qs. position < length qs → IsBinarySearchResult (λ q. nat_cmp q.0 x) qs (Ok position) → p ≡ get_or ps position p → (takes ps x ≡ true) × (p.1 ≡ at ps x) in
    subst P (sym e) (λ l search item.
    let r : (takes ps x ≡ true) × ((get_or ps position p).1 ≡ at ps x) = found_pair ps x position p differ l (equal_cmp _ _ (search p)) in
    (r.0, ap (λ q. q.1) item ∙ r.1))
