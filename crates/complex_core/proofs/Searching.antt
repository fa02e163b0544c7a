-- Where a search over a rising list ends, and what an edit at that position makes.
use Rattle.std.proofs.Common.{◌≡◌, ℕ, ◌+◌, ◌<◌, ◌≤◌, zero, suc, get_or, Result, Ok, Err, List, [], ◌∷◌, ◌++◌, length, filter, Bool, true, false, not, cond, ◌||◌, sym, ◌∙◌, ap, refl, subst, arith}
use Rattle.std.specs.List.{insert, remove}
use Rattle.std.specs.List.Sorted.{IsStrictlySortedBy, IsSorted, IsNonDecreasingBy, IsBinarySearchResult, IsSearchInRange}
use Rattle.std.specs.Cmp.{IsTotalOrder}
use Rattle.std.specs.Ordering.{eq_by_cmp, match_ordering, ordering_reverse, ordering_index, is_eq, is_lt}
use Rattle.std.specs.Result.{MatchResult}
use Rattle.std.specs.declared.cmp.Ordering.{Ordering}
use Rattle.std.specs.declared.cmp.Ordering.TheVariants.{Less, Equal, Greater}
use Rattle.std.proofs.lemmas.List.Sorted.{searchable_from_sorted}
use Rattle.std.proofs.lemmas.Map.Keys.{Less-from_sorted}
use Rattle.complex_core.specs.Rising.{put, rising}
use Rattle.std.proofs.lemmas.List.Folds.{list_any-append}
use Rattle.complex_core.proofs.Sets.{Above, above_head, above_tail, among, among-put, among-rising, sorted_put, sorted_rising, greater_less, rising_is, put_there_same}

pub to_end : (a b : Bool) → (a || b) ≡ (b || (a || false))
to_end true true = refl
to_end true false = refl
to_end false true = refl
to_end false false = refl

-- the position of a member, and the list without it
pub record Stands {K : Type 0} (R : K → K → Ordering) (xs : List K) (x : K) (at : ℕ) : Type 0 where
  pub there : among R x xs ≡ true
  pub same : put R x xs ≡ xs
  pub removed : remove xs at ≡ filter (λ y. not (eq_by_cmp R y x)) xs

-- the position where something new goes, and the list with it
pub record Missing {K : Type 0} (R : K → K → Ordering) (xs : List K) (x : K) (at : ℕ) : Type 0 where
  pub absent : among R x xs ≡ false
  pub inserted : insert xs at x ≡ put R x xs
  pub same : filter (λ y. not (eq_by_cmp R y x)) xs ≡ xs

module _ {K : Type 0} {R : K → K → Ordering} (o : IsTotalOrder R) where
  less_greater : (x y : K) → R x y ≡ Less → R y x ≡ Greater
  less_greater x y l = o.antisymm y x ∙ ap ordering_reverse l

  sorted_from_rising : (xs : List K) → IsStrictlySortedBy R xs → IsSorted R xs
  sorted_from_rising xs s = λ k d low high. ap is_lt (less_greater (get_or xs k d) (get_or xs (k + 1) d) (Less-from_sorted R xs k (k + 1) d s (omega arith) high))

  -- what `binary_search` asks of the list
  pub searchable : (xs : List K) (x : K) → IsStrictlySortedBy R xs → IsNonDecreasingBy (λ y. ordering_index (R y x)) xs
  searchable xs x s = searchable_from_sorted o (λ y. y) xs x (sorted_from_rising xs s)

  absent_at : (xs : List K) (x : K) (at : ℕ) → ((k : ℕ) → k < at → R (get_or xs k x) x ≡ Less) → ((k : ℕ) → at ≤ k → k < length xs → R (get_or xs k x) x ≡ Greater) → among R x xs ≡ false
  absent_at [] x at low high = refl
  absent_at (y ∷ ys) x zero low high =
      let l : R x y ≡ Less = greater_less o y x (high 0 (omega arith) (omega arith)) in
      ap (λ r. is_eq r || among R x ys) l ∙ absent_at ys x zero (λ k h. absurd (omega (arith, h))) (λ k h m. high (suc k) (omega arith) (omega arith))
  absent_at (y ∷ ys) x (suc at) low high =
      let g : R x y ≡ Greater = less_greater y x (low 0 (omega arith)) in
      ap (λ r. is_eq r || among R x ys) g ∙ absent_at ys x at (λ k h. low (suc k) (omega arith)) (λ k h m. high (suc k) (omega arith) (omega arith))

  insert_at : (xs : List K) (x : K) (at : ℕ) → at ≤ length xs → ((k : ℕ) → k < at → R (get_or xs k x) x ≡ Less) → ((k : ℕ) → at ≤ k → k < length xs → R (get_or xs k x) x ≡ Greater) → insert xs at x ≡ put R x xs
  insert_at [] x zero le low high = refl
  insert_at [] x (suc at) le low high = absurd (omega (arith, le))
  insert_at (y ∷ ys) x zero le low high =
      sym (ap (λ r. match_ordering r (x ∷ y ∷ ys) (y ∷ ys) (y ∷ put R x ys)) (greater_less o y x (high 0 (omega arith) (omega arith))))
  insert_at (y ∷ ys) x (suc at) le low high =
      ap (λ zs. y ∷ zs) (insert_at ys x at (omega arith) (λ k h. low (suc k) (omega arith)) (λ k h m. high (suc k) (omega arith) (omega arith)))
      ∙ sym (ap (λ r. match_ordering r (x ∷ y ∷ ys) (y ∷ ys) (y ∷ put R x ys)) (less_greater y x (low 0 (omega arith))))

  keep_above : (x : K) (ys : List K) → Above R x ys → filter (λ y. not (eq_by_cmp R y x)) ys ≡ ys
  keep_above x [] a = refl
  keep_above x (y ∷ ys) a = ap (λ r. cond (not (is_eq r)) (y ∷ filter (λ z. not (eq_by_cmp R z x)) ys) (filter (λ z. not (eq_by_cmp R z x)) ys)) (less_greater x y a.0) ∙ ap (λ zs. y ∷ zs) (keep_above x ys a.1)

  tied_swap : (x y : K) → eq_by_cmp R x y ≡ false → eq_by_cmp R y x ≡ false
  tied_swap x y h = elim (R x y) as (λ r. R x y ≡ r → is_eq r ≡ false → eq_by_cmp R y x ≡ false) [
    | Less ↦ λ e _. ap is_eq (less_greater x y e)
    | Equal ↦ λ e f. let t : true ≡ false = f in cc
    | Greater ↦ λ e _. ap is_eq (greater_less o x y e)
  ] refl h

  keep_absent : (xs : List K) (x : K) → among R x xs ≡ false → filter (λ y. not (eq_by_cmp R y x)) xs ≡ xs
  keep_absent [] x h = refl
  keep_absent (y ∷ ys) x h =
      elim (eq_by_cmp R x y) as (λ b. eq_by_cmp R x y ≡ b → (b || among R x ys) ≡ false → filter (λ z. not (eq_by_cmp R z x)) (y ∷ ys) ≡ y ∷ ys) [
        | true ↦ λ e f. let t : true ≡ false = f in cc
        | false ↦ λ e f. ap (λ b. cond (not b) (y ∷ filter (λ z. not (eq_by_cmp R z x)) ys) (filter (λ z. not (eq_by_cmp R z x)) ys)) (tied_swap x y e) ∙ ap (λ zs. y ∷ zs) (keep_absent ys x f)
      ] refl h

module _ {K : Type 0} {R : K → K → Ordering} (o : IsTotalOrder R) (exact : (x y : K) → R x y ≡ Equal → x ≡ y) where
  remove_at : (xs : List K) (x : K) (at : ℕ) → at < length xs → IsStrictlySortedBy R xs → R (get_or xs at x) x ≡ Equal → remove xs at ≡ filter (λ y. not (eq_by_cmp R y x)) xs
  remove_at [] x at l s e = absurd (omega (arith, l))
  remove_at (y ∷ ys) x zero l s e =
      let P : K → Type 0 = λ z. Above R z ys in
      sym (ap (λ r. cond (not (is_eq r)) (y ∷ filter (λ z. not (eq_by_cmp R z x)) ys) (filter (λ z. not (eq_by_cmp R z x)) ys)) e ∙ keep_above o x ys (subst P (exact y x e) (above_head R y ys s)))
  remove_at (y ∷ ys) x (suc at) l s e =
      let P : K → Type 0 = λ z. R y z ≡ Less in
      let below : R y x ≡ Less = subst P (exact (get_or ys at x) x e) (Less-from_sorted R (y ∷ ys) 0 (suc at) x s (omega arith) (omega arith)) in
      ap (λ zs. y ∷ zs) (remove_at ys x at (omega arith) (above_tail R y ys s) e)
      ∙ sym (ap (λ r. cond (not (is_eq r)) (y ∷ filter (λ z. not (eq_by_cmp R z x)) ys) (filter (λ z. not (eq_by_cmp R z x)) ys)) below)

  among_at : (xs : List K) (x : K) (at : ℕ) → at < length xs → R x (get_or xs at x) ≡ Equal → among R x xs ≡ true
  among_at [] x at l e = absurd (omega (arith, l))
  among_at (y ∷ ys) x zero l e = ap (λ r. is_eq r || among R x ys) e
  among_at (y ∷ ys) x (suc at) l e = elim (eq_by_cmp R x y) as (λ b. (b || among R x ys) ≡ true) [ true ↦ refl | false ↦ among_at ys x at (omega arith) e ]

  -- what a search says
  pub searched_for : (xs : List K) (x : K) (r : Result ℕ ℕ) → IsStrictlySortedBy R xs → IsSearchInRange r (length xs) → IsBinarySearchResult (λ y. R y x) xs r → MatchResult r (Stands R xs x) (Missing R xs x)
  searched_for xs x (Ok at) s within found =
      let e : R (get_or xs at x) x ≡ Equal = found x in
      let t : among R x xs ≡ true = among_at xs x at within (o.antisymm x (get_or xs at x) ∙ ap ordering_reverse e) in
      record { there = t; same = put_there_same o x xs s t; removed = remove_at xs x at within s e }
  searched_for xs x (Err at) s within position =
      let low : (k : ℕ) → k < at → R (get_or xs k x) x ≡ Less = λ k h. (position (searchable o xs x s)).0 k x (omega arith) h in
      let high : (k : ℕ) → at ≤ k → k < length xs → R (get_or xs k x) x ≡ Greater = λ k h m. (position (searchable o xs x s)).1 k x h m in
      let f : among R x xs ≡ false = absent_at o xs x at low high in
      record { absent = f; inserted = insert_at o xs x at within low high; same = keep_absent o xs x f }

  -- a rising list is its own rising list
  pub rising_own : (xs : List K) → IsStrictlySortedBy R xs → rising R xs ≡ xs
  rising_own xs s = sym (rising_is o exact xs xs s (λ q. refl))

  -- one more at the end of a list is put into its place
  pub rising_push : (xs : List K) (x : K) → rising R (xs ++ x ∷ []) ≡ put R x (rising R xs)
  rising_push xs x = sym (rising_is o exact (put R x (rising R xs)) (xs ++ x ∷ []) (sorted_put o x (rising R xs) (sorted_rising o xs)) (λ q. among-put o x q (rising R xs) ∙ ap (λ b. eq_by_cmp R q x || b) (among-rising o q xs) ∙ to_end (eq_by_cmp R q x) (among R q xs) ∙ sym (list_any-append (eq_by_cmp R q) xs (x ∷ []))))
