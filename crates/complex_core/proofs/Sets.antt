-- Sets as rising lists, in a total order at which only equal members tie.
use Rattle.std.proofs.Common.{◌≡◌, ℕ, zero, suc, drop, ◌<◌, ◌≤◌, ◌+◌, List, [], ◌∷◌, ◌++◌, length, Bool, true, false, cond, ◌||◌, sym, ◌∙◌, ap, refl, subst, arith}
use Rattle.std.specs.List.{list_any, AllByRecursion, dedup, dedup_from}
use Rattle.std.specs.List.Sorted.{IsStrictlySortedBy}
use Rattle.std.specs.Cmp.{IsTotalOrder, Equal-is}
use Rattle.std.specs.Ordering.{eq_by_cmp, match_ordering, ordering_reverse, is_eq}
use Rattle.std.specs.declared.cmp.Ordering.{Ordering}
use Rattle.std.specs.declared.cmp.Ordering.TheVariants.{Less, Equal, Greater}
use Rattle.std.proofs.lemmas.Cmp.{tied_itself, alike_right}
use Rattle.complex_core.specs.Rising.{put, rising}

module _ {K : Type 0} (R : K → K → Ordering) where
  abbrev pub Above : K → List K → Type 0
  Above k xs = AllByRecursion (λ y. R k y ≡ Less) xs

  abbrev pub among : K → List K → Bool
  among q xs = list_any (eq_by_cmp R q) xs

  pub above_head : (x : K) (xs : List K) → IsStrictlySortedBy R (x ∷ xs) → Above x xs
  unfolding IsStrictlySortedBy
  above_head x xs h = h.0

  pub above_tail : (x : K) (xs : List K) → IsStrictlySortedBy R (x ∷ xs) → IsStrictlySortedBy R xs
  unfolding IsStrictlySortedBy
  above_tail x xs h = h.1

  pub above_cons : (x : K) (xs : List K) → Above x xs → IsStrictlySortedBy R xs → IsStrictlySortedBy R (x ∷ xs)
  unfolding IsStrictlySortedBy
  above_cons x xs a h = (a, h)

  pub sorted_none : IsStrictlySortedBy R []
  unfolding IsStrictlySortedBy
  sorted_none = tt

or_twice : (a b c : Bool) → a ≡ b → (b || c) ≡ (a || (b || c))
or_twice true true c e = refl
or_twice false b c e = refl
or_twice true false c e = cc

or_once : (a b c : Bool) → a ≡ b → (a || c) ≡ (a || (b || c))
or_once true b c e = refl
or_once false true c e = cc
or_once false false c e = refl

or_swap : (a b c : Bool) → (a || (b || c)) ≡ (b || (a || c))
or_swap true true c = refl
or_swap true false c = refl
or_swap false b c = refl

module _ {K : Type 0} {R : K → K → Ordering} (o : IsTotalOrder R) where
  -- below a member, below all after it
  pub above_lower : (k x : K) (xs : List K) → R k x ≡ Less → Above R x xs → Above R k xs
  above_lower k x [] l a = tt
  above_lower k x (y ∷ ys) l a = (o.trans k x y l a.0, above_lower k x ys l a.1)

  pub above_put : (k x : K) (xs : List K) → R x k ≡ Less → Above R x xs → Above R x (put R k xs)
  above_put k x [] l a = (l, tt)
  above_put k x (y ∷ ys) l a =
      elim (R k y) as (λ r. Above R x (match_ordering r (k ∷ y ∷ ys) (y ∷ ys) (y ∷ put R k ys))) [
        | Less ↦ (l, a)
        | Equal ↦ a
        | Greater ↦ (a.0, above_put k x ys l a.1)
      ]

  pub greater_less : (k x : K) → R k x ≡ Greater → R x k ≡ Less
  greater_less k x g = o.antisymm x k ∙ ap ordering_reverse g

  pub sorted_put : (k : K) (xs : List K) → IsStrictlySortedBy R xs → IsStrictlySortedBy R (put R k xs)
  sorted_put k [] s = above_cons R k [] tt (sorted_none R)
  sorted_put k (x ∷ xs) s =
      elim (R k x) as (λ r. R k x ≡ r → IsStrictlySortedBy R (match_ordering r (k ∷ x ∷ xs) (x ∷ xs) (x ∷ put R k xs))) [
        | Less ↦ λ e. above_cons R k (x ∷ xs) (e, above_lower k x xs e (above_head R x xs s)) s
        | Equal ↦ λ e. s
        | Greater ↦ λ e. above_cons R x (put R k xs) (above_put k x xs (greater_less k x e) (above_head R x xs s)) (sorted_put k xs (above_tail R x xs s))
      ] refl

  pub sorted_rising : (ks : List K) → IsStrictlySortedBy R (rising R ks)
  sorted_rising [] = sorted_none R
  sorted_rising (k ∷ ks) = sorted_put k (rising R ks) (sorted_rising ks)

  -- what is put in is there, and nothing else is new
  pub among-put : (k q : K) (xs : List K) → among R q (put R k xs) ≡ (eq_by_cmp R q k || among R q xs)
  among-put k q [] = refl
  among-put k q (x ∷ xs) =
      elim (R k x) as (λ r. R k x ≡ r → among R q (match_ordering r (k ∷ x ∷ xs) (x ∷ xs) (x ∷ put R k xs)) ≡ (eq_by_cmp R q k || among R q (x ∷ xs))) [
        | Less ↦ λ e. refl
        | Equal ↦ λ e. let t : eq_by_cmp R q k ≡ eq_by_cmp R q x = ap is_eq (alike_right o k x q e) in or_twice _ _ _ t
        | Greater ↦ λ e. let h : among R q (put R k xs) ≡ (eq_by_cmp R q k || among R q xs) = among-put k q xs in ap (λ b. eq_by_cmp R q x || b) h ∙ or_swap (eq_by_cmp R q x) (eq_by_cmp R q k) _
      ] refl

  pub among-rising : (q : K) (ks : List K) → among R q (rising R ks) ≡ among R q ks
  among-rising q [] = refl
  among-rising q (k ∷ ks) = among-put k q (rising R ks) ∙ ap (λ b. eq_by_cmp R q k || b) (among-rising q ks)

  -- below all of them is none of them
  pub not_among : (q : K) (xs : List K) → Above R q xs → among R q xs ≡ false
  not_among q [] a = refl
  not_among q (x ∷ xs) a = ap (λ r. is_eq r || among R q xs) a.0 ∙ not_among q xs a.1

  pub among_head : (x : K) (xs : List K) → among R x (x ∷ xs) ≡ true
  among_head x xs = ap (λ r. is_eq r || among R x xs) (tied_itself o x)

module _ {K : Type 0} {R : K → K → Ordering} (o : IsTotalOrder R) (exact : (x y : K) → R x y ≡ Equal → x ≡ y) where
  tails_same : (x : K) (xs ys : List K) → Above R x xs → Above R x ys → ((q : K) → among R q (x ∷ xs) ≡ among R q (x ∷ ys)) → (q : K) → among R q xs ≡ among R q ys
  tails_same x xs ys a b h q =
      elim (eq_by_cmp R q x) as (λ t. eq_by_cmp R q x ≡ t → (t || among R q xs) ≡ (t || among R q ys) → among R q xs ≡ among R q ys) [
        | true ↦ λ t _. let e : q ≡ x = exact q x ((Equal-is (R q x)).0 t) in let P : K → Type 0 = λ z. among R z xs ≡ among R z ys in subst P (sym e) (not_among o x xs a ∙ sym (not_among o x ys b))
        | false ↦ λ _ g. g
      ] refl (h q)

  heads_same : (x y : K) (xs ys : List K) → x ≡ y → Above R x xs → Above R y ys → ((q : K) → among R q (x ∷ xs) ≡ among R q (y ∷ ys)) → (q : K) → among R q xs ≡ among R q ys
  heads_same x y xs ys e a =
      let P : K → Type 0 = λ z. Above R z ys → ((q : K) → among R q (x ∷ xs) ≡ among R q (z ∷ ys)) → (q : K) → among R q xs ≡ among R q ys in subst P e (tails_same x xs ys a)

  -- sets with the same members are one list
  pub same_members : (xs ys : List K) → IsStrictlySortedBy R xs → IsStrictlySortedBy R ys → ((q : K) → among R q xs ≡ among R q ys) → xs ≡ ys
  same_members [] [] s t h = refl
  same_members [] (y ∷ ys) s t h = let e : false ≡ true = h y ∙ among_head o y ys in cc
  same_members (x ∷ xs) [] s t h = let e : true ≡ false = sym (among_head o x xs) ∙ h x in cc
  same_members (x ∷ xs) (y ∷ ys) s t h =
      elim (R x y) as (λ r. R x y ≡ r → x ∷ xs ≡ y ∷ ys) [
        | Less ↦ λ e. let f : true ≡ false = sym (among_head o x xs) ∙ h x ∙ not_among o x (y ∷ ys) (e, above_lower o x y ys e (above_head R y ys t)) in cc
        | Equal ↦ λ e. let p : x ≡ y = exact x y e in let q : xs ≡ ys = same_members xs ys (above_tail R x xs s) (above_tail R y ys t) (heads_same x y xs ys p (above_head R x xs s) (above_head R y ys t) h) in λ i. p i ∷ q i
        | Greater ↦ λ e. let l : R y x ≡ Less = greater_less o x y e in let f : false ≡ true = sym (not_among o y (x ∷ xs) (l, above_lower o y x xs l (above_head R x xs s))) ∙ h y ∙ among_head o y ys in cc
      ] refl

  -- a rising list is that of any list with its members
  pub rising_is : (xs ks : List K) → IsStrictlySortedBy R xs → ((q : K) → among R q xs ≡ among R q ks) → xs ≡ rising R ks
  rising_is xs ks s h = same_members xs (rising R ks) s (sorted_rising o ks) (λ q. h q ∙ sym (among-rising o q ks))

-- the last of a list, or low
abbrev pub last : {K : Type 0} → K → List K → K
last low [] = low
last low (x ∷ xs) = last x xs

pub last-push : {K : Type 0} (low : K) (xs : List K) (x : K) → last low (xs ++ x ∷ []) ≡ x
last-push low [] x = refl
last-push low (y ∷ ys) x = last-push y ys x

module _ {K : Type 0} {R : K → K → Ordering} (o : IsTotalOrder R) where
  -- one more behind the last
  pub sorted_push : (low : K) (xs : List K) (x : K) → IsStrictlySortedBy R (low ∷ xs) → R (last low xs) x ≡ Less → IsStrictlySortedBy R (low ∷ xs ++ x ∷ [])
  sorted_push low [] x s l = above_cons R low (x ∷ []) (l, tt) (above_cons R x [] tt (sorted_none R))
  sorted_push low (y ∷ ys) x s l =
      let t : IsStrictlySortedBy R (y ∷ ys ++ x ∷ []) = sorted_push y ys x (above_tail R low (y ∷ ys) s) l in
      let a : R low y ≡ Less = (above_head R low (y ∷ ys) s).0 in
      above_cons R low (y ∷ ys ++ x ∷ []) (a, above_lower o low y (ys ++ x ∷ []) a (above_head R y (ys ++ x ∷ []) t)) t

module _ {K : Type 0} (R : K → K → Ordering) where
  pub last_below : (low : K) (xs : List K) (x : K) → IsStrictlySortedBy R (low ∷ xs ++ x ∷ []) → R (last low xs) x ≡ Less
  last_below low [] x s = (above_head R low (x ∷ []) s).0
  last_below low (y ∷ ys) x s = last_below y ys x (above_tail R low (y ∷ ys ++ x ∷ []) s)

  pub sorted_drop : (n : ℕ) (xs : List K) → IsStrictlySortedBy R xs → IsStrictlySortedBy R (drop n xs)
  sorted_drop zero xs s = s
  sorted_drop (suc n) [] s = s
  sorted_drop (suc n) (x ∷ xs) s = sorted_drop n xs (above_tail R x xs s)

  above_front : (low : K) (xs ys : List K) → Above R low (xs ++ ys) → Above R low xs
  above_front low [] ys a = tt
  above_front low (x ∷ xs) ys a = (a.0, above_front low xs ys a.1)

  pub sorted_front : (xs ys : List K) → IsStrictlySortedBy R (xs ++ ys) → IsStrictlySortedBy R xs
  sorted_front [] ys s = sorted_none R
  sorted_front (x ∷ xs) ys s = above_cons R x xs (above_front x xs ys (above_head R x (xs ++ ys) s)) (sorted_front xs ys (above_tail R x (xs ++ ys) s))

  pub length-put : (k : K) (xs : List K) → length xs ≤ length (put R k xs)
  length-put k [] = omega arith
  length-put k (x ∷ xs) =
      elim (R k x) as (λ r. length (x ∷ xs) ≤ length (match_ordering r (k ∷ x ∷ xs) (x ∷ xs) (x ∷ put R k xs))) [
        | Less ↦ omega arith
        | Equal ↦ omega arith
        | Greater ↦ omega (arith, length-put k xs)
      ]

  -- what is not there makes the list one longer
  pub length-put_new : (k : K) (xs : List K) → among R k xs ≡ false → length (put R k xs) ≡ length xs + 1
  length-put_new k [] n = omega arith
  length-put_new k (x ∷ xs) n =
      elim (R k x) as (λ r. (is_eq r || among R k xs) ≡ false → length (match_ordering r (k ∷ x ∷ xs) (x ∷ xs) (x ∷ put R k xs)) ≡ length (x ∷ xs) + 1) [
        | Less ↦ λ _. omega arith
        | Equal ↦ λ e. let f : true ≡ false = e in cc
        | Greater ↦ λ e. omega (arith, length-put_new k xs e)
      ] n

module _ {K : Type 0} {R : K → K → Ordering} (o : IsTotalOrder R) where
  -- a member that is there stays alone
  pub put_there_same : (k : K) (xs : List K) → IsStrictlySortedBy R xs → among R k xs ≡ true → put R k xs ≡ xs
  put_there_same k [] s h = let e : false ≡ true = h in cc
  put_there_same k (x ∷ xs) s h =
      elim (R k x) as (λ r. R k x ≡ r → (is_eq r || among R k xs) ≡ true → match_ordering r (k ∷ x ∷ xs) (x ∷ xs) (x ∷ put R k xs) ≡ x ∷ xs) [
        | Less ↦ λ e t. let f : among R k xs ≡ false = not_among o k xs (above_lower o k x xs e (above_head R x xs s)) in cc
        | Equal ↦ λ e t. refl
        | Greater ↦ λ e t. ap (λ ys. x ∷ ys) (put_there_same k xs (above_tail R x xs s) t)
      ] refl h

-- what `dedup` leaves has the same members
module _ {K : Type 0} (same : K → K → Bool) (p : K → Bool) (like : (x y : K) → same x y ≡ true → p x ≡ p y) where
  any_dedup_from : (k : K) (xs : List K) → list_any p (dedup_from same k xs) ≡ (p k || list_any p xs)
  any_dedup_from k [] = refl
  any_dedup_from k (x ∷ xs) =
      elim (same x k) as (λ b. same x k ≡ b → list_any p (cond b (dedup_from same k xs) (k ∷ dedup_from same x xs)) ≡ (p k || (p x || list_any p xs))) [
        | true ↦ λ e. any_dedup_from k xs ∙ or_once (p k) (p x) (list_any p xs) (sym (like x k e))
        | false ↦ λ _. ap (λ b. p k || b) (any_dedup_from x xs)
      ] refl

  pub any_dedup : (xs : List K) → list_any p (dedup same xs) ≡ list_any p xs
  any_dedup [] = refl
  any_dedup (x ∷ xs) = any_dedup_from x xs

-- a fact of each member
module _ {K : Type 0} (R : K → K → Ordering) (P : K → Type 0) where
  pub each_put : (k : K) (xs : List K) → P k → AllByRecursion P xs → AllByRecursion P (put R k xs)
  each_put k [] h a = (h, tt)
  each_put k (x ∷ xs) h a =
      elim (R k x) as (λ r. AllByRecursion P (match_ordering r (k ∷ x ∷ xs) (x ∷ xs) (x ∷ put R k xs))) [
        | Less ↦ (h, a)
        | Equal ↦ a
        | Greater ↦ (a.0, each_put k xs h a.1)
      ]

  pub each_rising : (ks : List K) → AllByRecursion P ks → AllByRecursion P (rising R ks)
  each_rising [] a = tt
  each_rising (k ∷ ks) a = each_put k (rising R ks) a.0 (each_rising ks a.1)

module _ {K : Type 0} (R : K → K → Ordering) where
  pub some_put : (k : K) (xs : List K) → 0 < length (put R k xs)
  some_put k [] = omega arith
  some_put k (x ∷ xs) = elim (R k x) as (λ r. 0 < length (match_ordering r (k ∷ x ∷ xs) (x ∷ xs) (x ∷ put R k xs))) [ Less ↦ omega arith | Equal ↦ omega arith | Greater ↦ omega arith ]

  pub some_rising : (ks : List K) → 0 < length ks → 0 < length (rising R ks)
  some_rising [] h = absurd (omega (arith, h))
  some_rising (k ∷ ks) h = some_put k (rising R ks)

-- a test of the members, in an order at which only equal members tie
module _ {K : Type 0} (R : K → K → Ordering) (exact : (x y : K) → R x y ≡ Equal → x ≡ y) (p : K → Bool) where
  pub any-put : (k : K) (xs : List K) → list_any p (put R k xs) ≡ (p k || list_any p xs)
  any-put k [] = refl
  any-put k (x ∷ xs) =
      elim (R k x) as (λ r. R k x ≡ r → list_any p (match_ordering r (k ∷ x ∷ xs) (x ∷ xs) (x ∷ put R k xs)) ≡ (p k || list_any p (x ∷ xs))) [
        | Less ↦ λ _. refl
        | Equal ↦ λ e. or_twice (p k) (p x) (list_any p xs) (ap p (exact k x e))
        | Greater ↦ λ _. ap (λ b. p x || b) (any-put k xs) ∙ or_swap (p x) (p k) (list_any p xs)
      ] refl

  pub any-rising : (ks : List K) → list_any p (rising R ks) ≡ list_any p ks
  any-rising [] = refl
  any-rising (k ∷ ks) = any-put k (rising R ks) ∙ ap (λ b. p k || b) (any-rising ks)
