-- Lists: where a kept item stands, and lists with one item more at the end.
use Rattle.std.proofs.Common.{◌≡◌, ℕ, zero, suc, ◌+◌, Bool, true, false, cond, List, [], ◌∷◌, ◌++◌, length, filter, sym, refl, ap, ◌∙◌, subst, arith}
use mathlib.Core.Option.{some, some-injective, some-ne-none}
use lib.ListN.{get_elem?}

module _ {A : Type 0} where
  -- what the filter keeps before an item
  pub record Stands (p : A → Bool) (xs was : List A) (y : A) : Type 0 where
    pub before : List A
    pub next : List A
    pub whole : xs ≡ before ++ y ∷ next
    pub kept : filter p before ≡ was

  keeping : (p : A → Bool) (x : A) (xs was : List A) (y : A) → p x ≡ true → Stands p xs was y → Stands p (x ∷ xs) (x ∷ was) y
  keeping p x xs was y is t = record {
    before = x ∷ t.before;
    next = t.next;
    whole = ap (λ (l : List A). x ∷ l) t.whole;
    kept = ap (λ (b : Bool). cond b (x ∷ filter p t.before) (filter p t.before)) is ∙ ap (λ (l : List A). x ∷ l) t.kept;
  }

  passing : (p : A → Bool) (x : A) (xs was : List A) (y : A) → p x ≡ false → Stands p xs was y → Stands p (x ∷ xs) was y
  passing p x xs was y is t = record {
    before = x ∷ t.before;
    next = t.next;
    whole = ap (λ (l : List A). x ∷ l) t.whole;
    kept = ap (λ (b : Bool). cond b (x ∷ filter p t.before) (filter p t.before)) is ∙ t.kept;
  }

  first_kept : (p : A → Bool) (x : A) (xs was rest : List A) (y : A) → p x ≡ true → ((was : List A) → filter p xs ≡ was ++ y ∷ rest → Stands p xs was y) → x ∷ filter p xs ≡ was ++ y ∷ rest → Stands p (x ∷ xs) was y
  first_kept p x xs [] rest y is more h = let head : x ≡ y = cc in record { before = []; next = xs; whole = ap (λ (z : A). z ∷ xs) head; kept = refl }
  first_kept p x xs (z ∷ zs) rest y is more h =
      let head : x ≡ z = cc in
      let tail : filter p xs ≡ zs ++ y ∷ rest = cc in
      subst (λ (v : A). Stands p (x ∷ xs) (v ∷ zs) y) head (keeping p x xs zs y is (more zs tail))

  stands_by : (p : A → Bool) (x : A) (xs was rest : List A) (y : A) (b : Bool) → p x ≡ b → ((was : List A) → filter p xs ≡ was ++ y ∷ rest → Stands p xs was y) → cond b (x ∷ filter p xs) (filter p xs) ≡ was ++ y ∷ rest → Stands p (x ∷ xs) was y
  stands_by p x xs was rest y true is more h = first_kept p x xs was rest y is more h
  stands_by p x xs was rest y false is more h = passing p x xs was y is (more was h)

  -- an item that a filter keeps stands in the list, with what is kept before it
  pub stands : (p : A → Bool) (xs was rest : List A) (y : A) → filter p xs ≡ was ++ y ∷ rest → Stands p xs was y
  stands p [] [] rest y h = absurd (cc)
  stands p [] (z ∷ zs) rest y h = absurd (cc)
  stands p (x ∷ xs) was rest y h = stands_by p x xs was rest y (p x) refl (λ w g. stands p xs w rest y g) h

  -- items of the front, and the last one
  pub at_front : (xs ys : List A) (k : ℕ) (x : A) → get_elem? xs k ≡ some x → get_elem? (xs ++ ys) k ≡ some x
  at_front [] ys k x h = absurd (some-ne-none x (sym h))
  at_front (z ∷ xs) ys zero x h = h
  at_front (z ∷ xs) ys (suc k) x h = at_front xs ys k x h

  pub at_last : (xs : List A) (x : A) → get_elem? (xs ++ x ∷ []) (length xs) ≡ some x
  at_last [] x = refl
  at_last (z ∷ xs) x = at_last xs x

-- the numbers count up from one
abbrev pub CountFrom : ℕ → List ℕ → Type 0
CountFrom i xs = (k x : ℕ) → get_elem? xs k ≡ some x → x ≡ i + k

pub count_none : (i : ℕ) → CountFrom i []
count_none i k x h = absurd (some-ne-none x (sym h))

pub count_one : (i n : ℕ) → n ≡ i → CountFrom i (n ∷ [])
count_one i n is zero x h = let e = some-injective n x h in omega (arith, e, is)
count_one i n is (suc k) x h = absurd (some-ne-none x (sym h))

pub count_more : (i : ℕ) (xs ys : List ℕ) → CountFrom i xs → CountFrom (i + length xs) ys → CountFrom i (xs ++ ys)
count_more i [] ys h g k x at = let e = g k x at in omega (arith, e)
count_more i (z ∷ xs) ys h g zero x at = h zero x at
count_more i (z ∷ xs) ys h g (suc k) x at =
    let r = count_more (suc i) xs ys (λ j y there. let e = h (suc j) y there in omega (arith, e)) (λ j y there. let e = g j y there in omega (arith, e)) k x at in
    omega (arith, r)
