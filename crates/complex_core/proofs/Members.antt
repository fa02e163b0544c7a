-- What is a member of a list: labels, and what holds of each.
use Rattle.std.proofs.Common.{◌≡◌, ◌≢◌, ℕ, zero, suc, ◌+◌, ◌<◌, Bool, true, false, not, nat_eq, ◌||◌, ◌&&◌, List, [], ◌∷◌, ◌++◌, length, map, take, get_or, sym, ◌∙◌, ap, refl, arith, inl, inr}
use Rattle.std.specs.List.{AllByRecursion, list_all}
use Rattle.std.specs.List.Sorted.{IsStrictlySortedBy}
use Rattle.std.specs.Ordering.{nat_cmp}
use Rattle.std.specs.Cmp.{first_so, second_so}
use Rattle.std.proofs.lemmas.Bool.{false_from_ne_true}
use Rattle.std.proofs.lemmas.Cmp.{nat_cmp_total}
use Rattle.std.proofs.lemmas.List.{take_more}
use Rattle.complex_core.specs.Labels.{IsFace, has, with, without}
use Rattle.complex_core.specs.Links.{less}
use Rattle.complex_core.specs.Rising.{rising}
use Rattle.complex_core.proofs.Booleans.{or_none, and_false}
use Rattle.complex_core.proofs.Sets.{above_head, any-rising, sorted_put}
use Rattle.complex_core.proofs.Faces.{equal_cmp, less_cmp}
use Rattle.complex_core.proofs.SubsetLists.{two, clash, above_at}
use Rattle.complex_core.proofs.Laws.{has-with, has-without, nat_eq_is, nat_eq_same, nat_eq_swap, or_assoc, or_left, or_right, same_labels, sorted_without}

-- ---- what is left of a set without a label

pub without_has : (w : List ℕ) (x z : ℕ) → has (without w x) z ≡ true → has w z ≡ true
without_has w x z t = first_so (has w z) (not (nat_eq z x)) (sym (has-without w x z) ∙ t)

pub without_gone : (w : List ℕ) (x : ℕ) → has (without w x) x ≡ false
without_gone w x = has-without w x x ∙ ap (λ c. has w x && not c) (nat_eq_same x) ∙ and_false (has w x)

pub without_other : (w : List ℕ) (x z : ℕ) → has (without w x) z ≡ true → (z ≢ x)
without_other w x z t e = clash {P = ⊥} (has (without w x) z) t (ap (has (without w x)) e ∙ without_gone w x)

pub in_without : (w : List ℕ) (x z : ℕ) → has w z ≡ true → (z ≢ x) → has (without w x) z ≡ true
in_without w x z t n = has-without w x z ∙ (λ i. t i && not (false_from_ne_true (nat_eq z x) (λ e. n (nat_eq_is z x e)) i))

-- a set with a label that was taken out
pub with_back : (f : List ℕ) (x : ℕ) → IsStrictlySortedBy nat_cmp f → has f x ≡ true → with (without f x) x ≡ f
with_back f x s t = same_labels (with (without f x) x) f (sorted_put nat_cmp_total x (without f x) (sorted_without f x s)) s (λ z.
    has-with (without f x) x z ∙ ap (λ c. nat_eq x z || c) (has-without f x z) ∙ back z)
  where
    back : (z : ℕ) → (nat_eq x z || (has f z && not (nat_eq z x))) ≡ has f z
    back z = elim (two (nat_eq x z)) [
      | inl e ↦ ap (λ c. c || (has f z && not (nat_eq z x))) e ∙ sym (ap (has f) (sym (nat_eq_is x z e)) ∙ t)
      | inr e ↦ ap (λ c. c || (has f z && not (nat_eq z x))) e ∙ ap (λ c. has f z && not c) (nat_eq_swap z x ∙ e) ∙ and_true (has f z)
    ]
      where
        and_true : (c : Bool) → (c && true) ≡ c
        and_true true = refl
        and_true false = refl

-- ---- sorted, and under a map

pub has-rising : (ks : List ℕ) (z : ℕ) → has (rising nat_cmp ks) z ≡ has ks z
has-rising ks z = any-rising nat_cmp equal_cmp (λ y. nat_eq y z) ks

pub has-map : (h : ℕ → ℕ) (f : List ℕ) (x : ℕ) → has f x ≡ true → has (map h f) (h x) ≡ true
has-map h [] x t = t
has-map h (y ∷ f) x t = elim (two (nat_eq y x)) [
  | inl e ↦ or_left (nat_eq (h y) (h x)) (has (map h f) (h x)) (ap (λ v. nat_eq (h v) (h x)) (nat_eq_is y x e) ∙ nat_eq_same (h x))
  | inr e ↦ or_right (nat_eq (h y) (h x)) (has (map h f) (h x)) (has-map h f x (sym (ap (λ c. c || has f x) e) ∙ t))
]

pub map_has : (h : ℕ → ℕ) (f : List ℕ) (z : ℕ) → has (map h f) z ≡ true → (x : ℕ) × (has f x ≡ true) × (z ≡ h x)
map_has h [] z t = clash true refl (sym t)
map_has h (y ∷ f) z t = elim (two (nat_eq (h y) z)) [
  | inl e ↦ (y, or_left (nat_eq y y) (has f y) (nat_eq_same y), sym (nat_eq_is (h y) z e))
  | inr e ↦ let p : (x : ℕ) × (has f x ≡ true) × (z ≡ h x) = map_has h f z (sym (ap (λ c. c || has (map h f) z) e) ∙ t) in (p.0, or_right (nat_eq y p.0) (has f p.0) p.1, p.2)
]

-- ---- where a label stands, and what it passes

pub passes_has : (p : ℕ → Bool) (f : List ℕ) (x : ℕ) → list_all p f ≡ true → has f x ≡ true → p x ≡ true
passes_has p [] x h t = clash true refl (sym t)
passes_has p (y ∷ f) x h t = elim (two (nat_eq y x)) [
  | inl e ↦ ap p (sym (nat_eq_is y x e)) ∙ first_so (p y) (list_all p f) h
  | inr e ↦ passes_has p f x (second_so (p y) (list_all p f) h) (sym (ap (λ c. c || has f x) e) ∙ t)
]

pub place_of_label : (xs : List ℕ) (x : ℕ) → has xs x ≡ true → (i : ℕ) × (i < length xs) × (get_or xs i 0 ≡ x)
place_of_label [] x t = clash true refl (sym t)
place_of_label (y ∷ ys) x t = elim (two (nat_eq y x)) [
  | inl e ↦ (0, omega arith, nat_eq_is y x e)
  | inr e ↦ let p : (i : ℕ) × (i < length ys) × (get_or ys i 0 ≡ x) = place_of_label ys x (sym (ap (λ b. b || has ys x) e) ∙ t) in (suc p.0, omega (arith, p.1), p.2)
]

pub has_place : (xs : List ℕ) (j : ℕ) → j < length xs → has xs (get_or xs j 0) ≡ true
has_place [] j l = absurd (omega (arith, l))
has_place (y ∷ ys) zero l = or_left (nat_eq y y) (has ys y) (nat_eq_same y)
has_place (y ∷ ys) (suc j) l = or_right (nat_eq y (get_or ys j 0)) (has ys (get_or ys j 0)) (has_place ys j (omega (arith, l)))

pub label_low : (f : List ℕ) (x : ℕ) → IsFace f → has f x ≡ true → 0 < x
label_low f x h t = less_cmp 0 x (above_at 0 x f (above_head nat_cmp 0 f h.rising) t)

pub each_member : (P : ℕ → Type 0) (xs : List ℕ) → ((x : ℕ) → has xs x ≡ true → P x) → AllByRecursion P xs
each_member P [] h = tt
each_member P (x ∷ xs) h = (h x (or_left (nat_eq x x) (has xs x) (nat_eq_same x)), each_member P xs (λ y t. h y (or_right (nat_eq x y) (has xs y) t)))

-- ---- one more at the end

pub each_push : {X : Type 0} (P : X → Type 0) (xs : List X) (x : X) → AllByRecursion P xs → P x → AllByRecursion P (xs ++ x ∷ [])
each_push P [] x all is = (is, tt)
each_push P (y ∷ ys) x all is = (all.0, each_push P ys x all.1 is)

pub has_snoc : (xs : List ℕ) (x y : ℕ) → has (xs ++ x ∷ []) y ≡ (has xs y || nat_eq x y)
has_snoc [] x y = or_none (nat_eq x y)
has_snoc (z ∷ xs) x y = ap (λ b. nat_eq z y || b) (has_snoc xs x y) ∙ or_assoc (nat_eq z y) (has xs y) (nat_eq x y)

pub taken_more : {X : Type 0} (xs : List X) (i : ℕ) (x : X) → i < length xs → x ≡ get_or xs i x → take (i + 1) xs ≡ take i xs ++ x ∷ []
taken_more xs i x l e = take_more xs i x l ∙ ap (λ y. take i xs ++ y ∷ []) (sym e)

-- ---- a set less another one

pub sorted_less : (f s : List ℕ) → IsStrictlySortedBy nat_cmp f → IsStrictlySortedBy nat_cmp (less f s)
sorted_less f [] p = p
sorted_less f (x ∷ xs) p = sorted_less (without f x) xs (sorted_without f x p)

pub has-less : (f s : List ℕ) (z : ℕ) → has (less f s) z ≡ (has f z && not (has s z))
has-less f [] z = elim (has f z) as (λ c. c ≡ (c && true)) [ true ↦ refl | false ↦ refl ]
has-less f (x ∷ xs) z = has-less (without f x) xs z ∙ ap (λ c. c && not (has xs z)) (has-without f x z) ∙ regroup (has f z) (nat_eq z x) (nat_eq x z) (has xs z) (nat_eq_swap z x)
  where
    regroup : (p q r t : Bool) → q ≡ r → ((p && not q) && not t) ≡ (p && not (r || t))
    regroup false q r t e = refl
    regroup true true true t e = refl
    regroup true false false t e = refl
    regroup true true false t e = cc
    regroup true false true t e = cc
