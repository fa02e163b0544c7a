-- Sets of two labels.
use Rattle.std.proofs.Common.{◌≡◌, ◌≢◌, ℕ, true, false, nat_eq, ◌||◌, List, [], ◌∷◌, length, sym, ◌∙◌, ap, refl, arith, ◌⊎◌, inl, inr}
use Rattle.std.specs.List.Sorted.{IsStrictlySortedBy}
use Rattle.std.specs.Ordering.{nat_cmp}
use Rattle.std.specs.Cmp.Lexicographic.{pointwise, nat_list_cmp_total}
use Rattle.std.specs.declared.cmp.Ordering.TheVariants.{Less, Equal}
use Rattle.std.proofs.lemmas.Cmp.{nat_cmp_total, tied_itself}
use Rattle.complex_core.specs.Labels.{has, with, without, face_cmp}
use Rattle.complex_core.proofs.Sets.{above_head, above_cons, sorted_none, sorted_put}
use Rattle.complex_core.proofs.Faces.{with_new}
use Rattle.complex_core.proofs.Laws.{both_ways, has-union, has-with, or_left, or_right, listed, same_labels, same_lists, sorted_union, same_sets_is, same_set_itself, nat_eq_is, nat_eq_same}
use Rattle.flip_rules.proofs.Links.{side}
use Rattle.std.proofs.lemmas.Bool.{false_from_ne_true, or_cases}
use Rattle.complex_core.proofs.SubsetLists.{clash}
use Rattle.complex_core.proofs.Members.{without_has, without_other, in_without}

one_has : (p z : ℕ) → has (p ∷ []) z ≡ true → z ≡ p
one_has p z h = elim (or_cases (nat_eq p z) false h) [ inl e ↦ sym (nat_eq_is p z e) | inr f ↦ clash true refl (sym f) ]

pub has_one : (p : ℕ) → has (p ∷ []) p ≡ true
has_one p = or_left (nat_eq p p) false (nat_eq_same p)

-- the set of two labels
abbrev pub edge : ℕ → ℕ → List ℕ
edge p q = with (p ∷ []) q

pub edge_first : (p q : ℕ) → has (edge p q) p ≡ true
edge_first p q = has-with (p ∷ []) q p ∙ or_right (nat_eq q p) (has (p ∷ []) p) (has_one p)

pub edge_second : (p q : ℕ) → has (edge p q) q ≡ true
edge_second p q = has-with (p ∷ []) q q ∙ or_left (nat_eq q q) (has (p ∷ []) q) (nat_eq_same q)

pub edge_has : (p q z : ℕ) → has (edge p q) z ≡ true → (z ≡ p) ⊎ (z ≡ q)
edge_has p q z h = elim (or_cases (nat_eq q z) (has (p ∷ []) z) (sym (has-with (p ∷ []) q z) ∙ h)) [ inl e ↦ inr (sym (nat_eq_is q z e)) | inr t ↦ inl (one_has p z t) ]

pub edge_lacks : (p q z : ℕ) → (z ≢ p) → (z ≢ q) → has (edge p q) z ≡ false
edge_lacks p q z np nq = false_from_ne_true (has (edge p q) z) (λ t. elim (edge_has p q z t) [ inl e ↦ np e | inr e ↦ nq e ])

pub one_sorted : (p : ℕ) → IsStrictlySortedBy nat_cmp (p ∷ [])
one_sorted p = above_cons nat_cmp p [] tt (sorted_none nat_cmp)

pub edge_sorted : (p q : ℕ) → IsStrictlySortedBy nat_cmp (edge p q)
edge_sorted p q = sorted_put nat_cmp_total q (p ∷ []) (one_sorted p)

pub edge_length : (p q : ℕ) → (p ≢ q) → length (edge p q) ≡ 2
edge_length p q n = with_new (p ∷ []) q (false_from_ne_true (has (p ∷ []) q) (λ t. n (sym (one_has p q t))))

-- the labels of a set of two
pair_of : (w : List ℕ) (p q z : ℕ) → length w ≡ 2 → has w p ≡ true → has w q ≡ true → (p ≢ q) → has w z ≡ true → (z ≡ p) ⊎ (z ≡ q)
pair_of [] p q z n tp tq d tz = clash true refl (sym tp)
pair_of (x ∷ []) p q z n tp tq d tz = absurd (omega (arith, n))
pair_of (x ∷ y ∷ u ∷ us) p q z n tp tq d tz = absurd (omega (arith, n))
pair_of (x ∷ y ∷ []) p q z n tp tq d tz = at (of p tp) (of q tq) (of z tz)
  where
    of : (v : ℕ) → has (x ∷ y ∷ []) v ≡ true → (v ≡ x) ⊎ (v ≡ y)
    of v t = elim (or_cases (nat_eq x v) (has (y ∷ []) v) t) [ inl e ↦ inl (sym (nat_eq_is x v e)) | inr e ↦ inr (one_has y v e) ]

    at : (p ≡ x) ⊎ (p ≡ y) → (q ≡ x) ⊎ (q ≡ y) → (z ≡ x) ⊎ (z ≡ y) → (z ≡ p) ⊎ (z ≡ q)
    at (inl a) (inl b) c = absurd (d (a ∙ sym b))
    at (inl a) (inr b) (inl c) = inl (c ∙ sym a)
    at (inl a) (inr b) (inr c) = inr (c ∙ sym b)
    at (inr a) (inl b) (inl c) = inr (c ∙ sym b)
    at (inr a) (inl b) (inr c) = inl (c ∙ sym a)
    at (inr a) (inr b) c = absurd (d (a ∙ sym b))

pub edge_is : (e : List ℕ) (p q : ℕ) → IsStrictlySortedBy nat_cmp e → length e ≡ 2 → has e p ≡ true → has e q ≡ true → (p ≢ q) → e ≡ edge p q
edge_is e p q s n tp tq d = same_labels e (edge p q) s (edge_sorted p q) (λ z.
    both_ways (has e z) (has (edge p q) z)
    (λ t. elim (pair_of e p q z n tp tq d t) [ inl c ↦ ap (has (edge p q)) c ∙ edge_first p q | inr c ↦ ap (has (edge p q)) c ∙ edge_second p q ])
    (λ t. elim (edge_has p q z t) [ inl c ↦ ap (has e) c ∙ tp | inr c ↦ ap (has e) c ∙ tq ]))

pub edge_swap : (p q : ℕ) → (p ≢ q) → edge p q ≡ edge q p
edge_swap p q d = edge_is (edge p q) q p (edge_sorted p q) (edge_length p q d) (edge_second p q) (edge_first p q) (λ e. d (sym e))

-- {v} with {x, y} less x
pub side_edge : (v x y : ℕ) → (v ≢ x) → (v ≢ y) → (x ≢ y) → side (v ∷ []) (edge x y) x ≡ edge v y
side_edge v x y vx vy xy = same_labels (side (v ∷ []) (edge x y) x) (edge v y) (sorted_union (v ∷ []) (without (edge x y) x) (one_sorted v)) (edge_sorted v y) (λ z.
    has-union (v ∷ []) (without (edge x y) x) z ∙
    both_ways (has (v ∷ []) z || has (without (edge x y) x) z) (has (edge v y) z)
    (λ t. elim (or_cases (has (v ∷ []) z) (has (without (edge x y) x) z) t) [
      | inl a ↦ ap (has (edge v y)) (one_has v z a) ∙ edge_first v y
      | inr b ↦ elim (edge_has x y z (without_has (edge x y) x z b)) [ inl c ↦ absurd (without_other (edge x y) x z b c) | inr c ↦ ap (has (edge v y)) c ∙ edge_second v y ]
    ])
    (λ t. elim (edge_has v y z t) [
      | inl c ↦ or_left (has (v ∷ []) z) (has (without (edge x y) x) z) (ap (has (v ∷ [])) c ∙ has_one v)
      | inr c ↦ or_right (has (v ∷ []) z) (has (without (edge x y) x) z) (in_without (edge x y) x z (ap (has (edge x y)) c ∙ edge_second x y) (λ e. xy (sym e ∙ c)))
    ]))

-- ---- lists of two sets

-- the list has these two sets, and no other
pub record HasTwo (fs : List (List ℕ)) (s t : List ℕ) : Type 0 where
  pub first : listed fs s ≡ true
  pub second : listed fs t ≡ true
  pub only : (g : List ℕ) → listed fs g ≡ true → (g ≡ s) ⊎ (g ≡ t)

pub same_two : (fs gs : List (List ℕ)) (s t : List ℕ) → IsStrictlySortedBy face_cmp fs → IsStrictlySortedBy face_cmp gs → HasTwo fs s t → HasTwo gs s t → fs ≡ gs
same_two fs gs s t p q h k = same_lists fs gs p q (λ f. both_ways (listed fs f) (listed gs f) (into fs gs h k f) (into gs fs k h f))
  where
    into : (fs gs : List (List ℕ)) → HasTwo fs s t → HasTwo gs s t → (f : List ℕ) → listed fs f ≡ true → listed gs f ≡ true
    into fs gs h k f u = elim (h.only f u) [ inl e ↦ ap (listed gs) e ∙ k.first | inr e ↦ ap (listed gs) e ∙ k.second ]

pub one_listed : (g h : List ℕ) → listed (g ∷ []) h ≡ true → h ≡ g
one_listed g h t = elim (or_cases (pointwise nat_eq g h) false t) [ inl e ↦ sym (same_sets_is g h e) | inr f ↦ clash true refl (sym f) ]

two_listed : (x y h : List ℕ) → listed (x ∷ y ∷ []) h ≡ true → (h ≡ x) ⊎ (h ≡ y)
two_listed x y h t = elim (or_cases (pointwise nat_eq x h) (listed (y ∷ []) h) t) [ inl e ↦ inl (sym (same_sets_is x h e)) | inr e ↦ inr (one_listed y h e) ]

-- any two different sets of a list of two
pub these_two : (fs : List (List ℕ)) (s t : List ℕ) → length fs ≡ 2 → listed fs s ≡ true → listed fs t ≡ true → (s ≢ t) → HasTwo fs s t
these_two [] s t n ts tt' d = clash true refl (sym ts)
these_two (x ∷ []) s t n ts tt' d = absurd (omega (arith, n))
these_two (x ∷ y ∷ u ∷ us) s t n ts tt' d = absurd (omega (arith, n))
these_two (x ∷ y ∷ []) s t n ts tt' d = record { first = ts; second = tt'; only = λ g tg. at g (two_listed x y s ts) (two_listed x y t tt') (two_listed x y g tg) }
  where
    at : (g : List ℕ) → (s ≡ x) ⊎ (s ≡ y) → (t ≡ x) ⊎ (t ≡ y) → (g ≡ x) ⊎ (g ≡ y) → (g ≡ s) ⊎ (g ≡ t)
    at g (inl a) (inl b) c = absurd (d (a ∙ sym b))
    at g (inl a) (inr b) (inl c) = inl (c ∙ sym a)
    at g (inl a) (inr b) (inr c) = inr (c ∙ sym b)
    at g (inr a) (inl b) (inl c) = inr (c ∙ sym b)
    at g (inr a) (inl b) (inr c) = inl (c ∙ sym a)
    at g (inr a) (inr b) c = absurd (d (a ∙ sym b))

-- the two sets of a rising list of two
pub record Differ (fs : List (List ℕ)) : Type 0 where
  pub one : List ℕ
  pub other : List ℕ
  pub first : listed fs one ≡ true
  pub second : listed fs other ≡ true
  pub apart : one ≢ other

pub differ_two : (fs : List (List ℕ)) → IsStrictlySortedBy face_cmp fs → length fs ≡ 2 → Differ fs
differ_two [] s n = absurd (omega (arith, n))
differ_two (x ∷ []) s n = absurd (omega (arith, n))
differ_two (x ∷ y ∷ rest) s n = record {
  one = x;
  other = y;
  first = or_left (pointwise nat_eq x x) (listed (y ∷ rest) x) (same_set_itself x);
  second = or_right (pointwise nat_eq x y) (listed (y ∷ rest) y) (or_left (pointwise nat_eq y y) (listed rest y) (same_set_itself y));
  apart = λ e. clash_order x (sym (ap (face_cmp x) (sym e)) ∙ (above_head face_cmp x (y ∷ rest) s).0);
}
  where
    clash_order : (x : List ℕ) → face_cmp x x ≡ Less → ⊥
    clash_order x l = let t : face_cmp x x ≡ Equal = tied_itself nat_list_cmp_total x in let w : Less ≡ Equal = sym l ∙ t in cc
