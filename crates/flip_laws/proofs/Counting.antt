-- In how many facets a set lies, before and after a flip.
use Rattle.std.proofs.Common.{◌≡◌, ◌≢◌, ℕ, ◌+◌, ◌≤◌, Bool, true, false, not, nat_eq, ◌||◌, ◌&&◌, List, [], ◌∷◌, length, sym, ◌∙◌, ap, refl, arith, inl, inr, subst, cond}
use Rattle.std.specs.List.{filter}
use Rattle.std.specs.List.Sorted.{IsStrictlySortedBy}
use Rattle.std.specs.Ordering.{nat_cmp}
use Rattle.std.specs.Cmp.{first_so, second_so}
use Rattle.std.specs.Cmp.Derive.{both_true}
use Rattle.std.specs.Cmp.Lexicographic.{pointwise}
use Rattle.std.proofs.lemmas.List.Kept.{IsStrictlySortedBy-filter}
use Rattle.complex_core.specs.Labels.{has, holds, without, face_cmp}
use Rattle.complex_core.specs.Complexes.{over, beside}
use Rattle.complex_core.proofs.Sets.{above_cons, sorted_none}
use Rattle.complex_core.proofs.Laws.{both_ways, holds_each, or_left, or_right, listed, same_sets_is, same_set_itself, listed-filter, same_lists, sorted_without, nat_eq_is, nat_eq_same, length-without}
use Rattle.pseudo_test.specs.Ridges.{count}
use Rattle.flip_laws.proofs.Exchange.{Half, Exchange, turned}
use Rattle.pseudo_test.proofs.Subsets.{holds_without, holds_through, holds_less, lacking}
use Rattle.std.proofs.lemmas.Bool.{false_from_ne_true}
use Rattle.complex_core.proofs.SubsetLists.{two, clash, fewer}
use Rattle.complex_core.proofs.Members.{in_without}

split : (p q : List ℕ → Bool) (xs : List (List ℕ)) → length (filter p xs) ≡ length (filter p (filter q xs)) + length (filter p (filter (λ x. not (q x)) xs))
split p q [] = refl
split p q (x ∷ xs) =
    elim (q x) as (λ c. length (cond (p x) (x ∷ filter p xs) (filter p xs)) ≡ length (filter p (cond c (x ∷ filter q xs) (filter q xs))) + length (filter p (cond (not c) (x ∷ filter (λ x. not (q x)) xs) (filter (λ x. not (q x)) xs)))) [
      | true ↦ elim (p x) as (λ c. length (cond c (x ∷ filter p xs) (filter p xs)) ≡ length (cond c (x ∷ filter p (filter q xs)) (filter p (filter q xs))) + length (filter p (filter (λ x. not (q x)) xs))) [ true ↦ omega (arith, split p q xs) | false ↦ split p q xs ]
      | false ↦ elim (p x) as (λ c. length (cond c (x ∷ filter p xs) (filter p xs)) ≡ length (filter p (filter q xs)) + length (cond c (x ∷ filter p (filter (λ x. not (q x)) xs)) (filter p (filter (λ x. not (q x)) xs)))) [ true ↦ omega (arith, split p q xs) | false ↦ split p q xs ]
    ]

and_split : (p q r : Bool) → ((p && q) && r) ≡ true → (p ≡ true) × (q ≡ true) × (r ≡ true)
and_split true true true h = (refl, refl, refl)
and_split true true false h = cc
and_split true false r h = cc
and_split false q r h = cc

pub or_none : (c : Bool) → (c || false) ≡ true → c ≡ true
or_none true h = refl
or_none false h = h

one_sorted : (f : List ℕ) → IsStrictlySortedBy face_cmp (f ∷ [])
one_sorted f = above_cons face_cmp f [] tt (sorted_none face_cmp)

module _ (fs : List (List ℕ)) (a b w : List ℕ) (h : Half fs a b w) where
  pub in_a : (z : ℕ) → has a z ≡ true → has w z ≡ true
  in_a z t = h.both z ∙ or_left (has a z) (has b z) t

  pub in_b : (z : ℕ) → has b z ≡ true → has w z ≡ true
  in_b z t = h.both z ∙ or_right (has a z) (has b z) t

  pub apart : (y z : ℕ) → has a y ≡ true → has b z ≡ true → (y ≢ z)
  apart y z p q e = clash {P = ⊥} (has b z) q (ap (has b) (sym e) ∙ h.apart y p)

  -- all of A is in A ∪ B less a label of B
  pub holds_a : (x : ℕ) → has b x ≡ true → holds (without w x) a ≡ true
  holds_a x t = holds_each (without w x) a (λ z q. in_without w x z (in_a z q) (apart z x q t))

  module _ (r : List ℕ) (y z : ℕ) (sr : IsStrictlySortedBy nat_cmp r) (n : length r + 2 ≡ length w) (ya : has a y ≡ true) (yr : has r y ≡ false) (zb : has b z ≡ true) (zr : has r z ≡ false) where
    -- the one facet over A that holds the ridge
    only : (x : ℕ) → has b x ≡ true → holds (without w x) r ≡ true → x ≡ z
    only x xb t = elim (two (nat_eq z x)) [
      | inl e ↦ sym (nat_eq_is z x e)
      | inr e ↦
          let nzx : z ≢ x = λ q. clash {P = ⊥} (nat_eq z x) (ap (λ v. nat_eq z v) (sym q) ∙ same z) e in
          let w1 : List ℕ = without w x in
          let s1 : IsStrictlySortedBy nat_cmp (without w x) = sorted_without w x h.labels in
          let y1 : has (without w x) y ≡ true = in_without w x y (in_a y ya) (apart y x ya xb) in
          let s2 : IsStrictlySortedBy nat_cmp (without (without w x) y) = sorted_without (without w x) y s1 in
          let z1 : has (without w x) z ≡ true = in_without w x z (in_b z zb) nzx in
          let z2 : has (without (without w x) y) z ≡ true = in_without (without w x) y z z1 (λ q. apart y z ya zb (sym q)) in
          let f : length r ≤ length (without (without (without w x) y) z) = fewer r (without (without (without w x) y) z) sr (sorted_without (without (without w x) y) z s2) (holds_less (without (without w x) y) r z (holds_less (without w x) r y t yr) zr) in
          absurd (omega (arith, f, n, length-without w x h.labels (in_b x xb), length-without (without w x) y s1 y1, length-without (without (without w x) y) z s2 z2))
    ]
      where
        same : (v : ℕ) → nat_eq v v ≡ true
        same v = nat_eq_same v

    over_one : holds w r ≡ true → over (over fs a) r ≡ without w z ∷ []
    over_one t = same_lists (over (over fs a) r) (without w z ∷ []) (IsStrictlySortedBy-filter face_cmp (λ f. holds f r) (over fs a) (IsStrictlySortedBy-filter face_cmp (λ f. holds f a) fs h.rises)) (one_sorted (without w z)) (λ f.
        listed-filter (λ g. holds g r) (over fs a) f ∙ ap (λ c. c && holds f r) (listed-filter (λ g. holds g a) fs f) ∙
        both_ways ((listed fs f && holds f a) && holds f r) (pointwise nat_eq (without w z) f || false)
        (λ u. let p : (listed fs f ≡ true) × (holds f a ≡ true) × (holds f r ≡ true) = and_split (listed fs f) (holds f a) (holds f r) u in
        let q : (x : ℕ) × (has b x ≡ true) × (f ≡ without w x) = h.outs f p.0 p.1 in
        let e : q.0 ≡ z = only q.0 q.1 (ap (λ g. holds g r) (sym q.2) ∙ p.2) in
        or_left (pointwise nat_eq (without w z) f) false (ap (λ g. pointwise nat_eq (without w z) g) (q.2 ∙ ap (without w) e) ∙ same_set_itself (without w z)))
        (λ u. let e : without w z ≡ f = same_sets_is (without w z) f (or_none (pointwise nat_eq (without w z) f) u) in
        let P : List ℕ → Type 0 = λ g. ((listed fs g && holds g a) && holds g r) ≡ true in
        subst P e (both_true (both_true (h.was z zb) (holds_a z zb)) (holds_less w r z t zr))))

    over_none : holds w r ≡ false → over (over fs a) r ≡ []
    over_none t = same_lists (over (over fs a) r) [] (IsStrictlySortedBy-filter face_cmp (λ f. holds f r) (over fs a) (IsStrictlySortedBy-filter face_cmp (λ f. holds f a) fs h.rises)) (sorted_none face_cmp) (λ f.
        listed-filter (λ g. holds g r) (over fs a) f ∙ ap (λ c. c && holds f r) (listed-filter (λ g. holds g a) fs f) ∙
        false_from_ne_true ((listed fs f && holds f a) && holds f r) (λ u. let p : (listed fs f ≡ true) × (holds f a ≡ true) × (holds f r ≡ true) = and_split (listed fs f) (holds f a) (holds f r) u in
        let q : (x : ℕ) × (has b x ≡ true) × (f ≡ without w x) = h.outs f p.0 p.1 in
        clash {P = ⊥} (holds w r) (holds_through w (without w q.0) r (holds_without w q.0) (ap (λ g. holds g r) (sym q.2) ∙ p.2)) t))

    pub over_count : length (over (over fs a) r) ≡ cond (holds w r) 1 0
    over_count = elim (two (holds w r)) [
      | inl t ↦ ap length (over_one t) ∙ ap (λ c. cond c 1 0) (sym t)
      | inr t ↦ ap length (over_none t) ∙ ap (λ c. cond c 1 0) (sym t)
    ]

rest_in : (fs gs : List (List ℕ)) (a b w : List ℕ) → Exchange fs gs a b w → (f : List ℕ) → (listed fs f && not (holds f a)) ≡ true → (listed gs f && not (holds f b)) ≡ true
rest_in fs gs a b w e f t =
    let p : listed fs f ≡ true = first_so (listed fs f) (not (holds f a)) t in
    let q : holds f a ≡ false = is_false (holds f a) (second_so (listed fs f) (not (holds f a)) t) in
    let r : holds f b ≡ false = e.old.free f p in
    λ i. both_true (sym (e.stays f q r) ∙ p) (ap not r) i
  where
    is_false : (c : Bool) → not c ≡ true → c ≡ false
    is_false true g = sym g
    is_false false g = refl

-- the facets that stay are one list
pub rest_same : (fs gs : List (List ℕ)) (a b w : List ℕ) → Exchange fs gs a b w → beside fs a ≡ beside gs b
rest_same fs gs a b w e = same_lists (beside fs a) (beside gs b) (IsStrictlySortedBy-filter face_cmp (λ f. not (holds f a)) fs e.old.rises) (IsStrictlySortedBy-filter face_cmp (λ f. not (holds f b)) gs e.new.rises) (λ f.
    listed-filter (λ g. not (holds g a)) fs f ∙ both_ways (listed fs f && not (holds f a)) (listed gs f && not (holds f b)) (rest_in fs gs a b w e f) (rest_in gs fs b a w (turned fs gs a b w e) f) ∙ sym (listed-filter (λ g. not (holds g b)) gs f))

-- a legal flip keeps the count of a ridge that contains neither A nor B
pub count_kept : (fs gs : List (List ℕ)) (a b w r : List ℕ) → Exchange fs gs a b w → IsStrictlySortedBy nat_cmp r → length r + 2 ≡ length w → holds r a ≡ false → holds r b ≡ false → count fs r ≡ count gs r
count_kept fs gs a b w r e s n ra rb =
    let y : (z : ℕ) × (has a z ≡ true) × (has r z ≡ false) = lacking r a ra in
    let z : (z : ℕ) × (has b z ≡ true) × (has r z ≡ false) = lacking r b rb in
    let p : length (over (over fs a) r) ≡ cond (holds w r) 1 0 = over_count fs a b w e.old r y.0 z.0 s n y.1 y.2 z.1 z.2 in
    let q : length (over (over gs b) r) ≡ cond (holds w r) 1 0 = over_count gs b a w e.new r z.0 y.0 s n z.1 z.2 y.1 y.2 in
    split (λ f. holds f r) (λ f. holds f a) fs ∙ (λ i. (p ∙ sym q) i + length (over (rest_same fs gs a b w e i) r)) ∙ sym (split (λ f. holds f r) (λ f. holds f b) gs)
