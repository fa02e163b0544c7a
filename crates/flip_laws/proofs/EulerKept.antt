-- A legal flip keeps the Euler characteristic.
use Rattle.std.proofs.Common.{◌≡◌, ℕ, ◌+◌, suc, Bool, true, false, not, nat_eq, ◌||◌, ◌&&◌, List, [], ◌∷◌, ◌++◌, length, map, sym, ◌∙◌, ap, refl, arith, inl, inr, subst, cond}
use Rattle.std.specs.List.{filter, list_any, flat_map}
use Rattle.std.specs.List.Sorted.{IsStrictlySortedBy}
use Rattle.std.specs.Ordering.{nat_cmp}
use Rattle.std.specs.Cmp.Derive.{both_true}
use Rattle.std.specs.Cmp.Lexicographic.{pointwise, nat_list_cmp_total}
use Rattle.std.proofs.lemmas.Cmp.{nat_cmp_total}
use Rattle.std.proofs.lemmas.Int.{ints}
use Rattle.std.proofs.lemmas.List.Kept.{IsStrictlySortedBy-filter}
use lib.IntN.{ℤ, pos, negsuc, ◌+ℤ◌}
use Rattle.complex_core.specs.Labels.{has, holds, with, without, face_cmp}
use Rattle.complex_core.specs.Complexes.{is_held}
use Rattle.complex_core.proofs.Sets.{sorted_put, sorted_rising}
use Rattle.complex_core.proofs.Faces.{with_new}
use Rattle.complex_core.proofs.Laws.{both_ways, has-with, has-without, holds_has, holds_each, or_left, or_right, listed, same_sets_is, same_set_itself, listed-append, listed-filter, some_listed, none_listed, same_labels, sorted_without, nat_eq_is, nat_eq_same}
use Rattle.face_counts.specs.Faces.{subsets, parts, is_some, faces}
use Rattle.face_counts.specs.Eulers.{odd, total, sign, euler}
use Rattle.flip_laws.proofs.Exchange.{Half, Exchange, turned}
use Rattle.pseudo_test.proofs.Subsets.{holds_without, holds_through, holds_less, lacking}
use Rattle.flip_laws.proofs.Counting.{in_a, in_b}
use Rattle.flip_laws.proofs.Totals.{total_pairs, total-filter, total_split, total_pick, Distinct, distinct_sorted, total_same}
use Rattle.complex_core.proofs.SubsetLists.{map_from, map_back, two, clash}
use Rattle.face_counts.proofs.Parts.{Sets, part_is, part_from, listed-faces, face_is, faces_rise}
use Rattle.std.proofs.lemmas.Bool.{not-true, false_from_ne_true, and_left}
use Rattle.complex_core.proofs.Members.{without_gone, with_back as with_again}
use Rattle.complex_core.proofs.SetLists.{found_set}

-- ---- sets with a label, and without it

odd_next : (n m : ℕ) → n ≡ m + 1 → odd n ≡ not (odd m)
odd_next n m e = let g : n ≡ suc m = omega (arith, e) in ap odd g

sign_with : (s : List ℕ) (x : ℕ) → has s x ≡ false → sign (with s x) +ℤ sign s ≡ pos 0
sign_with s x f =
    let p : odd (length (with s x)) ≡ not (odd (length s)) = odd_next (length (with s x)) (length s) (with_new s x f) in
    ap (λ c. cond c (pos 1) (negsuc 0) +ℤ sign s) p ∙ elim (odd (length s)) as (λ c. cond (not c) (pos 1) (negsuc 0) +ℤ cond c (pos 1) (negsuc 0) ≡ pos 0) [ true ↦ refl | false ↦ refl ]

total_flip : (x : ℕ) (xs : List (List ℕ)) → ((s : List ℕ) → listed xs s ≡ true → has s x ≡ false) → total sign (map (λ s. with s x) xs) +ℤ total sign xs ≡ pos 0
total_flip x [] h = refl
total_flip x (s ∷ xs) h =
    let e : sign (with s x) +ℤ sign s ≡ pos 0 = sign_with s x (h s (or_left (pointwise nat_eq s s) (listed xs s) (same_set_itself s))) in
    let g : total sign (map (λ s. with s x) xs) +ℤ total sign xs ≡ pos 0 = total_flip x xs (λ r t. h r (or_right (pointwise nat_eq s r) (listed xs r) t)) in
    cancel (sign (with s x)) (sign s) (total sign (map (λ s. with s x) xs)) (total sign xs) e g
  where
    cancel : (p q r s : ℤ) → p +ℤ q ≡ pos 0 → r +ℤ s ≡ pos 0 → (p +ℤ r) +ℤ (q +ℤ s) ≡ pos 0
    cancel p q r s e g = omega (arith, ints, e, g)

with_back : (s : List ℕ) (x : ℕ) → IsStrictlySortedBy nat_cmp s → has s x ≡ false → without (with s x) x ≡ s
with_back s x r f = same_labels (without (with s x) x) s (sorted_without (with s x) x (sorted_put nat_cmp_total x s r)) r (λ z.
    has-without (with s x) x z ∙ ap (λ c. c && not (nat_eq z x)) (has-with s x z) ∙ elim (two (nat_eq z x)) [
      | inl e ↦ let q : z ≡ x = nat_eq_is z x e in ap (λ c. (nat_eq x z || has s z) && not c) e ∙ no (nat_eq x z || has s z) ∙ sym (ap (has s) q ∙ f)
      | inr e ↦ (λ i. ((swap z x e) i || has s z) && not (e i)) ∙ yes_ (has s z)
    ])
  where
    no : (c : Bool) → (c && not true) ≡ false
    no true = refl
    no false = refl

    yes_ : (c : Bool) → ((false || c) && not false) ≡ c
    yes_ true = refl
    yes_ false = refl

    swap : (z x : ℕ) → nat_eq z x ≡ false → nat_eq x z ≡ false
    swap z x e = false_from_ne_true (nat_eq x z) (λ t. clash {P = ⊥} (nat_eq z x) (ap (λ v. nat_eq z v) (nat_eq_is x z t) ∙ nat_eq_same z) e)

listed_same : (xs : List (List ℕ)) (s t : List ℕ) → s ≡ t → listed xs s ≡ true → listed xs t ≡ true
listed_same xs s t e p = ap (listed xs) (sym e) ∙ p

distinct_with : (x : ℕ) (xs : List (List ℕ)) → Sets xs → ((s : List ℕ) → listed xs s ≡ true → has s x ≡ false) → Distinct xs → Distinct (map (λ s. with s x) xs)
distinct_with x [] r h d = tt
distinct_with x (s ∷ xs) r h d = (
  false_from_ne_true (listed (map (λ s. with s x) xs) (with s x)) (λ t.
      let q : (m : List ℕ) × (listed xs m ≡ true) × (with s x ≡ with m x) = map_back (λ s. with s x) xs (with s x) t in
      let later : listed (s ∷ xs) q.0 ≡ true = or_right (pointwise nat_eq s q.0) (listed xs q.0) q.1 in
      let now : listed (s ∷ xs) s ≡ true = or_left (pointwise nat_eq s s) (listed xs s) (same_set_itself s) in
      let same : q.0 ≡ s = sym (with_back q.0 x (r q.0 later) (h q.0 later)) ∙ ap (λ m. without m x) (sym q.2) ∙ with_back s x (r s now) (h s now) in
      clash {P = ⊥} (listed xs s) (listed_same xs q.0 s same q.1) d.0),
  distinct_with x xs (λ f t. r f (or_right (pointwise nat_eq s f) (listed xs f) t)) (λ f t. h f (or_right (pointwise nat_eq s f) (listed xs f) t)) d.1,
)

-- ---- the sets between A and A ∪ B

abbrev between : List ℕ → List ℕ → List ℕ → Bool
between a w s = holds s a && holds w s

-- a list of sets with all parts of w
pub record Full (us : List (List ℕ)) (w : List ℕ) : Type 0 where
  pub rises : IsStrictlySortedBy face_cmp us
  pub sets : Sets us
  pub all : (s : List ℕ) → IsStrictlySortedBy nat_cmp s → holds w s ≡ true → listed us s ≡ true

three : (p q r s : Bool) → ((p && (q && r)) && s) ≡ true → (p ≡ true) × (q ≡ true) × (r ≡ true) × (s ≡ true)
three true true true true h = (refl, refl, refl, refl)
three true true true false h = cc
three true true false s h = cc
three true false r s h = cc
three false q r s h = cc

module _ (us : List (List ℕ)) (a w : List ℕ) (x : ℕ) (u : Full us w) (xw : has w x ≡ true) (xa : has a x ≡ false) where
  all_between : List (List ℕ)
  all_between = filter (between a w) us

  abbrev those_with : List (List ℕ)
  those_with = filter (λ s. has s x) (filter (between a w) us)

  abbrev those_less : List (List ℕ)
  those_less = filter (λ s. not (has s x)) (filter (between a w) us)

  in_with : (s : List ℕ) → listed those_with s ≡ ((listed us s && (holds s a && holds w s)) && has s x)
  in_with s = listed-filter (λ s. has s x) (filter (between a w) us) s ∙ ap (λ c. c && has s x) (listed-filter (between a w) us s)

  in_less : (s : List ℕ) → listed those_less s ≡ ((listed us s && (holds s a && holds w s)) && not (has s x))
  in_less s = listed-filter (λ s. not (has s x)) (filter (between a w) us) s ∙ ap (λ c. c && not (has s x)) (listed-filter (between a w) us s)

  less_is : (s : List ℕ) → listed those_less s ≡ true → (listed us s ≡ true) × (holds s a ≡ true) × (holds w s ≡ true) × (has s x ≡ false)
  less_is s t = let p : (listed us s ≡ true) × (holds s a ≡ true) × (holds w s ≡ true) × (not (has s x) ≡ true) = three (listed us s) (holds s a) (holds w s) (not (has s x)) (sym (in_less s) ∙ t) in (p.0, p.1, p.2, not-true (has s x) p.3)

  down : (s : List ℕ) → listed those_with s ≡ true → listed (map (λ s. with s x) those_less) s ≡ true
  down s t =
      let p : (listed us s ≡ true) × (holds s a ≡ true) × (holds w s ≡ true) × (has s x ≡ true) = three (listed us s) (holds s a) (holds w s) (has s x) (sym (in_with s) ∙ t) in
      let r : IsStrictlySortedBy nat_cmp s = u.sets s p.0 in
      let part : holds w (without s x) ≡ true = holds_through w s (without s x) p.2 (holds_without s x) in
      let one : listed us (without s x) ≡ true = u.all (without s x) (sorted_without s x r) part in
      let l : listed those_less (without s x) ≡ true = in_less (without s x) ∙ both_true (both_true one (both_true (holds_less s a x p.1 xa) part)) (ap not (without_gone s x)) in
      listed_same (map (λ s. with s x) those_less) (with (without s x) x) s (with_again s x r p.3) (map_from (λ s. with s x) those_less (without s x) l)

  up : (s : List ℕ) → listed (map (λ s. with s x) those_less) s ≡ true → listed those_with s ≡ true
  up s t =
      let q : (m : List ℕ) × (listed those_less m ≡ true) × (s ≡ with m x) = map_back (λ s. with s x) those_less s t in
      let p : (listed us q.0 ≡ true) × (holds q.0 a ≡ true) × (holds w q.0 ≡ true) × (has q.0 x ≡ false) = less_is q.0 q.1 in
      let part : holds w (with q.0 x) ≡ true = holds_each w (with q.0 x) (λ z c. elim (two (nat_eq x z)) [
        | inl e ↦ ap (has w) (sym (nat_eq_is x z e)) ∙ xw
        | inr e ↦ holds_has w q.0 z p.2 (sym (has-with q.0 x z ∙ ap (λ c. c || has q.0 z) e) ∙ c)
      ]) in
      let over_a : holds (with q.0 x) a ≡ true = holds_each (with q.0 x) a (λ z c. has-with q.0 x z ∙ or_right (nat_eq x z) (has q.0 z) (holds_has q.0 a z p.1 c)) in
      let there : has (with q.0 x) x ≡ true = has-with q.0 x x ∙ or_left (nat_eq x x) (has q.0 x) (nat_eq_same x) in
      let one : listed us (with q.0 x) ≡ true = u.all (with q.0 x) (sorted_put nat_cmp_total x q.0 (u.sets q.0 p.0)) part in
      listed_same those_with (with q.0 x) s (sym q.2) (in_with (with q.0 x) ∙ both_true (both_true one (both_true over_a part)) there)

  sorted_between : IsStrictlySortedBy face_cmp (filter (between a w) us)
  sorted_between = IsStrictlySortedBy-filter face_cmp (between a w) us u.rises

  -- the signs of the sets between A and A ∪ B cancel, by one label of B
  pub signs_cancel : total (λ s. cond (holds s a && holds w s) (sign s) (pos 0)) us ≡ pos 0
  signs_cancel =
      let less_rise : IsStrictlySortedBy face_cmp those_less = IsStrictlySortedBy-filter face_cmp (λ s. not (has s x)) (filter (between a w) us) sorted_between in
      let p : total sign those_with ≡ total sign (map (λ s. with s x) those_less) = total_same sign those_with (map (λ s. with s x) those_less)
      (distinct_sorted those_with (IsStrictlySortedBy-filter face_cmp (λ s. has s x) (filter (between a w) us) sorted_between))
      (distinct_with x those_less (λ s t. u.sets s (less_is s t).0) (λ s t. (less_is s t).3) (distinct_sorted those_less less_rise))
      (λ s. both_ways (listed those_with s) (listed (map (λ s. with s x) those_less) s) (down s) (up s)) in
      let q : total sign (map (λ s. with s x) those_less) +ℤ total sign those_less ≡ pos 0 = total_flip x those_less (λ s t. (less_is s t).3) in
      sym (total-filter (between a w) sign us) ∙ total_split (λ s. has s x) sign (filter (between a w) us) ∙ ap (λ z. z +ℤ total sign those_less) p ∙ q

-- ---- faces before and after

pub part_old : (fs : List (List ℕ)) (a b w s : List ℕ) → Half fs a b w → holds s a ≡ true → holds s b ≡ false → is_held fs s ≡ holds w s
part_old fs a b w s h sa sb = both_ways (is_held fs s) (holds w s)
    (λ t. let f : (f : List ℕ) × (listed fs f ≡ true) × (holds f s ≡ true) = found_set (λ f. holds f s) fs t in
    let x : (x : ℕ) × (has b x ≡ true) × (f.0 ≡ without w x) = h.outs f.0 f.1 (holds_through f.0 s a f.2 sa) in
    holds_through w (without w x.0) s (holds_without w x.0) (ap (λ m. holds m s) (sym x.2) ∙ f.2))
    (λ t. let z : (z : ℕ) × (has b z ≡ true) × (has s z ≡ false) = lacking s b sb in
    some_listed (λ f. holds f s) fs (without w z.0) (h.was z.0 z.1) (holds_less w s z.0 t z.2))

pub part_free : (fs : List (List ℕ)) (a b w s : List ℕ) → Half fs a b w → holds s b ≡ true → is_held fs s ≡ false
part_free fs a b w s h sb = none_listed (λ f. holds f s) fs (λ f t. false_from_ne_true (holds f s) (λ p. clash {P = ⊥} (holds f b) (holds_through f s b p sb) (h.free f t)))

part_moves : (fs gs : List (List ℕ)) (a b w s : List ℕ) → Exchange fs gs a b w → holds s a ≡ false → is_held fs s ≡ true → is_held gs s ≡ true
part_moves fs gs a b w s e sa t =
    let f : (f : List ℕ) × (listed fs f ≡ true) × (holds f s ≡ true) = found_set (λ f. holds f s) fs t in
    elim (two (holds f.0 a)) [
      | inl p ↦
          let x : (x : ℕ) × (has b x ≡ true) × (f.0 ≡ without w x) = e.old.outs f.0 f.1 p in
          let y : (y : ℕ) × (has a y ≡ true) × (has s y ≡ false) = lacking s a sa in
          some_listed (λ f. holds f s) gs (without w y.0) (e.new.was y.0 y.1) (holds_less w s y.0 (holds_through w (without w x.0) s (holds_without w x.0) (ap (λ m. holds m s) (sym x.2) ∙ f.2)) y.2)
      | inr p ↦ some_listed (λ f. holds f s) gs f.0 (sym (e.stays f.0 p (e.old.free f.0 f.1)) ∙ f.1) f.2
    ]

-- a set that contains neither A nor B stays a face, or stays none
pub part_same : (fs gs : List (List ℕ)) (a b w s : List ℕ) → Exchange fs gs a b w → holds s a ≡ false → holds s b ≡ false → is_held fs s ≡ is_held gs s
part_same fs gs a b w s e sa sb = both_ways (is_held fs s) (is_held gs s) (part_moves fs gs a b w s e sa) (part_moves gs fs b a w s (turned fs gs a b w e) sb)

table : (f g p q r : Bool) (z : ℤ) → (p ≡ true → q ≡ false → f ≡ r) → (q ≡ true → f ≡ false) → (p ≡ true → g ≡ false) → (q ≡ true → p ≡ false → g ≡ r) → (p ≡ false → q ≡ false → f ≡ g) →
    cond f z (pos 0) +ℤ cond (q && r) z (pos 0) ≡ cond g z (pos 0) +ℤ cond (p && r) z (pos 0)
table f g true true r z h1 h2 h3 h4 h5 = λ i. cond ((h2 refl ∙ sym (h3 refl)) i) z (pos 0) +ℤ cond r z (pos 0)
table f g true false r z h1 h2 h3 h4 h5 = (λ i. cond (h1 refl refl i) z (pos 0) +ℤ pos 0) ∙ turn (cond r z (pos 0)) ∙ (λ i. cond (sym (h3 refl) i) z (pos 0) +ℤ cond r z (pos 0))
  where
    turn : (m : ℤ) → m +ℤ pos 0 ≡ pos 0 +ℤ m
    turn m = omega (arith, ints)
table f g false true r z h1 h2 h3 h4 h5 = (λ i. cond (h2 refl i) z (pos 0) +ℤ cond r z (pos 0)) ∙ turn (cond r z (pos 0)) ∙ (λ i. cond (sym (h4 refl refl) i) z (pos 0) +ℤ pos 0)
  where
    turn : (m : ℤ) → pos 0 +ℤ m ≡ m +ℤ pos 0
    turn m = omega (arith, ints)
table f g false false r z h1 h2 h3 h4 h5 = λ i. cond (h5 refl refl i) z (pos 0) +ℤ pos 0

some_over : (s a : List ℕ) (x : ℕ) → has a x ≡ true → holds s a ≡ true → is_some s ≡ true
some_over [] a x t h = clash true refl (sym (holds_has [] a x h t))
some_over (y ∷ s) a x t h = refl

and_true : (c d : Bool) → d ≡ true → (c && d) ≡ c
and_true true d e = e
and_true false d e = refl

module _ (fs gs : List (List ℕ)) (a b w : List ℕ) (e : Exchange fs gs a b w) where
  abbrev all : List (List ℕ)
  all = parts (w ∷ (fs ++ gs))

  sets_all : Sets (w ∷ (fs ++ gs))
  sets_all f t = elim (two (pointwise nat_eq w f)) [
    | inl p ↦ let P : List ℕ → Type 0 = λ m. IsStrictlySortedBy nat_cmp m in subst P (same_sets_is w f p) e.old.labels
    | inr p ↦ elim (two (listed fs f)) [
      | inl q ↦ (e.old.facets f q).0
      | inr q ↦ (e.new.facets f (sym (listed-append fs gs f ∙ ap (λ c. c || listed gs f) q) ∙ sym (ap (λ c. c || listed (fs ++ gs) f) p) ∙ t)).0
    ]
  ]

  any_append : (p : List ℕ → Bool) (xs ys : List (List ℕ)) → list_any p (xs ++ ys) ≡ (list_any p xs || list_any p ys)
  any_append p [] ys = refl
  any_append p (x ∷ xs) ys = ap (λ c. p x || c) (any_append p xs ys) ∙ assoc (p x) (list_any p xs) (list_any p ys)
    where
      assoc : (p q r : Bool) → (p || (q || r)) ≡ ((p || q) || r)
      assoc true q r = refl
      assoc false q r = refl

  in_all : (s : List ℕ) → IsStrictlySortedBy nat_cmp s → (holds w s || (is_held fs s || is_held gs s)) ≡ true → listed all s ≡ true
  in_all s r t = part_from (w ∷ (fs ++ gs)) s sets_all r (ap (λ c. holds w s || c) (any_append (λ f. holds f s) fs gs) ∙ t)

  full : Full all w
  full = record {
    rises = sorted_rising nat_list_cmp_total (flat_map subsets (w ∷ (fs ++ gs)));
    sets = λ s t. (part_is (w ∷ (fs ++ gs)) s sets_all t).0;
    all = λ s r t. in_all s r (or_left (holds w s) (is_held fs s || is_held gs s) t);
  }

  old_sets : Sets fs
  old_sets f t = (e.old.facets f t).0

  new_sets : Sets gs
  new_sets f t = (e.new.facets f t).0

  old_sum : euler fs ≡ total (λ s. cond (listed (faces fs) s) (sign s) (pos 0)) all
  old_sum = total_pick sign (faces fs) all (faces_rise fs) full.rises (λ s t. let p : IsStrictlySortedBy nat_cmp s × (is_held fs s ≡ true) = face_is fs s old_sets t in in_all s p.0 (or_right (holds w s) (is_held fs s || is_held gs s) (or_left (is_held fs s) (is_held gs s) p.1)))

  new_sum : euler gs ≡ total (λ s. cond (listed (faces gs) s) (sign s) (pos 0)) all
  new_sum = total_pick sign (faces gs) all (faces_rise gs) full.rises (λ s t. let p : IsStrictlySortedBy nat_cmp s × (is_held gs s ≡ true) = face_is gs s new_sets t in in_all s p.0 (or_right (holds w s) (is_held fs s || is_held gs s) (or_right (is_held fs s) (is_held gs s) p.1)))

  at_set : (s : List ℕ) → listed all s ≡ true → cond (listed (faces fs) s) (sign s) (pos 0) +ℤ cond (holds s b && holds w s) (sign s) (pos 0) ≡ cond (listed (faces gs) s) (sign s) (pos 0) +ℤ cond (holds s a && holds w s) (sign s) (pos 0)
  at_set s t =
      let r : IsStrictlySortedBy nat_cmp s = full.sets s t in
      let f : listed (faces fs) s ≡ (is_held fs s && is_some s) = listed-faces fs s old_sets r in
      let g : listed (faces gs) s ≡ (is_held gs s && is_some s) = listed-faces gs s new_sets r in
      table (listed (faces fs) s) (listed (faces gs) s) (holds s a) (holds s b) (holds w s) (sign s)
      (λ p q. f ∙ and_true (is_held fs s) (is_some s) (some_over s a e.some_a.0 e.some_a.1 p) ∙ part_old fs a b w s e.old p q)
      (λ q. f ∙ and_left (is_held fs s) (is_some s) (part_free fs a b w s e.old q))
      (λ p. g ∙ and_left (is_held gs s) (is_some s) (part_free gs b a w s e.new p))
      (λ q p. g ∙ and_true (is_held gs s) (is_some s) (some_over s b e.some_b.0 e.some_b.1 q) ∙ part_old gs b a w s e.new q p)
      (λ p q. f ∙ ap (λ c. c && is_some s) (part_same fs gs a b w s e p q) ∙ sym g)

  -- a legal flip keeps the Euler characteristic
  pub euler_kept : euler fs ≡ euler gs
  euler_kept =
      let p : total (λ s. cond (holds s a && holds w s) (sign s) (pos 0)) all ≡ pos 0 = signs_cancel all a w e.some_b.0 full (in_b fs a b w e.old e.some_b.0 e.some_b.1) (e.new.apart e.some_b.0 e.some_b.1) in
      let q : total (λ s. cond (holds s b && holds w s) (sign s) (pos 0)) all ≡ pos 0 = signs_cancel all b w e.some_a.0 full (in_a fs a b w e.old e.some_a.0 e.some_a.1) (e.old.apart e.some_a.0 e.some_a.1) in
      let r : total (λ s. cond (listed (faces fs) s) (sign s) (pos 0)) all +ℤ total (λ s. cond (holds s b && holds w s) (sign s) (pos 0)) all ≡ total (λ s. cond (listed (faces gs) s) (sign s) (pos 0)) all +ℤ total (λ s. cond (holds s a && holds w s) (sign s) (pos 0)) all
      = total_pairs (λ s. cond (listed (faces fs) s) (sign s) (pos 0)) (λ s. cond (holds s b && holds w s) (sign s) (pos 0)) (λ s. cond (listed (faces gs) s) (sign s) (pos 0)) (λ s. cond (holds s a && holds w s) (sign s) (pos 0)) all at_set in
      old_sum ∙ left (total (λ s. cond (listed (faces fs) s) (sign s) (pos 0)) all) (total (λ s. cond (holds s b && holds w s) (sign s) (pos 0)) all) (total (λ s. cond (listed (faces gs) s) (sign s) (pos 0)) all) (total (λ s. cond (holds s a && holds w s) (sign s) (pos 0)) all) r q p ∙ sym new_sum
    where
      left : (p q r s : ℤ) → p +ℤ q ≡ r +ℤ s → q ≡ pos 0 → s ≡ pos 0 → p ≡ r
      left p q r s e f g = omega (arith, ints, e, f, g)
