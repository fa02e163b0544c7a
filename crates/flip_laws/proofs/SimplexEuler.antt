-- The Euler characteristic of the boundary of a simplex.
use Rattle.std.proofs.Common.{◌≡◌, ℕ, ◌+◌, suc, Bool, true, false, not, nat_eq, ◌||◌, ◌&&◌, List, [], ◌∷◌, length, sym, ◌∙◌, ap, refl, arith, inl, inr, subst, cond}
use Rattle.std.specs.List.{flat_map}
use Rattle.std.specs.List.Sorted.{IsStrictlySortedBy}
use Rattle.std.specs.Ordering.{nat_cmp}
use Rattle.std.specs.Cmp.Lexicographic.{pointwise, nat_list_cmp_total}
use Rattle.std.proofs.lemmas.Int.{ints}
use lib.IntN.{ℤ, pos, negsuc, ◌+ℤ◌}
use Rattle.complex_core.specs.Labels.{has, holds, face_cmp}
use Rattle.complex_core.specs.Rising.{rising}
use Rattle.complex_core.specs.Complexes.{is_held}
use Rattle.complex_core.proofs.Sets.{sorted_rising, sorted_none}
use Rattle.complex_core.proofs.Laws.{both_ways, holds_has, holds_each, or_left, or_right, listed, same_sets_is, same_set_itself, listed-rising, same_labels, nat_eq_same}
use Rattle.face_counts.specs.Faces.{subsets, parts, is_some, faces}
use Rattle.face_counts.specs.Eulers.{odd, total, sign, euler, power}
use Rattle.flip_laws.proofs.Totals.{total_pairs, total_pick, total-rising}
use Rattle.face_counts.proofs.Parts.{Sets, part_is, part_from, listed-faces, face_is, faces_rise}
use Rattle.flip_laws.proofs.EulerKept.{Full, signs_cancel, part_old, part_free}
use Rattle.flip_laws.proofs.Simplices.{simplex_boundary, half_of}
use Rattle.std.proofs.lemmas.Bool.{false_from_ne_true}
use Rattle.complex_core.proofs.SubsetLists.{two, clash}

module _ (w : List ℕ) (s : IsStrictlySortedBy nat_cmp w) where
  abbrev all : List (List ℕ)
  all = parts (w ∷ [])

  abbrev ends : List (List ℕ)
  ends = rising face_cmp ([] ∷ w ∷ [])

  only : Sets (w ∷ [])
  only f t = let P : List ℕ → Type 0 = λ m. IsStrictlySortedBy nat_cmp m in subst P (same_sets_is w f (drop_none (pointwise nat_eq w f) t)) s
    where
      drop_none : (c : Bool) → (c || false) ≡ true → c ≡ true
      drop_none true h = refl
      drop_none false h = h

  in_w : (r : List ℕ) → listed all r ≡ true → holds w r ≡ true
  in_w r t = drop_none (holds w r) (part_is (w ∷ []) r only t).1
    where
      drop_none : (c : Bool) → (c || false) ≡ true → c ≡ true
      drop_none true h = refl
      drop_none false h = h

  full : Full all w
  full = record {
    rises = sorted_rising nat_list_cmp_total (flat_map subsets (w ∷ []));
    sets = λ r t. (part_is (w ∷ []) r only t).0;
    all = λ r q t. part_from (w ∷ []) r only q (or_left (holds w r) false t);
  }

  facets_are : Sets (simplex_boundary w)
  facets_are f t = ((half_of w s).facets f t).0

  listed-ends : (r : List ℕ) → listed ends r ≡ (pointwise nat_eq [] r || (pointwise nat_eq w r || false))
  listed-ends r = listed-rising ([] ∷ w ∷ []) r

  value : (f g : Bool) (r : List ℕ) → f ≡ not g → cond f (sign r) (pos 0) +ℤ cond g (sign r) (pos 0) ≡ sign r +ℤ pos 0
  value true false r e = refl
  value false true r e = turn (sign r)
    where
      turn : (z : ℤ) → pos 0 +ℤ z ≡ z +ℤ pos 0
      turn z = omega (arith, ints)
  value true true r e = clash true refl e
  value false false r e = clash true refl (sym e)

  one_of : (r : List ℕ) → listed all r ≡ true → listed (faces (simplex_boundary w)) r ≡ not (listed ends r)
  one_of r t =
      let q : IsStrictlySortedBy nat_cmp r = full.sets r t in
      let f : listed (faces (simplex_boundary w)) r ≡ (is_held (simplex_boundary w) r && is_some r) = listed-faces (simplex_boundary w) r facets_are q in
      elim (two (holds r w)) [
        | inl p ↦
            let e : w ≡ r = same_labels w r s q (λ z. both_ways (has w z) (has r z) (holds_has r w z p) (holds_has w r z (in_w r t))) in
            f ∙ ap (λ c. c && is_some r) (part_free (simplex_boundary w) [] w w r (half_of w s) p) ∙ sym (ap not (listed-ends r ∙ or_right (pointwise nat_eq [] r) (pointwise nat_eq w r || false) (or_left (pointwise nat_eq w r) false (ap (λ m. pointwise nat_eq m r) e ∙ same_set_itself r))))
        | inr p ↦ f ∙ ap (λ c. c && is_some r) (part_old (simplex_boundary w) [] w w r (half_of w s) refl p ∙ in_w r t) ∙ twice (is_some r) ∙ sym (ap not (listed-ends r ∙ ends_are r p))
      ]
    where
      twice : (c : Bool) → c ≡ not (not c)
      twice true = refl
      twice false = refl

      ends_are : (r : List ℕ) → holds r w ≡ false → (pointwise nat_eq [] r || (pointwise nat_eq w r || false)) ≡ not (is_some r)
      ends_are [] p = refl
      ends_are (x ∷ r) p = ap (λ c. c || false) (false_from_ne_true (pointwise nat_eq w (x ∷ r)) (λ m. clash {P = ⊥} (holds (x ∷ r) w) (ap (λ v. holds v w) (sym (same_sets_is w (x ∷ r) m)) ∙ holds_each w w (λ z t. t)) p))

  zeros : (xs : List (List ℕ)) → total (λ r. pos 0) xs ≡ pos 0
  zeros [] = refl
  zeros (x ∷ xs) = ap (λ z. pos 0 +ℤ z) (zeros xs)

  everything : (xs : List (List ℕ)) → ((r : List ℕ) → listed xs r ≡ true → holds w r ≡ true) → total (λ r. cond (holds r [] && holds w r) (sign r) (pos 0)) xs ≡ total sign xs
  everything [] h = refl
  everything (x ∷ xs) h = λ i. cond (h x (or_left (pointwise nat_eq x x) (listed xs x) (same_set_itself x)) i) (sign x) (pos 0) +ℤ everything xs (λ r t. h r (or_right (pointwise nat_eq x r) (listed xs r) t)) i

  pub euler_of : (x : ℕ) → has w x ≡ true → euler (simplex_boundary w) +ℤ (negsuc 0 +ℤ (sign w +ℤ pos 0)) ≡ pos 0
  euler_of x wx =
      let p : euler (simplex_boundary w) ≡ total (λ r. cond (listed (faces (simplex_boundary w)) r) (sign r) (pos 0)) all = total_pick sign (faces (simplex_boundary w)) all (faces_rise (simplex_boundary w)) full.rises (λ r t. let q : IsStrictlySortedBy nat_cmp r × (is_held (simplex_boundary w) r ≡ true) = face_is (simplex_boundary w) r facets_are t in full.all r q.0 (held r q.1)) in
      let q : total sign ends ≡ total (λ r. cond (listed ends r) (sign r) (pos 0)) all = total_pick sign ends all (sorted_rising nat_list_cmp_total ([] ∷ w ∷ [])) full.rises ends_in in
      let e : total (λ r. cond (listed (faces (simplex_boundary w)) r) (sign r) (pos 0)) all +ℤ total (λ r. cond (listed ends r) (sign r) (pos 0)) all ≡ total sign all +ℤ total (λ r. pos 0) all = total_pairs (λ r. cond (listed (faces (simplex_boundary w)) r) (sign r) (pos 0)) (λ r. cond (listed ends r) (sign r) (pos 0)) sign (λ r. pos 0) all (λ r t. value (listed (faces (simplex_boundary w)) r) (listed ends r) r (one_of r t)) in
      let z : total sign all ≡ pos 0 = sym (everything all in_w) ∙ signs_cancel all [] w x full wx refl in
      let d : total sign ends ≡ negsuc 0 +ℤ (sign w +ℤ pos 0) = total-rising sign ([] ∷ w ∷ []) (apart_ends w x wx, (refl, tt)) in
      join_up (euler (simplex_boundary w)) (total (λ r. cond (listed (faces (simplex_boundary w)) r) (sign r) (pos 0)) all) (total sign ends) (total (λ r. cond (listed ends r) (sign r) (pos 0)) all) (total sign all) (total (λ r. pos 0) all) (negsuc 0 +ℤ (sign w +ℤ pos 0)) p q e z (zeros all) d
    where
      held : (r : List ℕ) → is_held (simplex_boundary w) r ≡ true → holds w r ≡ true
      held r t = elim (two (holds r w)) [
        | inl p ↦ clash (is_held (simplex_boundary w) r) t (part_free (simplex_boundary w) [] w w r (half_of w s) p)
        | inr p ↦ sym (part_old (simplex_boundary w) [] w w r (half_of w s) refl p) ∙ t
      ]

      ends_in : (r : List ℕ) → listed ends r ≡ true → listed all r ≡ true
      ends_in r t = at r (sym (listed-ends r) ∙ t)
        where
          at : (r : List ℕ) → (pointwise nat_eq [] r || (pointwise nat_eq w r || false)) ≡ true → listed all r ≡ true
          at [] h = full.all [] (sorted_none nat_cmp) refl
          at (x ∷ r) h = let P : List ℕ → Type 0 = λ m. listed all m ≡ true in subst P (same_sets_is w (x ∷ r) (drop_none (pointwise nat_eq w (x ∷ r)) h)) (full.all w s (holds_each w w (λ z t. t)))
            where
              drop_none : (c : Bool) → (c || false) ≡ true → c ≡ true
              drop_none true h = refl
              drop_none false h = h

      apart_ends : (w : List ℕ) (x : ℕ) → has w x ≡ true → listed (w ∷ []) [] ≡ false
      apart_ends [] x t = clash true refl (sym t)
      apart_ends (y ∷ w) x t = refl

      join_up : (a b c d e f g : ℤ) → a ≡ b → c ≡ d → b +ℤ d ≡ e +ℤ f → e ≡ pos 0 → f ≡ pos 0 → c ≡ g → a +ℤ g ≡ pos 0
      join_up a b c d e f g h1 h2 h3 h4 h5 h6 = omega (arith, ints, h1, h2, h3, h4, h5, h6)

pub some_label : (w : List ℕ) (n : ℕ) → length w ≡ n + 2 → (x : ℕ) × (has w x ≡ true)
some_label [] n e = absurd (omega (arith, e))
some_label (x ∷ xs) n e = (x, or_left (nat_eq x x) (has xs x) (nat_eq_same x))

pub sphere_number : (z : ℤ) (w : List ℕ) (d : ℕ) → length w ≡ d + 2 → z +ℤ (negsuc 0 +ℤ (sign w +ℤ pos 0)) ≡ pos 0 → z ≡ pos 1 +ℤ power d
sphere_number z w d n e = cases (odd d) (sign w) same e
  where
    same : sign w ≡ cond (odd d) (pos 1) (negsuc 0)
    same = let m : length w ≡ suc (suc d) = omega (arith, n) in ap (λ k. cond (odd k) (pos 1) (negsuc 0)) m ∙ ap (λ c. cond c (pos 1) (negsuc 0)) (twice (odd d))
      where
        twice : (c : Bool) → not (not c) ≡ c
        twice true = refl
        twice false = refl

    cases : (c : Bool) (v : ℤ) → v ≡ cond c (pos 1) (negsuc 0) → z +ℤ (negsuc 0 +ℤ (v +ℤ pos 0)) ≡ pos 0 → z ≡ pos 1 +ℤ cond c (negsuc 0) (pos 1)
    cases true v p q = omega (arith, ints, p, q)
    cases false v p q = omega (arith, ints, p, q)
