-- The flip of a draw that has chosen A.
use Rattle.std.proofs.Common.{◌≡◌, ◌⊎◌, inl, inr, ℕ, zero, suc, ◌+◌, ◌<◌, ◌≤◌, Bool, true, false, not, nat_le, nat_eq, ◌||◌, ◌&&◌, cond, List, [], ◌∷◌, length, Option, Some, None, Result, Ok, Err, sym, ◌∙◌, ap, refl, subst, arith, get_or}
use Rattle.std.specs.Prelude.{MatchOption}
use Rattle.std.specs.Result.{is_ok}
use Rattle.std.specs.List.{AllByRecursion, list_any, flat_map}
use Rattle.std.specs.Ordering.{nat_cmp}
use Rattle.std.specs.Cmp.{first_so}
use Rattle.std.proofs.lemmas.Bool.Decides.{nat_tests}
use Rattle.std.proofs.lemmas.Bool.{cases_lt}
use Rattle.std.specs.Cmp.Lexicographic.{pointwise}
use Rattle.complex_core.specs.Labels.{IsFace, has, holds, union, without, face_cmp}
use Rattle.complex_core.specs.Rising.{rising}
use Rattle.complex_core.proofs.Booleans.{and_false}
use Rattle.complex_core.specs.Complexes.{ComplexView, IsComplex, over, is_held}
use Rattle.complex_core.specs.Maps.{used}
use Rattle.complex_core.specs.Links.{less}
use Rattle.complex_core.proofs.Sets.{above_cons, above_tail, sorted_none}
use Rattle.complex_core.proofs.Faces.{cmp_less}
use Rattle.complex_core.proofs.Laws.{listed, listed-filter, holds_has, has-union, nat_eq_is, nat_eq_same, or_left, or_right, length-without, some_has, same_set_itself, listed-rising}
use Rattle.complex_core.proofs.Members.{has-rising, has-less, without_has, without_other, in_without, each_member, label_low, has_place}
use Rattle.complex_core.proofs.Runs.{held_alike}
use Rattle.complex_core.proofs.SetLists.{found_set, used_label}
use Rattle.complex_core.proofs.SubsetLists.{two, clash}
use Rattle.flip_rules.specs.Flips.{Legal, broken_rule, broken_rule_near, flipped, has_shape, link_is, same_sets, join_boundary}
use Rattle.flip_rules.specs.declared.flip.Flip.{Flip}
use Rattle.flip_rules.specs.declared.flip.Illegal.{Illegal}
use Rattle.flip_rules.proofs.Legal.{legal, shaped, verdict}
use Rattle.flip_rules.proofs.Links.{listed-flipped, side_of, listed-join_boundary}
use Rattle.flip_rules.proofs.Back.{first_label}
use Rattle.flip_rules.proofs.Replays.{complex_flipped}
use Rattle.star_laws.specs.Stars.{star}
use Rattle.stars.specs.StarViews.{VertexStar, StarList, IsStarListOf, OnPlaces, UsesUpTo, places_in, star_at}
use Rattle.stars.specs.Candidates.{flip_at, flip_of, opposite}
use Rattle.stars.proofs.Mapping.{has_append, has_bound, uses_of}
use Rattle.stars.proofs.Views.{over_star}
use Rattle.make_complex.specs.Choices.{IsSubfacet}
use Rattle.make_complex.specs.Draws.{after_choice, flipped_within, is_within, least_unused}
use Rattle.complex_core.specs.Subsets.{IsSubset, subsets_of}
use Rattle.complex_core.proofs.SetLists.{pure_at}
use Rattle.complex_core.proofs.SubsetLists.{subset_is}
use Rattle.complex_core.specs.Complexes.{IsFacet}
use Rattle.make_complex.specs.Draws.{chosen, first_of, after_draw}
use Rattle.std.proofs.Common.{length-append, map, ◌%◌, ◌-◌, OnOk}
use Rattle.std.proofs.lemmas.List.{length-map}
use Rattle.std.proofs.lemmas.Nat.{mod_below}
use Rattle.make_complex.proofs.Gaps.{IsGap, gap_used, many_used}
use Rattle.make_complex.proofs.Flipping.{illegal_stays, outside_stays}

-- a used label is one of some facet
pub in_facet : (fs : List (List ℕ)) (x : ℕ) → has (used fs) x ≡ true → (f : List ℕ) × (listed fs f ≡ true) × (has f x ≡ true)
in_facet fs x t = found_set (λ f. has f x) fs (sym (any fs) ∙ sym (has-rising (flat_map (λ f. f) fs) x) ∙ t)
  where
    any : (fs : List (List ℕ)) → has (flat_map (λ f. f) fs) x ≡ list_any (λ f. has f x) fs
    any [] = refl
    any (f ∷ fs) = has_append f (flat_map (λ g. g) fs) x ∙ ap (λ b. has f x || b) (any fs)

-- the labels of A are places
first_places : (k : ComplexView) (n i : ℕ) (a : List ℕ) → UsesUpTo k n → IsSubfacet k i a → AllByRecursion (λ x. x ≤ n) a
first_places k n i a u h = each_member (λ x. x ≤ n) a (λ x t. uses_of k n h.facet x u h.there (holds_has h.facet a x h.inside t))

-- so are those of the facets over A
opposite_places : (k : ComplexView) (n : ℕ) (a : List ℕ) → UsesUpTo k n → AllByRecursion (λ x. x ≤ n) (opposite k.facets a)
opposite_places k n a u = each_member (λ x. x ≤ n) (opposite k.facets a) (λ x t.
    let s : has (used (over k.facets a)) x ≡ true = first_so (has (used (over k.facets a)) x) (not (has a x)) (sym (has-less (used (over k.facets a)) a x) ∙ t) in
    let f : (f : List ℕ) × (listed (over k.facets a) f ≡ true) × (has f x ≡ true) = in_facet (over k.facets a) x s in
    uses_of k n f.0 x u (first_so (listed k.facets f.0) (holds f.0 a) (sym (listed-filter (λ g. holds g a) k.facets f.0) ∙ f.1)) f.2)

-- ---- a new label

pub single_face : (x : ℕ) → 0 < x → IsFace (x ∷ [])
single_face x l = record { few = omega arith; rising = above_cons nat_cmp 0 (x ∷ []) (cmp_less 0 x l, tt) (above_cons nat_cmp x [] tt (sorted_none nat_cmp)) }

-- B less one of its labels, with A, is one of the sides
side_listed : (a b : List ℕ) (z : ℕ) → has b z ≡ true → listed (join_boundary a b) (union a (without b z)) ≡ true
side_listed a b z t = listed-join_boundary a b b (union a (without b z)) ∙ some_has (λ y. pointwise nat_eq (union a (without b y)) (union a (without b z))) b z t (same_set_itself (union a (without b z)))

pub decided : (r : Result (Unit {0}) Illegal) → (r ≡ Ok tt) ⊎ (is_ok r ≡ false)
decided (Ok u) = inl refl
decided (Err e) = inr refl

-- all labels are still used after a flip that brings a new one in, and so is the new one
still_used : (k : ComplexView) (a : List ℕ) (new x : ℕ) → Legal k a (new ∷ []) → IsFace a → 2 ≤ length a → has (used k.facets) x ≡ true → has (used (flipped k a (new ∷ [])).facets) x ≡ true
still_used k a new x l fa many t =
    let g : (f : List ℕ) × (listed k.facets f ≡ true) × (has f x ≡ true) = in_facet k.facets x t in
    elim (two (holds g.0 a)) [
      | inl h ↦
          let s : (y : ℕ) × (has (new ∷ []) y ≡ true) × (g.0 ≡ union a (without (new ∷ []) y)) = side_of a (new ∷ []) g.0 (sym (listed_link g.0) ∙ (ap (λ b. b && holds g.0 a) g.1 ∙ h)) in
          let here : has a x ≡ true = in_a s.0 (sym (has-union a (without (new ∷ []) s.0) x) ∙ ap (λ f. has f x) (sym s.2) ∙ g.2) s.1 in
          let other : (z : ℕ) × (has (without a x) z ≡ true) = first_label (without a x) (λ e. omega (arith, e, many, length-without a x (above_tail nat_cmp 0 a fa.rising) here)) in
          let side : List ℕ = union (new ∷ []) (without a other.0) in
          used_label (flipped k a (new ∷ [])).facets side x
          (listed-flipped k a (new ∷ []) side ∙ or_right (listed k.facets side && not (holds side a)) (listed (join_boundary (new ∷ []) a) side) (side_listed (new ∷ []) a other.0 (without_has a x other.0 other.1)))
          (has-union (new ∷ []) (without a other.0) x ∙ or_right (has (new ∷ []) x) (has (without a other.0) x) (in_without a other.0 x here (λ e. without_other a x other.0 other.1 (sym e))))
      | inr h ↦
          used_label (flipped k a (new ∷ [])).facets g.0 x
          (listed-flipped k a (new ∷ []) g.0 ∙ or_left (listed k.facets g.0 && not (holds g.0 a)) (listed (join_boundary (new ∷ []) a) g.0) (ap (λ b. b && not (holds g.0 a)) g.1 ∙ ap not h))
          g.2
    ]
  where
    listed_link : (f : List ℕ) → (listed k.facets f && holds f a) ≡ listed (join_boundary a (new ∷ [])) f
    listed_link f = sym (listed-filter (λ g. holds g a) k.facets f) ∙ ap (λ fs. listed fs f) l.link ∙ listed-rising (join_boundary a (new ∷ [])) f

    in_a : (y : ℕ) → (has a x || has (without (new ∷ []) y) x) ≡ true → has (new ∷ []) y ≡ true → has a x ≡ true
    in_a y e t = elim (two (has a x)) [
      | inl h ↦ h
      | inr f ↦
          let r : has (without (new ∷ []) y) x ≡ true = ap (λ b. b || has (without (new ∷ []) y) x) (sym f) ∙ e in
          let p : has (new ∷ []) x ≡ true = without_has (new ∷ []) y x r in
          absurd (without_other (new ∷ []) y x r (only x p ∙ sym (only y t)))
    ]
      where
        only : (z : ℕ) → has (new ∷ []) z ≡ true → z ≡ new
        only z t = elim (two (nat_eq new z)) [ inl e ↦ sym (nat_eq_is new z e) | inr f ↦ clash (has (new ∷ []) z) t (ap (λ b. b || false) f) ]

-- a flip that brings in a label above 4,096 leaves too many labels
too_many_labels : (k : ComplexView) (a : List ℕ) (new : ℕ) → IsComplex k → IsFace a → 2 ≤ length a → new ≡ least_unused k.facets → 4096 < new → broken_rule k a (new ∷ []) ≡ Ok tt → is_within (flipped k a (new ∷ [])) ≡ false
too_many_labels k a new h fa many is high t =
    let p : IsGap 1 (used k.facets) (least_unused k.facets) = gap_used k h in
    let l : Legal k a (new ∷ []) = legal k a (new ∷ []) t in
    let m : IsComplex (flipped k a (new ∷ [])) = complex_flipped k a (new ∷ []) h fa (single_face new (omega (arith, high))) t in
    let count : new ≤ length (used (flipped k a (new ∷ [])).facets) = many_used (flipped k a (new ∷ [])) new m (λ x low up. elim (cases_lt x new) [
      | inl below ↦ still_used k a new x l fa many (p.least x (omega (arith, low)) (omega (arith, below, is)))
      | inr here ↦ let same : x ≡ new = omega (arith, here, up) in ap (has (used (flipped k a (new ∷ [])).facets)) same ∙ new_used k a new fa l
    ]) in
    let off : nat_le (length (used (flipped k a (new ∷ [])).facets)) 4096 ≡ false = grind (arith, nat_tests) in
    ap (λ c. nat_le (length (flipped k a (new ∷ [])).facets) 20000 && c) off ∙ and_false (nat_le (length (flipped k a (new ∷ [])).facets) 20000)
  where
    new_used : (k : ComplexView) (a : List ℕ) (new : ℕ) → IsFace a → Legal k a (new ∷ []) → has (used (flipped k a (new ∷ [])).facets) new ≡ true
    new_used k a new fa l =
        let z : (z : ℕ) × (has a z ≡ true) = first_label a l.shape.first in
        let side : List ℕ = union (new ∷ []) (without a z.0) in
        used_label (flipped k a (new ∷ [])).facets side new
        (listed-flipped k a (new ∷ []) side ∙ or_right (listed k.facets side && not (holds side a)) (listed (join_boundary (new ∷ []) a) side) (side_listed (new ∷ []) a z.0 z.1))
        (has-union (new ∷ []) (without a z.0) new ∙ or_left (has (new ∷ []) new) (has (without a z.0) new) (or_left (nat_eq new new) false (nat_eq_same new)))

pub new_label_high : (k : ComplexView) (a : List ℕ) → IsComplex k → 1 ≤ k.dim → IsSubfacet k 0 a → 4096 < least_unused k.facets → after_choice k 0 a ≡ k
new_label_high k a h dim s high =
    let new : ℕ = least_unused k.facets in
    elim (decided (broken_rule k a (new ∷ []))) [
      | inl t ↦ outside_stays k a (new ∷ []) (too_many_labels k a new h s.face (omega (arith, s.size, dim)) refl high t)
      | inr f ↦ illegal_stays k a (new ∷ []) f
    ]

abbrev pub WillMake : ComplexView → ℕ → List ℕ → StarList → Flip → Type 0
WillMake k i a m f = OnPlaces m f × (after_choice k i a ≡ flipped_within k f.a f.b)

pub new_label : (k : ComplexView) (m : StarList) (a : List ℕ) (x : ℕ) → IsStarListOf k m → IsSubfacet k 0 a → x ≡ least_unused k.facets → x ≤ places_in m → WillMake k 0 a m (record { a = a; b = x ∷ [] })
new_label k m a x h s is low = (record { first = first_places k (places_in m) 0 a h.within s; second = (low, tt) }, ap (λ y. flipped_within k a (y ∷ [])) (sym is))

-- ---- an index from 1 on

-- a flip that breaks a rule near A breaks one
verdict_off : (s h l f : Bool) → is_ok (verdict s h l false) ≡ false → is_ok (verdict s h l f) ≡ false
verdict_off true true true f e = clash true refl e
verdict_off true true false f e = refl
verdict_off true false l f e = refl
verdict_off false h l f e = refl

near_off : (k : ComplexView) (rows : List (List ℕ)) (a b : List ℕ) → over rows a ≡ over k.facets a → is_ok (broken_rule_near k.dim rows [] a b) ≡ false → is_ok (broken_rule k a b) ≡ false
near_off k rows a b e off =
    verdict_off (has_shape k.dim a b) (is_held k.facets a) (link_is k.facets a b) (is_held k.facets b)
    (rewritten off)
  where
    rewritten : is_ok (broken_rule_near k.dim rows [] a b) ≡ false → is_ok (verdict (has_shape k.dim a b) (is_held k.facets a) (link_is k.facets a b) false) ≡ false
    rewritten off = ap (λ t. is_ok (verdict (has_shape k.dim a b) t (link_is k.facets a b) false)) (sym (held_alike rows k.facets a e)) ∙ ap (λ (fs : List (List ℕ)). is_ok (verdict (has_shape k.dim a b) (is_held rows a) (same_sets fs (rising face_cmp (join_boundary a b))) false)) (sym e) ∙ off

-- the flip of a star is the flip of the draw
pub flip_of_star : (k : ComplexView) (m : StarList) (i x d : ℕ) (rows : List (List ℕ)) (a : List ℕ) (o : Option Flip) → IsStarListOf k m → 0 < i → IsSubfacet k i a → has a x ≡ true → d ≡ k.dim → rows ≡ star k.facets x → o ≡ flip_at d rows a → MatchOption o (after_choice k i a ≡ k) (WillMake k i a m)
flip_of_star k m zero x d rows a o h low s t dim e is = absurd (omega (arith, low))
flip_of_star k m (suc i) x d rows a o h low s t dim e is =
    let same : over rows a ≡ over k.facets a = ap (λ fs. over fs a) e ∙ over_star k.facets a x t in
    let b : List ℕ = opposite rows a in
    let b_is : b ≡ opposite k.facets a = ap (λ fs. less (used fs) a) same in
    let P : Option Flip → Type 0 = λ p. MatchOption p (after_choice k (suc i) a ≡ k) (WillMake k (suc i) a m) in
    elim (two (is_ok (broken_rule_near d rows [] a b))) [
      | inl ok ↦
          let shape : has_shape d a b ≡ true = shape_of (has_shape d a b) (is_held rows a) (link_is rows a b) ok in
          let size : length b ≡ suc i + 1 = omega (arith, (shaped d a b shape).sizes, s.size, dim, s.index) in
          let Q : List ℕ → Type 0 = λ c. WillMake k (suc i) a m (flip_of a c) in
          let there : length (opposite k.facets a) ≡ suc i + 1 = ap length (sym b_is) ∙ size in
          let counted : nat_eq (length (opposite k.facets a)) (suc i + 1) ≡ true = grind (arith, nat_tests) in
          subst P (sym (is ∙ ap (λ c. cond c (Some (flip_of a b)) None) ok)) (subst Q (sym b_is) (
            record { first = first_places k (places_in m) (suc i) a h.within s; second = opposite_places k (places_in m) a h.within },
            ap (λ c. cond c (flipped_within k a (opposite k.facets a)) k) counted,
          ))
      | inr off ↦
          let D : ℕ → Type 0 = λ n. is_ok (broken_rule_near n rows [] a b) ≡ false in
          let L : List ℕ → Type 0 = λ c. is_ok (broken_rule k a c) ≡ false in
          let bad : is_ok (broken_rule k a (opposite k.facets a)) ≡ false = subst L b_is (near_off k rows a b same (subst D dim off)) in
          subst P (sym (is ∙ ap (λ c. cond c (Some (flip_of a b)) None) off))
          (either_way (nat_eq (length (opposite k.facets a)) (suc i + 1)) (illegal_stays k a (opposite k.facets a) bad))
    ]
  where
    shape_of : (s h l : Bool) → is_ok (verdict s h l false) ≡ true → s ≡ true
    shape_of true h l e = refl
    shape_of false h l e = clash false e refl

    either_way : (c : Bool) → flipped_within k a (opposite k.facets a) ≡ k → cond c (flipped_within k a (opposite k.facets a)) k ≡ k
    either_way true e = e
    either_way false e = refl

-- ---- for the answers

pub no_label : (k : ComplexView) (m : StarList) (i : ℕ) (a : List ℕ) (o : Option Flip) → o ≡ None → i ≡ 0 → places_in m ≡ 4096 → IsStarListOf k m → 1 ≤ k.dim → IsSubfacet k i a → places_in m < least_unused k.facets → MatchOption o (after_choice k i a ≡ k) (WillMake k i a m)
no_label k m zero a o none e places h dim s high = let P : Option Flip → Type 0 = λ p. MatchOption p (after_choice k 0 a ≡ k) (WillMake k 0 a m) in subst P (sym none) (new_label_high k a h.complex dim s (omega (arith, high, places)))
no_label k m (suc i) a o none e places h dim s high = absurd (omega (arith, e))

pub some_label : (k : ComplexView) (m : StarList) (i : ℕ) (a b : List ℕ) (x : ℕ) → b ≡ x ∷ [] → i ≡ 0 → IsStarListOf k m → IsSubfacet k i a → (x ≡ least_unused k.facets) × (x ≤ places_in m) → WillMake k i a m (record { a = a; b = b })
some_label k m zero a b x is e h s p = let P : List ℕ → Type 0 = λ c. WillMake k 0 a m (record { a = a; b = c }) in subst P (sym is) (new_label k m a x h s p.0 p.1)
some_label k m (suc i) a b x is e h s p = absurd (omega (arith, e))

pub positive_label : (k : ComplexView) (m : StarList) (x : ℕ) → IsStarListOf k m → (x ≡ least_unused k.facets) × (x ≤ places_in m) → 0 < x
positive_label k m x h p = let q : IsGap 1 (used k.facets) (least_unused k.facets) = gap_used k h.complex in omega (arith, q.low, p.0)

-- the first label of A
pub first_has : (k : ComplexView) (i : ℕ) (a : List ℕ) → IsSubfacet k i a → 0 < length a
first_has k i a s = omega (arith, s.size, s.index)

pub first_is_low : (a : List ℕ) (x : ℕ) → IsFace a → 0 < length a → x ≡ get_or a 0 0 → 0 < x
first_is_low a x fa some e = label_low a x fa (ap (has a) e ∙ has_place a 0 some)

pub first_is_place : (k : ComplexView) (m : StarList) (i : ℕ) (a : List ℕ) (x : ℕ) → IsStarListOf k m → IsSubfacet k i a → x ≡ get_or a 0 0 → x ≤ places_in m
first_is_place k m i a x h s e = has_bound (places_in m) a x (first_places k (places_in m) i a h.within s) (ap (has a) e ∙ has_place a 0 (first_has k i a s))

pub flip_found_on : (k : ComplexView) (m : StarList) (i x d : ℕ) (s : VertexStar) (rows : List (List ℕ)) (a : List ℕ) (o : Option Flip) → IsStarListOf k m → 0 < i → IsSubfacet k i a → x ≡ get_or a 0 0 → d ≡ m.dim → rows ≡ s.rows → s ≡ record { vertex = x; dim = m.dim; rows = star_at m x } → o ≡ flip_at d rows a → MatchOption o (after_choice k i a ≡ k) (WillMake k i a m)
flip_found_on k m i x d s rows a o h low sub e dim r is found =
    let t : has a x ≡ true = ap (has a) e ∙ has_place a 0 (first_has k i a sub) in
    flip_of_star k m i x d rows a o h low sub t (dim ∙ h.dim) (r ∙ ap (λ (v : VertexStar). v.rows) is ∙ h.stars x (first_is_low a x sub.face (first_has k i a sub) e) (first_is_place k m i a x h sub e)) found

-- ---- what the words choose

pub some_subset : (n : ℕ) (xs : List ℕ) → n ≤ length xs → 0 < length (subsets_of n xs)
some_subset zero xs l = omega arith
some_subset (suc n) [] l = absurd (omega (arith, l))
some_subset (suc n) (x ∷ xs) l = omega (arith, length-append (map (λ s. x ∷ s) (subsets_of n xs)) (subsets_of (suc n) xs), length-map (subsets_of n xs) (λ s. x ∷ s), some_subset n xs (omega (arith, l)))

listed_at : (fs : List (List ℕ)) (i : ℕ) → i < length fs → listed fs (get_or fs i []) ≡ true
listed_at [] i l = absurd (omega (arith, l))
listed_at (f ∷ fs) zero l = or_left (pointwise nat_eq f f) (listed fs f) (same_set_itself f)
listed_at (f ∷ fs) (suc i) l = or_right (pointwise nat_eq f (get_or fs i [])) (listed fs (get_or fs i [])) (listed_at fs i (omega (arith, l)))

pub chosen_listed : (sets : List (List ℕ)) (word : ℕ) → 0 < length sets → listed sets (chosen sets word) ≡ true
chosen_listed sets word some = listed_at sets (word % length sets) (mod_below word (length sets) some)

pub chosen_facet : (k : ComplexView) (word : ℕ) → IsComplex k → IsFacet k.dim (chosen k.facets word)
chosen_facet k word h = pure_at k.dim k.facets (chosen k.facets word) h.pure (chosen_listed k.facets word h.some)

pub chosen_part : (k : ComplexView) (i facet_word word : ℕ) → IsComplex k → i ≤ k.dim → IsSubfacet k i (first_of k i facet_word word)
chosen_part k i facet_word word h low =
    let facet : List ℕ = chosen k.facets facet_word in
    let f : IsFacet k.dim facet = chosen_facet k facet_word h in
    let p : IsSubset facet (k.dim + 1 - i) (first_of k i facet_word word) = subset_is (k.dim + 1 - i) facet (first_of k i facet_word word) f.face (chosen_listed (subsets_of (k.dim + 1 - i) facet) word (some_subset (k.dim + 1 - i) facet (omega (arith, f.size)))) in
    record { index = low; face = p.face; size = p.size; facet = facet; there = chosen_listed k.facets facet_word h.some; inside = p.part }

-- the part that a draw has chosen, and what the draw makes
pub record Drawn (k : ComplexView) (i u0 u1 u2 : ℕ) (first : List ℕ) : Type 0 where
  pub part : IsSubfacet k i first
  pub made : after_choice k i first ≡ after_draw k u0 u1 u2

pub drawn : (k : ComplexView) (d e u0 u1 u2 : ℕ) (facet first : List ℕ) → IsComplex k → d ≡ k.dim → e ≡ k.dim → facet ≡ chosen k.facets u0 → first ≡ chosen (subsets_of (e + 1 - u1 % (d + 1)) facet) u2 → Drawn k (u1 % (d + 1)) u0 u1 u2 first
drawn k d e u0 u1 u2 facet first h dim dim2 f is =
    let P : ℕ → Type 0 = λ n. Drawn k (u1 % (n + 1)) u0 u1 u2 first in
    let a : List ℕ = first_of k (u1 % (k.dim + 1)) u0 u2 in
    let same : first ≡ a = is ∙ (λ j. chosen (subsets_of (dim2 j + 1 - u1 % (dim j + 1)) (f j)) u2) in
    let Q : List ℕ → Type 0 = λ g. Drawn k (u1 % (k.dim + 1)) u0 u1 u2 g in
    subst P (sym dim) (subst Q (sym same) (record {
      part = chosen_part k (u1 % (k.dim + 1)) u0 u2 h (let l : u1 % (k.dim + 1) < k.dim + 1 = mod_below u1 (k.dim + 1) (omega arith) in omega (arith, l));
      made = refl;
    }))

pub drawn_on : {E : Type 0} (k l : ComplexView) (i u0 u1 u2 : ℕ) (first : List ℕ) (f : Flip) (r : Result (Unit {0}) E) → Drawn k i u0 u1 u2 first → after_choice k i first ≡ flipped_within k f.a f.b → OnOk r (l ≡ flipped_within k f.a f.b) → OnOk r (l ≡ after_draw k u0 u1 u2)
drawn_on k l i u0 u1 u2 first f (Err e) d p made = tt
drawn_on k l i u0 u1 u2 first f (Ok u) d p made = made ∙ sym p ∙ d.made
