-- Rows of a complex: what they tell, and what a flip makes of them.
use Rattle.std.proofs.Common.{◌≡◌, ℕ, ◌+◌, ◌<◌, zero, suc, get_or, Bool, true, false, not, cond, ◌||◌, ◌&&◌, nat_eq, nat_le, ◌-◌, slice_get, option_copied, Option, Some, Bor, Result, Ok, Err, IfOk, inl, inr, List, [], ◌∷◌, length, map, filter, sym, ◌∙◌, ap, refl, subst, arith}
use Rattle.std.specs.List.{list_any, AllByRecursion}
use Rattle.std.specs.List.Sorted.{IsStrictlySortedBy}
use Rattle.std.specs.BTreeSet.{BTreeSet, contains}
use Rattle.std.specs.BTreeMap.Range.{range_contains}
use Rattle.std.specs.Ordering.{nat_cmp, ordering_then, is_eq, is_le}
use Rattle.std.specs.declared.cmp.Ordering.{Ordering}
use Rattle.std.specs.declared.cmp.Ordering.TheVariants.{Less, Equal, Greater}
use Rattle.std.specs.Cmp.{first_so, second_so}
use Rattle.std.specs.Cmp.Lexicographic.{pointwise, nat_list_cmp_total, nat_list_eq_equiv}
use Rattle.std.proofs.lemmas.Bool.Decides.{nat_tests}
use Rattle.std.proofs.lemmas.Map.Keys.{any_passes_from_place}
use Rattle.std.proofs.lemmas.List.Kept.{IsStrictlySortedBy-filter}
use Rattle.complex_core.specs.Labels.{has, holds, face_cmp, IsFace}
use Rattle.complex_core.specs.Rising.{rising}
use Rattle.complex_core.specs.Complexes.{ComplexView, IsComplex, IsFacet, over, is_facet, is_held}
use Rattle.complex_core.specs.ComplexFaults.{FacetsRefused, first_size}
use Rattle.complex_core.specs.declared.complex.ComplexFault.{ComplexFault}
use Rattle.complex_core.specs.declared.complex.ComplexFault.TheVariants.{Empty, Limit, Mixed, Memory}
use Rattle.complex_core.proofs.Sets.{Above, above_head, above_tail, above_cons, sorted_none, sorted_rising}
use Rattle.complex_core.proofs.Faces.{cmp_equal}
use Rattle.complex_core.proofs.Laws.{both_ways, nat_eq_is, nat_eq_same, nat_eq_swap, or_left, or_right, listed-filter, listed-rising, same_lists, same_sets_is, same_set_itself, holds_has}
use Rattle.flip_rules.specs.Flips.{join_boundary, has_shape, link_is, broken_rule, broken_rule_near, flipped}
use Rattle.flip_rules.proofs.Legal.{verdict}
use Rattle.flip_rules.proofs.Near.{broken_rule_seen}
use Rattle.flip_rules.proofs.Links.{listed-flipped}
use Rattle.flip_rules.proofs.Replays.{complex_flipped}
use Rattle.cert_replay.specs.Rows.{Row, row_cmp, AreRowsOf, facets_in, facets_at, Puts, Takes}
use Rattle.std.specs.declared.ops.Bound.TheVariants.{Included, Excluded}
use Rattle.cert_replay.proofs.RowOrder.{same_row}
use Rattle.complex_core.proofs.Booleans.{and_false}
use Rattle.complex_core.proofs.SetLists.{over_twice, some_before_rising}

-- ---- the rows of a label

le_then_tied : (r : Ordering) → is_le (ordering_then r Equal) ≡ is_le r
le_then_tied Less = refl
le_then_tied Equal = refl
le_then_tied Greater = refl

le_then_less : (r : Ordering) → is_le (ordering_then r Less) ≡ is_le r
le_then_less Less = refl
le_then_less Equal = refl
le_then_less Greater = refl

le_test : (x y : ℕ) → is_le (nat_cmp x y) ≡ nat_le x y
le_test x y = grind (arith, nat_tests)

from_label : (x y : ℕ) (f : List ℕ) → is_le (row_cmp (x, []) (y, f)) ≡ nat_le x y
from_label x y [] = le_then_tied (nat_cmp x y) ∙ le_test x y
from_label x y (z ∷ zs) = le_then_less (nat_cmp x y) ∙ le_test x y

one_label : (x y : ℕ) → (nat_le x y && not (nat_le (x + 1) y)) ≡ nat_eq y x
one_label x y = grind (arith, nat_tests)

at_label : (x : ℕ) (r : Row) → range_contains row_cmp (Included (x, [])) (Excluded (x + 1, [])) r ≡ nat_eq r.0 x
at_label x r = (λ i. from_label x r.0 r.1 i && not (from_label (x + 1) r.0 r.1 i)) ∙ one_label x r.0

abbrev inside : ℕ → Row → Bool
inside x = range_contains row_cmp (Included (x, [])) (Excluded (x + 1, []))

-- ---- order

next_facet : (x : ℕ) (r s : Row) → row_cmp r s ≡ Less → r.0 ≡ x → s.0 ≡ x → face_cmp r.1 s.1 ≡ Less
next_facet x r s l e f = sym (ap (λ o. ordering_then o (face_cmp r.1 s.1)) (cmp_equal r.0 s.0 (e ∙ sym f))) ∙ l

abbrev AllAt : ℕ → List Row → Type 0
AllAt x rs = AllByRecursion (λ (r : Row). r.0 ≡ x) rs

above_seconds : (x : ℕ) (r : Row) (rs : List Row) → r.0 ≡ x → AllAt x rs → Above row_cmp r rs → Above face_cmp r.1 (map (λ (s : Row). s.1) rs)
above_seconds x r [] e a h = tt
above_seconds x r (s ∷ ss) e a h = (next_facet x r s h.0 e a.0, above_seconds x r ss e a.1 h.1)

seconds_rise : (x : ℕ) (rs : List Row) → AllAt x rs → IsStrictlySortedBy row_cmp rs → IsStrictlySortedBy face_cmp (map (λ (s : Row). s.1) rs)
seconds_rise x [] a s = sorted_none face_cmp
seconds_rise x (r ∷ rs) a s = above_cons face_cmp r.1 (map (λ (t : Row). t.1) rs) (above_seconds x r rs a.0 a.1 (above_head row_cmp r rs s)) (seconds_rise x rs a.1 (above_tail row_cmp r rs s))

all_at : (x : ℕ) (rs : List Row) → AllAt x (filter (inside x) rs)
all_at x [] = tt
all_at x (r ∷ rs) = by_case (inside x r) refl (all_at x rs)
  where
    by_case : (b : Bool) → inside x r ≡ b → AllAt x (filter (inside x) rs) → AllAt x (cond b (r ∷ filter (inside x) rs) (filter (inside x) rs))
    by_case true e h = (nat_eq_is r.0 x (sym (at_label x r) ∙ e), h)
    by_case false e h = h

pub facets_at_rise : (x : ℕ) (rows : BTreeSet Row) → IsStrictlySortedBy row_cmp rows.keys → IsStrictlySortedBy face_cmp (facets_at x rows)
facets_at_rise x rows s = seconds_rise x (filter (inside x) rows.keys) (all_at x rows.keys) (IsStrictlySortedBy-filter row_cmp (inside x) rows.keys s)

-- ---- members

swap_sets : (f g : List ℕ) → pointwise nat_eq f g ≡ pointwise nat_eq g f
swap_sets f g = nat_list_eq_equiv.symm f g

-- a row of the label is a row with its facet
row_test : (x : ℕ) (f : List ℕ) (r : Row) → is_eq (row_cmp (x, f) r) ≡ (inside x r && pointwise nat_eq r.1 f)
row_test x f r = same_row x r.0 f r.1 ∙ (λ i. (nat_eq_swap x r.0 ∙ sym (at_label x r)) i && swap_sets f r.1 i)

listed_at : (x : ℕ) (f : List ℕ) (rs : List Row) → is_facet (map (λ (s : Row). s.1) (filter (inside x) rs)) f ≡ list_any (λ r. is_eq (row_cmp (x, f) r)) rs
listed_at x f [] = refl
listed_at x f (r ∷ rs) = by_case (inside x r) refl (listed_at x f rs)
  where
    by_case : (b : Bool) → inside x r ≡ b → is_facet (map (λ (s : Row). s.1) (filter (inside x) rs)) f ≡ list_any (λ q. is_eq (row_cmp (x, f) q)) rs → is_facet (map (λ (s : Row). s.1) (cond b (r ∷ filter (inside x) rs) (filter (inside x) rs))) f ≡ (is_eq (row_cmp (x, f) r) || list_any (λ q. is_eq (row_cmp (x, f) q)) rs)
    by_case true e h =
        let t : is_eq (row_cmp (x, f) r) ≡ pointwise nat_eq r.1 f = row_test x f r ∙ ap (λ b. b && pointwise nat_eq r.1 f) e in
        λ i. sym t i || h i
    by_case false e h =
        let t : is_eq (row_cmp (x, f) r) ≡ false = row_test x f r ∙ ap (λ b. b && pointwise nat_eq r.1 f) e in
        h ∙ ap (λ b. b || list_any (λ q. is_eq (row_cmp (x, f) q)) rs) (sym t)

both_pass : (l h o : Bool) → (o ≡ true → h ≡ true) → ((l && h) && o) ≡ (l && o)
both_pass false h o p = refl
both_pass true true o p = refl
both_pass true false false p = refl
both_pass true false true p = p refl

-- the facets over a set stand in the rows of each of its labels
pub over_at : (fs : List (List ℕ)) (rows : BTreeSet Row) (x : ℕ) (set : List ℕ) → AreRowsOf fs rows → IsStrictlySortedBy face_cmp fs → IsStrictlySortedBy row_cmp rows.keys → has set x ≡ true → over (facets_at x rows) set ≡ over fs set
over_at fs rows x set are s o t =
    same_lists (over (facets_at x rows) set) (over fs set)
    (IsStrictlySortedBy-filter face_cmp (λ f. holds f set) (facets_at x rows) (facets_at_rise x rows o))
    (IsStrictlySortedBy-filter face_cmp (λ f. holds f set) fs s)
    (λ f. listed-filter (λ g. holds g set) (facets_at x rows) f
    ∙ ap (λ b. b && holds f set) (listed_at x f rows.keys ∙ are.each x f)
    ∙ both_pass (is_facet fs f) (has f x) (holds f set) (λ h. holds_has f set x h t)
    ∙ sym (listed-filter (λ g. holds g set) fs f))

pub over_rises : (fs : List (List ℕ)) (set : List ℕ) → IsStrictlySortedBy face_cmp fs → IsStrictlySortedBy face_cmp (over fs set)
over_rises fs set s = IsStrictlySortedBy-filter face_cmp (λ f. holds f set) fs s

-- ---- the facets that rows have

-- a facet of some row has a row
row_found : (f : List ℕ) (rs : List Row) → is_facet (map (λ (s : Row). s.1) rs) f ≡ true → (x : ℕ) × (list_any (λ r. is_eq (row_cmp (x, f) r)) rs ≡ true)
row_found f [] h = let e : false ≡ true = h in cc
row_found f (r ∷ rs) h = by_case (pointwise nat_eq r.1 f) refl (λ t. row_found f rs t) h
  where
    by_case : (b : Bool) → pointwise nat_eq r.1 f ≡ b → (is_facet (map (λ (s : Row). s.1) rs) f ≡ true → (x : ℕ) × (list_any (λ q. is_eq (row_cmp (x, f) q)) rs ≡ true)) → (b || is_facet (map (λ (s : Row). s.1) rs) f) ≡ true → (x : ℕ) × ((is_eq (row_cmp (x, f) r) || list_any (λ q. is_eq (row_cmp (x, f) q)) rs) ≡ true)
    by_case true e rest _ = (r.0, or_left _ _ (same_row r.0 r.0 f r.1 ∙ (λ i. nat_eq_same r.0 i && (swap_sets f r.1 ∙ e) i)))
    by_case false e rest g = let w : (x : ℕ) × (list_any (λ q. is_eq (row_cmp (x, f) q)) rs ≡ true) = rest g in (w.0, or_right _ _ w.1)

-- and the facet of a row is there
facet_found : (x : ℕ) (f : List ℕ) (rs : List Row) → list_any (λ r. is_eq (row_cmp (x, f) r)) rs ≡ true → is_facet (map (λ (s : Row). s.1) rs) f ≡ true
facet_found x f [] h = h
facet_found x f (r ∷ rs) h = by_case (is_eq (row_cmp (x, f) r)) refl (λ t. facet_found x f rs t) h
  where
    by_case : (b : Bool) → is_eq (row_cmp (x, f) r) ≡ b → (list_any (λ q. is_eq (row_cmp (x, f) q)) rs ≡ true → is_facet (map (λ (s : Row). s.1) rs) f ≡ true) → (b || list_any (λ q. is_eq (row_cmp (x, f) q)) rs) ≡ true → (pointwise nat_eq r.1 f || is_facet (map (λ (s : Row). s.1) rs) f) ≡ true
    by_case true e rest _ = or_left _ _ (swap_sets r.1 f ∙ second_so (nat_eq x r.0) (pointwise nat_eq f r.1) (sym (same_row x r.0 f r.1) ∙ e))
    by_case false e rest g = or_right _ _ (rest g)

-- what is true of each set of a list is true of one that is listed
pub one_listed : (P : List ℕ → Type 0) (fs : List (List ℕ)) (f : List ℕ) → AllByRecursion P fs → is_facet fs f ≡ true → P f
one_listed P [] f a h = let e : false ≡ true = h in cc
one_listed P (g ∷ gs) f a h = by_case (pointwise nat_eq g f) refl (λ t. one_listed P gs f a.1 t) h
  where
    by_case : (b : Bool) → pointwise nat_eq g f ≡ b → (is_facet gs f ≡ true → P f) → (b || is_facet gs f) ≡ true → P f
    by_case true e rest _ = subst P (same_sets_is g f e) a.0
    by_case false e rest t = rest t

pub all_listed : (P : List ℕ → Type 0) (fs : List (List ℕ)) → ((f : List ℕ) → is_facet fs f ≡ true → P f) → AllByRecursion P fs
all_listed P [] h = tt
all_listed P (g ∷ gs) h = (h g (or_left _ _ (same_set_itself g)), all_listed P gs (λ f t. h f (or_right _ _ t)))

some_label : (d : ℕ) (f : List ℕ) → IsFacet d f → (x : ℕ) × (has f x ≡ true)
some_label d [] h = absurd (omega (arith, h.size))
some_label d (x ∷ xs) h = (x, or_left _ _ (nat_eq_same x))

-- rows of a complex tell its facets
pub facets_told : (k : ComplexView) (rows : BTreeSet Row) → IsComplex k → AreRowsOf k.facets rows → facets_in rows ≡ k.facets
facets_told k rows h are =
    same_lists (facets_in rows) k.facets (sorted_rising nat_list_cmp_total (map (λ (r : Row). r.1) rows.keys)) h.rising (λ f.
    listed-rising (map (λ (r : Row). r.1) rows.keys) f
    ∙ both_ways (is_facet (map (λ (r : Row). r.1) rows.keys) f) (is_facet k.facets f)
    (λ t. let w : (x : ℕ) × (contains row_cmp rows (x, f) ≡ true) = row_found f rows.keys t in first_so (is_facet k.facets f) (has f w.0) (sym (are.each w.0 f) ∙ w.1))
    (λ t. let w : (x : ℕ) × (has f x ≡ true) = some_label k.dim f (one_listed (IsFacet k.dim) k.facets f h.pure t) in facet_found w.0 f rows.keys (are.each w.0 f ∙ (λ i. t i && w.1 i))))

abbrev pub seen : ℕ → BTreeSet Row → ComplexView
seen d rows = record { dim = d; facets = facets_in rows }

pub seen_is : (k : ComplexView) (d : ℕ) (rows : BTreeSet Row) → d ≡ k.dim → IsComplex k → AreRowsOf k.facets rows → seen d rows ≡ k
seen_is k d rows e h are = λ i. record { dim = e i; facets = facets_told k rows h are i }

pub seen_keeps : (k : ComplexView) (d : ℕ) (rows : BTreeSet Row) → d ≡ k.dim → IsComplex k → AreRowsOf k.facets rows → AreRowsOf (facets_in rows) rows × IsComplex (seen d rows)
seen_keeps k d rows e h are =
    let P : List (List ℕ) → Type 0 = λ fs. AreRowsOf fs rows in
    let Q : ComplexView → Type 0 = λ l. IsComplex l in
    (subst P (sym (facets_told k rows h are)) are, subst Q (sym (seen_is k d rows e h are)) h)

-- ---- the rows of a complex are built

pub rows_built : (fs shown : List (List ℕ)) (old new : BTreeSet Row) → shown ≡ fs → old.keys ≡ [] → Puts shown old new → AreRowsOf fs new
rows_built fs shown old new p e h = record {
  each = λ x f.
      h.each x f ∙ ap (λ (ks : List Row). list_any (λ r. is_eq (row_cmp (x, f) r)) ks || (is_facet shown f && has f x)) e
      ∙ ap (λ (gs : List (List ℕ)). is_facet gs f && has f x) p;
}

-- ---- a flip

flip_table : (l h a s : Bool) → (((l && h) && not ((l && a) && h)) || (s && h)) ≡ (((l && not a) || s) && h)
flip_table true true true s = and_end s
  where
    and_end : (s : Bool) → (s && true) ≡ ((false || s) && true)
    and_end true = refl
    and_end false = refl
flip_table true true false s = refl
flip_table true false a s = by_false s a
  where
    by_false : (s a : Bool) → (s && false) ≡ ((not a || s) && false)
    by_false true true = refl
    by_false true false = refl
    by_false false true = refl
    by_false false false = refl
flip_table false h a s = refl

pub rows_flipped : (k : ComplexView) (a b : List ℕ) (out : List (List ℕ)) (rows mid new : BTreeSet Row) → AreRowsOf k.facets rows → out ≡ over k.facets a → Takes out rows mid → Puts (join_boundary b a) mid new → AreRowsOf (flipped k a b).facets new
rows_flipped k a b out rows mid new are e takes puts = record {
  each = λ x f.
      puts.each x f
      ∙ ap (λ t. t || (is_facet (join_boundary b a) f && has f x)) (takes.each x f ∙ (λ i. are.each x f i && not (is_facet (e i) f && has f x)) ∙ ap (λ t. (is_facet k.facets f && has f x) && not (t && has f x)) (listed-filter (λ g. holds g a) k.facets f))
      ∙ flip_table (is_facet k.facets f) (has f x) (holds f a) (is_facet (join_boundary b a) f)
      ∙ ap (λ t. t && has f x) (sym (listed-flipped k a b f));
}

-- rows of the complex after a flip
pub record FlipKept (k : ComplexView) (d : ℕ) (a b : List ℕ) (new : BTreeSet Row) : Type 0 where
  pub keeps : AreRowsOf (facets_in new) new × IsComplex (seen d new)
  pub is : seen d new ≡ flipped k a b

-- ---- what a program has of them

-- a label of a set tells the facets over it
pub over_told : (k : ComplexView) (d : ℕ) (rows : BTreeSet Row) (x : ℕ) (set : List ℕ) → seen d rows ≡ k → AreRowsOf (facets_in rows) rows → IsStrictlySortedBy row_cmp rows.keys → has set x ≡ true → over (facets_at x rows) set ≡ over k.facets set
over_told k d rows x set e are o t = over_at (facets_in rows) rows x set are (sorted_rising nat_list_cmp_total (map (λ (r : Row). r.1) rows.keys)) o t ∙ ap (λ (l : ComplexView). over l.facets set) e

pub last_has : (set shown : List ℕ) (i x : ℕ) (r : Option (Bor ℕ)) → shown ≡ set → option_copied r ≡ slice_get shown i → option_copied r ≡ Some x → has set x ≡ true
last_has set shown i x r e p q = let h : slice_get set i ≡ Some x = ap (λ (xs : List ℕ). slice_get xs i) (sym e) ∙ sym p ∙ q in any_passes_from_place (λ y. nat_eq y x) set i x h (nat_eq_same x)

pub if_ok_along : {T E : Type 0} (items : T → List (List ℕ)) (p q : List (List ℕ)) (r : Result T E) → p ≡ q → IfOk r (λ v. items v ≡ p) → IfOk r (λ v. items v ≡ q)
if_ok_along items p q (Ok v) e h = h ∙ e
if_ok_along items p q (Err x) e h = h

pub if_ok_rises : {T E : Type 0} (items : T → List (List ℕ)) (p : List (List ℕ)) (r : Result T E) → IsStrictlySortedBy face_cmp p → IfOk r (λ v. items v ≡ p) → IfOk r (λ v. IsStrictlySortedBy face_cmp (items v))
if_ok_rises items p (Ok v) s h = let P : List (List ℕ) → Type 0 = λ fs. IsStrictlySortedBy face_cmp fs in subst P (sym h) s
if_ok_rises items p (Err x) s h = h

-- the facets over A and over B tell the first rule that a flip breaks
pub broken_rule_told : (k : ComplexView) (d : ℕ) (near_a near_b : List (List ℕ)) (a b : List ℕ) → d ≡ k.dim → (0 < length a → near_a ≡ over k.facets a) → (0 < length b → near_b ≡ over k.facets b) → broken_rule_near d near_a near_b a b ≡ broken_rule k a b
broken_rule_told k d near_a near_b [] b e p q = refl
broken_rule_told k d near_a near_b (x ∷ xs) [] e p q =
    let n : has_shape d (x ∷ xs) [] ≡ false = and_false (not (nat_eq (length (x ∷ xs)) 0)) in
    let m : has_shape k.dim (x ∷ xs) [] ≡ false = and_false (not (nat_eq (length (x ∷ xs)) 0)) in
    ap (λ t. verdict t (is_held near_a (x ∷ xs)) (link_is near_a (x ∷ xs) []) (is_held near_b [])) n
    ∙ sym (ap (λ t. verdict t (is_held k.facets (x ∷ xs)) (link_is k.facets (x ∷ xs) []) (is_held k.facets [])) m)
broken_rule_told k d near_a near_b (x ∷ xs) (y ∷ ys) e p q =
    broken_rule_seen k d near_a near_b (x ∷ xs) (y ∷ ys) (record {
      dim = sym e;
      first = ap (λ fs. over fs (x ∷ xs)) (p (omega arith)) ∙ over_twice k.facets (x ∷ xs);
      second = ap (λ fs. over fs (y ∷ ys)) (q (omega arith)) ∙ over_twice k.facets (y ∷ ys);
    })

-- ---- the complex of the rows

-- each set of a list is a set of its rising list
pub each_before_rising : (P : List ℕ → Type 0) (fs : List (List ℕ)) → AllByRecursion P (rising face_cmp fs) → AllByRecursion P fs
each_before_rising P fs a = all_listed P fs (λ f t. one_listed P (rising face_cmp fs) f a (listed-rising fs f ∙ t))

first_facet : (d : ℕ) (fs : List (List ℕ)) → 0 < length fs → AllByRecursion (IsFacet d) fs → first_size fs ≡ d + 1
first_facet d [] h a = absurd (omega (arith, h))
first_facet d (f ∷ fs) h a = a.0.size

-- the complex that is made of the facets of all rows
pub complex_told : (self made : ComplexView) (d : ℕ) (rows : BTreeSet Row) (items shown : List (List ℕ)) → seen d rows ≡ self → IsComplex (seen d rows) → items ≡ map (λ (r : Row). r.1) rows.keys → shown ≡ items → made.facets ≡ rising face_cmp shown → made.dim ≡ first_size shown - 1 → made ≡ self
complex_told self made d rows items shown e h p q fs dim =
    let all : shown ≡ map (λ (r : Row). r.1) rows.keys = q ∙ p in
    let size : first_size (map (λ (r : Row). r.1) rows.keys) ≡ d + 1 = first_facet d (map (λ (r : Row). r.1) rows.keys) (some_before_rising (map (λ (r : Row). r.1) rows.keys) h.some) (each_before_rising (IsFacet d) (map (λ (r : Row). r.1) rows.keys) h.pure) in
    let first : first_size shown ≡ d + 1 = ap first_size all ∙ size in
    let m : made.dim ≡ d = omega (arith, dim, first) in
    let n : made.facets ≡ facets_in rows = fs ∙ ap (rising face_cmp) all in
    (λ i. record { dim = m i; facets = n i }) ∙ e

other_size : (d position : ℕ) (fs : List (List ℕ)) → AllByRecursion (IsFacet d) fs → position < length fs → length (get_or fs position []) ≡ d + 1
other_size d position [] a h = absurd (omega (arith, h))
other_size d zero (f ∷ fs) a h = a.0.size
other_size d (suc position) (f ∷ fs) a h = other_size d position fs a.1 (omega arith)

-- which can't be refused but for want of memory
pub never_refused : (d : ℕ) (rows : BTreeSet Row) (items shown : List (List ℕ)) (e : ComplexFault) → IsComplex (seen d rows) → items ≡ map (λ (r : Row). r.1) rows.keys → shown ≡ items → FacetsRefused shown e → e ≡ Memory
never_refused d rows items shown e h p q r =
    let all : shown ≡ map (λ (r : Row). r.1) rows.keys = q ∙ p in
    let P : List (List ℕ) → Type 0 = λ fs. FacetsRefused fs e in
    by_fault e (map (λ (r : Row). r.1) rows.keys) (some_before_rising (map (λ (r : Row). r.1) rows.keys) h.some) (each_before_rising (IsFacet d) (map (λ (r : Row). r.1) rows.keys) h.pure) (subst P all r)
  where
    by_fault : (e : ComplexFault) (fs : List (List ℕ)) → 0 < length fs → AllByRecursion (IsFacet d) fs → FacetsRefused fs e → e ≡ Memory
    by_fault Empty fs n a r = let z : length fs ≡ 0 = ap length r in absurd (omega (arith, n, z))
    by_fault (Limit m) fs n a r = let z : first_size fs ≡ d + 1 = first_facet d fs n a in elim r.2 [ inl t ↦ absurd (omega (arith, r.1, z, t)) | inr t ↦ absurd (omega (arith, h.low, r.1, z, t)) ]
    by_fault (Mixed position) fs n a r = absurd (r.1.there (other_size d position fs a r.1.inside ∙ sym (first_facet d fs n a)))
    by_fault Memory fs n a r = refl

-- ---- the complex after a flip

pub flip_keeps : (k : ComplexView) (d : ℕ) (a b : List ℕ) (out shown : List (List ℕ)) (rows mid new : BTreeSet Row) → seen d rows ≡ k → AreRowsOf (facets_in rows) rows → IsComplex (seen d rows) → IsFace a → IsFace b → broken_rule k a b ≡ Ok tt → out ≡ over k.facets a → shown ≡ out → Takes shown rows mid → Puts (join_boundary b a) mid new → FlipKept k d a b new
flip_keeps k d a b out shown rows mid new e are h fa fb w p q takes puts =
    let P : ComplexView → Type 0 = λ l. AreRowsOf l.facets rows in
    let Q : ComplexView → Type 0 = λ l. IsComplex l in
    let dim : d ≡ k.dim = ap (λ (l : ComplexView). l.dim) e in
    let c : IsComplex (flipped k a b) = complex_flipped k a b (subst Q e h) fa fb w in
    let r : AreRowsOf (flipped k a b).facets new = rows_flipped k a b shown rows mid new (subst P e are) (q ∙ p) takes puts in
    record { keeps = seen_keeps (flipped k a b) d new dim c r; is = seen_is (flipped k a b) d new dim c r }
