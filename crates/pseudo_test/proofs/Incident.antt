-- The rising list of the incidences, and the run of a ridge in it.
use Rattle.std.proofs.Common.{◌≡◌, ℕ, ◌+◌, ◌-◌, ◌<◌, zero, suc, Bool, true, false, not, nat_eq, cond, ◌||◌, ◌&&◌, List, [], ◌∷◌, ◌++◌, length, map, filter, take, drop, get_or, sym, ◌∙◌, ap, refl, subst, arith, inl, inr}
use Rattle.std.specs.List.{AllByRecursion, list_any, flat_map, dedup}
use Rattle.std.specs.List.Sorted.{IsStrictlySortedBy, IsPermutation, IsSorted, IsPartitionedBy, IsPartitionPoint}
use Rattle.std.specs.Ordering.{nat_cmp, ordering_then, is_lt, is_le, is_eq}
use Rattle.std.specs.Cmp.{IsTotalOrder, both_tied, unsigned_tied, then_total, on_total, first_so, second_so}
use Rattle.std.specs.Cmp.Derive.{both_true}
use Rattle.std.specs.Cmp.Lexicographic.{pointwise, nat_list_cmp_total, texts_ties}
use Rattle.std.specs.declared.cmp.Ordering.{Ordering}
use Rattle.std.specs.declared.cmp.Ordering.TheVariants.{Less, Equal, Greater}
use Rattle.std.proofs.lemmas.Bool.{cases_lt, false_from_ne_true}
use Rattle.std.proofs.lemmas.Cmp.{nat_cmp_total, tied_itself}
use Rattle.std.proofs.lemmas.List.{length-drop}
use Rattle.std.proofs.Math.Seq.{take-length}
use Rattle.std.proofs.lemmas.List.Kept.{IsStrictlySortedBy-filter}
use Rattle.std.proofs.lemmas.Map.Keys.{Less-from_sorted}
use Rattle.complex_core.specs.Labels.{has, holds, with, without, face_cmp}
use Rattle.complex_core.specs.Rising.{rising}
use Rattle.complex_core.specs.Complexes.{ComplexView, IsComplex, over, is_facet}
use Rattle.complex_core.proofs.Sets.{above_head, above_tail, above_cons, sorted_none, Above, sorted_rising, sorted_drop, any-rising, each_rising}
use Rattle.complex_core.proofs.SortAny.{sorted_any}
use Rattle.complex_core.proofs.Faces.{equal_cmp, less_cmp, cmp_less, cmp_equal, put_before, put_after}
use Rattle.complex_core.proofs.Sorting.{exact_faces}
use Rattle.complex_core.proofs.Laws.{both_ways, holds_has, nat_eq_same, same_sets_is, same_set_itself, listed-filter, same_lists, same_labels, sorted_without, or_left, or_right, some_has, some_listed, found, length-without}
use Rattle.pseudo_test.specs.Ridges.{IsRidge}
use Rattle.pseudo_test.specs.Incidences.{incidence_cmp, incidences_of, incidences, facet_of, run_of}
use Rattle.pseudo_test.proofs.Subsets.{holds_without, holds_less, lacking}
use Rattle.complex_core.proofs.SubsetLists.{two, clash, fewer}
use Rattle.complex_core.proofs.Renaming.{list_any-map}
use Rattle.complex_core.proofs.Members.{without_gone, with_back}
use Rattle.complex_core.proofs.SetLists.{pure_at}

-- ---- the order of incidences

pub incidence_total : IsTotalOrder incidence_cmp
incidence_total = then_total (on_total (λ (s : List ℕ × ℕ). s.0) nat_list_cmp_total) (on_total (λ (s : List ℕ × ℕ). s.1) nat_cmp_total)

pub incidence_exact : (s t : List ℕ × ℕ) → incidence_cmp s t ≡ Equal → s ≡ t
incidence_exact s t e =
    elim (face_cmp s.0 t.0) as (λ r. face_cmp s.0 t.0 ≡ r → ordering_then r (nat_cmp s.1 t.1) ≡ Equal → s ≡ t) [
      | Less ↦ λ _ g. let t : Less ≡ Equal = g in cc
      | Equal ↦ λ f g. let a : s.0 ≡ t.0 = exact_faces s.0 t.0 f in let b : s.1 ≡ t.1 = equal_cmp s.1 t.1 g in λ i. (a i, b i)
      | Greater ↦ λ _ g. let t : Greater ≡ Equal = g in cc
    ] refl e

pub sorted_incidences : (xs ys : List (List ℕ × ℕ)) → IsPermutation xs ys → IsSorted incidence_cmp ys → dedup (λ s t. pointwise nat_eq s.0 t.0 && nat_eq s.1 t.1) ys ≡ rising incidence_cmp xs
sorted_incidences = sorted_any incidence_total incidence_exact (λ s t. both_tied (pointwise nat_eq s.0 t.0) (nat_eq s.1 t.1) (face_cmp s.0 t.0) (nat_cmp s.1 t.1) (texts_ties s.0 t.0) (sym (unsigned_tied s.1 t.1)))

pub rising_incidences : (xs ys : List (List ℕ × ℕ)) → ys ≡ rising incidence_cmp xs → IsStrictlySortedBy incidence_cmp ys
rising_incidences xs ys e = let P : List (List ℕ × ℕ) → Type 0 = λ zs. IsStrictlySortedBy incidence_cmp zs in subst P (sym e) (sorted_rising incidence_total xs)

-- ---- where a run lies

module _ {X : Type 0} (p : X → Bool) where
  pub parted_take : (xs : List X) (n : ℕ) → IsPartitionPoint (λ x. p x ≡ true) (λ x. p x ≡ false) xs n → take n xs ≡ filter p xs
  parted_take [] zero h = refl
  parted_take [] (suc n) h = refl
  parted_take (x ∷ xs) zero h = parted_take xs zero (λ k d low high. absurd (omega (arith, high)), λ k d low high. h.1 (suc k) d (omega arith) (omega arith)) ∙ sym (ap (λ b. cond b (x ∷ filter p xs) (filter p xs)) (h.1 0 x (omega arith) (omega arith)))
  parted_take (x ∷ xs) (suc n) h =
      ap (λ ys. x ∷ ys) (parted_take xs n (λ k d low high. h.0 (suc k) d (omega arith) (omega arith), λ k d low high. h.1 (suc k) d (omega arith) (omega arith)))
      ∙ sym (ap (λ b. cond b (x ∷ filter p xs) (filter p xs)) (h.0 0 x (omega arith) (omega arith)))

  pub parted_drop : (xs : List X) (n : ℕ) → IsPartitionPoint (λ x. p x ≡ true) (λ x. p x ≡ false) xs n → drop n xs ≡ filter (λ x. not (p x)) xs
  parted_drop [] zero h = refl
  parted_drop [] (suc n) h = refl
  parted_drop (x ∷ xs) zero h =
      ap (λ ys. x ∷ ys) (parted_drop xs zero (λ k d low high. absurd (omega (arith, high)), λ k d low high. h.1 (suc k) d (omega arith) (omega arith)))
      ∙ sym (ap (λ b. cond (not b) (x ∷ filter (λ x. not (p x)) xs) (filter (λ x. not (p x)) xs)) (h.1 0 x (omega arith) (omega arith)))
  parted_drop (x ∷ xs) (suc n) h =
      parted_drop xs n (λ k d low high. h.0 (suc k) d (omega arith) (omega arith), λ k d low high. h.1 (suc k) d (omega arith) (omega arith))
      ∙ sym (ap (λ b. cond (not b) (x ∷ filter (λ x. not (p x)) xs) (filter (λ x. not (p x)) xs)) (h.0 0 x (omega arith) (omega arith)))

pub filter_both : {X : Type 0} (p q s : X → Bool) → ((x : X) → (q x && p x) ≡ s x) → (xs : List X) → filter p (filter q xs) ≡ filter s xs
filter_both p q s h [] = refl
filter_both p q s h (x ∷ xs) =
    elim (q x) as (λ b. (b && p x) ≡ s x → filter p (cond b (x ∷ filter q xs) (filter q xs)) ≡ cond (s x) (x ∷ filter s xs) (filter s xs)) [
      | true ↦ λ e. (λ i. cond (e i) (x ∷ filter_both p q s h xs i) (filter_both p q s h xs i))
      | false ↦ λ e. filter_both p q s h xs ∙ ap (λ b. cond b (x ∷ filter s xs) (filter s xs)) e
    ] (h x)

abbrev pub before : List ℕ → List ℕ × ℕ → Bool
before r s = is_lt (face_cmp s.0 r)

abbrev pub up_to : List ℕ → List ℕ × ℕ → Bool
up_to r s = is_le (face_cmp s.0 r)

-- what isn't before the ridge, and is up to it, has that ridge
at_ridge : (r : List ℕ) (s : List ℕ × ℕ) → (not (before r s) && up_to r s) ≡ pointwise nat_eq s.0 r
at_ridge r s = at (face_cmp s.0 r) ∙ sym (texts_ties s.0 r)
  where
    at : (o : Ordering) → (not (is_lt o) && is_le o) ≡ is_eq o
    at Less = refl
    at Equal = refl
    at Greater = refl

-- ridges don't fall along incidences
pub not_above : (s t : List ℕ × ℕ) → incidence_cmp s t ≡ Less → is_le (face_cmp s.0 t.0) ≡ true
not_above s t l =
    elim (face_cmp s.0 t.0) as (λ r. ordering_then r (nat_cmp s.1 t.1) ≡ Less → is_le r ≡ true) [
      | Less ↦ λ _. refl
      | Equal ↦ λ _. refl
      | Greater ↦ λ g. let t : Greater ≡ Less = g in cc
    ] l

keeps_before : (a b r : List ℕ) → is_le (face_cmp a b) ≡ true → is_lt (face_cmp b r) ≡ true → is_lt (face_cmp a r) ≡ true
keeps_before a b r p q =
    elim (face_cmp a b) as (λ o. face_cmp a b ≡ o → is_le o ≡ true → is_lt (face_cmp a r) ≡ true) [
      | Less ↦ λ e _. ap is_lt (nat_list_cmp_total.trans a b r e (is_less (face_cmp b r) q))
      | Equal ↦ λ e _. ap is_lt (nat_list_cmp_total.congr a b r e) ∙ q
      | Greater ↦ λ _ g. clash true refl (sym g)
    ] refl p
  where
    is_less : (o : Ordering) → is_lt o ≡ true → o ≡ Less
    is_less Less h = refl
    is_less Equal h = clash true refl (sym h)
    is_less Greater h = clash true refl (sym h)

keeps_up_to : (a b r : List ℕ) → is_le (face_cmp a b) ≡ true → is_le (face_cmp b r) ≡ true → is_le (face_cmp a r) ≡ true
keeps_up_to a b r p q =
    elim (face_cmp b r) as (λ o. face_cmp b r ≡ o → is_le o ≡ true → is_le (face_cmp a r) ≡ true) [
      | Less ↦ λ e _. weaker (face_cmp a r) (keeps_before a b r p (ap is_lt e))
      | Equal ↦ λ e _. ap is_le (sym (ap (face_cmp a) (exact_faces b r e))) ∙ p
      | Greater ↦ λ _ g. clash true refl (sym g)
    ] refl q
  where
    weaker : (o : Ordering) → is_lt o ≡ true → is_le o ≡ true
    weaker Less h = refl
    weaker Equal h = refl
    weaker Greater h = clash true refl (sym h)

parted : (p : List ℕ × ℕ → Bool) → ((s t : List ℕ × ℕ) → incidence_cmp s t ≡ Less → p t ≡ true → p s ≡ true) → (xs : List (List ℕ × ℕ)) → IsStrictlySortedBy incidence_cmp xs → IsPartitionedBy p xs
parted p h xs rising = λ i j d le lt t. elim (cases_lt i j) [
  | inl below ↦ h (get_or xs i d) (get_or xs j d) (Less-from_sorted incidence_cmp xs i j d rising below lt) t
  | inr not_below ↦ let e : j ≡ i = omega arith in let P : ℕ → Type 0 = λ k. p (get_or xs k d) ≡ true in subst P e t
]

pub parted_before : (r : List ℕ) (xs : List (List ℕ × ℕ)) → IsStrictlySortedBy incidence_cmp xs → IsPartitionedBy (before r) xs
parted_before r = parted (before r) (λ s t l q. keeps_before s.0 t.0 r (not_above s t l) q)

pub parted_up_to : (r : List ℕ) (xs : List (List ℕ × ℕ)) → IsStrictlySortedBy incidence_cmp xs → IsPartitionedBy (up_to r) xs
parted_up_to r = parted (up_to r) (λ s t l q. keeps_up_to s.0 t.0 r (not_above s t l) q)

-- behind the first cut, and before the second
pub run_between : (r : List ℕ) (xs rest : List (List ℕ × ℕ)) (a b : ℕ) → IsPartitionPoint (λ s. before r s ≡ true) (λ s. before r s ≡ false) xs a → rest ≡ drop a xs → IsPartitionPoint (λ s. up_to r s ≡ true) (λ s. up_to r s ≡ false) rest b → take b rest ≡ run_of xs r
run_between r xs rest a b p e q = parted_take (up_to r) rest b q ∙ ap (filter (up_to r)) (e ∙ parted_drop (before r) xs a p) ∙ filter_both (up_to r) (λ s. not (before r s)) (λ s. pointwise nat_eq s.0 r) (at_ridge r) xs

pub tail_rest : {X : Type 0} (xs : List X) (n : ℕ) → take (length xs - n) (drop n xs) ≡ drop n xs
tail_rest xs n = ap (λ m. take m (drop n xs)) (sym (length-drop n xs)) ∙ take-length (drop n xs)

pub rest_rises : (xs : List (List ℕ × ℕ)) (n : ℕ) → IsStrictlySortedBy incidence_cmp xs → IsStrictlySortedBy incidence_cmp (take (length xs - n) (drop n xs))
rest_rises xs n s = let P : List (List ℕ × ℕ) → Type 0 = λ zs. IsStrictlySortedBy incidence_cmp zs in subst P (sym (tail_rest xs n)) (sorted_drop incidence_cmp n xs s)

-- ---- the facets over a ridge

-- incidences of one ridge are in the order of their labels
pub labels_less : (s t : List ℕ × ℕ) (r : List ℕ) → s.0 ≡ r → t.0 ≡ r → incidence_cmp s t ≡ Less → nat_cmp s.1 t.1 ≡ Less
labels_less s t r p q l = sym (ap (λ o. ordering_then o (nat_cmp s.1 t.1)) ((λ i. face_cmp (p i) (q i)) ∙ tied_itself nat_list_cmp_total r)) ∙ l

-- sets with one label more rise with that label
put_less : (r : List ℕ) (x y : ℕ) → IsStrictlySortedBy nat_cmp r → x < y → has r x ≡ false → has r y ≡ false → face_cmp (with r x) (with r y) ≡ Less
put_less [] x y s l p q = ap (λ o. ordering_then o Equal) (cmp_less x y l)
put_less (z ∷ zs) x y s l p q =
    elim (nat_cmp x z) as (λ o. nat_cmp x z ≡ o → face_cmp (with (z ∷ zs) x) (with (z ∷ zs) y) ≡ Less) [
      | Less ↦ λ e. elim (nat_cmp y z) as (λ o. nat_cmp y z ≡ o → face_cmp (with (z ∷ zs) x) (with (z ∷ zs) y) ≡ Less) [
        | Less ↦ λ g. (λ i. face_cmp (put_before x z zs (less_cmp x z e) i) (put_before y z zs (less_cmp y z g) i)) ∙ ap (λ o. ordering_then o (face_cmp (z ∷ zs) (z ∷ zs))) (cmp_less x y l)
        | Equal ↦ λ g. absurd (other y q (equal_cmp y z g))
        | Greater ↦ λ g. (λ i. face_cmp (put_before x z zs (less_cmp x z e) i) (put_after y z zs (above y z g) i)) ∙ ap (λ o. ordering_then o (face_cmp (z ∷ zs) (with zs y))) e
      ] refl
      | Equal ↦ λ e. absurd (other x p (equal_cmp x z e))
      | Greater ↦ λ e.
          let a : z < x = above x z e in
          (λ i. face_cmp (put_after x z zs a i) (put_after y z zs (omega (arith, a, l)) i))
          ∙ ap (λ o. ordering_then o (face_cmp (with zs x) (with zs y))) (cmp_equal z z refl)
          ∙ put_less zs x y (above_tail nat_cmp z zs s) l (rest x p) (rest y q)
    ] refl
  where
    other : (v : ℕ) → has (z ∷ zs) v ≡ false → v ≡ z → ⊥
    other v h e = clash {P = ⊥} (has (z ∷ zs) v) (or_left (nat_eq z v) (has zs v) (ap (nat_eq z) e ∙ nat_eq_same z)) h

    rest : (v : ℕ) → has (z ∷ zs) v ≡ false → has zs v ≡ false
    rest v h = false_from_ne_true (has zs v) (λ t. clash {P = ⊥} (has (z ∷ zs) v) (or_right (nat_eq z v) (has zs v) t) h)

    above : (v w : ℕ) → nat_cmp v w ≡ Greater → w < v
    above v w g = search (arith, g)

-- ---- what a test finds

any_append : {X : Type 0} (p : X → Bool) (xs ys : List X) → list_any p (xs ++ ys) ≡ (list_any p xs || list_any p ys)
any_append p [] ys = refl
any_append p (x ∷ xs) ys = ap (λ b. p x || b) (any_append p xs ys) ∙ assoc (p x) (list_any p xs) (list_any p ys)
  where
    assoc : (a b c : Bool) → (a || (b || c)) ≡ ((a || b) || c)
    assoc true b c = refl
    assoc false b c = refl

any_flat : {X Y : Type 0} (p : Y → Bool) (h : X → List Y) (xs : List X) → list_any p (flat_map h xs) ≡ list_any (λ x. list_any p (h x)) xs
any_flat p h [] = refl
any_flat p h (x ∷ xs) = any_append p (h x) (flat_map h xs) ∙ ap (λ b. list_any p (h x) || b) (any_flat p h xs)

any_filter : {X : Type 0} (p q : X → Bool) (xs : List X) → list_any p (filter q xs) ≡ list_any (λ x. q x && p x) xs
any_filter p q [] = refl
any_filter p q (x ∷ xs) =
    elim (q x) as (λ b. list_any p (cond b (x ∷ filter q xs) (filter q xs)) ≡ ((b && p x) || list_any (λ x. q x && p x) xs)) [
      | true ↦ ap (λ b. p x || b) (any_filter p q xs)
      | false ↦ any_filter p q xs
    ]

any_same : {X : Type 0} (p q : X → Bool) → ((x : X) → p x ≡ q x) → (xs : List X) → list_any p xs ≡ list_any q xs
any_same p q h [] = refl
any_same p q h (x ∷ xs) = λ i. h x i || any_same p q h xs i

pub found_set : (q : List ℕ → Bool) (fs : List (List ℕ)) → list_any q fs ≡ true → (f : List ℕ) × (is_facet fs f ≡ true) × (q f ≡ true)
found_set q [] t = clash true refl (sym t)
found_set q (f ∷ fs) t = elim (two (q f)) [
  | inl e ↦ (f, or_left (pointwise nat_eq f f) (is_facet fs f) (same_set_itself f), e)
  | inr e ↦ let p : (f : List ℕ) × (is_facet fs f ≡ true) × (q f ≡ true) = found_set q fs (sym (ap (λ c. c || list_any q fs) e) ∙ t) in (p.0, or_right (pointwise nat_eq f p.0) (is_facet fs p.0) p.1, p.2)
]

-- a test of the incidences, as one of the facets and their labels
pub any_incidences : (p : List ℕ × ℕ → Bool) (fs : List (List ℕ)) → list_any p (incidences fs) ≡ list_any (λ f. list_any (λ x. p (without f x, x)) f) fs
any_incidences p fs = any-rising incidence_cmp incidence_exact p (flat_map incidences_of fs) ∙ any_flat p incidences_of fs ∙ any_same (λ f. list_any p (incidences_of f)) (λ f. list_any (λ x. p (without f x, x)) f) (λ f. list_any-map p (λ x. (without f x, x)) f) fs

-- ---- complexes

-- a part of the same size is the whole
pub whole : (r s : List ℕ) → IsStrictlySortedBy nat_cmp r → IsStrictlySortedBy nat_cmp s → holds s r ≡ true → length r ≡ length s → r ≡ s
whole r s p q h n = same_labels r s p q (λ z. both_ways (has r z) (has s z) (holds_has s r z h) (λ t. elim (two (has r z)) [
  | inl u ↦ u
  | inr u ↦ absurd (omega (arith, fewer r (without s z) p (sorted_without s z q) (holds_less s r z h u), length-without s z q t, n))
]))

-- an incidence of this ridge and of this facet
abbrev makes : List ℕ → List ℕ → List ℕ × ℕ → Bool
makes r g s = pointwise nat_eq s.0 r && pointwise nat_eq (facet_of s) g

module _ (k : ComplexView) (c : IsComplex k) where
  pub set : (f : List ℕ) → is_facet k.facets f ≡ true → IsStrictlySortedBy nat_cmp f
  set f t = above_tail nat_cmp 0 f (pure_at k.dim k.facets f c.pure t).face.rising

  pub size : (f : List ℕ) → is_facet k.facets f ≡ true → length f ≡ k.dim + 1
  size f t = (pure_at k.dim k.facets f c.pure t).size

  pub ridge_set : (r : List ℕ) → IsRidge k.facets r → IsStrictlySortedBy nat_cmp r
  ridge_set r g = let P : List ℕ → Type 0 = λ m. IsStrictlySortedBy nat_cmp m in subst P (sym g.is) (sorted_without g.facet g.label (set g.facet g.there))

  pub ridge_size : (r : List ℕ) → IsRidge k.facets r → length r ≡ k.dim
  ridge_size r g = omega (arith, ap length g.is, length-without g.facet g.label (set g.facet g.there) g.used, size g.facet g.there)

  -- a facet over a ridge is the ridge and one label
  pub dropped : (r f : List ℕ) → IsRidge k.facets r → is_facet k.facets f ≡ true → holds f r ≡ true → (x : ℕ) × (has f x ≡ true) × (r ≡ without f x)
  dropped r f g t h =
      let o : holds r f ≡ false = false_from_ne_true (holds r f) (λ q. absurd (omega (arith, fewer f r (set f t) (ridge_set r g) q, size f t, ridge_size r g))) in
      let x : (x : ℕ) × (has f x ≡ true) × (has r x ≡ false) = lacking r f o in
      (x.0, x.1, whole r (without f x.0) (ridge_set r g) (sorted_without f x.0 (set f t)) (holds_less f r x.0 h x.2) (omega (arith, ridge_size r g, size f t, length-without f x.0 (set f t) x.1)))

  -- the facets that a run makes are those over the ridge
  pub run_has : (r g : List ℕ) → IsRidge k.facets r → is_facet (map facet_of (run_of (incidences k.facets) r)) g ≡ (is_facet k.facets g && holds g r)
  run_has r g i =
      list_any-map (λ f. pointwise nat_eq f g) facet_of (run_of (incidences k.facets) r)
      ∙ any_filter (λ s. pointwise nat_eq (facet_of s) g) (λ s. pointwise nat_eq s.0 r) (incidences k.facets)
      ∙ any_incidences (makes r g) k.facets
      ∙ both_ways (list_any (λ f. list_any (λ x. makes r g (without f x, x)) f) k.facets) (is_facet k.facets g && holds g r) there back
    where
      there : list_any (λ f. list_any (λ x. makes r g (without f x, x)) f) k.facets ≡ true → (is_facet k.facets g && holds g r) ≡ true
      there t =
          let f : (f : List ℕ) × (is_facet k.facets f ≡ true) × (list_any (λ x. makes r g (without f x, x)) f ≡ true) = found_set (λ f. list_any (λ x. makes r g (without f x, x)) f) k.facets t in
          let x : (x : ℕ) × (has f.0 x ≡ true) × (makes r g (without f.0 x, x) ≡ true) = found (λ x. makes r g (without f.0 x, x)) f.0 f.2 in
          let a : without f.0 x.0 ≡ r = same_sets_is (without f.0 x.0) r (first_so (pointwise nat_eq (without f.0 x.0) r) (pointwise nat_eq (with (without f.0 x.0) x.0) g) x.2) in
          let b : f.0 ≡ g = sym (with_back f.0 x.0 (set f.0 f.1) x.1) ∙ same_sets_is (with (without f.0 x.0) x.0) g (second_so (pointwise nat_eq (without f.0 x.0) r) (pointwise nat_eq (with (without f.0 x.0) x.0) g) x.2) in
          both_true (ap (is_facet k.facets) (sym b) ∙ f.1) ((λ i. holds (sym b i) (sym a i)) ∙ holds_without f.0 x.0)

      back : (is_facet k.facets g && holds g r) ≡ true → list_any (λ f. list_any (λ x. makes r g (without f x, x)) f) k.facets ≡ true
      back t =
          let u : is_facet k.facets g ≡ true = first_so (is_facet k.facets g) (holds g r) t in
          let x : (x : ℕ) × (has g x ≡ true) × (r ≡ without g x) = dropped r g i u (second_so (is_facet k.facets g) (holds g r) t) in
          some_listed (λ f. list_any (λ x. makes r g (without f x, x)) f) k.facets g u (some_has (λ x. makes r g (without g x, x)) g x.0 x.1
          (both_true (ap (λ m. pointwise nat_eq m r) (sym x.2) ∙ same_set_itself r) (ap (λ m. pointwise nat_eq m g) (with_back g x.0 (set g u) x.1) ∙ same_set_itself g)))

  -- each incidence lacks its label
  pub lacks : AllByRecursion (λ s. has s.0 s.1 ≡ false) (incidences k.facets)
  lacks = each_rising incidence_cmp (λ s. has s.0 s.1 ≡ false) (flat_map incidences_of k.facets) (all k.facets)
    where
      of_facet : (f xs : List ℕ) → AllByRecursion (λ (s : List ℕ × ℕ). has s.0 s.1 ≡ false) (map (λ x. (without f x, x)) xs)
      of_facet f [] = tt
      of_facet f (x ∷ xs) = (without_gone f x, of_facet f xs)

      joined : (us vs : List (List ℕ × ℕ)) → AllByRecursion (λ s. has s.0 s.1 ≡ false) us → AllByRecursion (λ s. has s.0 s.1 ≡ false) vs → AllByRecursion (λ s. has s.0 s.1 ≡ false) (us ++ vs)
      joined [] vs p q = q
      joined (u ∷ us) vs p q = (p.0, joined us vs p.1 q)

      all : (fs : List (List ℕ)) → AllByRecursion (λ s. has s.0 s.1 ≡ false) (flat_map incidences_of fs)
      all [] = tt
      all (f ∷ fs) = joined (incidences_of f) (flat_map incidences_of fs) (of_facet f f) (all fs)

  -- the run of a ridge makes the facets over it, in their order
  pub run_is : (r : List ℕ) → IsRidge k.facets r → map facet_of (run_of (incidences k.facets) r) ≡ over k.facets r
  run_is r i = same_lists (map facet_of (run_of (incidences k.facets) r)) (over k.facets r) (facets_rise (run_of (incidences k.facets) r) (run_one (incidences k.facets) lacks) (IsStrictlySortedBy-filter incidence_cmp (λ s. pointwise nat_eq s.0 r) (incidences k.facets) (sorted_rising incidence_total (flat_map incidences_of k.facets))))
      (IsStrictlySortedBy-filter face_cmp (λ f. holds f r) k.facets c.rising)
      (λ g. run_has r g i ∙ sym (listed-filter (λ f. holds f r) k.facets g))
    where
      run_one : (ss : List (List ℕ × ℕ)) → AllByRecursion (λ s. has s.0 s.1 ≡ false) ss → AllByRecursion (λ s. (s.0 ≡ r) × (has r s.1 ≡ false)) (filter (λ s. pointwise nat_eq s.0 r) ss)
      run_one [] h = tt
      run_one (s ∷ ss) h =
          elim (pointwise nat_eq s.0 r) as (λ b. pointwise nat_eq s.0 r ≡ b → AllByRecursion (λ s. (s.0 ≡ r) × (has r s.1 ≡ false)) (cond b (s ∷ filter (λ s. pointwise nat_eq s.0 r) ss) (filter (λ s. pointwise nat_eq s.0 r) ss))) [
            | true ↦ λ e. ((same_sets_is s.0 r e, ap (λ m. has m s.1) (sym (same_sets_is s.0 r e)) ∙ h.0), run_one ss h.1)
            | false ↦ λ _. run_one ss h.1
          ] refl

      facet_less : (s t : List ℕ × ℕ) → (s.0 ≡ r) × (has r s.1 ≡ false) → (t.0 ≡ r) × (has r t.1 ≡ false) → incidence_cmp s t ≡ Less → face_cmp (facet_of s) (facet_of t) ≡ Less
      facet_less s t p q l = (λ j. face_cmp (with (p.0 j) s.1) (with (q.0 j) t.1)) ∙ put_less r s.1 t.1 (ridge_set r i) (less_cmp s.1 t.1 (labels_less s t r p.0 q.0 l)) p.1 q.1

      facets_above : (s : List ℕ × ℕ) (ss : List (List ℕ × ℕ)) → (s.0 ≡ r) × (has r s.1 ≡ false) → AllByRecursion (λ s. (s.0 ≡ r) × (has r s.1 ≡ false)) ss → Above incidence_cmp s ss → Above face_cmp (facet_of s) (map facet_of ss)
      facets_above s [] p h a = tt
      facets_above s (t ∷ ss) p h a = (facet_less s t p h.0 a.0, facets_above s ss p h.1 a.1)

      facets_rise : (ss : List (List ℕ × ℕ)) → AllByRecursion (λ s. (s.0 ≡ r) × (has r s.1 ≡ false)) ss → IsStrictlySortedBy incidence_cmp ss → IsStrictlySortedBy face_cmp (map facet_of ss)
      facets_rise [] h s = sorted_none face_cmp
      facets_rise (t ∷ ss) h s = above_cons face_cmp (facet_of t) (map facet_of ss) (facets_above t ss h.0 h.1 (above_head incidence_cmp t ss s)) (facets_rise ss h.1 (above_tail incidence_cmp t ss s))
