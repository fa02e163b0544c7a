-- The rising list of the flags, the run of a face in it, and the faces of all flags.
use Rattle.std.proofs.Common.{◌≡◌, ℕ, ◌-◌, ◌<◌, ◌≤◌, Bool, true, false, not, nat_eq, cond, ◌||◌, ◌&&◌, ◌⊎◌, List, [], ◌∷◌, length, map, filter, take, drop, get_or, sym, ◌∙◌, ap, refl, subst, arith, inl, inr}
use Rattle.std.specs.List.{AllByRecursion, list_any, flat_map, dedup}
use Rattle.std.specs.List.Sorted.{IsStrictlySortedBy, IsPermutation, IsSorted, IsPartitionedBy, IsPartitionPoint}
use Rattle.std.specs.Ordering.{ordering_then, is_lt, is_le, is_eq}
use Rattle.std.specs.Cmp.{IsTotalOrder, both_tied, then_total, on_total, first_so, second_so}
use Rattle.std.specs.Cmp.Derive.{both_true}
use Rattle.std.specs.Cmp.Lexicographic.{pointwise, nat_list_cmp_total, texts_ties}
use Rattle.std.specs.declared.cmp.Ordering.{Ordering}
use Rattle.std.specs.declared.cmp.Ordering.TheVariants.{Less, Equal, Greater}
use Rattle.std.proofs.lemmas.Bool.{cases_lt}
use Rattle.std.proofs.lemmas.Cmp.{tied_itself}
use Rattle.std.proofs.lemmas.List.Folds.{list_any-append}
use Rattle.std.proofs.lemmas.List.Kept.{IsStrictlySortedBy-filter}
use Rattle.std.proofs.lemmas.Map.Keys.{Less-from_sorted}
use Rattle.complex_core.specs.Labels.{holds, face_cmp}
use Rattle.complex_core.specs.Rising.{rising}
use Rattle.complex_core.specs.Complexes.{ComplexView, IsComplex, over, is_held}
use Rattle.complex_core.specs.Subsets.{IsSubset, subsets_of}
use Rattle.complex_core.proofs.Sets.{Above, above_head, above_tail, above_cons, sorted_none, sorted_rising, sorted_drop, any-rising}
use Rattle.complex_core.proofs.SortAny.{sorted_any}
use Rattle.complex_core.proofs.Sorting.{exact_faces}
use Rattle.complex_core.proofs.Renaming.{list_any-map}
use Rattle.complex_core.proofs.Laws.{both_ways, listed, listed-filter, listed-rising, same_lists, same_sets_is, same_set_itself, some_listed}
use Rattle.complex_core.proofs.SubsetLists.{clash, subset_is, subset_from}
use Rattle.complex_core.proofs.SetLists.{found_set, pure_at}
use Rattle.face_counts.proofs.Sizes.{any_both}
use Rattle.pseudo_test.proofs.Incident.{parted_take, parted_drop, filter_both, tail_rest}
use Rattle.link_check.specs.Flags.{flag_cmp, flags_of, flags, flags_at}
use Rattle.link_check.specs.BadLinks.{HasLink}

-- ---- the order of flags

pub flag_total : IsTotalOrder flag_cmp
flag_total = then_total (on_total (λ (s : List ℕ × List ℕ). s.0) nat_list_cmp_total) (on_total (λ (s : List ℕ × List ℕ). s.1) nat_list_cmp_total)

flag_exact : (s t : List ℕ × List ℕ) → flag_cmp s t ≡ Equal → s ≡ t
flag_exact s t e =
    elim (face_cmp s.0 t.0) as (λ r. face_cmp s.0 t.0 ≡ r → ordering_then r (face_cmp s.1 t.1) ≡ Equal → s ≡ t) [
      | Less ↦ λ _ g. let t : Less ≡ Equal = g in cc
      | Equal ↦ λ f g. let a : s.0 ≡ t.0 = exact_faces s.0 t.0 f in let b : s.1 ≡ t.1 = exact_faces s.1 t.1 g in λ i. (a i, b i)
      | Greater ↦ λ _ g. let t : Greater ≡ Equal = g in cc
    ] refl e

pub sorted_flags : (xs ys : List (List ℕ × List ℕ)) → IsPermutation xs ys → IsSorted flag_cmp ys → dedup (λ s t. pointwise nat_eq s.0 t.0 && pointwise nat_eq s.1 t.1) ys ≡ rising flag_cmp xs
sorted_flags = sorted_any flag_total flag_exact (λ s t. both_tied (pointwise nat_eq s.0 t.0) (pointwise nat_eq s.1 t.1) (face_cmp s.0 t.0) (face_cmp s.1 t.1) (texts_ties s.0 t.0) (texts_ties s.1 t.1))

pub rising_flags : (xs ys : List (List ℕ × List ℕ)) → ys ≡ rising flag_cmp xs → IsStrictlySortedBy flag_cmp ys
rising_flags xs ys e = let P : List (List ℕ × List ℕ) → Type 0 = λ zs. IsStrictlySortedBy flag_cmp zs in subst P (sym e) (sorted_rising flag_total xs)

-- ---- where a run lies

abbrev pub before : List ℕ → List ℕ × List ℕ → Bool
before r s = is_lt (face_cmp s.0 r)

abbrev pub up_to : List ℕ → List ℕ × List ℕ → Bool
up_to r s = is_le (face_cmp s.0 r)

-- what isn't before the face, and is up to it, has that face
at_face : (r : List ℕ) (s : List ℕ × List ℕ) → (not (before r s) && up_to r s) ≡ pointwise nat_eq s.0 r
at_face r s = at (face_cmp s.0 r) ∙ sym (texts_ties s.0 r)
  where
    at : (o : Ordering) → (not (is_lt o) && is_le o) ≡ is_eq o
    at Less = refl
    at Equal = refl
    at Greater = refl

-- faces don't fall along flags
first_less : (s t : List ℕ × List ℕ) → flag_cmp s t ≡ Less → (face_cmp s.0 t.0 ≡ Less) ⊎ (s.0 ≡ t.0)
first_less s t l =
    elim (face_cmp s.0 t.0) as (λ r. face_cmp s.0 t.0 ≡ r → ordering_then r (face_cmp s.1 t.1) ≡ Less → (face_cmp s.0 t.0 ≡ Less) ⊎ (s.0 ≡ t.0)) [
      | Less ↦ λ e _. inl e
      | Equal ↦ λ e _. inr (exact_faces s.0 t.0 e)
      | Greater ↦ λ _ g. let t : Greater ≡ Less = g in cc
    ] refl l

keeps_before : (r : List ℕ) (s t : List ℕ × List ℕ) → flag_cmp s t ≡ Less → before r t ≡ true → before r s ≡ true
keeps_before r s t l q = elim (first_less s t l) [
  | inl a ↦ ap is_lt (nat_list_cmp_total.trans s.0 t.0 r a (is_less (face_cmp t.0 r) q))
  | inr e ↦ ap (λ m. is_lt (face_cmp m r)) e ∙ q
]
  where
    is_less : (o : Ordering) → is_lt o ≡ true → o ≡ Less
    is_less Less h = refl
    is_less Equal h = clash true refl (sym h)
    is_less Greater h = clash true refl (sym h)

keeps_up_to : (r : List ℕ) (s t : List ℕ × List ℕ) → flag_cmp s t ≡ Less → up_to r t ≡ true → up_to r s ≡ true
keeps_up_to r s t l q = elim (first_less s t l) [
  | inl a ↦
      elim (face_cmp t.0 r) as (λ o. face_cmp t.0 r ≡ o → is_le o ≡ true → is_le (face_cmp s.0 r) ≡ true) [
        | Less ↦ λ e _. ap is_le (nat_list_cmp_total.trans s.0 t.0 r a e)
        | Equal ↦ λ e _. ap is_le (sym (ap (face_cmp s.0) (exact_faces t.0 r e)) ∙ a)
        | Greater ↦ λ _ g. clash true refl (sym g)
      ] refl q
  | inr e ↦ ap (λ m. is_le (face_cmp m r)) e ∙ q
]

parted : (p : List ℕ × List ℕ → Bool) → ((s t : List ℕ × List ℕ) → flag_cmp s t ≡ Less → p t ≡ true → p s ≡ true) → (xs : List (List ℕ × List ℕ)) → IsStrictlySortedBy flag_cmp xs → IsPartitionedBy p xs
parted p h xs rising = λ i j d le lt t. elim (cases_lt i j) [
  | inl below ↦ h (get_or xs i d) (get_or xs j d) (Less-from_sorted flag_cmp xs i j d rising below lt) t
  | inr not_below ↦ let e : j ≡ i = omega arith in let P : ℕ → Type 0 = λ k. p (get_or xs k d) ≡ true in subst P e t
]

pub parted_before : (r : List ℕ) (xs : List (List ℕ × List ℕ)) → IsStrictlySortedBy flag_cmp xs → IsPartitionedBy (before r) xs
parted_before r = parted (before r) (keeps_before r)

pub parted_up_to : (r : List ℕ) (xs : List (List ℕ × List ℕ)) → IsStrictlySortedBy flag_cmp xs → IsPartitionedBy (up_to r) xs
parted_up_to r = parted (up_to r) (keeps_up_to r)

-- behind the first cut, and before the second
pub run_between : (r : List ℕ) (xs rest : List (List ℕ × List ℕ)) (a b : ℕ) → IsPartitionPoint (λ s. before r s ≡ true) (λ s. before r s ≡ false) xs a → rest ≡ drop a xs → IsPartitionPoint (λ s. up_to r s ≡ true) (λ s. up_to r s ≡ false) rest b → take b rest ≡ flags_at xs r
run_between r xs rest a b p e q = parted_take (up_to r) rest b q ∙ ap (filter (up_to r)) (e ∙ parted_drop (before r) xs a p) ∙ filter_both (up_to r) (λ s. not (before r s)) (λ s. pointwise nat_eq s.0 r) (at_face r) xs

pub rest_rises : (xs : List (List ℕ × List ℕ)) (n : ℕ) → IsStrictlySortedBy flag_cmp xs → IsStrictlySortedBy flag_cmp (take (length xs - n) (drop n xs))
rest_rises xs n s = let P : List (List ℕ × List ℕ) → Type 0 = λ zs. IsStrictlySortedBy flag_cmp zs in subst P (sym (tail_rest xs n)) (sorted_drop flag_cmp n xs s)

-- ---- what a test finds

any_filter : {X : Type 0} (p q : X → Bool) (xs : List X) → list_any p (filter q xs) ≡ list_any (λ x. q x && p x) xs
any_filter p q [] = refl
any_filter p q (x ∷ xs) =
    elim (q x) as (λ b. list_any p (cond b (x ∷ filter q xs) (filter q xs)) ≡ ((b && p x) || list_any (λ x. q x && p x) xs)) [
      | true ↦ ap (λ b. p x || b) (any_filter p q xs)
      | false ↦ any_filter p q xs
    ]

-- a test of the flags, as one of the facets and their faces
any_flags : (p : List ℕ × List ℕ → Bool) (n : ℕ) (fs : List (List ℕ)) → list_any p (flags n fs) ≡ list_any (λ f. list_any (λ s. p (s, f)) (subsets_of n f)) fs
any_flags p n fs = any-rising flag_cmp flag_exact p (flat_map (flags_of n) fs) ∙ flat fs
  where
    flat : (fs : List (List ℕ)) → list_any p (flat_map (flags_of n) fs) ≡ list_any (λ f. list_any (λ s. p (s, f)) (subsets_of n f)) fs
    flat [] = refl
    flat (f ∷ fs) = list_any-append p (flags_of n f) (flat_map (flags_of n) fs) ∙ (λ i. list_any-map p (λ s. (s, f)) (subsets_of n f) i || flat fs i)

-- ---- the faces of the flags

module _ (k : ComplexView) (c : IsComplex k) where
  subset_of : (n : ℕ) (s f : List ℕ) → listed k.facets f ≡ true → listed (subsets_of n f) s ≡ true → IsSubset f n s
  subset_of n s f t u = subset_is n f s (pure_at k.dim k.facets f c.pure t).face u

  listed_of : (s f : List ℕ) → HasLink k s → listed k.facets f ≡ true → holds f s ≡ true → listed (subsets_of (length s) f) s ≡ true
  listed_of s f h t u = subset_from (length s) f s (pure_at k.dim k.facets f c.pure t).face (record { face = h.labels; part = u; size = refl })

  listed_faces : (n : ℕ) (s : List ℕ) → listed (rising face_cmp (map (λ p. p.0) (flags n k.facets))) s ≡ list_any (λ f. listed (subsets_of n f) s) k.facets
  listed_faces n s = listed-rising (map (λ p. p.0) (flags n k.facets)) s ∙ list_any-map (λ t. pointwise nat_eq t s) (λ (p : List ℕ × List ℕ). p.0) (flags n k.facets) ∙ any_flags (λ p. pointwise nat_eq p.0 s) n k.facets

  -- each face has a link, and the size
  pub face_has : (n : ℕ) (s : List ℕ) → 0 < n → n ≤ k.dim → listed (rising face_cmp (map (λ p. p.0) (flags n k.facets))) s ≡ true → HasLink k s × (length s ≡ n)
  face_has n s low high t =
      let f : (f : List ℕ) × (listed k.facets f ≡ true) × (listed (subsets_of n f) s ≡ true) = found_set (λ f. listed (subsets_of n f) s) k.facets (sym (listed_faces n s) ∙ t) in
      let p : IsSubset f.0 n s = subset_of n s f.0 f.1 f.2 in (
        record {
          labels = p.face;
          face = both_true (some_label s (omega (arith, low, p.size))) (some_listed (λ g. holds g s) k.facets f.0 f.1 p.part);
          proper = omega (arith, p.size, high);
        },
        p.size,
      )
    where
      some_label : (s : List ℕ) → 0 < length s → not (nat_eq (length s) 0) ≡ true
      some_label s l = search (arith, l)

  -- and each face that has one is there
  pub face_there : (s : List ℕ) → HasLink k s → listed (rising face_cmp (map (λ p. p.0) (flags (length s) k.facets))) s ≡ true
  face_there s h =
      let f : (f : List ℕ) × (listed k.facets f ≡ true) × (holds f s ≡ true) = found_set (λ f. holds f s) k.facets (second_so (not (nat_eq (length s) 0)) (is_held k.facets s) h.face) in
      listed_faces (length s) s ∙ some_listed (λ f. listed (subsets_of (length s) f) s) k.facets f.0 f.1 (listed_of s f.0 h f.1 f.2)

  -- ---- the facets of a run

  -- a flag of this face and of this facet
  run_has : (s g : List ℕ) → HasLink k s → listed (map (λ p. p.1) (flags_at (flags (length s) k.facets) s)) g ≡ (listed k.facets g && holds g s)
  run_has s g h =
      list_any-map (λ f. pointwise nat_eq f g) (λ (p : List ℕ × List ℕ). p.1) (flags_at (flags (length s) k.facets) s)
      ∙ any_filter (λ p. pointwise nat_eq p.1 g) (λ p. pointwise nat_eq p.0 s) (flags (length s) k.facets)
      ∙ any_flags (λ p. pointwise nat_eq p.0 s && pointwise nat_eq p.1 g) (length s) k.facets
      ∙ both_ways (list_any has_both k.facets) (listed k.facets g && holds g s) there back
    where
      has_both : List ℕ → Bool
      has_both = λ f. list_any (λ t. pointwise nat_eq t s && pointwise nat_eq f g) (subsets_of (length s) f)

      apart : (f : List ℕ) → list_any (λ t. pointwise nat_eq t s && pointwise nat_eq f g) (subsets_of (length s) f) ≡ (listed (subsets_of (length s) f) s && pointwise nat_eq f g)
      apart f = any_both (λ t. pointwise nat_eq t s && pointwise nat_eq f g) (λ t. pointwise nat_eq t s) (pointwise nat_eq f g) (subsets_of (length s) f) (λ t. refl)

      there : list_any (λ f. list_any (λ t. pointwise nat_eq t s && pointwise nat_eq f g) (subsets_of (length s) f)) k.facets ≡ true → (listed k.facets g && holds g s) ≡ true
      there t =
          let f : (f : List ℕ) × (listed k.facets f ≡ true) × (list_any (λ t. pointwise nat_eq t s && pointwise nat_eq f g) (subsets_of (length s) f) ≡ true) = found_set (λ f. list_any (λ t. pointwise nat_eq t s && pointwise nat_eq f g) (subsets_of (length s) f)) k.facets t in
          let u : (listed (subsets_of (length s) f.0) s && pointwise nat_eq f.0 g) ≡ true = sym (apart f.0) ∙ f.2 in
          let e : f.0 ≡ g = same_sets_is f.0 g (second_so (listed (subsets_of (length s) f.0) s) (pointwise nat_eq f.0 g) u) in
          let p : IsSubset f.0 (length s) s = subset_of (length s) s f.0 f.1 (first_so (listed (subsets_of (length s) f.0) s) (pointwise nat_eq f.0 g) u) in
          both_true (ap (listed k.facets) (sym e) ∙ f.1) (ap (λ f. holds f s) (sym e) ∙ p.part)

      back : (listed k.facets g && holds g s) ≡ true → list_any (λ f. list_any (λ t. pointwise nat_eq t s && pointwise nat_eq f g) (subsets_of (length s) f)) k.facets ≡ true
      back t =
          let u : listed k.facets g ≡ true = first_so (listed k.facets g) (holds g s) t in
          some_listed (λ f. list_any (λ t. pointwise nat_eq t s && pointwise nat_eq f g) (subsets_of (length s) f)) k.facets g u
          (apart g ∙ both_true (listed_of s g h u (second_so (listed k.facets g) (holds g s) t)) (same_set_itself g))

  -- the run of a face has the facets over it, in their order
  pub run_is : (s : List ℕ) → HasLink k s → map (λ p. p.1) (flags_at (flags (length s) k.facets) s) ≡ over k.facets s
  run_is s h =
      same_lists (map (λ p. p.1) (flags_at (flags (length s) k.facets) s)) (over k.facets s)
      (facets_rise (flags_at (flags (length s) k.facets) s) (one_face (flags (length s) k.facets)) (IsStrictlySortedBy-filter flag_cmp (λ p. pointwise nat_eq p.0 s) (flags (length s) k.facets) (sorted_rising flag_total (flat_map (flags_of (length s)) k.facets))))
      (IsStrictlySortedBy-filter face_cmp (λ f. holds f s) k.facets c.rising)
      (λ g. run_has s g h ∙ sym (listed-filter (λ f. holds f s) k.facets g))
    where
      one_face : (ps : List (List ℕ × List ℕ)) → AllByRecursion (λ p. p.0 ≡ s) (flags_at ps s)
      one_face [] = tt
      one_face (p ∷ ps) =
          elim (pointwise nat_eq p.0 s) as (λ b. pointwise nat_eq p.0 s ≡ b → AllByRecursion (λ p. p.0 ≡ s) (cond b (p ∷ flags_at ps s) (flags_at ps s))) [
            | true ↦ λ e. (same_sets_is p.0 s e, one_face ps)
            | false ↦ λ _. one_face ps
          ] refl

      facet_less : (p q : List ℕ × List ℕ) → p.0 ≡ s → q.0 ≡ s → flag_cmp p q ≡ Less → face_cmp p.1 q.1 ≡ Less
      facet_less p q a b l = sym (ap (λ o. ordering_then o (face_cmp p.1 q.1)) ((λ i. face_cmp (a i) (b i)) ∙ tied_itself nat_list_cmp_total s)) ∙ l

      facets_above : (p : List ℕ × List ℕ) (ps : List (List ℕ × List ℕ)) → p.0 ≡ s → AllByRecursion (λ p. p.0 ≡ s) ps → Above flag_cmp p ps → Above face_cmp p.1 (map (λ p. p.1) ps)
      facets_above p [] e h a = tt
      facets_above p (q ∷ ps) e h a = (facet_less p q e h.0 a.0, facets_above p ps e h.1 a.1)

      facets_rise : (ps : List (List ℕ × List ℕ)) → AllByRecursion (λ p. p.0 ≡ s) ps → IsStrictlySortedBy flag_cmp ps → IsStrictlySortedBy face_cmp (map (λ p. p.1) ps)
      facets_rise [] h r = sorted_none face_cmp
      facets_rise (p ∷ ps) h r = above_cons face_cmp p.1 (map (λ p. p.1) ps) (facets_above p ps h.0 h.1 (above_head flag_cmp p ps r)) (facets_rise ps h.1 (above_tail flag_cmp p ps r))
