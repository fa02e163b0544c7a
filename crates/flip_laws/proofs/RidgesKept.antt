-- What a legal flip keeps of ridges.
use Rattle.std.proofs.Common.{◌≡◌, ◌≢◌, ℕ, ◌+◌, true, false, nat_eq, ◌||◌, ◌&&◌, List, [], ◌∷◌, length, map, sym, ◌∙◌, ap, refl, arith, ◌⊎◌, inl, inr, subst}
use Rattle.std.specs.List.{flat_map, list_any}
use Rattle.std.specs.List.Sorted.{IsStrictlySortedBy}
use Rattle.std.specs.Ordering.{nat_cmp}
use Rattle.std.specs.Cmp.{first_so, second_so}
use Rattle.std.specs.Cmp.Derive.{both_true}
use Rattle.std.specs.Cmp.Lexicographic.{pointwise, nat_list_cmp_total}
use Rattle.std.proofs.lemmas.List.Kept.{IsStrictlySortedBy-filter}
use Rattle.complex_core.specs.Labels.{has, holds, without, face_cmp}
use Rattle.complex_core.specs.Complexes.{over}
use Rattle.complex_core.specs.Rising.{rising}
use Rattle.complex_core.proofs.Sets.{sorted_rising, length-put_new}
use Rattle.complex_core.proofs.Laws.{both_ways, holds_has, or_left, or_right, listed, same_sets_is, same_set_itself, listed-filter, listed-rising, listed-among, same_lists, some_listed, some_has, found, sorted_without, nat_eq_is, nat_eq_same, length-without}
use Rattle.pseudo_test.specs.Ridges.{IsRidge, count, Closed, Thin}
use Rattle.flip_laws.specs.Keeping.{ridges, boundary}
use Rattle.flip_laws.proofs.Exchange.{Half, Exchange, turned}
use Rattle.pseudo_test.proofs.Subsets.{it_is, without_swap, holds_without, holds_through, lacking}
use Rattle.flip_laws.proofs.Counting.{in_a, in_b, apart, count_kept, or_none}
use Rattle.std.proofs.lemmas.Bool.{false_from_ne_true}
use Rattle.complex_core.proofs.SubsetLists.{two, clash}
use Rattle.complex_core.proofs.Members.{without_has, without_gone, without_other, in_without}
use Rattle.complex_core.proofs.SetLists.{listed-flat_map, found_set}

-- a ridge has one label less than a facet
pub record Sized (w r : List ℕ) : Type 0 where
  pub rises : IsStrictlySortedBy nat_cmp r
  pub size : length r + 2 ≡ length w

pub ridge_size : (fs : List (List ℕ)) (a b w r : List ℕ) → Half fs a b w → IsRidge fs r → Sized w r
ridge_size fs a b w r h g =
    let p : IsStrictlySortedBy nat_cmp g.facet × (length g.facet + 1 ≡ length w) = h.facets g.facet g.there in
    record {
      rises = let P : List ℕ → Type 0 = λ q. IsStrictlySortedBy nat_cmp q in subst P (sym g.is) (sorted_without g.facet g.label p.0);
      size = omega (arith, ap length g.is, length-without g.facet g.label p.0 g.used, p.1);
    }

-- a ridge after the flip that doesn't contain B was one before
pub ridge_was : (fs gs : List (List ℕ)) (a b w r : List ℕ) → Exchange fs gs a b w → IsRidge gs r → holds r b ≡ false → IsRidge fs r × (holds r a ≡ false)
ridge_was fs gs a b w r e g rb =
    (was, false_from_ne_true (holds r a) (λ t. clash {P = ⊥} (holds g.facet a) (holds_through g.facet r a in_facet t) (e.new.free g.facet g.there)))
  where
    in_facet : holds g.facet r ≡ true
    in_facet = ap (holds g.facet) g.is ∙ holds_without g.facet g.label

    moved : (y : ℕ) → has a y ≡ true → g.facet ≡ without w y → holds g.facet b ≡ true → IsRidge fs r
    moved y ya is fb =
        let z : (z : ℕ) × (has b z ≡ true) × (has r z ≡ false) = lacking r b rb in
        let zf : has g.facet z.0 ≡ true = holds_has g.facet b z.0 fb z.1 in
        let eq : z.0 ≡ g.label = it_is g.facet g.label z.0 zf (ap (λ q. has q z.0) (sym g.is) ∙ z.2) in
        let ub : has b g.label ≡ true = ap (has b) (sym eq) ∙ z.1 in
        record {
          facet = without w g.label;
          label = y;
          there = e.old.was g.label ub;
          used = in_without w g.label y (in_a fs a b w e.old y ya) (apart fs a b w e.old y g.label ya ub);
          is = g.is ∙ ap (λ f. without f g.label) is ∙ without_swap w y g.label e.old.labels;
        }

    was : IsRidge fs r
    was = elim (two (holds g.facet b)) [
      | inl fb ↦ let q : (y : ℕ) × (has a y ≡ true) × (g.facet ≡ without w y) = e.new.outs g.facet g.there fb in moved q.0 q.1 q.2 fb
      | inr fb ↦ record { facet = g.facet; label = g.label; there = e.stays g.facet (e.new.free g.facet g.there) fb ∙ g.there; used = g.used; is = g.is }
    ]

two_listed : (p q f : List ℕ) → (pointwise nat_eq p f || (pointwise nat_eq q f || false)) ≡ true → (p ≡ f) ⊎ (q ≡ f)
two_listed p q f t = elim (two (pointwise nat_eq p f)) [
  | inl e ↦ inl (same_sets_is p f e)
  | inr e ↦ inr (same_sets_is q f (or_none (pointwise nat_eq q f) (sym (ap (λ c. c || (pointwise nat_eq q f || false)) e) ∙ t)))
]

two_long : (p q : List ℕ) → (p ≢ q) → length (rising face_cmp (p ∷ q ∷ [])) ≡ 2
two_long p q n =
    let f : pointwise nat_eq q p ≡ false = false_from_ne_true (pointwise nat_eq q p) (λ t. n (sym (same_sets_is q p t))) in
    length-put_new face_cmp p (q ∷ []) (listed-among (q ∷ []) p ∙ ap (λ c. c || false) f)

-- a ridge that contains A lies in two facets
pub ridge_two : (fs : List (List ℕ)) (a b w r : List ℕ) → Half fs a b w → IsRidge fs r → holds r a ≡ true → count fs r ≡ 2
ridge_two fs a b w r h g ra =
    let facet_a : holds g.facet a ≡ true = holds_through g.facet r a (ap (holds g.facet) g.is ∙ holds_without g.facet g.label) ra in
    let y : (y : ℕ) × (has b y ≡ true) × (g.facet ≡ without w y) = h.outs g.facet g.there facet_a in
    pair y.0 y.1 y.2
  where
    u : ℕ
    u = g.label

    no_u : has r g.label ≡ false
    no_u = ap (λ q. has q g.label) g.is ∙ without_gone g.facet g.label

    ub : (y : ℕ) → g.facet ≡ without w y → has b g.label ≡ true
    ub y is =
        let wu : has w g.label ≡ true = without_has w y g.label (ap (λ q. has q g.label) (sym is) ∙ g.used) in
        let au : has a g.label ≡ false = false_from_ne_true (has a g.label) (λ t. clash {P = ⊥} (has r g.label) (holds_has r a g.label ra t) no_u) in
        sym (ap (λ c. c || has b g.label) au) ∙ sym (h.both g.label) ∙ wu

    pair : (y : ℕ) → has b y ≡ true → g.facet ≡ without w y → count fs r ≡ 2
    pair y yb is =
        ap length (same_lists (over fs r) (rising face_cmp (without w y ∷ without w g.label ∷ [])) (IsStrictlySortedBy-filter face_cmp (λ f. holds f r) fs h.rises) (sorted_rising nat_list_cmp_total (without w y ∷ without w g.label ∷ [])) (λ f.
        listed-filter (λ f. holds f r) fs f ∙ both_ways (listed fs f && holds f r) (listed (without w y ∷ without w g.label ∷ []) f) (into f) (back f) ∙ sym (listed-rising (without w y ∷ without w g.label ∷ []) f)))
        ∙ two_long (without w y) (without w g.label) differ
      where
        is_r : r ≡ without (without w y) g.label
        is_r = g.is ∙ ap (λ q. without q g.label) is

        is_r' : r ≡ without (without w g.label) y
        is_r' = is_r ∙ without_swap w y g.label h.labels

        uy : g.label ≢ y
        uy = without_other w y g.label (ap (λ q. has q g.label) (sym is) ∙ g.used)

        differ : without w y ≢ without w g.label
        differ e = clash {P = ⊥} (has (without w g.label) g.label) (ap (λ q. has q g.label) (sym e) ∙ ap (λ q. has q g.label) (sym is) ∙ g.used) (without_gone w g.label)

        into : (f : List ℕ) → (listed fs f && holds f r) ≡ true → listed (without w y ∷ without w g.label ∷ []) f ≡ true
        into f t =
            let p : listed fs f ≡ true = first_so (listed fs f) (holds f r) t in
            let q : holds f r ≡ true = second_so (listed fs f) (holds f r) t in
            let v : (v : ℕ) × (has b v ≡ true) × (f ≡ without w v) = h.outs f p (holds_through f r a q ra) in
            let vr : has r v.0 ≡ false = false_from_ne_true (has r v.0) (λ s. clash {P = ⊥} (has (without w v.0) v.0) (ap (λ m. has m v.0) (sym v.2) ∙ holds_has f r v.0 q s) (without_gone w v.0)) in
            elim (two (nat_eq v.0 y)) [
              | inl e ↦ or_left (pointwise nat_eq (without w y) f) (pointwise nat_eq (without w g.label) f || false) (ap (λ m. pointwise nat_eq m f) (ap (without w) (sym (nat_eq_is v.0 y e)) ∙ sym v.2) ∙ same_set_itself f)
              | inr e ↦
                  let vy : v.0 ≢ y = λ m. clash {P = ⊥} (nat_eq v.0 y) (ap (λ c. nat_eq v.0 c) (sym m) ∙ nat_eq_same v.0) e in
                  let k : v.0 ≡ g.label = it_is (without w y) g.label v.0 (in_without w y v.0 (in_b fs a b w h v.0 v.1) vy) (ap (λ m. has m v.0) (sym is_r) ∙ vr) in
                  or_right (pointwise nat_eq (without w y) f) (pointwise nat_eq (without w g.label) f || false) (or_left (pointwise nat_eq (without w g.label) f) false (ap (λ m. pointwise nat_eq m f) (ap (without w) (sym k) ∙ sym v.2) ∙ same_set_itself f))
            ]

        back : (f : List ℕ) → listed (without w y ∷ without w g.label ∷ []) f ≡ true → (listed fs f && holds f r) ≡ true
        back f t = elim (two_listed (without w y) (without w g.label) f t) [
          | inl e ↦ let P : List ℕ → Type 0 = λ m. (listed fs m && holds m r) ≡ true in subst P e (both_true (h.was y yb) (ap (holds (without w y)) is_r ∙ holds_without (without w y) g.label))
          | inr e ↦ let P : List ℕ → Type 0 = λ m. (listed fs m && holds m r) ≡ true in subst P e (both_true (h.was g.label (ub y is)) (ap (holds (without w g.label)) is_r' ∙ holds_without (without w g.label) y))
        ]

-- each ridge after the flip lies in two facets, or was one before and lies in as many
pub record Kept (fs gs : List (List ℕ)) (r : List ℕ) : Type 0 where
  pub ridge : IsRidge fs r
  pub same : count fs r ≡ count gs r

pub ridge_kept : (fs gs : List (List ℕ)) (a b w r : List ℕ) → Exchange fs gs a b w → IsRidge gs r → (count gs r ≡ 2) ⊎ Kept fs gs r
ridge_kept fs gs a b w r e g = elim (two (holds r b)) [
  | inl t ↦ inl (ridge_two gs b a w r e.new g t)
  | inr t ↦
      let p : IsRidge fs r × (holds r a ≡ false) = ridge_was fs gs a b w r e g t in
      let s : Sized w r = ridge_size gs b a w r e.new g in
      inr (record { ridge = p.0; same = count_kept fs gs a b w r e s.rises s.size p.1 t })
]

pub closed_kept : (fs gs : List (List ℕ)) (a b w : List ℕ) → Exchange fs gs a b w → Closed fs → Closed gs
closed_kept fs gs a b w e c = record { two = λ r g. elim (ridge_kept fs gs a b w r e g) [ inl t ↦ t | inr k ↦ sym k.same ∙ c.two r k.ridge ] }

pub thin_kept : (fs gs : List (List ℕ)) (a b w : List ℕ) → Exchange fs gs a b w → Thin fs → Thin gs
thin_kept fs gs a b w e c = record { at_most = λ r g. elim (ridge_kept fs gs a b w r e g) [ inl t ↦ omega (arith, t) | inr k ↦ omega (arith, k.same, c.at_most r k.ridge) ] }

-- ---- the list of ridges

pub listed-map : (f v r : List ℕ) → listed (map (λ x. without f x) v) r ≡ list_any (λ x. pointwise nat_eq (without f x) r) v
listed-map f [] r = refl
listed-map f (x ∷ xs) r = ap (λ c. pointwise nat_eq (without f x) r || c) (listed-map f xs r)

listed-ridges : (fs : List (List ℕ)) (r : List ℕ) → listed (ridges fs) r ≡ list_any (λ f. list_any (λ x. pointwise nat_eq (without f x) r) f) fs
listed-ridges fs r = listed-rising (flat_map (λ f. map (λ x. without f x) f) fs) r ∙ listed-flat_map (λ f. map (λ x. without f x) f) fs r ∙ same_any fs
  where
    same_any : (gs : List (List ℕ)) → list_any (λ f. listed (map (λ x. without f x) f) r) gs ≡ list_any (λ f. list_any (λ x. pointwise nat_eq (without f x) r) f) gs
    same_any [] = refl
    same_any (g ∷ gs) = λ i. listed-map g g r i || same_any gs i

pub ridge_from : (fs : List (List ℕ)) (r : List ℕ) → listed (ridges fs) r ≡ true → IsRidge fs r
ridge_from fs r t =
    let p : (f : List ℕ) × (listed fs f ≡ true) × (list_any (λ x. pointwise nat_eq (without f x) r) f ≡ true) = found_set (λ f. list_any (λ x. pointwise nat_eq (without f x) r) f) fs (sym (listed-ridges fs r) ∙ t) in
    let q : (x : ℕ) × (has p.0 x ≡ true) × (pointwise nat_eq (without p.0 x) r ≡ true) = found (λ x. pointwise nat_eq (without p.0 x) r) p.0 p.2 in
    record { facet = p.0; label = q.0; there = p.1; used = q.1; is = sym (same_sets_is (without p.0 q.0) r q.2) }

pub ridge_listed : (fs : List (List ℕ)) (r : List ℕ) → IsRidge fs r → listed (ridges fs) r ≡ true
ridge_listed fs r g = listed-ridges fs r ∙ some_listed (λ f. list_any (λ x. pointwise nat_eq (without f x) r) f) fs g.facet g.there
    (some_has (λ x. pointwise nat_eq (without g.facet x) r) g.facet g.label g.used (ap (λ m. pointwise nat_eq m r) (sym g.is) ∙ same_set_itself r))

boundary_in : (fs gs : List (List ℕ)) (a b w r : List ℕ) → Exchange fs gs a b w → (listed (ridges gs) r && nat_eq (count gs r) 1) ≡ true → (listed (ridges fs) r && nat_eq (count fs r) 1) ≡ true
boundary_in fs gs a b w r e t =
    let p : IsRidge gs r = ridge_from gs r (first_so (listed (ridges gs) r) (nat_eq (count gs r) 1) t) in
    let q : nat_eq (count gs r) 1 ≡ true = second_so (listed (ridges gs) r) (nat_eq (count gs r) 1) t in
    elim (ridge_kept fs gs a b w r e p) [
      | inl two ↦ let one : count gs r ≡ 1 = nat_eq_is (count gs r) 1 q in absurd (omega (arith, two, one))
      | inr k ↦ both_true (ridge_listed fs r k.ridge) (ap (λ n. nat_eq n 1) k.same ∙ q)
    ]

-- the rising list of the ridges of count 1 is kept
pub boundary_kept : (fs gs : List (List ℕ)) (a b w : List ℕ) → Exchange fs gs a b w → boundary fs ≡ boundary gs
boundary_kept fs gs a b w e = same_lists (boundary fs) (boundary gs)
    (IsStrictlySortedBy-filter face_cmp (λ r. nat_eq (count fs r) 1) (ridges fs) (sorted_rising nat_list_cmp_total (flat_map (λ f. map (λ x. without f x) f) fs)))
    (IsStrictlySortedBy-filter face_cmp (λ r. nat_eq (count gs r) 1) (ridges gs) (sorted_rising nat_list_cmp_total (flat_map (λ f. map (λ x. without f x) f) gs)))
    (λ r. listed-filter (λ r. nat_eq (count fs r) 1) (ridges fs) r
    ∙ both_ways (listed (ridges fs) r && nat_eq (count fs r) 1) (listed (ridges gs) r && nat_eq (count gs r) 1) (boundary_in gs fs b a w r (turned fs gs a b w e)) (boundary_in fs gs a b w r e)
    ∙ sym (listed-filter (λ r. nat_eq (count gs r) 1) (ridges gs) r))
