-- The numbers that a rising list leaves out, by one walk along both.
use Rattle.std.proofs.Common.{◌⊎◌, inl, inr, ◌≡◌, ◌≢◌, ℕ, zero, suc, ◌+◌, ◌-◌, ◌<◌, ◌≤◌, Bool, true, false, not, nat_eq, if◌then◌else◌, ◌||◌, List, [], ◌∷◌, ◌++◌, length, drop, get_or, filter, sym, ◌∙◌, ap, refl, subst, arith, append_assoc, cond}
use Rattle.std.specs.List.{flat_map, AllByRecursion}
use Rattle.std.specs.List.Sorted.{IsStrictlySortedBy}
use Rattle.std.specs.Ordering.{nat_cmp}
use Rattle.std.specs.declared.cmp.Ordering.TheVariants.{Less}
use Rattle.std.proofs.lemmas.Cmp.{nat_cmp_total}
use Rattle.std.proofs.lemmas.List.{append-nil, drop_all}
use Rattle.complex_core.specs.Labels.{IsRising, has}
use Rattle.complex_core.specs.Complexes.{ComplexView, IsComplex}
use Rattle.complex_core.specs.Maps.{used, next_after}
use Rattle.complex_core.proofs.Sets.{Above, above_cons, above_head, above_tail, above_lower, each_rising, sorted_rising}
use Rattle.complex_core.proofs.Faces.{cmp_less, less_cmp, drop_next}
use Rattle.complex_core.proofs.Laws.{above_not, nat_eq_same, nat_eq_is}
use Rattle.complex_core.proofs.SubsetLists.{two, clash}
use Rattle.anneal_plan.specs.Places.{free_of}
use Rattle.complex_core.proofs.Renaming.{labels_above}
use Rattle.anneal_plan.proofs.WordLists.{left_suc}

-- the numbers after n, so many of them, that a rising list of greater numbers leaves out
abbrev pub gaps : ℕ → ℕ → List ℕ → List ℕ
gaps n zero us = []
gaps n (suc k) [] = (n + 1) ∷ gaps (n + 1) k []
gaps n (suc k) (u ∷ us) = if nat_eq u (n + 1) then gaps (n + 1) k us else (n + 1) ∷ gaps (n + 1) k (u ∷ us)

abbrev missing : List ℕ → ℕ → Bool
missing us x = not (has us x)

-- what a head that is passed by says of later numbers
later : (n u k : ℕ) (us : List ℕ) → u ≤ n → filter (missing (u ∷ us)) (next_after n k) ≡ filter (missing us) (next_after n k)
later n u zero us h = refl
later n u (suc k) us h =
    let e : nat_eq u (n + 1) ≡ false = elim (two (nat_eq u (n + 1))) [ inl t ↦ absurd (omega (arith, nat_eq_is u (n + 1) t)) | inr f ↦ f ] in
    ap (λ b. cond (not (b || has us (n + 1))) ((n + 1) ∷ filter (missing (u ∷ us)) (next_after (n + 1) k)) (filter (missing (u ∷ us)) (next_after (n + 1) k))) e
    ∙ ap (λ xs. cond (not (has us (n + 1))) ((n + 1) ∷ xs) xs) (later (n + 1) u k us (omega (arith, h)))

pub gaps_are : (n k : ℕ) (us : List ℕ) → IsStrictlySortedBy nat_cmp (n ∷ us) → filter (missing us) (next_after n k) ≡ gaps n k us
gaps_are n zero us s = refl
gaps_are n (suc k) [] s = ap (λ xs. (n + 1) ∷ xs) (gaps_are (n + 1) k [] (above_cons nat_cmp (n + 1) [] tt (above_tail nat_cmp n [] s)))
gaps_are n (suc k) (u ∷ us) s =
    let sorted : IsStrictlySortedBy nat_cmp (u ∷ us) = above_tail nat_cmp n (u ∷ us) s in
    let above : n < u = less_cmp n u (above_head nat_cmp n (u ∷ us) s).0 in
    elim (two (nat_eq u (n + 1))) [
      | inl t ↦
          let e : u ≡ n + 1 = nat_eq_is u (n + 1) t in
          let P : ℕ → Type 0 = λ z. IsStrictlySortedBy nat_cmp (z ∷ us) in
          ap (λ b. cond (not (b || has us (n + 1))) ((n + 1) ∷ filter (missing (u ∷ us)) (next_after (n + 1) k)) (filter (missing (u ∷ us)) (next_after (n + 1) k))) t
          ∙ later (n + 1) u k us (omega (arith, e)) ∙ gaps_are (n + 1) k us (subst P e sorted)
          ∙ sym (ap (λ b. cond b (gaps (n + 1) k us) ((n + 1) ∷ gaps (n + 1) k (u ∷ us))) t)
      | inr f ↦
          let ne : u ≡ n + 1 → ⊥ = λ e. clash (nat_eq u (n + 1)) (ap (λ z. nat_eq u z) (sym e) ∙ nat_eq_same u) f in
          let over : n + 1 < u = omega (arith, above, ne) in
          let l : nat_cmp (n + 1) u ≡ Less = cmp_less (n + 1) u over in
          let all : Above nat_cmp (n + 1) (u ∷ us) = (l, above_lower nat_cmp_total (n + 1) u us l (above_head nat_cmp u us sorted)) in
          ap (λ b. cond (not b) ((n + 1) ∷ filter (missing (u ∷ us)) (next_after (n + 1) k)) (filter (missing (u ∷ us)) (next_after (n + 1) k))) (above_not (n + 1) (u ∷ us) all)
          ∙ ap (λ xs. (n + 1) ∷ xs) (gaps_are (n + 1) k (u ∷ us) (above_cons nat_cmp (n + 1) (u ∷ us) all sorted))
          ∙ sym (ap (λ b. cond b (gaps (n + 1) k us) ((n + 1) ∷ gaps (n + 1) k (u ∷ us))) f)
    ]

-- ---- the labels of a complex

pub used_rising : (k : ComplexView) → IsComplex k → IsRising (used k.facets)
used_rising k h = above_cons nat_cmp 0 (used k.facets) (each_rising nat_cmp (λ y. nat_cmp 0 y ≡ Less) (flat_map (λ f. f) k.facets) (labels_above k.dim k.facets h.pure)) (sorted_rising nat_cmp_total (flat_map (λ f. f) k.facets))

pub free_is : (k : ComplexView) (places : ℕ) (us : List ℕ) → IsComplex k → us ≡ used k.facets → free_of k.facets places ≡ gaps 0 places us
free_is k places us h e = gaps_are 0 places (used k.facets) (used_rising k h) ∙ ap (gaps 0 places) (sym e)

-- ---- one step of the walk

-- the number is the next of the list
pub gap_passed : (all items us new : List ℕ) (i n at next x : ℕ) → i < n → at < length us → x ≡ get_or us at x → x ≡ i + 1 → new ≡ items → next ≡ at + 1 → all ≡ items ++ gaps i (n - i) (drop at us) → all ≡ new ++ gaps (i + 1) (n - (i + 1)) (drop next us)
gap_passed all items us new i n at next x l k is e p q h =
    h ∙ ap (λ r. items ++ gaps i r (drop at us)) (left_suc n i l) ∙ ap (λ vs. items ++ gaps i (suc (n - (i + 1))) vs) (drop_next us at x k)
    ∙ ap (λ b. items ++ cond b (gaps (i + 1) (n - (i + 1)) (drop (at + 1) us)) ((i + 1) ∷ gaps (i + 1) (n - (i + 1)) (get_or us at x ∷ drop (at + 1) us))) (ap (λ z. nat_eq z (i + 1)) (sym is ∙ e) ∙ nat_eq_same (i + 1))
    ∙ (λ j. sym p j ++ gaps (i + 1) (n - (i + 1)) (drop (sym q j) us))

-- it isn't, or the list is at its end
abbrev pub IsOther : List ℕ → ℕ → ℕ → Type 0
IsOther us at y = (length us ≤ at) ⊎ ((x : ℕ) × (at < length us) × (x ≡ get_or us at x) × (x ≢ y))

gap_first : (us : List ℕ) (i k at : ℕ) → IsOther us at (i + 1) → gaps i (suc k) (drop at us) ≡ (i + 1) ∷ gaps (i + 1) k (drop at us)
gap_first us i k at (inl l) = let e : drop at us ≡ [] = drop_all at us l in ap (gaps i (suc k)) e ∙ ap (λ vs. (i + 1) ∷ gaps (i + 1) k vs) (sym e)
gap_first us i k at (inr (x, l, is, ne)) =
    let e : drop at us ≡ get_or us at x ∷ drop (at + 1) us = drop_next us at x l in
    let f : nat_eq (get_or us at x) (i + 1) ≡ false = elim (two (nat_eq (get_or us at x) (i + 1))) [ inl t ↦ absurd (ne (is ∙ nat_eq_is (get_or us at x) (i + 1) t)) | inr g ↦ g ] in
    ap (gaps i (suc k)) e ∙ ap (λ b. cond b (gaps (i + 1) k (drop (at + 1) us)) ((i + 1) ∷ gaps (i + 1) k (get_or us at x ∷ drop (at + 1) us))) f ∙ ap (λ vs. (i + 1) ∷ gaps (i + 1) k vs) (sym e)

pub gap_found : (all items us new : List ℕ) (i n at next : ℕ) → i < n → IsOther us at (i + 1) → new ≡ items ++ (i + 1) ∷ [] → next ≡ at → all ≡ items ++ gaps i (n - i) (drop at us) → all ≡ new ++ gaps (i + 1) (n - (i + 1)) (drop next us)
gap_found all items us new i n at next l other p q h =
    h ∙ ap (λ r. items ++ gaps i r (drop at us)) (left_suc n i l) ∙ ap (λ vs. items ++ vs) (gap_first us i (n - (i + 1)) at other)
    ∙ sym (append_assoc items ((i + 1) ∷ []) (gaps (i + 1) (n - (i + 1)) (drop at us)))
    ∙ (λ j. sym p j ++ gaps (i + 1) (n - (i + 1)) (drop (sym q j) us))

pub gaps_end : (all items us : List ℕ) (i n at : ℕ) → n ≤ i → all ≡ items ++ gaps i (n - i) (drop at us) → items ≡ all
gaps_end all items us i n at l h = sym (h ∙ ap (λ r. items ++ gaps i r (drop at us)) (let z : n - i ≡ 0 = omega arith in z) ∙ append-nil items)

-- the numbers after n are above 0, and so are those of a list that leaves some out
pub gaps_positive : (n k : ℕ) (us : List ℕ) → AllByRecursion (λ x. 0 < x) (gaps n k us)
gaps_positive n zero us = tt
gaps_positive n (suc k) [] = (omega arith, gaps_positive (n + 1) k [])
gaps_positive n (suc k) (u ∷ us) = elim (nat_eq u (n + 1)) as (λ b. AllByRecursion (λ x. 0 < x) (cond b (gaps (n + 1) k us) ((n + 1) ∷ gaps (n + 1) k (u ∷ us)))) [
  | true ↦ gaps_positive (n + 1) k us
  | false ↦ (omega arith, gaps_positive (n + 1) k (u ∷ us))
]

pub free_positive : (items us : List ℕ) (i n at : ℕ) → n ≤ i → gaps 0 n us ≡ items ++ gaps i (n - i) (drop at us) → AllByRecursion (λ x. 0 < x) items
free_positive items us i n at l h =
    let P : List ℕ → Type 0 = λ xs. AllByRecursion (λ x. 0 < x) xs in
    subst P (sym (gaps_end (gaps 0 n us) items us i n at l h)) (gaps_positive 0 n us)
