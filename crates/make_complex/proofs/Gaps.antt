-- The least label that isn't used.
use Rattle.std.proofs.Common.{◌≡◌, ℕ, ◌+◌, ◌<◌, ◌≤◌, Bool, true, false, not, nat_eq, ◌||◌, ◌&&◌, Less, cond, List, [], ◌∷◌, length, inl, inr, sym, ◌∙◌, ap, refl, subst, arith}
use Rattle.std.specs.List.{AllByRecursion, flat_map}
use Rattle.std.specs.List.Sorted.{IsStrictlySortedBy}
use Rattle.std.specs.Ordering.{nat_cmp}
use Rattle.std.proofs.lemmas.Cmp.{nat_cmp_total}
use Rattle.std.proofs.lemmas.Bool.Decides.{nat_tests}
use Rattle.std.proofs.lemmas.Bool.{cases_lt, false_from_ne_true}
use Rattle.complex_core.specs.Labels.{IsRising, has}
use Rattle.complex_core.specs.Complexes.{ComplexView, IsComplex}
use Rattle.complex_core.specs.Maps.{used}
use Rattle.complex_core.proofs.Sets.{above_cons, above_head, above_tail, above_lower, each_rising, sorted_rising}
use Rattle.complex_core.proofs.Faces.{cmp_less, less_cmp}
use Rattle.complex_core.proofs.Laws.{above_not, nat_eq_same, nat_eq_is, or_left, or_right}
use Rattle.complex_core.proofs.Members.{has-rising}
use Rattle.complex_core.proofs.Renaming.{labels_above}
use Rattle.complex_core.proofs.SubsetLists.{two, clash}
use Rattle.star_laws.specs.Stars.{star}
use Rattle.stars.specs.StarViews.{VertexStar, StarList, IsStarListOf, places_in, star_at}
use Rattle.stars.proofs.Mapping.{has_append}
use Rattle.make_complex.specs.Draws.{first_gap, least_unused}
use Rattle.make_complex.specs.Laws.{LeastUnused}

-- a number from n on that isn't in the list, and all before it are
pub record IsGap (n : ℕ) (xs : List ℕ) (gap : ℕ) : Type 0 where
  pub low : n ≤ gap
  pub gone : has xs gap ≡ false
  pub least : (x : ℕ) → n ≤ x → x < gap → has xs x ≡ true
  pub near : gap ≤ n + length xs

pub gap_of : (low : ℕ) (xs : List ℕ) → IsStrictlySortedBy nat_cmp (low ∷ xs) → IsGap (low + 1) xs (first_gap (low + 1) xs)
gap_of low [] s = record { low = omega arith; gone = refl; least = λ x h l. absurd (omega (arith, h, l)); near = omega arith }
gap_of low (x ∷ xs) s =
    let sorted : IsStrictlySortedBy nat_cmp (x ∷ xs) = above_tail nat_cmp low (x ∷ xs) s in
    let above : low < x = less_cmp low x (above_head nat_cmp low (x ∷ xs) s).0 in
    elim (two (nat_eq x (low + 1))) [
      | inl t ↦
          let e : x ≡ low + 1 = nat_eq_is x (low + 1) t in
          let P : ℕ → Type 0 = λ n. IsGap (n + 1) xs (first_gap (n + 1) xs) in
          let p : IsGap (low + 1 + 1) xs (first_gap (low + 1 + 1) xs) = subst P e (gap_of x xs sorted) in
          let Q : ℕ → Type 0 = λ g. IsGap (low + 1) (x ∷ xs) g in
          subst Q (ap (λ b. cond b (first_gap (low + 1 + 1) xs) (low + 1)) (sym t)) (record {
            low = omega (arith, p.low);
            gone = ap (λ b. b || has xs (first_gap (low + 1 + 1) xs)) (false_from_ne_true (nat_eq x (first_gap (low + 1 + 1) xs)) (λ q. omega (arith, nat_eq_is x (first_gap (low + 1 + 1) xs) q, e, p.low))) ∙ p.gone;
            least = λ y h l. elim (cases_lt (low + 1) y) [
              | inl more ↦ or_right (nat_eq x y) (has xs y) (p.least y (omega (arith, more)) l)
              | inr here ↦ let q : x ≡ y = omega (arith, here, h, e) in or_left (nat_eq x y) (has xs y) (ap (λ z. nat_eq x z) (sym q) ∙ nat_eq_same x)
            ];
            near = omega (arith, p.near);
          })
      | inr f ↦
          let ne : x ≡ low + 1 → ⊥ = λ e. clash (nat_eq x (low + 1)) (ap (λ z. nat_eq x z) (sym e) ∙ nat_eq_same x) f in
          let l = cmp_less (low + 1) x (omega (arith, above, ne)) in
          let Q : ℕ → Type 0 = λ g. IsGap (low + 1) (x ∷ xs) g in
          subst Q (ap (λ b. cond b (first_gap (low + 1 + 1) xs) (low + 1)) (sym f)) (record {
            low = omega arith;
            gone = above_not (low + 1) (x ∷ xs) (l, above_lower nat_cmp_total (low + 1) x xs l (above_head nat_cmp x xs sorted));
            least = λ y h m. absurd (omega (arith, h, m));
            near = omega arith;
          })
    ]

-- such a number is one
pub gap_is_one : (n : ℕ) (xs : List ℕ) (g h : ℕ) → IsGap n xs g → n ≤ h → has xs h ≡ false → ((x : ℕ) → n ≤ x → x < h → has xs x ≡ true) → h ≡ g
gap_is_one n xs g h p low gone least = elim (cases_lt h g) [
  | inl l ↦ clash (has xs h) (p.least h low l) gone
  | inr l ↦ elim (cases_lt g h) [
    | inl m ↦ clash (has xs g) (least g p.low m) p.gone
    | inr m ↦ omega (arith, l, m)
  ]
]

pub used_rising : (k : ComplexView) → IsComplex k → IsRising (used k.facets)
used_rising k h = above_cons nat_cmp 0 (used k.facets) (each_rising nat_cmp (λ y. nat_cmp 0 y ≡ Less) (flat_map (λ f. f) k.facets) (labels_above k.dim k.facets h.pure)) (sorted_rising nat_cmp_total (flat_map (λ f. f) k.facets))

pub gap_used : (k : ComplexView) → IsComplex k → IsGap 1 (used k.facets) (least_unused k.facets)
gap_used k h = gap_of 0 (used k.facets) (used_rising k h)

pub least_unused_is : LeastUnused
least_unused_is k h = let p : IsGap 1 (used k.facets) (least_unused k.facets) = gap_used k h in record {
  low = omega (arith, p.low);
  unused = p.gone;
  least = λ x a b. p.least x (omega (arith, a)) b;
  near = omega (arith, p.near);
}

-- a label is used where its star isn't empty
pub used_by_star : (fs : List (List ℕ)) (p : ℕ) → has (used fs) p ≡ not (nat_eq (length (star fs p)) 0)
used_by_star fs p = has-rising (flat_map (λ f. f) fs) p ∙ by_star fs
  where
    by_star : (fs : List (List ℕ)) → has (flat_map (λ f. f) fs) p ≡ not (nat_eq (length (star fs p)) 0)
    by_star [] = refl
    by_star (f ∷ fs) = has_append f (flat_map (λ g. g) fs) p ∙ elim (has f p) as (λ b. (b || has (flat_map (λ g. g) fs) p) ≡ not (nat_eq (length (cond (b && true) (f ∷ star fs p) (star fs p))) 0)) [
      | true ↦ let e : nat_eq (length (f ∷ star fs p)) 0 ≡ false = grind (arith, nat_tests) in ap not (sym e)
      | false ↦ by_star fs
    ]

-- all numbers from 1 to n are used, so there are so many
pub many_used : (k : ComplexView) (n : ℕ) → IsComplex k → ((x : ℕ) → 0 < x → x ≤ n → has (used k.facets) x ≡ true) → n ≤ length (used k.facets)
many_used k n h all = let p : IsGap 1 (used k.facets) (least_unused k.facets) = gap_used k h in elim (cases_lt n (least_unused k.facets)) [
  | inl l ↦ omega (arith, p.near, l)
  | inr l ↦ clash (has (used k.facets) (least_unused k.facets)) (all (least_unused k.facets) (omega (arith, p.low)) (omega (arith, l))) p.gone
]

-- rising labels up to n are at most so many
pub few_up_to : (low n : ℕ) (xs : List ℕ) → IsStrictlySortedBy nat_cmp (low ∷ xs) → low ≤ n → AllByRecursion (λ x. x ≤ n) xs → low + length xs ≤ n
few_up_to low n [] s l h = omega (arith, l)
few_up_to low n (x ∷ xs) s l h = omega (arith, less_cmp low x (above_head nat_cmp low (x ∷ xs) s).0, few_up_to x n xs (above_tail nat_cmp low (x ∷ xs) s) h.0 h.1)

-- ---- the walk over the places

-- a star without facets tells that its label isn't used
pub told_by_star : (k : ComplexView) (m : StarList) (s : VertexStar) (p : ℕ) (empty : Bool) → IsStarListOf k m → 0 < p → p ≤ places_in m → s ≡ record { vertex = p; dim = m.dim; rows = star_at m p } → empty ≡ nat_eq (length s.rows) 0 → has (used k.facets) p ≡ not empty
told_by_star k m s p empty h low high is e =
    used_by_star k.facets p
    ∙ ap (λ rows. not (nat_eq (length rows) 0)) (sym (ap (λ (v : VertexStar). v.rows) is ∙ h.stars p low high))
    ∙ ap not (sym e)

pub one_more_used : (k : ComplexView) (m : StarList) (s : VertexStar) (b : ℕ) (empty : Bool) → b + 1 ≤ places_in m → s ≡ record { vertex = b + 1; dim = m.dim; rows = star_at m (b + 1) } → empty ≡ nat_eq (length s.rows) 0 → empty ≡ false → IsStarListOf k m → ((x : ℕ) → 0 < x → x ≤ b → has (used k.facets) x ≡ true) → (x : ℕ) → 0 < x → x ≤ b + 1 → has (used k.facets) x ≡ true
one_more_used k m s b empty high is e off h all x low l = elim (cases_lt b x) [
  | inl more ↦ let same : x ≡ b + 1 = omega (arith, more, l) in ap (has (used k.facets)) same ∙ told_by_star k m s (b + 1) empty h (omega arith) high is e ∙ ap not off
  | inr less ↦ all x low (omega (arith, less))
]

pub found_unused : (k : ComplexView) (m : StarList) (s : VertexStar) (b : ℕ) (empty : Bool) → b + 1 ≤ places_in m → s ≡ record { vertex = b + 1; dim = m.dim; rows = star_at m (b + 1) } → empty ≡ nat_eq (length s.rows) 0 → empty ≡ true → IsStarListOf k m → ((x : ℕ) → 0 < x → x ≤ b → has (used k.facets) x ≡ true) → b + 1 ≡ least_unused k.facets
found_unused k m s b empty high is e on h all =
    gap_is_one 1 (used k.facets) (least_unused k.facets) (b + 1) (gap_used k h.complex) (omega arith)
    (told_by_star k m s (b + 1) empty h (omega arith) high is e ∙ ap not on)
    (λ x low l. all x (omega (arith, low)) (omega (arith, l)))

pub none_unused : (k : ComplexView) (m : StarList) (b n : ℕ) → n ≤ b → n ≡ places_in m → IsStarListOf k m → ((x : ℕ) → 0 < x → x ≤ b → has (used k.facets) x ≡ true) → places_in m < least_unused k.facets
none_unused k m b n l e h all = let p : IsGap 1 (used k.facets) (least_unused k.facets) = gap_used k h.complex in elim (cases_lt (places_in m) (least_unused k.facets)) [
  | inl more ↦ more
  | inr less ↦ clash (has (used k.facets) (least_unused k.facets)) (all (least_unused k.facets) (omega (arith, p.low)) (omega (arith, less, l, e))) p.gone
]
