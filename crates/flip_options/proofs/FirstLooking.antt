-- Each face is looked at once, as a face with fewer labels grows.
use Rattle.std.proofs.Common.{append_assoc, ◌≡◌, ◌⊎◌, inl, inr, ℕ, zero, suc, ◌+◌, ◌-◌, ◌<◌, ◌≤◌, ◌≢◌, Bool, true, false, cond, nat_eq, nat_lt, ◌||◌, ◌&&◌, Option, Some, None, List, [], ◌∷◌, ◌++◌, length, filter, take, get_or, sym, ◌∙◌, ap, refl, subst, arith}
use Rattle.std.specs.List.{AllByRecursion, flat_map, slice_get}
use Rattle.std.specs.List.Sorted.{IsStrictlySortedBy}
use Rattle.std.specs.Option.{IsSome, SomeIff}
use Rattle.std.specs.Ordering.{nat_cmp}
use Rattle.std.specs.Cmp.{first_so, second_so}
use Rattle.std.specs.Cmp.Derive.{both_true}
use Rattle.std.specs.Cmp.Lexicographic.{pointwise}
use Rattle.std.proofs.lemmas.Bool.{ltb-true, lt-ltb, or_cases}
use Rattle.std.proofs.lemmas.List.{append-nil, take_more, take_all}
use Rattle.std.proofs.lemmas.List.Folds.{list_all-append}
use Rattle.std.proofs.lemmas.Option.{none-some, same_Some}
use Rattle.complex_core.specs.Labels.{has, holds, with}
use Rattle.complex_core.specs.Rising.{rising}
use Rattle.complex_core.specs.Complexes.{ComplexView, over}
use Rattle.complex_core.proofs.Faces.{less_cmp, put_after}
use Rattle.complex_core.proofs.Laws.{listed, listed-filter, nat_eq_is, or_left, or_right, same_sets_is}
use Rattle.complex_core.proofs.Members.{has-rising}
use Rattle.complex_core.proofs.Sets.{above_head, above_tail, each_rising}
use Rattle.complex_core.proofs.SetLists.{found_set}
use Rattle.complex_core.proofs.Sorting.{each_append}
use Rattle.complex_core.proofs.SubsetLists.{two, clash}
use Rattle.flip_rules.specs.Flips.{Legal}
use Rattle.flip_rules.proofs.Legal.{legal}
use Rattle.stars.specs.StarViews.{StarList, IsStarListOf}
use Rattle.stars.proofs.Mapping.{has_append}
use Rattle.flip_options.specs.Candidates.{Candidates, FirstLook, IsGrown, IsPartAt}
use Rattle.flip_options.proofs.Joining.{rows_over}
use Rattle.flip_options.proofs.Refreshing.{first_then, first_look_so, none_looked}

-- ---- the labels that come next

in_kept : (q : ℕ → Bool) (xs : List ℕ) (x : ℕ) → has xs x ≡ true → q x ≡ true → has (filter q xs) x ≡ true
in_kept q (y ∷ xs) x h t = elim (two (nat_eq y x)) [
  | inl e ↦ ap (λ b. has (cond b (y ∷ filter q xs) (filter q xs)) x) (ap q (nat_eq_is y x e) ∙ t) ∙ or_left (nat_eq y x) (has (filter q xs) x) e
  | inr f ↦ let g : has (filter q xs) x ≡ true = in_kept q xs x (sym (ap (λ b. b || has xs x) f) ∙ h) t in elim (q y) as (λ b. has (cond b (y ∷ filter q xs) (filter q xs)) x ≡ true) [ true ↦ or_right (nat_eq y x) (has (filter q xs) x) g | false ↦ g ]
]
in_kept q [] x h t = h

in_rows : (q : ℕ → Bool) (rows : List (List ℕ)) (f : List ℕ) (x : ℕ) → listed rows f ≡ true → has f x ≡ true → q x ≡ true → has (flat_map (filter q) rows) x ≡ true
in_rows q [] f x l h t = l
in_rows q (r ∷ rows) f x l h t = has_append (filter q r) (flat_map (filter q) rows) x ∙ elim (two (pointwise nat_eq r f)) [
  | inl e ↦ or_left (has (filter q r) x) (has (flat_map (filter q) rows) x) (in_kept q r x (ap (λ g. has g x) (same_sets_is r f e) ∙ h) t)
  | inr n ↦ or_right (has (filter q r) x) (has (flat_map (filter q) rows) x) (in_rows q rows f x (sym (ap (λ b. b || listed rows f) n) ∙ l) h t)
]

-- the labels of some facets that are above another one
abbrev pub above_of : List (List ℕ) → ℕ → List ℕ
above_of rows last = rising nat_cmp (flat_map (filter (nat_lt last)) rows)

in_above : (rows : List (List ℕ)) (last : ℕ) (f : List ℕ) (x : ℕ) → listed rows f ≡ true → has f x ≡ true → last < x → has (above_of rows last) x ≡ true
in_above rows last f x l h t = has-rising (flat_map (filter (nat_lt last)) rows) x ∙ in_rows (nat_lt last) rows f x l h (lt-ltb last x t)

above_each : (rows : List (List ℕ)) (last : ℕ) → AllByRecursion (λ y. last < y) (above_of rows last)
above_each rows last = each_rising nat_cmp (λ y. last < y) (flat_map (filter (nat_lt last)) rows) (all rows)
  where
    one : (xs : List ℕ) → AllByRecursion (λ y. last < y) (filter (nat_lt last) xs)
    one [] = tt
    one (x ∷ xs) = elim (nat_lt last x) as (λ b. nat_lt last x ≡ b → AllByRecursion (λ y. last < y) (cond b (x ∷ filter (nat_lt last) xs) (filter (nat_lt last) xs))) [ true ↦ λ e. (ltb-true last x e, one xs) | false ↦ λ e. one xs ] refl

    all : (rs : List (List ℕ)) → AllByRecursion (λ y. last < y) (flat_map (filter (nat_lt last)) rs)
    all [] = tt
    all (r ∷ rs) = each_append (λ y. last < y) (filter (nat_lt last) r) (flat_map (filter (nat_lt last)) rs) (one r) (all rs)

above_at : (last : ℕ) (xs : List ℕ) (i : ℕ) → AllByRecursion (λ y. last < y) xs → i < length xs → last < get_or xs i 0
above_at last [] i h l = absurd (omega (arith, l))
above_at last (x ∷ xs) zero h l = h.0
above_at last (x ∷ xs) (suc i) h l = above_at last xs i h.1 (omega (arith, l))

pub label_above : (rows : List (List ℕ)) (last : ℕ) (labels : List ℕ) (i x : ℕ) → labels ≡ above_of rows last → i < length labels → x ≡ get_or labels i 0 → last < x
label_above rows last labels i x is l at =
    let P : List ℕ → Type 0 = λ xs. AllByRecursion (λ y. last < y) xs in
    omega (arith, at, above_at last labels i (subst P (sym is) (above_each rows last)) l)

-- ---- one label more

abbrev pub EachUpTo : ℕ → List ℕ → Type 0
EachUpTo last face = AllByRecursion (λ y. y ≤ last) face

with_last : (f : List ℕ) (last x : ℕ) → EachUpTo last f → last < x → with f x ≡ f ++ x ∷ []
with_last [] last x h l = refl
with_last (y ∷ ys) last x h l = put_after x y ys (omega (arith, h.0, l)) ∙ ap (λ zs. y ∷ zs) (with_last ys last x h.1 l)

length_last : (f : List ℕ) (x : ℕ) → length (f ++ x ∷ []) ≡ length f + 1
length_last [] x = omega arith
length_last (y ∷ f) x = omega (arith, length_last f x)

up_to_last : (f : List ℕ) (last x : ℕ) → EachUpTo last f → last < x → EachUpTo x (f ++ x ∷ [])
up_to_last [] last x h l = (omega arith, tt)
up_to_last (y ∷ ys) last x h l = (omega (arith, h.0, l), up_to_last ys last x h.1 l)

over_last : (fs : List (List ℕ)) (face : List ℕ) (x : ℕ) → filter (λ r. has r x) (over fs face) ≡ over fs (face ++ x ∷ [])
over_last [] face x = refl
over_last (f ∷ fs) face x =
    elim (holds f face) as (λ b. filter (λ r. has r x) (cond b (f ∷ over fs face) (over fs face)) ≡ cond (b && (has f x && true)) (f ∷ over fs (face ++ x ∷ [])) (over fs (face ++ x ∷ []))) [
      | true ↦ elim (has f x) as (λ b. cond b (f ∷ filter (λ r. has r x) (over fs face)) (filter (λ r. has r x) (over fs face)) ≡ cond (b && true) (f ∷ over fs (face ++ x ∷ [])) (over fs (face ++ x ∷ []))) [ true ↦ ap (λ gs. f ∷ gs) (over_last fs face x) | false ↦ over_last fs face x ]
      | false ↦ over_last fs face x
    ]
    ∙ ap (λ b. cond b (f ∷ over fs (face ++ x ∷ [])) (over fs (face ++ x ∷ []))) (sym (list_all-append (λ y. has f y) face (x ∷ [])))

-- what a face with one label more meets
pub record GrowsBy (s : StarList) (face : List ℕ) (x others : ℕ) (near : List (List ℕ)) (more : List ℕ) : Type 0 where
  pub is : more ≡ face ++ x ∷ []
  pub rows : (k : ComplexView) → IsStarListOf k s → near ≡ over k.facets more
  pub last : EachUpTo x more
  pub small : length more + (others - 1) ≤ 8

pub grows_by : (s : StarList) (face : List ℕ) (last x others : ℕ) (rows near : List (List ℕ)) (more : List ℕ) → ((k : ComplexView) → IsStarListOf k s → rows ≡ over k.facets face) → EachUpTo last face → length face + others ≤ 8 → others ≢ 0 → last < x → near ≡ filter (λ r. has r x) rows → more ≡ with face x → GrowsBy s face x others near more
grows_by s face last x others rows near more h each small some l is w =
    let e : more ≡ face ++ x ∷ [] = w ∙ with_last face last x each l in
    let P : List ℕ → Type 0 = λ f. EachUpTo x f in
    record {
      is = e;
      rows = λ k i. is ∙ ap (filter (λ r. has r x)) (h k i) ∙ over_last k.facets face x ∙ ap (over k.facets) (sym e);
      last = subst P (sym e) (up_to_last face last x each l);
      small = omega (arith, ap length e, length_last face x, small, some);
    }

pub label_fits : (face : List ℕ) (last x others : ℕ) (r : Option (List ℕ)) → EachUpTo last face → length face + others ≤ 8 → others ≢ 0 → last < x → SomeIff r ((0 < x) × (length (with face x) ≤ 8)) (with face x) → IsSome r
label_fits face last x others None each small some l w = absurd (w (omega (arith, l), omega (arith, ap length (with_last face last x each l), length_last face x, small, some)))
label_fits face last x others (Some f) each small some l w = refl

-- ---- the face itself

pub other_rows : (s : StarList) (m : Candidates) (rows : List (List ℕ)) (face : List ℕ) (d n : ℕ) → d ≡ s.dim → n ≡ length face → (length rows + n ≡ d + 2 → ⊥) → ((k : ComplexView) → IsStarListOf k s → rows ≡ over k.facets face) → FirstLook s m m (λ k a. a ≡ face)
other_rows s m rows face d n e size other h = none_looked s m (λ k a. a ≡ face) (λ k i a b is red.
    let l : Legal k a b = legal k a b red.legal in
    other (omega (arith, e, size, i.dim, l.shape.sizes, ap length is, ap length (h k i ∙ ap (over k.facets) (sym is)), rows_over k a b red)))

-- ---- the labels so far

abbrev pub GrownSoFar : List ℕ → ℕ → List ℕ → ℕ → ComplexView → List ℕ → Type 0
GrownSoFar face others labels i k a = (a ≡ face) ⊎ ((x : ℕ) × (has (take i labels) x ≡ true) × IsGrown k (face ++ x ∷ []) x (others - 1) a)

pub grown_next : (s : StarList) (m n o : Candidates) (face more : List ℕ) (others : ℕ) (labels : List ℕ) (i x : ℕ) → FirstLook s m n (GrownSoFar face others labels i) → FirstLook s n o (λ k a. IsGrown k more x (others - 1) a) → more ≡ face ++ x ∷ [] → i < length labels → x ≡ get_or labels i 0 → FirstLook s m o (GrownSoFar face others labels (i + 1))
grown_next s m n o face more others labels i x p q e l at = first_then s m n o (GrownSoFar face others labels i) (λ k a. IsGrown k more x (others - 1) a) (GrownSoFar face others labels (i + 1)) p q (λ k h a t. elim t [
  | inl is ↦ inl (inl is)
  | inr u ↦ elim (or_cases (has (take i labels) u.0) (has (x ∷ []) u.0) (sym (has_append (take i labels) (x ∷ []) u.0) ∙ ap (λ xs. has xs u.0) (ap (λ y. take i labels ++ y ∷ []) at ∙ sym (take_more labels i 0 l)) ∙ u.1)) [
    | inl v ↦ inl (inr (u.0, v, u.2))
    | inr v ↦
        let same : x ≡ u.0 = nat_eq_is x u.0 (elim (or_cases (nat_eq x u.0) false v) [ inl w ↦ w | inr w ↦ clash false w refl ]) in
        let P : ℕ → Type 0 = λ y. IsGrown k (face ++ y ∷ []) y (others - 1) a in
        let Q : List ℕ → Type 0 = λ f. IsGrown k f x (others - 1) a in
        inr (subst Q (sym e) (subst P (sym same) u.2))
  ]
])

grown_by_one : (k : ComplexView) (rows : List (List ℕ)) (face : List ℕ) (last others : ℕ) (a rest : List ℕ) → rows ≡ over k.facets face → IsGrown k face last others a → a ≡ face ++ rest → IsStrictlySortedBy nat_cmp (last ∷ rest) → length rest ≤ others → (a ≡ face) ⊎ ((x : ℕ) × (has (above_of rows last) x ≡ true) × IsGrown k (face ++ x ∷ []) x (others - 1) a)
grown_by_one k rows face last others a [] h t e rises few = inl (e ∙ append-nil face)
grown_by_one k rows face last others a (x ∷ rest) h t e rises few =
    let f : (f : List ℕ) × (listed k.facets f ≡ true) × (holds f a ≡ true) = found_set (λ g. holds g a) k.facets t.held in
    let parts : (holds f.0 face && holds f.0 (x ∷ rest)) ≡ true = sym (list_all-append (λ y. has f.0 y) face (x ∷ rest)) ∙ ap (holds f.0) (sym e) ∙ f.2 in
    let above : last < x = less_cmp last x (above_head nat_cmp last (x ∷ rest) rises).0 in
    inr (
      x,
      in_above rows last f.0 x (ap (λ fs. listed fs f.0) h ∙ listed-filter (λ g. holds g face) k.facets f.0 ∙ both_true f.1 (first_so (holds f.0 face) (holds f.0 (x ∷ rest)) parts)) (first_so (has f.0 x) (holds f.0 rest) (second_so (holds f.0 face) (holds f.0 (x ∷ rest)) parts)) above,
      record { rest = rest; is = e ∙ sym (append_assoc face (x ∷ []) rest); rises = above_tail nat_cmp last (x ∷ rest) rises; few = omega (arith, few); held = t.held },
    )

pub grown_ends : (s : StarList) (m n : Candidates) (rows : List (List ℕ)) (face : List ℕ) (last others : ℕ) (labels : List ℕ) (i : ℕ) → FirstLook s m n (GrownSoFar face others labels i) → ((k : ComplexView) → IsStarListOf k s → rows ≡ over k.facets face) → labels ≡ above_of rows last → length labels ≤ i → FirstLook s m n (λ k a. IsGrown k face last others a)
grown_ends s m n rows face last others labels i p h is l = first_look_so s m n (GrownSoFar face others labels i) (λ k a. IsGrown k face last others a) p (λ k j a t. elim (grown_by_one k rows face last others a t.rest (h k j) t t.is t.rises t.few) [
  | inl e ↦ inl e
  | inr u ↦ inr (u.0, ap (λ xs. has xs u.0) (take_all i labels l ∙ is) ∙ u.1, u.2)
])

-- ---- from a place

first_label : (a : List ℕ) (p : ℕ) → slice_get a 0 ≡ Some p → (rest : List ℕ) × (a ≡ p ∷ rest)
first_label [] p e = absurd (none-some p e)
first_label (x ∷ xs) p e = (xs, ap (λ y. y ∷ xs) (same_Some x p e))

pub from_place : (s : StarList) (m n : Candidates) (place most : ℕ) (face : List ℕ) → FirstLook s m n (λ k a. IsGrown k face place (most - 1) a) → face ≡ place ∷ [] → ((k : ComplexView) → IsStarListOf k s → (most + most ≤ k.dim + 1) × (k.dim ≤ most + most) × (most ≤ 3)) → FirstLook s m n (λ k a. IsPartAt k place a)
from_place s m n place most face p e h = first_look_so s m n (λ k a. IsGrown k face place (most - 1) a) (λ k a. IsPartAt k place a) p (λ k i a t.
    let f : (rest : List ℕ) × (a ≡ place ∷ rest) = first_label a place t.first in
    let P : List ℕ → Type 0 = λ xs. IsStrictlySortedBy nat_cmp xs in
    record {
      rest = f.0;
      is = f.1 ∙ ap (λ xs. xs ++ f.0) (sym e);
      rises = subst P f.1 (above_tail nat_cmp 0 a t.face.rising);
      few = omega (arith, t.few, ap length f.1, (h k i).1);
      held = t.held;
    })

-- ---- for the answers

pub unwrapped : (P : Type 0) (r : Option (List ℕ)) (v w : List ℕ) → r ≡ Some w → SomeIff r P v → w ≡ v
unwrapped P None v w e s = absurd (none-some w e)
unwrapped P (Some u) v w e s = sym (same_Some u w e) ∙ s.1
