-- Lists of sets: their members, their lengths, and what holds of each.
use Rattle.std.proofs.Common.{◌≡◌, ℕ, ◌+◌, ◌<◌, ◌≤◌, Bool, true, false, nat_eq, cond, ◌||◌, ◌&&◌, List, [], ◌∷◌, length, map, sym, ◌∙◌, ap, refl, subst, arith, inl, inr}
use Rattle.std.specs.List.{AllByRecursion, flat_map, list_any}
use Rattle.std.specs.Ordering.{match_ordering, ordering_reverse}
use Rattle.std.specs.declared.cmp.Ordering.TheVariants.{Less, Equal, Greater}
use Rattle.std.specs.Cmp.Lexicographic.{pointwise, nat_list_cmp_total}
use Rattle.std.proofs.lemmas.Cmp.{nat_cmp_total}
use Rattle.std.proofs.lemmas.List.Folds.{list_any-append}
use Rattle.complex_core.specs.Labels.{has, holds, face_cmp}
use Rattle.complex_core.specs.Maps.{used}
use Rattle.complex_core.specs.Rising.{put, rising}
use Rattle.complex_core.specs.Complexes.{IsFacet, over}
use Rattle.complex_core.proofs.Booleans.{and_false}
use Rattle.complex_core.proofs.Sets.{among-rising}
use Rattle.complex_core.proofs.Faces.{among-has}
use Rattle.complex_core.proofs.Sorting.{exact_faces}
use Rattle.complex_core.proofs.SubsetLists.{two, clash}
use Rattle.complex_core.proofs.Laws.{listed, listed-append, or_left, or_right, same_set_itself, same_sets_is}

pub listed-flat_map : (g : List ℕ → List (List ℕ)) (fs : List (List ℕ)) (r : List ℕ) → listed (flat_map g fs) r ≡ list_any (λ f. listed (g f) r) fs
listed-flat_map g [] r = refl
listed-flat_map g (f ∷ fs) r = listed-append (g f) (flat_map g fs) r ∙ ap (λ c. listed (g f) r || c) (listed-flat_map g fs r)

pub listed-begun : (y z : ℕ) (s : List ℕ) (ts : List (List ℕ)) → listed (map (λ t. y ∷ t) ts) (z ∷ s) ≡ (nat_eq y z && listed ts s)
listed-begun y z s [] = sym (and_false (nat_eq y z))
listed-begun y z s (t ∷ ts) = ap (λ b. (nat_eq y z && pointwise nat_eq t s) || b) (listed-begun y z s ts) ∙ one_head (nat_eq y z) (pointwise nat_eq t s) (listed ts s)
  where
    one_head : (a b c : Bool) → ((a && b) || (a && c)) ≡ (a && (b || c))
    one_head true b c = refl
    one_head false b c = refl

pub found_set : (q : List ℕ → Bool) (fs : List (List ℕ)) → list_any q fs ≡ true → (f : List ℕ) × (listed fs f ≡ true) × (q f ≡ true)
found_set q [] t = clash true refl (sym t)
found_set q (f ∷ fs) t = elim (two (q f)) [
  | inl e ↦ (f, or_left (pointwise nat_eq f f) (listed fs f) (same_set_itself f), e)
  | inr e ↦ let p : (f : List ℕ) × (listed fs f ≡ true) × (q f ≡ true) = found_set q fs (sym (ap (λ c. c || list_any q fs) e) ∙ t) in (p.0, or_right (pointwise nat_eq f p.0) (listed fs p.0) p.1, p.2)
]

-- sorting makes no sets
pub put_length : (f : List ℕ) (fs : List (List ℕ)) → length (put face_cmp f fs) ≤ length fs + 1
put_length f [] = omega arith
put_length f (g ∷ gs) = elim (face_cmp f g) as (λ o. length (match_ordering o (f ∷ g ∷ gs) (g ∷ gs) (g ∷ put face_cmp f gs)) ≤ length (g ∷ gs) + 1) [
  | Less ↦ omega arith
  | Equal ↦ omega arith
  | Greater ↦ omega (arith, put_length f gs)
]

pub rising_length : (fs : List (List ℕ)) → length (rising face_cmp fs) ≤ length fs
rising_length [] = omega arith
rising_length (f ∷ fs) = omega (arith, put_length f (rising face_cmp fs), rising_length fs)

pub of_kind : (P : List ℕ → Type 0) (xs : List (List ℕ)) (a : List ℕ) → AllByRecursion P xs → listed xs a ≡ true → P a
of_kind P [] a h t = clash true refl (sym t)
of_kind P (x ∷ xs) a h t = elim (two (pointwise nat_eq x a)) [
  | inl e ↦ subst P (same_sets_is x a e) h.0
  | inr e ↦ of_kind P xs a h.1 (sym (ap (λ b. b || listed xs a) e) ∙ t)
]

pub pure_at : (d : ℕ) (fs : List (List ℕ)) (f : List ℕ) → AllByRecursion (IsFacet d) fs → listed fs f ≡ true → IsFacet d f
pure_at d fs f h t = of_kind (IsFacet d) fs f h t

pub used_label : (fs : List (List ℕ)) (f : List ℕ) (x : ℕ) → listed fs f ≡ true → has f x ≡ true → has (used fs) x ≡ true
used_label fs f x t u = sym (among-has x (used fs)) ∙ among-rising nat_cmp_total x (flat_map (λ g. g) fs) ∙ among-has x (flat_map (λ g. g) fs) ∙ flat fs t
  where
    flat : (fs : List (List ℕ)) → listed fs f ≡ true → has (flat_map (λ g. g) fs) x ≡ true
    flat [] t = clash true refl (sym t)
    flat (g ∷ gs) t = list_any-append (λ y. nat_eq y x) g (flat_map (λ h. h) gs) ∙ elim (two (pointwise nat_eq g f)) [
      | inl e ↦ or_left (has g x) (has (flat_map (λ h. h) gs) x) (ap (λ h. has h x) (same_sets_is g f e) ∙ u)
      | inr e ↦ or_right (has g x) (has (flat_map (λ h. h) gs) x) (flat gs (ap (λ c. c || listed gs f) (sym e) ∙ t))
    ]

-- the facets that are left when those over a set are taken
pub over_twice : (fs : List (List ℕ)) (a : List ℕ) → over (over fs a) a ≡ over fs a
over_twice [] a = refl
over_twice (f ∷ fs) a = by_case (holds f a) refl (over_twice fs a)
  where
    by_case : (b : Bool) → holds f a ≡ b → over (over fs a) a ≡ over fs a → over (cond b (f ∷ over fs a) (over fs a)) a ≡ cond b (f ∷ over fs a) (over fs a)
    by_case true e h = ap (λ b. cond b (f ∷ over (over fs a) a) (over (over fs a) a)) e ∙ ap (λ gs. f ∷ gs) h
    by_case false e h = h

pub some_before_rising : (fs : List (List ℕ)) → 0 < length (rising face_cmp fs) → 0 < length fs
some_before_rising [] h = h
some_before_rising (f ∷ fs) h = omega arith

-- two sets neither of which is less are one
pub neither_less : (f g : List ℕ) → (face_cmp f g ≡ Less → ⊥) → (face_cmp g f ≡ Less → ⊥) → f ≡ g
neither_less f g p q =
    elim (face_cmp f g) as (λ o. face_cmp f g ≡ o → f ≡ g) [
      | Less ↦ λ e. absurd (p e)
      | Equal ↦ λ e. exact_faces f g e
      | Greater ↦ λ e. absurd (q (nat_list_cmp_total.antisymm g f ∙ ap ordering_reverse e))
    ] refl
