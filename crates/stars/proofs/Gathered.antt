-- The facets over a face, against those of a flip.
use Rattle.std.proofs.Common.{◌≡◌, inl, inr, ℕ, suc, ◌+◌, ◌-◌, ◌<◌, ◌≤◌, Bool, true, false, not, nat_eq, ◌||◌, ◌&&◌, cond, if◌then◌else◌, Option, Some, None, Result, List, [], ◌∷◌, length, drop, get_or, sym, ◌∙◌, ap, refl, subst, arith, eq-eqb}
use Rattle.std.specs.List.{flat_map}
use Rattle.std.specs.List.Sorted.{IsStrictlySortedBy}
use Rattle.std.specs.Option.{SomeIff}
use Rattle.std.specs.Result.{is_ok}
use Rattle.std.specs.Cmp.{first_so}
use Rattle.std.specs.Ordering.{nat_cmp}
use Rattle.std.proofs.lemmas.Cmp.{nat_cmp_total}
use Rattle.std.proofs.Math.Seq.{drop-cons}
use Rattle.std.proofs.lemmas.List.{drop_all}
use Rattle.std.proofs.lemmas.List.Folds.{list_any-append}
use Rattle.complex_core.specs.Labels.{has, holds, without, union, face_cmp}
use Rattle.complex_core.specs.Complexes.{over, is_held}
use Rattle.complex_core.specs.Maps.{used}
use Rattle.complex_core.specs.Links.{less}
use Rattle.complex_core.proofs.Sets.{sorted_rising, sorted_none, any-rising}
use Rattle.complex_core.proofs.Faces.{equal_cmp, length-union}
use Rattle.complex_core.proofs.Laws.{both_ways, nat_eq_is, has-union, or_left, sorted_union, same_labels, sorted_without, length-without}
use Rattle.complex_core.proofs.SubsetLists.{two, clash}
use Rattle.flip_rules.specs.Flips.{Shaped, join_boundary, has_shape, link_is, broken_rule_near}
use Rattle.flip_rules.specs.declared.flip.Flip.{Flip}
use Rattle.flip_rules.specs.declared.flip.Illegal.{Illegal}
use Rattle.flip_rules.proofs.Links.{have_sides, are_sides, link_tested, sides_held}
use Rattle.flip_rules.proofs.Legal.{verdict, shaped, shape_from}
use Rattle.stars.specs.Candidates.{flip_of, opposite, is_candidate, flip_at}
use Rattle.complex_core.proofs.Members.{sorted_less, has-less}

-- ---- the labels of the facets over a face, gathered one facet after another

abbrev pub gathered : List ℕ → List (List ℕ) → List ℕ → List ℕ
gathered labels [] a = labels
gathered labels (row ∷ rows) a = if holds row a then gathered (union labels row) rows a else gathered labels rows a

sorted_gathered : (labels : List ℕ) (rows : List (List ℕ)) (a : List ℕ) → IsStrictlySortedBy nat_cmp labels → IsStrictlySortedBy nat_cmp (gathered labels rows a)
sorted_gathered labels [] a r = r
sorted_gathered labels (row ∷ rows) a r =
    elim (holds row a) as (λ b. IsStrictlySortedBy nat_cmp (cond b (gathered (union labels row) rows a) (gathered labels rows a))) [
      | true ↦ sorted_gathered (union labels row) rows a (sorted_union labels row r)
      | false ↦ sorted_gathered labels rows a r
    ]

abbrev pub all_of : List (List ℕ) → List ℕ
all_of fs = flat_map (λ f. f) fs

has-gathered : (labels : List ℕ) (rows : List (List ℕ)) (a : List ℕ) (z : ℕ) → has (gathered labels rows a) z ≡ (has labels z || has (all_of (over rows a)) z)
has-gathered labels [] a z = sym (or_false (has labels z))
  where
    or_false : (b : Bool) → (b || false) ≡ b
    or_false true = refl
    or_false false = refl
has-gathered labels (row ∷ rows) a z =
    elim (holds row a) as (λ b. has (cond b (gathered (union labels row) rows a) (gathered labels rows a)) z ≡ (has labels z || has (all_of (cond b (row ∷ over rows a) (over rows a))) z)) [
      | true ↦
          has-gathered (union labels row) rows a z ∙ ap (λ b. b || has (all_of (over rows a)) z) (has-union labels row z) ∙ or_three (has labels z) (has row z) (has (all_of (over rows a)) z)
          ∙ ap (λ b. has labels z || b) (sym (list_any-append (λ y. nat_eq y z) row (all_of (over rows a))))
      | false ↦ has-gathered labels rows a z
    ]
  where
    or_three : (a b c : Bool) → ((a || b) || c) ≡ (a || (b || c))
    or_three true b c = refl
    or_three false b c = refl

pub gathered_all : (rows : List (List ℕ)) (a : List ℕ) → gathered [] rows a ≡ used (over rows a)
gathered_all rows a = same_labels (gathered [] rows a) (used (over rows a)) (sorted_gathered [] rows a (sorted_none nat_cmp)) (sorted_rising nat_cmp_total (all_of (over rows a)))
    (λ z. has-gathered [] rows a z ∙ sym (any-rising nat_cmp equal_cmp (λ y. nat_eq y z) (all_of (over rows a))))

more_gathered : (labels : List ℕ) (rows : List (List ℕ)) (a : List ℕ) → length labels ≤ length (gathered labels rows a)
more_gathered labels [] a = omega arith
more_gathered labels (row ∷ rows) a =
    elim (holds row a) as (λ b. length labels ≤ length (cond b (gathered (union labels row) rows a) (gathered labels rows a))) [
      | true ↦ omega (arith, length-union labels row, more_gathered (union labels row) rows a)
      | false ↦ more_gathered labels rows a
    ]

drop_row : (rows : List (List ℕ)) (i : ℕ) (d : List ℕ) → i < length rows → drop i rows ≡ get_or rows i d ∷ drop (i + 1) rows
drop_row rows i d l = drop-cons rows i d l ∙ ap (λ k. get_or rows i d ∷ drop k rows) (let e : suc i ≡ i + 1 = omega arith in e)

-- one row more
pub row_gathered : (labels : List ℕ) (rows : List (List ℕ)) (a row : List ℕ) (i : ℕ) → i < length rows → row ≡ get_or rows i row → holds row a ≡ true → gathered labels (drop i rows) a ≡ gathered (union labels row) (drop (i + 1) rows) a
row_gathered labels rows a row i l e h =
    ap (λ rs. gathered labels rs a) (drop_row rows i row l ∙ ap (λ r. r ∷ drop (i + 1) rows) (sym e))
    ∙ ap (λ b. cond b (gathered (union labels row) (drop (i + 1) rows) a) (gathered labels (drop (i + 1) rows) a)) h

pub too_many : (rows more : List (List ℕ)) (a labels : List ℕ) (most : ℕ) → gathered [] rows a ≡ gathered labels more a → (length labels ≤ most → ⊥) → length (used (over rows a)) ≤ most → ⊥
too_many rows more a labels most e n h = n (omega (arith, more_gathered labels more a, ap length (sym e ∙ gathered_all rows a), h))

-- ---- the labels that are left beside the face

one_less : (xs : List ℕ) (x : ℕ) → IsStrictlySortedBy nat_cmp xs → length xs ≤ length (without xs x) + 1
one_less [] x r = omega arith
one_less (y ∷ ys) x r = elim (two (has (y ∷ ys) x)) [
  | inl e ↦ omega (arith, length-without (y ∷ ys) x r e)
  | inr e ↦ omega (arith, ap length (unchanged (y ∷ ys) x e))
]
  where
    unchanged : (xs : List ℕ) (x : ℕ) → has xs x ≡ false → without xs x ≡ xs
    unchanged [] x e = refl
    unchanged (z ∷ zs) x e = elim (two (nat_eq z x)) [
      | inl t ↦ clash (has (z ∷ zs) x) (or_left (nat_eq z x) (has zs x) t) e
      | inr f ↦ ap (λ b. cond (not b) (z ∷ without zs x) (without zs x)) f ∙ ap (λ ws. z ∷ ws) (unchanged zs x (sym (ap (λ b. b || has zs x) f) ∙ e))
    ]

pub length_less : (xs ys : List ℕ) → IsStrictlySortedBy nat_cmp xs → length xs ≤ length (less xs ys) + length ys
length_less xs [] r = omega arith
length_less xs (y ∷ ys) r = omega (arith, one_less xs y r, length_less (without xs y) ys (sorted_without xs y r))

pub sorted_opposite : (rows : List (List ℕ)) (a : List ℕ) → IsStrictlySortedBy nat_cmp (opposite rows a)
sorted_opposite rows a = sorted_less (used (over rows a)) a (sorted_rising nat_cmp_total (all_of (over rows a)))

-- A and the labels beside it share none
pub apart : (rows : List (List ℕ)) (a : List ℕ) (x : ℕ) → has a x ≡ true → has (opposite rows a) x ≡ false
apart rows a x h = has-less (used (over rows a)) a x ∙ ap (λ b. has (used (over rows a)) x && not b) h ∙ and_false (has (used (over rows a)) x)
  where
    and_false : (b : Bool) → (b && false) ≡ false
    and_false true = refl
    and_false false = refl

-- ---- the flip, judged

-- how many labels the other side has
abbrev rest_size : ℕ → List ℕ → ℕ
rest_size d a = d + 2 - length a

shape_of : (d : ℕ) (rows : List (List ℕ)) (a : List ℕ) → 0 < length a → length a ≤ d → length (opposite rows a) ≡ rest_size d a → Shaped d a (opposite rows a)
shape_of d rows a some small e = record {
  first = λ z. omega (arith, z, some);
  second = λ z. omega (arith, z, small, e);
  apart = apart rows a;
  sizes = omega (arith, e, small);
}

has_shape_is : (d : ℕ) (rows : List (List ℕ)) (a : List ℕ) → 0 < length a → length a ≤ d → has_shape d a (opposite rows a) ≡ nat_eq (length (opposite rows a)) (rest_size d a)
has_shape_is d rows a some small = both_ways (has_shape d a (opposite rows a)) (nat_eq (length (opposite rows a)) (rest_size d a))
    (λ t. eq-eqb (length (opposite rows a)) (rest_size d a) (let e : length (opposite rows a) ≡ rest_size d a = omega (arith, (shaped d a (opposite rows a) t).sizes) in e))
    (λ t. shape_from d a (opposite rows a) (shape_of d rows a some small (nat_eq_is (length (opposite rows a)) (rest_size d a) t)))

held_by_link : (rows : List (List ℕ)) (a b : List ℕ) → IsStrictlySortedBy face_cmp rows → 0 < length b → link_is rows a b ≡ true → is_held rows a ≡ true
held_by_link rows a b r some t = sides_held rows a b some (first_so (have_sides rows (join_boundary a b)) (are_sides rows a (join_boundary a b)) (link_tested rows a b r ∙ t))

verdict_ok : (s h l n : Bool) → s ≡ n → (n ≡ true → l ≡ true → h ≡ true) → is_ok (verdict s h l false) ≡ (n && l)
verdict_ok true true true n e f = ap (λ b. b && true) e
verdict_ok true true false true e f = refl
verdict_ok true true false false e f = refl
verdict_ok true false true true e f = clash false (f refl refl) refl
verdict_ok true false true false e f = refl
verdict_ok true false false true e f = refl
verdict_ok true false false false e f = refl
verdict_ok false h l n e f = ap (λ b. b && l) e

pub judged : (d : ℕ) (rows : List (List ℕ)) (a : List ℕ) → IsStrictlySortedBy face_cmp rows → 0 < length a → length a ≤ d → is_ok (broken_rule_near d rows [] a (opposite rows a)) ≡ is_candidate rows (rest_size d a) a
judged d rows a r some small =
    let b : List ℕ = opposite rows a in
    verdict_ok (has_shape d a b) (is_held rows a) (link_is rows a b) (nat_eq (length b) (rest_size d a)) (has_shape_is d rows a some small)
    (λ t l. held_by_link rows a b r (let g : 0 < length b = omega (arith, nat_eq_is (length b) (rest_size d a) t, small) in g) l)

chosen_by : (c : Bool) (f : Flip) → c ≡ true → Some f ≡ (if c then Some f else None)
chosen_by c f e = sym (ap (λ b. cond b (Some f) None) e)

none_by : (c : Bool) (f : Flip) → c ≡ false → None ≡ (if c then Some f else None)
none_by c f e = sym (ap (λ b. cond b (Some f) None) e)

abbrev pub judgement : ℕ → List (List ℕ) → List ℕ → List ℕ → Result (Unit {0}) Illegal
judgement d rows a b = broken_rule_near d rows [] a b

pub flip_found : (d : ℕ) (rows : List (List ℕ)) (a labels b : List ℕ) (r : Result (Unit {0}) Illegal) → labels ≡ used (over rows a) → b ≡ less labels a → r ≡ broken_rule_near d rows [] a b → is_ok r ≡ true → Some (flip_of a b) ≡ flip_at d rows a
flip_found d rows a labels b r e is w ok =
    let s : b ≡ opposite rows a = is ∙ ap (λ ls. less ls a) e in
    ap (λ c. Some (flip_of a c)) s
    ∙ chosen_by (is_ok (judgement d rows a (opposite rows a))) (flip_of a (opposite rows a)) (ap (λ c. is_ok (judgement d rows a c)) (sym s) ∙ ap is_ok (sym w) ∙ ok)

pub flip_missed : (d : ℕ) (rows : List (List ℕ)) (a labels b : List ℕ) (r : Result (Unit {0}) Illegal) (o : Option Flip) → labels ≡ used (over rows a) → b ≡ less labels a → r ≡ broken_rule_near d rows [] a b → is_ok r ≡ false → o ≡ None → o ≡ flip_at d rows a
flip_missed d rows a labels b r o e is w ok none =
    let s : b ≡ opposite rows a = is ∙ ap (λ ls. less ls a) e in
    none ∙ none_by (is_ok (judgement d rows a (opposite rows a))) (flip_of a (opposite rows a)) (ap (λ c. is_ok (judgement d rows a c)) (sym s) ∙ ap is_ok (sym w) ∙ ok)

-- too many labels for a flip
no_shape : (s h l : Bool) → s ≡ false → is_ok (verdict s h l false) ≡ false
no_shape true h l e = cc
no_shape false h l e = refl

pub flip_too_large : (d : ℕ) (rows : List (List ℕ)) (a : List ℕ) (r : Option (List ℕ)) (o : Option Flip) → r ≡ None → SomeIff r (length (used (over rows a)) ≤ d + 2) (used (over rows a)) → o ≡ None → o ≡ flip_at d rows a
flip_too_large d rows a r o e s none =
    none ∙ none_by (is_ok (judgement d rows a (opposite rows a))) (flip_of a (opposite rows a)) (no_shape (has_shape d a (opposite rows a)) (is_held rows a) (link_is rows a (opposite rows a)) unshaped)
  where
    many : length (used (over rows a)) ≤ d + 2 → ⊥
    many = let P : Option (List ℕ) → Type 0 = λ q. SomeIff q (length (used (over rows a)) ≤ d + 2) (used (over rows a)) in subst P e s

    unshaped : has_shape d a (opposite rows a) ≡ false
    unshaped = elim (two (has_shape d a (opposite rows a))) [
      | inl t ↦ absurd (many (omega (arith, length_less (used (over rows a)) a (sorted_rising nat_cmp_total (all_of (over rows a))), (shaped d a (opposite rows a) t).sizes)))
      | inr f ↦ f
    ]

-- ---- for the answers

pub none_of : {P : Type 0} (v : List ℕ) (r : Option (List ℕ)) → r ≡ None → (P → ⊥) → SomeIff r P v
none_of {P} v r e h = let Q : Option (List ℕ) → Type 0 = λ o. SomeIff o P v in subst Q (sym e) h

pub gathered_end : (rows : List (List ℕ)) (a labels : List ℕ) (i most : ℕ) → length rows ≤ i → gathered [] rows a ≡ gathered labels (drop i rows) a → length labels ≤ most → (length (used (over rows a)) ≤ most) × (labels ≡ used (over rows a))
gathered_end rows a labels i most l e few =
    let is : labels ≡ used (over rows a) = sym (e ∙ ap (λ rs. gathered labels rs a) (drop_all i rows l)) ∙ gathered_all rows a in
    let small : length (used (over rows a)) ≤ most = omega (arith, ap length is, few) in
    (small, is)
