-- Rows put in and taken out, one after another.
use Rattle.std.proofs.Common.{◌≡◌, ℕ, ◌+◌, ◌<◌, ◌≤◌, zero, suc, take, get_or, Bool, true, false, not, cond, ◌||◌, ◌&&◌, nat_eq, List, [], ◌∷◌, length, sym, ◌∙◌, ap, refl, subst, arith}
use Rattle.std.specs.BTreeSet.{BTreeSet, contains}
use Rattle.std.specs.Ordering.{is_eq}
use Rattle.std.specs.Cmp.Lexicographic.{pointwise}
use Rattle.complex_core.specs.Labels.{has}
use Rattle.complex_core.proofs.Laws.{same_sets_is}
use Rattle.std.proofs.lemmas.List.Folds.{list_any-append}
use Rattle.cert_replay.specs.Rows.{Row, row_cmp, Puts, Takes}
use Rattle.cert_replay.proofs.RowOrder.{same_row}
use Rattle.std.proofs.lemmas.List.{get_or_default}
use Rattle.complex_core.proofs.Members.{taken_more}

-- ---- a position in a list

pub taken_all : {X : Type 0} (xs : List X) (i : ℕ) → length xs ≤ i → take i xs ≡ xs
taken_all [] zero h = refl
taken_all [] (suc i) h = refl
taken_all (y ∷ ys) zero h = absurd (omega (arith, h))
taken_all (y ∷ ys) (suc i) h = ap (λ zs. y ∷ zs) (taken_all ys i (omega arith))

-- ---- the rows of one facet, a label after another

-- the rows of a facet at some labels are put in
pub record PutsPart (g labels : List ℕ) (old new : BTreeSet Row) : Type 0 where
  pub each : (x : ℕ) (f : List ℕ) → contains row_cmp new (x, f) ≡ (contains row_cmp old (x, f) || (pointwise nat_eq g f && has labels x))

-- the rows of a facet at some labels are taken out
pub record TakesPart (g labels : List ℕ) (old new : BTreeSet Row) : Type 0 where
  pub each : (x : ℕ) (f : List ℕ) → contains row_cmp new (x, f) ≡ (contains row_cmp old (x, f) && not (pointwise nat_eq g f && has labels x))

or_none : (a b : Bool) → a ≡ (a || (b && false))
or_none true b = refl
or_none false true = refl
or_none false false = refl

has_next : (labels : List ℕ) (i y x : ℕ) → i < length labels → y ≡ get_or labels i y → has (take (i + 1) labels) x ≡ (has (take i labels) x || nat_eq y x)
has_next labels i y x h e = ap (λ ls. has ls x) (taken_more labels i y h e) ∙ list_any-append (λ z. nat_eq z x) (take i labels) (y ∷ []) ∙ ap (λ b. has (take i labels) x || b) (or_false (nat_eq y x))
  where
    or_false : (b : Bool) → (b || false) ≡ b
    or_false true = refl
    or_false false = refl

put_table : (n s o h : Bool) → cond (n && s) true (o || (s && h)) ≡ (o || (s && (h || n)))
put_table true true true h = refl
put_table true true false true = refl
put_table true true false false = refl
put_table true false o h = refl
put_table false s true h = refl
put_table false true false true = refl
put_table false true false false = refl
put_table false false false h = refl

take_table : (n s o h : Bool) → cond (n && s) false (o && not (s && h)) ≡ (o && not (s && (h || n)))
take_table true true true true = refl
take_table true true true false = refl
take_table true true false h = refl
take_table true false o h = refl
take_table false s false h = refl
take_table false true true true = refl
take_table false true true false = refl
take_table false false true h = refl

pub puts_label : (g labels : List ℕ) (i z : ℕ) (start old new : BTreeSet Row) → z ≡ get_or labels i 0 → i < length labels → PutsPart g (take i labels) start old → ((q : Row) → contains row_cmp new q ≡ cond (is_eq (row_cmp (z, g) q)) true (contains row_cmp old q)) → PutsPart g (take (i + 1) labels) start new
puts_label g labels i z start old new p h part step =
    let y : ℕ = get_or labels i 0 in record {
      each = λ x f.
          step (x, f)
          ∙ (λ j. cond ((ap (λ w. is_eq (row_cmp (w, g) (x, f))) p ∙ same_row y x g f) j) true (part.each x f j))
          ∙ put_table (nat_eq y x) (pointwise nat_eq g f) (contains row_cmp start (x, f)) (has (take i labels) x)
          ∙ ap (λ b. contains row_cmp start (x, f) || (pointwise nat_eq g f && b)) (sym (has_next labels i y x h (get_or_default labels i 0 y h)));
    }

pub takes_label : (g labels : List ℕ) (i z : ℕ) (start old new : BTreeSet Row) → z ≡ get_or labels i 0 → i < length labels → TakesPart g (take i labels) start old → ((q : Row) → contains row_cmp new q ≡ cond (is_eq (row_cmp (z, g) q)) false (contains row_cmp old q)) → TakesPart g (take (i + 1) labels) start new
takes_label g labels i z start old new p h part step =
    let y : ℕ = get_or labels i 0 in record {
      each = λ x f.
          step (x, f)
          ∙ (λ j. cond ((ap (λ w. is_eq (row_cmp (w, g) (x, f))) p ∙ same_row y x g f) j) false (part.each x f j))
          ∙ take_table (nat_eq y x) (pointwise nat_eq g f) (contains row_cmp start (x, f)) (has (take i labels) x)
          ∙ ap (λ b. contains row_cmp start (x, f) && not (pointwise nat_eq g f && b)) (sym (has_next labels i y x h (get_or_default labels i 0 y h)));
    }

-- a set that is the facet has its labels
own_labels : (g f : List ℕ) (x : ℕ) → (pointwise nat_eq g f && has g x) ≡ ((pointwise nat_eq g f || false) && has f x)
own_labels g f x = by_case (pointwise nat_eq g f) refl
  where
    by_case : (b : Bool) → pointwise nat_eq g f ≡ b → (b && has g x) ≡ ((b || false) && has f x)
    by_case true e = ap (λ h. has h x) (same_sets_is g f e)
    by_case false e = refl

pub puts_facet : (g labels : List ℕ) (i : ℕ) (old new : BTreeSet Row) → labels ≡ g → length labels ≤ i → PutsPart g (take i labels) old new → Puts (g ∷ []) old new
puts_facet g labels i old new p h part = record {
  each = λ x f.
      part.each x f ∙ ap (λ ls. contains row_cmp old (x, f) || (pointwise nat_eq g f && has ls x)) (taken_all labels i h ∙ p)
      ∙ ap (λ b. contains row_cmp old (x, f) || b) (own_labels g f x);
}

pub takes_facet : (g labels : List ℕ) (i : ℕ) (old new : BTreeSet Row) → labels ≡ g → length labels ≤ i → TakesPart g (take i labels) old new → Takes (g ∷ []) old new
takes_facet g labels i old new p h part = record {
  each = λ x f.
      part.each x f ∙ ap (λ ls. contains row_cmp old (x, f) && not (pointwise nat_eq g f && has ls x)) (taken_all labels i h ∙ p)
      ∙ ap (λ b. contains row_cmp old (x, f) && not b) (own_labels g f x);
}

-- ---- the rows of facets, one facet after another

pub takes_all : (all : List (List ℕ)) (i : ℕ) (start new : BTreeSet Row) → length all ≤ i → Takes (take i all) start new → Takes all start new
takes_all all i start new h p = let P : List (List ℕ) → Type 0 = λ fs. Takes fs start new in subst P (taken_all all i h) p
