-- The labels of a set and of the facets over it.
use Rattle.std.proofs.Common.{◌≡◌, ◌≢◌, ℕ, ◌+◌, ◌<◌, ◌≤◌, zero, suc, Bool, true, false, not, cond, nat_eq, ◌||◌, ◌&&◌, List, [], ◌∷◌, length, take, get_or, sym, ◌∙◌, ap, refl, subst, arith, ◌⊎◌, inl, inr}
use Rattle.std.specs.List.Sorted.{IsStrictlySortedBy}
use Rattle.std.specs.Ordering.{nat_cmp}
use Rattle.std.specs.Cmp.{first_so, second_so}
use Rattle.std.specs.Cmp.Derive.{both_true}
use Rattle.std.specs.Cmp.Lexicographic.{pointwise}
use Rattle.std.proofs.lemmas.Bool.{cases_lt, false_from_ne_true, or_cases}
use Rattle.std.proofs.lemmas.List.{take_more, take_all}
use Rattle.std.proofs.lemmas.List.Filters.{length-filter_more}
use Rattle.complex_core.specs.Labels.{IsFace, has, holds, union, without}
use Rattle.complex_core.specs.Links.{less}
use Rattle.complex_core.specs.Complexes.{ComplexView, over, is_facet}
use Rattle.complex_core.proofs.Sets.{above_tail}
use Rattle.complex_core.proofs.SubsetLists.{fewer, clash}
use Rattle.complex_core.proofs.Laws.{both_ways, has-union, holds_has, holds_each, or_left, or_right, listed, listed-filter, listed-append, nat_eq_is, same_labels, same_set_itself, sorted_union, length-union_apart}
use Rattle.flip_rules.specs.Flips.{Legal}
use Rattle.flip_rules.proofs.Links.{side}
use Rattle.flip_rules.proofs.Legal.{legal}
use Rattle.pseudo_test.proofs.Subsets.{holds_through}
use Rattle.descent_laws.specs.Descents.{IsReducing}
use Rattle.descent_laws.proofs.Reducing.{other_label, side_there, side_back, two_at_least}
use Rattle.descent_laws.proofs.Falling.{many_sides}
use Rattle.flip_options.specs.Candidates.{HoldsOver, IsJoin, TooMany, flip_from}
use Rattle.complex_core.proofs.Members.{without_has, in_without, sorted_less, has-less}
use Rattle.stars.proofs.Flipping.{labels_held}
use Rattle.descent_laws.proofs.Edges.{one_listed}

-- what is joined before the row at a place
pub record JoinSoFar (rows : List (List ℕ)) (set : List ℕ) (i : ℕ) (all : List ℕ) : Type 0 where
  pub face : IsFace all
  pub own : holds all set ≡ true
  pub each : (f : List ℕ) → is_facet (over (take i rows) set) f ≡ true → holds all f ≡ true
  pub least : (w : List ℕ) → HoldsOver rows set w → holds w all ≡ true

pub holds_itself : (f : List ℕ) → holds f f ≡ true
holds_itself f = holds_each f f (λ z t. t)

-- a row over the set, before the next place, stands there or earlier
pub next_row : (rows : List (List ℕ)) (set : List ℕ) (i : ℕ) (row f : List ℕ) → i < length rows → row ≡ get_or rows i row → is_facet (over (take (i + 1) rows) set) f ≡ true → (is_facet (over (take i rows) set) f ≡ true) ⊎ (f ≡ row)
next_row rows set i row f l e t =
    let u : (listed (take (i + 1) rows) f && holds f set) ≡ true = sym (listed-filter (λ g. holds g set) (take (i + 1) rows) f) ∙ t in
    let v : (listed (take i rows) f || listed (get_or rows i row ∷ []) f) ≡ true = sym (listed-append (take i rows) (get_or rows i row ∷ []) f) ∙ ap (λ gs. listed gs f) (sym (take_more rows i row l)) ∙ first_so (listed (take (i + 1) rows) f) (holds f set) u in
    elim (or_cases (listed (take i rows) f) (listed (get_or rows i row ∷ []) f) v) [
      | inl p ↦ inl (listed-filter (λ g. holds g set) (take i rows) f ∙ both_true p (second_so (listed (take (i + 1) rows) f) (holds f set) u))
      | inr p ↦ inr (one_listed (get_or rows i row) f p ∙ sym e)
    ]

pub listed_at : (rows : List (List ℕ)) (i : ℕ) (row : List ℕ) → i < length rows → row ≡ get_or rows i row → listed rows row ≡ true
listed_at [] i row l e = absurd (omega (arith, l))
listed_at (x ∷ xs) zero row l e = or_left (pointwise nat_eq x row) (listed xs row) (ap (λ g. pointwise nat_eq g row) (sym e) ∙ same_set_itself row)
listed_at (x ∷ xs) (suc i) row l e = or_right (pointwise nat_eq x row) (listed xs row) (listed_at xs i row (omega (arith, l)) e)

over_at : (rows : List (List ℕ)) (set : List ℕ) (i : ℕ) (row : List ℕ) → i < length rows → row ≡ get_or rows i row → holds row set ≡ true → is_facet (over rows set) row ≡ true
over_at rows set i row l e h = listed-filter (λ g. holds g set) rows row ∙ both_true (listed_at rows i row l e) h

union_first : (f g : List ℕ) → holds (union f g) f ≡ true
union_first f g = holds_each (union f g) f (λ z t. has-union f g z ∙ or_left (has f z) (has g z) t)

pub union_second : (f g : List ℕ) → holds (union f g) g ≡ true
union_second f g = holds_each (union f g) g (λ z t. has-union f g z ∙ or_right (has f z) (has g z) t)

pub so_far_start : (rows : List (List ℕ)) (set : List ℕ) → IsFace set → JoinSoFar rows set 0 set
so_far_start rows set f = record { face = f; own = holds_itself set; each = λ g t. clash (is_facet (over (take 0 rows) set) g) t refl; least = λ w h. h.own }

pub so_far_skip : (rows : List (List ℕ)) (set : List ℕ) (i : ℕ) (row all now : List ℕ) → JoinSoFar rows set i all → i < length rows → row ≡ get_or rows i row → holds row set ≡ false → now ≡ all → JoinSoFar rows set (i + 1) now
so_far_skip rows set i row all now j l e h same = let P : List ℕ → Type 0 = λ g. JoinSoFar rows set (i + 1) g in subst P (sym same) (record {
  face = j.face;
  own = j.own;
  each = λ f t. elim (next_row rows set i row f l e t) [
    | inl p ↦ j.each f p
    | inr p ↦ clash (holds row set) (ap (λ g. holds g set) (sym p) ∙ second_so (listed (take (i + 1) rows) f) (holds f set) (sym (listed-filter (λ g. holds g set) (take (i + 1) rows) f) ∙ t)) h
  ];
  least = j.least;
})

pub so_far_more : (rows : List (List ℕ)) (set : List ℕ) (i : ℕ) (row all more now : List ℕ) → JoinSoFar rows set i all → i < length rows → row ≡ get_or rows i row → holds row set ≡ true → more ≡ union all row → IsFace more → now ≡ more → JoinSoFar rows set (i + 1) now
so_far_more rows set i row all more now j l e h is face same = let P : List ℕ → Type 0 = λ g. JoinSoFar rows set (i + 1) g in subst P (sym (same ∙ is)) (record {
  face = let Q : List ℕ → Type 0 = λ g. IsFace g in subst Q is face;
  own = holds_through (union all row) all set (union_first all row) j.own;
  each = λ f t. elim (next_row rows set i row f l e t) [
    | inl p ↦ holds_through (union all row) all f (union_first all row) (j.each f p)
    | inr p ↦ ap (holds (union all row)) p ∙ union_second all row
  ];
  least = λ w g. labels_held w all row (j.least w g) (g.each row (over_at rows set i row l e h));
})

pub too_many : (rows : List (List ℕ)) (set : List ℕ) (i : ℕ) (row all : List ℕ) (most : ℕ) → JoinSoFar rows set i all → i < length rows → row ≡ get_or rows i row → holds row set ≡ true → most < length (union all row) → TooMany rows set most
too_many rows set i row all most j l e h many w s n g =
    absurd (omega (arith, fewer (union all row) w (sorted_union all row (above_tail nat_cmp 0 all j.face.rising)) s (labels_held w all row (j.least w g) (g.each row (over_at rows set i row l e h))), n, many))

pub so_far_end : (rows : List (List ℕ)) (set : List ℕ) (i : ℕ) (all : List ℕ) → JoinSoFar rows set i all → length rows ≤ i → IsJoin rows set all
so_far_end rows set i all j l = record {
  face = j.face;
  has = record { own = j.own; each = λ f t. j.each f (ap (λ gs. is_facet (over gs set) f) (take_all i rows l) ∙ t) };
  least = j.least;
}

above_most : (n m : ℕ) → (n ≤ 8 → ⊥) → m ≤ 8 → m < n
above_most n m h l = elim (cases_lt m n) [ inl p ↦ p | inr p ↦ absurd (h (omega (arith, p, l))) ]

pub none_joined : (rows : List (List ℕ)) (set : List ℕ) (i : ℕ) (row all : List ℕ) (most : ℕ) → JoinSoFar rows set i all → i < length rows → row ≡ get_or rows i row → holds row set ≡ true → most ≤ 8 → (length (union all row) ≤ 8 → ⊥) → TooMany rows set most
none_joined rows set i row all most j l e h m n = too_many rows set i row all most j l e h (above_most (length (union all row)) most n m)

-- ---- how many rows there are

over_more : (rows : List (List ℕ)) (set : List ℕ) (i : ℕ) (row : List ℕ) → i < length rows → row ≡ get_or rows i row → length (over (take (i + 1) rows) set) ≡ length (over (take i rows) set) + cond (holds row set) 1 0
over_more rows set i row l e = length-filter_more (λ f. holds f set) rows i row l ∙ ap (λ f. length (over (take i rows) set) + cond (holds f set) 1 0) (sym e)

over_within : (rows : List (List ℕ)) (set : List ℕ) (i : ℕ) → length (over (take i rows) set) ≤ length (over rows set)
over_within rows set zero = omega arith
over_within [] set (suc i) = omega arith
over_within (x ∷ xs) set (suc i) =
    elim (holds x set) as (λ c. length (cond c (x ∷ over (take i xs) set) (over (take i xs) set)) ≤ length (cond c (x ∷ over xs set) (over xs set))) [
      | true ↦ omega (arith, over_within xs set i)
      | false ↦ over_within xs set i
    ]

-- one row more than so many
pub too_many_rows : (rows : List (List ℕ)) (set : List ℕ) (i : ℕ) (row : List ℕ) (found count : ℕ) → found ≡ length (over (take i rows) set) → i < length rows → row ≡ get_or rows i row → holds row set ≡ true → found ≡ count → false ≡ nat_eq (length (over rows set)) count
too_many_rows rows set i row found count s l e t n = sym (false_from_ne_true (nat_eq (length (over rows set)) count) (λ q.
    let same : length (over rows set) ≡ count = nat_eq_is (length (over rows set)) count q in
    absurd (omega (arith, s, over_more rows set i row l e, ap {B = ℕ} (λ c. cond c 1 0) t, over_within rows set (i + 1), n, same))))

-- ---- the B of a legal flip

flip_over : (k : ComplexView) (rows : List (List ℕ)) (a b : List ℕ) → over rows a ≡ over k.facets a → Legal k a b → HoldsOver rows a (union a b)
flip_over k rows a b e l = record {
  own = union_first a b;
  each = λ f t.
      let x : (x : ℕ) × (has b x ≡ true) × (f ≡ side a b x) = side_back k a b f l (ap (λ gs. is_facet gs f) (sym e) ∙ t) in
      ap (holds (union a b)) x.2 ∙ labels_held (union a b) a (without b x.0) (union_first a b) (holds_each (union a b) (without b x.0) (λ z u. has-union a b z ∙ or_right (has a z) (has b z) (without_has b x.0 z u)));
}

flip_size : (k : ComplexView) (a b : List ℕ) → IsReducing k (flip_from a b) → length (union a b) ≡ k.dim + 2
flip_size k a b r =
    let l : Legal k a b = legal k a b r.legal in
    omega (arith, length-union_apart a b (above_tail nat_cmp 0 b r.faces.second.rising) (λ z t. false_from_ne_true (has a z) (λ u. clash {P = ⊥} (has b z) t (l.shape.apart z u))), l.shape.sizes)

flip_sorted : (k : ComplexView) (a b : List ℕ) → IsReducing k (flip_from a b) → IsStrictlySortedBy nat_cmp (union a b)
flip_sorted k a b r = sorted_union a b (above_tail nat_cmp 0 a r.faces.first.rising)

-- where there are too many labels over A, there is no flip
pub none_fits : (k : ComplexView) (rows : List (List ℕ)) (a b : List ℕ) (most : ℕ) → over rows a ≡ over k.facets a → most ≡ k.dim + 2 → TooMany rows a most → IsReducing k (flip_from a b) → ⊥
none_fits k rows a b most e m many r = many (union a b) (flip_sorted k a b r) (omega (arith, flip_size k a b r, m)) (flip_over k rows a b e (legal k a b r.legal))

-- else they are those of A and B
pub join_is : (k : ComplexView) (rows : List (List ℕ)) (a b all : List ℕ) → over rows a ≡ over k.facets a → IsJoin rows a all → IsReducing k (flip_from a b) → all ≡ union a b
join_is k rows a b all e j r =
    let l : Legal k a b = legal k a b r.legal in
    same_labels all (union a b) (above_tail nat_cmp 0 all j.face.rising) (flip_sorted k a b r) (λ z.
    both_ways (has all z) (has (union a b) z)
    (λ t. holds_has (union a b) all z (j.least (union a b) (flip_over k rows a b e l)) t)
    (λ t. elim (or_cases (has a z) (has b z) (sym (has-union a b z) ∙ t)) [
      | inl u ↦ holds_has all a z j.has.own u
      | inr u ↦
          let y : (y : ℕ) × (has b y ≡ true) × (z ≢ y) = other_label b z (above_tail nat_cmp 0 b r.faces.second.rising) (two_at_least k (flip_from a b) r) in
          holds_has all (side a b y.0) z (j.has.each (side a b y.0) (ap (λ gs. is_facet gs (side a b y.0)) e ∙ side_there k a b y.0 l y.1))
          (has-union a (without b y.0) z ∙ or_right (has a z) (has (without b y.0) z) (in_without b y.0 z u y.2))
    ]))

pub join_size : (k : ComplexView) (rows : List (List ℕ)) (a b all : List ℕ) → over rows a ≡ over k.facets a → IsJoin rows a all → IsReducing k (flip_from a b) → length all ≡ k.dim + 2
join_size k rows a b all e j r = ap length (join_is k rows a b all e j r) ∙ flip_size k a b r

-- B is what is left of them without A
pub less_is : (k : ComplexView) (a b all : List ℕ) → all ≡ union a b → IsReducing k (flip_from a b) → less all a ≡ b
less_is k a b all e r =
    let l : Legal k a b = legal k a b r.legal in
    ap (λ f. less f a) e ∙ same_labels (less (union a b) a) b (sorted_less (union a b) a (flip_sorted k a b r)) (above_tail nat_cmp 0 b r.faces.second.rising) (λ z.
    has-less (union a b) a z ∙ ap (λ c. c && not (has a z)) (has-union a b z) ∙ second (has a z) (has b z) (l.shape.apart z))
  where
    second : (p q : Bool) → (p ≡ true → q ≡ false) → ((p || q) && not p) ≡ q
    second true true h = sym (h refl)
    second true false h = refl
    second false true h = refl
    second false false h = refl

pub long_join : (all row more : List ℕ) (most n : ℕ) → most < n → n ≡ length more → more ≡ union all row → most < length (union all row)
long_join all row more most n l e is = omega (arith, l, e, ap length is)

-- there is a facet over A for each label of B
pub rows_over : (k : ComplexView) (a b : List ℕ) → IsReducing k (flip_from a b) → length (over k.facets a) ≡ length b
rows_over k a b r =
    let l : Legal k a b = legal k a b r.legal in
    ap length l.link ∙ many_sides a b l.shape.apart b (above_tail nat_cmp 0 b r.faces.second.rising) (λ x t. t)
