-- A flip on the stars of its own labels.
use Rattle.std.proofs.Common.{◌≡◌, ℕ, ◌<◌, ◌≤◌, get_or, Bool, true, false, cond, not, nat_eq, if◌then◌else◌, ◌||◌, List, [], ◌∷◌, ◌++◌, length, map, Ok, sym, ◌∙◌, ap, refl, subst, arith}
use Rattle.std.specs.List.{filter, AllByRecursion}
use Rattle.std.proofs.lemmas.List.{length-map, get_or-map}
use Rattle.std.proofs.lemmas.List.Filters.{length-filter_both}
use Rattle.complex_core.proofs.Exchanges.{both_fit}
use Rattle.complex_core.specs.Labels.{IsFace, IsRising, has, holds, union, without, face_cmp}
use Rattle.std.specs.Ordering.{nat_cmp}
use Rattle.complex_core.specs.Rising.{rising}
use Rattle.complex_core.specs.Complexes.{ComplexView, IsComplex, IsFacet, over, beside, staying, is_facet}
use Rattle.complex_core.proofs.Sets.{above_tail}
use Rattle.std.specs.Cmp.{first_so}
use Rattle.complex_core.proofs.Laws.{has-union, has-without, holds_each, holds_has, length_union_le}
use Rattle.flip_rules.specs.Flips.{broken_rule, flipped, join_boundary, Legal, CanPut, OfFaces}
use Rattle.flip_rules.proofs.Legal.{legal}
use Rattle.flip_rules.proofs.Links.{staying_sides}
use Rattle.flip_rules.proofs.Replays.{complex_flipped}
use Rattle.flip_rules.proofs.Back.{undoes}
use Rattle.flip_rules.specs.declared.flip.Flip.{Flip}
use Rattle.star_laws.specs.Stars.{star, star_after}
use Rattle.star_laws.proofs.FlipStars.{star_flipped as star_seen, other_star}
use Rattle.stars.specs.StarViews.{VertexStar, KeptStar, shown, rooms, counts, EachAtMost, vertices, IsStarOf, AreStarsOf}
use Rattle.stars.specs.FlipsHere.{star_flipped, stars_flipped, UndoLaw}
use Rattle.stars.specs.Changes.{star_changed, stars_changed, CanChange, HasRoom, HasSpare, AreWithin, IsWithin}
use Rattle.stars.proofs.Finding.{shown_at, length-shown}
use Rattle.stars.proofs.Changing.{changed_at, length-changed}

-- two tests in either order
filter_swap : (p q : List ℕ → Bool) (fs : List (List ℕ)) → filter p (filter q fs) ≡ filter q (filter p fs)
filter_swap p q [] = refl
filter_swap p q (f ∷ fs) = both (filter_swap p q fs) (p f) (q f) refl refl
  where
    both : filter p (filter q fs) ≡ filter q (filter p fs) → (b c : Bool) → p f ≡ b → q f ≡ c → filter p (filter q (f ∷ fs)) ≡ filter q (filter p (f ∷ fs))
    both h true true e g =
        ap (λ t. filter p (cond t (f ∷ filter q fs) (filter q fs))) g ∙ ap (λ t. cond t (f ∷ filter p (filter q fs)) (filter p (filter q fs))) e
        ∙ ap (λ gs. f ∷ gs) h
        ∙ sym (ap (λ t. filter q (cond t (f ∷ filter p fs) (filter p fs))) e ∙ ap (λ t. cond t (f ∷ filter q (filter p fs)) (filter q (filter p fs))) g)
    both h true false e g =
        ap (λ t. filter p (cond t (f ∷ filter q fs) (filter q fs))) g
        ∙ h
        ∙ sym (ap (λ t. filter q (cond t (f ∷ filter p fs) (filter p fs))) e ∙ ap (λ t. cond t (f ∷ filter q (filter p fs)) (filter q (filter p fs))) g)
    both h false true e g =
        ap (λ t. filter p (cond t (f ∷ filter q fs) (filter q fs))) g ∙ ap (λ t. cond t (f ∷ filter p (filter q fs)) (filter p (filter q fs))) e
        ∙ h
        ∙ sym (ap (λ t. filter q (cond t (f ∷ filter p fs) (filter p fs))) e)
    both h false false e g =
        ap (λ t. filter p (cond t (f ∷ filter q fs) (filter q fs))) g
        ∙ h
        ∙ sym (ap (λ t. filter q (cond t (f ∷ filter p fs) (filter p fs))) e)

-- to take the sides out of a star is to take out its rows that contain A
staying_star : (fs : List (List ℕ)) (a b : List ℕ) (v : ℕ) → over fs a ≡ rising face_cmp (join_boundary a b) → staying (star fs v) (join_boundary a b) ≡ beside (star fs v) a
staying_star fs a b v e =
    filter_swap (λ f. not (is_facet (join_boundary a b) f)) (λ f. holds f (v ∷ [])) fs
    ∙ ap (λ gs. star gs v) (staying_sides fs a b e)
    ∙ filter_swap (λ f. holds f (v ∷ [])) (λ f. not (holds f a)) fs

-- ---- what the change asks

pub union_fits : (d : ℕ) (a b : List ℕ) → CanPut d a b → length (union a b) ≤ 8
union_fits d a b p = omega (arith, p.few, length_union_le a b)

all_dims : (near : List VertexStar) (k : ComplexView) (more : List (List ℕ)) → AllByRecursion (IsStarOf k) near → AllByRecursion (IsFacet k.dim) more → AllByRecursion (λ d. AllByRecursion (IsFacet d) more) (map (λ (s : VertexStar). s.dim) near)
all_dims [] k more h p = tt
all_dims (s ∷ near) k more h p = (let P : ℕ → Type 0 = λ d. AllByRecursion (IsFacet d) more in subst P (sym h.0.dim) p, all_dims near k more h.1 p)

pub labels_held : (vs a b : List ℕ) → holds vs a ≡ true → holds vs b ≡ true → holds vs (union a b) ≡ true
labels_held vs a b p q = holds_each vs (union a b) (λ z t. either (has a z) (has b z) (has vs z) (sym (has-union a b z) ∙ t) (λ h. holds_has vs a z p h) (λ h. holds_has vs b z q h))
  where
    either : (x y z : Bool) → (x || y) ≡ true → (x ≡ true → z ≡ true) → (y ≡ true → z ≡ true) → z ≡ true
    either true y z h f g = f refl
    either false y z h f g = g h

pub can_change : (k : ComplexView) (near : List VertexStar) (a b labels : List ℕ) (more : List (List ℕ)) → AreStarsOf k near → holds (vertices near) labels ≡ true → CanPut k.dim a b → IsFace labels → more ≡ join_boundary b a → CanChange near labels more
can_change k near a b labels more h held put face em =
    let P : List (List ℕ) → Type 0 = λ fs. CanChange near labels fs in
    subst P (sym em) (record {
      rising = h.rising;
      labels_rise = above_tail nat_cmp 0 labels face.rising;
      held = held;
      few = omega (arith, put.few, length-map a (λ x. union b (without a x)));
      pure = all_dims near k (join_boundary b a) h.each put.pure;
    })

-- what it takes out and puts in lies within its labels
in_either : (p q r : Bool) → (p || r) ≡ true → (r ≡ true → q ≡ true) → (p || q) ≡ true
in_either true q r t g = refl
in_either false q r t g = g t

either_way : (p q : Bool) → (p || q) ≡ true → (q || p) ≡ true
either_way true true t = refl
either_way true false t = refl
either_way false q t = let e : q ≡ true = t in ap (λ c. c || false) e

side_within : (a b : List ℕ) (x : ℕ) → holds (union a b) (union a (without b x)) ≡ true
side_within a b x = holds_each (union a b) (union a (without b x)) (λ z u.
    has-union a b z
    ∙ in_either (has a z) (has b z) (has (without b x) z) (sym (has-union a (without b x) z) ∙ u) (λ v. first_so (has b z) (not (nat_eq z x)) (sym (has-without b x z) ∙ v)))

turned_within : (a b f : List ℕ) → holds (union b a) f ≡ true → holds (union a b) f ≡ true
turned_within a b f h = holds_each (union a b) f (λ z u. has-union a b z ∙ either_way (has b z) (has a z) (sym (has-union b a z) ∙ holds_has (union b a) f z h u))

sides_within : (a b xs : List ℕ) → AreWithin (union a b) (map (λ x. union a (without b x)) xs)
sides_within a b [] = tt
sides_within a b (x ∷ xs) = (side_within a b x, sides_within a b xs)

all_turned : (a b : List ℕ) (fs : List (List ℕ)) → AreWithin (union b a) fs → AreWithin (union a b) fs
all_turned a b [] h = tt
all_turned a b (f ∷ fs) h = (turned_within a b f h.0, all_turned a b fs h.1)

pub change_within : (a b labels : List ℕ) (out more : List (List ℕ)) → IsFace labels → labels ≡ union a b → out ≡ join_boundary a b → more ≡ join_boundary b a → IsWithin labels out more
change_within a b labels out more face el eo em =
    let P : List ℕ → List (List ℕ) → Type 0 = λ ls fs. AreWithin ls fs in
    record {
      rising = above_tail nat_cmp 0 labels face.rising;
      gone = subst (λ ls. P ls out) (sym el) (subst (P (union a b)) (sym eo) (sides_within a b b));
      come = subst (λ ls. P ls more) (sym el) (subst (P (union a b)) (sym em) (all_turned a b (join_boundary b a) (sides_within b a a)));
    }

-- ---- what it makes

one_flipped : (k : ComplexView) (a b labels : List ℕ) (s : VertexStar) → Legal k a b → IsStarOf k s → labels ≡ union a b → (if has labels s.vertex then star_changed (join_boundary a b) (join_boundary b a) s else s) ≡ star_flipped a b s
one_flipped k a b labels s l h e =
    ap (λ t. cond t (star_changed (join_boundary a b) (join_boundary b a) s) s) (ap (λ xs. has xs s.vertex) e ∙ has-union a b s.vertex)
    ∙ by_test (has a s.vertex || has b s.vertex)
  where
    rows : staying s.rows (join_boundary a b) ≡ beside s.rows a
    rows = ap (λ fs. staying fs (join_boundary a b)) h.rows ∙ staying_star k.facets a b s.vertex l.link ∙ ap (λ fs. beside fs a) (sym h.rows)

    by_test : (t : Bool) → cond t (star_changed (join_boundary a b) (join_boundary b a) s) s ≡ record s { rows = cond t (star_after s.rows a b s.vertex) s.rows }
    by_test true = λ i. record s { rows = rising face_cmp (rows i ++ star (join_boundary b a) s.vertex) }
    by_test false = refl

all_flipped : (k : ComplexView) (near : List VertexStar) (a b labels : List ℕ) → Legal k a b → AllByRecursion (IsStarOf k) near → labels ≡ union a b → stars_changed near labels (join_boundary a b) (join_boundary b a) ≡ stars_flipped near a b
all_flipped k [] a b labels l h e = refl
all_flipped k (s ∷ near) a b labels l h e = λ i. one_flipped k a b labels s l h.0 e i ∷ all_flipped k near a b labels l h.1 e i

pub made_flipped : (k : ComplexView) (near last : List VertexStar) (a b labels : List ℕ) (out more : List (List ℕ)) → AreStarsOf k near → broken_rule k a b ≡ Ok tt → last ≡ stars_changed near labels out more → labels ≡ union a b → out ≡ join_boundary a b → more ≡ join_boundary b a → last ≡ stars_flipped near a b
made_flipped k near last a b labels out more h ok e el eo em = e ∙ (λ i. stars_changed near labels (eo i) (em i)) ∙ all_flipped k near a b labels (legal k a b ok) h.each el

-- ---- of which complex they are then

pub same_vertices : (near : List VertexStar) (a b : List ℕ) → vertices (stars_flipped near a b) ≡ vertices near
same_vertices [] a b = refl
same_vertices (s ∷ near) a b = ap (λ vs. s.vertex ∷ vs) (same_vertices near a b)

star_of_flipped : (k : ComplexView) (a b : List ℕ) (s : VertexStar) → IsComplex k → broken_rule k a b ≡ Ok tt → IsStarOf k s → IsStarOf (flipped k a b) (star_flipped a b s)
star_of_flipped k a b s c ok h = record {
  dim = h.dim;
  rows = by_tests (has a s.vertex) (has b s.vertex) refl refl;
}
  where
    after : star_after s.rows a b s.vertex ≡ star (flipped k a b).facets s.vertex
    after = ap (λ fs. star_after fs a b s.vertex) h.rows ∙ sym (star_seen k a b s.vertex)

    by_tests : (p q : Bool) → has a s.vertex ≡ p → has b s.vertex ≡ q → cond (p || q) (star_after s.rows a b s.vertex) s.rows ≡ star (flipped k a b).facets s.vertex
    by_tests true q e g = after
    by_tests false true e g = after
    by_tests false false e g = h.rows ∙ sym (other_star k a b s.vertex c.rising ok e g)

each_of_flipped : (k : ComplexView) (a b : List ℕ) (near : List VertexStar) → IsComplex k → broken_rule k a b ≡ Ok tt → AllByRecursion (IsStarOf k) near → AllByRecursion (IsStarOf (flipped k a b)) (stars_flipped near a b)
each_of_flipped k a b [] c ok h = tt
each_of_flipped k a b (s ∷ near) c ok h = (star_of_flipped k a b s c ok h.0, each_of_flipped k a b near c ok h.1)

pub stars_of_flipped : (k : ComplexView) (near : List VertexStar) (f : Flip) → OfFaces f → broken_rule k f.a f.b ≡ Ok tt → AreStarsOf k near → AreStarsOf (flipped k f.a f.b) (stars_flipped near f.a f.b)
stars_of_flipped k near f faces ok h = record {
  complex = complex_flipped k f.a f.b h.complex faces.first faces.second ok;
  rising = let P : List ℕ → Type 0 = λ vs. IsRising vs in subst P (sym (same_vertices near f.a f.b)) h.rising;
  each = each_of_flipped k f.a f.b near h.complex ok h.each;
}

pub stars_of_last : (k : ComplexView) (near last : List VertexStar) (f : Flip) → last ≡ stars_flipped near f.a f.b → OfFaces f → broken_rule k f.a f.b ≡ Ok tt → AreStarsOf k near → AreStarsOf (flipped k f.a f.b) last
stars_of_last k near last f e faces ok h = let P : List VertexStar → Type 0 = λ ss. AreStarsOf (flipped k f.a f.b) ss in subst P (sym e) (stars_of_flipped k near f faces ok h)

-- ---- with their rooms

-- room for all sets of a flip is room for what a star becomes
pub room_of_spare : (near : List KeptStar) (labels : List ℕ) (out more : List (List ℕ)) (n : ℕ) → length more ≤ n → HasSpare near labels n → HasRoom near labels out more
room_of_spare near labels out more n few spare i d l t =
    let s : VertexStar = (get_or near i d).star in
    both_fit (staying s.rows out) (star more s.vertex) (get_or near i d).room (omega (arith, few, spare i d l t, length-filter_both (λ f. not (is_facet out f)) (λ f. not (not (is_facet out f))) (λ f. refl) s.rows, length-filter_both (λ f. holds f (s.vertex ∷ [])) (λ f. not (holds f (s.vertex ∷ []))) (λ f. refl) more))

pub room_of_counts : (k : ComplexView) (near : List KeptStar) (a b labels : List ℕ) → AreStarsOf k (shown near) → broken_rule k a b ≡ Ok tt → labels ≡ union a b → EachAtMost (counts (stars_flipped (shown near) a b)) (rooms near) → HasRoom near labels (join_boundary a b) (join_boundary b a)
room_of_counts k near a b labels h ok el fits i d l t =
    let out : List (List ℕ) = join_boundary a b in
    let more : List (List ℕ) = join_boundary b a in
    let s : VertexStar = (get_or near i d).star in
    let inside : i < length (shown near) = omega (arith, l, length-shown near) in
    let same : stars_changed (shown near) labels out more ≡ stars_flipped (shown near) a b = all_flipped k (shown near) a b labels (legal k a b ok) h.each el in
    let here : get_or (stars_changed (shown near) labels out more) i d.star ≡ star_changed out more s =
    changed_at (shown near) labels out more i d.star inside
    ∙ ap (λ (r : VertexStar). if has labels r.vertex then star_changed out more r else r) (shown_at near i d d.star l)
    ∙ ap (λ c. cond c (star_changed out more s) s) t in
    let count : get_or (counts (stars_changed (shown near) labels out more)) i 0 ≡ length (star_changed out more s).rows =
    get_or-map (λ (r : VertexStar). length r.rows) (stars_changed (shown near) labels out more) i d.star 0 (omega (arith, inside, length-changed (shown near) labels out more))
    ∙ ap (λ (r : VertexStar). length r.rows) here in
    let known : get_or (counts (stars_changed (shown near) labels out more)) i 0 ≤ get_or (rooms near) i 0 = subst (λ ss. get_or (counts ss) i 0 ≤ get_or (rooms near) i 0) (sym same) (fits i) in
    omega (arith, count, known, get_or-map (λ (r : KeptStar). r.room) near i d 0 l)

-- ---- and back

one_undone : (k : ComplexView) (a b : List ℕ) (s : VertexStar) → IsComplex k → IsFace a → IsFace b → broken_rule k a b ≡ Ok tt → IsStarOf k s → star_flipped b a (star_flipped a b s) ≡ s
one_undone k a b s h fa fb ok is =
    let u : (broken_rule (flipped k a b) b a ≡ Ok tt) × (flipped (flipped k a b) b a ≡ k) = undoes k a b h.rising ok in
    let back : IsStarOf (flipped (flipped k a b) b a) (star_flipped b a (star_flipped a b s)) = star_of_flipped (flipped k a b) b a (star_flipped a b s) (complex_flipped k a b h fa fb ok) u.0 (star_of_flipped k a b s h ok is) in
    λ i. record s { rows = (back.rows ∙ ap (λ (m : ComplexView). star m.facets s.vertex) u.1 ∙ sym is.rows) i }

all_undone : (k : ComplexView) (a b : List ℕ) (near : List VertexStar) → IsComplex k → IsFace a → IsFace b → broken_rule k a b ≡ Ok tt → AllByRecursion (IsStarOf k) near → stars_flipped (stars_flipped near a b) b a ≡ near
all_undone k a b [] h fa fb ok is = refl
all_undone k a b (s ∷ near) h fa fb ok is = λ i. one_undone k a b s h fa fb ok is.0 i ∷ all_undone k a b near h fa fb ok is.1 i

pub undo_law : UndoLaw
undo_law k near f h faces ok = record {
  legal = (undoes k f.a f.b h.complex.rising ok).0;
  same = all_undone k f.a f.b near h.complex faces.first faces.second ok h.each;
}
