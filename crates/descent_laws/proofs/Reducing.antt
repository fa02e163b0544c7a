-- Legal flips of an index above d/2: A determines B, and one of them at most is the best.
use Rattle.std.proofs.Common.{◌≡◌, ◌≢◌, ℕ, ◌<◌, ◌≤◌, Bool, true, false, nat_eq, ◌||◌, List, [], ◌∷◌, length, sym, ◌∙◌, ap, refl, subst, arith, inl, inr}
use Rattle.std.specs.List.Sorted.{IsStrictlySortedBy}
use Rattle.std.specs.Ordering.{nat_cmp}
use Rattle.std.specs.Cmp.Lexicographic.{pointwise}
use Rattle.complex_core.specs.Labels.{has, without, IsFace}
use Rattle.complex_core.specs.Complexes.{ComplexView, over}
use Rattle.complex_core.proofs.Sets.{above_head, above_tail}
use Rattle.complex_core.proofs.Faces.{less_cmp}
use Rattle.complex_core.proofs.Laws.{both_ways, has-union, or_left, or_right, listed, listed-rising, same_labels, some_has, same_set_itself, nat_eq_is, nat_eq_same}
use Rattle.flip_rules.specs.Flips.{join_boundary, Legal}
use Rattle.flip_rules.specs.declared.flip.Flip.{Flip}
use Rattle.flip_rules.proofs.Links.{side, side_of, listed-join_boundary}
use Rattle.flip_rules.proofs.Legal.{legal}
use Rattle.descent_laws.specs.Descents.{IsReducing}
use Rattle.descent_laws.specs.Laws.{FirstDetermines, BestIsOne}
use Rattle.complex_core.proofs.SubsetLists.{two, clash}
use Rattle.complex_core.proofs.Members.{without_has, in_without}
use Rattle.complex_core.proofs.SetLists.{neither_less}

-- flips with the same faces
pub same_flip : (f g : Flip) → f.a ≡ g.a → f.b ≡ g.b → f ≡ g
same_flip f g p q = λ i. record { a = p i; b = q i }

-- some other label
pub other_label : (w : List ℕ) (z : ℕ) → IsStrictlySortedBy nat_cmp w → 2 ≤ length w → (y : ℕ) × (has w y ≡ true) × (z ≢ y)
other_label [] z s n = absurd (omega (arith, n))
other_label (x ∷ []) z s n = absurd (omega (arith, n))
other_label (x ∷ y ∷ rest) z s n =
    elim (two (nat_eq z x)) [
      | inl e ↦ (y, or_right (nat_eq x y) (has (y ∷ rest) y) (or_left (nat_eq y y) (has rest y) (nat_eq_same y)), λ q. let l : x < y = less_cmp x y (above_head nat_cmp x (y ∷ rest) s).0 in absurd (omega (arith, l, q, nat_eq_is z x e)))
      | inr e ↦ (x, or_left (nat_eq x x) (has (y ∷ rest) x) (nat_eq_same x), λ q. clash {P = ⊥} (nat_eq z x) (ap (λ v. nat_eq z v) (sym q) ∙ nat_eq_same z) e)
    ]

-- the sides that a legal flip takes out are the facets over A
pub side_there : (k : ComplexView) (a b : List ℕ) (y : ℕ) → Legal k a b → has b y ≡ true → listed (over k.facets a) (side a b y) ≡ true
side_there k a b y l t = ap (λ fs. listed fs (side a b y)) l.link ∙ listed-rising (join_boundary a b) (side a b y) ∙ listed-join_boundary a b b (side a b y) ∙ some_has (λ x. pointwise nat_eq (side a b x) (side a b y)) b y t (same_set_itself (side a b y))

pub side_back : (k : ComplexView) (a b f : List ℕ) → Legal k a b → listed (over k.facets a) f ≡ true → (x : ℕ) × (has b x ≡ true) × (f ≡ side a b x)
side_back k a b f l t = side_of a b f (sym (listed-rising (join_boundary a b) f) ∙ ap (λ fs. listed fs f) (sym l.link) ∙ t)

second_part : (p q : Bool) → (p || q) ≡ true → p ≡ false → q ≡ true
second_part true q h f = clash true refl f
second_part false q h f = h

-- the labels of one B are labels of the other
shared : (k : ComplexView) (a b c : List ℕ) (z : ℕ) → Legal k a b → Legal k a c → IsFace b → 2 ≤ length b → has b z ≡ true → has c z ≡ true
shared k a b c z l m fb n t =
    let y : (y : ℕ) × (has b y ≡ true) × (z ≢ y) = other_label b z (above_tail nat_cmp 0 b fb.rising) n in
    let x : (x : ℕ) × (has c x ≡ true) × (side a b y.0 ≡ side a c x) = side_back k a c (side a b y.0) m (side_there k a b y.0 l y.1) in
    let in_b : has (side a b y.0) z ≡ true = has-union a (without b y.0) z ∙ or_right (has a z) (has (without b y.0) z) (in_without b y.0 z t y.2) in
    let not_a : has a z ≡ false = elim (two (has a z)) [ inl e ↦ clash (has b z) t (l.shape.apart z e) | inr e ↦ e ] in
    without_has c x.0 z (second_part (has a z) (has (without c x.0) z) (sym (has-union a (without c x.0) z) ∙ ap (λ g. has g z) (sym x.2) ∙ in_b) not_a)

pub two_at_least : (k : ComplexView) (f : Flip) → IsReducing k f → 2 ≤ length f.b
two_at_least k f r = omega (arith, r.high)

pub first_determines : FirstDetermines
first_determines k f g r s e =
    let P : List ℕ → Type 0 = λ a. Legal k a g.b in
    let l : Legal k f.a f.b = legal k f.a f.b r.legal in
    let m : Legal k f.a g.b = subst P (sym e) (legal k g.a g.b s.legal) in
    same_flip f g e (same_labels f.b g.b (above_tail nat_cmp 0 f.b r.faces.second.rising) (above_tail nat_cmp 0 g.b s.faces.second.rising) (λ z.
    both_ways (has f.b z) (has g.b z)
    (shared k f.a f.b g.b z l m r.faces.second (two_at_least k f r))
    (shared k f.a g.b f.b z m l s.faces.second (two_at_least k g s))))

-- ---- the best

pub best_is_one : BestIsOne
best_is_one k f g p q =
    let n : length f.b ≡ length g.b = omega (arith, p.greatest g q.reduces, q.greatest f p.reduces) in
    first_determines k f g p.reduces q.reduces (neither_less f.a g.a (q.least f p.reduces n) (p.least g q.reduces (sym n)))
