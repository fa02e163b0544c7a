-- What a legal flip does to the facets, told alike from both ends.
use Rattle.std.proofs.Common.{◌≡◌, ℕ, ◌+◌, Bool, true, false, not, nat_eq, ◌||◌, ◌&&◌, List, length, sym, ◌∙◌, ap, refl, arith}
use Rattle.std.specs.List.Sorted.{IsStrictlySortedBy}
use Rattle.std.specs.Cmp.Lexicographic.{pointwise}
use Rattle.std.specs.Ordering.{nat_cmp}
use Rattle.std.specs.Cmp.{first_so}
use Rattle.std.specs.Cmp.Derive.{both_true}
use Rattle.complex_core.specs.Labels.{has, holds, union, without, face_cmp, IsFace}
use Rattle.complex_core.specs.Complexes.{ComplexView, IsComplex, IsFacet, is_held}
use Rattle.complex_core.proofs.Sets.{above_tail}
use Rattle.complex_core.proofs.Laws.{has-union, has-without, listed, listed-filter, listed-rising, same_labels, sorted_union, sorted_without, length-union_apart, some_has, same_set_itself, nat_eq_is, some_listed, keep_other}
use Rattle.flip_rules.specs.Flips.{join_boundary, flipped, Legal}
use Rattle.flip_rules.proofs.Links.{side, side_of, sides_hold, listed-join_boundary, listed-flipped}
use Rattle.flip_rules.proofs.Legal.{legal_from}
use Rattle.flip_rules.proofs.Back.{legal_back, first_label}
use Rattle.flip_rules.proofs.Replays.{complex_flipped}
use Rattle.complex_core.proofs.SetLists.{pure_at}

-- a set of facets, before the flip (a, b)
pub record Half (fs : List (List ℕ)) (a b w : List ℕ) : Type 0 where
  pub rises : IsStrictlySortedBy face_cmp fs
  pub facets : (f : List ℕ) → listed fs f ≡ true → IsStrictlySortedBy nat_cmp f × (length f + 1 ≡ length w)
  pub free : (f : List ℕ) → listed fs f ≡ true → holds f b ≡ false
  pub outs : (f : List ℕ) → listed fs f ≡ true → holds f a ≡ true → (x : ℕ) × (has b x ≡ true) × (f ≡ without w x)
  pub was : (x : ℕ) → has b x ≡ true → listed fs (without w x) ≡ true
  pub apart : (z : ℕ) → has a z ≡ true → has b z ≡ false
  pub labels : IsStrictlySortedBy nat_cmp w
  pub both : (z : ℕ) → has w z ≡ (has a z || has b z)

pub record Exchange (fs gs : List (List ℕ)) (a b w : List ℕ) : Type 0 where
  pub some_a : (x : ℕ) × (has a x ≡ true)
  pub some_b : (x : ℕ) × (has b x ≡ true)
  pub old : Half fs a b w
  pub new : Half gs b a w
  pub stays : (f : List ℕ) → holds f a ≡ false → holds f b ≡ false → listed fs f ≡ listed gs f

pub turned : (fs gs : List (List ℕ)) (a b w : List ℕ) → Exchange fs gs a b w → Exchange gs fs b a w
turned fs gs a b w e = record { some_a = e.some_b; some_b = e.some_a; old = e.new; new = e.old; stays = λ f p q. sym (e.stays f q p) }

or_swap : (a b : Bool) → (a || b) ≡ (b || a)
or_swap true true = refl
or_swap true false = refl
or_swap false true = refl
or_swap false false = refl

neq_apart : (xs : List ℕ) (x z : ℕ) → has xs x ≡ false → has xs z ≡ true → nat_eq z x ≡ false
neq_apart xs x z f t = elim (nat_eq z x) as (λ c. nat_eq z x ≡ c → c ≡ false) [ true ↦ λ e. let g : true ≡ false = sym t ∙ ap (has xs) (nat_eq_is z x e) ∙ f in g | false ↦ λ e. refl ] refl

not_both : (a b w : List ℕ) → ((z : ℕ) → has a z ≡ true → has b z ≡ false) → (z : ℕ) → has b z ≡ true → has a z ≡ false
not_both a b w h z t = elim (has a z) as (λ c. has a z ≡ c → c ≡ false) [ true ↦ λ e. let f : true ≡ false = sym t ∙ h z e in f | false ↦ λ e. refl ] refl

-- A ∪ (B less x) is A ∪ B less x
side_is : (a b w : List ℕ) (x : ℕ) → IsStrictlySortedBy nat_cmp a → IsStrictlySortedBy nat_cmp w → ((z : ℕ) → has w z ≡ (has a z || has b z)) → has a x ≡ false → side a b x ≡ without w x
side_is a b w x s r both f = same_labels (side a b x) (without w x) (sorted_union a (without b x) s) (sorted_without w x r) (λ z.
    has-union a (without b x) z ∙ ap (λ c. has a z || c) (has-without b x z) ∙ keep_other (has a z) (has b z) (nat_eq z x) (neq_apart a x z f) ∙ ap (λ c. c && not (nat_eq z x)) (sym (both z)) ∙ sym (has-without w x z))

free_of : (k : ComplexView) (b : List ℕ) → is_held k.facets b ≡ false → (f : List ℕ) → listed k.facets f ≡ true → holds f b ≡ false
free_of k b n f t = elim (holds f b) as (λ c. holds f b ≡ c → c ≡ false) [ true ↦ λ e. sym (some_listed (λ g. holds g b) k.facets f t e) ∙ n | false ↦ λ e. refl ] refl

half : (k : ComplexView) (a b w : List ℕ) → IsComplex k → IsFace a → IsStrictlySortedBy nat_cmp w → length w ≡ k.dim + 2 → ((z : ℕ) → has w z ≡ (has a z || has b z)) → Legal k a b → Half k.facets a b w
half k a b w h fa s n both l = record {
  rises = h.rising;
  facets = λ f t. let p : IsFacet k.dim f = pure_at k.dim k.facets f h.pure t in (above_tail nat_cmp 0 f p.face.rising, omega (arith, p.size, n));
  free = free_of k b l.free;
  outs = λ f t e. let r : (x : ℕ) × (has b x ≡ true) × (f ≡ side a b x) = side_of a b f (old f ∙ both_true t e) in (r.0, r.1, r.2 ∙ same r.0 r.1);
  was = λ x t. first_so (listed k.facets (without w x)) (holds (without w x) a) (sym (old (without w x)) ∙ ap (listed (join_boundary a b)) (sym (same x t)) ∙ listed-join_boundary a b b (side a b x) ∙ some_has (λ y. pointwise nat_eq (side a b y) (side a b x)) b x t (same_set_itself (side a b x)));
  apart = l.shape.apart;
  labels = s;
  both = both;
}
  where
    old : (f : List ℕ) → listed (join_boundary a b) f ≡ (listed k.facets f && holds f a)
    old f = sym (listed-rising (join_boundary a b) f) ∙ ap (λ fs. listed fs f) (sym l.link) ∙ listed-filter (λ g. holds g a) k.facets f

    same : (x : ℕ) → has b x ≡ true → side a b x ≡ without w x
    same x t = side_is a b w x (above_tail nat_cmp 0 a fa.rising) s both (not_both a b w l.shape.apart x t)

-- what a legal flip does
pub made_exchange : (k : ComplexView) (a b : List ℕ) → IsComplex k → IsFace a → IsFace b → Legal k a b → Exchange k.facets (flipped k a b).facets a b (union a b)
made_exchange k a b h fa fb l = record {
  some_a = first_label a l.shape.first;
  some_b = first_label b l.shape.second;
  old = half k a b (union a b) h fa s n (has-union a b) l;
  new = half (flipped k a b) b a (union a b) h' fb s n (λ z. has-union a b z ∙ or_swap (has a z) (has b z)) (legal_back k a b h.rising l);
  stays = λ f p q. sym (listed-flipped k a b f ∙ kept (listed k.facets f) (holds f a) (listed (join_boundary b a) f) p (no_side f q));
}
  where
    s : IsStrictlySortedBy nat_cmp (union a b)
    s = sorted_union a b (above_tail nat_cmp 0 a fa.rising)

    apart' : (z : ℕ) → has b z ≡ true → has a z ≡ false
    apart' = not_both a b b l.shape.apart

    n : length (union a b) ≡ k.dim + 2
    n = length-union_apart a b (above_tail nat_cmp 0 b fb.rising) apart' ∙ l.shape.sizes

    h' : IsComplex (flipped k a b)
    h' = complex_flipped k a b h fa fb (legal_from k a b l)

    no_side : (f : List ℕ) → holds f b ≡ false → listed (join_boundary b a) f ≡ false
    no_side f q = elim (listed (join_boundary b a) f) as (λ c. listed (join_boundary b a) f ≡ c → c ≡ false) [ true ↦ λ e. sym (sides_hold b a f e) ∙ q | false ↦ λ e. refl ] refl

    kept : (p q r : Bool) → q ≡ false → r ≡ false → ((p && not q) || r) ≡ p
    kept true q r e g = λ i. (not (e i)) || g i
    kept false q r e g = g
