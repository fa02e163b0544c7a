-- What a legal flip meets, rule by rule.
use Rattle.std.proofs.Common.{◌≡◌, ◌≢◌, ℕ, ◌+◌, Bool, true, false, not, nat_eq, if◌then◌else◌, ◌≤◌, List, [], ◌∷◌, map, length, Result, IsOk, OnOk, Ok, Err, sym, ◌∙◌, ap, refl, arith, eq-eqb}
use Rattle.std.specs.List.{list_any, AllByRecursion}
use Rattle.std.specs.Cmp.{first_so, second_so}
use Rattle.std.specs.Cmp.Derive.{both_true}
use Rattle.complex_core.specs.Labels.{has, union, without, face_cmp, IsFace}
use Rattle.complex_core.specs.Rising.{rising}
use Rattle.complex_core.specs.Complexes.{ComplexView, over, is_held, IsComplex, IsFacet}
use Rattle.complex_core.proofs.Laws.{Apart, none_has, none_from, nat_eq_is, facet_side, or_left, or_right, nat_eq_same}
use Rattle.flip_rules.specs.Flips.{Shaped, Legal, join_boundary, has_shape, link_is, broken_rule, broken_rule_near, CanPut}
use Rattle.flip_rules.specs.declared.flip.Illegal.{Illegal}
use Rattle.flip_rules.specs.declared.flip.Illegal.TheVariants.{Shape, NotAFace, LinkDiffers, BIsFace}
use Rattle.flip_rules.proofs.Links.{same_lists_is, same_lists_from}
use Rattle.std.proofs.lemmas.Bool.{not-true}

false_not : (b : Bool) → b ≡ false → not b ≡ true
false_not b h = ap not h

abbrev pub verdict : Bool → Bool → Bool → Bool → Result (Unit {0}) Illegal
verdict s h l f = (if s then (if h then (if l then (if f then Err BIsFace else Ok tt) else Err LinkDiffers) else Err NotAFace) else Err Shape)

abbrev Passed : Bool → Bool → Bool → Bool → Type 0
Passed s h l f = (s ≡ true) × (h ≡ true) × (l ≡ true) × (f ≡ false)

four : (s h l f : Bool) → verdict s h l f ≡ Ok tt → Passed s h l f
four true true true false e = (refl, refl, refl, refl)
four true true true true e = cc
four true true false f e = cc
four true false l f e = cc
four false h l f e = cc

four_from : (s h l f : Bool) → s ≡ true → h ≡ true → l ≡ true → f ≡ false → verdict s h l f ≡ Ok tt
four_from s h l f p q r t = cc

pub shaped : (d : ℕ) (a b : List ℕ) → has_shape d a b ≡ true → Shaped d a b
shaped d a b h =
    let h1 = first_so (not (nat_eq (length a) 0)) _ h in
    let t1 = second_so (not (nat_eq (length a) 0)) _ h in
    let h2 = first_so (not (nat_eq (length b) 0)) _ t1 in
    let t2 = second_so (not (nat_eq (length b) 0)) _ t1 in
    let h3 = first_so (not (list_any (λ x. has b x) a)) _ t2 in
    let h4 = second_so (not (list_any (λ x. has b x) a)) _ t2 in
    record {
      first = λ e. let f : true ≡ false = sym (eq-eqb (length a) 0 e) ∙ not-true (nat_eq (length a) 0) h1 in cc;
      second = λ e. let f : true ≡ false = sym (eq-eqb (length b) 0 e) ∙ not-true (nat_eq (length b) 0) h2 in cc;
      apart = λ z t. none_has (λ x. has b x) a (not-true (list_any (λ x. has b x) a) h3) z t;
      sizes = nat_eq_is (length a + length b) (d + 2) h4;
    }

pub shape_from : (d : ℕ) (a b : List ℕ) → Shaped d a b → has_shape d a b ≡ true
shape_from d a b s =
    both_true (false_not (nat_eq (length a) 0) (apart_sizes (length a) s.first))
    (both_true (false_not (nat_eq (length b) 0) (apart_sizes (length b) s.second))
    (both_true (false_not (list_any (λ x. has b x) a) (none_from (λ x. has b x) a s.apart)) (eq-eqb (length a + length b) (d + 2) s.sizes)))
  where
    apart_sizes : (n : ℕ) → (n ≢ 0) → nat_eq n 0 ≡ false
    apart_sizes n h = elim (nat_eq n 0) as (λ b. nat_eq n 0 ≡ b → b ≡ false) [ true ↦ λ e. absurd (h (nat_eq_is n 0 e)) | false ↦ λ e. refl ] refl

pub legal : (k : ComplexView) (a b : List ℕ) → broken_rule k a b ≡ Ok tt → Legal k a b
legal k a b h =
    let p : Passed (has_shape k.dim a b) (is_held k.facets a) (link_is k.facets a b) (is_held k.facets b) = four (has_shape k.dim a b) (is_held k.facets a) (link_is k.facets a b) (is_held k.facets b) h in
    record {
      shape = shaped k.dim a b p.0;
      face = p.1;
      link = same_lists_is (over k.facets a) (rising face_cmp (join_boundary a b)) p.2;
      free = p.3;
    }

pub legal_from : (k : ComplexView) (a b : List ℕ) → Legal k a b → broken_rule k a b ≡ Ok tt
legal_from k a b l = four_from (has_shape k.dim a b) (is_held k.facets a) (link_is k.facets a b) (is_held k.facets b) (shape_from k.dim a b l.shape) l.face (same_lists_from (over k.facets a) (rising face_cmp (join_boundary a b)) l.link) l.free

pure_sides : (d : ℕ) (b a c : List ℕ) → IsFace b → IsFace a → Apart b a → length a + length b ≡ d + 2 → d ≤ 6 → ((x : ℕ) → has c x ≡ true → has a x ≡ true) → AllByRecursion (IsFacet d) (map (λ x. union b (without a x)) c)
pure_sides d b a [] fb fa apart n low part = tt
pure_sides d b a (x ∷ xs) fb fa apart n low part = (
  facet_side d b a x fb fa apart n low (part x (or_left (nat_eq x x) (has xs x) (nat_eq_same x))),
  pure_sides d b a xs fb fa apart n low (λ z t. part z (or_right (nat_eq x z) (has xs z) t)),
)

length-map : (f : ℕ → List ℕ) (xs : List ℕ) → length (map f xs) ≡ length xs
length-map f [] = refl
length-map f (x ∷ xs) = omega (arith, length-map f xs)

-- what a flip of the right shape puts in are facets
pub can_put_shaped : (d : ℕ) (a b : List ℕ) → d ≤ 6 → IsFace a → IsFace b → Shaped d a b → CanPut d a b
can_put_shaped d a b low fa fb s = record {
  few = omega (arith, s.sizes, low);
  some = omega (arith, s.first, length-map (λ x. union b (without a x)) a);
  pure = pure_sides d b a a fb fa s.apart s.sizes low (λ x t. t);
}

pub can_put : (k : ComplexView) (a b : List ℕ) → IsComplex k → IsFace a → IsFace b → broken_rule k a b ≡ Ok tt → CanPut k.dim a b
can_put k a b h fa fb e = can_put_shaped k.dim a b h.low fa fb (legal k a b e).shape

-- a flip that breaks no rule by the facets near A and B is one by its shape
pub can_put_near : (d : ℕ) (near_a near_b : List (List ℕ)) (a b : List ℕ) (r : Result (Unit {0}) Illegal) → d ≤ 6 → IsFace a → IsFace b → r ≡ broken_rule_near d near_a near_b a b → OnOk r (CanPut d a b)
can_put_near d near_a near_b a b (Ok u) low fa fb e = can_put_shaped d a b low fa fb (shaped d a b (four (has_shape d a b) (is_held near_a a) (link_is near_a a b) (is_held near_b b) (sym e)).0)
can_put_near d near_a near_b a b (Err f) low fa fb e = tt

-- an answer that is the first rule broken, against the rules
pub decides_legal : (k : ComplexView) (a b : List ℕ) (r : Result (Unit {0}) Illegal) → r ≡ broken_rule k a b → (IsOk r → Legal k a b) × (Legal k a b → IsOk r)
decides_legal k a b (Ok u) e = (λ _. legal k a b (sym e), λ _. refl)
decides_legal k a b (Err f) e = (λ t. let g : false ≡ true = t in cc, λ l. let g : Err f ≡ Ok tt = e ∙ legal_from k a b l in cc)

pub can_put_on : (k : ComplexView) (a b : List ℕ) (r : Result (Unit {0}) Illegal) → IsComplex k → IsFace a → IsFace b → r ≡ broken_rule k a b → OnOk r (CanPut k.dim a b)
can_put_on k a b (Ok u) h fa fb e = can_put k a b h fa fb (sym e)
can_put_on k a b (Err f) h fa fb e = tt
