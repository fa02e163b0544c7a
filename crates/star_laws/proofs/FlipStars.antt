-- One flip, seen on stars.
use Rattle.std.proofs.Common.{◌≡◌, ℕ, Bool, true, false, not, cond, filter, nat_eq, ◌||◌, ◌&&◌, List, [], ◌∷◌, ◌++◌, length, Err, sym, ◌∙◌, ap, refl}
use Rattle.std.specs.List.{list_any}
use Rattle.std.specs.List.Sorted.{IsStrictlySortedBy}
use Rattle.std.specs.Cmp.Derive.{both_true}
use Rattle.std.specs.Cmp.Lexicographic.{pointwise, nat_list_cmp_total}
use Rattle.std.proofs.lemmas.List.Kept.{IsStrictlySortedBy-filter}
use Rattle.complex_core.specs.Labels.{has, holds, without, face_cmp}
use Rattle.complex_core.specs.Rising.{rising}
use Rattle.complex_core.specs.Complexes.{ComplexView, over, beside, is_held}
use Rattle.complex_core.proofs.Sets.{sorted_rising}
use Rattle.complex_core.proofs.Laws.{has-union, has-without, holds_has, found, or_left, nat_eq_same, listed, same_sets_is, listed-append, listed-filter, listed-rising, same_lists}
use Rattle.flip_rules.specs.Flips.{join_boundary, has_shape, same_sets, broken_rule, flipped, Legal}
use Rattle.flip_rules.specs.declared.flip.Illegal.TheVariants.{Shape}
use Rattle.flip_rules.proofs.Links.{side, listed-join_boundary, listed-flipped}
use Rattle.flip_rules.proofs.Legal.{legal, verdict}
use Rattle.star_laws.specs.Stars.{star, Rises, AlikeOn, star_after}
use Rattle.star_laws.specs.Laws.{FlipKeepsStars, BrokenRuleSeenOnStars, StarAfterFlip, FlipOnAlike}
use Rattle.std.proofs.lemmas.Bool.{or_from, and_left}

-- ---- what contains A lies in the star of each label of A

-- a test that goes through another one
pub filter_within : (p q : List ℕ → Bool) (fs : List (List ℕ)) → ((f : List ℕ) → p f ≡ true → q f ≡ true) → filter p fs ≡ filter p (filter q fs)
filter_within p q [] h = refl
filter_within p q (f ∷ fs) h =
    elim (q f) as (λ c. q f ≡ c → cond (p f) (f ∷ filter p fs) (filter p fs) ≡ filter p (cond c (f ∷ filter q fs) (filter q fs))) [
      | true ↦ λ e. ap (λ gs. cond (p f) (f ∷ gs) gs) (filter_within p q fs h)
      | false ↦ λ e. elim (p f) as (λ c. p f ≡ c → cond c (f ∷ filter p fs) (filter p fs) ≡ filter p (filter q fs)) [
        | true ↦ λ t. let g : true ≡ false = sym (h f t) ∙ e in cc
        | false ↦ λ t. filter_within p q fs h
      ] refl
    ] refl

any_within : (p q : List ℕ → Bool) (fs : List (List ℕ)) → ((f : List ℕ) → p f ≡ true → q f ≡ true) → list_any p fs ≡ list_any p (filter q fs)
any_within p q [] h = refl
any_within p q (f ∷ fs) h =
    elim (q f) as (λ c. q f ≡ c → (p f || list_any p fs) ≡ list_any p (cond c (f ∷ filter q fs) (filter q fs))) [
      | true ↦ λ e. ap (λ c. p f || c) (any_within p q fs h)
      | false ↦ λ e. elim (p f) as (λ c. p f ≡ c → (c || list_any p fs) ≡ list_any p (filter q fs)) [
        | true ↦ λ t. let g : true ≡ false = sym (h f t) ∙ e in cc
        | false ↦ λ t. any_within p q fs h
      ] refl
    ] refl

in_star : (a : List ℕ) (x : ℕ) → has a x ≡ true → (f : List ℕ) → holds f a ≡ true → holds f (x ∷ []) ≡ true
in_star a x t f h = both_true (holds_has f a x h t) refl

over_seen : (fs gs : List (List ℕ)) (a : List ℕ) (x : ℕ) → has a x ≡ true → star fs x ≡ star gs x → over fs a ≡ over gs a
over_seen fs gs a x t e =
    filter_within (λ f. holds f a) (λ f. holds f (x ∷ [])) fs (in_star a x t)
    ∙ ap (λ hs. over hs a) e
    ∙ sym (filter_within (λ f. holds f a) (λ f. holds f (x ∷ [])) gs (in_star a x t))

held_seen : (fs gs : List (List ℕ)) (a : List ℕ) (x : ℕ) → has a x ≡ true → star fs x ≡ star gs x → is_held fs a ≡ is_held gs a
held_seen fs gs a x t e =
    any_within (λ f. holds f a) (λ f. holds f (x ∷ [])) fs (in_star a x t)
    ∙ ap (λ hs. is_held hs a) e
    ∙ sym (any_within (λ f. holds f a) (λ f. holds f (x ∷ [])) gs (in_star a x t))

-- ---- legality

pub broken_rule_seen : BrokenRuleSeenOnStars
broken_rule_seen k l a b x y d t s e g =
    ap (λ n. verdict (has_shape n a b) (is_held k.facets a) (same_sets (over k.facets a) (rising face_cmp (join_boundary a b))) (is_held k.facets b)) d
    ∙ ap (λ c. verdict (has_shape l.dim a b) c (same_sets (over k.facets a) (rising face_cmp (join_boundary a b))) (is_held k.facets b)) (held_seen k.facets l.facets a x t e)
    ∙ ap (λ fs. verdict (has_shape l.dim a b) (is_held l.facets a) (same_sets fs (rising face_cmp (join_boundary a b))) (is_held k.facets b)) (over_seen k.facets l.facets a x t e)
    ∙ ap (λ c. verdict (has_shape l.dim a b) (is_held l.facets a) (same_sets (over l.facets a) (rising face_cmp (join_boundary a b))) c) (held_seen k.facets l.facets b y s g)

-- ---- the star after

-- the rows that are left, the ones put in, and the label
kept_first : (p q r t : Bool) → (((p && not q) || r) && t) ≡ (((p && t) && not q) || (r && t))
kept_first true true true true = refl
kept_first true true true false = refl
kept_first true true false true = refl
kept_first true true false false = refl
kept_first true false true true = refl
kept_first true false true false = refl
kept_first true false false true = refl
kept_first true false false false = refl
kept_first false true true true = refl
kept_first false true true false = refl
kept_first false true false true = refl
kept_first false true false false = refl
kept_first false false true true = refl
kept_first false false true false = refl
kept_first false false false true = refl
kept_first false false false false = refl

pub rises_flipped : (k : ComplexView) (a b : List ℕ) → Rises (flipped k a b)
rises_flipped k a b = sorted_rising nat_list_cmp_total (beside k.facets a ++ join_boundary b a)

pub star_rises : (facets : List (List ℕ)) (p : ℕ) → IsStrictlySortedBy face_cmp facets → IsStrictlySortedBy face_cmp (star facets p)
star_rises facets p s = IsStrictlySortedBy-filter face_cmp (λ f. holds f (p ∷ [])) facets s

pub star_flipped : StarAfterFlip
star_flipped k a b p = same_lists (star (flipped k a b).facets p) (star_after (star k.facets p) a b p)
    (star_rises (flipped k a b).facets p (rises_flipped k a b))
    (sorted_rising nat_list_cmp_total (beside (star k.facets p) a ++ star (join_boundary b a) p))
    (λ f. let t : Bool = holds f (p ∷ []) in
    listed-filter (λ g. holds g (p ∷ [])) (flipped k a b).facets f
    ∙ ap (λ c. c && holds f (p ∷ [])) (listed-flipped k a b f)
    ∙ kept_first (listed k.facets f) (holds f a) (listed (join_boundary b a) f) (holds f (p ∷ []))
    ∙ sym (listed-rising (beside (star k.facets p) a ++ star (join_boundary b a) p) f
    ∙ listed-append (beside (star k.facets p) a) (star (join_boundary b a) p) f
    ∙ (λ i. (listed-filter (λ g. not (holds g a)) (star k.facets p) f ∙ ap (λ c. c && not (holds f a)) (listed-filter (λ g. holds g (p ∷ [])) k.facets f)) i || listed-filter (λ g. holds g (p ∷ [])) (join_boundary b a) f i)))

-- ---- the stars of other labels

-- a side has no other labels
lacks_other : (a b : List ℕ) (p : ℕ) (f : List ℕ) → has a p ≡ false → has b p ≡ false → listed (join_boundary a b) f ≡ true → holds f (p ∷ []) ≡ false
lacks_other a b p f na nb t =
    let r : (x : ℕ) × (has b x ≡ true) × (pointwise nat_eq (side a b x) f ≡ true) = found (λ x. pointwise nat_eq (side a b x) f) b (sym (listed-join_boundary a b b f) ∙ t) in
    let e : side a b r.0 ≡ f = same_sets_is (side a b r.0) f r.2 in
    and_left (has f p) true (ap (λ g. has g p) (sym e) ∙ has-union a (without b r.0) p ∙ or_from (has a p) (has (without b r.0) p) na (has-without b r.0 p ∙ and_left (has b p) (not (nat_eq p r.0)) nb))

other_row : (p q r t : Bool) → (r ≡ true → t ≡ false) → ((p && q) ≡ true → t ≡ false) → (((p && not q) || r) && t) ≡ (p && t)
other_row true true r true h g = let e : true ≡ false = g refl in cc
other_row true true true false h g = refl
other_row true true false false h g = refl
other_row true false true t h g = refl
other_row true false false t h g = refl
other_row false q true true h g = let e : true ≡ false = h refl in cc
other_row false q true false h g = refl
other_row false q false t h g = refl

pub other_star : FlipKeepsStars
other_star k a b p s e na nb =
    let l : Legal k a b = legal k a b e in
    same_lists (star (flipped k a b).facets p) (star k.facets p) (star_rises (flipped k a b).facets p (rises_flipped k a b)) (star_rises k.facets p s) (λ f.
    listed-filter (λ g. holds g (p ∷ [])) (flipped k a b).facets f
    ∙ ap (λ c. c && holds f (p ∷ [])) (listed-flipped k a b f)
    ∙ other_row (listed k.facets f) (holds f a) (listed (join_boundary b a) f) (holds f (p ∷ []))
    (lacks_other b a p f nb na)
    (λ t. lacks_other a b p f na nb (sym (listed-rising (join_boundary a b) f) ∙ ap (λ fs. listed fs f) (sym l.link) ∙ listed-filter (λ g. holds g a) k.facets f ∙ t))
    ∙ sym (listed-filter (λ g. holds g (p ∷ [])) k.facets f))

-- ---- complexes that are alike

no_shape : (d : ℕ) (a : List ℕ) → has_shape d a [] ≡ false
no_shape d [] = refl
no_shape d (x ∷ xs) = and_false (not (nat_eq (length (x ∷ xs)) 0))
  where
    and_false : (c : Bool) → (c && false) ≡ false
    and_false true = refl
    and_false false = refl

empty_first : (k : ComplexView) (b : List ℕ) → broken_rule k [] b ≡ Err Shape
empty_first k b = refl

empty_second : (k : ComplexView) (a : List ℕ) → broken_rule k a [] ≡ Err Shape
empty_second k a = ap (λ c. verdict c (is_held k.facets a) (same_sets (over k.facets a) (rising face_cmp (join_boundary a []))) (is_held k.facets [])) (no_shape k.dim a)

pub broken_rule_alike : (held : ℕ → Bool) (k l : ComplexView) (a b : List ℕ) → AlikeOn held k l → ((p : ℕ) → has a p ≡ true → held p ≡ true) → ((p : ℕ) → has b p ≡ true → held p ≡ true) → broken_rule k a b ≡ broken_rule l a b
broken_rule_alike held k l [] b h ha hb = empty_first k b ∙ sym (empty_first l b)
broken_rule_alike held k l (x ∷ xs) [] h ha hb = empty_second k (x ∷ xs) ∙ sym (empty_second l (x ∷ xs))
broken_rule_alike held k l (x ∷ xs) (y ∷ ys) h ha hb =
    let p : has (x ∷ xs) x ≡ true = or_left (nat_eq x x) (has xs x) (nat_eq_same x) in
    let q : has (y ∷ ys) y ≡ true = or_left (nat_eq y y) (has ys y) (nat_eq_same y) in
    broken_rule_seen k l (x ∷ xs) (y ∷ ys) x y h.dim p q (h.stars x (ha x p)) (h.stars y (hb y q))

pub alike_after : (held : ℕ → Bool) (k l : ComplexView) (a b : List ℕ) → AlikeOn held k l → AlikeOn held (flipped k a b) (flipped l a b)
alike_after held k l a b h = record {
  dim = h.dim;
  stars = λ p t. star_flipped k a b p ∙ ap (λ rows. star_after rows a b p) (h.stars p t) ∙ sym (star_flipped l a b p);
}

pub flip_alike : FlipOnAlike
flip_alike held k l a b h ha hb = record { broken_rule = broken_rule_alike held k l a b h ha hb; after = alike_after held k l a b h }
