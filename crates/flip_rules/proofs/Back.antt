-- After a legal flip the inverse is legal, and leads back.
use Rattle.std.proofs.Common.{◌≡◌, ◌≢◌, ℕ, Bool, true, false, not, nat_eq, ◌||◌, ◌&&◌, List, [], ◌∷◌, ◌++◌, length, Ok, sym, ◌∙◌, ap, refl, arith, add_comm}
use Rattle.std.specs.List.Sorted.{IsStrictlySortedBy}
use Rattle.std.specs.Cmp.Lexicographic.{pointwise, nat_list_cmp_total}
use Rattle.std.proofs.lemmas.List.Kept.{IsStrictlySortedBy-filter}
use Rattle.complex_core.specs.Labels.{has, holds, without, face_cmp}
use Rattle.complex_core.specs.Rising.{rising}
use Rattle.complex_core.specs.Complexes.{ComplexView, over, beside, is_held}
use Rattle.complex_core.proofs.Sets.{sorted_rising}
use Rattle.complex_core.proofs.Laws.{has-union, has-without, holds_has, or_left, or_right, Apart, listed, listed-append, listed-filter, listed-rising, same_lists, some_listed, none_listed, nat_eq_same, some_has, same_set_itself}
use Rattle.flip_rules.specs.Flips.{join_boundary, broken_rule, flipped, Legal}
use Rattle.flip_rules.proofs.Links.{side, side_of, sides_hold, listed-join_boundary, listed-flipped, side_holds}
use Rattle.flip_rules.proofs.Legal.{legal, legal_from}

-- a side of B with A lacks a label of A
listed_lacks : (a b : List ℕ) (f : List ℕ) → Apart b a → listed (join_boundary b a) f ≡ true → holds f a ≡ false
listed_lacks a b f apart t =
    let r : (x : ℕ) × (has a x ≡ true) × (f ≡ side b a x) = side_of b a f t in
    let gone : has (side b a r.0) r.0 ≡ false = has-union b (without a r.0) r.0 ∙ ap (λ c. c || has (without a r.0) r.0) (apart r.0 r.1) ∙ has-without a r.0 r.0 ∙ ap (λ c. has a r.0 && not c) (nat_eq_same r.0) ∙ and_false (has a r.0) in
    elim (holds f a) as (λ c. holds f a ≡ c → c ≡ false) [
      | true ↦ λ e. sym (holds_has f a r.0 e r.1) ∙ ap (λ g. has g r.0) r.2 ∙ gone
      | false ↦ λ e. refl
    ] refl
  where
    and_false : (c : Bool) → (c && not true) ≡ false
    and_false true = refl
    and_false false = refl

pub first_label : (a : List ℕ) → (length a ≢ 0) → (x : ℕ) × (has a x ≡ true)
first_label [] n = absurd (n (omega arith))
first_label (x ∷ xs) n = (x, or_left (nat_eq x x) (has xs x) (nat_eq_same x))

apart_back : (b a : List ℕ) → Apart b a → Apart a b
apart_back b a h z t = elim (has a z) as (λ c. has a z ≡ c → c ≡ false) [ true ↦ λ e. let f : true ≡ false = sym t ∙ h z e in f | false ↦ λ e. refl ] refl

module _ (k : ComplexView) (a b : List ℕ) (s : IsStrictlySortedBy face_cmp k.facets) (l : Legal k a b) where
  free_of : (f : List ℕ) → listed k.facets f ≡ true → holds f b ≡ false
  free_of f t = elim (holds f b) as (λ c. holds f b ≡ c → c ≡ false) [ true ↦ λ e. sym (some_listed (λ g. holds g b) k.facets f t e) ∙ l.free | false ↦ λ e. refl ] refl

  over_new : over (flipped k a b).facets b ≡ rising face_cmp (join_boundary b a)
  over_new = same_lists (over (flipped k a b).facets b) (rising face_cmp (join_boundary b a))
      (IsStrictlySortedBy-filter face_cmp (λ f. holds f b) (flipped k a b).facets (sorted_rising nat_list_cmp_total (beside k.facets a ++ join_boundary b a)))
      (sorted_rising nat_list_cmp_total (join_boundary b a))
      (λ f. listed-filter (λ g. holds g b) (flipped k a b).facets f ∙ ap (λ c. c && holds f b) (listed-flipped k a b f)
      ∙ kept (listed k.facets f) (not (holds f a)) (listed (join_boundary b a) f) (holds f b) (free_of f) (sides_hold b a f)
      ∙ sym (listed-rising (join_boundary b a) f))
    where
      kept : (p q r t : Bool) → (p ≡ true → t ≡ false) → (r ≡ true → t ≡ true) → (((p && q) || r) && t) ≡ r
      kept true true true true h g = refl
      kept true true true false h g = let e : false ≡ true = g refl in cc
      kept true true false true h g = let e : true ≡ false = h refl in cc
      kept true true false false h g = refl
      kept true false true true h g = refl
      kept true false true false h g = let e : false ≡ true = g refl in cc
      kept true false false true h g = refl
      kept true false false false h g = refl
      kept false true true true h g = refl
      kept false true true false h g = let e : false ≡ true = g refl in cc
      kept false true false true h g = refl
      kept false true false false h g = refl
      kept false false true true h g = refl
      kept false false true false h g = let e : false ≡ true = g refl in cc
      kept false false false true h g = refl
      kept false false false false h g = refl

  free_new : is_held (flipped k a b).facets a ≡ false
  free_new = none_listed (λ f. holds f a) (flipped k a b).facets (λ f t.
      elim (holds f a) as (λ c. holds f a ≡ c → ((listed k.facets f && not c) || listed (join_boundary b a) f) ≡ true → c ≡ false) [
        | true ↦ λ e g. sym e ∙ listed_lacks a b f l.shape.apart (second (listed k.facets f) (listed (join_boundary b a) f) g)
        | false ↦ λ e g. refl
      ] refl (sym (listed-flipped k a b f) ∙ t))
    where
      second : (p r : Bool) → ((p && not true) || r) ≡ true → r ≡ true
      second true r h = h
      second false r h = h

  held_new : is_held (flipped k a b).facets b ≡ true
  held_new =
      let x : (z : ℕ) × (has a z ≡ true) = first_label a l.shape.first in
      let t : listed (join_boundary b a) (side b a x.0) ≡ true = listed-join_boundary b a a (side b a x.0) ∙ some_has (λ y. pointwise nat_eq (side b a y) (side b a x.0)) a x.0 x.1 (same_set_itself (side b a x.0)) in
      some_listed (λ g. holds g b) (flipped k a b).facets (side b a x.0) (listed-flipped k a b (side b a x.0) ∙ or_right (listed k.facets (side b a x.0) && not (holds (side b a x.0) a)) (listed (join_boundary b a) (side b a x.0)) t) (side_holds b a x.0)

  back_new : (flipped (flipped k a b) b a).facets ≡ k.facets
  back_new = same_lists (flipped (flipped k a b) b a).facets k.facets (sorted_rising nat_list_cmp_total (beside (flipped k a b).facets b ++ join_boundary a b)) s (λ f.
      listed-rising (beside (flipped k a b).facets b ++ join_boundary a b) f
      ∙ listed-append (beside (flipped k a b).facets b) (join_boundary a b) f
      ∙ (λ i. (listed-filter (λ g. not (holds g b)) (flipped k a b).facets f ∙ ap (λ c. c && not (holds f b)) (listed-flipped k a b f)) i || old f i)
      ∙ back (listed k.facets f) (holds f a) (listed (join_boundary b a) f) (holds f b) (free_of f) (sides_hold b a f))
    where
      old : (f : List ℕ) → listed (join_boundary a b) f ≡ (listed k.facets f && holds f a)
      old f = sym (listed-rising (join_boundary a b) f) ∙ ap (λ fs. listed fs f) (sym l.link) ∙ listed-filter (λ g. holds g a) k.facets f

      back : (p q r t : Bool) → (p ≡ true → t ≡ false) → (r ≡ true → t ≡ true) → ((((p && not q) || r) && not t) || (p && q)) ≡ p
      back true true true true h g = refl
      back true true true false h g = refl
      back true true false true h g = refl
      back true true false false h g = refl
      back true false true true h g = let e : true ≡ false = h refl in cc
      back true false true false h g = refl
      back true false false true h g = let e : true ≡ false = h refl in cc
      back true false false false h g = refl
      back false true true true h g = refl
      back false true true false h g = let e : false ≡ true = g refl in cc
      back false true false true h g = refl
      back false true false false h g = refl
      back false false true true h g = refl
      back false false true false h g = let e : false ≡ true = g refl in cc
      back false false false true h g = refl
      back false false false false h g = refl

  pub legal_back : Legal (flipped k a b) b a
  legal_back = record {
    shape = record { first = l.shape.second; second = l.shape.first; apart = apart_back b a l.shape.apart; sizes = add_comm (length b) (length a) ∙ l.shape.sizes };
    face = held_new;
    link = over_new;
    free = free_new;
  }

pub undoes : (k : ComplexView) (a b : List ℕ) → IsStrictlySortedBy face_cmp k.facets → broken_rule k a b ≡ Ok tt → (broken_rule (flipped k a b) b a ≡ Ok tt) × (flipped (flipped k a b) b a ≡ k)
undoes k a b s h = let l : Legal k a b = legal k a b h in (legal_from (flipped k a b) b a (legal_back k a b s l), ap (λ fs. record { dim = k.dim; facets = fs }) (back_new k a b s l))
