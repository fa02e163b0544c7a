-- A flip of an index above d/2 leaves fewer facets.
use Rattle.std.proofs.Common.{◌≡◌, ℕ, ◌+◌, ◌≤◌, true, false, not, cond, nat_eq, List, [], ◌∷◌, ◌++◌, length, map, ◌∙◌, ap, refl, arith, length-append}
use Rattle.std.specs.List.Sorted.{IsStrictlySortedBy}
use Rattle.std.specs.Ordering.{nat_cmp}
use Rattle.std.specs.Cmp.Lexicographic.{pointwise, nat_list_cmp_total}
use Rattle.complex_core.specs.Labels.{has, holds, without, face_cmp}
use Rattle.complex_core.specs.Rising.{rising}
use Rattle.complex_core.specs.Complexes.{over, beside}
use Rattle.complex_core.proofs.Sets.{above_head, above_tail, among, among-rising, length-put_new}
use Rattle.complex_core.proofs.Laws.{has-union, or_left, or_right, listed, listed-among, same_sets_is, both_false, above_not, nat_eq_same}
use Rattle.flip_rules.specs.Flips.{join_boundary, Legal, flipped}
use Rattle.flip_rules.proofs.Links.{side}
use Rattle.flip_rules.proofs.Legal.{legal}
use Rattle.descent_laws.specs.Laws.{FlipFalls}
use Rattle.std.proofs.lemmas.Bool.{false_from_ne_true}
use Rattle.complex_core.proofs.SubsetLists.{clash}
use Rattle.complex_core.proofs.Members.{without_gone, in_without}
use Rattle.complex_core.proofs.SetLists.{rising_length}

-- the facets that contain A, and the others
parted : (fs : List (List ℕ)) (a : List ℕ) → length fs ≡ length (over fs a) + length (beside fs a)
parted [] a = refl
parted (f ∷ fs) a =
    elim (holds f a) as (λ c. length (f ∷ fs) ≡ length (cond c (f ∷ over fs a) (over fs a)) + length (cond (not c) (f ∷ beside fs a) (beside fs a))) [
      | true ↦ omega (arith, parted fs a)
      | false ↦ omega (arith, parted fs a)
    ]

pub length_sides : (a b c : List ℕ) → length (map (side a b) c) ≡ length c
length_sides a b [] = refl
length_sides a b (x ∷ xs) = omega (arith, length_sides a b xs)

module _ (a b : List ℕ) (apart : (x : ℕ) → has a x ≡ true → has b x ≡ false) where
  not_a : (x : ℕ) → has b x ≡ true → has a x ≡ false
  not_a x t = false_from_ne_true (has a x) (λ e. clash {P = ⊥} (has b x) t (apart x e))

  -- the side without x is none of those without other labels
  new_side : (x : ℕ) (c : List ℕ) → has b x ≡ true → has c x ≡ false → listed (map (side a b) c) (side a b x) ≡ false
  new_side x [] t f = refl
  new_side x (y ∷ ys) t f =
      both_false (false_from_ne_true (pointwise nat_eq (side a b y) (side a b x)) (λ e. clash {P = ⊥} (has (side a b y) x)
      (has-union a (without b y) x ∙ or_right (has a x) (has (without b y) x) (in_without b y x t (λ q. clash {P = ⊥} (has (y ∷ ys) x) (or_left (nat_eq y x) (has ys x) (ap (λ v. nat_eq y v) q ∙ nat_eq_same y)) f)))
      (ap (λ g. has g x) (same_sets_is (side a b y) (side a b x) e) ∙ has-union a (without b x) x ∙ both_false (not_a x t) (without_gone b x))))
      (new_side x ys t (false_from_ne_true (has ys x) (λ e. clash {P = ⊥} (has (y ∷ ys) x) (or_right (nat_eq y x) (has ys x) e) f)))

  -- there is a side for each label of B
  pub many_sides : (c : List ℕ) → IsStrictlySortedBy nat_cmp c → ((x : ℕ) → has c x ≡ true → has b x ≡ true) → length (rising face_cmp (map (side a b) c)) ≡ length c
  many_sides [] s h = refl
  many_sides (x ∷ xs) s h =
      let new : among face_cmp (side a b x) (rising face_cmp (map (side a b) xs)) ≡ false = among-rising nat_list_cmp_total (side a b x) (map (side a b) xs) ∙ listed-among (map (side a b) xs) (side a b x) ∙ new_side x xs (h x (or_left (nat_eq x x) (has xs x) (nat_eq_same x))) (above_not x xs (above_head nat_cmp x xs s)) in
      omega (arith, length-put_new face_cmp (side a b x) (rising face_cmp (map (side a b) xs)) new, many_sides xs (above_tail nat_cmp x xs s) (λ z t. h z (or_right (nat_eq x z) (has xs z) t)))

pub flip_falls : FlipFalls
flip_falls k f r =
    let l : Legal k f.a f.b = legal k f.a f.b r.legal in
    let out : length (over k.facets f.a) ≡ length f.b = ap length l.link ∙ many_sides f.a f.b l.shape.apart f.b (above_tail nat_cmp 0 f.b r.faces.second.rising) (λ x t. t) in
    let most : length (flipped k f.a f.b).facets ≤ length (beside k.facets f.a ++ join_boundary f.b f.a) = rising_length (beside k.facets f.a ++ join_boundary f.b f.a) in
    omega (arith, parted k.facets f.a, out, most, length-append (beside k.facets f.a) (join_boundary f.b f.a), length_sides f.b f.a f.a, l.shape.sizes, r.high)
