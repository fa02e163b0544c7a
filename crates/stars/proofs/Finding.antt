-- Stars that rise in their vertices, found by a vertex.
use Rattle.std.proofs.Common.{◌≡◌, ℕ, zero, suc, ◌<◌, ◌≤◌, true, false, nat_lt, List, [], ◌∷◌, length, get_or, sym, ◌∙◌, ap, subst, arith, inl, inr}
use Rattle.std.specs.List.{AllByRecursion}
use Rattle.std.specs.List.Sorted.{IsStrictlySortedBy, IsPartitionedBy, IsPartitionPoint}
use Rattle.std.specs.Ordering.{nat_cmp}
use Rattle.std.proofs.lemmas.Bool.{cases_lt, ltb-true, ltb-false}
use Rattle.std.proofs.lemmas.Bool.Decides.{nat_tests}
use Rattle.std.proofs.lemmas.List.{get_or-map, length-map}
use Rattle.std.proofs.lemmas.Map.Keys.{below_from_sorted}
use Rattle.complex_core.specs.Labels.{IsRising, has}
use Rattle.complex_core.proofs.Sets.{above_tail}
use Rattle.stars.specs.StarViews.{VertexStar, KeptStar, shown, vertices}
use Rattle.complex_core.proofs.Members.{place_of_label}

none_star : KeptStar
none_star = record { star = record { vertex = 0; dim = 0; rows = [] }; room = 0 }

pub vertex_at : (near : List VertexStar) (i : ℕ) (s : VertexStar) → i < length near → get_or (vertices near) i 0 ≡ (get_or near i s).vertex
vertex_at near i s h = get_or-map (λ (t : VertexStar). t.vertex) near i s 0 h

pub length-vertices : (near : List VertexStar) → length (vertices near) ≡ length near
length-vertices near = length-map near (λ (t : VertexStar). t.vertex)

pub rises : (near : List VertexStar) → IsRising (vertices near) → IsStrictlySortedBy nat_cmp (vertices near)
rises near r = above_tail nat_cmp 0 (vertices near) r

-- vertices rise from place to place
pub vertex_below : (near : List VertexStar) (i j : ℕ) (s : VertexStar) → IsRising (vertices near) → i < j → j < length near → (get_or near i s).vertex < (get_or near j s).vertex
vertex_below near i j s r l h =
    let n : length (vertices near) ≡ length near = length-vertices near in
    let b : get_or (vertices near) i 0 < get_or (vertices near) j 0 = below_from_sorted (vertices near) i j 0 (rises near r) l (omega (arith, n, h)) in
    let p : get_or (vertices near) i 0 ≡ (get_or near i s).vertex = vertex_at near i s (omega (arith, l, h)) in
    let q : get_or (vertices near) j 0 ≡ (get_or near j s).vertex = vertex_at near j s h in
    omega (arith, b, p, q)

-- so one place has a vertex
pub one_place : (near : List VertexStar) (i j : ℕ) (s : VertexStar) → IsRising (vertices near) → i < length near → j < length near → (get_or near i s).vertex ≡ (get_or near j s).vertex → i ≡ j
one_place near i j s r hi hj e = elim (cases_lt i j) [
  | inl l ↦ let b : (get_or near i s).vertex < (get_or near j s).vertex = vertex_below near i j s r l hj in absurd (omega (arith, b, e))
  | inr n ↦ elim (cases_lt j i) [
    | inl l ↦ let b : (get_or near j s).vertex < (get_or near i s).vertex = vertex_below near j i s r l hi in absurd (omega (arith, b, e))
    | inr m ↦ omega arith
  ]
]

-- a star as it is shown
pub shown_at : (near : List KeptStar) (i : ℕ) (s : KeptStar) (d : VertexStar) → i < length near → get_or (shown near) i d ≡ (get_or near i s).star
shown_at near i s d l = get_or-map (λ (t : KeptStar). t.star) near i s d l

pub length-shown : (near : List KeptStar) → length (shown near) ≡ length near
length-shown near = length-map near (λ (t : KeptStar). t.star)

kept_at : (near : List KeptStar) (i : ℕ) (s : KeptStar) → i < length near → (get_or (shown near) i s.star).vertex ≡ (get_or near i s).star.vertex
kept_at near i s l = ap (λ (t : VertexStar). t.vertex) (shown_at near i s s.star l)

lt_lower : (a b x : ℕ) → a ≤ b → nat_lt b x ≡ true → nat_lt a x ≡ true
lt_lower a b x h t = grind (arith, nat_tests)

pub parted : (near : List KeptStar) (x : ℕ) → IsRising (vertices (shown near)) → IsPartitionedBy (λ s. nat_lt s.star.vertex x) near
parted near x r = λ i j d le lt h. elim (cases_lt i j) [
  | inl below ↦
      let b : (get_or (shown near) i d.star).vertex < (get_or (shown near) j d.star).vertex = vertex_below (shown near) i j d.star r below (omega (arith, lt, length-shown near)) in
      lt_lower (get_or near i d).star.vertex (get_or near j d).star.vertex x (omega (arith, b, kept_at near i d (omega (arith, below, lt)), kept_at near j d lt)) h
  | inr not_below ↦ let e : j ≡ i = omega arith in let P : ℕ → Type 0 = λ k. nat_lt (get_or near k d).star.vertex x ≡ true in subst P e h
]

-- the place of a vertex
pub record FoundAt (near : List KeptStar) (x at : ℕ) : Type 0 where
  pub within : at < length near
  pub there : (other : KeptStar) → (get_or near at other).star.vertex ≡ x

pub found_at : (near : List KeptStar) (x at : ℕ) → IsRising (vertices (shown near)) → has (vertices (shown near)) x ≡ true → at ≤ length near → IsPartitionPoint (λ s. nat_lt s.star.vertex x ≡ true) (λ s. nat_lt s.star.vertex x ≡ false) near at → FoundAt near x at
found_at near x at r t le place =
    let h : (j : ℕ) × (j < length (vertices (shown near))) × (get_or (vertices (shown near)) j 0 ≡ x) = place_of_label (vertices (shown near)) x t in
    let n : length (vertices (shown near)) ≡ length near = length-vertices (shown near) ∙ length-shown near in
    let inside : h.0 < length near = omega (arith, h.1, n) in
    let v : (s : KeptStar) → (get_or near h.0 s).star.vertex ≡ x = λ s. sym (vertex_at (shown near) h.0 s.star (omega (arith, inside, length-shown near)) ∙ kept_at near h.0 s inside) ∙ h.2 in
    let e : h.0 ≡ at = elim (cases_lt h.0 at) [
      | inl l ↦ let b : (get_or near h.0 none_star).star.vertex < x = ltb-true (get_or near h.0 none_star).star.vertex x (place.0 h.0 none_star (omega arith) l) in absurd (omega (arith, b, v none_star))
      | inr m ↦ elim (cases_lt at h.0) [
        | inl l ↦
            let b : (get_or (shown near) at none_star.star).vertex < (get_or (shown near) h.0 none_star.star).vertex = vertex_below (shown near) at h.0 none_star.star r l (omega (arith, inside, length-shown near)) in
            let c : x ≤ (get_or near at none_star).star.vertex = ltb-false (get_or near at none_star).star.vertex x (place.1 at none_star (omega arith) (omega (arith, l, inside))) in
            absurd (omega (arith, b, c, v none_star, kept_at near at none_star (omega (arith, l, inside)), kept_at near h.0 none_star inside))
        | inr k ↦ omega arith
      ]
    ] in
    let P : ℕ → Type 0 = λ i. FoundAt near x i in
    subst P e (record { within = inside; there = v })

-- a fact of each, at a place
pub each_at : {X : Type 0} (P : X → Type 0) (xs : List X) (i : ℕ) (d : X) → AllByRecursion P xs → i < length xs → P (get_or xs i d)
each_at P [] i d h l = absurd (omega (arith, l))
each_at P (x ∷ xs) zero d h l = h.0
each_at P (x ∷ xs) (suc i) d h l = each_at P xs i d h.1 (omega (arith, l))

pub each_from : {X : Type 0} (P : X → Type 0) (xs : List X) (d : X) → ((i : ℕ) → i < length xs → P (get_or xs i d)) → AllByRecursion P xs
each_from P [] d h = tt
each_from P (x ∷ xs) d h = (h 0 (omega arith), each_from P xs d (λ i l. h (suc i) (omega (arith, l))))
