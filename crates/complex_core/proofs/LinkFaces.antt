-- What is left of faces when the labels of another are taken out.
use Rattle.std.proofs.Common.{◌≡◌, ℕ, ◌+◌, ◌-◌, ◌<◌, ◌≤◌, true, false, not, nat_eq, cond, ◌&&◌, ◌||◌, List, [], ◌∷◌, length, map, sym, ◌∙◌, ap, refl, subst, arith}
use Rattle.std.specs.List.{AllByRecursion}
use Rattle.std.specs.List.Sorted.{IsStrictlySortedBy}
use Rattle.std.specs.Cmp.{first_so, second_so}
use Rattle.std.specs.Cmp.Derive.{both_true}
use Rattle.std.specs.Ordering.{nat_cmp}
use Rattle.std.proofs.lemmas.Bool.Decides.{nat_tests}
use Rattle.complex_core.specs.Labels.{IsFace, face_cmp, has, holds, without}
use Rattle.complex_core.specs.Complexes.{ComplexView, IsComplex, IsFacet, over, is_face, is_held}
use Rattle.complex_core.specs.Links.{less, link}
use Rattle.complex_core.specs.Rising.{rising}
use Rattle.complex_core.proofs.Sets.{Above, above_head, above_tail}
use Rattle.complex_core.proofs.Faces.{face_filter, less_cmp}
use Rattle.complex_core.proofs.Laws.{has-without, length-without, sorted_without}

-- a smaller label is none of those that are held
holds_without : (f : List ℕ) (x : ℕ) (ss : List ℕ) → Above nat_cmp x ss → holds f ss ≡ true → holds (without f x) ss ≡ true
holds_without f x [] a h = refl
holds_without f x (y ∷ ss) a h =
    let lower : x < y = less_cmp x y a.0 in
    let other : nat_eq y x ≡ false = grind (arith, nat_tests) in
    both_true
    (has-without f x y ∙ (λ i. first_so (has f y) (holds f ss) h i && not (other i)))
    (holds_without f x ss a.1 (second_so (has f y) (holds f ss) h))

length-less : (f s : List ℕ) → IsStrictlySortedBy nat_cmp f → IsStrictlySortedBy nat_cmp s → holds f s ≡ true → length (less f s) + length s ≡ length f
length-less f [] sf ss h = omega arith
length-less f (x ∷ s) sf ss h =
    let one : length (without f x) + 1 ≡ length f = length-without f x sf (first_so (has f x) (holds f s) h) in
    let rest : holds (without f x) s ≡ true = holds_without f x s (above_head nat_cmp x s ss) (second_so (has f x) (holds f s) h) in
    omega (arith, one, length-less (without f x) s (sorted_without f x sf) (above_tail nat_cmp x s ss) rest)

less_face : (f s : List ℕ) → IsFace f → IsFace (less f s)
less_face f [] h = h
less_face f (x ∷ s) h = less_face (without f x) s (face_filter (λ y. not (nat_eq y x)) f h)

less_facet : (d : ℕ) (f s : List ℕ) → IsFacet d f → IsFace s → length s ≤ d → holds f s ≡ true → IsFacet (d - length s) (less f s)
less_facet d f s facet face few h = record {
  face = less_face f s facet.face;
  size = omega (arith, length-less f s (above_tail nat_cmp 0 f facet.face.rising) (above_tail nat_cmp 0 s face.rising) h, facet.size, few);
}

links_pure : (d : ℕ) (fs : List (List ℕ)) (s : List ℕ) → AllByRecursion (IsFacet d) fs → IsFace s → length s ≤ d → AllByRecursion (IsFacet (d - length s)) (map (λ f. less f s) (over fs s))
links_pure d [] s facets face few = tt
links_pure d (f ∷ fs) s facets face few =
    elim (holds f s) as (λ b. holds f s ≡ b → AllByRecursion (IsFacet (d - length s)) (map (λ g. less g s) (cond b (f ∷ over fs s) (over fs s)))) [
      | true ↦ λ h. (less_facet d f s facets.0 face few h, links_pure d fs s facets.1 face few)
      | false ↦ λ _. links_pure d fs s facets.1 face few
    ] refl

-- the facets of a link, as the calls made them
pub link_pure : (k : ComplexView) (s : List ℕ) (d n : ℕ) (around shown items : List (List ℕ)) → IsComplex k → IsFace s → length s ≤ k.dim → d ≡ k.dim → n ≡ length s → around ≡ over k.facets s → shown ≡ around → items ≡ map (λ f. less f s) shown → AllByRecursion (IsFacet (d - n)) items
link_pure k s d n around shown items h face few e f g i j =
    let P : ℕ → List (List ℕ) → Type 0 = λ m fs. AllByRecursion (IsFacet m) fs in
    let size : k.dim - length s ≡ d - n = λ t. sym e t - sym f t in
    subst (λ (fs : List (List ℕ)). P (d - n) fs) (sym (j ∙ ap (map (λ f. less f s)) (i ∙ g))) (subst (λ (m : ℕ). P m (map (λ f. less f s) (over k.facets s))) size (links_pure k.dim k.facets s h.pure face few))

held_length : (fs : List (List ℕ)) (s : List ℕ) → is_held fs s ≡ not (nat_eq (length (over fs s)) 0)
held_length [] s = refl
held_length (f ∷ fs) s =
    elim (holds f s) as (λ b. (b || is_held fs s) ≡ not (nat_eq (length (cond b (f ∷ over fs s) (over fs s))) 0)) [
      | true ↦ let t : nat_eq (length (f ∷ over fs s)) 0 ≡ false = grind (arith, nat_tests) in sym (ap not t)
      | false ↦ held_length fs s
    ]

-- a set is a face where facets contain it
pub face_length : (fs around : List (List ℕ)) (s : List ℕ) → 0 < length s → around ≡ over fs s → is_face fs s ≡ not (nat_eq (length around) 0)
face_length fs around s some e =
    let t : nat_eq (length s) 0 ≡ false = grind (arith, nat_tests) in
    ap (λ b. not b && is_held fs s) t ∙ held_length fs s ∙ ap (λ gs. not (nat_eq (length gs) 0)) (sym e)

pub no_face : (fs around : List (List ℕ)) (s : List ℕ) → 0 < length s → around ≡ over fs s → length around ≡ 0 → is_face fs s ≡ true → ⊥
no_face fs around s some e none h =
    let t : nat_eq (length around) 0 ≡ true = grind (arith, nat_tests) in
    let f : true ≡ false = sym h ∙ face_length fs around s some e ∙ ap not t in
    cc

pub some_face : (fs around : List (List ℕ)) (s : List ℕ) → 0 < length s → around ≡ over fs s → 0 < length around → is_face fs s ≡ true
some_face fs around s some e more = let t : nat_eq (length around) 0 ≡ false = grind (arith, nat_tests) in face_length fs around s some e ∙ ap not t

-- the link that the calls made
pub link_made : (k : ComplexView) (s : List ℕ) (d n : ℕ) (around shown items : List (List ℕ)) (made : ComplexView) → d ≡ k.dim → n ≡ length s → around ≡ over k.facets s → shown ≡ around → items ≡ map (λ f. less f s) shown → made ≡ record { dim = d - n; facets = rising face_cmp items } → made ≡ link k s
link_made k s d n around shown items made e f g h i j =
    j ∙ (λ t. record { dim = e t - f t; facets = rising face_cmp ((i ∙ ap (map (λ x. less x s)) (h ∙ g)) t) })
