-- The link of a face, as it is made of the flags of the face.
use Rattle.std.proofs.Common.{◌≡◌, ℕ, ◌+◌, ◌-◌, ◌<◌, true, false, not, nat_eq, cond, ◌||◌, List, [], ◌∷◌, length, map, Result, Ok, Err, IfOk, sym, ◌∙◌, ap, refl, subst, arith}
use Rattle.std.specs.List.{AllByRecursion}
use Rattle.std.specs.Cmp.{second_so}
use Rattle.std.proofs.lemmas.List.{length-map}
use Rattle.complex_core.specs.Labels.{holds, face_cmp}
use Rattle.complex_core.specs.Rising.{rising}
use Rattle.complex_core.specs.Complexes.{ComplexView, IsComplex, IsFacet, over, is_held}
use Rattle.complex_core.specs.ComplexFaults.{CanMake, first_size}
use Rattle.complex_core.specs.Links.{less, link}
use Rattle.complex_core.proofs.LinkFaces.{link_pure}
use Rattle.complex_core.proofs.Sorting as sorting
use Rattle.complex_core.proofs.SubsetLists.{clash}
use Rattle.link_check.specs.BadLinks.{HasLink}
use Rattle.link_check.specs.Sizes.{AreFlagsAt}
use Rattle.link_check.proofs.Flagged.{run_is}

-- the facets of a link, before they are sorted
abbrev pub parts : ComplexView → List ℕ → List (List ℕ)
parts k s = map (λ f. less f s) (over k.facets s)

some_over : (fs : List (List ℕ)) (s : List ℕ) → is_held fs s ≡ true → 0 < length (over fs s)
some_over [] s t = clash true refl (sym t)
some_over (f ∷ fs) s t =
    elim (holds f s) as (λ b. (b || is_held fs s) ≡ true → 0 < length (cond b (f ∷ over fs s) (over fs s))) [
      | true ↦ λ _. omega arith
      | false ↦ λ u. some_over fs s u
    ] t

module _ (k : ComplexView) (s : List ℕ) (c : IsComplex k) (h : HasLink k s) where
  pub held : is_held k.facets s ≡ true
  held = second_so (not (nat_eq (length s) 0)) (is_held k.facets s) h.face

  some_parts : 0 < length (parts k s)
  some_parts = omega (arith, length-map (over k.facets s) (λ f. less f s), some_over k.facets s held)

  pure_parts : AllByRecursion (IsFacet (k.dim - length s)) (parts k s)
  pure_parts = link_pure k s k.dim (length s) (over k.facets s) (over k.facets s) (parts k s) c h.labels h.proper refl refl refl refl refl

  -- the link of a face is a complex
  pub link_complex : IsComplex (link k s)
  link_complex = sorting.sorted_complex (k.dim - length s) (parts k s) (rising face_cmp (parts k s)) refl (omega (arith, c.low)) some_parts pure_parts

  pub can_make : CanMake (parts k s)
  can_make = sorting.can_make (k.dim - length s + 1) (parts k s) some_parts (λ e. absurd (omega (arith, e))) (λ e. absurd (omega (arith, e, c.low))) (sized (parts k s) pure_parts)
    where
      sized : (fs : List (List ℕ)) → AllByRecursion (IsFacet (k.dim - length s)) fs → sorting.Sized (k.dim - length s + 1) fs
      sized [] a = tt
      sized (f ∷ fs) a = ((a.0.face, a.0.size), sized fs a.1)

  first_of : (fs : List (List ℕ)) → 0 < length fs → AllByRecursion (IsFacet (k.dim - length s)) fs → first_size fs ≡ k.dim - length s + 1
  first_of [] some a = absurd (omega (arith, some))
  first_of (f ∷ fs) some a = a.0.size

  pub made : (l : ComplexView) (gs : List (List ℕ)) → gs ≡ parts k s → l.facets ≡ rising face_cmp gs → l.dim ≡ first_size gs - 1 → l ≡ link k s
  made l gs e ef ed =
      let facets : l.facets ≡ rising face_cmp (parts k s) = ef ∙ ap (rising face_cmp) e in
      let dim : l.dim ≡ k.dim - length s = omega (arith, ed, ap first_size e, first_of (parts k s) some_parts pure_parts) in
      λ i. record { dim = dim i; facets = facets i }

seconds : (s : List ℕ) (near : List (List ℕ × List ℕ)) → map (λ p. less p.1 s) near ≡ map (λ f. less f s) (map (λ p. p.1) near)
seconds s [] = refl
seconds s (p ∷ near) = ap (λ fs. less p.1 s ∷ fs) (seconds s near)

-- the facets of the flags of a face, less the face
pub parts_of : (k : ComplexView) (s : List ℕ) (near : List (List ℕ × List ℕ)) (items shown : List (List ℕ)) → AreFlagsAt k s near → items ≡ map (λ p. less p.1 s) near → shown ≡ items → shown ≡ parts k s
parts_of k s near items shown a e f = f ∙ e ∙ seconds s near ∙ ap (map (λ g. less g s)) (ap (map (λ p. p.1)) a.are ∙ run_is k a.complex s a.has)

pub can_make_of : (k : ComplexView) (s : List ℕ) (near : List (List ℕ × List ℕ)) (items shown : List (List ℕ)) → AreFlagsAt k s near → items ≡ map (λ p. less p.1 s) near → shown ≡ items → CanMake shown
can_make_of k s near items shown a e f = let P : List (List ℕ) → Type 0 = λ gs. CanMake gs in subst P (sym (parts_of k s near items shown a e f)) (can_make k s a.complex a.has)

pub made_if : {E : Type 0} (s : List ℕ) (near : List (List ℕ × List ℕ)) (items shown : List (List ℕ)) (r : Result ComplexView E) → items ≡ map (λ p. less p.1 s) near → shown ≡ items → IfOk r (λ l. l.facets ≡ rising face_cmp shown) → IfOk r (λ l. l.dim ≡ first_size shown - 1) → IfOk r (λ l. (k : ComplexView) → AreFlagsAt k s near → l ≡ link k s)
made_if s near items shown (Ok l) e f ef ed = λ k a. made k s a.complex a.has l shown (parts_of k s near items shown a e f) ef ed
made_if s near items shown (Err x) e f ef ed = tt
