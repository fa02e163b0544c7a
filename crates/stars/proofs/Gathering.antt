-- The complex gathered from its stars: each facet from the star of its first label.
use Rattle.std.proofs.Common.{◌≡◌, ℕ, ◌+◌, ◌-◌, ◌<◌, ◌≤◌, true, false, nat_eq, ◌||◌, List, [], ◌∷◌, length, Result, Ok, Err, IfOk, sym, ◌∙◌, ap, refl, subst, arith}
use Rattle.std.specs.List.{flat_map, AllByRecursion}
use Rattle.std.specs.Ordering.{nat_cmp}
use Rattle.std.specs.Cmp.{first_so}
use Rattle.std.specs.Cmp.Derive.{both_true}
use Rattle.std.specs.Cmp.Lexicographic.{pointwise, nat_list_cmp_total}
use Rattle.std.proofs.lemmas.Bool.{true≢false}
use Rattle.complex_core.specs.Labels.{has, holds, face_cmp}
use Rattle.complex_core.specs.Rising.{rising}
use Rattle.complex_core.specs.Complexes.{ComplexView, IsComplex, IsFacet}
use Rattle.complex_core.specs.ComplexFaults.{CanMake, StopsPure, CanBegin, first_size}
use Rattle.complex_core.proofs.Sets.{above_head, sorted_rising}
use Rattle.complex_core.proofs.Faces.{less_cmp}
use Rattle.complex_core.proofs.Laws.{both_ways, nat_eq_is, nat_eq_same, or_left, or_right, listed, listed-append, listed-filter, listed-rising, same_lists, same_set_itself, either}
use Rattle.star_laws.specs.Stars.{star}
use Rattle.stars.specs.StarViews.{VertexStar, StarList, all_stars, vertices, places_in, IsStarOf, AreStarsOf, IsStarListOf}
use Rattle.stars.specs.Building.{begins, first_rows}
use Rattle.stars.proofs.Numbering.{has_numbered, listed_stars}
use Rattle.stars.proofs.Mapping.{uses_of}
use Rattle.stars.proofs.Finding.{each_at}
use Rattle.complex_core.proofs.SetLists.{of_kind, some_before_rising}

-- what is gathered are facets
gathered_listed : (k : ComplexView) (stars : List VertexStar) (f : List ℕ) → AllByRecursion (IsStarOf k) stars → listed (flat_map first_rows stars) f ≡ true → listed k.facets f ≡ true
gathered_listed k [] f h t = absurd (true≢false (sym t))
gathered_listed k (s ∷ stars) f h t =
    either (listed (first_rows s) f) (listed (flat_map first_rows stars) f) (listed k.facets f) (sym (listed-append (first_rows s) (flat_map first_rows stars) f) ∙ t)
    (λ r. first_so (listed k.facets f) (holds f (s.vertex ∷ [])) (sym (listed-filter (λ g. holds g (s.vertex ∷ [])) k.facets f) ∙ ap (λ fs. listed fs f) (sym h.0.rows) ∙ first_so (listed s.rows f) (begins f s.vertex) (sym (listed-filter (λ g. begins g s.vertex) s.rows f) ∙ r)))
    (λ r. gathered_listed k stars f h.1 r)

-- a facet is gathered from the star of its first label
listed_gathered : (k : ComplexView) (stars : List VertexStar) (f : List ℕ) (v : ℕ) → AllByRecursion (IsStarOf k) stars → has (vertices stars) v ≡ true → listed k.facets f ≡ true → begins f v ≡ true → has f v ≡ true → listed (flat_map first_rows stars) f ≡ true
listed_gathered k [] f v h t l b i = absurd (true≢false (sym t))
listed_gathered k (s ∷ stars) f v h t l b i =
    listed-append (first_rows s) (flat_map first_rows stars) f
    ∙ elim (nat_eq s.vertex v) as (λ c. nat_eq s.vertex v ≡ c → (c || has (vertices stars) v) ≡ true → (listed (first_rows s) f || listed (flat_map first_rows stars) f) ≡ true) [
      | true ↦ λ e _.
          let g : s.vertex ≡ v = nat_eq_is s.vertex v e in
          let row : listed s.rows f ≡ true = ap (λ fs. listed fs f) (h.0.rows ∙ ap (star k.facets) g) ∙ listed-filter (λ x. holds x (v ∷ [])) k.facets f ∙ both_true l (both_true i refl) in
          or_left (listed (first_rows s) f) (listed (flat_map first_rows stars) f) (listed-filter (λ x. begins x s.vertex) s.rows f ∙ both_true row (ap (begins f) g ∙ b))
      | false ↦ λ _ r. or_right (listed (first_rows s) f) (listed (flat_map first_rows stars) f) (listed_gathered k stars f v h.1 r l b i)
    ] refl t

all_kind : (P : List ℕ → Type 0) (fs : List (List ℕ)) → ((f : List ℕ) → listed fs f ≡ true → P f) → AllByRecursion P fs
all_kind P [] h = tt
all_kind P (f ∷ fs) h = (h f (or_left (pointwise nat_eq f f) (listed fs f) (same_set_itself f)), all_kind P fs (λ g t. h g (or_right (pointwise nat_eq f g) (listed fs g) t)))

-- the first label of a facet
first_label : (d : ℕ) (f : List ℕ) → IsFacet d f → (v : ℕ) × (begins f v ≡ true) × (has f v ≡ true) × (0 < v)
first_label d [] h = absurd (omega (arith, h.size))
first_label d (x ∷ xs) h = (x, nat_eq_same x, or_left (nat_eq x x) (has xs x) (nat_eq_same x), less_cmp 0 x (above_head nat_cmp 0 (x ∷ xs) h.face.rising).0)

-- the sets that are gathered are the facets
pub record AreFacets (k : ComplexView) (fs : List (List ℕ)) : Type 0 where
  pub same : rising face_cmp fs ≡ k.facets
  pub sized : AllByRecursion (λ f. length f ≡ k.dim + 1) fs
  pub some : 0 < length fs

pub gathered_facets : (k : ComplexView) (m : StarList) → IsStarListOf k m → AreFacets k (flat_map first_rows (all_stars m))
gathered_facets k m h = record {
  same = same;
  sized = all_kind (λ f. length f ≡ k.dim + 1) fs (λ f t. (of_kind (IsFacet k.dim) k.facets f h.complex.pure (gathered_listed k (all_stars m) f stars.each t)).size);
  some = some_before_rising fs (let e : length (rising face_cmp fs) ≡ length k.facets = ap length same in omega (arith, e, h.complex.some));
}
  where
    fs : List (List ℕ)
    fs = flat_map first_rows (all_stars m)

    stars : AreStarsOf k (all_stars m)
    stars = listed_stars k m h

    back : (f : List ℕ) → listed k.facets f ≡ true → listed (flat_map first_rows (all_stars m)) f ≡ true
    back f t =
        let v : (v : ℕ) × (begins f v ≡ true) × (has f v ≡ true) × (0 < v) = first_label k.dim f (of_kind (IsFacet k.dim) k.facets f h.complex.pure t) in
        listed_gathered k (all_stars m) f v.0 stars.each (has_numbered m.dim 0 m.stars v.0 v.3 (let u : v.0 ≤ places_in m = uses_of k (places_in m) f v.0 h.within t v.2 in omega (arith, u))) t v.1 v.2

    same : rising face_cmp (flat_map first_rows (all_stars m)) ≡ k.facets
    same = same_lists (rising face_cmp (flat_map first_rows (all_stars m))) k.facets (sorted_rising nat_list_cmp_total (flat_map first_rows (all_stars m))) h.complex.rising (λ f.
        listed-rising (flat_map first_rows (all_stars m)) f
        ∙ both_ways (listed (flat_map first_rows (all_stars m)) f) (listed k.facets f) (gathered_listed k (all_stars m) f stars.each) (back f))

first_sized : (n : ℕ) (fs : List (List ℕ)) → 0 < length fs → AllByRecursion (λ f. length f ≡ n) fs → first_size fs ≡ n
first_sized n [] some h = absurd (omega (arith, some))
first_sized n (f ∷ fs) some h = h.0

-- the complex that is made of them
pub made_complex : (k c : ComplexView) (fs gs : List (List ℕ)) → AreFacets k fs → gs ≡ fs → c.facets ≡ rising face_cmp gs → c.dim ≡ first_size gs - 1 → c ≡ k
made_complex k c fs gs h e ef ed =
    let facets : c.facets ≡ k.facets = ef ∙ ap (rising face_cmp) e ∙ h.same in
    let size : first_size fs ≡ k.dim + 1 = first_sized (k.dim + 1) fs h.some h.sized in
    let dim : c.dim ≡ k.dim = omega (arith, ed, ap first_size e, size) in
    λ i. record { dim = dim i; facets = facets i }

same_sizes : (n m : ℕ) (fs : List (List ℕ)) → n ≡ m → AllByRecursion (λ f. length f ≡ n) fs → AllByRecursion (λ f. length f ≡ m) fs
same_sizes n m [] e h = tt
same_sizes n m (f ∷ fs) e h = (h.0 ∙ e, same_sizes n m fs e h.1)

-- they can make a complex
pub can_make : (k : ComplexView) (fs gs : List (List ℕ)) → IsComplex k → AreFacets k fs → gs ≡ fs → CanMake gs
can_make k fs gs c h e =
    let P : List (List ℕ) → Type 0 = λ xs. CanMake xs in
    let size : first_size fs ≡ k.dim + 1 = first_sized (k.dim + 1) fs h.some h.sized in
    subst P (sym e) (record {
      begins = record { some = h.some; low = omega (arith, size); high = omega (arith, size, c.low) };
      pure = same_sizes (k.dim + 1) (first_size fs) fs (sym size) h.sized;
    })

-- no set has another size
pub all_sized : (fs : List (List ℕ)) (place : ℕ) → CanMake fs → CanBegin fs × StopsPure fs place → ⊥
all_sized fs place h r = r.1.there (each_at (λ f. length f ≡ first_size fs) fs place [] h.pure r.1.inside)

pub made_if : {E : Type 0} (m : StarList) (gs : List (List ℕ)) (r : Result ComplexView E) → gs ≡ flat_map first_rows (all_stars m) → IfOk r (λ c. c.facets ≡ rising face_cmp gs) → IfOk r (λ c. c.dim ≡ first_size gs - 1) → IfOk r (λ c. (k : ComplexView) → IsStarListOf k m → c ≡ k)
made_if m gs (Ok c) e ef ed = λ k h. made_complex k c (flat_map first_rows (all_stars m)) gs (gathered_facets k m h) e ef ed
made_if m gs (Err x) e ef ed = tt
