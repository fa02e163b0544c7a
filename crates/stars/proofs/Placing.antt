-- The stars of all places, filled facet by facet.
use Rattle.std.proofs.Common.{◌≡◌, ℕ, zero, suc, ◌+◌, ◌-◌, ◌^◌, ◌<◌, ◌≤◌, Bool, true, false, cond, nat_eq, if◌then◌else◌, ◌&&◌, List, [], ◌∷◌, ◌++◌, length, map, take, drop, get_or, sym, ◌∙◌, ap, refl, subst, arith, append-nil}
use Rattle.std.specs.List.{AllByRecursion}
use Rattle.std.specs.List.Sorted.{IsStrictlySortedBy}
use Rattle.std.proofs.lemmas.List.{take_more, take-append-drop, get_or-map, length-map}
use Rattle.std.proofs.lemmas.List.Elements.{filter-append}
use Rattle.std.proofs.lemmas.List.Kept.{IsStrictlySortedBy-filter}
use Rattle.complex_core.specs.Labels.{has, holds, face_cmp}
use Rattle.complex_core.specs.Complexes.{ComplexView, IsComplex, IsFacet}
use Rattle.complex_core.proofs.Sets.{sorted_front}
use Rattle.complex_core.proofs.Laws.{listed, or_left, or_right, same_set_itself}
use Rattle.std.specs.Cmp.Lexicographic.{pointwise}
use Rattle.star_laws.specs.Stars.{star}
use Rattle.stars.specs.StarViews.{VertexStar, KeptStar, IsStar, shown, AreNumbered, UsesUpTo, numbered, IsStarListOf}
use Rattle.stars.specs.Building.{stars_of, with_row, with_rows, CanAdd}
use Rattle.stars.proofs.Finding.{length-shown}
use Rattle.stars.proofs.Changing.{star_held}
use Rattle.stars.proofs.Mapping.{uses_of}
use Rattle.complex_core.proofs.Sorting.{each_filter}

pub length-stars_of : (d : ℕ) (fs : List (List ℕ)) (n count : ℕ) → length (stars_of d fs n count) ≡ count
length-stars_of d fs n zero = refl
length-stars_of d fs n (suc count) = ap suc (length-stars_of d fs (n + 1) count)

star_there : (d n v : ℕ) (fs : List (List ℕ)) (count i : ℕ) (other : VertexStar) → i < count → v ≡ n + i + 1 → get_or (stars_of d fs n count) i other ≡ record { vertex = v; dim = d; rows = star fs v }
star_there d n v fs zero i other l e = absurd (omega (arith, l))
star_there d n v fs (suc count) zero other l e = let g : n + 1 ≡ v = omega (arith, e) in λ j. record { vertex = g j; dim = d; rows = star fs (g j) }
star_there d n v fs (suc count) (suc i) other l e = star_there d (n + 1) v fs count i other (omega (arith, l)) (omega (arith, e))

-- one place more
stars_next : (d n : ℕ) (fs : List (List ℕ)) (count v : ℕ) → v ≡ n + count + 1 → stars_of d fs n (suc count) ≡ stars_of d fs n count ++ record { vertex = v; dim = d; rows = star fs v } ∷ []
stars_next d n fs zero v e = let g : n + 1 ≡ v = omega (arith, e) in λ j. record { vertex = g j; dim = d; rows = star fs (g j) } ∷ []
stars_next d n fs (suc count) v e = ap (λ ss. record { vertex = n + 1; dim = d; rows = star fs (n + 1) } ∷ ss) (stars_next d (n + 1) fs count v (omega (arith, e)))

pub empty_next : (d place : ℕ) (now new : List VertexStar) (s : VertexStar) → now ≡ stars_of d [] 0 place → s ≡ record { vertex = place + 1; dim = d; rows = [] } → new ≡ now ++ s ∷ [] → new ≡ stars_of d [] 0 (place + 1)
empty_next d place now new s e es en =
    let g : suc place ≡ place + 1 = omega arith in
    en ∙ (λ i. e i ++ es i ∷ []) ∙ sym (stars_next d 0 [] place (place + 1) (omega arith)) ∙ ap (stars_of d [] 0) g

-- one facet more
star_push : (fs : List (List ℕ)) (f : List ℕ) (v : ℕ) → star (fs ++ f ∷ []) v ≡ (if has f v then star fs v ++ f ∷ [] else star fs v)
star_push fs f v = filter-append (λ g. holds g (v ∷ [])) fs (f ∷ []) ∙ by_test (has f v)
  where
    by_test : (b : Bool) → star fs v ++ cond (b && true) (f ∷ []) [] ≡ cond b (star fs v ++ f ∷ []) (star fs v)
    by_test true = refl
    by_test false = append-nil (star fs v)

abbrev placed : ℕ → ℕ → List (List ℕ) → VertexStar
placed v d rows = record { vertex = v; dim = d; rows = rows }

rows_pushed : (d n : ℕ) (fs : List (List ℕ)) (f : List ℕ) (count : ℕ) → with_rows f f (stars_of d fs n count) ≡ stars_of d (fs ++ f ∷ []) n count
rows_pushed d n fs f zero = refl
rows_pushed d n fs f (suc count) = λ i. (by_test (has f (n + 1)) ∙ ap (placed (n + 1) d) (sym (star_push fs f (n + 1)))) i ∷ rows_pushed d (n + 1) fs f count i
  where
    by_test : (b : Bool) → cond b (placed (n + 1) d (star fs (n + 1) ++ f ∷ [])) (placed (n + 1) d (star fs (n + 1))) ≡ placed (n + 1) d (cond b (star fs (n + 1) ++ f ∷ []) (star fs (n + 1)))
    by_test true = refl
    by_test false = refl

pub facet_next : (d count j : ℕ) (fs : List (List ℕ)) (f : List ℕ) (now new : List VertexStar) → j < length fs → f ≡ get_or fs j f → now ≡ stars_of d (take j fs) 0 count → new ≡ with_rows f f now → new ≡ stars_of d (take (j + 1) fs) 0 count
facet_next d count j fs f now new l is e en =
    en ∙ ap (with_rows f f) e ∙ rows_pushed d 0 (take j fs) f count
    ∙ ap (λ g. stars_of d (take j fs ++ g ∷ []) 0 count) is
    ∙ ap (λ gs. stars_of d gs 0 count) (sym (take_more fs j f l))

-- ---- what each facet asks

star_fits : (k : ComplexView) (fs : List (List ℕ)) (v : ℕ) → IsComplex k → 0 < v → IsStrictlySortedBy face_cmp fs → AllByRecursion (IsFacet k.dim) fs → IsStar (record { vertex = v; dim = k.dim; rows = star fs v })
star_fits k fs v h pos rises pure = record {
  vertex = pos;
  low = h.low;
  rising = IsStrictlySortedBy-filter face_cmp (λ f. holds f (v ∷ [])) fs rises;
  pure = each_filter (IsFacet k.dim) (λ f. holds f (v ∷ [])) fs pure;
  held = star_held fs v;
}

each_front : {K : Type 0} (P : K → Type 0) (n : ℕ) (xs : List K) → AllByRecursion P xs → AllByRecursion P (take n xs)
each_front P zero xs h = tt
each_front P (suc n) [] h = tt
each_front P (suc n) (x ∷ xs) h = (h.0, each_front P n xs h.1)

front_rises : (n : ℕ) (fs : List (List ℕ)) → IsStrictlySortedBy face_cmp fs → IsStrictlySortedBy face_cmp (take n fs)
front_rises n fs s = let P : List (List ℕ) → Type 0 = λ gs. IsStrictlySortedBy face_cmp gs in sorted_front face_cmp (take n fs) (drop n fs) (subst P (sym (take-append-drop n fs)) s)

listed_at : (fs : List (List ℕ)) (j : ℕ) (d : List ℕ) → j < length fs → listed fs (get_or fs j d) ≡ true
listed_at [] j d l = absurd (omega (arith, l))
listed_at (f ∷ fs) zero d l = or_left (pointwise nat_eq f f) (listed fs f) (same_set_itself f)
listed_at (f ∷ fs) (suc j) d l = or_right (pointwise nat_eq f (get_or fs j d)) (listed fs (get_or fs j d)) (listed_at fs j d (omega (arith, l)))

pub can_add : (k : ComplexView) (d count j : ℕ) (fs : List (List ℕ)) (f : List ℕ) (now : List VertexStar) → IsComplex k → d ≡ k.dim → fs ≡ k.facets → UsesUpTo k count → j < length fs → f ≡ get_or fs j f → now ≡ stars_of d (take j fs) 0 count → CanAdd now f
can_add k d count j fs f now h ed ef uses l is e = record {
  numbered = λ i other li. ap (λ (s : VertexStar). s.vertex) (there i other li);
  within = λ x t. omega (arith, long, uses_of k count f x uses (ap (λ gs. listed gs f) (sym ef) ∙ ap (listed fs) is ∙ listed_at fs j f l) t);
  fits = λ i other li t. fit i other li t;
}
  where
    long : length now ≡ count
    long = ap length e ∙ length-stars_of d (take j fs) 0 count

    there : (i : ℕ) (other : VertexStar) → i < length now → get_or now i other ≡ record { vertex = i + 1; dim = d; rows = star (take j fs) (i + 1) }
    there i other li = ap (λ ss. get_or ss i other) e ∙ star_there d 0 (i + 1) (take j fs) count i other (omega (arith, li, long)) (omega arith)

    more : take (j + 1) fs ≡ take j fs ++ f ∷ []
    more = take_more fs j f l ∙ ap (λ g. take j fs ++ g ∷ []) (sym is)

    fit : (i : ℕ) (other : VertexStar) → i < length now → has f (i + 1) ≡ true → IsStar (with_row f (get_or now i other))
    fit i other li t =
        let P : VertexStar → Type 0 = λ s. IsStar s in
        let Q : List (List ℕ) → Type 0 = λ gs. IsStrictlySortedBy face_cmp gs in
        let R : List (List ℕ) → Type 0 = λ gs. AllByRecursion (IsFacet k.dim) gs in
        let made : IsStar (record { vertex = i + 1; dim = k.dim; rows = star (take (j + 1) fs) (i + 1) }) = star_fits k (take (j + 1) fs) (i + 1) h (omega arith) (front_rises (j + 1) fs (subst Q (sym ef) h.rising)) (each_front (IsFacet k.dim) (j + 1) fs (subst R (sym ef) h.pure)) in
        let rows : star (take (j + 1) fs) (i + 1) ≡ star (take j fs) (i + 1) ++ f ∷ [] = ap (λ gs. star gs (i + 1)) more ∙ star_push (take j fs) f (i + 1) ∙ ap (λ b. cond b (star (take j fs) (i + 1) ++ f ∷ []) (star (take j fs) (i + 1))) t in
        subst P ((λ q. record { vertex = i + 1; dim = sym ed q; rows = rows q }) ∙ sym (ap (with_row f) (there i other li))) made

-- ---- the map of the filled stars

numbered_stars : (d n : ℕ) (fs : List (List ℕ)) (count : ℕ) → stars_of d fs n count ≡ numbered d n (map (λ (s : VertexStar). s.rows) (stars_of d fs n count))
numbered_stars d n fs zero = refl
numbered_stars d n fs (suc count) = ap (λ ss. record { vertex = n + 1; dim = d; rows = star fs (n + 1) } ∷ ss) (numbered_stars d (n + 1) fs count)

pub filled_fields : (d count : ℕ) (fs : List (List ℕ)) (items : List KeptStar) → shown items ≡ stars_of d fs 0 count → count < 2 ^ 16 → (length items < 2 ^ 16) × AreNumbered d (shown items)
filled_fields d count fs items e few = (omega (arith, few, length-shown items, ap length e, length-stars_of d fs 0 count), subst (AreNumbered d) (sym e) (numbered_stars d 0 fs count))

pub all_done : (fs gs : List (List ℕ)) (j : ℕ) → fs ≡ gs → length fs ≤ j → take j fs ≡ gs
all_done fs gs j e l = take_past fs j l ∙ e
  where
    take_past : (fs : List (List ℕ)) (j : ℕ) → length fs ≤ j → take j fs ≡ fs
    take_past [] zero l = refl
    take_past [] (suc j) l = refl
    take_past (f ∷ fs) zero l = absurd (omega (arith, l))
    take_past (f ∷ fs) (suc j) l = ap (λ gs. f ∷ gs) (take_past fs j (omega (arith, l)))

pub filled_map : (k : ComplexView) (d count : ℕ) (fs : List (List ℕ)) (items : List VertexStar) → IsComplex k → d ≡ k.dim → UsesUpTo k count → items ≡ stars_of d fs 0 count → fs ≡ k.facets → IsStarListOf k (record { dim = d; stars = map (λ (s : VertexStar). s.rows) items })
filled_map k d count fs items h ed uses e ef = record {
  complex = h;
  dim = ed;
  within = let P : ℕ → Type 0 = λ n. UsesUpTo k n in subst P (sym long) uses;
  stars = λ p low high.
      let none : VertexStar = record { vertex = 0; dim = 0; rows = [] } in
      let inside : p - 1 < count = omega (arith, low, high, long) in
      get_or-map (λ (s : VertexStar). s.rows) items (p - 1) none [] (omega (arith, inside, length-map items (λ (s : VertexStar). s.rows), long))
      ∙ ap (λ ss. (get_or ss (p - 1) none).rows) e
      ∙ ap (λ (s : VertexStar). s.rows) (star_there d 0 p fs count (p - 1) none inside (omega (arith, low)))
      ∙ ap (λ gs. star gs p) ef;
}
  where
    long : length (map (λ (s : VertexStar). s.rows) items) ≡ count
    long = length-map items (λ (s : VertexStar). s.rows) ∙ ap length e ∙ length-stars_of d fs 0 count

pub filled_places : (d count : ℕ) (fs : List (List ℕ)) (items : List VertexStar) → items ≡ stars_of d fs 0 count → length (map (λ (s : VertexStar). s.rows) items) ≡ count
filled_places d count fs items e = length-map items (λ (s : VertexStar). s.rows) ∙ ap length e ∙ length-stars_of d fs 0 count
