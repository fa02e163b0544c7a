-- The candidate that a word chooses.
use Rattle.std.proofs.Common.{◌≡◌, ℕ, zero, suc, ◌+◌, ◌-◌, ◌%◌, ◌<◌, ◌≤◌, true, false, cond, Option, Some, None, List, [], ◌∷◌, length, map, filter, slice_get, sym, ◌∙◌, ap, refl, arith}
use Rattle.std.specs.List.{AllByRecursion, cons_option}
use Rattle.std.specs.List.Sorted.{IsStrictlySortedBy}
use Rattle.std.specs.Result.{is_ok}
use Rattle.std.specs.Option.{option_map}
use Rattle.std.proofs.lemmas.List.{length-map}
use Rattle.complex_core.specs.Labels.{has, face_cmp}
use Rattle.complex_core.specs.Complexes.{IsFacet}
use Rattle.flip_rules.specs.declared.flip.Flip.{Flip}
use Rattle.stars.specs.StarViews.{VertexStar, IsStar}
use Rattle.stars.specs.Candidates.{flip_of, opposite, is_candidate, faces_at, candidate_faces}
use Rattle.anneal_plan.specs.Proposals.{inner, entering, chosen}
use Rattle.anneal_plan.specs.Paging.{Flips, page_of}
use Rattle.anneal_plan.proofs.Pages.{got_first, got_later}
use Rattle.anneal_plan.specs.Faces.{IsRow, AreRows, flips_at, rows_apart}
use Rattle.anneal_plan.proofs.AllFaces.{faces_sized}
use Rattle.stars.proofs.Gathered.{judged, judgement}

pub slice_get-map : {X Y : Type 0} (f : X → Y) (xs : List X) (n : ℕ) → slice_get (map f xs) n ≡ option_map f (slice_get xs n)
slice_get-map f [] n = refl
slice_get-map f (x ∷ xs) zero = refl
slice_get-map f (x ∷ xs) (suc n) = slice_get-map f xs n

pub get_none : {X : Type 0} (xs : List X) (n : ℕ) → length xs ≡ 0 → slice_get xs n ≡ None
get_none [] n e = refl
get_none (x ∷ xs) n e = absurd (omega (arith, e))

-- ---- index 0

abbrev comes_in : ℕ → List ℕ → Flip
comes_in x a = flip_of a (x ∷ [])

pub no_label : (s : VertexStar) (fresh : Option ℕ) (word : ℕ) → fresh ≡ None → chosen (entering s fresh) word ≡ None
unfolding entering
no_label s fresh word e = ap (λ f. chosen (entering s f) word) e

pub chosen_entering : (s : VertexStar) (fresh : Option ℕ) (x word n : ℕ) → fresh ≡ Some x → n ≡ length (rows_apart s.rows x) → chosen (entering s fresh) word ≡ option_map (comes_in x) (slice_get (rows_apart s.rows x) (word % n))
unfolding entering
chosen_entering s fresh x word n e is =
    let apart : List (List ℕ) = rows_apart s.rows x in
    ap (λ f. chosen (entering s f) word) e ∙ slice_get-map (comes_in x) apart (word % length (map (comes_in x) apart))
    ∙ ap (λ k. option_map (comes_in x) (slice_get apart (word % k))) (length-map apart (comes_in x) ∙ sym is)

pub none_enters : (s : VertexStar) (fresh : Option ℕ) (x word n : ℕ) → fresh ≡ Some x → n ≡ length (rows_apart s.rows x) → n ≡ 0 → None ≡ chosen (entering s fresh) word
none_enters s fresh x word n e is z = sym (chosen_entering s fresh x word n e is ∙ ap (option_map (comes_in x)) (get_none (rows_apart s.rows x) (word % n) (sym is ∙ z)))

pub row_missed : (s : VertexStar) (fresh : Option ℕ) (x word n : ℕ) (r : Option (List ℕ)) (o : Option Flip) → fresh ≡ Some x → n ≡ length (rows_apart s.rows x) → r ≡ slice_get (rows_apart s.rows x) (word % n) → r ≡ None → o ≡ None → o ≡ chosen (entering s fresh) word
row_missed s fresh x word n r o e is at none z = z ∙ sym (chosen_entering s fresh x word n e is ∙ ap (option_map (comes_in x)) (sym at ∙ none))

pub row_enters : (s : VertexStar) (fresh : Option ℕ) (x word n : ℕ) (a b : List ℕ) → fresh ≡ Some x → n ≡ length (rows_apart s.rows x) → Some a ≡ slice_get (rows_apart s.rows x) (word % n) → b ≡ x ∷ [] → Some (flip_of a b) ≡ chosen (entering s fresh) word
row_enters s fresh x word n a b e is at w = ap (λ c. Some (flip_of a c)) w ∙ sym (chosen_entering s fresh x word n e is ∙ ap (option_map (comes_in x)) (sym at))

-- ---- the other indices

size_flips : (d n : ℕ) (rows faces : List (List ℕ)) → IsStrictlySortedBy face_cmp rows → 0 < n → n ≤ d → AllByRecursion (λ a. length a ≡ n) faces → flips_at d rows faces ≡ map (λ a. flip_of a (opposite rows a)) (filter (is_candidate rows (d + 2 - n)) faces)
size_flips d n rows [] r some small h = refl
size_flips d n rows (a ∷ faces) r some small h =
    let ok : is_ok (judgement d rows a (opposite rows a)) ≡ is_candidate rows (d + 2 - n) a = judged d rows a r (omega (arith, some, h.0)) (omega (arith, small, h.0)) ∙ ap (λ k. is_candidate rows (d + 2 - k) a) h.0 in
    ap (λ b. cons_option (cond b (Some (flip_of a (opposite rows a))) None) (flips_at d rows faces)) ok
    ∙ elim (is_candidate rows (d + 2 - n) a) as (λ b. cons_option (cond b (Some (flip_of a (opposite rows a))) None) (flips_at d rows faces) ≡ map (λ c. flip_of c (opposite rows c)) (cond b (a ∷ filter (is_candidate rows (d + 2 - n)) faces) (filter (is_candidate rows (d + 2 - n)) faces))) [
      | true ↦ ap (λ fs. flip_of a (opposite rows a) ∷ fs) (size_flips d n rows faces r some small h.1)
      | false ↦ size_flips d n rows faces r some small h.1
    ]

each_row : (p d : ℕ) (rows : List (List ℕ)) → d ≤ 6 → AllByRecursion (IsFacet d) rows → AllByRecursion (λ f. has f p ≡ true) rows → AllByRecursion (IsRow p) rows
each_row p d [] low h g = tt
each_row p d (row ∷ rows) low h g = (record { face = h.0.face; few = omega (arith, h.0.size, low); held = g.0 }, each_row p d rows low h.1 g.1)

pub star_rows : (s : VertexStar) → IsStar s → AreRows s.vertex s.rows
star_rows s h = (h.vertex, each_row s.vertex s.dim s.rows h.low h.pure h.held)

-- the flips that take out faces of a star with its vertex and so many other labels
abbrev pub flips_out : VertexStar → ℕ → List Flip
flips_out s others = flips_at s.dim s.rows (faces_at s.rows s.vertex (others + 1))

pub inner_is : (s : VertexStar) (i others : ℕ) → IsStar s → 1 ≤ i → i ≤ s.dim → others ≡ s.dim - i → inner s i ≡ flips_out s others
unfolding inner candidate_faces
inner_is s i others h low high e =
    let n : ℕ = others + 1 in
    let size : s.dim + 1 - i ≡ n = omega (arith, e, high) in
    let rest : i + 1 ≡ s.dim + 2 - n = omega (arith, e, high) in
    (λ j. map (λ a. flip_of a (opposite s.rows a)) (filter (is_candidate s.rows (rest j)) (faces_at s.rows s.vertex (size j))))
    ∙ sym (size_flips s.dim n s.rows (faces_at s.rows s.vertex n) h.rising (omega arith) (omega (arith, e, low, high)) (faces_sized s.rows s.vertex others (star_rows s h)))

pub none_inside : (s : VertexStar) (i others word n : ℕ) (page : Flips) → IsStar s → 1 ≤ i → i ≤ s.dim → others ≡ s.dim - i → page ≡ page_of (flips_out s others) 0 → n ≡ page.count → n ≡ 0 → None ≡ chosen (inner s i) word
none_inside s i others word n page h low high e is count z =
    sym (ap (λ fs. chosen fs word) (inner_is s i others h low high e) ∙ get_none (flips_out s others) (word % length (flips_out s others)) (sym (count ∙ ap (λ p. p.count) is) ∙ z))

chosen_inside : (s : VertexStar) (i others word n : ℕ) (o : Option Flip) → IsStar s → 1 ≤ i → i ≤ s.dim → others ≡ s.dim - i → n ≡ length (flips_out s others) → o ≡ slice_get (flips_out s others) (word % n) → o ≡ chosen (inner s i) word
chosen_inside s i others word n o h low high e is at =
    at ∙ ap (λ k. slice_get (flips_out s others) (word % k)) is ∙ sym (ap (λ fs. chosen fs word) (inner_is s i others h low high e))

-- the chosen one is on the first page, or it begins a page of its own
pub chosen_first : (s : VertexStar) (i others word n : ℕ) (page : Flips) (f : Flip) → IsStar s → 1 ≤ i → i ≤ s.dim → others ≡ s.dim - i → page ≡ page_of (flips_out s others) 0 → n ≡ page.count → Some f ≡ slice_get page.kept (word % n) → Some f ≡ chosen (inner s i) word
chosen_first s i others word n page f h low high e is count at =
    chosen_inside s i others word n (Some f) h low high e (count ∙ ap (λ p. p.count) is)
    (got_first (flips_out s others) (word % n) f (at ∙ ap (λ p. slice_get p.kept (word % n)) is))

pub chosen_later : (s : VertexStar) (i others word n : ℕ) (page later : Flips) (o : Option Flip) → IsStar s → 1 ≤ i → i ≤ s.dim → others ≡ s.dim - i → page ≡ page_of (flips_out s others) 0 → n ≡ page.count → later ≡ page_of (flips_out s others) (word % n) → o ≡ slice_get later.kept 0 → o ≡ chosen (inner s i) word
chosen_later s i others word n page later o h low high e is count more at =
    chosen_inside s i others word n o h low high e (count ∙ ap (λ p. p.count) is)
    (at ∙ ap (λ p. slice_get p.kept 0) more ∙ got_later (flips_out s others) (word % n))
