-- The flips of a try, one turn after another.
use Rattle.std.proofs.Common.{◌≡◌, inl, inr, ℕ, zero, suc, ◌+◌, ◌-◌, ◌≤◌, Bool, true, false, not, nat_eq, cond, Option, Some, None, List, [], ◌∷◌, ◌++◌, length, map, filter, slice_index, sym, ◌∙◌, ap, refl, subst, arith}
use Rattle.std.specs.List.{AllByRecursion, flat_map}
use Rattle.std.specs.Cmp.{first_so}
use Rattle.complex_core.specs.Labels.{has, holds, face_cmp}
use Rattle.complex_core.specs.Complexes.{beside}
use Rattle.complex_core.specs.Subsets.{subsets_of}
use Rattle.complex_core.proofs.Sets.{each_rising}
use Rattle.complex_core.proofs.Sorting.{each_append, each_filter}
use Rattle.complex_core.proofs.SubsetLists.{two}
use Rattle.flip_rules.specs.Flips.{join_boundary}
use Rattle.flip_rules.specs.declared.flip.Flip.{Flip}
use Rattle.star_laws.specs.Stars.{star}
use Rattle.stars.specs.StarViews.{VertexStar}
use Rattle.anneal_plan.specs.declared.plan.Phase.{Phase}
use Rattle.stars.specs.Candidates.{flip_of, opposite, is_candidate, faces_at, candidate_faces}
use Rattle.anneal_plan.specs.Proposals.{inner, entering, candidates, fresh_label, indices, proposal_of}
use Rattle.anneal_plan.specs.Turns.{after_flip, after_flips, turns_from, turn_then, turn_count, turns, rest_after, TurnsStart, TurnsGoOn, TurnsStop, TurnsEnd, TurnsSplit, TurnsAreFew, TurnsHaveVertex}
use Rattle.anneal_plan.proofs.Fitting.{first_fits}

pub turns_start : TurnsStart
unfolding turns rest_after
turns_start s phase words free depth = ap (λ n. turns_from n 0 s phase words free) (let e : turn_count words depth ≡ turn_count words depth - 0 = omega arith in e)

pub after_more : (s : VertexStar) (front : List Flip) (f : Flip) → after_flip (after_flips s front) f ≡ after_flips s (front ++ f ∷ [])
after_more s [] f = refl
after_more s (g ∷ front) f = after_more (after_flip s g) front f

length_more : (front : List Flip) (f : Flip) → length (front ++ f ∷ []) ≡ length front + 1
length_more [] f = refl
length_more (g ∷ front) f = let e : length (g ∷ (front ++ f ∷ [])) ≡ length (g ∷ front) + 1 = omega (arith, length_more front f) in e

pub turns_go_on : TurnsGoOn
unfolding rest_after
turns_go_on s phase words free depth front f l e =
    let n : ℕ = turn_count words depth in
    let t : ℕ = length front in
    let here : VertexStar = after_flips s front in
    let left : n - length (front ++ f ∷ []) ≡ n - (t + 1) = omega (arith, length_more front f) in
    ap (λ k. turns_from k t here phase words free) (let g : n - t ≡ suc (n - (t + 1)) = omega (arith, l) in g)
    ∙ ap (λ o. turn_then o (λ g. turns_from (n - (t + 1)) (t + 1) (after_flip here g) phase words free)) e
    ∙ (λ i. f ∷ turns_from (sym left i) (sym (length_more front f) i) (after_more s front f i) phase words free)

-- no turn without a proposal
none_left : (n turn : ℕ) (s : VertexStar) (phase : Phase) (words free : List ℕ) → proposal_of s phase words turn free ≡ None → turns_from n turn s phase words free ≡ []
none_left zero turn s phase words free e = refl
none_left (suc n) turn s phase words free e = ap (λ o. turn_then o (λ g. turns_from n (turn + 1) (after_flip s g) phase words free)) e

pub turns_stop : TurnsStop
unfolding rest_after
turns_stop s phase words free depth front e = none_left (turn_count words depth - length front) (length front) (after_flips s front) phase words free e

pub turns_end : TurnsEnd
unfolding rest_after
turns_end s phase words free depth front l =
    ap (λ k. turns_from k (length front) (after_flips s front) phase words free) (let e : turn_count words depth - length front ≡ 0 = omega (arith, l) in e)

few_turns : (n turn : ℕ) (s : VertexStar) (phase : Phase) (words free : List ℕ) → length (turns_from n turn s phase words free) ≤ n
few_turns zero turn s phase words free = omega arith
few_turns (suc n) turn s phase words free = few_then (proposal_of s phase words turn free) (λ f. few_turns n (turn + 1) (after_flip s f) phase words free)
  where
    few_then : (o : Option Flip) → ((f : Flip) → length (turns_from n (turn + 1) (after_flip s f) phase words free) ≤ n) → length (turn_then o (λ g. turns_from n (turn + 1) (after_flip s g) phase words free)) ≤ suc n
    few_then None h = omega arith
    few_then (Some f) h = omega (arith, h f)

pub turns_are_few : TurnsAreFew
unfolding turns
turns_are_few s phase words free depth = few_turns (turn_count words depth) 0 s phase words free

rest_is : (n turn : ℕ) (s : VertexStar) (phase : Phase) (words free : List ℕ) (front rest : List Flip) → turns_from n turn s phase words free ≡ front ++ rest → rest ≡ turns_from (n - length front) (turn + length front) (after_flips s front) phase words free
rest_is n turn s phase words free [] rest e =
    let a : n ≡ n - 0 = omega arith in
    let b : turn ≡ turn + 0 = omega arith in
    sym e ∙ (λ i. turns_from (a i) (b i) s phase words free)
rest_is zero turn s phase words free (f ∷ front) rest e = cc
rest_is (suc n) turn s phase words free (f ∷ front) rest e =
    rest_then (proposal_of s phase words turn free) e (λ g q. rest_is n (turn + 1) (after_flip s g) phase words free front rest q)
  where
    rest_then : (o : Option Flip) → turn_then o (λ g. turns_from n (turn + 1) (after_flip s g) phase words free) ≡ f ∷ (front ++ rest) → ((g : Flip) → turns_from n (turn + 1) (after_flip s g) phase words free ≡ front ++ rest → rest ≡ turns_from (n - length front) (turn + 1 + length front) (after_flips (after_flip s g) front) phase words free) → rest ≡ turns_from (suc n - length (f ∷ front)) (turn + length (f ∷ front)) (after_flips (after_flip s f) front) phase words free
    rest_then None q h = cc
    rest_then (Some g) q h =
        let p : g ≡ f = cc in
        let t : turns_from n (turn + 1) (after_flip s g) phase words free ≡ front ++ rest = cc in
        let k : n - length front ≡ suc n - length (f ∷ front) = omega arith in
        let l : turn + 1 + length front ≡ turn + length (f ∷ front) = omega arith in
        h g t ∙ (λ i. turns_from (k i) (l i) (after_flips (after_flip s (p i)) front) phase words free)

pub turns_split : TurnsSplit
unfolding turns rest_after
turns_split s phase words free depth front rest e =
    rest_is (turn_count words depth) 0 s phase words free front rest e
    ∙ ap (λ t. turns_from (turn_count words depth - length front) t (after_flips s front) phase words free) (let g : 0 + length front ≡ length front = omega arith in g)

-- ---- the vertex

abbrev HasVertex : ℕ → List (List ℕ) → Type 0
HasVertex p rows = AllByRecursion (λ row. has row p ≡ true) rows

passes : (q : List ℕ → Bool) (xs : List (List ℕ)) → AllByRecursion (λ s. q s ≡ true) (filter q xs)
passes q [] = tt
passes q (x ∷ xs) = elim (two (q x)) [
  | inl e ↦ subst P (sym (ap (λ b. cond b (x ∷ filter q xs) (filter q xs)) e)) (e, passes q xs)
  | inr e ↦ subst P (sym (ap (λ b. cond b (x ∷ filter q xs) (filter q xs)) e)) (passes q xs)
]
  where
    P : List (List ℕ) → Type 0
    P ss = AllByRecursion (λ s. q s ≡ true) ss

each_flat : (P : List ℕ → Type 0) (f : List ℕ → List (List ℕ)) (rows : List (List ℕ)) → ((row : List ℕ) → AllByRecursion P (f row)) → AllByRecursion P (flat_map f rows)
each_flat P f [] h = tt
each_flat P f (row ∷ rows) h = each_append P (f row) (flat_map f rows) (h row) (each_flat P f rows h)

each_flip : (p : ℕ) (b : List ℕ → List ℕ) (faces : List (List ℕ)) → HasVertex p faces → AllByRecursion (λ f. has f.a p ≡ true) (map (λ a. flip_of a (b a)) faces)
each_flip p b [] h = tt
each_flip p b (a ∷ faces) h = (h.0, each_flip p b faces h.1)

faces_have : (rows : List (List ℕ)) (p n : ℕ) → HasVertex p (faces_at rows p n)
unfolding faces_at
faces_have rows p n =
    each_rising face_cmp (λ s. has s p ≡ true) (flat_map (λ row. filter (λ s. has s p) (subsets_of n row)) rows)
    (each_flat (λ s. has s p ≡ true) (λ row. filter (λ s. has s p) (subsets_of n row)) rows (λ row. passes (λ s. has s p) (subsets_of n row)))

inner_have : (s : VertexStar) (i : ℕ) → AllByRecursion (λ f. has f.a s.vertex ≡ true) (inner s i)
unfolding inner candidate_faces
inner_have s i =
    let faces : List (List ℕ) = faces_at s.rows s.vertex (s.dim + 1 - i) in
    each_flip s.vertex (opposite s.rows) (filter (is_candidate s.rows (i + 1)) faces) (each_filter (λ a. has a s.vertex ≡ true) (is_candidate s.rows (i + 1)) faces (faces_have s.rows s.vertex (s.dim + 1 - i)))

entering_have : (s : VertexStar) (fresh : Option ℕ) → HasVertex s.vertex s.rows → AllByRecursion (λ f. has f.a s.vertex ≡ true) (entering s fresh)
unfolding entering
entering_have s None h = tt
entering_have s (Some x) h = each_flip s.vertex (λ a. x ∷ []) (filter (λ f. not (has f x)) s.rows) (each_filter (λ a. has a s.vertex ≡ true) (λ f. not (has f x)) s.rows h)

candidates_have : (s : VertexStar) (fresh : Option ℕ) (is : List ℕ) → HasVertex s.vertex s.rows → AllByRecursion (λ i. AllByRecursion (λ f. has f.a s.vertex ≡ true) (candidates s fresh i)) is
candidates_have s fresh [] h = tt
candidates_have s fresh (i ∷ is) h =
    (elim (nat_eq i 0) as (λ b. AllByRecursion (λ f. has f.a s.vertex ≡ true) (cond b (entering s fresh) (inner s i))) [ true ↦ entering_have s fresh h | false ↦ inner_have s i ], candidates_have s fresh is h)

proposal_has : (s : VertexStar) (phase : Phase) (words : List ℕ) (turn : ℕ) (free : List ℕ) (f : Flip) → HasVertex s.vertex s.rows → proposal_of s phase words turn free ≡ Some f → has f.a s.vertex ≡ true
unfolding proposal_of
proposal_has s phase words turn free f h e =
    let fresh : Option ℕ = fresh_label free (slice_index words 6) turn in
    let is : List ℕ = indices s.dim phase (slice_index words 1) in
    first_fits (λ g. has g.a s.vertex ≡ true) (candidates s fresh) (slice_index words (2 + turn)) is f (candidates_have s fresh is h) e

after_has : (s : VertexStar) (f : Flip) → HasVertex s.vertex s.rows → HasVertex s.vertex (after_flip s f).rows
after_has s f h =
    each_rising face_cmp (λ row. has row s.vertex ≡ true) (beside s.rows f.a ++ star (join_boundary f.b f.a) s.vertex)
    (each_append (λ row. has row s.vertex ≡ true) (beside s.rows f.a) (star (join_boundary f.b f.a) s.vertex)
    (each_filter (λ row. has row s.vertex ≡ true) (λ g. not (holds g f.a)) s.rows h)
    (of_star (join_boundary f.b f.a)))
  where
    of_star : (fs : List (List ℕ)) → HasVertex s.vertex (star fs s.vertex)
    of_star [] = tt
    of_star (g ∷ gs) = elim (two (holds g (s.vertex ∷ []))) [
      | inl e ↦ subst (HasVertex s.vertex) (sym (ap (λ b. cond b (g ∷ star gs s.vertex) (star gs s.vertex)) e)) (first_so (has g s.vertex) true e, of_star gs)
      | inr e ↦ subst (HasVertex s.vertex) (sym (ap (λ b. cond b (g ∷ star gs s.vertex) (star gs s.vertex)) e)) (of_star gs)
    ]

turns_have : (n turn : ℕ) (s : VertexStar) (phase : Phase) (words free : List ℕ) → HasVertex s.vertex s.rows → AllByRecursion (λ f. has f.a s.vertex ≡ true) (turns_from n turn s phase words free)
turns_have zero turn s phase words free h = tt
turns_have (suc n) turn s phase words free h =
    then_have (proposal_of s phase words turn free) (λ f e. proposal_has s phase words turn free f h e) (λ f. turns_have n (turn + 1) (after_flip s f) phase words free (after_has s f h))
  where
    then_have : (o : Option Flip) → ((f : Flip) → o ≡ Some f → has f.a s.vertex ≡ true) → ((f : Flip) → AllByRecursion (λ g. has g.a s.vertex ≡ true) (turns_from n (turn + 1) (after_flip s f) phase words free)) → AllByRecursion (λ g. has g.a s.vertex ≡ true) (turn_then o (λ g. turns_from n (turn + 1) (after_flip s g) phase words free))
    then_have None a b = tt
    then_have (Some f) a b = (a f refl, b f)

pub turns_have_vertex : TurnsHaveVertex
unfolding turns
turns_have_vertex s phase words free depth h = turns_have (turn_count words depth) 0 s phase words free h
