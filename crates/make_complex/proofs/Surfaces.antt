-- The torus and the projective plane: closed, strongly connected, with their Euler characteristics, the one orientable and the other not.
use Rattle.std.proofs.Common.{◌≡◌, ◌≢◌, ℕ, Bool, true, false, not, nat_eq, ◌||◌, ◌&&◌, List, [], ◌∷◌, map, inl, inr, sym, ◌∙◌, ap, refl}
use Rattle.std.specs.List.{list_all}
use Rattle.std.specs.Cmp.{first_so, second_so}
use Rattle.std.specs.Cmp.Lexicographic.{pointwise}
use Rattle.std.proofs.lemmas.Bool.{not-true}
use Rattle.complex_core.specs.Labels.{has, holds, without}
use Rattle.complex_core.specs.Complexes.{is_facet}
use Rattle.complex_core.proofs.Laws.{nat_eq_is, passes_listed, same_sets_is, same_set_itself, holds_each}
use Rattle.complex_core.proofs.Members.{passes_has, without_has}
use Rattle.complex_core.proofs.SubsetLists.{two, clash}
use Rattle.pseudo_test.specs.Ridges.{Closed, count}
use Rattle.pseudo_test.specs.Chains.{Joined, Near, StronglyConnected}
use Rattle.pseudo_test.proofs.Spreading.{here, step, join, turn_joined}
use Rattle.orient_test.specs.Signs.{Orientable, induced, times}
use Rattle.orient_test.specs.Walks.{Step, IsStep, Walk}
use Rattle.orient_test.proofs.Chains.{clash_excludes}
use Rattle.make_complex.specs.Named.{torus_facets, plane_facets}

-- ---- closed
-- each facet less one of its labels lies in two facets
abbrev two_over_each : List (List ℕ) → Bool
two_over_each fs = list_all (λ f. list_all (λ x. nat_eq (count fs (without f x)) 2) f) fs

closed_by : (fs : List (List ℕ)) → two_over_each fs ≡ true → Closed fs
closed_by fs t = record {
  two = λ r g. ap (count fs) g.is ∙ nat_eq_is (count fs (without g.facet g.label)) 2 (passes_has (λ x. nat_eq (count fs (without g.facet x)) 2) g.facet g.label (passes_listed (λ f. list_all (λ x. nat_eq (count fs (without f x)) 2) f) fs g.facet t g.there) g.used);
}

pub torus_closed : Closed torus_facets
torus_closed = closed_by torus_facets refl

pub plane_closed : Closed plane_facets
plane_closed = closed_by plane_facets refl

-- ---- strongly connected

-- from a facet to another one, that has this label beside the ridge that they share
record Hop : Type 0 where
  from : List ℕ
  to : List ℕ
  label : ℕ

abbrev hop : List ℕ → List ℕ → ℕ → Hop
hop from to label = record { from = from; to = to; label = label }

abbrev is_hop : List (List ℕ) → List (List ℕ) → Hop → Bool
is_hop fs done h = is_facet done h.from && (is_facet fs h.to && (has h.to h.label && holds h.from (without h.to h.label)))

-- the hops lead from those that are done to all facets
abbrev reach_all : List (List ℕ) → List (List ℕ) → List Hop → Bool
reach_all fs done [] = list_all (λ f. is_facet done f) fs
reach_all fs done (h ∷ hops) = is_hop fs done h && reach_all fs (h.to ∷ done) hops

abbrev AllJoined : List (List ℕ) → List ℕ → List (List ℕ) → Type 0
AllJoined fs first done = (g : List ℕ) → is_facet done g ≡ true → Joined fs first g

joined_more : (fs done : List (List ℕ)) (first : List ℕ) (h : Hop) → is_hop fs done h ≡ true → AllJoined fs first done → AllJoined fs first (h.to ∷ done)
joined_more fs done first h t all g u =
    let from : is_facet done h.from ≡ true = first_so (is_facet done h.from) _ t in
    let rest : (is_facet fs h.to && (has h.to h.label && holds h.from (without h.to h.label))) ≡ true = second_so (is_facet done h.from) _ t in
    let there : is_facet fs h.to ≡ true = first_so (is_facet fs h.to) _ rest in
    let more : (has h.to h.label && holds h.from (without h.to h.label)) ≡ true = second_so (is_facet fs h.to) _ rest in
    let near : Near fs h.from h.to = record {
      ridge = without h.to h.label;
      is = record { facet = h.to; label = h.label; there = there; used = first_so (has h.to h.label) _ more; is = refl };
      first = second_so (has h.to h.label) _ more;
      second = holds_each h.to (without h.to h.label) (λ z v. without_has h.to h.label z v);
    } in
    elim (two (pointwise nat_eq h.to g)) [
      | inl e ↦ join fs first h.to g (join fs first h.from h.to (all h.from from) (step fs h.from h.to there near)) (here fs h.to g (same_sets_is h.to g e))
      | inr f ↦ all g (sym (ap (λ b. b || is_facet done g) f) ∙ u)
    ]

joined_all : (fs done : List (List ℕ)) (first : List ℕ) (hops : List Hop) → reach_all fs done hops ≡ true → AllJoined fs first done → AllJoined fs first fs
joined_all fs done first [] t all = λ g u. all g (passes_listed (λ f. is_facet done f) fs g t u)
joined_all fs done first (h ∷ hops) t all = joined_all fs (h.to ∷ done) first hops (second_so (is_hop fs done h) _ t) (joined_more fs done first h (first_so (is_hop fs done h) _ t) all)

strong_by : (fs : List (List ℕ)) (first : List ℕ) (hops : List Hop) → is_facet fs first ≡ true → reach_all fs (first ∷ []) hops ≡ true → StronglyConnected fs
strong_by fs first hops begins t = record { joined = λ f g p q. join fs f first g (turn_joined fs first f begins (all f p)) (all g q) }
  where
    start : AllJoined fs first (first ∷ [])
    start g u = elim (two (pointwise nat_eq first g)) [
      | inl e ↦ here fs first g (same_sets_is first g e)
      | inr f ↦ clash (pointwise nat_eq first g || false) u (ap (λ b. b || false) f)
    ]

    all : AllJoined fs first fs
    all = joined_all fs (first ∷ []) first hops t start

abbrev torus_hops : List Hop
torus_hops =
    hop (1 ∷ 2 ∷ 4 ∷ []) (2 ∷ 4 ∷ 5 ∷ []) 5 ∷ hop (1 ∷ 2 ∷ 4 ∷ []) (1 ∷ 3 ∷ 4 ∷ []) 3 ∷ hop (1 ∷ 2 ∷ 4 ∷ []) (1 ∷ 2 ∷ 6 ∷ []) 6 ∷
    hop (2 ∷ 4 ∷ 5 ∷ []) (4 ∷ 5 ∷ 7 ∷ []) 7 ∷ hop (2 ∷ 4 ∷ 5 ∷ []) (2 ∷ 3 ∷ 5 ∷ []) 3 ∷ hop (1 ∷ 3 ∷ 4 ∷ []) (3 ∷ 4 ∷ 6 ∷ []) 6 ∷
    hop (1 ∷ 3 ∷ 4 ∷ []) (1 ∷ 3 ∷ 7 ∷ []) 7 ∷ hop (1 ∷ 2 ∷ 6 ∷ []) (2 ∷ 6 ∷ 7 ∷ []) 7 ∷ hop (1 ∷ 2 ∷ 6 ∷ []) (1 ∷ 5 ∷ 6 ∷ []) 5 ∷
    hop (4 ∷ 5 ∷ 7 ∷ []) (1 ∷ 5 ∷ 7 ∷ []) 1 ∷ hop (4 ∷ 5 ∷ 7 ∷ []) (4 ∷ 6 ∷ 7 ∷ []) 6 ∷ hop (2 ∷ 3 ∷ 5 ∷ []) (3 ∷ 5 ∷ 6 ∷ []) 6 ∷
    hop (2 ∷ 3 ∷ 5 ∷ []) (2 ∷ 3 ∷ 7 ∷ []) 7 ∷ []

pub torus_strong : StronglyConnected torus_facets
torus_strong = strong_by torus_facets (1 ∷ 2 ∷ 4 ∷ []) torus_hops refl refl

abbrev plane_hops : List Hop
plane_hops =
    hop (1 ∷ 2 ∷ 3 ∷ []) (2 ∷ 3 ∷ 5 ∷ []) 5 ∷ hop (1 ∷ 2 ∷ 3 ∷ []) (1 ∷ 3 ∷ 4 ∷ []) 4 ∷ hop (1 ∷ 2 ∷ 3 ∷ []) (1 ∷ 2 ∷ 6 ∷ []) 6 ∷
    hop (2 ∷ 3 ∷ 5 ∷ []) (3 ∷ 5 ∷ 6 ∷ []) 6 ∷ hop (2 ∷ 3 ∷ 5 ∷ []) (2 ∷ 4 ∷ 5 ∷ []) 4 ∷ hop (1 ∷ 3 ∷ 4 ∷ []) (3 ∷ 4 ∷ 6 ∷ []) 6 ∷
    hop (1 ∷ 3 ∷ 4 ∷ []) (1 ∷ 4 ∷ 5 ∷ []) 5 ∷ hop (1 ∷ 2 ∷ 6 ∷ []) (2 ∷ 4 ∷ 6 ∷ []) 4 ∷ hop (1 ∷ 2 ∷ 6 ∷ []) (1 ∷ 5 ∷ 6 ∷ []) 5 ∷ []

pub plane_strong : StronglyConnected plane_facets
plane_strong = strong_by plane_facets (1 ∷ 2 ∷ 3 ∷ []) plane_hops refl refl

-- ---- signs

abbrev apart_at : (List ℕ → Bool) → List ℕ → List ℕ → ℕ → ℕ → Bool
apart_at signs f g x y = pointwise nat_eq f g || (not (pointwise nat_eq (without f x) (without g y)) || times (induced signs f x) (induced signs g y))

-- at each ridge of two facets the induced signs are opposite
abbrev signs_agree : List (List ℕ) → (List ℕ → Bool) → Bool
signs_agree fs signs = list_all (λ f. list_all (λ g. list_all (λ x. list_all (λ y. apart_at signs f g x y) g) f) fs) fs

orientable_by : (fs : List (List ℕ)) (signs : List ℕ → Bool) → signs_agree fs signs ≡ true → Orientable fs
orientable_by fs signs t = record {
  signs = signs;
  is = record {
    opposite = λ f g x y p q u v n e _. opposite_signs (induced signs f x) (induced signs g y) (apart f g x y n e (passes_has (λ w. apart_at signs f g x w) g y (passes_has (λ w. list_all (λ z. apart_at signs f g w z) g) f x (passes_listed (λ k. list_all (λ w. list_all (λ z. apart_at signs f k w z) k) f) fs g (passes_listed (λ k. list_all (λ l. list_all (λ w. list_all (λ z. apart_at signs k l w z) l) k) fs) fs f t p) q) u) v));
  };
}
  where
    opposite_signs : (a b : Bool) → times a b ≡ true → a ≡ not b
    opposite_signs true b e = sym e
    opposite_signs false true e = refl
    opposite_signs false false e = clash false e refl

    apart : (f g : List ℕ) (x y : ℕ) → (f ≢ g) → without f x ≡ without g y → apart_at signs f g x y ≡ true → times (induced signs f x) (induced signs g y) ≡ true
    apart f g x y n e t = elim (two (pointwise nat_eq f g)) [
      | inl same ↦ absurd (n (same_sets_is f g same))
      | inr other ↦ sym (ap (λ b. not b || times (induced signs f x) (induced signs g y)) (ap (λ r. pointwise nat_eq (without f x) r) (sym e) ∙ same_set_itself (without f x))) ∙ (sym (ap (λ b. b || (not (pointwise nat_eq (without f x) (without g y)) || times (induced signs f x) (induced signs g y))) other) ∙ t)
    ]

-- those whose sign is -1
abbrev torus_negative : List (List ℕ)
torus_negative = (1 ∷ 2 ∷ 6 ∷ []) ∷ (1 ∷ 3 ∷ 4 ∷ []) ∷ (1 ∷ 5 ∷ 7 ∷ []) ∷ (2 ∷ 3 ∷ 7 ∷ []) ∷ (2 ∷ 4 ∷ 5 ∷ []) ∷ (3 ∷ 5 ∷ 6 ∷ []) ∷ (4 ∷ 6 ∷ 7 ∷ []) ∷ []

pub torus_orientable : Orientable torus_facets
torus_orientable = orientable_by torus_facets (λ f. is_facet torus_negative f) refl

-- ---- a chain that contradicts all signs

abbrev walk_step : List ℕ → ℕ → ℕ → Step
walk_step to left taken = record { to = to; left = left; taken = taken }

abbrev is_step : List (List ℕ) → List ℕ → Step → Bool
is_step fs f s = is_facet fs f && (is_facet fs s.to && (has f s.left && (has s.to s.taken && (not (pointwise nat_eq f s.to) && (pointwise nat_eq (without f s.left) (without s.to s.taken) && nat_eq (count fs (without f s.left)) 2)))))

step_by : (fs : List (List ℕ)) (f : List ℕ) (s : Step) → is_step fs f s ≡ true → IsStep fs f s
step_by fs f s t =
    let t1 = second_so (is_facet fs f) _ t in
    let t2 = second_so (is_facet fs s.to) _ t1 in
    let t3 = second_so (has f s.left) _ t2 in
    let t4 = second_so (has s.to s.taken) _ t3 in
    let t5 = second_so (not (pointwise nat_eq f s.to)) _ t4 in
    record {
      from_there = first_so (is_facet fs f) _ t;
      to_there = first_so (is_facet fs s.to) _ t1;
      left_used = first_so (has f s.left) _ t2;
      taken_used = first_so (has s.to s.taken) _ t3;
      other = λ e. clash (pointwise nat_eq f s.to) (ap (λ g. pointwise nat_eq f g) (sym e) ∙ same_set_itself f) (not-true (pointwise nat_eq f s.to) (first_so (not (pointwise nat_eq f s.to)) _ t4));
      shared = same_sets_is (without f s.left) (without s.to s.taken) (first_so (pointwise nat_eq (without f s.left) (without s.to s.taken)) _ t5);
      two = nat_eq_is (count fs (without f s.left)) 2 (second_so (pointwise nat_eq (without f s.left) (without s.to s.taken)) _ t5);
    }

abbrev plane_first : List ℕ
plane_first = (1 ∷ 2 ∷ 3 ∷ [])

abbrev plane_walk : List Step
plane_walk = walk_step (2 ∷ 3 ∷ 5 ∷ []) 1 5 ∷ walk_step (3 ∷ 5 ∷ 6 ∷ []) 2 6 ∷ walk_step (1 ∷ 5 ∷ 6 ∷ []) 3 1 ∷ walk_step (1 ∷ 2 ∷ 6 ∷ []) 5 2 ∷ walk_step (1 ∷ 2 ∷ 3 ∷ []) 6 3 ∷ []

abbrev is_walk : List (List ℕ) → List ℕ → List Step → List ℕ → Bool
is_walk fs f [] g = pointwise nat_eq f g
is_walk fs f (s ∷ steps) g = is_step fs f s && is_walk fs s.to steps g

walk_by : (fs : List (List ℕ)) (f : List ℕ) (steps : List Step) (g : List ℕ) → is_walk fs f steps g ≡ true → Walk fs f steps g
walk_by fs f [] g t = same_sets_is f g t
walk_by fs f (s ∷ steps) g t = (step_by fs f s (first_so (is_step fs f s) _ t), walk_by fs s.to steps g (second_so (is_step fs f s) _ t))

pub plane_not_orientable : Orientable plane_facets → ⊥
plane_not_orientable = clash_excludes plane_facets (plane_first ∷ map (λ (s : Step). s.to) plane_walk) (record { first = plane_first; closed = record { steps = plane_walk; is = refl; walk = walk_by plane_facets plane_first plane_walk plane_first refl; turned = refl } })
