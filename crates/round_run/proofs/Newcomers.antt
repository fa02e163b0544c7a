-- A worker that was just hired: it has a fresh pass, and the labels of the complex and the other ones are places of the board.
use Rattle.std.proofs.Common.{◌≡◌, ℕ, zero, suc, ◌+◌, ◌<◌, ◌≤◌, List, [], ◌∷◌, ◌++◌, length, not, sym, ap, ◌∙◌, subst, arith, length-append, Result, Ok, Err, IfOk}
use Rattle.std.specs.List.{AllByRecursion, flat_map}
use Rattle.std.specs.Ordering.{nat_cmp}
use Rattle.std.specs.declared.cmp.Ordering.TheVariants.{Less}
use Rattle.complex_core.specs.Labels.{has}
use Rattle.complex_core.specs.Complexes.{ComplexView, IsComplex, IsFacet}
use Rattle.complex_core.specs.Maps.{used, next_after}
use Rattle.complex_core.proofs.Faces.{less_cmp}
use Rattle.complex_core.proofs.Sets.{each_rising, some_rising}
use Rattle.stars.specs.StarViews.{UsesUpTo}
use Rattle.board_rule.specs.Views.{newcomer}
use Rattle.board_rule.specs.declared.view.PassView.{PassView}
use Rattle.vertex_claims.specs.Passes.{IsOf, IsTold, know, limit, start_of, places_on}
use Rattle.vertex_claims.specs.declared.board.Board.{Board}
use Rattle.vertex_claims.specs.declared.pass.Pass.{Pass}
use Rattle.anneal_plan.specs.Numbers.{Numbers}
use Rattle.anneal_plan.specs.Places.{free_of}
use Rattle.round_rules.specs.Tasks.{Scene}
use Rattle.spec_worker.specs.Workers.{ArePlaces, pass_of, plan_of, round_in, live_of, free_of as free_to, answers_of}
use Rattle.spec_worker.specs.declared.worker.Worker.{Worker}
use Rattle.round_run.specs.Crews.{IsNew, AreNew}
use Rattle.complex_core.proofs.Sorting.{each_filter}
use Rattle.complex_core.proofs.Renaming.{labels_above}

-- ---- places

-- a complex has a label
first_label : (d : ℕ) (facets : List (List ℕ)) → 0 < length facets → AllByRecursion (IsFacet d) facets → 0 < length (flat_map (λ f. f) facets)
first_label d [] some h = absurd (omega (arith, some))
first_label d (f ∷ fs) some h = let one = h.0.size in omega (arith, one, length-append f (flat_map (λ g. g) fs))

pub some_live : (k : ComplexView) → IsComplex k → 0 < length (used k.facets)
some_live k h = some_rising nat_cmp (flat_map (λ f. f) k.facets) (first_label k.dim k.facets h.some h.pure)

-- its labels are places
both : (n : ℕ) (xs : List ℕ) → AllByRecursion (λ y. nat_cmp 0 y ≡ Less) xs → AllByRecursion (λ y. y ≤ n) xs → ArePlaces xs n
both n [] low high = tt
both n (x ∷ xs) low high = ((less_cmp 0 x low.0, high.0), both n xs low.1 high.1)

pub live_places : (k : ComplexView) (n : ℕ) → IsComplex k → UsesUpTo k n → ArePlaces (used k.facets) n
live_places k n h within = both n (used k.facets) (each_rising nat_cmp (λ y. nat_cmp 0 y ≡ Less) (flat_map (λ f. f) k.facets) (labels_above k.dim k.facets h.pure)) within

-- and so are those that it hasn't
abbrev IsPlace : ℕ → ℕ → Type 0
IsPlace n x = (0 < x) × (x ≤ n)

after_places : (n m k : ℕ) → m + k ≤ n → AllByRecursion (IsPlace n) (next_after m k)
after_places n m zero h = tt
after_places n m (suc k) h = ((omega arith, omega (arith, h)), after_places n (m + 1) k (omega (arith, h)))

pub free_places : (facets : List (List ℕ)) (n : ℕ) → ArePlaces (free_of facets n) n
free_places facets n = each_filter (IsPlace n) (λ x. not (has (used facets) x)) (next_after 0 n) (after_places n 0 n (omega arith))

-- ---- the worker

module _ (s : Scene) (board : Board) where
  pub newly : (old : ℕ) (pass : Pass) (live free : List ℕ) (a : Worker) → IsTold board s.start s.places s.plan.workers s.round → IsComplex (start_of board) → 1 ≤ s.start.dim → UsesUpTo s.start s.places
      → IsOf pass board → know pass ≡ newcomer (start_of board) (places_on board) (old + 1) → limit pass ≡ s.plan.tries → live ≡ used s.start.facets → free ≡ free_of s.start.facets s.places
      → pass_of a ≡ pass → plan_of a ≡ s.plan → round_in a ≡ s.round → live_of a ≡ live → free_to a ≡ free → answers_of a ≡ [] → IsNew s board (old + 1) a
  newly old pass live free a told complex dim within of_board fresh most live_is free_is pass_is plan_is round_is lives frees none =
      let pass_view : know (pass_of a) ≡ newcomer (start_of board) (places_on board) (old + 1) = ap know pass_is ∙ fresh in
      let start : ComplexView = s.start in
      let k : IsComplex s.start = subst IsComplex told.start_is complex in
      let tries = ap (λ (h : PassView). length h.tries) pass_view in
      let limits = ap limit pass_is in
      let plan = ap (λ (n : Numbers). n.tries) plan_is in
      let live_all : live_of a ≡ used s.start.facets = lives ∙ live_is in
      let free_all : free_to a ≡ free_of s.start.facets s.places = frees ∙ free_is in
      record {
        ready = record {
          works = record {
            of_board = subst (λ (p : Pass). IsOf p board) (sym pass_is) of_board;
            start = ap (λ (h : PassView). h.start) pass_view;
            places = ap (λ (h : PassView). h.places) pass_view;
            live = subst (λ (xs : List ℕ). ArePlaces xs (places_on board)) (sym live_all) (subst (ArePlaces (used s.start.facets)) (sym told.places_are) (live_places s.start s.places k within));
            free = subst (λ (xs : List ℕ). ArePlaces xs (places_on board)) (sym free_all) (subst (ArePlaces (free_of s.start.facets s.places)) (sym told.places_are) (free_places s.start.facets s.places));
            dim = subst (λ (m : ComplexView). 1 ≤ m.dim) (sym told.start_is) dim;
          };
          room = omega (arith, tries, limits, plan, most);
          answers = none;
          tries = ap (λ (h : PassView). h.tries) pass_view;
          mine = ap (λ (h : PassView). h.mine) pass_view;
        };
        number = ap (λ (h : PassView). h.worker) pass_view;
        plan = plan_is;
        round_is = round_is;
        live = live_all;
        free = free_all;
      }

  -- as it is made
  pub newly_made : {E : Type 0} (old : ℕ) (pass : Pass) (live free : List ℕ) (r : Result Worker E) → IsTold board s.start s.places s.plan.workers s.round → IsComplex (start_of board) → 1 ≤ s.start.dim → UsesUpTo s.start s.places
      → IsOf pass board → know pass ≡ newcomer (start_of board) (places_on board) (old + 1) → limit pass ≡ s.plan.tries → live ≡ used s.start.facets → free ≡ free_of s.start.facets s.places
      → IfOk r (λ a. pass_of a ≡ pass) → IfOk r (λ a. (plan_of a ≡ s.plan) × (round_in a ≡ s.round)) → IfOk r (λ a. (live_of a ≡ live) × (free_to a ≡ free)) → IfOk r (λ a. answers_of a ≡ []) → IfOk r (IsNew s board (old + 1))
  newly_made old pass live free (Err e) told complex dim within of_board fresh most live_is free_is p q r t = tt
  newly_made old pass live free (Ok a) told complex dim within of_board fresh most live_is free_is p q r t = newly old pass live free a told complex dim within of_board fresh most live_is free_is p q.0 q.1 r.0 r.1 t

  -- one more
  new_last : (w : ℕ) (crew : List Worker) (a : Worker) → AreNew s board w crew → IsNew s board (w + length crew) a → AreNew s board w (crew ++ a ∷ [])
  new_last w [] a h one = let e : w + 0 ≡ w = omega arith in (subst (λ (n : ℕ). IsNew s board n a) e one, tt)
  new_last w (x ∷ xs) a h one = let e : w + suc (length xs) ≡ w + 1 + length xs = omega arith in (h.0, new_last (w + 1) xs a h.1 (subst (λ (n : ℕ). IsNew s board n a) e one))

  pub one_hired : (crew items : List Worker) (a : Worker) (n old : ℕ) → AreNew s board 1 crew → length crew ≡ n → old ≡ n → IsNew s board (old + 1) a → items ≡ crew ++ a ∷ [] → AreNew s board 1 items
  one_hired crew items a n old h count is one more =
      let e : old + 1 ≡ 1 + length crew = omega (arith, count, is) in
      subst (AreNew s board 1) (sym more) (new_last 1 crew a h (subst (λ (m : ℕ). IsNew s board m a) e one))
