-- Proposed flips have places of the board as labels.
use Rattle.std.proofs.Common.{◌≡◌, ℕ, ◌≤◌, Bool, true, false, not, nat_eq, ◌||◌, ◌&&◌, List, [], ◌∷◌, Result, Ok, Err, Some, sym, ◌∙◌, ap, refl, subst}
use Rattle.std.specs.List.{AllByRecursion}
use Rattle.complex_core.specs.Labels.{has, holds, without}
use Rattle.complex_core.specs.Complexes.{ComplexView}
use Rattle.complex_core.specs.Maps.{used}
use Rattle.complex_core.proofs.Laws.{listed, has-union, has-without, or_left, or_right, listed-filter}
use Rattle.flip_rules.specs.Flips.{broken_rule, flipped, join_boundary, replay, if_legal}
use Rattle.flip_rules.specs.Journals.{flip_touches}
use Rattle.flip_rules.specs.declared.flip.Flip.{Flip}
use Rattle.flip_rules.specs.declared.flip.Illegal.{Illegal}
use Rattle.flip_rules.proofs.Links.{side_of, listed-flipped}
use Rattle.star_laws.specs.Stars.{star, flips_touch}
use Rattle.stars.specs.StarViews.{VertexStar, UsesUpTo}
use Rattle.stars.proofs.Mapping.{has_bound, uses_of, uses_from, either}
use Rattle.board_rule.specs.Plays.{Sees}
use Rattle.board_rule.specs.Views.{star_in}
use Rattle.board_rule.specs.declared.view.PassView.{PassView}
use Rattle.anneal_plan.specs.Fits.{FitsStar}
use Rattle.spec_worker.specs.Workers.{ArePlaces}
use Rattle.std.specs.Cmp.{first_so}

-- the labels of these flips are at most n
abbrev pub Within : ℕ → List Flip → Type 0
Within n flips = (q : ℕ) → flips_touch q flips ≡ true → q ≤ n

-- a label of a list of one flip is one of the flip
pub touched_one : (q : ℕ) (f : Flip) → flips_touch q (f ∷ []) ≡ true → flip_touches q f ≡ true
touched_one q f t = by (flip_touches q f) t
  where
    by : (b : Bool) → (b || false) ≡ true → b ≡ true
    by true u = refl
    by false u = u

-- after a flip, and after flips one after another, no other labels are used
uses_flipped : (k : ComplexView) (f : Flip) (n : ℕ) → UsesUpTo k n → ((q : ℕ) → flip_touches q f ≡ true → q ≤ n) → UsesUpTo (flipped k f.a f.b) n
uses_flipped k f n h few = uses_from (flipped k f.a f.b) n (λ g p t e.
    either (listed k.facets g && not (holds g f.a)) (listed (join_boundary f.b f.a) g) (p ≤ n) (sym (listed-flipped k f.a f.b g) ∙ t)
    (λ r. uses_of k n g p h (first_so (listed k.facets g) (not (holds g f.a)) r) e)
    (λ r. let s = side_of f.b f.a g r in
    either (has f.b p) (has (without f.a s.0) p) (p ≤ n) (sym (has-union f.b (without f.a s.0) p) ∙ ap (λ (x : List ℕ). has x p) (sym s.2) ∙ e)
    (λ q. few p (or_right (has f.a p) (has f.b p) q))
    (λ q. few p (or_left (has f.a p) (has f.b p) (first_so (has f.a p) (not (nat_eq p s.0)) (sym (has-without f.a s.0 p) ∙ q))))))

uses_replayed : (k m : ComplexView) (flips : List Flip) (n : ℕ) → UsesUpTo k n → Within n flips → replay k flips ≡ Some m → UsesUpTo m n
uses_replayed k m [] n h few e = let is : k ≡ m = cc in subst (λ (j : ComplexView). UsesUpTo j n) is h
uses_replayed k m (f ∷ fs) n h few e = by (broken_rule k f.a f.b) e
    (uses_replayed (flipped k f.a f.b) m fs n (uses_flipped k f n h (λ q u. few q (or_left (flip_touches q f) (flips_touch q fs) u))) (λ q u. few q (or_right (flip_touches q f) (flips_touch q fs) u)))
  where
    by : (r : Result (Unit {0}) Illegal) → if_legal r (replay (flipped k f.a f.b) fs) ≡ Some m → (replay (flipped k f.a f.b) fs ≡ Some m → UsesUpTo m n) → UsesUpTo m n
    by (Ok u) t more = more t
    by (Err x) t more = cc

-- a label of a star is one of the complex
uses_star : (k : ComplexView) (p n : ℕ) → UsesUpTo k n → UsesUpTo (record { dim = k.dim; facets = star k.facets p }) n
uses_star k p n h = uses_from (record { dim = k.dim; facets = star k.facets p }) n (λ g q t e. uses_of k n g q h (first_so (listed k.facets g) (holds g (p ∷ [])) (sym (listed-filter (λ (f : List ℕ). holds f (p ∷ [])) k.facets g) ∙ t)) e)

pub each_more : {P Q : ℕ → Type 0} → ((x : ℕ) → P x → Q x) → (xs : List ℕ) → AllByRecursion P xs → AllByRecursion Q xs
each_more f [] h = tt
each_more f (x ∷ xs) h = (f x h.0, each_more f xs h.1)

-- the labels of a flip that fits a star after flips within the places
pub within_star : (v : PassView) (flips : List Flip) (now : ComplexView) (p n : ℕ) (s : VertexStar) (free : List ℕ) (f : Flip) → Sees v → v.places ≡ n → replay v.seen flips ≡ Some now → Within n flips → ArePlaces free n → star_in now p ≡ s → FitsStar s free f → Within n (f ∷ [])
within_star v flips now p n s free f sees places replays few are is fits q t =
    either (has f.a q) (has f.b q) (q ≤ n) (touched_one q f t)
    (λ u. in_star (fits.first q u))
    (λ u. either (has (used s.rows) q) (has free q) (q ≤ n) (fits.second q u) in_star (has_bound n free q (each_more (λ x h. h.1) free are)))
  where
    uses : UsesUpTo now n
    uses = uses_replayed v.seen now flips n (subst (UsesUpTo v.seen) places sees.within) few replays

    in_star : has (used s.rows) q ≡ true → q ≤ n
    in_star u = has_bound n (used (star now.facets p)) q (uses_star now p n uses) (ap (λ (x : VertexStar). has (used x.rows) q) is ∙ u)
