-- What the proposal of a turn is.
use Rattle.std.proofs.Common.{◌≡◌, ℕ, zero, suc, ◌+◌, ◌%◌, ◌<◌, ◌≤◌, true, nat_eq, Option, Some, None, List, [], ◌∷◌, length, slice_get, slice_index, ◌↔◌, IfSome, sym, ◌∙◌, ap, refl, arith}
use Rattle.std.specs.List.{AllByRecursion}
use Rattle.complex_core.specs.Labels.{has}
use Rattle.complex_core.proofs.Laws.{or_left, or_right, nat_eq_same}
use Rattle.flip_rules.specs.declared.flip.Flip.{Flip}
use Rattle.stars.specs.StarViews.{VertexStar, IsStar}
use Rattle.anneal_plan.specs.declared.plan.Phase.{Phase}
use Rattle.anneal_plan.specs.Proposals.{candidates, first_chosen, fresh_label, falling, indices, proposal_of}
use Rattle.anneal_plan.specs.Fits.{FitsStar, HasNoCandidate}
use Rattle.anneal_plan.proofs.Fitting.{IsFree, all_get, proposal_fits, none_there, none_from}

get_in : (xs : List ℕ) (k x : ℕ) → slice_get xs k ≡ Some x → has xs x ≡ true
get_in [] k x e = cc
get_in (y ∷ ys) zero x e = let p : y ≡ x = cc in or_left (nat_eq y x) (has ys x) (ap (λ z. nat_eq z x) p ∙ nat_eq_same x)
get_in (y ∷ ys) (suc k) x e = or_right (nat_eq y x) (has ys x) (get_in ys k x e)

is_free : (free : List ℕ) (k : ℕ) (fresh : Option ℕ) → AllByRecursion (λ x. 0 < x) free → fresh ≡ slice_get free k → (x : ℕ) → fresh ≡ Some x → IsFree free x
is_free free k fresh h e x s =
    let at : slice_get free k ≡ Some x = sym e ∙ s in
    record { positive = all_get (λ y. 0 < y) free k x h at; there = get_in free k x at }

pub record Proposed (s : VertexStar) (phase : Phase) (words : List ℕ) (turn : ℕ) (free : List ℕ) (r : Option Flip) : Type 0 where
  pub proposal : r ≡ proposal_of s phase words turn free
  pub fits : IfSome r (FitsStar s free)
  pub none : (r ≡ None) ↔ HasNoCandidate s phase words turn free

pub label_positive : (free : List ℕ) (k : ℕ) (fresh : Option ℕ) → AllByRecursion (λ x. 0 < x) free → fresh ≡ slice_get free k → (x : ℕ) → fresh ≡ Some x → 0 < x
label_positive free k fresh h e x s = (is_free free k fresh h e x s).positive

pub proposed : (s : VertexStar) (phase : Phase) (words : List ℕ) (turn : ℕ) (free : List ℕ) (fresh : Option ℕ) (d first count : ℕ) (r : Option Flip) → IsStar s → AllByRecursion (λ x. 0 < x) free → fresh ≡ fresh_label free (slice_index words 6) turn → d ≡ s.dim → falling first count ≡ indices d phase (slice_index words 1) → first ≤ d → r ≡ first_chosen (candidates s fresh) (slice_index words (2 + turn)) (falling first count) → Proposed s phase words turn free r
unfolding proposal_of
proposed s phase words turn free fresh d first count r h pos is dim tried low e =
    let word : ℕ = slice_index words (2 + turn) in
    let label : Option ℕ = fresh_label free (slice_index words 6) turn in
    let all : falling first count ≡ indices s.dim phase (slice_index words 1) = tried ∙ ap (λ n. indices n phase (slice_index words 1)) dim in
    let exact : r ≡ first_chosen (candidates s label) word (indices s.dim phase (slice_index words 1)) = e ∙ (λ j. first_chosen (candidates s (is j)) word (all j)) in
    record {
      proposal = exact;
      fits = each r (λ f q. proposal_fits s free fresh word first count f h (is_free free ((slice_index words 6 % length free + turn) % length free) fresh pos is) (omega (arith, low, dim)) (sym e ∙ q));
      none = (λ q. none_there (candidates s label) word (indices s.dim phase (slice_index words 1)) (sym exact ∙ q), λ q. exact ∙ none_from (candidates s label) word (indices s.dim phase (slice_index words 1)) q);
    }
  where
    each : (o : Option Flip) → ((f : Flip) → o ≡ Some f → FitsStar s free f) → IfSome o (FitsStar s free)
    each None k = tt
    each (Some f) k = k f refl
