-- The counts of gates over several rounds.
use Rattle.std.proofs.Common.{◌≡◌, ℕ, ◌+◌, ◌≤◌, List, [], ◌∷◌, ◌++◌, sym, ◌∙◌, ap, refl, arith}
use mathlib.Core.Option.{some, some-injective}
use lib.ListN.{get_elem?}
use Rattle.board_rule.proofs.Seats.{there, within}
use Rattle.round_rules.specs.Rounds.{RoundView}
use Rattle.round_run.specs.Gates.{Rise, quits_at, all_quits_at}
use Rattle.round_run.specs.Reports.{ReportView}
use Rattle.round_run.specs.Searches.{IsNext}

pub all_quits_more : (rs : List RoundView) (r : RoundView) (i : ℕ) → all_quits_at (rs ++ r ∷ []) i ≡ all_quits_at rs i + quits_at r.tries i
all_quits_more [] r i = omega arith
all_quits_more (q ∷ rs) r i = omega (arith, all_quits_more rs r i)

module _ {A : Type 0} where
  -- no round yet
  pub rise_none : (count : A → ℕ) (gates : List A) (rs : List RoundView) → rs ≡ [] → Rise count gates gates (all_quits_at rs)
  rise_none count gates rs h = record { same = refl; rise = λ i a b e f. omega (arith, ap count (some-injective a b (sym e ∙ f)), ap (λ qs. all_quits_at qs i) h) }

  -- at least as often
  pub rise_less : (count : A → ℕ) (was now : List A) (said : ℕ → ℕ) → Rise count was now said → Rise count was now (λ _. 0)
  rise_less count was now said r = record { same = r.same; rise = λ i a b e f. omega (arith, r.rise i a b e f) }

  -- one rise after another
  pub rise_then : (count : A → ℕ) (was mid now : List A) (said more all : ℕ → ℕ) → ((i : ℕ) → all i ≤ said i + more i) → Rise count was mid said → Rise count mid now more → Rise count was now all
  rise_then count was mid now said more all h r s = record { same = s.same ∙ r.same; rise = by }
    where
      by : (i : ℕ) (a b : A) → get_elem? was i ≡ some a → get_elem? now i ≡ some b → count a + all i ≤ count b
      by i a b e f =
          let q : (m : A) × (get_elem? mid i ≡ some m) = there mid i (omega (arith, within was i a e, r.same)) in
          omega (arith, h i, r.rise i a q.0 e q.1, s.rise i q.0 b q.1 f)

  -- one round more, and one that was given up
  pub rise_more : (count : A → ℕ) (was mid now : List A) (before after : ReportView) → Rise count was mid (all_quits_at before.rounds) → IsNext count mid now before after → Rise count was now (all_quits_at after.rounds)
  rise_more count was mid now before after r n =
      rise_then count was mid now (all_quits_at before.rounds) (quits_at n.round.tries) (all_quits_at after.rounds)
      (λ i. omega (arith, all_quits_more before.rounds n.round i, ap (λ rs. all_quits_at rs i) n.rounds)) r n.rise

  pub rise_given_up : (count : A → ℕ) (was mid now : List A) (rs : List RoundView) → Rise count was mid (all_quits_at rs) → Rise count mid now (λ _. 0) → Rise count was now (λ _. 0)
  rise_given_up count was mid now rs r s = rise_then count was mid now (all_quits_at rs) (λ _. 0) (λ _. 0) (λ i. omega arith) r s
