-- The counts of gates over the rounds of two searches.
use Rattle.std.proofs.Common.{◌≡◌, ℕ, ◌+◌, ◌-◌, ◌<◌, List, [], ◌∷◌, ◌++◌, length, ap, arith, length-append}
use Rattle.round_rules.specs.Rounds.{RoundView}
use Rattle.anneal_plan.specs.Numbers.{Numbers}
use Rattle.round_run.specs.Gates.{Rise, all_quits_at, quits_at}
use Rattle.round_run.specs.Reports.{ReportView}
use Rattle.round_run.specs.Searches.{IsNext}
use Rattle.round_run.proofs.Counts.{all_quits_more, rise_none, rise_then}
use Rattle.equal_search.specs.Comparing.{quits_of_both}
use Rattle.equal_search.specs.Pairs.{AreNext}

module _ {A : Type 0} where
  -- no round yet
  pub both_none : (count : A → ℕ) (gates : List A) (r s : ReportView) → r.rounds ≡ [] → s.rounds ≡ [] → Rise count gates gates (quits_of_both r s)
  both_none count gates r s a b =
      let none : Rise count gates gates (all_quits_at r.rounds) = rise_none count gates r.rounds a in
      rise_then count gates gates gates (all_quits_at r.rounds) (all_quits_at s.rounds) (quits_of_both r s) (λ i. omega arith) none (rise_none count gates s.rounds b)

  -- a round on the one and then on the other
  pub are_next : (count : A → ℕ) (was mid now : List A) (r s t u : ReportView) → IsNext count was mid r t → IsNext count mid now s u → AreNext count was now r s t u
  are_next count was mid now r s t u a b = record {
    first = a.round;
    second = b.round;
    first_rounds = a.rounds;
    second_rounds = b.rounds;
    rise = rise_then count was mid now (quits_at a.round.tries) (quits_at b.round.tries) (λ i. quits_at a.round.tries i + quits_at b.round.tries i) (λ i. omega arith) a.rise b.rise;
  }

  pub both_more : (count : A → ℕ) (was mid now : List A) (r s t u : ReportView) → Rise count was mid (quits_of_both r s) → AreNext count mid now r s t u → Rise count was now (quits_of_both t u)
  both_more count was mid now r s t u h n =
      rise_then count was mid now (quits_of_both r s) (λ i. quits_at n.first.tries i + quits_at n.second.tries i) (quits_of_both t u)
      (λ i. omega (arith, all_quits_more r.rounds n.first i, ap (λ rs. all_quits_at rs i) n.first_rounds, all_quits_more s.rounds n.second i, ap (λ rs. all_quits_at rs i) n.second_rounds)) h n.rise

  -- no count fell
  pub later : (count : A → ℕ) (was mid now : List A) (said : ℕ → ℕ) → Rise count was mid said → Rise count mid now (λ _. 0) → Rise count was now (λ _. 0)
  later count was mid now said h g = rise_then count was mid now said (λ _. 0) (λ _. 0) (λ i. omega arith) h g

-- one round fewer is left
pub fewer_left : (plan : Numbers) (r t : ReportView) (round : RoundView) → length r.rounds < plan.rounds → t.rounds ≡ r.rounds ++ round ∷ [] → plan.rounds - length t.rounds < plan.rounds - length r.rounds
fewer_left plan r t round left e = omega (arith, left, ap length e, length-append r.rounds (round ∷ []))
