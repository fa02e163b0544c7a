-- The laws of the job `iso`.
use Rattle.std.proofs.Common.{◌≡◌, ℕ, List, inl, inr, Ok, sym, ◌∙◌}
use Rattle.facet_iso.specs.Isomorphisms.{IsFit}
use Rattle.job_answer.specs.Meanings.{Answers, Lawful}
use Rattle.job_answer.specs.Statuses.{IsDecided}
use Rattle.job_answer.proofs.Meanings.{IsDoneShort, verdict_done}
use Rattle.job_answer.specs.declared.status.Status.{Status}
use Rattle.job_answer.specs.declared.status.Status.TheVariants.{Yes, No}
use Rattle.job_pairs.specs.Readings.{Pair, reads}
use Rattle.job_pairs.proofs.Readings.{reading_is_one}
use Rattle.job_iso.specs.Answers.{IsIso, TellsMap, meaning}
use Rattle.job_iso.specs.Laws.{YesTellsMap, HasNoMap, NoHasNoMap}
use Rattle.job_iso.proofs.Answering.{same_iso}

ends_decided : (x : Pair) (s : Status) (xs : List ℕ) → IsIso x.0 x.1 s xs → IsDecided s
ends_decided x s xs (inl a) = inl a.is_yes
ends_decided x s xs (inr a) = inr a.is_no

yes_map : (bytes : List ℕ) (x : Pair) (s : Status) (xs : List ℕ) → reads IsFit bytes (Ok x) → IsIso x.0 x.1 s xs → s ≡ Yes → TellsMap bytes xs
yes_map bytes x s xs r (inl a) e = record { complexes = x; input = r; map = a.map; least = a.least; says = a.says }
yes_map bytes x s xs r (inr a) e = let z : Yes ≡ No = sym e ∙ a.is_no in cc

no_map : (bytes : List ℕ) (x : Pair) (s : Status) (xs : List ℕ) → reads IsFit bytes (Ok x) → IsIso x.0 x.1 s xs → s ≡ No → HasNoMap bytes
no_map bytes x s xs r (inl a) e = let z : Yes ≡ No = sym a.is_yes ∙ e in cc
no_map bytes x s xs r (inr a) e = record { complexes = x; input = r; none = a.none }

pub lawful : Lawful meaning
lawful = record {
  reads = reading_is_one IsFit;
  verdict = λ s d. inl d;
  ends = λ x s xs p a. ends_decided x s xs a;
  fits = λ x s xs p a. tt;
  headline = λ bytes s xs p h d. yes_map bytes d.told s xs d.input d.answer;
  one = λ z x s t xs ys p q a b. same_iso x.0 x.1 s t xs ys a b;
}

pub yes_tells_map : YesTellsMap
yes_tells_map bytes s xs a e =
    let d : IsDoneShort meaning bytes s xs tt = verdict_done meaning bytes s xs tt (inl (inl e)) a in
    yes_map bytes d.done.told s xs d.done.input d.done.answer e

pub no_has_no_map : NoHasNoMap
no_has_no_map bytes s xs a e =
    let d : IsDoneShort meaning bytes s xs tt = verdict_done meaning bytes s xs tt (inl (inr e)) a in
    no_map bytes d.done.told s xs d.done.input d.done.answer e
