-- The laws of the job `trace`.
use Rattle.std.proofs.Common.{◌≡◌, true, false, ℕ, Bool, if◌then◌else◌, List, Option, Some, inl, inr, sym, ◌∙◌, ap, refl}
use Rattle.core_laws.specs.Cores.{Core}
use Rattle.core_laws.specs.Runs.{Turn}
use Rattle.core_laws.proofs.OneStep.{runs_one}
use Rattle.trace_text.specs.Traces.{Trace, names}
use Rattle.job_trace.specs.Readings.{input_of}
use Rattle.job_answer.specs.Statuses.{IsDecided}
use Rattle.job_answer.specs.Meanings.{Answers, Lawful, Same}
use Rattle.job_answer.proofs.Meanings.{IsDoneShort, verdict_done, input_done, by_read}
use Rattle.job_answer.specs.declared.status.Status.{Status}
use Rattle.job_answer.specs.declared.status.Status.TheVariants.{Yes, No}
use Rattle.job_trace.specs.TraceTexts.{trace_answer}
use Rattle.job_trace.specs.Traced.{opened_for, end_of, is_clean, IsTraced}
use Rattle.job_trace.specs.Answers.{IsTraceRun, RunsClean, meaning}
use Rattle.job_trace.specs.Laws.{YesIsClean, VerdictTellsHistory}

-- ---- one answer

-- what a run comes to
record SameEnd (s t : Status) (xs ys : List ℕ) (c d : Core) : Type 0 where
  pub statuses : s ≡ t
  pub texts : xs ≡ ys
  pub lasts : c ≡ d

abbrev status_of : Trace → List Turn → Status
status_of t turns = if is_clean turns (end_of (opened_for t) turns) then Yes else No

abbrev text_of : Trace → List Turn → List ℕ
text_of t turns = trace_answer (names t) (is_clean turns (end_of (opened_for t) turns)) turns (end_of (opened_for t) turns)

traced_status : (t : Trace) (s : Status) (xs : List ℕ) (c : Core) (a : IsTraced t s xs c) → s ≡ status_of t a.turns
traced_status t s xs c a = a.status_is ∙ ap (λ (d : Core). if is_clean a.turns d then Yes else No) a.last_is

traced_text : (t : Trace) (s : Status) (xs : List ℕ) (c : Core) (a : IsTraced t s xs c) → xs ≡ text_of t a.turns
traced_text t s xs c a = a.says ∙ ap (λ (d : Core). trace_answer (names t) (is_clean a.turns d) a.turns d) a.last_is

same_traced : (t : Trace) (s u : Status) (xs ys : List ℕ) (c d : Core) → IsTraced t s xs c → IsTraced t u ys d → SameEnd s u xs ys c d
same_traced t s u xs ys c d a b =
    let e : a.turns ≡ b.turns = runs_one (opened_for t) a.turns b.turns a.run b.run (a.events_are ∙ sym b.events_are) in
    record {
      statuses = traced_status t s xs c a ∙ ap (status_of t) e ∙ sym (traced_status t u ys d b);
      texts = traced_text t s xs c a ∙ ap (text_of t) e ∙ sym (traced_text t u ys d b);
      lasts = a.last_is ∙ ap (end_of (opened_for t)) e ∙ sym b.last_is;
    }

same_run : (t : Trace) (s u : Status) (xs ys : List ℕ) (p q : Option Core) → IsTraceRun t s xs p → IsTraceRun t u ys q → Same s u xs ys p q
same_run t s u xs ys p q a b =
    let e : SameEnd s u xs ys a.last b.last = same_traced t s u xs ys a.last b.last a.traced b.traced in
    record { statuses = e.statuses; texts = e.texts; reports = a.reports ∙ ap (λ (c : Core). Some c) e.lasts ∙ sym b.reports }

-- ---- any answer

run_decided : (b : Bool) (s : Status) → s ≡ (if b then Yes else No) → IsDecided s
run_decided true s e = inl e
run_decided false s e = inr e

pub lawful : Lawful meaning
lawful = record {
  reads = by_read input_of;
  verdict = λ s d. inl d;
  ends = λ t s xs p a. run_decided (is_clean a.traced.turns a.last) s a.traced.status_is;
  fits = λ t s xs p a. (a.last, a.reports);
  headline = λ bytes s xs p h d. record { trace = d.told; input = d.input; last = d.answer.last; reports = d.answer.reports; history = d.answer.history };
  one = λ z t s u xs ys p q a b. same_run t s u xs ys p q a b;
}

-- ---- a Yes

clean_of : (b : Bool) → (if b then Yes else No) ≡ Yes → b ≡ true
clean_of true e = refl
clean_of false e = cc

yes_clean : (bytes : List ℕ) (s : Status) (xs : List ℕ) (p : Option Core) → Answers meaning bytes s xs p → s ≡ Yes → RunsClean bytes
yes_clean bytes s xs p a e =
    let d : IsDoneShort meaning bytes s xs p = verdict_done meaning bytes s xs p (inl (inl e)) a in
    let t : Trace = d.done.told in
    let r : IsTraced t s xs d.done.answer.last = d.done.answer.traced in
    record {
      short = d.short;
      trace = t;
      input = d.done.input;
      turns = r.turns;
      events_are = r.events_are;
      run = r.run;
      clean = clean_of (is_clean r.turns (end_of (opened_for t) r.turns)) (sym (traced_status t s xs d.done.answer.last r) ∙ e);
    }

-- what a clean run comes to
clean_run : (bytes : List ℕ) (h : RunsClean bytes) → IsTraced h.trace (status_of h.trace h.turns) (text_of h.trace h.turns) (end_of (opened_for h.trace) h.turns)
clean_run bytes h = record { turns = h.turns; events_are = h.events_are; run = h.run; last_is = refl; status_is = refl; says = refl }

clean_yes : (bytes : List ℕ) (s : Status) (xs : List ℕ) (p : Option Core) → Answers meaning bytes s xs p → RunsClean bytes → s ≡ Yes
clean_yes bytes s xs p a h =
    let r : IsTraceRun h.trace s xs p = input_done meaning bytes s xs p lawful h.short h.trace h.input a in
    (same_traced h.trace s (status_of h.trace h.turns) xs (text_of h.trace h.turns) r.last (end_of (opened_for h.trace) h.turns) r.traced (clean_run bytes h)).statuses
    ∙ ap (λ b. if b then Yes else No) h.clean

pub yes_is_clean : YesIsClean
yes_is_clean bytes s xs p a = (λ e. yes_clean bytes s xs p a e, λ h. clean_yes bytes s xs p a h)

-- ---- the history

pub verdict_tells_history : VerdictTellsHistory
verdict_tells_history bytes s xs p a v =
    let d : IsDoneShort meaning bytes s xs p = verdict_done meaning bytes s xs p (inl v) a in
    record { trace = d.done.told; input = d.done.input; last = d.done.answer.last; reports = d.done.answer.reports; history = d.done.answer.history }
