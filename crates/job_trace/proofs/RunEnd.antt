-- A whole run, and its text.
use Rattle.std.proofs.Common.{◌≡◌, ℕ, ◌+◌, ◌-◌, ◌<◌, ◌≤◌, Bool, true, false, ◌&&◌, if◌then◌else◌, List, [], ◌++◌, length, sym, ◌∙◌, ap, subst, arith, append_assoc}
use Rattle.std.specs.List.{list_all}
use Rattle.std.proofs.lemmas.List.{length-replicate}
use Rattle.complex_core.specs.Complexes.{ComplexView, IsComplex}
use Rattle.complex_core.specs.Maps.{turned, pair_cmp, takes, takes_all, renamed, names_of, used, greatest}
use Rattle.complex_core.specs.Rising.{rising}
use Rattle.complex_core.proofs.Renaming.{named}
use Rattle.flip_rules.specs.Journals.{flat}
use Rattle.flip_rules.specs.declared.flip.Flip.{Flip}
use Rattle.core_laws.specs.Cores.{Core, opened, complex_of}
use Rattle.core_laws.specs.Serials.{Serial}
use Rattle.core_laws.proofs.Replays.{replay_end}
use Rattle.trace_text.specs.Traces.{Trace, names}
use Rattle.job_trace.specs.TraceTexts.{answer_lines, pending_lines, history_lines, verdict_line}
use Rattle.job_trace.specs.Traced.{opened_for, is_nothing, is_clean, IsTraced, TellsHistory}
use Rattle.job_trace.specs.TraceRuns.{HasRun}
use Rattle.job_answer.specs.declared.status.Status.{Status}
use Rattle.job_answer.specs.declared.status.Status.TheVariants.{Yes, No}
use Rattle.job_trace.proofs.RunKept.{Kept, opened_kept}
use Rattle.job_trace.proofs.RunNames.{few_names, name_taken, replay_named}

-- ---- the opened core

pub places_turned : (k : ComplexView) (room : ℕ) (ns places : List (ℕ × ℕ)) → IsComplex k → ns ≡ names_of k.facets room → places ≡ rising pair_cmp (turned ns) → places ≡ turned ns
places_turned k room ns places h en ep = ep ∙ ap (λ ms. rising pair_cmp (turned ms)) en ∙ (named k room h).places ∙ ap turned (sym en)

pub is_opened : (t : Trace) (ns shown : List (ℕ × ℕ)) (ground : ComplexView) (count : ℕ) (world : Core) → ns ≡ names t → ground ≡ renamed t.start (turned ns) → shown ≡ ns → count ≡ length shown → world ≡ opened ground count t.workers → world ≡ opened_for t
is_opened t ns shown ground count world en eg es ec ew =
    ew ∙ (λ i. opened ((eg ∙ ap (λ ms. renamed t.start (turned ms)) en) i) ((ec ∙ ap (λ (ps : List (ℕ × ℕ)). length ps) (es ∙ en)) i) t.workers)

-- ---- what holds after the events

pub record Ended (t : Trace) (ns : List (ℕ × ℕ)) (last : Core) : Type 0 where
  pub workers : length last.pending ≡ t.workers
  pub taken : takes_all ns (complex_of last).facets ≡ true
  pub start : renamed last.start (names t) ≡ t.start
  pub serial : Serial last

pub run_ended : (t : Trace) (ns : List (ℕ × ℕ)) (ground : ComplexView) (accepted : Bool) (text : List ℕ) (last : Core) → HasRun t t.events accepted text last → IsComplex ground → ns ≡ names t → ground ≡ renamed t.start (turned ns) → takes_all ns ground.facets ≡ true → renamed ground ns ≡ t.start → Ended t ns last
run_ended t ns ground accepted text last h complex en eg all back =
    let same : ground ≡ renamed t.start (turned (names t)) = eg ∙ ap (λ ms. renamed t.start (turned ms)) en in
    let there : IsComplex (renamed t.start (turned (names t))) = subst IsComplex same complex in
    let P : Core → Type 0 = λ c. Kept (opened_for t) c in
    let kept : Kept (opened_for t) last = subst P (sym h.last_is) (opened_kept (renamed t.start (turned (names t))) (length (names t)) t.workers h.turns there.rising h.run) in
    let start : last.start ≡ ground = kept.start ∙ sym same in
    record {
      workers = kept.workers ∙ length-replicate {A = List Flip} t.workers [];
      taken = replay_named ns last.start (complex_of last) (flat last.journal)
          (let Q : ComplexView → Type 0 = λ k. IsComplex k in (subst Q (sym start) complex).rising)
          (replay_end last.start (flat last.journal) kept.serial.replays)
          (ap (λ (k : ComplexView). takes_all ns k.facets) start ∙ all)
          (λ p touched. let label : (0 < p) × (p ≤ length (names t)) = few_places p (kept.journal p touched) in ap (λ ms. takes ms p) en ∙ name_taken t.start.facets t.room p label.0 label.1);
      start = (λ i. renamed (start i) (sym en i)) ∙ back;
      serial = kept.serial;
    }
  where
    few_places : (p : ℕ) → (0 < p) × (p ≤ length (opened_for t).owners - 1) → (0 < p) × (p ≤ length (names t))
    few_places p h = (h.0, omega (arith, h.1, length-replicate {A = ℕ} (length (names t) + 1) 0))

-- ---- the text

whole_text : (a b c d all lines : List ℕ) → lines ≡ b ++ c → all ≡ (a ++ lines) ++ d → all ≡ a ++ (b ++ (c ++ d))
whole_text a b c d all lines e f = f ∙ ap (λ bs. (a ++ bs) ++ d) e ∙ append_assoc a (b ++ c) d ∙ ap (λ bs. a ++ bs) (append_assoc b c d)

pub is_traced : (t : Trace) (ns : List (ℕ × ℕ)) (accepted nothing clean : Bool) (refusals lines verdict body text : List ℕ) (status : Status) (last : Core) → HasRun t t.events accepted refusals last → ns ≡ names t → lines ≡ refusals ++ pending_lines 1 last.pending → nothing ≡ list_all is_nothing last.pending → clean ≡ (accepted && nothing) → verdict ≡ verdict_line clean → body ≡ verdict ++ lines → text ≡ body ++ history_lines ns last → status ≡ (if clean then Yes else No) → IsTraced t status text last
is_traced t ns accepted nothing clean refusals lines verdict body text status last h en el eo ec ev eb et es =
    let sound : clean ≡ is_clean h.turns last = ec ∙ (λ i. h.accepted_is i && eo i) in
    record {
      turns = h.turns;
      events_are = h.events_are;
      run = h.run;
      last_is = h.last_is;
      status_is = es ∙ ap (λ b. if b then Yes else No) sound;
      says = whole_text (verdict_line (is_clean h.turns last)) (answer_lines (names t) 1 h.turns) (pending_lines 1 last.pending) (history_lines (names t) last) text lines
          (el ∙ ap (λ bs. bs ++ pending_lines 1 last.pending) h.says)
          (et ∙ (λ i. (eb ∙ ap (λ bs. bs ++ lines) (ev ∙ ap verdict_line sound)) i ++ history_lines (en i) last));
    }

pub tells_history : (t : Trace) (ns : List (ℕ × ℕ)) (body text : List ℕ) (last : Core) → Ended t ns last → ns ≡ names t → text ≡ body ++ history_lines ns last → TellsHistory t text last
tells_history t ns body text last h en et = record {
  start_is = h.start;
  serial = h.serial;
  front = body;
  ends = et ∙ ap (λ ms. body ++ history_lines ms last) en;
}

-- ---- a trace as its parts show it

pub few_places_of : (t shown : Trace) (ns pairs : List (ℕ × ℕ)) → t ≡ shown → IsComplex shown.start → greatest (used t.start.facets) + t.room ≤ 65535 → ns ≡ names shown → pairs ≡ ns → length pairs ≤ 65535
few_places_of t shown ns pairs v h l en es =
    let P : Trace → Type 0 = λ x. greatest (used x.start.facets) + x.room ≤ 65535 in
    few_names shown.start shown.room ns pairs h (subst P v l) en es

pub is_opened_as : (t shown : Trace) (ns pairs : List (ℕ × ℕ)) (ground : ComplexView) (count : ℕ) (world : Core) → t ≡ shown → ns ≡ names shown → ground ≡ renamed shown.start (turned ns) → pairs ≡ ns → count ≡ length pairs → world ≡ opened ground count shown.workers → world ≡ opened_for t
is_opened_as t shown ns pairs ground count world v en eg es ec ew = is_opened shown ns pairs ground count world en eg es ec ew ∙ ap opened_for (sym v)

pub ended_as : (t shown : Trace) (ns : List (ℕ × ℕ)) (ground : ComplexView) (accepted : Bool) (text : List ℕ) (last : Core) → t ≡ shown → HasRun t t.events accepted text last → IsComplex ground → ns ≡ names shown → ground ≡ renamed shown.start (turned ns) → takes_all ns ground.facets ≡ true → renamed ground ns ≡ shown.start → Ended t ns last
ended_as t shown ns ground accepted text last v h complex en eg all back =
    run_ended t ns ground accepted text last h complex (en ∙ ap names (sym v)) (eg ∙ ap (λ (x : Trace). renamed x.start (turned ns)) (sym v)) all (back ∙ ap (λ (x : Trace). x.start) (sym v))

pub workers_as : (t shown : Trace) (ns : List (ℕ × ℕ)) (last : Core) → t ≡ shown → Ended t ns last → length last.pending ≡ shown.workers
workers_as t shown ns last v h = h.workers ∙ ap (λ (x : Trace). x.workers) v

pub yes_then : (clean : Bool) (status : Status) → clean ≡ true → status ≡ Yes → status ≡ (if clean then Yes else No)
yes_then clean status e s = s ∙ ap (λ b. if b then Yes else No) (sym e)

pub no_else : (clean : Bool) (status : Status) → clean ≡ false → status ≡ No → status ≡ (if clean then Yes else No)
no_else clean status e s = s ∙ ap (λ b. if b then Yes else No) (sym e)
