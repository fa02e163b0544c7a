-- A closed board, what main kept and what each worker says make a round right.
use Rattle.std.proofs.Common.{◌≡◌, ℕ, ◌-◌, ◌+◌, ◌<◌, ◌≤◌, true, List, [], length, Some, inl, inr, sym, refl, ap, ◌∙◌, subst, arith}
use mathlib.Core.Option.{some, some-injective, some-ne-none}
use Rattle.std.specs.List.{AllByRecursion, flat_map}
use lib.ListN.{get_elem?}
use Rattle.std.proofs.lemmas.List.{length-map}
use Rattle.complex_core.specs.Labels.{face_cmp}
use Rattle.complex_core.specs.Rising.{rising}
use Rattle.complex_core.specs.Complexes.{ComplexView}
use Rattle.complex_core.specs.ComplexFaults.{first_size}
use Rattle.flip_rules.specs.Flips.{replay}
use Rattle.flip_rules.specs.Entries.{JournalEntry}
use Rattle.flip_rules.specs.Journals.{flat, mine}
use Rattle.stars.specs.StarViews.{StarList, IsStarListOf, all_stars}
use Rattle.stars.specs.Building.{first_rows}
use Rattle.stars.proofs.Gathering.{gathered_facets, made_complex}
use Rattle.board_rule.specs.Rule.{FitsAt, Fits, Noted, HasWon, IsEntry}
use Rattle.board_rule.specs.Tries.{Try, has_won}
use Rattle.board_rule.specs.declared.setup.Setup.{Setup}
use Rattle.board_rule.specs.declared.kept.Kept.{Kept}
use Rattle.board_rule.specs.declared.view.MainView.{MainView}
use Rattle.board_rule.proofs.Seats.{there}
use Rattle.board_rule.proofs.TryingEntries.{every, is_of}
use Rattle.vertex_claims.specs.Ended.{IsPast}
use Rattle.vertex_claims.specs.MarkLists.{MarkList}
use Rattle.vertex_claims.specs.Marks.{marks_of}
use Rattle.vertex_claims.specs.declared.mark.Mark.{Mark}
use Rattle.round_rules.specs.Laws.{IsAccount, IsGathered}
use Rattle.round_rules.specs.Outcomes.{Outcomes}
use Rattle.round_rules.specs.Rounds.{RoundView, Had, WorkerOk, RoundOk}
use Rattle.round_rules.specs.Tasks.{Scene, task_at}
use Rattle.round_rules.specs.declared.tried.Tried.{Tried}
use Rattle.round_rules.proofs.Carrying.{FitsAfter}
use Rattle.round_rules.proofs.Judging.{Fitting, NotedIn}
use Rattle.round_rules.proofs.Accounting.{Settled, judged}
use Rattle.round_rules.proofs.Holding.{HadIn, had}
use Rattle.round_rules.proofs.Blaming.{Blamed, blamed}
use Rattle.round_rules.proofs.Gaining.{Gains, gains_all, few_numbers, homed}
use Rattle.round_rules.proofs.Parts.{each_part, few_in_parts}

-- stars for all places are those of one complex
one_complex : (k l : ComplexView) (stars : StarList) → IsStarListOf k stars → IsStarListOf l stars → k ≡ l
one_complex k l stars h g =
    let facets = flat_map first_rows (all_stars stars) in
    let made : ComplexView = record { dim = first_size facets - 1; facets = rising face_cmp facets } in
    sym (made_complex k made facets facets (gathered_facets k stars h) refl refl refl) ∙ made_complex l made facets facets (gathered_facets l stars g) refl refl refl

-- ---- the notes of the board's start and round are those of the scene

fits_after : (s : Scene) (setup : Setup) (before : List JournalEntry) (w : ℕ) (t : Try) → setup.start.value ≡ s.start → setup.round ≡ s.round → FitsAt setup before w t → FitsAfter s.start s.round before w t
fits_after s setup before w t start round f = record {
  there = f.there;
  replays = ap (λ (k : ComplexView). replay k (flat before)) (sym start) ∙ f.replays;
  items = f.items;
  count = ap (λ (n : ℕ). length (mine before n w)) (sym round) ∙ f.count;
}

fitting_of : (s : Scene) (setup : Setup) (entries : List JournalEntry) (w : ℕ) (t : Try) → setup.start.value ≡ s.start → setup.round ≡ s.round → Fits setup entries w t → Fitting s entries w t
fitting_of s setup entries w t start round f = record { before = f.before; next = f.after; whole = f.whole; fits = fits_after s setup f.before w t start round f.fits }

noted_in : (s : Scene) (setup : Setup) (entries : List JournalEntry) (w : ℕ) (tries : List Try) → setup.start.value ≡ s.start → setup.round ≡ s.round → Noted setup entries w tries → NotedIn s entries w tries
noted_in s setup entries w tries start round n = record {
  fits = every (λ (t : Try). t.won ≡ true → Fits setup entries w t) (λ (t : Try). t.won ≡ true → Fitting s entries w t) (λ t f won. fitting_of s setup entries w t start round (f won)) tries n.fits;
  last = λ before next e t whole by latest. fits_after s setup before w t start round (n.last before next e t whole by latest);
}

-- ---- one worker

one_kept : (back : List Kept) (w : ℕ) (k l : Kept) → get_elem? back w ≡ some k → get_elem? back w ≡ some l → k ≡ l
one_kept back w k l h g = some-injective k l (sym h ∙ g)

had_there : (s : Scene) (c : MainView) (r : RoundView) (w q : ℕ) (marks : MarkList) (answers : List Tried) → get_elem? r.marks (w - 1) ≡ some marks → (a : IsAccount s c w marks answers) → HadIn s r.entries (task_at s w) (marks_of a.kept.tries) q → Had s r w q
had_there s c r w q marks answers is a i = record {
  marks = marks;
  is = is;
  number = i.number;
  mark = i.mark;
  here = ap (λ (l : List Mark). get_elem? l i.number) a.list ∙ i.here;
  version = i.version;
  won = i.won;
  rows = i.rows;
  at = i.at;
  place = i.place;
}

module _ (s : Scene) (setup : Setup) (c : MainView) (r : RoundView) (stars : StarList) (g : IsGathered s setup c r stars) where
  settled : (w : ℕ) (kept : Kept) → IsPast setup c r.entries w kept → Settled s r.entries w (length c.back) (task_at s w) kept.tries
  settled w kept past = record {
    rises = g.board.complex.rising;
    dim = λ n. refl;
    seats_are = g.board.workers;
    noted = noted_in s setup r.entries w kept.tries g.board.start g.board.round_is past.notes;
    names = past.names;
  }

  past_of : (w : ℕ) (marks : MarkList) (answers : List Tried) → 0 < w → (a : IsAccount s c w marks answers) → IsPast setup c r.entries w a.kept
  past_of w marks answers low a = g.closed.past w a.kept low a.is

  -- a place that a won note of the worker has
  had_account : (w q : ℕ) (marks : MarkList) (answers : List Tried) → 0 < w → (a : IsAccount s c w marks answers) → has_won a.kept.tries q ≡ true → HadIn s r.entries (task_at s w) (marks_of a.kept.tries) q
  had_account w q marks answers low a has = had s r.entries w (task_at s w) a.kept.tries answers a.kept.mine q g.board.complex.rising (settled w a.kept (past_of w marks answers low a)).noted.fits a.own has

  -- the marks, the answers and the account of a worker
  record Told (w : ℕ) : Type 0 where
    marks : MarkList
    is : get_elem? r.marks (w - 1) ≡ some marks
    answers : List Tried
    account : IsAccount s c w marks answers

  told : (w : ℕ) → 0 < w → w ≤ s.plan.workers → Told w
  told w low high =
      let many_marks = g.marks in
      let many_tries = g.tries in
      let m = there r.marks (w - 1) (omega (arith, low, high, many_marks)) in
      let t = there r.tries (w - 1) (omega (arith, low, high, many_tries)) in
      record { marks = m.0; is = m.1; answers = t.0; account = g.accounts w m.0 t.0 low m.1 t.1 }

  -- a worker of the round who won a place had it
  had_of : (w q o : ℕ) → Blamed s c w q o → Had s r o q
  had_of w q o b = by b.has
    where
      low : 0 < o
      low = b.other.low

      t : Told o
      t = told o low b.other.high

      by : HasWon [] c o q → Had s r o q
      by (inl h) = absurd (some-ne-none _ (sym h.1))
      by (inr h) = had_there s c r o q t.marks t.answers t.is t.account (had_account o q t.marks t.answers low t.account (ap (λ (x : Kept). has_won x.tries q) (one_kept c.back o t.account.kept h.0 t.account.is h.1) ∙ h.2))

  worker_ok : (w : ℕ) (marks : MarkList) (answers : List Tried) → 0 < w → IsAccount s c w marks answers → WorkerOk s r w marks answers
  worker_ok w marks answers low a =
      let p = past_of w marks answers low a in
      let j = judged s r.entries w (length c.back) (task_at s w) a.kept.tries answers a.kept.mine (settled w a.kept p) (p.entries ∙ ap (λ (n : ℕ). mine r.entries n w) g.board.round_is) a.own in
      record {
        worker = a.worker;
        round_is = a.round_is;
        done = a.done;
        told = a.told;
        outcomes = subst (λ (l : List Mark). Outcomes s r.entries w (task_at s w) 0 0 l answers) (sym a.list) j.outcomes;
        busy = λ t q o at high. had_of w q o (blamed s r.entries w (length c.back) (task_at s w) c a.kept.tries answers a.kept.mine g.board.workers p.names p.blames a.own t q o at high);
        entries = j.numbers;
        count = j.up;
      }

  -- each entry is of the round and of one of its workers, on its places
  written : AllByRecursion (IsEntry s.round s.places (s.plan.workers + 1)) r.entries
  written = subst (λ (x : ℕ × ℕ × ℕ). AllByRecursion (IsEntry x.0 x.1 x.2) r.entries) (λ i. (g.board.round_is i, g.board.places i, g.board.workers i)) g.closed.written

  gains_of : (w : ℕ) → 0 < w → w ≤ s.plan.workers → AllByRecursion (Gains s.start.dim) (mine r.entries s.round w)
  gains_of w low high =
      let t = told w low high in
      let a = t.account in
      subst (AllByRecursion (Gains s.start.dim)) ((past_of w t.marks t.answers low a).entries ∙ ap (λ (n : ℕ). mine r.entries n w) g.board.round_is)
      (gains_all (task_at s w) s.start.dim s.round w a.kept.tries t.answers a.kept.mine (λ n. refl) a.own)

  few_of : (w : ℕ) → 0 < w → w ≤ s.plan.workers → length (mine r.entries s.round w) ≤ s.plan.tries
  few_of w low high =
      let t = told w low high in
      let same = ap {B = ℕ} length (worker_ok w t.marks t.answers low t.account).entries in
      let long = length-map (mine r.entries s.round w) (λ (e : JournalEntry). e.seq) in
      let numbers = few_numbers t.answers in
      let few = t.account.done.few in
      omega (arith, same, long, numbers, few)

  pub round_ok : (end : ComplexView) → IsStarListOf end stars → RoundOk s r end
  round_ok end e = record {
    round_is = g.round_is;
    replays = ap (λ (k : ComplexView). replay k (flat r.entries)) (sym g.board.start) ∙ g.closed.replays ∙ ap Some (one_complex g.closed.now end stars g.closed.stars_are e);
    tries = g.tries;
    marks = g.marks;
    workers = λ w marks answers low m t. worker_ok w marks answers low (g.accounts w marks answers low m t);
    entries = written;
    few = few_in_parts (is_of s.round) (λ (e : JournalEntry). e.worker) s.plan.tries s.plan.workers r.entries (homed s.round s.places s.plan.workers r.entries written) few_of;
    gains = each_part (Gains s.start.dim) (is_of s.round) (λ (e : JournalEntry). e.worker) s.plan.workers r.entries (homed s.round s.places s.plan.workers r.entries written) gains_of;
  }
