-- Who had a place: what a won note tells of its mark.
use Rattle.std.proofs.Common.{◌≡◌, ◌⊎◌, ⊎_elim, inl, inr, ℕ, Bool, true, cond, ◌&&◌, List, [], ◌∷◌, ◌++◌, length, sym, ap, ◌∙◌, subst}
use mathlib.Core.Option.{some}
use Rattle.std.specs.List.{AllByRecursion}
use Rattle.std.proofs.lemmas.Bool.{true≢false, and_parts, or_cases}
use lib.ListN.{get_elem?}
use Rattle.flip_rules.specs.Entries.{JournalEntry}
use Rattle.flip_rules.specs.Journals.{star_of, At}
use Rattle.star_laws.specs.Stars.{Rises, flips_touch}
use Rattle.stars.specs.StarViews.{VertexStar}
use Rattle.board_rule.specs.Items.{has_item}
use Rattle.board_rule.specs.Tries.{Try, has_won}
use Rattle.vertex_claims.specs.Marks.{mark_of, marks_of}
use Rattle.vertex_claims.specs.declared.mark.Found.TheVariants.{Won, Lost}
use Rattle.vertex_claims.specs.declared.mark.Mark.{Mark}
use Rattle.round_rules.specs.Own.{OwnTry}
use Rattle.round_rules.specs.Accounts.{OwnRun, OwnAll}
use Rattle.round_rules.specs.Outcomes.{star_at}
use Rattle.round_rules.specs.Tasks.{Scene, Task, turns_of}
use Rattle.round_rules.specs.declared.tried.Tried.{Tried}
use Rattle.round_rules.proofs.Lists.{at_front, at_last}
use Rattle.round_rules.proofs.Judging.{Fitting, AtHome, at_home, home_is}
use Rattle.vertex_claims.proofs.Seats.{length-marks}

-- a won mark of the place, or one whose flips have it
pub record HadIn (s : Scene) (entries : List JournalEntry) (tasks : ℕ → Task) (marks : List Mark) (q : ℕ) : Type 0 where
  pub number : ℕ
  pub mark : Mark
  pub here : get_elem? marks number ≡ some mark
  pub version : ℕ
  pub won : mark.found ≡ Won version
  pub rows : List (List ℕ)
  pub at : At s.start entries mark.place version rows
  pub place : (mark.place ≡ q) ⊎ (flips_touch q (turns_of (tasks number) (star_at s mark.place rows)) ≡ true)

found_won : (t : Try) → t.won ≡ true → (mark_of t).found ≡ Won t.found
found_won t is = ap (λ (b : Bool). cond b (Won t.found) (Lost t.found)) is

had_later : (s : Scene) (entries : List JournalEntry) (tasks : ℕ → Task) (marks : List Mark) (m : Mark) (q : ℕ) → HadIn s entries tasks marks q → HadIn s entries tasks (marks ++ m ∷ []) q
had_later s entries tasks marks m q h = record { number = h.number; mark = h.mark; here = at_front marks (m ∷ []) h.number h.mark h.here; version = h.version; won = h.won; rows = h.rows; at = h.at; place = h.place }

-- the last try has it in its note
had_now : (s : Scene) (entries : List JournalEntry) (w : ℕ) (tasks : ℕ → Task) (t : Try) (ts : List Try) (was now : List JournalEntry) (a : Tried) (q : ℕ) → Rises s.start → t.won ≡ true → Fitting s entries w t → OwnTry (tasks (length ts)) s.round w t was now a → has_item t.note q ≡ true
    → HadIn s entries tasks (marks_of ts ++ mark_of t ∷ []) q
had_now s entries w tasks t ts was now a q rises won f o has =
    let r = o.won won in
    let h : AtHome t r.home = record { first = r.first; version = r.version } in
    let rows = star_of f.fits.there t.place in
    record {
      number = length ts;
      mark = mark_of t;
      here = subst (λ (n : ℕ). get_elem? (marks_of ts ++ mark_of t ∷ []) n ≡ some (mark_of t)) (length-marks ts) (at_last (marks_of ts) (mark_of t));
      version = t.found;
      won = found_won t won;
      rows = rows;
      at = at_home s entries w t r.home rises f h;
      place = ⊎_elim (λ (e : q ≡ t.place). inl (sym e))
          (λ (e : flips_touch q (turns_of (tasks (length ts)) r.home.star) ≡ true). inr (ap (λ (x : VertexStar). flips_touch q (turns_of (tasks (length ts)) x)) (sym (home_is s entries w t r.home f h)) ∙ e)) (r.among q has);
    }

had_run : (s : Scene) (entries : List JournalEntry) (w : ℕ) (tasks : ℕ → Task) (ts : List Try) (answers : List Tried) (own : List JournalEntry) (q : ℕ) → Rises s.start → AllByRecursion (λ t. t.won ≡ true → Fitting s entries w t) ts → OwnRun tasks s.round w ts answers own → has_won ts q ≡ true
    → HadIn s entries tasks (marks_of ts) q
had_run s entries w tasks [] answers own q rises fits run has = absurd (true≢false (sym has))
had_run s entries w tasks (t ∷ ts) answers own q rises fits run has =
    ⊎_elim (λ (h : (t.won && has_item t.note q) ≡ true). let b = and_parts t.won (has_item t.note q) h in had_now s entries w tasks t ts run.was own run.last q rises b.0 (fits.0 b.0) run.one b.1)
    (λ (h : has_won ts q ≡ true). had_later s entries tasks (marks_of ts) (mark_of t) q (had_run s entries w tasks ts run.earlier run.was q rises fits.1 run.before h))
    (or_cases (t.won && has_item t.note q) (has_won ts q) has)

-- a place that a won note of the worker has
pub had : (s : Scene) (entries : List JournalEntry) (w : ℕ) (tasks : ℕ → Task) (tries : List Try) (answers : List Tried) (own : List JournalEntry) (q : ℕ) → Rises s.start → AllByRecursion (λ t. t.won ≡ true → Fitting s entries w t) tries → OwnAll tasks s.round w tries answers own → has_won tries q ≡ true
    → HadIn s entries tasks (marks_of tries) q
had s entries w tasks tries answers own q rises fits (inl run) has = had_run s entries w tasks tries answers own q rises fits run has
had s entries w tasks tries answers own q rises fits (inr stop) has = had_run s entries w tasks tries stop.earlier own q rises fits stop.before has
