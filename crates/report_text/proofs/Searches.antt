-- What the descents of a report say by themselves.
use Rattle.std.proofs.Common.{◌≡◌, ℕ, ◌+◌, ◌<◌, List, [], ◌∷◌, length, sym, ◌∙◌, ap, refl, subst, arith}
use Rattle.std.specs.List.{AllByRecursion}
use Rattle.complex_core.specs.Maps.{renamed, names_of, turned}
use Rattle.complex_core.specs.Complexes.{ComplexView}
use Rattle.flip_rules.specs.Boundaries.{IsBoundary}
use Rattle.flip_rules.specs.declared.flip.Flip.{Flip}
use Rattle.descent_laws.specs.Descents.{IsMinimal, IsDescent}
use Rattle.descent_laws.proofs.DescentRuns.{descent_descends, descent_is_one}
use Rattle.sphere_text.specs.Statements.{placed}
use Rattle.sphere_text.proofs.Cycles.{cycle_is_decided}
use Rattle.anneal_plan.specs.Numbers.{Numbers}
use Rattle.round_rules.specs.Rounds.{RoundView}
use Rattle.round_run.specs.Reports.{ReportView, ReportOk, Chain, IsElsewhere}
use Rattle.report_text.specs.Laws.{EndIsMinimal, CycleIsFound, DescentReportIsOne}

-- the same chain, where the places are told by the complex
pub chain_of : (k : ComplexView) (plan : Numbers) (r : ReportView) (ok : ReportOk k plan r) → Chain plan (length (names_of k.facets plan.room)) 0 (placed k plan.room) r.descents ok.lows r.rounds r.end
chain_of k plan r ok =
    let P : List (ℕ × ℕ) → Type 0 = λ ns. Chain plan (length ns) 0 (renamed k (turned ns)) r.descents ok.lows r.rounds r.end in
    subst P ok.names ok.chain

-- ---- the last descent

last_is_minimal : (plan : Numbers) (places n : ℕ) (k end : ComplexView) (ds : List (List Flip)) (lows : List ComplexView) (rs : List RoundView) → Chain plan places n k ds lows rs end → length ds ≡ length rs + 1 → IsMinimal end
last_is_minimal plan places n k end [] [] [] c e = absurd (omega (arith, e))
last_is_minimal plan places n k end [] [] (r ∷ rs) c e = absurd c
last_is_minimal plan places n k end [] (low ∷ lows) rs c e = absurd c
last_is_minimal plan places n k end (d ∷ ds) [] rs c e = absurd c
last_is_minimal plan places n k end (d ∷ ds) (low ∷ lows) [] c e = subst IsMinimal (sym c.1) (descent_descends k low d c.0).minimal
last_is_minimal plan places n k end (d ∷ ds) (low ∷ lows) (r ∷ rs) c e = last_is_minimal plan places (n + 1) c.0 end ds lows rs c.4 c.3

pub end_is_minimal : EndIsMinimal
end_is_minimal k plan r ok e = last_is_minimal plan (length (names_of k.facets plan.room)) 0 (placed k plan.room) r.end r.descents ok.lows r.rounds (chain_of k plan r ok) e

-- ---- the first descent

-- where each descent from the start ends in a boundary, not all ends are elsewhere
first_ends : (plan : Numbers) (places n : ℕ) (k end : ComplexView) (ds : List (List Flip)) (lows : List ComplexView) (rs : List RoundView) → ((flips : List Flip) (low : ComplexView) → IsDescent k flips low → IsBoundary low) → 0 < length ds → Chain plan places n k ds lows rs end → AllByRecursion IsElsewhere lows → ⊥
first_ends plan places n k end [] lows rs ends some c none = omega (arith, some)
first_ends plan places n k end (d ∷ ds) [] rs ends some c none = c
first_ends plan places n k end (d ∷ ds) (low ∷ lows) [] ends some c none = none.0 (ends d low c.0)
first_ends plan places n k end (d ∷ ds) (low ∷ lows) (r ∷ rs) ends some c none = none.0 (ends d low c.1)

pub cycle_is_found : CycleIsFound
cycle_is_found k plan r cycle u =
    let some : 0 < length r.descents = omega (arith, u.spent.descents) in
    first_ends plan (length (names_of k.facets plan.room)) 0 (placed k plan.room) r.end r.descents u.ok.lows r.rounds ((cycle_is_decided k cycle).ends plan.room) some (chain_of k plan r u.ok) u.none

-- ---- one descent alone

record IsAlone (k : ComplexView) (ds : List (List Flip)) (rs : List RoundView) (end : ComplexView) : Type 0 where
  flips : List Flip
  descents : ds ≡ flips ∷ []
  rounds : rs ≡ []
  descent : IsDescent k flips end

alone : (plan : Numbers) (places n : ℕ) (k end : ComplexView) (ds : List (List Flip)) (lows : List ComplexView) (rs : List RoundView) → length rs ≡ 0 → length ds ≡ 1 → Chain plan places n k ds lows rs end → IsAlone k ds rs end
alone plan places n k end [] lows rs none one c = absurd (omega (arith, one))
alone plan places n k end (d ∷ ds) [] rs none one c = absurd c
alone plan places n k end (d ∷ ds) (low ∷ lows) [] none one c = record { flips = d; descents = ap (λ es. d ∷ es) c.2; rounds = refl; descent = subst (λ (l : ComplexView). IsDescent k d l) (sym c.1) c.0 }
alone plan places n k end (d ∷ ds) (low ∷ lows) (r ∷ rs) none one c = absurd (omega (arith, none))

pub descent_report_is_one : DescentReportIsOne
descent_report_is_one k plan r s none ok also one once =
    let m : List (ℕ × ℕ) = names_of k.facets plan.room in
    let a : IsAlone (placed k plan.room) r.descents r.rounds r.end = alone plan (length m) 0 (placed k plan.room) r.end r.descents ok.lows r.rounds (omega (arith, none, ok.few)) one (chain_of k plan r ok) in
    let b : IsAlone (placed k plan.room) s.descents s.rounds s.end = alone plan (length m) 0 (placed k plan.room) s.end s.descents also.lows s.rounds (omega (arith, none, also.few)) once (chain_of k plan s also) in
    let same : (a.flips ≡ b.flips) × (r.end ≡ s.end) = descent_is_one (placed k plan.room) r.end s.end a.flips b.flips a.descent b.descent in
    let input : r.input ≡ s.input = ok.input ∙ sym also.input in
    let names : r.names ≡ s.names = ok.names ∙ sym also.names in
    let descents : r.descents ≡ s.descents = a.descents ∙ ap (λ d. d ∷ []) same.0 ∙ sym b.descents in
    let rounds : r.rounds ≡ s.rounds = a.rounds ∙ sym b.rounds in
    λ i. record { input = input i; names = names i; descents = descents i; rounds = rounds i; end = same.1 i }
