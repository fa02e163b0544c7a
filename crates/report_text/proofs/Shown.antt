-- What a report shows of the complex that was given.
use Rattle.std.proofs.Common.{◌≡◌, ℕ, ◌*◌, ◌≤◌, List, length, sym, ◌∙◌, subst, arith}
use Rattle.std.proofs.Math.Nat.{mul_assoc, mul_comm}
use Rattle.std.proofs.lemmas.List.{length-map}
use Rattle.std.proofs.lemmas.Nat.{mul-le}
use Rattle.complex_core.specs.Maps.{names_of}
use Rattle.complex_core.specs.Complexes.{ComplexView}
use Rattle.facet_text.specs.Writing.{KeepsLimits as KeepsTextLimits}
use Rattle.flip_rules.specs.Certificates.{SphereCert}
use Rattle.flip_rules.specs.Journals.{flat}
use Rattle.flip_rules.specs.declared.flip.Flip.{Flip}
use Rattle.flip_names.specs.Laws.{RenamesAll}
use Rattle.flip_names.specs.Names.{named_flip, named_flips}
use Rattle.flip_names.proofs.Replays.{certificate_is_kept}
use Rattle.sphere_text.specs.Statements.{placed}
use Rattle.sphere_text.proofs.Fits.{names_are_small}
use Rattle.sphere_text.proofs.Grounds.{Ground, ground}
use Rattle.anneal_plan.specs.Numbers.{Numbers, KeepsLimits, all_tries}
use Rattle.round_rules.specs.Rounds.{RoundView}
use Rattle.round_run.specs.Reports.{Chain, history_from}
use Rattle.report_text.specs.Laws.{ReportIsShown}
use Rattle.report_text.specs.Shown.{IsReported}
use Rattle.report_text.proofs.Chains.{Leads, Runs, chain_runs}
use Rattle.report_text.proofs.Fits.{legal_flips_fit}
use Rattle.report_text.proofs.Places.{names_take_places}
use Rattle.report_text.proofs.Searches.{chain_of}
use Rattle.sphere_text.proofs.Shown.{placed_length}

-- the tries of so many rounds
few_tries : (plan : Numbers) (rounds : ℕ) → KeepsLimits plan → rounds ≤ plan.rounds → plan.workers * plan.tries * rounds ≤ 250000
few_tries plan rounds limits few =
    let each : ℕ = plan.workers * plan.tries in
    let all : each * rounds ≤ each * plan.rounds = mul-le each rounds each plan.rounds (omega arith) few in
    let same : each * plan.rounds ≡ all_tries plan = mul_comm each plan.rounds ∙ sym (mul_assoc plan.rounds plan.workers plan.tries) in
    omega (arith, all, same, limits.product)

-- the report with these parts, where its names are those of the complex
reported : (k : ComplexView) (plan : Numbers) (input : ComplexView) (ds : List (List Flip)) (lows : List ComplexView) (rs : List RoundView) (end : ComplexView) → KeepsTextLimits k → KeepsLimits plan → length rs ≤ plan.rounds → Chain plan (length (names_of k.facets plan.room)) 0 (placed k plan.room) ds lows rs end
    → IsReported k plan (record { input = input; names = names_of k.facets plan.room; descents = ds; rounds = rs; end = end })
reported k plan input ds lows rs end small limits few c =
    let m : List (ℕ × ℕ) = names_of k.facets plan.room in
    let start : ComplexView = placed k plan.room in
    let flips : List Flip = flat (history_from 0 ds rs) in
    let g : Ground k m = ground k plan.room small.complex in
    let runs : Runs m plan start flips (length rs) end = chain_runs m plan 0 start end ds lows rs (names_take_places k plan.room) g.here c in
    let l : Leads m start flips end = runs.leads in
    let most : length flips ≤ 2520000 = omega (arith, runs.few, few_tries plan (length rs) limits few, placed_length k plan.room, small.few_facets) in
    let all : RenamesAll m start flips = record { complex = g.here; faces = l.faces; taken = l.taken } in
    let P : ComplexView → Type 0 = λ s. SphereCert s (named_flips m flips) in
    record {
      start = g.back;
      replays = l.replays;
      faces = l.faces;
      taken = l.taken;
      few = most;
      fit = record {
        few = omega (arith, most, length-map flips (named_flip m));
        sides = legal_flips_fit m start end flips g.here.is_map (names_are_small k plan.room small limits.room.1) small.complex.low l.faces l.replays l.taken;
      };
      certificate = λ b. subst P g.back ((certificate_is_kept m start flips all).0 (record { end = end; replays = l.replays; boundary = b }));
    }

pub report_is_shown : ReportIsShown
report_is_shown k plan r small limits ok =
    let P : List (ℕ × ℕ) → Type 0 = λ ns. IsReported k plan (record { input = r.input; names = ns; descents = r.descents; rounds = r.rounds; end = r.end }) in
    subst P (sym ok.names) (reported k plan r.input r.descents ok.lows r.rounds r.end small limits ok.few (chain_of k plan r ok))
