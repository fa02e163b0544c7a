-- The flips of a search that reached the boundary of a simplex, told in the labels of its complex, show that it is a sphere.
use Rattle.std.proofs.Common.{◌≡◌, ℕ, ◌+◌, ◌*◌, ◌≤◌, true, List, [], ◌∷◌, length, sym, ◌∙◌, subst, arith}
use Rattle.std.specs.List.{AllByRecursion}
use Rattle.std.specs.Cmp.{first_so, second_so}
use Rattle.std.proofs.Math.Nat.{mul_assoc, mul_comm}
use Rattle.std.proofs.lemmas.List.{length-map}
use Rattle.std.proofs.lemmas.Nat.{mul-le}
use Rattle.complex_core.specs.Complexes.{ComplexView, IsComplex}
use Rattle.complex_core.specs.Maps.{IsMap, names_of, used, greatest}
use Rattle.flip_rules.specs.Boundaries.{IsBoundary}
use Rattle.flip_rules.specs.Certificates.{SphereCert}
use Rattle.flip_rules.specs.Flips.{OfFaces}
use Rattle.flip_rules.specs.Journals.{flat}
use Rattle.flip_rules.specs.declared.flip.Flip.{Flip}
use Rattle.flip_names.specs.Laws.{RenamesAll}
use Rattle.flip_names.specs.Names.{named_flip, named_flips, takes_flip, takes_flips}
use Rattle.flip_names.proofs.Faces.{sizes_are_kept}
use Rattle.flip_names.proofs.Replays.{certificate_is_kept}
use Rattle.sphere_text.specs.Statements.{placed}
use Rattle.sphere_text.proofs.Grounds.{Ground, ground}
use Rattle.sphere_text.proofs.Shown.{placed_length}
use Rattle.anneal_plan.specs.Numbers.{Numbers, KeepsLimits, all_tries}
use Rattle.round_rules.specs.Rounds.{RoundView}
use Rattle.round_run.specs.Reports.{ReportView, Chain, IsSphere, history, history_from}
use Rattle.report_text.proofs.Chains.{Leads, Runs, chain_runs}
use Rattle.report_text.proofs.Places.{names_take_places}
use Rattle.report_text.proofs.Searches.{chain_of}
use Rattle.sphere_search.specs.Searches.{ShowsSphere}
use Rattle.link_search.proofs.Labels.{told_at_most}

-- the tries of so many rounds
few_tries : (plan : Numbers) (rounds : ℕ) → KeepsLimits plan → rounds ≤ plan.rounds → plan.workers * plan.tries * rounds ≤ 250000
few_tries plan rounds limits few =
    let each : ℕ = plan.workers * plan.tries in
    let all : each * rounds ≤ each * plan.rounds = mul-le each rounds each plan.rounds (omega arith) few in
    let same : each * plan.rounds ≡ all_tries plan = mul_comm each plan.rounds ∙ sym (mul_assoc plan.rounds plan.workers plan.tries) in
    omega (arith, all, same, limits.product)

-- under a map that takes their labels, the sides of flips stay faces
named_of_faces : (m : List (ℕ × ℕ)) (flips : List Flip) → IsMap m → AllByRecursion OfFaces flips → takes_flips m flips ≡ true → AllByRecursion OfFaces (named_flips m flips)
named_of_faces m [] i h t = tt
named_of_faces m (f ∷ flips) i h t = (
  (sizes_are_kept m f i h.0 (first_so (takes_flip m f) (takes_flips m flips) t)).faces,
  named_of_faces m flips i h.1 (second_so (takes_flip m f) (takes_flips m flips) t),
)

-- the flips of these descents and rounds
parts_show : (k : ComplexView) (plan : Numbers) (ds : List (List Flip)) (lows : List ComplexView) (rs : List RoundView) (end : ComplexView) → IsComplex k → KeepsLimits plan → length rs ≤ plan.rounds → Chain plan (length (names_of k.facets plan.room)) 0 (placed k plan.room) ds lows rs end → IsBoundary end
    → ShowsSphere k (named_flips (names_of k.facets plan.room) (flat (history_from 0 ds rs)))
parts_show k plan ds lows rs end complex limits few c boundary =
    let m : List (ℕ × ℕ) = names_of k.facets plan.room in
    let start : ComplexView = placed k plan.room in
    let flips : List Flip = flat (history_from 0 ds rs) in
    let g : Ground k m = ground k plan.room complex in
    let runs : Runs m plan start flips (length rs) end = chain_runs m plan 0 start end ds lows rs (names_take_places k plan.room) g.here c in
    let l : Leads m start flips end = runs.leads in
    let all : RenamesAll m start flips = record { complex = g.here; faces = l.faces; taken = l.taken } in
    let P : ComplexView → Type 0 = λ s. SphereCert s (named_flips m flips) in
    record {
      faces = named_of_faces m flips g.here.is_map l.faces l.taken;
      leads = subst P g.back ((certificate_is_kept m start flips all).0 (record { end = end; replays = l.replays; boundary = boundary }));
      few = omega (arith, runs.few, few_tries plan (length rs) limits few, placed_length k plan.room, length-map flips (named_flip m));
      labels = told_at_most (greatest (used k.facets) + 1024) plan.room k flips (omega (arith, limits.room.1));
    }

pub sphere_shows : (k : ComplexView) (plan : Numbers) (r : ReportView) (flips : List Flip) → IsComplex k → KeepsLimits plan → IsSphere k plan r → flips ≡ named_flips r.names (flat (history r)) → ShowsSphere k flips
sphere_shows k plan r flips complex limits s e =
    let P : List (ℕ × ℕ) → Type 0 = λ ns. ShowsSphere k (named_flips ns (flat (history r))) in
    let shows : P r.names = subst P (sym s.ok.names) (parts_show k plan r.descents s.ok.lows r.rounds r.end complex limits s.ok.few (chain_of k plan r s.ok) s.boundary) in
    subst (ShowsSphere k) (sym e) shows
