-- What a report tells in the labels of its complex.
use Rattle.std.proofs.Common.{◌≡◌, ℕ, List, length, Some, sym, ◌∙◌, refl, subst}
use Rattle.complex_core.specs.Complexes.{ComplexView, IsComplex}
use Rattle.complex_core.specs.Maps.{names_of, renamed}
use Rattle.flip_rules.specs.Flips.{replay}
use Rattle.flip_rules.specs.Journals.{flat}
use Rattle.flip_rules.specs.declared.flip.Flip.{Flip}
use Rattle.flip_names.specs.Laws.{Renames, RenamesAll}
use Rattle.flip_names.specs.Names.{named_flips}
use Rattle.flip_names.proofs.Back.{named_are_faces}
use Rattle.flip_names.proofs.Faces.{renamed_is_complex}
use Rattle.flip_names.proofs.Replays.{leads_there, replay_stays_taken}
use Rattle.flip_laws.specs.Keeping.{Keeps}
use Rattle.flip_laws.proofs.Replays.{replay_keeps}
use Rattle.facet_iso.specs.Isomorphisms.{IsFit, NoMap}
use Rattle.facet_iso.proofs.Counted.{same_number}
use Rattle.anneal_plan.specs.Numbers.{Numbers}
use Rattle.round_rules.specs.Rounds.{RoundView}
use Rattle.round_run.specs.Reports.{Chain, ReportView, ReportOk, history_from}
use Rattle.sphere_text.specs.Statements.{placed}
use Rattle.sphere_text.proofs.Grounds.{Ground, ground}
use Rattle.report_text.proofs.Chains.{Leads, chain_runs}
use Rattle.report_text.proofs.Places.{names_take_places}
use Rattle.report_text.proofs.Searches.{chain_of}
use Rattle.equal_text.specs.Lists.{told_end}
use Rattle.equal_search.specs.Pairs.{CanCompare}

-- a fit complex stays fit
fit_there : (k l : ComplexView) → Keeps k l → IsFit k → IsFit l
fit_there k l e f = record { strong = e.strong.0 f.strong; thin = e.thin.0 f.thin }

-- the report with these parts, where its names are those of the complex
told_parts : (k : ComplexView) (plan : Numbers) (ds : List (List Flip)) (lows : List ComplexView) (rs : List RoundView) (end : ComplexView) → IsComplex k → IsFit k → Chain plan (length (names_of k.facets plan.room)) 0 (placed k plan.room) ds lows rs end
    → CanCompare (record { input = k; names = names_of k.facets plan.room; descents = ds; rounds = rs; end = end })
told_parts k plan ds lows rs end complex fit c =
    let m : List (ℕ × ℕ) = names_of k.facets plan.room in
    let start : ComplexView = placed k plan.room in
    let flips : List Flip = flat (history_from 0 ds rs) in
    let g : Ground k m = ground k plan.room complex in
    let l : Leads m start flips end = (chain_runs m plan 0 start end ds lows rs (names_take_places k plan.room) g.here c).leads in
    let all : RenamesAll m start flips = record { complex = g.here; faces = l.faces; taken = l.taken } in
    let there : Renames m end = replay_stays_taken m start end flips all l.replays in
    let P : ComplexView → Type 0 = λ s. replay s (named_flips m flips) ≡ Some (renamed end m) in
    let replays : replay k (named_flips m flips) ≡ Some (renamed end m) = subst P g.back (leads_there m start end flips all l.replays) in
    let faces = named_are_faces m flips g.here.is_map l.faces l.taken in
    record {
      complex = complex;
      faces = faces;
      replays = replays;
      named = there;
      fit = fit_there k (renamed end m) (replay_keeps k (renamed end m) (named_flips m flips) complex faces replays).1 fit;
    }

pub can_compare : (k : ComplexView) (plan : Numbers) (r : ReportView) → IsComplex k → IsFit k → ReportOk k plan r → CanCompare r
can_compare k plan r complex fit ok =
    let P : List (ℕ × ℕ) → Type 0 = λ ns. CanCompare (record { input = k; names = ns; descents = r.descents; rounds = r.rounds; end = r.end }) in
    let Q : ComplexView → Type 0 = λ i. CanCompare (record { input = i; names = r.names; descents = r.descents; rounds = r.rounds; end = r.end }) in
    subst Q (sym ok.input) (subst P (sym ok.names) (told_parts k plan r.descents ok.lows r.rounds r.end complex fit (chain_of k plan r ok)))

-- a complex and its image have as many facets
as_many : (r : ReportView) → CanCompare r → length r.end.facets ≡ length (told_end r).facets
as_many r h = same_number r.end (told_end r) h.named.complex r.names (record { is_map = h.named.is_map; all = h.named.taken; image = refl })

-- so no map takes the one end to the other where their numbers of facets differ
pub other_numbers : (r s : ReportView) → CanCompare r → CanCompare s → (length r.end.facets ≡ length s.end.facets → ⊥) → NoMap (told_end r) (told_end s)
other_numbers r s h g n m t = n (as_many r h ∙ same_number (told_end r) (told_end s) (renamed_is_complex r.names r.end h.named) m t ∙ sym (as_many s g))
