-- Descents and rounds one after another: their flips are legal in order, and how many they are.
use Rattle.std.proofs.Common.{◌≡◌, ℕ, ◌+◌, ◌*◌, ◌≤◌, suc, true, List, [], ◌∷◌, ◌++◌, length, Some, sym, ◌∙◌, ap, refl, subst, length-append, arith}
use Rattle.std.specs.List.{AllByRecursion}
use Rattle.std.specs.Cmp.Derive.{both_true}
use Rattle.std.proofs.Math.Nat.{mul-suc}
use Rattle.std.proofs.lemmas.List.{append-nil}
use Rattle.std.proofs.lemmas.List.Folds.{list_all-append}
use Rattle.std.proofs.lemmas.Nat.{mul-le}
use Rattle.complex_core.specs.Complexes.{ComplexView, IsComplex}
use Rattle.complex_core.proofs.Sorting.{each_append}
use Rattle.flip_rules.specs.Entries.{JournalEntry}
use Rattle.flip_rules.specs.Flips.{OfFaces, replay}
use Rattle.flip_rules.specs.Journals.{flat}
use Rattle.flip_rules.specs.declared.flip.Flip.{Flip}
use Rattle.flip_rules.proofs.Journals.{flat-append}
use Rattle.flip_rules.proofs.Replays.{replay-append}
use Rattle.flip_names.specs.Laws.{Renames}
use Rattle.flip_names.specs.Names.{takes_flip, takes_flips}
use Rattle.flip_names.proofs.Replays.{replay_stays_taken}
use Rattle.flip_names.proofs.Staying.{reducing_flips_taken}
use Rattle.descent_laws.specs.Descents.{IsDescent}
use Rattle.descent_laws.specs.Laws.{Descends}
use Rattle.descent_laws.proofs.DescentRuns.{descent_descends}
use Rattle.sphere_text.proofs.Shown.{all_reduce}
use Rattle.anneal_plan.specs.Numbers.{Numbers}
use Rattle.board_rule.specs.Rule.{IsEntry}
use Rattle.round_rules.specs.Rounds.{RoundView, RoundOk}
use Rattle.round_rules.proofs.Counting.{round_grows}
use Rattle.round_rules.proofs.Ending.{faces_in}
use Rattle.round_run.specs.Reports.{Chain, scene, descent_entries, history_from}
use Rattle.report_text.proofs.Places.{TakesPlaces, entries_taken}
use Rattle.round_run.proofs.Histories.{flat_descent}

-- ---- flips that are legal in order, with names

-- flips of faces, legal in order, with this end, and the map takes all of their labels
pub record Leads (m : List (ℕ × ℕ)) (k : ComplexView) (flips : List Flip) (end : ComplexView) : Type 0 where
  pub replays : replay k flips ≡ Some end
  pub faces : AllByRecursion OfFaces flips
  pub taken : takes_flips m flips ≡ true

leads_on : (m : List (ℕ × ℕ)) (k l end : ComplexView) (fs gs : List Flip) → Leads m k fs l → Leads m l gs end → Leads m k (fs ++ gs) end
leads_on m k l end fs gs h g = record {
  replays = replay-append k l fs gs h.replays ∙ g.replays;
  faces = each_append OfFaces fs gs h.faces g.faces;
  taken = list_all-append (takes_flip m) fs gs ∙ both_true h.taken g.taken;
}

end_is_named : (m : List (ℕ × ℕ)) (k l : ComplexView) (flips : List Flip) → Renames m k → Leads m k flips l → Renames m l
end_is_named m k l flips r h = replay_stays_taken m k l flips (record { complex = r; faces = h.faces; taken = h.taken }) h.replays

descent_leads : (m : List (ℕ × ℕ)) (k low : ComplexView) (d : List Flip) → Renames m k → IsDescent k d low → Leads m k d low
descent_leads m k low d r h =
    let s : Descends k d low = descent_descends k low d h in
    record { replays = s.replays; faces = s.faces; taken = reducing_flips_taken m k low d r.taken s.faces (all_reduce k low d h) s.replays }

round_leads : (m : List (ℕ × ℕ)) (plan : Numbers) (n : ℕ) (low next : ComplexView) (r : RoundView) → TakesPlaces m → RoundOk (scene low (length m) n plan) r next → Leads m low (flat r.entries) next
round_leads m plan n low next r d h = record {
  replays = h.replays;
  faces = faces_in n (length m) (plan.workers + 1) r.entries h.entries;
  taken = entries_taken m n (plan.workers + 1) r.entries d h.entries;
}

-- ---- how many flips

few_in_entries : (round places seats : ℕ) (es : List JournalEntry) → AllByRecursion (IsEntry round places seats) es → length (flat es) ≤ 4 * length es
few_in_entries round places seats [] h = omega arith
few_in_entries round places seats (e ∷ es) h = omega (arith, h.0.few, few_in_entries round places seats es h.1, length-append e.flips (flat es))

-- each flip of a descent takes a facet off at least, and a round has at most `most` entries, each with at most four flips and six more facets
few_in_round : (m : List (ℕ × ℕ)) (plan : Numbers) (n : ℕ) (low next : ComplexView) (r : RoundView) → IsComplex low → RoundOk (scene low (length m) n plan) r next → length (flat r.entries) + length next.facets ≤ length low.facets + 10 * (plan.workers * plan.tries)
few_in_round m plan n low next r c h =
    let grown = round_grows (scene low (length m) n plan) r next c h in
    let more : low.dim * length r.entries ≤ 6 * length r.entries = mul-le low.dim (length r.entries) 6 (length r.entries) c.low (omega arith) in
    let flips = few_in_entries n (length m) (plan.workers + 1) r.entries h.entries in
    let entries = h.few in
    omega (arith, grown, more, flips, entries)

-- ---- the flips of a history

flat_last : (n : ℕ) (d : List Flip) → flat (history_from n (d ∷ []) []) ≡ d
flat_last n d = ap flat (append-nil (descent_entries n 0 d)) ∙ flat_descent n 0 d

flat_turn : (n : ℕ) (d : List Flip) (ds : List (List Flip)) (r : RoundView) (rs : List RoundView) → flat (history_from n (d ∷ ds) (r ∷ rs)) ≡ d ++ (flat r.entries ++ flat (history_from (n + 1) ds rs))
flat_turn n d ds r rs =
    let rest : List JournalEntry = history_from (n + 1) ds rs in
    flat-append (descent_entries n 0 d) (r.entries ++ rest) ∙ (λ i. flat_descent n 0 d i ++ flat-append r.entries rest i)

-- ---- the whole chain

-- the flips lead to the end, and with its facets they are no more than the facets at the start and ten for each try of these rounds
pub record Runs (m : List (ℕ × ℕ)) (plan : Numbers) (k : ComplexView) (flips : List Flip) (rounds : ℕ) (end : ComplexView) : Type 0 where
  pub leads : Leads m k flips end
  pub few : length flips + length end.facets ≤ length k.facets + 10 * (plan.workers * plan.tries * rounds)

runs_none : (m : List (ℕ × ℕ)) (plan : Numbers) (k end : ComplexView) → end ≡ k → Runs m plan k [] 0 end
runs_none m plan k end e = record {
  leads = record { replays = ap Some (sym e); faces = tt; taken = refl };
  few = omega (arith, ap (λ (l : ComplexView). length l.facets) e);
}

runs_last : (m : List (ℕ × ℕ)) (plan : Numbers) (k end : ComplexView) (d : List Flip) → Renames m k → IsDescent k d end → Runs m plan k d 0 end
runs_last m plan k end d r h = record { leads = descent_leads m k end d r h; few = omega (arith, (descent_descends k end d h).falls) }

runs_turn : (m : List (ℕ × ℕ)) (plan : Numbers) (n : ℕ) (k low next end : ComplexView) (d : List Flip) (r : RoundView) (flips : List Flip) (rounds : ℕ) → TakesPlaces m → Renames m k → IsDescent k d low → RoundOk (scene low (length m) n plan) r next → (Renames m next → Runs m plan next flips rounds end) → Runs m plan k (d ++ (flat r.entries ++ flips)) (suc rounds) end
runs_turn m plan n k low next end d r flips rounds places named h ok rest =
    let down : Leads m k d low = descent_leads m k low d named h in
    let across : Leads m low (flat r.entries) next = round_leads m plan n low next r places ok in
    let named_low : Renames m low = end_is_named m k low d named down in
    let on : Runs m plan next flips rounds end = rest (end_is_named m low next (flat r.entries) named_low across) in
    let falls = (descent_descends k low d h).falls in
    let grows = few_in_round m plan n low next r named_low.complex ok in
    let few = on.few in
    let whole = length-append d (flat r.entries ++ flips) in
    let later = length-append (flat r.entries) flips in
    let product = mul-suc (plan.workers * plan.tries) rounds in
    record {
      leads = leads_on m k low end d (flat r.entries ++ flips) down (leads_on m low next end (flat r.entries) flips across on.leads);
      few = omega (arith, falls, grows, few, whole, later, product);
    }

pub chain_runs : (m : List (ℕ × ℕ)) (plan : Numbers) (n : ℕ) (k end : ComplexView) (ds : List (List Flip)) (lows : List ComplexView) (rs : List RoundView) → TakesPlaces m → Renames m k → Chain plan (length m) n k ds lows rs end → Runs m plan k (flat (history_from n ds rs)) (length rs) end
chain_runs m plan n k end [] [] [] places named c = runs_none m plan k end c
chain_runs m plan n k end [] [] (r ∷ rs) places named c = absurd c
chain_runs m plan n k end [] (low ∷ lows) rs places named c = absurd c
chain_runs m plan n k end (d ∷ ds) [] rs places named c = absurd c
chain_runs m plan n k end (d ∷ ds) (low ∷ lows) [] places named c =
    let P : List Flip → Type 0 = λ fs. Runs m plan k fs 0 end in
    let here : IsDescent k d end = subst (λ (l : ComplexView). IsDescent k d l) (sym c.1) c.0 in
    subst P (sym (ap (λ es. flat (history_from n (d ∷ es) [])) c.2 ∙ flat_last n d)) (runs_last m plan k end d named here)
chain_runs m plan n k end (d ∷ ds) (low ∷ lows) (r ∷ rs) places named c =
    let P : List Flip → Type 0 = λ fs. Runs m plan k fs (length (r ∷ rs)) end in
    subst P (sym (flat_turn n d ds r rs)) (runs_turn m plan n k low c.0 end d r (flat (history_from (n + 1) ds rs)) (length rs) places named c.1 c.2 (λ next. chain_runs m plan (n + 1) c.0 end ds lows rs places next c.4))
