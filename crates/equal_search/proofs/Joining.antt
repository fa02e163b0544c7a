-- The flips of two reports as one list.
use Rattle.std.proofs.Common.{◌≡◌, ℕ, true, List, ◌++◌, Some, sym, ◌∙◌, ap, subst}
use Rattle.std.specs.List.{list_all}
use Rattle.complex_core.specs.Complexes.{ComplexView}
use Rattle.complex_core.specs.Maps.{renamed, takes, takes_all}
use Rattle.complex_core.proofs.Laws.{each_has, each_listed}
use Rattle.complex_core.proofs.SetLists.{used_label}
use Rattle.flip_rules.specs.Flips.{replay}
use Rattle.flip_rules.specs.declared.flip.Flip.{Flip}
use Rattle.flip_rules.proofs.Replays.{replays_back}
use Rattle.facet_iso.specs.Isomorphisms.{IsLeastMap}
use Rattle.flip_journal.specs.Carried.{IsLegalList, NamesLabels, carried_over, map_at_end}
use Rattle.flip_journal.specs.Laws.{JoinsTo}
use Rattle.flip_journal.proofs.Leading.{carried_joins, labels_named}
use Rattle.cert_replay.specs.Answers.{EqualCert}
use Rattle.round_run.specs.Reports.{ReportView}
use Rattle.report_text.specs.Shown.{told_flips}
use Rattle.equal_text.specs.Lists.{told_end, way_back}
use Rattle.equal_search.specs.Comparing.{AreJoined}
use Rattle.equal_search.specs.Pairs.{CanCompare}

-- the flips of a report lead back to its complex, also from the image of another end
legal_back : (r s : ReportView) (between : List (ℕ × ℕ)) → CanCompare s → IsLeastMap (told_end r) (told_end s) between → IsLegalList (renamed (told_end r) between) (way_back s)
legal_back r s between h least = (s.input, subst (λ (k : ComplexView). replay k (way_back s) ≡ Some s.input) (sym least.takes.image) (replays_back s.input (told_end s) (told_flips s) h.complex h.faces h.replays))

-- also where the end and the flips are known by equations
pub legal_there : (r s : ReportView) (between : List (ℕ × ℕ)) (from : ComplexView) (back : List Flip) → from ≡ told_end r → back ≡ way_back s → CanCompare s → IsLeastMap (told_end r) (told_end s) between → IsLegalList (renamed from between) back
legal_there r s between from back e f h least = subst (λ (k : ComplexView). IsLegalList (renamed k between) back) (sym e) (subst (IsLegalList (renamed (told_end r) between)) (sym f) (legal_back r s between h least))

-- a map of exactly the labels of a complex takes all of them
takes_own : (m : List (ℕ × ℕ)) (k : ComplexView) → NamesLabels m k → takes_all m k.facets ≡ true
takes_own m k h = each_listed (λ f. list_all (takes m) f) k.facets (λ f t. each_has (takes m) f (λ x u. labels_named m k h x ∙ used_label k.facets f x t u))

-- carried over the map, they make one list
certified : (r s : ReportView) (between : List (ℕ × ℕ)) → CanCompare r → CanCompare s → IsLeastMap (told_end r) (told_end s) between → EqualCert r.input (told_flips r ++ carried_over between (way_back s)) (map_at_end between (way_back s)) s.input
certified r s between h g least =
    let pairs : List (ℕ × ℕ) = map_at_end between (way_back s) in
    let j : JoinsTo r.input s.input (told_flips r ++ carried_over between (way_back s)) pairs =
    carried_joins r.input s.input (told_end r) (told_end s) between (told_flips r) (told_flips s) h.complex g.complex h.faces g.faces h.replays g.replays least.takes.is_map least.labels least.takes.image in
    record { end = j.there; replays = j.replays; reaches = record { taken = takes_own pairs j.there j.labels; image = j.image } }

pub joined : (r s : ReportView) (between : List (ℕ × ℕ)) (back out flips : List Flip) (pairs : List (ℕ × ℕ)) → CanCompare r → CanCompare s → IsLeastMap (told_end r) (told_end s) between → back ≡ way_back s → out ≡ carried_over between back → pairs ≡ map_at_end between back → flips ≡ told_flips r ++ out → AreJoined r s between flips pairs
joined r s between back out flips pairs h g least e f m l =
    let flips_are : flips ≡ told_flips r ++ carried_over between (way_back s) = l ∙ ap (λ xs. told_flips r ++ xs) (f ∙ ap (carried_over between) e) in
    let pairs_are : pairs ≡ map_at_end between (way_back s) = m ∙ ap (map_at_end between) e in
    let P : List Flip → List (ℕ × ℕ) → Type 0 = λ fs ps. EqualCert r.input fs ps s.input in
    record {
      flips_are = flips_are;
      pairs_are = pairs_are;
      certificate = subst (λ (fs : List Flip). P fs pairs) (sym flips_are) (subst (P (told_flips r ++ carried_over between (way_back s))) (sym pairs_are) (certified r s between h g least));
    }
