-- The flips of two reports, joined over a map from the one end to the other, keep the limits of the text of a certificate.
use Rattle.std.proofs.Common.{◌≡◌, ℕ, ◌+◌, ◌≤◌, true, nat_eq, Ok, List, [], ◌∷◌, length, map, Some, sym, ◌∙◌, ap, refl, subst, arith, length-append}
use Rattle.std.specs.List.{AllByRecursion}
use Rattle.std.specs.Cmp.Derive.{both_true}
use Rattle.std.proofs.lemmas.Cmp.{nat_cmp_total}
use Rattle.std.proofs.lemmas.List.{length-map}
use Rattle.complex_core.specs.Complexes.{ComplexView, IsComplex}
use Rattle.complex_core.specs.Maps.{IsMap, ArePositive, pair_cmp, takes, turned}
use Rattle.complex_core.proofs.Laws.{nat_eq_same, or_left, or_right, same_labels}
use Rattle.complex_core.proofs.Members.{label_low}
use Rattle.complex_core.proofs.Pairs.{takes-rising, takes-turned}
use Rattle.complex_core.proofs.Sets.{each_rising, sorted_rising}
use Rattle.complex_core.proofs.Sorting.{each_append}
use Rattle.facet_text.specs.Writing.{KeepsLimits as KeepsTextLimits}
use Rattle.line_text.specs.Writing.{HasSides}
use Rattle.line_text.specs.declared.label.Labels.TheVariants.{UpTo}
use Rattle.cert_text.specs.Writing.{ArePairs, IsLabel}
use Rattle.flip_rules.specs.Flips.{OfFaces, broken_rule, flipped, replay}
use Rattle.flip_rules.specs.declared.flip.Flip.{Flip}
use Rattle.flip_rules.proofs.Legal.{legal}
use Rattle.flip_rules.proofs.Replays.{complex_replayed, first_flip, replay_legal, replays_back}
use Rattle.flip_names.specs.Names.{named_flip}
use Rattle.flip_names.specs.Laws.{Renames, RenamesAll, map_back}
use Rattle.flip_names.proofs.Back.{back_is_map, named_are_faces}
use Rattle.flip_names.proofs.Replays.{leads_there}
use Rattle.flip_journal.specs.Carried.{NamesLabels, carried, carried_over, given, names_after, names_at_end, names_for}
use Rattle.flip_journal.specs.Laws.{JoinsTo}
use Rattle.flip_journal.proofs.Carrying.{Names, carries, flip_taken, names_next}
use Rattle.flip_journal.proofs.Gaps.{has-given}
use Rattle.flip_journal.proofs.Kept.{firsts_rise, given_few, has-firsts}
use Rattle.flip_journal.proofs.Leading.{carried_joins, inverse_is_as_long, labels_named, names_labels, start_names, turned_names}
use Rattle.flip_journal.proofs.Naming.{Grown, grown}
use Rattle.sphere_text.specs.Statements.{placed}
use Rattle.sphere_text.proofs.Fits.{AreSmall, names_are_small}
use Rattle.sphere_text.proofs.Grounds.{ground}
use Rattle.anneal_plan.specs.Numbers.{Numbers, KeepsLimits}
use Rattle.round_run.specs.Reports.{ReportView, ReportOk}
use Rattle.report_text.specs.Shown.{IsReported, flips_of, told_flips}
use Rattle.report_text.proofs.Fits.{legal_flips_fit}
use Rattle.report_text.proofs.Shown.{report_is_shown}
use Rattle.equal_text.specs.Lists.{ListFits, joined, map_left, told_end, way_back}
use Rattle.equal_text.proofs.Small.{AreLow, IsSmall, all_low, each_inverse, left_low, named_small, turned_small, used_small}

abbrev FitSides : List Flip → Type 0
FitSides flips = AllByRecursion (HasSides (UpTo 65000)) flips

-- ---- a report

-- what a report tells in the labels of its complex
pub record Tells (k : ComplexView) (r : ReportView) : Type 0 where
  pub faces : AllByRecursion OfFaces (told_flips r)
  pub replays : replay k (told_flips r) ≡ Some (told_end r)
  pub small : AreSmall r.names
  pub few : length (told_flips r) ≤ 2520000
  pub sides : FitSides (told_flips r)

pub tells : (k : ComplexView) (plan : Numbers) (r : ReportView) → KeepsTextLimits k → KeepsLimits plan → ReportOk k plan r → Tells k r
tells k plan r small limits ok =
    let shown : IsReported k plan r = report_is_shown k plan r small limits ok in
    let named : Renames r.names (placed k plan.room) = subst (λ ns. Renames ns (placed k plan.room)) (sym ok.names) (ground k plan.room small.complex).here in
    let all : RenamesAll r.names (placed k plan.room) (flips_of r) = record { complex = named; faces = shown.faces; taken = shown.taken } in
    let P : ComplexView → Type 0 = λ s. replay s (told_flips r) ≡ Some (told_end r) in
    record {
      faces = named_are_faces r.names (flips_of r) named.is_map shown.faces shown.taken;
      replays = subst P shown.start (leads_there r.names (placed k plan.room) r.end (flips_of r) all shown.replays);
      small = subst AreSmall (sym ok.names) (names_are_small k plan.room small limits.room.1);
      few = omega (arith, shown.few, length-map (flips_of r) (named_flip r.names));
      sides = shown.fit.sides;
    }

-- ---- carried flips

carried_long : (names : List (ℕ × ℕ)) (flips : List Flip) → length (carried names flips) ≡ length flips
carried_long names [] = refl
carried_long names (f ∷ fs) = omega (arith, carried_long (names_after names f) fs)

-- the names are low at the end too, and the flips in the names keep the limits
record CarriesFit (names : List (ℕ × ℕ)) (flips : List Flip) : Type 0 where
  sides : FitSides (carried names flips)
  low : AreLow (names_at_end names flips)

one_fits : (names : List (ℕ × ℕ)) (k : ComplexView) (f : Flip) → k.dim ≤ 6 → Names names k → IsMap (names_for names f) → AreSmall (names_for names f) → OfFaces f → broken_rule k f.a f.b ≡ Ok tt → HasSides (UpTo 65000) (named_flip (names_for names f) f)
one_fits names k f d n h s faces e = (legal_flips_fit (names_for names f) k (flipped k f.a f.b) (f ∷ []) h s d (faces, tt) (replay_legal k f [] e) (both_true (flip_taken names k f n faces e) refl)).0

carries_fit : (names : List (ℕ × ℕ)) (k l : ComplexView) (flips : List Flip) → k.dim ≤ 6 → Names names k → AreLow names → AllByRecursion OfFaces flips → AllByRecursion IsSmall flips → replay k flips ≡ Some l → CarriesFit names flips
carries_fit names k l [] d n s faces small e = record { sides = tt; low = s }
carries_fit names k l (f ∷ fs) d n s faces small e =
    let p : (broken_rule k f.a f.b ≡ Ok tt) × (replay (flipped k f.a f.b) fs ≡ Some l) = first_flip k l f fs e in
    let more : Grown names (names_for names f) f.b = grown names f.b n.is_map (λ x t. label_low f.b x faces.0.second t) in
    let low : AreLow (names_for names f) = all_low names f.b n.is_map s (λ x t. (label_low f.b x faces.0.second t, small.0.1 x t)) in
    let next : Names (names_after names f) (flipped k f.a f.b) = names_next names k f n faces.0 p.0 in
    let rest : CarriesFit (names_after names f) fs = carries_fit (names_after names f) (flipped k f.a f.b) l fs d next (left_low (names_for names f) f.a more.is_map low) faces.1 small.1 p.1 in
    record { sides = (one_fits names k f d n more.is_map low.small faces.0 p.0, rest.sides); low = rest.low }

-- ---- the map back from names

turned_labels : (names : List (ℕ × ℕ)) → ArePositive names → AreSmall names → ((x : ℕ) → takes names x ≡ true → x ≤ 61024) → AllByRecursion (λ p. IsLabel p.0 × IsLabel p.1) (turned names)
turned_labels [] h s low = tt
turned_labels (p ∷ ps) h s low =
    let label : p.0 ≤ 61024 = low p.0 (or_left (nat_eq p.0 p.0) (takes ps p.0) (nat_eq_same p.0)) in
    (((omega (arith, h.0.1), omega (arith, s.0)), (omega (arith, h.0.0), omega (arith, label))), turned_labels ps h.1 s.1 (λ x t. low x (or_right (nat_eq p.0 x) (takes ps x) t)))

-- it has no more pairs than there are names
back_few : (names : List (ℕ × ℕ)) → IsMap names → length (map_back names) ≤ length names
back_few names h =
    let m : List (ℕ × ℕ) = map_back names in
    let i : IsMap m = back_is_map names h in
    let firsts : map (λ p. p.0) m ≡ given names =
    same_labels (map (λ p. p.0) m) (given names) (firsts_rise m i.differ i.rising) (sorted_rising nat_cmp_total (map (λ p. p.1) names)) (λ y. has-firsts m y ∙ takes-rising (turned names) y ∙ takes-turned names y ∙ sym (has-given names y)) in
    omega (arith, length-map m (λ p. p.0), ap length firsts, given_few names)

-- of the names of a complex within the limits of texts
back_fits : (names : List (ℕ × ℕ)) (l : ComplexView) → KeepsTextLimits l → Names names l → AreLow names → ArePairs (map_back names) × (length (map_back names) ≤ 4096)
back_fits names l limits n low =
    let few : length (map_back names) ≤ 4096 = omega (arith, back_few names n.is_map, ap length (names_labels names l n.is_map n.labels), length-map names (λ p. p.0), limits.few_labels) in (
      record {
        few = omega (arith, few);
        map = back_is_map names n.is_map;
        labels = each_rising pair_cmp (λ p. IsLabel p.0 × IsLabel p.1) (turned names) (turned_labels names n.is_map.positive low.small low.labels);
      },
      few,
    )

-- ---- the whole

-- a legal flip has at most eight labels
few_labels : (k end : ComplexView) (flips : List Flip) → k.dim ≤ 6 → replay k flips ≡ Some end → AllByRecursion (λ f. length f.a + length f.b ≤ 8) flips
few_labels k end [] d e = tt
few_labels k end (f ∷ fs) d e =
    let p : (broken_rule k f.a f.b ≡ Ok tt) × (replay (flipped k f.a f.b) fs ≡ Some end) = first_flip k end f fs e in
    (omega (arith, (legal k f.a f.b p.0).shape.sizes, d), few_labels (flipped k f.a f.b) end fs d p.1)

-- the map back from the end of the second report to the end of the first names the labels that are there, all small
start_low : (r s : ReportView) (between : List (ℕ × ℕ)) → AreSmall r.names → AreSmall s.names → NamesLabels between (told_end r) → Names (map_back between) (told_end s) → AreLow (map_back between)
start_low r s between a b labels n = record {
  labels = λ x t. used_small s.end s.names b x (sym (n.labels x) ∙ t);
  small = each_rising pair_cmp (λ p. p.1 ≤ 61024) (turned between) (turned_small between (λ x t. used_small r.end r.names a x (sym (labels_named between (told_end r) labels x) ∙ t)));
}

pub list_fits : ListFits
list_fits k l plan r s between near far limits first second is_map labels image =
    let a : Tells k r = tells k plan r near limits first in
    let b : Tells l s = tells l plan s far limits second in
    let back : List Flip = way_back s in
    let here : IsComplex (told_end r) = complex_replayed k (told_end r) (told_flips r) near.complex a.faces a.replays in
    let there : IsComplex (told_end s) = complex_replayed l (told_end s) (told_flips s) far.complex b.faces b.replays in
    let n : Names (map_back between) (told_end s) = subst (λ (c : ComplexView). Names (map_back between) c) image (turned_names between (told_end r) (start_names (told_end r) between here is_map labels)) in
    let low : AreLow (map_back between) = start_low r s between a.small b.small labels n in
    let faces : AllByRecursion OfFaces back = each_inverse OfFaces (told_flips s) (λ f h. record { first = h.second; second = h.first }) b.faces in
    let small : AllByRecursion IsSmall back = each_inverse IsSmall (told_flips s) (λ f h. (h.1, h.0)) (named_small s.names (flips_of s) b.small) in
    let leads : replay (told_end s) back ≡ Some l = replays_back l (told_end s) (told_flips s) far.complex b.faces b.replays in
    let c : CarriesFit (map_back between) back = carries_fit (map_back between) (told_end s) l back there.low n low faces small leads in
    let last : Names (names_at_end (map_back between) back) l = (carries (map_back between) (told_end s) l back n faces leads).names_are in
    let pairs : ArePairs (map_left s between) × (length (map_left s between) ≤ 4096) = back_fits (names_at_end (map_back between) back) l far last c.low in
    let j : JoinsTo k l (joined r s between) (map_left s between) = carried_joins k l (told_end r) (told_end s) between (told_flips r) (told_flips s) near.complex far.complex a.faces b.faces a.replays b.replays is_map labels image in
    let few : length (joined r s between) ≤ 5040000 = omega (arith, a.few, b.few, length-append (told_flips r) (carried_over between back), carried_long (map_back between) back, inverse_is_as_long (told_flips s)) in
    record {
      flips_keep = record { few = omega (arith, few); sides = each_append (HasSides (UpTo 65000)) (told_flips r) (carried_over between back) a.sides c.sides };
      pairs_keep = pairs.0;
      few = record { few_flips = few; few_labels = few_labels k j.there (joined r s between) near.complex.low j.replays; few_pairs = omega (arith, pairs.1) };
    }
