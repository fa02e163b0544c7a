-- The labels of a chain are places, and places have names.
use Rattle.std.proofs.Common.{◌≡◌, ℕ, ◌+◌, ◌-◌, ◌<◌, ◌≤◌, Bool, true, nat_eq, ◌||◌, List, [], ◌∷◌, ◌++◌, length, Some, sym, ◌∙◌, ap, refl, subst, arith, length-append, inl, inr}
use Rattle.std.specs.List.{AllByRecursion, flat_map, list_all}
use Rattle.std.specs.Ordering.{nat_cmp}
use Rattle.std.specs.Cmp.Derive.{both_true}
use Rattle.std.proofs.lemmas.List.Folds.{list_all-append}
use Rattle.complex_core.specs.Labels.{IsRising, has}
use Rattle.complex_core.specs.Maps.{ArePositive, IsMap, takes, names_of, numbered, next_after, used, greatest}
use Rattle.complex_core.specs.Complexes.{ComplexView}
use Rattle.std.proofs.lemmas.Cmp.{nat_cmp_total}
use Rattle.complex_core.proofs.Sets.{Above, above_cons, sorted_rising}
use Rattle.complex_core.proofs.Faces.{cmp_less}
use Rattle.complex_core.proofs.Laws.{each_has, nat_eq_is, or_left, or_right, passes_listed}
use Rattle.complex_core.proofs.Places.{length_numbered, length_next, few_used, place_named}
use Rattle.complex_core.proofs.SubsetLists.{two, clash}
use Rattle.flip_rules.specs.Entries.{JournalEntry}
use Rattle.flip_rules.specs.Flips.{OfFaces, flipped, replay}
use Rattle.flip_rules.specs.Journals.{flat}
use Rattle.flip_rules.specs.declared.flip.Flip.{Flip}
use Rattle.flip_rules.proofs.Replays.{replay_dim}
use Rattle.flip_names.specs.Names.{takes_flip, takes_flips}
use Rattle.flip_names.specs.Laws.{Renames, HasPositiveIndex}
use Rattle.flip_names.proofs.Replays.{replay_stays_taken}
use Rattle.flip_names.proofs.Staying.{reducing_flips_taken}
use Rattle.star_laws.specs.Stars.{flips_touch}
use Rattle.stars.specs.StarViews.{UsesUpTo}
use Rattle.stars.proofs.Mapping.{uses_from}
use Rattle.descent_laws.specs.Descents.{IsDescent}
use Rattle.descent_laws.specs.Laws.{Descends}
use Rattle.descent_laws.proofs.DescentRuns.{descent_descends}
use Rattle.descent_laws.proofs.Reducing.{two_at_least}
use Rattle.board_rule.specs.Rule.{IsEntry}
use Rattle.anneal_plan.specs.Numbers.{Numbers}
use Rattle.round_rules.specs.Rounds.{RoundView, RoundOk}
use Rattle.round_run.specs.Reports.{Chain, history_from, descent_entries, scene}
use Rattle.round_run.proofs.Histories.{flat_descent}
use Rattle.flip_rules.proofs.Journals.{flat-append}
use Rattle.complex_core.proofs.Members.{passes_has, label_low}
use Rattle.round_rules.proofs.Ending.{faces_in}

-- ---- which places have names

taken_numbered : (k : ℕ) (xs : List ℕ) (p : ℕ) → takes (numbered k xs) p ≡ true → p < k + length xs
taken_numbered k [] p t = clash true refl (sym t)
taken_numbered k (x ∷ xs) p t = elim (two (nat_eq k p)) [
  | inl e ↦ omega (arith, nat_eq_is k p e)
  | inr e ↦ omega (arith, taken_numbered (k + 1) xs p (sym (ap (λ b. b || takes (numbered (k + 1) xs) p) e) ∙ t))
]

-- the places that have names are those from 1 to their number
pub record NamesPlaces (m : List (ℕ × ℕ)) : Type 0 where
  pub all : (p : ℕ) → 0 < p → p ≤ length m → takes m p ≡ true
  pub most : (p : ℕ) → takes m p ≡ true → p ≤ length m

pub names_places : (fs : List (List ℕ)) (room : ℕ) (m : List (ℕ × ℕ)) → m ≡ names_of fs room → NamesPlaces m
names_places fs room m e =
    let xs : List ℕ = used fs ++ next_after (greatest (used fs)) room in
    let long : length (numbered 1 xs) ≡ length xs = length_numbered 1 xs in
    subst NamesPlaces (sym e) (record {
      all = λ p low high. place_named 1 xs p (omega (arith, low)) (omega (arith, high, long));
      most = λ p t. omega (arith, taken_numbered 1 xs p t, long);
    })

labels_positive : (k : ℕ) (xs ys : List ℕ) → ArePositive (numbered k (xs ++ ys)) → Above nat_cmp 0 xs
labels_positive k [] ys h = tt
labels_positive k (x ∷ xs) ys h = (cmp_less 0 x h.0.1, labels_positive (k + 1) xs ys h.1)

-- so the places are few where the labels are
pub places_few : (fs : List (List ℕ)) (room : ℕ) (m : List (ℕ × ℕ)) → IsMap m → m ≡ names_of fs room → greatest (used fs) + room ≤ 65535 → length m ≤ 65535
places_few fs room m h e few =
    let spare : List ℕ = next_after (greatest (used fs)) room in
    let low : Above nat_cmp 0 (used fs) = labels_positive 1 (used fs) spare (subst ArePositive e h.positive) in
    let rises : IsRising (used fs) = above_cons nat_cmp 0 (used fs) low (sorted_rising nat_cmp_total (flat_map (λ f. f) fs)) in
    omega (arith, ap length e, length_numbered 1 (used fs ++ spare), length-append (used fs) spare, length_next (greatest (used fs)) room, few_used (used fs) rises, few)

-- no label above their number
pub uses_places : (m : List (ℕ × ℕ)) (k : ComplexView) → NamesPlaces m → Renames m k → UsesUpTo k (length m)
uses_places m k n r = uses_from k (length m) (λ f p t e. n.most p (passes_has (takes m) f p (passes_listed (λ s. list_all (takes m) s) k.facets f r.taken t) e))

-- ---- flips

-- what flips keep
pub record IsNamed (m : List (ℕ × ℕ)) (k : ComplexView) (flips : List Flip) (end : ComplexView) : Type 0 where
  pub taken : takes_flips m flips ≡ true
  pub end_named : Renames m end
  pub dim : end.dim ≡ k.dim

named_replay : (m : List (ℕ × ℕ)) (k end : ComplexView) (flips : List Flip) → Renames m k → AllByRecursion OfFaces flips → takes_flips m flips ≡ true → replay k flips ≡ Some end → IsNamed m k flips end
named_replay m k end flips r faces t e = record {
  taken = t;
  end_named = replay_stays_taken m k end flips (record { complex = r; faces = faces; taken = t }) e;
  dim = replay_dim k end flips e;
}

positive : (flips : List Flip) (k end : ComplexView) → IsDescent k flips end → AllByRecursion HasPositiveIndex flips
positive [] k end d = tt
positive (f ∷ fs) k end d = (two_at_least k f d.0.reduces, positive fs (flipped k f.a f.b) end d.1)

descent_named : (m : List (ℕ × ℕ)) (k end : ComplexView) (flips : List Flip) → Renames m k → IsDescent k flips end → IsNamed m k flips end
descent_named m k end flips r d =
    let s : Descends k flips end = descent_descends k end flips d in
    named_replay m k end flips r s.faces (reducing_flips_taken m k end flips r.taken s.faces (positive flips k end d) s.replays) s.replays

-- ---- entries

flips_taken : (m : List (ℕ × ℕ)) (flips : List Flip) → NamesPlaces m → AllByRecursion OfFaces flips → ((p : ℕ) → flips_touch p flips ≡ true → p ≤ length m) → takes_flips m flips ≡ true
flips_taken m [] n faces h = refl
flips_taken m (f ∷ fs) n faces h =
    both_true
    (both_true
    (each_has (takes m) f.a (λ x t. n.all x (label_low f.a x faces.0.first t) (h x (or_left (has f.a x || has f.b x) (flips_touch x fs) (or_left (has f.a x) (has f.b x) t)))))
    (each_has (takes m) f.b (λ x t. n.all x (label_low f.b x faces.0.second t) (h x (or_left (has f.a x || has f.b x) (flips_touch x fs) (or_right (has f.a x) (has f.b x) t))))))
    (flips_taken m fs n faces.1 (λ p t. h p (or_right (has f.a p || has f.b p) (flips_touch p fs) t)))

pub passes_append : {A : Type 0} (p : A → Bool) (xs ys : List A) → list_all p xs ≡ true → list_all p ys ≡ true → list_all p (xs ++ ys) ≡ true
passes_append p xs ys f g = list_all-append p xs ys ∙ both_true f g

entries_taken : (m : List (ℕ × ℕ)) (round seats : ℕ) (es : List JournalEntry) → NamesPlaces m → AllByRecursion (IsEntry round (length m) seats) es → takes_flips m (flat es) ≡ true
entries_taken m round seats [] n h = refl
entries_taken m round seats (e ∷ es) n h = passes_append (takes_flip m) e.flips (flat es) (flips_taken m e.flips n h.0.faces h.0.labels) (entries_taken m round seats es n h.1)

round_named : (m : List (ℕ × ℕ)) (plan : Numbers) (round : ℕ) (k end : ComplexView) (r : RoundView) → NamesPlaces m → Renames m k → RoundOk (scene k (length m) round plan) r end → IsNamed m k (flat r.entries) end
round_named m plan round k end r n named_k h =
    named_replay m k end (flat r.entries) named_k (faces_in _ _ _ r.entries h.entries) (entries_taken m _ _ r.entries n h.entries) h.replays

-- ---- chains

pub chain_named : (m : List (ℕ × ℕ)) (plan : Numbers) (n : ℕ) (k : ComplexView) (ds : List (List Flip)) (lows : List ComplexView) (rs : List RoundView) (end : ComplexView) → NamesPlaces m → Renames m k → Chain plan (length m) n k ds lows rs end → IsNamed m k (flat (history_from n ds rs)) end
chain_named m plan n k [] [] [] end np r c = let P : ComplexView → Type 0 = λ l. Renames m l in record { taken = refl; end_named = subst P (sym c) r; dim = ap (λ l. l.dim) c }
chain_named m plan n k [] [] (q ∷ rs) end np r c = absurd c
chain_named m plan n k [] (low ∷ lows) rs end np r c = absurd c
chain_named m plan n k (d ∷ ds) [] rs end np r c = absurd c
chain_named m plan n k (d ∷ ds) (low ∷ lows) [] end np r c =
    let h : IsNamed m k d low = descent_named m k low d r c.0 in
    let P : ComplexView → Type 0 = λ l. Renames m l in
    let none : flat (history_from (n + 1) ds []) ≡ [] = ap (λ xs. flat (history_from (n + 1) xs [])) c.2 in
    let flips : flat (descent_entries n 0 d ++ history_from (n + 1) ds []) ≡ d ++ [] = flat-append (descent_entries n 0 d) (history_from (n + 1) ds []) ∙ (λ i. flat_descent n 0 d i ++ none i) in
    record {
      taken = ap (takes_flips m) flips ∙ passes_append (takes_flip m) d [] h.taken refl;
      end_named = subst P (sym c.1) h.end_named;
      dim = ap (λ l. l.dim) c.1 ∙ h.dim;
    }
chain_named m plan n k (d ∷ ds) (low ∷ lows) (q ∷ rs) end np r c =
    let h : IsNamed m k d low = descent_named m k low d r c.1 in
    let g : IsNamed m low (flat q.entries) c.0 = round_named m plan n low c.0 q np h.end_named c.2 in
    let rest : IsNamed m c.0 (flat (history_from (n + 1) ds rs)) end = chain_named m plan (n + 1) c.0 ds lows rs end np g.end_named c.4 in
    let more : flat (q.entries ++ history_from (n + 1) ds rs) ≡ flat q.entries ++ flat (history_from (n + 1) ds rs) = flat-append q.entries (history_from (n + 1) ds rs) in
    let flips : flat (descent_entries n 0 d ++ (q.entries ++ history_from (n + 1) ds rs)) ≡ d ++ (flat q.entries ++ flat (history_from (n + 1) ds rs)) = flat-append (descent_entries n 0 d) (q.entries ++ history_from (n + 1) ds rs) ∙ (λ i. flat_descent n 0 d i ++ more i) in
    record {
      taken = ap (takes_flips m) flips ∙ passes_append (takes_flip m) d (flat q.entries ++ flat (history_from (n + 1) ds rs)) h.taken (passes_append (takes_flip m) (flat q.entries) (flat (history_from (n + 1) ds rs)) g.taken rest.taken);
      end_named = rest.end_named;
      dim = rest.dim ∙ g.dim ∙ h.dim;
    }
