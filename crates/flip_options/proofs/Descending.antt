-- The loop of the descent.
use Rattle.std.proofs.Common.{◌≡◌, ◌≢◌, ℕ, ◌+◌, ◌-◌, ◌<◌, ◌≤◌, suc, true, nat_eq, List, [], ◌∷◌, ◌++◌, length, get_or, Option, sym, ◌∙◌, ap, refl, subst, arith, length-append}
use Rattle.std.specs.List.{AllByRecursion, flat_map}
use Rattle.std.specs.List.Sorted.{IsStrictlySortedBy}
use Rattle.std.specs.Ordering.{nat_cmp}
use Rattle.complex_core.specs.Labels.{has, without}
use Rattle.std.proofs.lemmas.Cmp.{nat_cmp_total}
use Rattle.complex_core.specs.Maps.{used, greatest}
use Rattle.complex_core.specs.Complexes.{ComplexView, is_facet}
use Rattle.complex_core.proofs.Sets.{above_head, above_tail, sorted_rising}
use Rattle.complex_core.proofs.Faces.{less_cmp}
use Rattle.complex_core.proofs.Laws.{has-union, or_left, or_right, nat_eq_same}
use Rattle.flip_rules.specs.Boundaries.{IsBoundary}
use Rattle.flip_rules.specs.Flips.{flipped}
use Rattle.flip_rules.specs.declared.flip.Flip.{Flip}
use Rattle.flip_rules.proofs.Links.{side}
use Rattle.stars.specs.StarViews.{StarList, IsStarListOf, OnPlaces, UsesUpTo, places_in}
use Rattle.descent_laws.specs.Descents.{IsReducing, IsMinimal, IsBest, IsDescent}
use Rattle.descent_laws.specs.Laws.{Descends, IsCycle}
use Rattle.descent_laws.proofs.Reducing.{other_label, two_at_least}
use Rattle.descent_laws.proofs.Falling.{flip_falls}
use Rattle.descent_laws.proofs.DescentRuns.{descent_descends}
use Rattle.descent_laws.proofs.Cycles.{cycle_ends}
use Rattle.flip_options.specs.DescentViews.{AreHeld}
use Rattle.flip_options.proofs.Flipping.{linked}
use Rattle.flip_options.proofs.Places.{place_high}
use Rattle.complex_core.proofs.Members.{in_without, each_member}

-- ---- labels

-- the last label of a rising list is its greatest
up_to_last : (xs : List ℕ) → IsStrictlySortedBy nat_cmp xs → AllByRecursion (λ x. x ≤ get_or xs (length xs - 1) 0) xs
up_to_last [] s = tt
up_to_last (x ∷ []) s = (omega arith, tt)
up_to_last (x ∷ y ∷ ys) s =
    let rest : AllByRecursion (λ z. z ≤ get_or (y ∷ ys) (length (y ∷ ys) - 1) 0) (y ∷ ys) = up_to_last (y ∷ ys) (above_tail nat_cmp x (y ∷ ys) s) in
    let l : x < y = less_cmp x y (above_head nat_cmp x (y ∷ ys) s).0 in
    let P : ℕ → Type 0 = λ g. AllByRecursion (λ z. z ≤ g) (x ∷ y ∷ ys) in
    let e : suc (length ys) - 1 ≡ length ys = omega arith in
    let g : suc (suc (length ys)) - 1 ≡ suc (length ys) = omega arith in
    let same : get_or (y ∷ ys) (length (y ∷ ys) - 1) 0 ≡ get_or (x ∷ y ∷ ys) (length (x ∷ y ∷ ys) - 1) 0 = ap (λ i. get_or (y ∷ ys) i 0) e ∙ sym (ap (λ i. get_or (x ∷ y ∷ ys) i 0) g) in
    subst P same (omega (arith, l, rest.0), (rest.0, rest.1))

pub uses_up_to : (k : ComplexView) (items shown : List ℕ) (n : ℕ) → items ≡ used k.facets → shown ≡ items → n ≡ greatest shown → UsesUpTo k n
uses_up_to k items shown n e is last =
    let P : ℕ → Type 0 = λ g. AllByRecursion (λ x. x ≤ g) (used k.facets) in
    subst P (sym (last ∙ ap greatest (is ∙ e))) (up_to_last (used k.facets) (sorted_rising nat_cmp_total (flat_map (λ f. f) k.facets)))

first_label : (b : List ℕ) → 0 < length b → (y : ℕ) × (has b y ≡ true)
first_label [] n = absurd (omega (arith, n))
first_label (y ∷ ys) n = (y, or_left (nat_eq y y) (has ys y) (nat_eq_same y))

-- the labels of a candidate are places
pub on_places : (k : ComplexView) (s : StarList) (f : Flip) → IsStarListOf k s → IsReducing k f → OnPlaces s f
on_places k s f h r = record {
  first = each_member (λ x. x ≤ places_in s) f.a (λ x t.
      let y : (y : ℕ) × (has f.b y ≡ true) = first_label f.b (omega (arith, two_at_least k f r)) in
      place_high k s (side f.a f.b y.0) x h (there y.0 y.1) (has-union f.a (without f.b y.0) x ∙ or_left (has f.a x) (has (without f.b y.0) x) t));
  second = each_member (λ x. x ≤ places_in s) f.b (λ x t.
      let y : (y : ℕ) × (has f.b y ≡ true) × (x ≢ y) = other_label f.b x (above_tail nat_cmp 0 f.b r.faces.second.rising) (two_at_least k f r) in
      place_high k s (side f.a f.b y.0) x h (there y.0 y.1) (has-union f.a (without f.b y.0) x ∙ or_right (has f.a x) (has (without f.b y.0) x) (in_without f.b y.0 x t y.2)));
}
  where
    there : (y : ℕ) → has f.b y ≡ true → is_facet k.facets (side f.a f.b y) ≡ true
    there y t = (linked k k f.a f.b refl r).there y t

-- ---- the loop

-- the best flips, each made, from one complex to another
abbrev pub BestRun : ComplexView → List Flip → ComplexView → Type 0
BestRun k [] m = k ≡ m
BestRun k (f ∷ fs) m = IsBest k f × BestRun (flipped k f.a f.b) fs m

run_more : (k m : ComplexView) (fs : List Flip) (f : Flip) → BestRun k fs m → IsBest m f → BestRun k (fs ++ f ∷ []) (flipped m f.a f.b)
run_more k m [] f r b = let P : ComplexView → Type 0 = λ l. IsBest l f in (subst P (sym r) b, ap (λ l. flipped l f.a f.b) r)
run_more k m (g ∷ gs) f r b = (r.0, run_more (flipped k g.a g.b) m gs f r.1 b)

run_ends : (k m : ComplexView) (fs : List Flip) → BestRun k fs m → IsMinimal m → IsDescent k fs m
run_ends k m [] r n = let P : ComplexView → Type 0 = λ l. IsMinimal l in (sym r, subst P (sym r) n)
run_ends k m (g ∷ gs) r n = (r.0, run_ends (flipped k g.a g.b) m gs r.1 n)

pub record Descending (k : ComplexView) (flips : List Flip) (stars : StarList) (options : Option (List Flip)) : Type 0 where
  pub now : ComplexView
  pub run : BestRun k flips now
  pub held : AreHeld now stars options
  pub falls : length flips + length now.facets ≤ length k.facets

pub descending_more : (k : ComplexView) (fs gs : List Flip) (s t : StarList) (o q : Option (List Flip)) (f : Flip) → (d : Descending k fs s o) → IsBest d.now f → gs ≡ fs ++ f ∷ [] → ((l : ComplexView) → AreHeld l s o → IsReducing l f → AreHeld (flipped l f.a f.b) t q) → Descending k gs t q
descending_more k fs gs s t o q f d b e h =
    let P : List Flip → Type 0 = λ hs. Descending k hs t q in
    subst P (sym e) (record {
      now = flipped d.now f.a f.b;
      run = run_more k d.now fs f d.run b;
      held = h d.now d.held b.reduces;
      falls = omega (arith, d.falls, flip_falls d.now f b.reduces, length-append fs (f ∷ []));
    })

pub descends_end : (k : ComplexView) (fs : List Flip) (s : StarList) (o : Option (List Flip)) (end : ComplexView) → (d : Descending k fs s o) → IsMinimal d.now → ((l : ComplexView) → IsStarListOf l s → end ≡ l) → IsDescent k fs end
descends_end k fs s o end d n h = let P : ComplexView → Type 0 = λ l. IsDescent k fs l in subst P (sym (h d.now d.held.rows)) (run_ends k d.now fs d.run n)

pub shows_end : (k end : ComplexView) (fs : List Flip) → IsDescent k fs end → Descends k fs end
shows_end k end fs d = descent_descends k end fs d

pub cycle_end : (k end : ComplexView) (fs : List Flip) → IsDescent k fs end → IsCycle k → IsBoundary end
cycle_end k end fs d c = cycle_ends k end fs c d
