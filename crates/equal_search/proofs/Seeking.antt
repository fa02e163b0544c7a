-- Two searches side by side, from one comparison to the next.
use Rattle.std.proofs.Common.{◌≡◌, ℕ, List, [], ◌∷◌, ◌++◌, length, sym, ◌∙◌, ap, refl, subst, arith, length-append}
use Rattle.std.proofs.lemmas.List.{map-append}
use Rattle.complex_core.specs.Complexes.{ComplexView, IsComplex}
use Rattle.complex_core.specs.Maps.{names_of, renamed, turned}
use Rattle.flip_rules.specs.declared.flip.Flip.{Flip}
use Rattle.facet_iso.specs.Isomorphisms.{IsFit, NoMap}
use Rattle.anneal_plan.specs.Numbers.{Numbers}
use Rattle.round_rules.specs.Rounds.{RoundView}
use Rattle.round_run.specs.Reports.{Chain, ReportView}
use Rattle.round_run.specs.Searches.{Advanced, Descended, IsOpened, Stands}
use Rattle.round_run.proofs.Searching.{chain_none, stands_long}
use Rattle.sphere_text.proofs.Grounds.{ground}
use Rattle.equal_text.specs.Lists.{told_end}
use Rattle.equal_search.specs.Comparing.{AreCompared, AreUndecided, IsCompared, NoMaps, stages}
use Rattle.equal_search.specs.Pairs.{AreSeeking, CanCompare}
use Rattle.equal_search.proofs.Told.{can_compare}

-- ---- where a report was compared

-- without descents, nowhere but where it stands, and that is its complex
lows_none : (plan : Numbers) (places n : ℕ) (k : ComplexView) (ds : List (List Flip)) (lows : List ComplexView) (rs : List RoundView) (end : ComplexView) → ds ≡ [] → Chain plan places n k ds lows rs end → lows ≡ []
lows_none plan places n k [] [] [] end e c = refl
lows_none plan places n k [] [] (r ∷ rs) end e c = absurd c
lows_none plan places n k [] (low ∷ lows) rs end e c = absurd c
lows_none plan places n k (d ∷ ds) lows rs end e c = absurd (omega (arith, ap length e))

opened_end : (k : ComplexView) (plan : Numbers) (r : ReportView) → IsComplex k → IsOpened k plan r → told_end r ≡ k
opened_end k plan r c o =
    let P : List (ℕ × ℕ) → Type 0 = λ m. renamed (renamed k (turned m)) m ≡ k in
    ap (λ end. renamed end r.names) (chain_none plan (length r.names) 0 (renamed k (turned r.names)) r.descents o.ok.lows r.rounds r.end o.descents o.ok.chain)
    ∙ subst P (sym o.ok.names) (ground k plan.room c).back

compared_opened : (k : ComplexView) (plan : Numbers) (r : ReportView) → IsComplex k → IsOpened k plan r → IsCompared k plan [] r
compared_opened k plan r c o = record {
  ok = o.ok;
  stages_are = ap (stages k plan) (lows_none plan (length r.names) 0 (renamed k (turned r.names)) r.descents o.ok.lows r.rounds r.end o.descents o.ok.chain) ∙ ap (λ end. end ∷ []) (sym (opened_end k plan r c o));
}

-- one more complex in which a descent ended
stages_more : (k : ComplexView) (plan : Numbers) (lows : List ComplexView) (low : ComplexView) → stages k plan (lows ++ low ∷ []) ≡ stages k plan lows ++ renamed low (names_of k.facets plan.room) ∷ []
stages_more k plan lows low = ap (λ rest. k ∷ rest) (map-append (λ l. renamed l (names_of k.facets plan.room)) lows (low ∷ []))

compared_stands : (k : ComplexView) (plan : Numbers) (lows : List ComplexView) (r : ReportView) → Stands k plan lows r → IsCompared k plan (stages k plan lows) r
compared_stands k plan lows r s = record {
  ok = s.ok;
  stages_are = ap (stages k plan) s.ends ∙ stages_more k plan lows r.end ∙ ap (λ m. stages k plan lows ++ renamed r.end m ∷ []) (sym s.ok.names);
}

-- ---- comparisons that found no map

no_maps_more : (ks ls : List ComplexView) (k l : ComplexView) → NoMaps ks ls → NoMap k l → NoMaps (ks ++ k ∷ []) (ls ++ l ∷ [])
no_maps_more [] [] k l n m = (m, tt)
no_maps_more [] (b ∷ ls) k l n m = absurd n
no_maps_more (a ∷ ks) [] k l n m = absurd n
no_maps_more (a ∷ ks) (b ∷ ls) k l n m = (n.0, no_maps_more ks ls k l n.1 m)

-- ---- both

pub compared_first : (k l : ComplexView) (plan : Numbers) (r s : ReportView) → IsComplex k → IsComplex l → IsOpened k plan r → IsOpened l plan s → AreCompared k l plan r s
compared_first k l plan r s c d o p = record {
  first_before = [];
  second_before = [];
  first = compared_opened k plan r c o;
  second = compared_opened l plan s d p;
  none = tt;
  rounds = ap length (o.rounds ∙ sym p.rounds);
}

pub compared : (k l : ComplexView) (plan : Numbers) (r s : ReportView) → AreSeeking k l plan r s → AreCompared k l plan r s
compared k l plan r s h = record {
  first_before = stages k plan h.first_lows;
  second_before = stages l plan h.second_lows;
  first = compared_stands k plan h.first_lows r h.first;
  second = compared_stands l plan h.second_lows s h.second;
  none = h.none;
  rounds = h.rounds;
}

pub can_first : (k l : ComplexView) (plan : Numbers) (r s : ReportView) → AreSeeking k l plan r s → CanCompare r
can_first k l plan r s h = can_compare k plan r h.first_complex h.first_fit h.first.ok

pub can_second : (k l : ComplexView) (plan : Numbers) (r s : ReportView) → AreSeeking k l plan r s → CanCompare s
can_second k l plan r s h = can_compare l plan s h.second_complex h.second_fit h.second.ok

-- behind descent 0 of both, where the complexes themselves have no map
pub seeking_first : (k l : ComplexView) (plan : Numbers) (r s t u : ReportView) → IsComplex k → IsComplex l → IsFit k → IsFit l → IsOpened k plan r → IsOpened l plan s → NoMap (told_end r) (told_end s) → Descended plan r t → Descended plan s u → AreSeeking k l plan t u
seeking_first k l plan r s t u c d f g o p none down below = record {
  first_complex = c;
  second_complex = d;
  first_fit = f;
  second_fit = g;
  first_lows = [];
  second_lows = [];
  first = down.stands k o;
  second = below.stands l p;
  none = (subst (λ (a : ComplexView). NoMap a l) (opened_end k plan r c o) (subst (λ (b : ComplexView). NoMap (told_end r) b) (opened_end l plan s d p) none), tt);
  rounds = ap length (down.rounds ∙ sym below.rounds);
}

-- behind a round and a descent of both
pub seeking_on : (k l : ComplexView) (plan : Numbers) (r s t u : ReportView) (a b : RoundView) → AreSeeking k l plan r s → NoMap (told_end r) (told_end s) → Advanced plan r t → Advanced plan s u → t.rounds ≡ r.rounds ++ a ∷ [] → u.rounds ≡ s.rounds ++ b ∷ [] → AreSeeking k l plan t u
seeking_on k l plan r s t u a b h none first second more also =
    let P : List ComplexView → List ComplexView → Type 0 = λ ks ls. NoMaps ks ls in
    let near : List ComplexView = h.first_lows ++ r.end ∷ [] in
    let far : List ComplexView = h.second_lows ++ s.end ∷ [] in
    let here : stages k plan near ≡ stages k plan h.first_lows ++ told_end r ∷ [] = stages_more k plan h.first_lows r.end ∙ ap (λ m. stages k plan h.first_lows ++ renamed r.end m ∷ []) (sym h.first.ok.names) in
    let there : stages l plan far ≡ stages l plan h.second_lows ++ told_end s ∷ [] = stages_more l plan h.second_lows s.end ∙ ap (λ m. stages l plan h.second_lows ++ renamed s.end m ∷ []) (sym h.second.ok.names) in
    let both : NoMaps (stages k plan h.first_lows ++ told_end r ∷ []) (stages l plan h.second_lows ++ told_end s ∷ []) = no_maps_more (stages k plan h.first_lows) (stages l plan h.second_lows) (told_end r) (told_end s) h.none none in
    record {
      first_complex = h.first_complex;
      second_complex = h.second_complex;
      first_fit = h.first_fit;
      second_fit = h.second_fit;
      first_lows = near;
      second_lows = far;
      first = first k h.first_lows h.first;
      second = second l h.second_lows h.second;
      none = subst (λ (ks : List ComplexView). NoMaps ks (stages l plan far)) (sym here) (subst (NoMaps (stages k plan h.first_lows ++ told_end r ∷ [])) (sym there) both);
      rounds = omega (arith, h.rounds, ap length more, ap length also, length-append r.rounds (a ∷ []), length-append s.rounds (b ∷ []));
    }

-- all rounds were made
pub undecided : (k l : ComplexView) (plan : Numbers) (r s : ReportView) → AreSeeking k l plan r s → NoMap (told_end r) (told_end s) → length r.rounds ≡ plan.rounds → AreUndecided k l plan r s
undecided k l plan r s h none all =
    let also : length s.rounds ≡ plan.rounds = omega (arith, all, h.rounds) in
    record {
      compared = compared k l plan r s h;
      none = none;
      first = record { rounds = all; descents = omega (arith, all, stands_long k plan h.first_lows r h.first) };
      second = record { rounds = also; descents = omega (arith, also, stands_long l plan h.second_lows s h.second) };
    }

-- the same, seen from the inputs of the reports
pub seeking_here : (k l : ComplexView) (plan : Numbers) (r s t u : ReportView) → IsComplex k → IsComplex l → IsFit k → IsFit l → IsOpened k plan r → IsOpened l plan s → NoMap (told_end r) (told_end s) → Descended plan r t → Descended plan s u → AreSeeking t.input u.input plan t u
seeking_here k l plan r s t u c d f g o p none down below =
    let h : AreSeeking k l plan t u = seeking_first k l plan r s t u c d f g o p none down below in
    subst (λ (x : ComplexView). AreSeeking x u.input plan t u) (sym h.first.ok.input) (subst (λ (y : ComplexView). AreSeeking k y plan t u) (sym h.second.ok.input) h)
