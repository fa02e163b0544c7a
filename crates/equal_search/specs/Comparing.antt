-- Two searches side by side: where they are compared, and what they find.
use Rattle.std.specs.Prelude.{◌≡◌, ℕ, ◌+◌, ◌≤◌, List, [], ◌∷◌, ◌++◌, length, map}
use Rattle.complex_core.specs.Complexes.{ComplexView}
use Rattle.complex_core.specs.Maps.{greatest, names_of, renamed, used}
use Rattle.flip_rules.specs.declared.flip.Flip.{Flip}
use Rattle.facet_iso.specs.Isomorphisms.{IsFit, IsLeastMap, NoMap}
use Rattle.cert_replay.specs.Answers.{EqualCert}
use Rattle.anneal_plan.specs.Numbers.{Numbers}
use Rattle.round_run.specs.Gates.{all_quits_at}
use Rattle.round_run.specs.Reports.{ReportView, ReportOk, IsSpent}
use Rattle.equal_text.specs.Lists.{joined, map_left, told_end}
use Rattle.equal_search.specs.declared.search.EqualFound.{EqualFound}
use Rattle.equal_search.specs.declared.search.EqualFound.TheVariants.{Equal, Undecided}

-- what a search from this complex rests on: any two facets are joined and each ridge lies in at most two facets, and the labels leave room
pub record CanSearch (plan : Numbers) (k : ComplexView) : Type 0 where
  pub fit : IsFit k
  pub dim : 1 ≤ k.dim
  pub labels : greatest (used k.facets) + plan.room ≤ 65535

-- ---- where they are compared

-- a search from K is compared at K, and where each of its descents ended, in the labels of K
abbrev pub stages : ComplexView → Numbers → List ComplexView → List ComplexView
stages k plan lows = k ∷ map (λ low. renamed low (names_of k.facets plan.room)) lows

-- the report of a search from K, which was compared in these complexes before it came where it stands
pub record IsCompared (k : ComplexView) (plan : Numbers) (before : List ComplexView) (r : ReportView) : Type 0 where
  pub ok : ReportOk k plan r
  pub stages_are : stages k plan ok.lows ≡ before ++ told_end r ∷ []

-- no map takes a complex of the first list to the one beside it
abbrev pub NoMaps : List ComplexView → List ComplexView → Type 0
NoMaps [] [] = Unit {0}
NoMaps [] (l ∷ ls) = ⊥
NoMaps (k ∷ ks) [] = ⊥
NoMaps (k ∷ ks) (l ∷ ls) = NoMap k l × NoMaps ks ls

-- as many rounds were made on both, and no comparison before the one where they stand found a map
pub record AreCompared (k l : ComplexView) (plan : Numbers) (r s : ReportView) : Type 0 where
  pub first_before : List ComplexView
  pub second_before : List ComplexView
  pub first : IsCompared k plan first_before r
  pub second : IsCompared l plan second_before s
  pub none : NoMaps first_before second_before
  pub rounds : length r.rounds ≡ length s.rounds

-- ---- what they find

-- Behind the flips of the first report stand those that lead the second back, carried over a map from the one end to the other.
-- Together they lead from the complex of the first to one that the pairs behind them take to the complex of the second.
pub record AreJoined (r s : ReportView) (between : List (ℕ × ℕ)) (flips : List Flip) (pairs : List (ℕ × ℕ)) : Type 0 where
  pub flips_are : flips ≡ joined r s between
  pub pairs_are : pairs ≡ map_left s between
  pub certificate : EqualCert r.input flips pairs s.input

-- the least map takes the first end to the second, and no comparison before found one
pub record AreEqual (k l : ComplexView) (plan : Numbers) (r s : ReportView) (flips : List Flip) (pairs : List (ℕ × ℕ)) : Type 0 where
  pub compared : AreCompared k l plan r s
  pub between : List (ℕ × ℕ)
  pub least : IsLeastMap (told_end r) (told_end s) between
  pub joined : AreJoined r s between flips pairs

-- all rounds were made on both, and no comparison found a map
pub record AreUndecided (k l : ComplexView) (plan : Numbers) (r s : ReportView) : Type 0 where
  pub compared : AreCompared k l plan r s
  pub none : NoMap (told_end r) (told_end s)
  pub first : IsSpent plan r
  pub second : IsSpent plan s

abbrev pub IsFound : ComplexView → ComplexView → Numbers → EqualFound → Type 0
IsFound k l plan (Equal r s flips pairs) = AreEqual k l plan r s flips.items pairs
IsFound k l plan (Undecided r s) = AreUndecided k l plan r s

-- how often worker i + 1 quit, on both complexes
abbrev pub quits_of_both : ReportView → ReportView → ℕ → ℕ
quits_of_both r s i = all_quits_at r.rounds i + all_quits_at s.rounds i

abbrev pub quits_in : EqualFound → ℕ → ℕ
quits_in (Equal r s flips pairs) = quits_of_both r s
quits_in (Undecided r s) = quits_of_both r s
