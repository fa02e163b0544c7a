-- From vertex to vertex: what is known of the links so far.
use Rattle.std.proofs.Common.{◌≡◌, ℕ, ◌+◌, ◌≤◌, List, [], ◌∷◌, ◌++◌, arith}
use Rattle.std.specs.Global.{Vec}
use Rattle.std.specs.List.Sorted.{IsStrictlySortedBy}
use Rattle.std.specs.Ordering.{nat_cmp}
use Rattle.complex_core.specs.Complexes.{ComplexView, IsComplex}
use Rattle.complex_core.specs.Maps.{used}
use Rattle.flip_rules.specs.declared.flip.Flip.{Flip}
use Rattle.anneal_plan.specs.Numbers.{Numbers}
use Rattle.sphere_search.specs.Searches.{Answers, ShowsSphere, UsesAtMost}
use Rattle.sphere_search.specs.declared.search.Searched.{Searched}
use Rattle.sphere_search.specs.declared.search.Searched.TheVariants.{Found, Gave}
use Rattle.link_check.specs.LinkSearches.{Files, Ends, LinksAre, ShowsLinks, LeavesOpen}
use Rattle.link_check.specs.Vertices.{vertex_link}
use Rattle.link_check.specs.declared.link_search.Links.{Links}
use Rattle.link_check.proofs.LinkSearching.{SoFar, begin_search, next_link, end_search}
use Rattle.round_run.specs.Reports.{ReportView, IsUndecided}

-- a report spends the plan
abbrev Spends : Numbers → ComplexView → ReportView → Type 0
Spends plan l r = IsUndecided l plan r

-- the links of these vertices were searched. The counts of gates are told apart from this.
abbrev pub Walked : ComplexView → Numbers → List ℕ → List (ℕ × Vec Flip) → List (ℕ × ReportView) → Type 0
Walked k plan done lists left = SoFar k (Spends plan) (Spends plan) (λ _ _. 0) (λ _. 0) (λ _. 0) done lists left

pub walk_begins : (k : ComplexView) (plan : Numbers) (done : List ℕ) (lists : List (ℕ × Vec Flip)) (left : List (ℕ × ReportView)) → done ≡ [] → lists ≡ [] → left ≡ [] → Walked k plan done lists left
walk_begins k plan done lists left a b d = begin_search k (Spends plan) (λ _ _. 0) (λ _. 0) done lists left a b d

none_told : (searched : Searched ReportView) → Answers (λ _. Unit {0}) (λ r. (w : ℕ) → 0 + 0 ≤ 0) searched
none_told (Found flips) = tt
none_told (Gave r) = λ w. omega arith

pub walk_goes_on : (k : ComplexView) (plan : Numbers) (done : List ℕ) (lists now_lists : List (ℕ × Vec Flip)) (left now_left : List (ℕ × ReportView)) (v : ℕ) (l : ComplexView) (searched : Searched ReportView)
    → IsComplex k → UsesAtMost 60000 k → IsStrictlySortedBy nat_cmp (done ++ v ∷ []) → l ≡ vertex_link k v → Walked k plan done lists left → Answers (ShowsSphere l) (λ r. IsUndecided l plan r) searched → Files v searched lists now_lists left now_left
    → Walked k plan (done ++ v ∷ []) now_lists now_left
walk_goes_on k plan done lists now_lists left now_left v l searched c small rises e h shown filed =
    next_link k (Spends plan) (Spends plan) (Spends plan) (λ _ _. 0) (λ _. 0) (λ _. 0) (λ _. 0) done lists now_lists left now_left v l searched
    c small rises e h shown (none_told searched) (λ m r. (λ s. s, λ s. s)) (λ w. omega arith) filed

pub walk_ends : (k : ComplexView) (plan : Numbers) (done : List ℕ) (lists : List (ℕ × Vec Flip)) (left : List (ℕ × ReportView)) (links : Links ReportView) → done ≡ used k.facets → Walked k plan done lists left → Ends lists left links
    → LinksAre (ShowsLinks k) (LeavesOpen k (λ l r. IsUndecided l plan r)) links
walk_ends k plan done lists left links all h e = end_search k (Spends plan) (Spends plan) (λ _ _. 0) (λ _. 0) (λ _. 0) done lists left links all h e
