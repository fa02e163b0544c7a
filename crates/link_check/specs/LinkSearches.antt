-- What searches of the links of all vertices come to.
use Rattle.std.specs.Prelude.{◌≡◌, true, false, ℕ, ◌+◌, ◌<◌, ◌≤◌, List, [], ◌∷◌, ◌++◌, length, map}
use Rattle.std.specs.List.{AllByRecursion}
use Rattle.std.specs.List.Sorted.{IsStrictlySortedBy}
use Rattle.std.specs.Ordering.{nat_cmp}
use Rattle.std.specs.Global.{Vec}
use Rattle.complex_core.specs.Labels.{has}
use Rattle.complex_core.specs.Complexes.{ComplexView, IsComplex}
use Rattle.complex_core.specs.Maps.{used}
use Rattle.flip_rules.specs.Flips.{OfFaces}
use Rattle.flip_rules.specs.Certificates.{SphereCert}
use Rattle.flip_rules.specs.declared.flip.Flip.{Flip}
use Rattle.pseudo_test.specs.Ridges.{Closed}
use Rattle.sphere_search.specs.Searches.{FlipAtMost, UsesAtMost}
use Rattle.sphere_search.specs.declared.search.Searched.{Searched}
use Rattle.sphere_search.specs.declared.search.Searched.TheVariants.{Found, Gave}
use Rattle.link_check.specs.BadLinks.{HasLink, NoneIsBad}
use Rattle.link_check.specs.Flags.{flags}
use Rattle.link_check.specs.Vertices.{vertex_link}
use Rattle.link_check.specs.declared.link_search.Links.{Links}
use Rattle.link_check.specs.declared.link_search.Links.TheVariants.{Manifold, Open}

-- a complex whose links can all be searched
pub record CanSearchLinks (k : ComplexView) : Type 0 where
  pub closed : Closed k.facets
  pub dim : 0 < k.dim
  pub good : NoneIsBad k
  pub labels : UsesAtMost 60000 k

-- these flips show that the link of a vertex is a sphere: not too many more than it has facets
pub record ShowsLink (k : ComplexView) (v : ℕ) (flips : List Flip) : Type 0 where
  pub faces : AllByRecursion OfFaces flips
  pub leads : SphereCert (vertex_link k v) flips
  pub few : length flips ≤ length (vertex_link k v).facets + 2500000
  pub labels : AllByRecursion (FlipAtMost 61025) flips

-- a list of flips for each vertex, rising
pub record ShowsLinks (k : ComplexView) (lists : List (ℕ × List Flip)) : Type 0 where
  pub vertices : map (λ p. p.0) lists ≡ used k.facets
  pub links : AllByRecursion (λ p. ShowsLink k p.0 p.1) lists

-- a record for some vertices, rising, each of which spends the rounds on the link, and flips exist for each other vertex
pub record LeavesOpen {R : Type 0} (k : ComplexView) (spends : ComplexView → R → Type 0) (left : List (ℕ × R)) : Type 0 where
  pub some : 0 < length left
  pub rising : IsStrictlySortedBy nat_cmp (map (λ p. p.0) left)
  pub vertices : AllByRecursion (λ p. has (used k.facets) p.0 ≡ true) left
  pub spent : AllByRecursion (λ p. spends (vertex_link k p.0) p.1) left
  pub others : (v : ℕ) → has (used k.facets) v ≡ true → has (map (λ p. p.0) left) v ≡ false → (flips : List Flip) × ShowsLink k v flips

-- how often a worker was told to stop, over all records
abbrev pub all_quits : {R : Type 0} → (R → ℕ → ℕ) → List (ℕ × R) → ℕ → ℕ
all_quits quits [] w = 0
all_quits quits (p ∷ left) w = quits p.1 w + all_quits quits left w

abbrev pub flips_of : ℕ × Vec Flip → ℕ × List Flip
flips_of p = (p.0, p.1.items)

-- what is known of the lists, or of the records
abbrev pub LinksAre : {R : Type 0} → (List (ℕ × List Flip) → Type 0) → (List (ℕ × R) → Type 0) → Links R → Type 0
LinksAre shown left (Manifold lists) = shown (map flips_of lists.items)
LinksAre shown left (Open records) = left records.items

-- ---- one vertex after another

-- the flags of all vertices, one of which is v
pub record HasFlags (k : ComplexView) (v : ℕ) (all : List (List ℕ × List ℕ)) : Type 0 where
  pub complex : IsComplex k
  pub has : HasLink k (v ∷ [])
  pub are : all ≡ flags 1 k.facets

-- what came of a vertex went behind the lists or behind the records
abbrev pub Files : {R : Type 0} → ℕ → Searched R → List (ℕ × Vec Flip) → List (ℕ × Vec Flip) → List (ℕ × R) → List (ℕ × R) → Type 0
Files v (Found flips) lists now_lists left now_left = (now_lists ≡ lists ++ (v, flips) ∷ []) × (now_left ≡ left)
Files v (Gave r) lists now_lists left now_left = (now_lists ≡ lists) × (now_left ≡ left ++ (v, r) ∷ [])

-- the lists are the answer where no record is left, and else the records
abbrev pub Ends : {R : Type 0} → List (ℕ × Vec Flip) → List (ℕ × R) → Links R → Type 0
Ends lists left (Manifold shown) = (shown.items ≡ lists) × (length left ≡ 0)
Ends lists left (Open records) = (records.items ≡ left) × (0 < length left)
