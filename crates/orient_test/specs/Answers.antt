-- What the answers say.
use Rattle.std.specs.Prelude.{ℕ, List}
use Rattle.orient_test.specs.declared.orientation.Orientation.{Orientation}
use Rattle.orient_test.specs.declared.orientation.Orientation.TheVariants.{Oriented, Clash}
use Rattle.orient_test.specs.Signs.{Orientable, OrientsBy}
use Rattle.orient_test.specs.Walks.{IsClash}

-- signs with which the definition holds, or a closed chain that contradicts every choice of signs
abbrev pub IsShown : List (List ℕ) → Orientation → Type 0
IsShown facets (Oriented signs) = OrientsBy facets signs.items
IsShown facets (Clash chain) = IsClash facets chain.items

-- whether there are signs
abbrev pub Decides : List (List ℕ) → Orientation → Type 0
Decides facets (Oriented signs) = Orientable facets
Decides facets (Clash chain) = Orientable facets → ⊥
