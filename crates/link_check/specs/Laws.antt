-- What a bad face shows.
use Rattle.complex_core.specs.Complexes.{ComplexView, IsComplex}
use Rattle.std.specs.Prelude.{ℕ, List}
use Rattle.complex_core.specs.Links.{link}
use Rattle.flip_laws.specs.Obstacles.{NeverReaches}
use Rattle.link_check.specs.declared.bad.LinkFact.{LinkFact}
use Rattle.link_check.specs.BadLinks.{HasLink, Lacks}

-- no legal flips lead a link that lacks a fact to the boundary of a simplex
abbrev pub BadLinkLaw : Type 0
BadLinkLaw = (k : ComplexView) (s : List ℕ) (fact : LinkFact) → IsComplex k → HasLink k s → Lacks (link k s) fact → NeverReaches (link k s)
