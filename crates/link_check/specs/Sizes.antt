-- The faces of one size, as they are looked at one after another.
use Rattle.std.specs.Prelude.{◌≡◌, ℕ, List, length}
use Rattle.std.specs.declared.cmp.Ordering.TheVariants.{Less}
use Rattle.complex_core.specs.Labels.{face_cmp}
use Rattle.complex_core.specs.Complexes.{ComplexView, IsComplex}
use Rattle.complex_core.specs.Links.{link}
use Rattle.link_check.specs.declared.bad.BadLink.{BadLink}
use Rattle.link_check.specs.BadLinks.{HasLink, IsGoodLink, Lacks}
use Rattle.link_check.specs.Flags.{flags, flags_at}

-- none of n labels is bad
pub record NoneOfSize (k : ComplexView) (n : ℕ) : Type 0 where
  pub good : (s : List ℕ) → HasLink k s → length s ≡ n → IsGoodLink (link k s)

-- the first of n labels that is
pub record IsFirstOfSize (k : ComplexView) (n : ℕ) (bad : BadLink) : Type 0 where
  pub has : HasLink k bad.face
  pub size : length bad.face ≡ n
  pub lacks : Lacks (link k bad.face) bad.fact
  pub first : (s : List ℕ) → HasLink k s → length s ≡ n → face_cmp s bad.face ≡ Less → IsGoodLink (link k s)

-- the flags of the facets over a face that has a link
pub record AreFlagsAt (k : ComplexView) (face : List ℕ) (near : List (List ℕ × List ℕ)) : Type 0 where
  pub complex : IsComplex k
  pub has : HasLink k face
  pub are : near ≡ flags_at (flags (length face) k.facets) face
