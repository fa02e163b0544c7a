-- The laws of stars under flips.
use Rattle.std.specs.Prelude.{◌≡◌, true, false, ℕ, Bool, List, Ok, Some}
use Rattle.complex_core.specs.Labels.{has}
use Rattle.complex_core.specs.Complexes.{ComplexView}
use Rattle.flip_rules.specs.Flips.{broken_rule, flipped, replay}
use Rattle.flip_rules.specs.declared.flip.Flip.{Flip}
use Rattle.star_laws.specs.Stars.{star, Rises, flips_touch, LabelsPass, AlikeOn, EndAlikeOn, star_after, star_after_all}

-- a legal flip changes no star of a label outside A ∪ B
abbrev pub FlipKeepsStars : Type 0
FlipKeepsStars = (k : ComplexView) (a b : List ℕ) (p : ℕ) → Rises k → broken_rule k a b ≡ Ok tt → has a p ≡ false → has b p ≡ false → star (flipped k a b).facets p ≡ star k.facets p

-- the first rule that a flip breaks is seen in the star of one label of A and the star of one label of B
abbrev pub BrokenRuleSeenOnStars : Type 0
BrokenRuleSeenOnStars = (k l : ComplexView) (a b : List ℕ) (x y : ℕ) → k.dim ≡ l.dim → has a x ≡ true → has b y ≡ true → star k.facets x ≡ star l.facets x → star k.facets y ≡ star l.facets y → broken_rule k a b ≡ broken_rule l a b

-- a label's star after a flip is seen in its star before
abbrev pub StarAfterFlip : Type 0
StarAfterFlip = (k : ComplexView) (a b : List ℕ) (p : ℕ) → star (flipped k a b).facets p ≡ star_after (star k.facets p) a b p

-- so complexes that are alike on some labels, and so on those of A ∪ B, judge a flip alike and are alike after it
pub record FlipSeenOnStars (held : ℕ → Bool) (k l : ComplexView) (a b : List ℕ) : Type 0 where
  pub broken_rule : broken_rule k a b ≡ broken_rule l a b
  pub after : AlikeOn held (flipped k a b) (flipped l a b)

abbrev pub FlipOnAlike : Type 0
FlipOnAlike = (held : ℕ → Bool) (k l : ComplexView) (a b : List ℕ) → AlikeOn held k l → ((p : ℕ) → has a p ≡ true → held p ≡ true) → ((p : ℕ) → has b p ≡ true → held p ≡ true) → FlipSeenOnStars held k l a b

-- complexes that are alike on the labels of some flips replay them alike: to ends that are alike, or neither to an end
abbrev pub ReplayOnAlike : Type 0
ReplayOnAlike = (held : ℕ → Bool) (k l : ComplexView) (flips : List Flip) → AlikeOn held k l → LabelsPass held flips → EndAlikeOn held (replay k flips) (replay l flips)

-- a replay changes no star of a label that none of its flips has
abbrev pub ReplayKeepsStars : Type 0
ReplayKeepsStars = (k m : ComplexView) (flips : List Flip) (p : ℕ) → Rises k → replay k flips ≡ Some m → flips_touch p flips ≡ false → star m.facets p ≡ star k.facets p

-- a label's star after a replay is seen in its star before
abbrev pub StarAfterReplay : Type 0
StarAfterReplay = (k m : ComplexView) (flips : List Flip) (p : ℕ) → replay k flips ≡ Some m → star m.facets p ≡ star_after_all (star k.facets p) flips p
