-- Laws of Booleans.
use Rattle.std.proofs.Common.{◌≡◌, Bool, true, false, ◌||◌, ◌&&◌, refl}
use Rattle.std.proofs.lemmas.Bool.{or_parts}

pub or_none : (b : Bool) → (b || false) ≡ b
or_none true = refl
or_none false = refl

pub and_false : (b : Bool) → (b && false) ≡ false
and_false true = refl
and_false false = refl

-- where neither of two holds
pub left_off : (a b : Bool) → (a || b) ≡ false → a ≡ false
left_off a b h = (or_parts a b h).0

pub right_off : (a b : Bool) → (a || b) ≡ false → b ≡ false
right_off a b h = (or_parts a b h).1
