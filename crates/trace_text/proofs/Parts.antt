-- What a part that was read tells of its words.
use Rattle.std.proofs.Common.{◌≡◌, ℕ, Bool, true, false, not, List, [], ◌∷◌, Result, Ok, Err, refl, ap, if◌then◌else◌, Bor}
use Rattle.facet_text.specs.Lines.{Item, line_end, word}
use Rattle.line_text.specs.declared.fault.LineFault.{LineFault}
use Rattle.std.specs.Str.Parse.{digits_value}
use Rattle.complex_core.specs.Labels.{with}
use Rattle.flip_rules.specs.declared.flip.Flip.{Flip}
use Rattle.line_text.specs.declared.label.Labels.TheVariants.{Of}
use Rattle.line_text.specs.Flips.{first_from, flip_at, is_bar, label_then, second_from, side_then}
use Rattle.line_text.specs.Labels.{allows}
use Rattle.trace_text.specs.Grammar.{Reading, after, in_line, labels_of}

pub err_not_ok : {X E : Type 0} (e : E) (x : X) → Err e ≡ Ok x → ⊥
err_not_ok e x h = cc

pub ok_is : {X E : Type 0} (x y : X) (r : Result X E) → r ≡ Ok x → r ≡ Ok y → x ≡ y
ok_is x y r h g = cc

-- both parts were read
pub after_ok : {X Y : Type 0} (r : Reading X) (f : X → Reading Y) (y : Y) → after r f ≡ Ok y → (x : X) × (r ≡ Ok x) × (f x ≡ Ok y)
after_ok (Ok x) f y h = (x, refl, h)
after_ok (Err e) f y h = absurd (err_not_ok e y h)

pub line_ok : {X : Type 0} (r : Result X LineFault) (x : X) → in_line r ≡ Ok x → r ≡ Ok x
line_ok (Ok z) x h = ap Ok (ok_is z x (in_line (Ok z)) refl h)
line_ok (Err e) x h = absurd (err_not_ok _ x h)

-- a test was passed
pub test_ok : {X E : Type 0} (c : Bool) (e : E) (r : Result X E) (x : X) → (if not c then Err e else r) ≡ Ok x → (c ≡ true) × (r ≡ Ok x)
test_ok true e r x h = (refl, h)
test_ok false e r x h = absurd (err_not_ok e x h)

-- or not met
pub test_not : {X E : Type 0} (c : Bool) (e : E) (r : Result X E) (x : X) → (if c then Err e else r) ≡ Ok x → (c ≡ false) × (r ≡ Ok x)
test_not false e r x h = (refl, h)
test_not true e r x h = absurd (err_not_ok e x h)

-- either way
pub either : {X E : Type 0} (Q : Type 0) (c : Bool) (r s : Result X E) (x : X) → (r ≡ Ok x → Q) → (s ≡ Ok x → Q) → (if c then r else s) ≡ Ok x → Q
either Q true r s x f g h = f h
either Q false r s x f g h = g h

-- ---- the labels of a map, wherever it lies

second_same : (m : Bor (List (ℕ × ℕ))) (first side : List ℕ) (is : List Item) → second_from (Of m) first side is ≡ second_from (labels_of m.now) first side is
unfolding second_from allows
second_same m first side [] = refl
second_same m first side (line_end at ∷ is) = refl
second_same m first side (word text at ∷ is) = ap (λ (r : Result (Flip × List Item) LineFault). label_then (Of m) text at side r) (second_same m first (with side (digits_value 10 text)) is)

first_same : (m : Bor (List (ℕ × ℕ))) (side : List ℕ) (is : List Item) → first_from (Of m) side is ≡ first_from (labels_of m.now) side is
unfolding first_from allows
first_same m side [] = refl
first_same m side (line_end at ∷ is) = refl
first_same m side (word text at ∷ is) =
    (λ i. if is_bar text then side_then at side (second_same m side [] is i) else label_then (Of m) text at side (first_same m (with side (digits_value 10 text)) is i))

pub flip_same : (m : Bor (List (ℕ × ℕ))) (is : List Item) → flip_at (Of m) is ≡ flip_at (labels_of m.now) is
flip_same m is = first_same m [] is
