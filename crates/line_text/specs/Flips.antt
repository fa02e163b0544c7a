-- A flip on a line: the labels of A, the word `|`, and the labels of B.
use Rattle.std.specs.Prelude.{◌==◌, ℕ, Bool, not, List, [], ◌∷◌, length, Result, Ok, Err, if◌then◌else◌}
use Rattle.std.specs.Str.{bytes_eq}
use Rattle.std.specs.Str.Parse.{digits_value}
use Rattle.complex_core.specs.Labels.{has, with}
use Rattle.facet_text.specs.Lines.{Item, line_end, word}
use Rattle.flip_rules.specs.declared.flip.Flip.{Flip}
use Rattle.line_text.specs.declared.fault.LineFault.{LineFault}
use Rattle.line_text.specs.declared.fault.LineFault.TheVariants as fault
use Rattle.line_text.specs.declared.label.Labels.{Labels}
use Rattle.line_text.specs.Labels.{allows}
use Rattle.line_text.specs.Numbers.{is_number}

-- a flip and the items after it, or the first fault
abbrev pub Reading : Type 0
Reading = Result (Flip × List Item) LineFault

-- what a word among the labels of a side leads to: its first fault, or what `next` says
abbrev pub label_then : Labels → List ℕ → ℕ → List ℕ → Reading → Reading
label_then labels text at side next =
    if not (is_number text) then Err (fault.Syntax at)
    else if length side == 7 then Err (fault.Syntax at)
    else if not (allows labels (digits_value 10 text)) then Err (fault.Label at)
    else if has side (digits_value 10 text) then Err (fault.Label at)
    else next

-- a side that ends without a label is a fault at its end
abbrev pub side_then : ℕ → List ℕ → Reading → Reading
side_then at side next = if length side == 0 then Err (fault.Syntax at) else next

abbrev pub is_bar : List ℕ → Bool
is_bar text = bytes_eq text (124 ∷ [])

-- The labels of B up to the line's end, which stays. (No list of items is empty.)
unfoldable pub second_from : Labels → List ℕ → List ℕ → List Item → Reading
second_from labels first side [] = Err (fault.Syntax 0)
second_from labels first side (word text at ∷ is) =
    label_then labels text at side (second_from labels first (with side (digits_value 10 text)) is)
second_from labels first side (line_end at ∷ is) =
    side_then at side (Ok (record { a = first; b = side }, line_end at ∷ is))

-- The labels of A up to the word `|`.
unfoldable pub first_from : Labels → List ℕ → List Item → Reading
first_from labels side [] = Err (fault.Syntax 0)
first_from labels side (word text at ∷ is) =
    if is_bar text then side_then at side (second_from labels side [] is)
    else label_then labels text at side (first_from labels (with side (digits_value 10 text)) is)
first_from labels side (line_end at ∷ is) = Err (fault.Syntax at)

-- The flip on the rest of this line, with the labels of each side rising.
abbrev pub flip_at : Labels → List Item → Reading
flip_at labels is = first_from labels [] is
