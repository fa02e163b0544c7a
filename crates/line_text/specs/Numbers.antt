-- Numbers on lines.
use Rattle.std.specs.Prelude.{ℕ, Bool, false, List, [], ◌∷◌, Option, Some, None, Result, Ok, Err, nat_le, if◌then◌else◌}
use Rattle.std.specs.List.{list_all}
use Rattle.std.specs.Str.Parse.{digits_value}
use Rattle.facet_text.specs.Lines.{Item, line_end, word}
use Rattle.facet_text.specs.Tokens.{between}
use Rattle.line_text.specs.declared.fault.LineFault.{LineFault}
use Rattle.line_text.specs.declared.fault.LineFault.TheVariants as fault

unfoldable pub is_digit : ℕ → Bool
is_digit b = between 48 57 b

-- only decimal digits (no word is empty)
abbrev pub is_number : List ℕ → Bool
is_number text = list_all is_digit text

abbrev pub begins_with_digit : List ℕ → Bool
begins_with_digit [] = false
begins_with_digit (b ∷ bs) = is_digit b

-- a value of 32 bits
abbrev pub small : ℕ → Option ℕ
small n = if nat_le n 4294967295 then Some n else None

-- The items from the next line that has a word, or the end of the input.
unfoldable pub line_start : List Item → List Item
line_start [] = []
line_start (word text at ∷ is) = word text at ∷ is
line_start (line_end at ∷ []) = line_end at ∷ []
line_start (line_end at ∷ i ∷ is) = line_start (i ∷ is)

-- A number on this line: its value where that has 32 bits, its offset, and the items after it. (No list of items is empty.)
unfoldable pub number_at : List Item → Result (Option ℕ × ℕ × List Item) LineFault
number_at [] = Err (fault.Syntax 0)
number_at (line_end at ∷ is) = Err (fault.Syntax at)
number_at (word text at ∷ is) = if is_number text then Ok (small (digits_value 10 text), at, is) else Err (fault.Syntax at)

-- The end of this line is wanted, and stays.
unfoldable pub end_at : List Item → Result (List Item) LineFault
end_at [] = Err (fault.Syntax 0)
end_at (line_end at ∷ is) = Ok (line_end at ∷ is)
end_at (word text at ∷ is) = Err (fault.Syntax at)
