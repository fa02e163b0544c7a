-- An input that is read by lines.
use Rattle.std.specs.Prelude.{◌≡◌, ◌+◌, ◌==◌, ◌++◌, ℕ, Bool, not, zero, suc, List, [], ◌∷◌, length, drop, if◌then◌else◌}
use Rattle.std.specs.List.{prefix_len, take_while}
use Rattle.facet_text.specs.Tokens.{is_blank}
use Rattle.facet_text.specs.declared.word.Word.{Word}

abbrev pub is_feed : ℕ → Bool
is_feed b = b == 10

abbrev pub is_solid : ℕ → Bool
is_solid b = not (is_blank b)

-- A word, with its bytes and the offset of the first, or a line's end: a line feed, or the end of the input.
pub data Item : Type 0 where
  word : List ℕ → ℕ → Item
  line_end : ℕ → Item

-- The items of the bytes, of which the first stands at an offset, after as many bytes as are passed over.
unfoldable pub items_past : ℕ → ℕ → List ℕ → List Item
items_past n at [] = line_end at ∷ []
items_past (suc n) at (b ∷ bs) = items_past n (at + 1) bs
items_past zero at (b ∷ bs) =
    if is_feed b then line_end at ∷ items_past zero (at + 1) bs
    else if is_blank b then items_past zero (at + 1) bs
    else word (b ∷ take_while is_solid bs) at ∷ items_past (prefix_len is_solid bs) (at + 1) bs

-- the items of the input from an offset on
abbrev pub items : List ℕ → ℕ → List Item
items bytes from = items_past 0 from (drop from bytes)

-- only line ends
abbrev pub AreEnds : List Item → Type 0
AreEnds [] = Unit {0}
AreEnds (line_end at ∷ is) = AreEnds is
AreEnds (word text at ∷ is) = ⊥

abbrev pub view : Word → Item
view w = word w.text.now w.start

-- so many line ends stand before these items
abbrev pub AfterEnds : List Item → ℕ → List Item → Type 0
AfterEnds is n rest = (ends : List Item) × AreEnds ends × (length ends ≡ n) × (is ≡ ends ++ rest)

abbrev pub feeds_in : ℕ → ℕ
feeds_in b = if is_feed b then 1 else 0
