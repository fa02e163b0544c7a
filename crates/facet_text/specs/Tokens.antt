-- The tokens of an input.
use Rattle.std.specs.Prelude.{◌+◌, ◌==◌, ◌&&◌, ◌||◌, ℕ, Bool, false, zero, suc, List, [], ◌∷◌, take, drop, nat_le, if◌then◌else◌}
use Rattle.std.specs.List.{prefix_len}
use Rattle.facet_text.specs.declared.token.Class.{Class}
use Rattle.facet_text.specs.declared.token.Class.TheVariants.{Blank, Digit, Letter, NameByte}
use Rattle.facet_text.specs.declared.token.Token.{Token}
use Rattle.facet_text.specs.declared.token.TokenKind.{TokenKind}
use Rattle.facet_text.specs.declared.token.TokenKind.TheVariants as kind

abbrev pub between : ℕ → ℕ → ℕ → Bool
between low high b = nat_le low b && nat_le b high

-- a space, a tab, a carriage return or a line feed
abbrev pub is_blank : ℕ → Bool
is_blank b = b == 32 || b == 9 || b == 13 || b == 10

-- which bytes a class has
unfoldable pub has : Class → ℕ → Bool
has Blank b = is_blank b
has Digit b = between 48 57 b
has Letter b = between 65 90 b || between 97 122 b
has NameByte b = between 65 90 b || between 97 122 b || between 48 57 b || b == 95 || b == 35 || b == 46 || b == 45

-- A token: its kind, its bytes and the offset of the first.
abbrev pub Spot : Type 0
Spot = TokenKind × List ℕ × ℕ

abbrev pub view : Token → Spot
view t = (t.kind, t.text.now, t.start)

-- the kind of a single byte that is no letter and no digit
abbrev pub sign_kind : ℕ → TokenKind
sign_kind b =
    if b == 91 then kind.Open else if b == 93 then kind.Close else if b == 44 then kind.Comma
    else if b == 61 then kind.Assign else if b == 59 then kind.Semicolon else kind.Other

-- `:=` begins with the byte b
abbrev pub is_long_assign : ℕ → List ℕ → Bool
is_long_assign b [] = false
is_long_assign b (c ∷ cs) = b == 58 && c == 61

-- The token that begins with the byte b, before these bytes: its kind, and how many of them belong to it.
unfoldable pub kind_at : ℕ → List ℕ → TokenKind
kind_at b bs =
    if has Letter b then kind.Name else if has Digit b then kind.Label
    else if is_long_assign b bs then kind.Assign else sign_kind b

unfoldable pub more_at : ℕ → List ℕ → ℕ
more_at b bs =
    if has Letter b then prefix_len (has NameByte) bs else if has Digit b then prefix_len (has Digit) bs
    else if is_long_assign b bs then 1 else 0

-- The tokens of the bytes, of which the first stands at an offset, after as many bytes as are passed over.
unfoldable pub tokens_past : ℕ → ℕ → List ℕ → List Spot
tokens_past n at [] = []
tokens_past (suc n) at (b ∷ bs) = tokens_past n (at + 1) bs
tokens_past zero at (b ∷ bs) =
    if has Blank b then tokens_past zero (at + 1) bs
    else (kind_at b bs, b ∷ take (more_at b bs) bs, at) ∷ tokens_past (more_at b bs) (at + 1) bs

-- the tokens of the input from an offset on
abbrev pub tokens : List ℕ → ℕ → List Spot
tokens bytes from = tokens_past 0 from (drop from bytes)
