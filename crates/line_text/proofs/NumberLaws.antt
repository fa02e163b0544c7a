-- The digits of numbers.
use Rattle.std.proofs.Common.{◌≡◌, ◌≤◌, ◌<◌, ◌+◌, ◌*◌, ◌-◌, ℕ, true, List, length, take, get_or, arith}
use Rattle.std.specs.Prelude.{min}
use Rattle.std.specs.Str.Parse.{digits_value}
use Rattle.std.proofs.lemmas.Str.{digit_value_digit}
use Rattle.std.proofs.lemmas.Int.Digits.{digits_value_more}
use Rattle.std.proofs.lemmas.List.Sums.{AllPass-from_list_all}
use Rattle.line_text.specs.Numbers.{is_digit, is_number}

digit_range : (b : ℕ) → is_digit b ≡ true → (48 ≤ b) × (b ≤ 57)
unfolding is_digit
digit_range b h = grind arith

pub digit_at : (bs : List ℕ) (i : ℕ) → is_number bs ≡ true → i < length bs → (48 ≤ get_or bs i 0) × (get_or bs i 0 ≤ 57)
digit_at bs i all lt = digit_range (get_or bs i 0) (AllPass-from_list_all is_digit bs all i 0 lt)

-- one more digit, where greater values count as the limit
pub capped_more : (bs : List ℕ) (i v : ℕ) → i < length bs → is_number bs ≡ true → v ≡ min (digits_value 10 (take i bs)) 4294967296
    → min (v * 10 + (get_or bs i 0 - 48)) 4294967296 ≡ min (digits_value 10 (take (i + 1) bs)) 4294967296
capped_more bs i v lt digits so_far =
    let range = digit_at bs i digits lt in
    let more = digits_value_more 10 bs i lt in
    let value = digit_value_digit (get_or bs i 0) range in
    omega (arith, more, value, so_far)
