-- What the reader's tests say of a reading.
use Rattle.std.proofs.Common.{◌≡◌, ◌≤◌, ◌<◌, ◌+◌, ◌*◌, ◌-◌, ℕ, zero, suc, Bool, true, false, cond, List, [], ◌∷◌, ◌++◌, length, take, get_or, refl, arith}
use Rattle.std.specs.Prelude.{min}
use Rattle.std.specs.List.{prefix_len, AllPass}
use Rattle.std.specs.Str.Parse.{digits_value}
use Rattle.std.proofs.lemmas.Str.{digit_value_digit}
use Rattle.std.proofs.lemmas.Int.Digits.{digits_value_more}
use Rattle.std.proofs.lemmas.List.{get_or-take}
use Rattle.std.proofs.lemmas.List.Folds.{length-prefix_len}
use Rattle.std.proofs.lemmas.List.Sums.{prefix_len_passes}
use Rattle.facet_text.specs.declared.token.TokenKind.{TokenKind}
use Rattle.facet_text.specs.declared.token.Class.TheVariants.{Digit, Letter}
use Rattle.facet_text.specs.declared.token.TokenKind.TheVariants as kind
use Rattle.facet_text.specs.Tokens.{has, kind_at, more_at, sign_kind, is_long_assign}
use Rattle.facet_text.specs.Grammar.{ArePure, Facets, is_pure}
use Rattle.std.specs.Ordering.{nat_cmp}
use Rattle.complex_core.specs.Labels.{with}
use Rattle.complex_core.proofs.Sets.{some_put}
use Rattle.complex_core.proofs.Members.{each_push}

-- ---- digits

pub digit_range : (b : ℕ) → has Digit b ≡ true → (48 ≤ b) × (b ≤ 57)
unfolding has
digit_range b h = grind arith

-- one more digit, where greater values count as the limit
pub capped_more : (bs : List ℕ) (i v : ℕ) → i < length bs → AllPass (has Digit) bs → v ≡ min (digits_value 10 (take i bs)) 65535
    → min (v * 10 + (get_or bs i 0 - 48)) 65535 ≡ min (digits_value 10 (take (i + 1) bs)) 65535
capped_more bs i v lt digits so_far =
    let range = digit_range (get_or bs i 0) (digits i 0 lt) in
    let more = digits_value_more 10 bs i lt in
    let value = digit_value_digit (get_or bs i 0) range in
    omega (arith, more, value, so_far)

chosen : (l d a : Bool) (s : TokenKind) → (s ≡ kind.Label → ⊥) → cond l kind.Name (cond d kind.Label (cond a kind.Assign s)) ≡ kind.Label → (l ≡ false) × (d ≡ true)
chosen true d a s not e = absurd cc
chosen false true a s not e = (refl, refl)
chosen false false true s not e = absurd cc
chosen false false false s not e = absurd (not e)

no_label : (a b c d e : Bool) → cond a kind.Open (cond b kind.Close (cond c kind.Comma (cond d kind.Assign (cond e kind.Semicolon kind.Other)))) ≡ kind.Label → ⊥
no_label true b c d e h = cc
no_label false true c d e h = cc
no_label false false true d e h = cc
no_label false false false true e h = cc
no_label false false false false true h = cc
no_label false false false false false h = cc

-- the bytes of a label are digits
pub label_digits : (b : ℕ) (bs : List ℕ) → kind_at b bs ≡ kind.Label → AllPass (has Digit) (b ∷ take (more_at b bs) bs)
unfolding kind_at more_at
label_digits b bs e =
    let is = chosen (has Letter b) (has Digit b) (is_long_assign b bs) (sign_kind b) (no_label _ _ _ _ _) e in
    rw (is.0, is.1) (digits_of b bs is.1)
  where
    digits_of : (b : ℕ) (bs : List ℕ) → has Digit b ≡ true → AllPass (has Digit) (b ∷ take (prefix_len (has Digit) bs) bs)
    digits_of b bs first zero d lt = first
    digits_of b bs first (suc k) d lt =
        let inside : k < prefix_len (has Digit) bs = omega (arith, length-prefix_len (has Digit) bs) in
        rw get_or-take (prefix_len_passes (has Digit) bs k d inside)

-- ---- facets

-- one more facet of the first one's size
pub pure_more : (fs : Facets) (g : List ℕ) → ArePure fs → is_pure fs g ≡ true → 2 ≤ length g → length g ≤ 7 → ArePure (fs ++ g ∷ [])
pure_more [] g pure is two seven = ((refl, two, seven), tt)
pure_more (f ∷ fs) g pure is two seven =
    let same : length g ≡ length f = grind arith in
    each_push (λ (h : List ℕ). (length h ≡ length f) × (2 ≤ length h) × (length h ≤ 7)) (f ∷ fs) g pure (same, two, seven)

-- a facet with one more label has some
pub grown : (n : ℕ) (labels more : List ℕ) → more ≡ with labels n → length (with labels n) ≤ 7 → (0 < length more) × (length more ≤ 7)
grown n labels more is few = rw is (some_put nat_cmp n labels, few)
