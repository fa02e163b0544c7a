-- How the tokens go on from offset to offset.
use Rattle.std.proofs.Common.{◌≡◌, ◌≤◌, ◌<◌, ◌+◌, ◌-◌, ℕ, zero, suc, true, false, cond, List, [], ◌∷◌, length, take, drop, get_or, refl, sym, ap, ◌∙◌, arith, inl, inr, add-zero, add-one, length-drop, drop-cons}
use Rattle.std.specs.List.{prefix_len, AllPass}
use Rattle.std.proofs.lemmas.Bool.{cases_Bool}
use Rattle.std.specs.Prelude.{slice_range}
use Rattle.std.proofs.Math.Seq.{drop-length}
use Rattle.std.proofs.lemmas.List.{drop-drop, get_or-drop, get_or-take, length-take}
use Rattle.std.proofs.lemmas.List.Sums.{prefix_len-le-length, prefix_len_passes, prefix_len_stops}
use Rattle.facet_text.specs.declared.token.Class.TheVariants.{Blank, Digit, NameByte}
use Rattle.facet_text.specs.Tokens.{has, is_long_assign, kind_at, more_at, tokens, tokens_past, Spot}

-- bytes that are passed over make no token
pub tokens_past-drop : (n at : ℕ) (bs : List ℕ) → n ≤ length bs → tokens_past n at bs ≡ tokens_past 0 (at + n) (drop n bs)
unfolding tokens_past
tokens_past-drop zero at bs h = rw add-zero refl
tokens_past-drop (suc n) at [] h = absurd (omega arith)
tokens_past-drop (suc n) at (b ∷ bs) h =
    let offset : at + 1 + n ≡ at + suc n = omega arith in
    tokens_past-drop n (at + 1) bs (omega arith) ∙ ap (λ (k : ℕ). tokens_past 0 k (drop n bs)) offset

long_more : (b : ℕ) (bs : List ℕ) → cond (is_long_assign b bs) 1 0 ≤ length bs
long_more b [] = omega arith
long_more b (c ∷ bs) = grind arith

pub more_at-le : (b : ℕ) (bs : List ℕ) → more_at b bs ≤ length bs
unfolding more_at
more_at-le b bs = grind (arith, long_more b bs, prefix_len-le-length (has NameByte) bs, prefix_len-le-length (has Digit) bs)

-- as many blanks are passed over as stand first
pub past_blanks : (at : ℕ) (bs : List ℕ) → tokens_past 0 at bs ≡ tokens_past 0 (at + prefix_len (has Blank) bs) (drop (prefix_len (has Blank) bs) bs)
unfolding tokens_past
past_blanks at [] = refl
past_blanks at (b ∷ bs) =
    elim (cases_Bool (has Blank b)) [
      | inl blank ↦
          let offset : at + 1 + prefix_len (has Blank) bs ≡ at + suc (prefix_len (has Blank) bs) = omega arith in
          let one : 1 + prefix_len (has Blank) bs ≡ suc (prefix_len (has Blank) bs) = omega arith in
          rw (blank, past_blanks (at + 1) bs, offset, one) refl
      | inr other ↦ rw (other, add-zero, other) refl
    ]

-- the token that begins at a byte, and the tokens after it
pub one_token : (at b : ℕ) (bs : List ℕ) → has Blank b ≡ false
    → tokens_past 0 at (b ∷ bs) ≡ (kind_at b bs, b ∷ take (more_at b bs) bs, at) ∷ tokens_past 0 (at + 1 + more_at b bs) (drop (more_at b bs) bs)
unfolding tokens_past
one_token at b bs h = rw h (ap (λ (ts : List Spot). (kind_at b bs, b ∷ take (more_at b bs) bs, at) ∷ ts) (tokens_past-drop (more_at b bs) (at + 1) bs (more_at-le b bs)))

pub tokens-blanks : (bs : List ℕ) (i j : ℕ) → j ≡ i + prefix_len (has Blank) (drop i bs) → tokens bs i ≡ tokens bs j
tokens-blanks bs i j e = past_blanks i (drop i bs) ∙ rw (drop-drop (prefix_len (has Blank) (drop i bs)) i bs, ← e) refl

pub tokens-end : (bs : List ℕ) → tokens bs (length bs) ≡ []
unfolding tokens_past
tokens-end bs = rw drop-length refl

-- the text of the token that begins at a byte is what stands at its span
pub span_text : (bs : List ℕ) (i j : ℕ) → i < length bs → j ≡ i + 1 + more_at (get_or bs i 0) (drop (i + 1) bs)
    → slice_range bs i j ≡ get_or bs i 0 ∷ take (more_at (get_or bs i 0) (drop (i + 1) bs)) (drop (i + 1) bs)
span_text bs i j lt e =
    let cut : drop i bs ≡ get_or bs i 0 ∷ drop (i + 1) bs = rw add-one (drop-cons bs i 0 lt) in
    let width : j - i ≡ suc (more_at (get_or bs i 0) (drop (i + 1) bs)) = omega arith in
    rw (width, cut) refl

pub tokens-one : (bs : List ℕ) (i j : ℕ) → i < length bs → has Blank (get_or bs i 0) ≡ false → j ≡ i + 1 + more_at (get_or bs i 0) (drop (i + 1) bs)
    → tokens bs i ≡ (kind_at (get_or bs i 0) (drop (i + 1) bs), slice_range bs i j, i) ∷ tokens bs j
tokens-one bs i j lt h e =
    let b = get_or bs i 0 in
    let rest = drop (i + 1) bs in
    let m = more_at b rest in
    let cut : drop i bs ≡ b ∷ rest = rw add-one (drop-cons bs i 0 lt) in
    let text : b ∷ take m rest ≡ slice_range bs i j = sym (span_text bs i j lt e) in
    let after : tokens_past 0 (i + 1 + m) (drop m rest) ≡ tokens bs j = rw (drop-drop m (i + 1) bs, ← e) refl in
    ap (tokens_past 0 i) cut ∙ one_token i b rest h ∙ rw (text, after) refl

-- only blanks are left, or a byte that is none stands after those that are passed over
pub all_blank : (bs : List ℕ) (i : ℕ) → length bs ≡ i + prefix_len (has Blank) (drop i bs) → AllPass (has Blank) (drop i bs)
all_blank bs i e k d lt = prefix_len_passes (has Blank) (drop i bs) k d (omega (arith, length-drop i bs))

pub not_blank : (bs : List ℕ) (i j : ℕ) → j ≡ i + prefix_len (has Blank) (drop i bs) → j < length bs → has Blank (get_or bs j 0) ≡ false
not_blank bs i j e lt =
    let stops = prefix_len_stops (has Blank) (drop i bs) 0 (omega (arith, length-drop i bs)) in
    rw (e, ← get_or-drop i bs (prefix_len (has Blank) (drop i bs)) 0) stops

pub not_all_blank : (bs : List ℕ) (i j : ℕ) → j ≡ i + prefix_len (has Blank) (drop i bs) → j < length bs → AllPass (has Blank) (drop i bs) → true ≡ false
not_all_blank bs i j e lt all =
    let other = prefix_len_stops (has Blank) (drop i bs) 0 (omega (arith, length-drop i bs)) in
    sym (all (prefix_len (has Blank) (drop i bs)) 0 (omega (arith, length-drop i bs))) ∙ other

pub before_blank : (bs : List ℕ) (i j : ℕ) → j ≡ i + prefix_len (has Blank) (drop i bs) → AllPass (has Blank) (slice_range bs i j)
before_blank bs i j e k d lt =
    let width : j - i ≡ prefix_len (has Blank) (drop i bs) = omega arith in
    let inside : k < prefix_len (has Blank) (drop i bs) = omega (arith, length-take (j - i) (drop i bs)) in
    let same : get_or (take (j - i) (drop i bs)) k d ≡ get_or (drop i bs) k d = get_or-take (j - i) (drop i bs) k d (omega arith) in
    rw same (prefix_len_passes (has Blank) (drop i bs) k d inside)
