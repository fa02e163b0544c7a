-- A flip that is written is read again.
use Rattle.std.proofs.Common.{◌≡◌, ◌≤◌, ◌<◌, ◌+◌, ℕ, suc, true, false, List, [], ◌∷◌, ◌++◌, length, drop, Ok, refl, sym, ap, ◌∙◌, arith, append_assoc, length-append, nat_eq}
use Rattle.std.specs.List.{AllByRecursion, flat_map, list_all, prefix_len, take_while}
use Rattle.std.specs.Fmt.{decimal}
use Rattle.std.specs.Char.{digit_value}
use Rattle.std.specs.Str.Parse.{AllDigits, digits_value}
use Rattle.std.specs.List.Sorted.{IsStrictlySortedBy}
use Rattle.std.specs.Ordering.{nat_cmp}
use Rattle.std.proofs.lemmas.Str.Parse.{digit_from_value}
use Rattle.std.proofs.lemmas.Fmt.{decimal_is_IsNumeral}
use Rattle.std.proofs.lemmas.Bool.{ne_eqb}
use Rattle.std.proofs.lemmas.List.{append-nil, drop_at, take_at}
use Rattle.complex_core.specs.Labels.{has, with}
use Rattle.complex_core.proofs.Faces.{less_cmp}
use Rattle.complex_core.proofs.Sets.{above_head, above_tail}
use Rattle.facet_text.specs.Tokens.{is_blank}
use Rattle.facet_text.specs.Lines.{Item, is_solid, items, items_past, line_end, word}
use Rattle.facet_text.proofs.LineLaws.{feed_here, pass_here, word_step}
use Rattle.flip_rules.specs.declared.flip.Flip.{Flip}
use Rattle.line_text.specs.declared.label.Labels.{Labels}
use Rattle.line_text.specs.Labels.{allows}
use Rattle.line_text.specs.Numbers.{begins_with_digit, is_digit, is_number}
use Rattle.line_text.specs.Flips.{Reading, first_from, flip_at, is_bar, label_then, second_from}
use Rattle.line_text.specs.Writing.{HasSides, flip_text, set_off, spaced}
use Rattle.std.specs.Cmp.{first_so}
use Rattle.facet_text.proofs.Again.{put_last, AtMost}

-- ---- one word

abbrev AllSolid : List ℕ → Type 0
AllSolid w = AllByRecursion (λ b. is_blank b ≡ false) w

solid_len : (w : List ℕ) (c : ℕ) (rest : List ℕ) → AllSolid w → is_blank c ≡ true → prefix_len is_solid (w ++ c ∷ rest) ≡ length w
solid_len [] c rest all blank = rw blank refl
solid_len (b ∷ w) c rest all blank = rw (all.0, solid_len w c rest all.1 blank) (omega arith)

solid_front : (w : List ℕ) (c : ℕ) (rest : List ℕ) → AllSolid w → is_blank c ≡ true → take_while is_solid (w ++ c ∷ rest) ≡ w
solid_front w c rest all blank = rw (solid_len w c rest all blank) (take_at w (c ∷ rest) (length w) refl)

-- a word before a blank
pub word_first : (at : ℕ) (w : List ℕ) (c : ℕ) (rest : List ℕ) → 0 < length w → AllSolid w → is_blank c ≡ true
    → items_past 0 at (w ++ c ∷ rest) ≡ word w at ∷ items_past 0 (at + length w) (c ∷ rest)
word_first at [] c rest some all blank = absurd (omega arith)
word_first at (b ∷ w) c rest some all blank =
    let offset : at + 1 + length w ≡ at + suc (length w) = omega arith in
    word_step at b (w ++ c ∷ rest) all.0
    ∙ rw (solid_front w c rest all.1 blank, solid_len w c rest all.1 blank, drop_at w (c ∷ rest) (length w) refl, offset) refl

pub complex_first : (at : ℕ) (rest : List ℕ) → items_past 0 at (32 ∷ rest) ≡ items_past 0 (at + 1) rest
complex_first at rest = pass_here at 32 rest refl refl

pub feed_first : (at : ℕ) (rest : List ℕ) → items_past 0 at (10 ∷ rest) ≡ line_end at ∷ items_past 0 (at + 1) rest
feed_first at rest = feed_here at 10 rest refl

-- ---- numbers

digit_only : (d : ℕ) → digit_value d < 10 → (is_digit d ≡ true) × (is_blank d ≡ false)
unfolding is_digit
digit_only d h =
    let range = digit_from_value d h in
    (grind arith, grind arith)

digits_number : (ds : List ℕ) → AllDigits 10 ds → is_number ds ≡ true
digits_number [] all = refl
digits_number (d ∷ ds) all = rw ((digit_only d all.0).0, digits_number ds all.1) refl

digits_solid : (ds : List ℕ) → AllDigits 10 ds → AllSolid ds
digits_solid [] all = tt
digits_solid (d ∷ ds) all = ((digit_only d all.0).1, digits_solid ds all.1)

-- what is known of the digits of a number
pub record IsNumber (n : ℕ) : Type 0 where
  pub some : 0 < length (decimal n)
  pub number : is_number (decimal n) ≡ true
  pub solid : AllSolid (decimal n)
  pub value : digits_value 10 (decimal n) ≡ n

pub decimal_number : (n : ℕ) → n ≤ 4294967295 → IsNumber n
decimal_number n small =
    let is = decimal_is_IsNumeral n (omega arith) in
    record { some = is.0.0; number = digits_number (decimal n) is.0.1; solid = digits_solid (decimal n) is.0.1; value = is.1 }

pub number_first : (at n c : ℕ) (rest : List ℕ) → n ≤ 4294967295 → is_blank c ≡ true
    → items_past 0 at (decimal n ++ c ∷ rest) ≡ word (decimal n) at ∷ items_past 0 (at + length (decimal n)) (c ∷ rest)
number_first at n c rest small blank = let is = decimal_number n small in word_first at (decimal n) c rest is.some is.solid blank

-- ---- labels

none_equal : (n low : ℕ) (done : List ℕ) → low < n → AtMost low done → has done n ≡ false
none_equal n low [] lt all = refl
none_equal n low (x ∷ xs) lt all =
    let other : nat_eq x n ≡ false = ne_eqb x n (λ e. omega (arith, all.0)) in
    rw (other, none_equal n low xs lt all.1) refl

at_most_push : (low n : ℕ) (done : List ℕ) → low < n → AtMost low done → AtMost n (done ++ n ∷ [])
at_most_push low n [] lt all = (omega arith, tt)
at_most_push low n (x ∷ xs) lt all = (omega (arith, all.0), at_most_push low n xs lt all.1)

-- the labels rise from more than `low`, and are allowed
abbrev Rises : Labels → ℕ → List ℕ → Type 0
Rises labels low [] = Unit {0}
Rises labels low (n ∷ ns) = (low < n) × (allows labels n ≡ true) × Rises labels n ns

rises : (labels : Labels) (low : ℕ) (side : List ℕ) → IsStrictlySortedBy nat_cmp (low ∷ side) → AllByRecursion (λ n. allows labels n ≡ true) side → Rises labels low side
rises labels low [] sorted all = tt
rises labels low (n ∷ ns) sorted all =
    (less_cmp low n (above_head nat_cmp low (n ∷ ns) sorted).0, all.0, rises labels n ns (above_tail nat_cmp low (n ∷ ns) sorted) all.1)

allowed_small : (labels : Labels) (n : ℕ) → allows labels n ≡ true → n ≤ 4294967295
unfolding allows
allowed_small labels n h = grind arith

label_passes : (labels : Labels) (at n low : ℕ) (done : List ℕ) (next : Reading) → low < n → allows labels n ≡ true → AtMost low done → length done < 7
    → label_then labels (decimal n) at done next ≡ next
label_passes labels at n low done next lt allowed all room =
    let is = decimal_number n (allowed_small labels n allowed) in
    let few : nat_eq (length done) 7 ≡ false = ne_eqb (length done) 7 (λ e. omega (arith, e)) in
    rw (is.number, is.value, few, allowed, none_equal n low done lt all) refl

-- a label of B, and a label of A, and what follows it
second_label : (labels : Labels) (first done : List ℕ) (at n low c : ℕ) (rest : List ℕ) → low < n → allows labels n ≡ true → AtMost low done → length done < 7 → is_blank c ≡ true
    → second_from labels first done (items_past 0 at (32 ∷ decimal n ++ c ∷ rest)) ≡ second_from labels first (done ++ n ∷ []) (items_past 0 (at + 1 + length (decimal n)) (c ∷ rest))
unfolding second_from
second_label labels first done at n low c rest lt allowed all room blank =
    let small = allowed_small labels n allowed in
    let put : with done (digits_value 10 (decimal n)) ≡ done ++ n ∷ [] = rw (decimal_number n small).value (put_last n low done lt all) in
    rw (complex_first at (decimal n ++ c ∷ rest), number_first (at + 1) n c rest small blank)
    (label_passes labels (at + 1) n low done _ lt allowed all room ∙ rw put refl)

digit_low : (b : ℕ) → is_digit b ≡ true → b ≤ 57
unfolding is_digit
digit_low b h = grind arith

not_bar : (text : List ℕ) → is_number text ≡ true → is_bar text ≡ false
not_bar [] h = refl
not_bar (b ∷ bs) h =
    let low = digit_low b (first_so (is_digit b) (list_all is_digit bs) h) in
    let other : nat_eq b 124 ≡ false = ne_eqb b 124 (λ e. omega (arith, e, low)) in
    rw other refl

no_bar : (labels : Labels) (done text : List ℕ) (at : ℕ) (is : List Item) → is_number text ≡ true
    → first_from labels done (word text at ∷ is) ≡ label_then labels text at done (first_from labels (with done (digits_value 10 text)) is)
unfolding first_from
no_bar labels done text at is number = rw (not_bar text number) refl

first_label : (labels : Labels) (done : List ℕ) (at n low : ℕ) (rest : List ℕ) → low < n → allows labels n ≡ true → AtMost low done → length done < 7
    → first_from labels done (items_past 0 at (spaced n ++ rest)) ≡ first_from labels (done ++ n ∷ []) (items_past 0 (at + length (decimal n) + 1) rest)
first_label labels done at n low rest lt allowed all room =
    let small = allowed_small labels n allowed in
    let is = decimal_number n small in
    let put : with done (digits_value 10 (decimal n)) ≡ done ++ n ∷ [] = rw is.value (put_last n low done lt all) in
    ap (λ (bs : List ℕ). first_from labels done (items_past 0 at bs)) (append_assoc (decimal n) (32 ∷ []) rest)
    ∙ ap (first_from labels done) (number_first at n 32 rest small refl)
    ∙ no_bar labels done (decimal n) at (items_past 0 (at + length (decimal n)) (32 ∷ rest)) is.number
    ∙ label_passes labels at n low done _ lt allowed all room
    ∙ rw (put, complex_first (at + length (decimal n)) rest) refl

-- the rest of the labels of A
firsts_again : (labels : Labels) (ns done : List ℕ) (at low p : ℕ) (rest : List ℕ) → Rises labels low ns → AtMost low done → length done + length ns ≤ 7 → p ≡ at + length (flat_map spaced ns)
    → first_from labels done (items_past 0 at (flat_map spaced ns ++ rest)) ≡ first_from labels (done ++ ns) (items_past 0 p rest)
firsts_again labels [] done at low p rest rising all room offset =
    let here : p ≡ at = omega (arith, offset) in
    rw (here, append-nil done) refl
firsts_again labels (n ∷ ns) done at low p rest rising all room offset =
    let tail = flat_map spaced ns ++ rest in
    let next = at + length (decimal n) + 1 in
    ap (λ (bs : List ℕ). first_from labels done (items_past 0 at bs)) (append_assoc (spaced n) (flat_map spaced ns) rest)
    ∙ first_label labels done at n low tail rising.0 rising.1 all (omega arith)
    ∙ firsts_again labels ns (done ++ n ∷ []) next n p rest rising.2 (at_most_push low n done rising.0 all) (omega (arith, length-append done (n ∷ [])))
    (omega (arith, offset, length-append (spaced n) (flat_map spaced ns), length-append (decimal n) (32 ∷ [])))
    ∙ ap (λ (side : List ℕ). first_from labels side (items_past 0 p rest)) (append_assoc done (n ∷ []) ns)

-- behind a label of B a blank stands
blank_next : (ns rest : List ℕ) → (c : ℕ) × (tail : List ℕ) × (flat_map set_off ns ++ 10 ∷ rest ≡ c ∷ tail) × (is_blank c ≡ true)
blank_next [] rest = (10, rest, refl, refl)
blank_next (n ∷ ns) rest = (32, (decimal n ++ flat_map set_off ns) ++ 10 ∷ rest, refl, refl)

-- the rest of the labels of B
seconds_again : (labels : Labels) (first ns done : List ℕ) (at low p : ℕ) (rest : List ℕ) → Rises labels low ns → AtMost low done → length done + length ns ≤ 7 → p ≡ at + length (flat_map set_off ns)
    → second_from labels first done (items_past 0 at (flat_map set_off ns ++ 10 ∷ rest)) ≡ second_from labels first (done ++ ns) (items_past 0 p (10 ∷ rest))
seconds_again labels first [] done at low p rest rising all room offset =
    let here : p ≡ at = omega (arith, offset) in
    rw (here, append-nil done) refl
seconds_again labels first (n ∷ ns) done at low p rest rising all room offset =
    let next = at + 1 + length (decimal n) in
    let blank = blank_next ns rest in
    let text : flat_map set_off (n ∷ ns) ++ 10 ∷ rest ≡ 32 ∷ (decimal n ++ blank.0 ∷ blank.1) =
    append_assoc (set_off n) (flat_map set_off ns) (10 ∷ rest) ∙ ap (λ (t : List ℕ). set_off n ++ t) blank.2 in
    ap (λ (bs : List ℕ). second_from labels first done (items_past 0 at bs)) text
    ∙ second_label labels first done at n low blank.0 blank.1 rising.0 rising.1 all (omega arith) blank.3
    ∙ ap (λ (bs : List ℕ). second_from labels first (done ++ n ∷ []) (items_past 0 next bs)) (sym blank.2)
    ∙ seconds_again labels first ns (done ++ n ∷ []) next n p rest rising.2 (at_most_push low n done rising.0 all) (omega (arith, length-append done (n ∷ [])))
    (omega (arith, offset, length-append (set_off n) (flat_map set_off ns)))
    ∙ ap (λ (side : List ℕ). second_from labels first side (items_past 0 p (10 ∷ rest))) (append_assoc done (n ∷ []) ns)

-- ---- a flip

bar_first : (at : ℕ) (ns rest : List ℕ) → items_past 0 at (124 ∷ (flat_map set_off ns ++ 10 ∷ rest)) ≡ word (124 ∷ []) at ∷ items_past 0 (at + 1) (flat_map set_off ns ++ 10 ∷ rest)
bar_first at ns rest =
    let blank = blank_next ns rest in
    ap (λ (t : List ℕ). items_past 0 at (124 ∷ t)) blank.2 ∙ word_first at (124 ∷ []) blank.0 blank.1 (omega arith) (refl, tt) blank.3
    ∙ ap (λ (t : List ℕ). word (124 ∷ []) at ∷ items_past 0 (at + 1) t) (sym blank.2)

after_bar : (labels : Labels) (side : List ℕ) (at : ℕ) (is : List Item) → 0 < length side → first_from labels side (word (124 ∷ []) at ∷ is) ≡ second_from labels side [] is
unfolding first_from
after_bar labels side at is some =
    let full : nat_eq (length side) 0 ≡ false = ne_eqb (length side) 0 (λ e. omega (arith, e)) in
    rw full refl

at_the_end : (labels : Labels) (first side : List ℕ) (at : ℕ) (is : List Item) → 0 < length side → second_from labels first side (line_end at ∷ is) ≡ Ok (record { a = first; b = side }, line_end at ∷ is)
unfolding second_from
at_the_end labels first side at is some =
    let full : nat_eq (length side) 0 ≡ false = ne_eqb (length side) 0 (λ e. omega (arith, e)) in
    rw full refl

pub flip_again : (labels : Labels) (at : ℕ) (f : Flip) (rest : List ℕ) → HasSides labels f
    → flip_at labels (items_past 0 at (flip_text f ++ 10 ∷ rest)) ≡ Ok (f, items_past 0 (at + length (flip_text f)) (10 ∷ rest))
unfolding flip_text
flip_again labels at f rest sides =
    let first = flat_map spaced f.a in
    let second = flat_map set_off f.b in
    let middle = at + length first in
    let end = at + length (first ++ (124 ∷ second)) in
    let a = rises labels 0 f.a sides.a.rising sides.a.allowed in
    let b = rises labels 0 f.b sides.b.rising sides.b.allowed in
    ap (λ (bs : List ℕ). first_from labels [] (items_past 0 at bs)) (append_assoc first (124 ∷ second) (10 ∷ rest))
    ∙ firsts_again labels f.a [] at 0 middle (124 ∷ (second ++ 10 ∷ rest)) a tt (omega (arith, sides.a.high)) refl
    ∙ ap (first_from labels f.a) (bar_first middle f.b rest)
    ∙ after_bar labels f.a middle _ sides.a.low
    ∙ seconds_again labels f.a f.b [] (middle + 1) 0 end rest b tt (omega (arith, sides.b.high)) (omega (arith, length-append first (124 ∷ second)))
    ∙ ap (second_from labels f.a f.b) (feed_first end rest)
    ∙ at_the_end labels f.a f.b end (items_past 0 (end + 1) rest) sides.b.low
    ∙ ap (λ (is : List Item). Ok (f, is)) (sym (feed_first end rest))

pub read_again : (labels : Labels) (before after : List ℕ) (f : Flip) → HasSides labels f
    → flip_at labels (items (before ++ (flip_text f ++ 10 ∷ after)) (length before)) ≡ Ok (f, items (before ++ (flip_text f ++ 10 ∷ after)) (length before + length (flip_text f)))
read_again labels before after f sides =
    let at = length before in
    let end = at + length (flip_text f) in
    let whole : before ++ (flip_text f ++ 10 ∷ after) ≡ (before ++ flip_text f) ++ 10 ∷ after = sym (append_assoc before (flip_text f) (10 ∷ after)) in
    let later : drop end (before ++ (flip_text f ++ 10 ∷ after)) ≡ 10 ∷ after =
    ap (drop end) whole ∙ drop_at (before ++ flip_text f) (10 ∷ after) end (length-append before (flip_text f)) in
    ap (λ (bs : List ℕ). flip_at labels (items_past 0 at bs)) (drop_at before (flip_text f ++ 10 ∷ after) at refl)
    ∙ flip_again labels at f after sides
    ∙ ap (λ (bs : List ℕ). Ok (f, items_past 0 end bs)) (sym later)

-- ---- how the text of a flip begins

pub number_begins : (ds : List ℕ) → 0 < length ds → is_number ds ≡ true → begins_with_digit ds ≡ true
number_begins [] some number = absurd (omega arith)
number_begins (d ∷ ds) some number = first_so (is_digit d) (list_all is_digit ds) number

side_start : (labels : Labels) (side : List ℕ) (at : ℕ) (tail : List ℕ) → 0 < length side → AllByRecursion (λ n. allows labels n ≡ true) side
    → (text : List ℕ) × (more : List Item) × (items_past 0 at (flat_map spaced side ++ tail) ≡ word text at ∷ more) × (begins_with_digit text ≡ true)
side_start labels [] at tail some all = absurd (omega arith)
side_start labels (n ∷ ns) at tail some all =
    let small = allowed_small labels n all.0 in
    let is = decimal_number n small in
    let text : flat_map spaced (n ∷ ns) ++ tail ≡ decimal n ++ 32 ∷ (flat_map spaced ns ++ tail) =
    append_assoc (spaced n) (flat_map spaced ns) tail ∙ append_assoc (decimal n) (32 ∷ []) (flat_map spaced ns ++ tail) in
    (decimal n, _, ap (items_past 0 at) text ∙ number_first at n 32 (flat_map spaced ns ++ tail) small refl, number_begins (decimal n) is.some is.number)

pub flip_start : (labels : Labels) (at : ℕ) (f : Flip) (rest : List ℕ) → HasSides labels f
    → (text : List ℕ) × (more : List Item) × (items_past 0 at (flip_text f ++ 10 ∷ rest) ≡ word text at ∷ more) × (begins_with_digit text ≡ true)
unfolding flip_text
flip_start labels at f rest sides =
    let first = flat_map spaced f.a in
    let second = flat_map set_off f.b in
    let start = side_start labels f.a at (124 ∷ (second ++ 10 ∷ rest)) sides.a.low sides.a.allowed in
    (start.0, start.1, ap (items_past 0 at) (append_assoc first (124 ∷ second) (10 ∷ rest)) ∙ start.2, start.3)
