-- What is written is read again, whatever stands before and after it.
use Rattle.std.proofs.Common.{◌≡◌, ◌≤◌, ◌<◌, ◌+◌, ℕ, suc, Bool, true, false, cond, inl, inr, sym, get_or, length-drop, List, ◌-◌, Ok, [], ◌∷◌, ◌++◌, length, drop, map, refl, ap, ◌∙◌, arith, append_assoc, add-zero, length-append, nat_lt, nat_eq}
use Rattle.std.specs.List.{list_any, prefix_len, starts_with, join_with_byte, AllByRecursion}
use Rattle.std.specs.Fmt.{decimal}
use Rattle.std.specs.Char.{digit_value}
use Rattle.std.specs.Str.Parse.{AllDigits, digits_value}
use Rattle.std.proofs.lemmas.Str.Parse.{digit_from_value}
use Rattle.std.proofs.lemmas.Fmt.{decimal_is_IsNumeral}
use Rattle.std.proofs.lemmas.Bool.{cases_Bool, ne_eqb, true≢false}
use Rattle.std.proofs.lemmas.List.{take_at, drop_at, get_or-drop}
use Rattle.std.proofs.lemmas.List.Sums.{prefix_len_stops}
use Rattle.facet_text.specs.declared.token.Class.TheVariants.{Blank, Digit, Letter}
use Rattle.facet_text.specs.declared.token.TokenKind.TheVariants as kind
use Rattle.facet_text.specs.Tokens.{has, is_long_assign, Spot, kind_at, more_at, sign_kind, tokens_past}
use Rattle.std.specs.List.Sorted.{IsStrictlySortedBy}
use Rattle.std.specs.Ordering.{nat_cmp}
use Rattle.std.specs.Cmp.Lexicographic.{nat_list_cmp_total}
use Rattle.complex_core.specs.Labels.{face_cmp, with}
use Rattle.complex_core.specs.Rising.{rising}
use Rattle.complex_core.specs.Complexes as spaces
use Rattle.complex_core.specs.Complexes.{IsComplex, ComplexView}
use Rattle.complex_core.specs.ComplexFaults.{first_size}
use Rattle.complex_core.proofs.Faces.{less_cmp, put_after}
use Rattle.complex_core.proofs.Sets.{above_head, above_tail, sorted_rising}
use Rattle.complex_core.proofs.Laws.{listed-rising, nat_eq_is, nat_eq_swap, same_lists}
use Rattle.facet_text.specs.Grammar.{Facets, Reading, after_facet, after_label, after_list, complex_at, complex_from, complex_of, facet_from, facet_then, is_label, is_pure, label_from, label_then, labels_of, limits_then, list_end, list_from}
use Rattle.facet_text.specs.Writing.{KeepsLimits, facet_text, text_of, to_semicolon}
use Rattle.facet_text.specs.declared.token.TokenKind.{TokenKind}
use Rattle.facet_text.proofs.TokenLaws.{one_token, past_blanks}

-- ---- one token

no_assign : (b : ℕ) (bs : List ℕ) → nat_eq b 58 ≡ false → is_long_assign b bs ≡ false
no_assign b [] e = refl
no_assign b (c ∷ cs) e = rw e refl

-- a byte that is a token by itself
pub sign : (at b : ℕ) (bs : List ℕ) → has Blank b ≡ false → has Letter b ≡ false → has Digit b ≡ false → nat_eq b 58 ≡ false
    → tokens_past 0 at (b ∷ bs) ≡ (sign_kind b, b ∷ [], at) ∷ tokens_past 0 (at + 1) bs
unfolding kind_at more_at
sign at b bs blank letter digit colon =
    one_token at b bs blank ∙ rw (letter, digit, no_assign b bs colon, add-zero) refl

pub opens : (at : ℕ) (bs : List ℕ) → tokens_past 0 at (91 ∷ bs) ≡ (kind.Open, 91 ∷ [], at) ∷ tokens_past 0 (at + 1) bs
unfolding has
opens at bs = sign at 91 bs refl refl refl refl

pub closes : (at : ℕ) (bs : List ℕ) → tokens_past 0 at (93 ∷ bs) ≡ (kind.Close, 93 ∷ [], at) ∷ tokens_past 0 (at + 1) bs
unfolding has
closes at bs = sign at 93 bs refl refl refl refl

pub comma : (at : ℕ) (bs : List ℕ) → tokens_past 0 at (44 ∷ bs) ≡ (kind.Comma, 44 ∷ [], at) ∷ tokens_past 0 (at + 1) bs
unfolding has
comma at bs = sign at 44 bs refl refl refl refl

-- what a digit is not
digit_only : (d : ℕ) → digit_value d < 10 → (has Digit d ≡ true) × (has Letter d ≡ false) × (has Blank d ≡ false)
unfolding has
digit_only d h =
    let range = digit_from_value d h in
    (grind arith, grind arith, grind arith)

digits_len : (ds : List ℕ) (c : ℕ) (bs : List ℕ) → AllDigits 10 ds → has Digit c ≡ false → prefix_len (has Digit) (ds ++ c ∷ bs) ≡ length ds
digits_len [] c bs all stop = rw stop refl
digits_len (d ∷ ds) c bs all stop = rw ((digit_only d all.0).0, digits_len ds c bs all.1 stop) (omega arith)

-- a number before a byte that is no digit
number : (at : ℕ) (ds : List ℕ) (c : ℕ) (bs : List ℕ) → 0 < length ds → AllDigits 10 ds → has Digit c ≡ false
    → tokens_past 0 at (ds ++ c ∷ bs) ≡ (kind.Label, ds, at) ∷ tokens_past 0 (at + length ds) (c ∷ bs)
unfolding kind_at more_at
number at [] c bs some all stop = absurd (omega arith)
number at (d ∷ ds) c bs some all stop =
    let is = digit_only d all.0 in
    let offset : at + 1 + length ds ≡ at + suc (length ds) = omega arith in
    one_token at d (ds ++ c ∷ bs) is.2
    ∙ rw (is.1, is.0, digits_len ds c bs all.1 stop, take_at ds (c ∷ bs) (length ds) refl, drop_at ds (c ∷ bs) (length ds) refl, offset) refl

decimal_token : (at n c : ℕ) (bs : List ℕ) → n ≤ 60000 → has Digit c ≡ false
    → tokens_past 0 at (decimal n ++ c ∷ bs) ≡ (kind.Label, decimal n, at) ∷ tokens_past 0 (at + length (decimal n)) (c ∷ bs)
decimal_token at n c bs small stop =
    let is = decimal_is_IsNumeral n (omega arith) in
    number at (decimal n) c bs is.0.0 is.0.1 stop

-- ---- a label

-- each of the labels is at most n
abbrev pub AtMost : ℕ → List ℕ → Type 0
AtMost n labels = AllByRecursion (λ x. x ≤ n) labels

none_equal : (n low : ℕ) (done : List ℕ) → low < n → AtMost low done → list_any (λ x. nat_eq x n) done ≡ false
none_equal n low [] lt all = refl
none_equal n low (x ∷ xs) lt all =
    let other : nat_eq x n ≡ false = ne_eqb x n (λ e. omega (arith, all.0)) in
    rw (other, none_equal n low xs lt all.1) refl

pub put_last : (n low : ℕ) (done : List ℕ) → low < n → AtMost low done → with done n ≡ done ++ n ∷ []
put_last n low [] lt all = refl
put_last n low (x ∷ xs) lt all = put_after n x xs (omega (arith, all.0)) ∙ ap (λ (l : List ℕ). x ∷ l) (put_last n low xs lt all.1)

at_most_more : (low n : ℕ) (done : List ℕ) → low < n → AtMost low done → AtMost n done
at_most_more low n [] lt all = tt
at_most_more low n (x ∷ xs) lt all = (omega (arith, all.0), at_most_more low n xs lt all.1)

at_most_push : (n : ℕ) (done : List ℕ) → AtMost n done → AtMost n (done ++ n ∷ [])
at_most_push n [] all = (omega arith, tt)
at_most_push n (x ∷ xs) all = (all.0, at_most_push n xs all.1)

label_passes : (start at n low : ℕ) (done : List ℕ) (next : Reading) → low < n → n ≤ 60000 → AtMost low done → length done < 7
    → label_then start at (digits_value 10 (decimal n)) done next ≡ next
label_passes start at n low done next lt small all room =
    let value = (decimal_is_IsNumeral n (omega arith)).1 in
    let good : is_label n ≡ true = grind arith in
    let new = none_equal n low done lt all in
    let few : nat_lt 7 (length (done ++ n ∷ [])) ≡ false = let count : length (done ++ n ∷ []) ≡ length done + 1 = length-append done (n ∷ []) in grind arith in
    rw (value, good, new, put_last n low done lt all, few) refl

-- a label and what follows it
one_label : (end start at n low c : ℕ) (done : List ℕ) (fs : Facets) (bs : List ℕ) → low < n → n ≤ 60000 → AtMost low done → length done < 7 → has Digit c ≡ false
    → label_from end start done fs (tokens_past 0 at (decimal n ++ c ∷ bs)) ≡ after_label end start (done ++ n ∷ []) fs (tokens_past 0 (at + length (decimal n)) (c ∷ bs))
unfolding label_from
one_label end start at n low c done fs bs lt small all room stop =
    let value = (decimal_is_IsNumeral n (omega arith)).1 in
    let put : with done (digits_value 10 (decimal n)) ≡ done ++ n ∷ [] = rw value (put_last n low done lt all) in
    rw (decimal_token at n c bs small stop) (label_passes start at n low done _ lt small all room ∙ rw put refl)

-- the labels rise, from more than `low`, and none is above 60,000
abbrev Rises : ℕ → List ℕ → Type 0
Rises low [] = Unit {0}
Rises low (n ∷ ns) = (low < n) × (n ≤ 60000) × Rises n ns

abbrev IsFacet : ℕ → List ℕ → Type 0
IsFacet size labels = Rises 0 labels × (length labels ≡ size)

close_stops : has Digit 93 ≡ false
unfolding has
close_stops = refl

comma_stops : has Digit 44 ≡ false
unfolding has
comma_stops = refl

-- the rest of a facet's labels, and its `]`
labels_again : (labels done : List ℕ) (end start at low p : ℕ) (fs : Facets) (rest : List ℕ) → 0 < length labels → Rises low labels → AtMost low done
    → length done + length labels ≤ 7 → p ≡ at + length (join_with_byte 44 (map decimal labels)) + 1
    → label_from end start done fs (tokens_past 0 at (join_with_byte 44 (map decimal labels) ++ 93 ∷ rest))
    ≡ facet_then start (done ++ labels) fs (after_facet end (fs ++ (done ++ labels) ∷ []) (tokens_past 0 p rest))
unfolding after_label
labels_again [] done end start at low p fs rest some rising all room offset = absurd (omega arith)
labels_again (n ∷ []) done end start at low p fs rest some rising all room offset =
    one_label end start at n low 93 done fs rest rising.0 rising.1 all (omega arith) close_stops
    ∙ rw (closes (at + length (decimal n)) rest, ← offset) refl
labels_again (n ∷ m ∷ ns) done end start at low p fs rest some rising all room offset =
    let tail = join_with_byte 44 (map decimal (m ∷ ns)) in
    let first : label_from end start done fs (tokens_past 0 at (decimal n ++ 44 ∷ (tail ++ 93 ∷ rest)))
    ≡ label_from end start (done ++ n ∷ []) fs (tokens_past 0 (at + length (decimal n) + 1) (tail ++ 93 ∷ rest)) =
    one_label end start at n low 44 done fs (tail ++ 93 ∷ rest) rising.0 rising.1 all (omega arith) comma_stops
    ∙ rw (comma (at + length (decimal n)) (tail ++ 93 ∷ rest)) refl in
    let others = labels_again (m ∷ ns) (done ++ n ∷ []) end start (at + length (decimal n) + 1) n p fs rest (omega arith) rising.2 (at_most_push n done (at_most_more low n done rising.0 all))
    (omega (arith, length-append done (n ∷ []))) (omega (arith, length-append (decimal n) (44 ∷ tail))) in
    let same : (decimal n ++ 44 ∷ tail) ++ 93 ∷ rest ≡ decimal n ++ 44 ∷ (tail ++ 93 ∷ rest) = append_assoc (decimal n) (44 ∷ tail) (93 ∷ rest) in
    let whole : (done ++ n ∷ []) ++ m ∷ ns ≡ done ++ n ∷ m ∷ ns = append_assoc done (n ∷ []) (m ∷ ns) in
    ap (λ (bs : List ℕ). label_from end start done fs (tokens_past 0 at bs)) same ∙ first ∙ others ∙ rw whole refl

-- ---- a facet

pure : (size : ℕ) (done : Facets) (g : List ℕ) → AllByRecursion (IsFacet size) done → length g ≡ size → is_pure done g ≡ true
pure size [] g all len = refl
pure size (f ∷ fs) g all len =
    let first : length f ≡ size = all.0.1 in
    grind arith

facet_passes : (start size : ℕ) (done : Facets) (g : List ℕ) (next : Reading) → 2 ≤ size → AllByRecursion (IsFacet size) done → length g ≡ size
    → facet_then start g done next ≡ next
facet_passes start size done g next two all len =
    let more : nat_eq (length g) 1 ≡ false = grind arith in
    rw (more, pure size done g all len) refl

one_facet : (end at size : ℕ) (done : Facets) (g : List ℕ) (tail : List ℕ) → 2 ≤ size → size ≤ 7 → AllByRecursion (IsFacet size) done → IsFacet size g
    → facet_from end done (tokens_past 0 at (facet_text g ++ tail)) ≡ after_facet end (done ++ g ∷ []) (tokens_past 0 (at + length (facet_text g)) tail)
unfolding facet_from
one_facet end at size done g tail two seven all is =
    let inner = join_with_byte 44 (map decimal g) in
    let text : facet_text g ++ tail ≡ 91 ∷ (inner ++ 93 ∷ tail) = ap (λ (l : List ℕ). 91 ∷ l) (append_assoc inner (93 ∷ []) tail) in
    let len : at + length (facet_text g) ≡ at + 1 + length inner + 1 = omega (arith, length-append inner (93 ∷ [])) in
    rw (text, opens at (inner ++ 93 ∷ tail)) (
    labels_again g [] end at (at + 1) 0 (at + length (facet_text g)) done tail (omega (arith, is.1)) is.0 tt (omega (arith, is.1)) len
    ∙ facet_passes at size done g _ two all is.1
    )

all_push : (size : ℕ) (done : Facets) (g : List ℕ) → AllByRecursion (IsFacet size) done → IsFacet size g → AllByRecursion (IsFacet size) (done ++ g ∷ [])
all_push size [] g all is = (is, tt)
all_push size (f ∷ fs) g all is = (all.0, all_push size fs g all.1 is)

-- the rest of a list's facets, and its `]`
facets_again : (gs done : Facets) (end at size p : ℕ) (rest : List ℕ) → 0 < length gs → 2 ≤ size → size ≤ 7 → AllByRecursion (IsFacet size) done → AllByRecursion (IsFacet size) gs
    → p ≡ at + length (join_with_byte 44 (map facet_text gs)) + 1
    → facet_from end done (tokens_past 0 at (join_with_byte 44 (map facet_text gs) ++ 93 ∷ rest)) ≡ after_list p (done ++ gs) (tokens_past 0 p rest)
unfolding after_facet
facets_again [] done end at size p rest some two seven all are offset = absurd (omega arith)
facets_again (g ∷ []) done end at size p rest some two seven all are offset =
    one_facet end at size done g (93 ∷ rest) two seven all are.0
    ∙ rw (closes (at + length (facet_text g)) rest, ← offset) refl
facets_again (g ∷ h ∷ gs) done end at size p rest some two seven all are offset =
    let tail = join_with_byte 44 (map facet_text (h ∷ gs)) in
    let same : (facet_text g ++ 44 ∷ tail) ++ 93 ∷ rest ≡ facet_text g ++ 44 ∷ (tail ++ 93 ∷ rest) = append_assoc (facet_text g) (44 ∷ tail) (93 ∷ rest) in
    let first : facet_from end done (tokens_past 0 at (facet_text g ++ 44 ∷ (tail ++ 93 ∷ rest)))
    ≡ facet_from end (done ++ g ∷ []) (tokens_past 0 (at + length (facet_text g) + 1) (tail ++ 93 ∷ rest)) =
    one_facet end at size done g (44 ∷ (tail ++ 93 ∷ rest)) two seven all are.0
    ∙ rw (comma (at + length (facet_text g)) (tail ++ 93 ∷ rest)) refl in
    let others = facets_again (h ∷ gs) (done ++ g ∷ []) end (at + length (facet_text g) + 1) size p rest (omega arith) two seven (all_push size done g all are.0) are.1
    (omega (arith, length-append (facet_text g) (44 ∷ tail))) in
    let whole : (done ++ g ∷ []) ++ h ∷ gs ≡ done ++ g ∷ h ∷ gs = append_assoc done (g ∷ []) (h ∷ gs) in
    ap (λ (bs : List ℕ). facet_from end done (tokens_past 0 at bs)) same ∙ first ∙ others ∙ rw whole refl

-- ---- a complex

rises : (low : ℕ) (labels : List ℕ) → IsStrictlySortedBy nat_cmp (low ∷ labels) → AllByRecursion (λ n. n ≤ 60000) labels → Rises low labels
rises low [] sorted small = tt
rises low (n ∷ ns) sorted small =
    (less_cmp low n (above_head nat_cmp low (n ∷ ns) sorted).0, small.0, rises n ns (above_tail nat_cmp low (n ∷ ns) sorted) small.1)

each_facet : (dim : ℕ) (fs : Facets) → AllByRecursion (spaces.IsFacet dim) fs → AllByRecursion (λ f. AllByRecursion (λ n. n ≤ 60000) f) fs → AllByRecursion (IsFacet (dim + 1)) fs
each_facet dim [] pure small = tt
each_facet dim (f ∷ fs) pure small = ((rises 0 f pure.0.face.rising small.0, pure.0.size), each_facet dim fs pure.1 small.1)

first_is : (dim : ℕ) (fs : Facets) → 0 < length fs → AllByRecursion (spaces.IsFacet dim) fs → first_size fs - 1 ≡ dim
first_is dim [] some pure = absurd (omega arith)
first_is dim (f ∷ fs) some pure = omega (arith, pure.0.size)

-- a complex is that of its facets
pub own_complex : (k : ComplexView) → IsComplex k → complex_of k.facets ≡ k
own_complex k is =
    let dim : first_size k.facets - 1 ≡ k.dim = first_is k.dim k.facets is.some is.pure in
    let facets : rising face_cmp k.facets ≡ k.facets =
    same_lists (rising face_cmp k.facets) k.facets (sorted_rising nat_list_cmp_total k.facets) is.rising (listed-rising k.facets) in
    λ i. record { dim = dim i; facets = facets i }

-- within the limits the complex stands
limits_pass : (offset : ℕ) (k : ComplexView) (ts : List Spot) → KeepsLimits k → after_list offset k.facets ts ≡ Ok (k, list_end offset ts)
unfolding after_list
limits_pass offset k ts keeps =
    let own = own_complex k keeps.complex in
    let facets : nat_lt 20000 (length k.facets) ≡ false = let few = keeps.few_facets in grind arith in
    let labels : nat_lt 4096 (length (labels_of k)) ≡ false = let few = keeps.few_labels in grind arith in
    ap (λ (j : ComplexView). limits_then j (Ok (j, list_end offset ts))) own ∙ rw (facets, labels) refl

semis : (at : ℕ) (bs : List ℕ) → tokens_past 0 at (59 ∷ bs) ≡ (kind.Semicolon, 59 ∷ [], at) ∷ tokens_past 0 (at + 1) bs
unfolding has
semis at bs = sign at 59 bs refl refl refl refl

only_semicolon : (l d a o c m e s : Bool)
    → cond l kind.Name (cond d kind.Label (cond a kind.Assign (cond o kind.Open (cond c kind.Close (cond m kind.Comma (cond e kind.Assign (cond s kind.Semicolon kind.Other))))))) ≡ kind.Semicolon → s ≡ true
only_semicolon true d a o c m e s h = cc
only_semicolon false true a o c m e s h = cc
only_semicolon false false true o c m e s h = cc
only_semicolon false false false true c m e s h = cc
only_semicolon false false false false true m e s h = cc
only_semicolon false false false false false true e s h = cc
only_semicolon false false false false false false true s h = cc
only_semicolon false false false false false false false true h = refl
only_semicolon false false false false false false false false h = cc

is_semicolon : (b : ℕ) (bs : List ℕ) → kind_at b bs ≡ kind.Semicolon → nat_eq b 59 ≡ true
unfolding kind_at
is_semicolon b bs e = only_semicolon _ _ _ _ _ _ _ _ e

other_end : (offset : ℕ) (k : TokenKind) (text : List ℕ) (at : ℕ) (ts : List Spot) → (k ≡ kind.Semicolon → ⊥) → list_end offset ((k, text, at) ∷ ts) ≡ offset
other_end offset kind.Semicolon text at ts other = absurd (other refl)
other_end offset _ text at ts other = refl

-- where the first byte is no blank
first_sign : (offset at n : ℕ) (bs : List ℕ) → at ≡ offset + n → (0 < length bs → has Blank (get_or bs 0 0) ≡ false)
    → list_end offset (tokens_past 0 at bs) ≡ offset + cond (starts_with nat_eq bs (59 ∷ [])) (n + 1) 0
unfolding tokens_past
first_sign offset at n [] e solid = sym (add-zero offset)
first_sign offset at n (b ∷ bs) e solid = elim (cases_Bool (nat_eq 59 b)) [
  | inl same ↦
      let is : b ≡ 59 = sym (nat_eq_is 59 b same) in
      let there : at + 1 ≡ offset + (n + 1) = omega arith in
      rw same (ap (λ (c : ℕ). list_end offset (tokens_past 0 at (c ∷ bs))) is ∙ ap (list_end offset) (semis at bs) ∙ there)
  | inr other ↦
      let not_it = λ (k : kind_at b bs ≡ kind.Semicolon). true≢false (sym (is_semicolon b bs k) ∙ nat_eq_swap b 59 ∙ other) in
      rw other (ap (list_end offset) (one_token at b bs (solid (omega arith))) ∙ other_end offset (kind_at b bs) _ at _ not_it ∙ sym (add-zero offset))
]

-- a `;` behind blanks is taken
pub semicolon : (offset : ℕ) (bs : List ℕ) → list_end offset (tokens_past 0 offset bs) ≡ offset + to_semicolon bs
semicolon offset bs =
    let n = prefix_len (has Blank) bs in
    let solid : 0 < length (drop n bs) → has Blank (get_or (drop n bs) 0 0) ≡ false =
    λ some. ap (has Blank) (get_or-drop n bs 0 0 ∙ ap (λ (k : ℕ). get_or bs k 0) (add-zero n)) ∙ prefix_len_stops (has Blank) bs 0 (omega (arith, length-drop n bs)) in
    ap (list_end offset) (past_blanks offset bs) ∙ first_sign offset (offset + n) n (drop n bs) refl solid

-- a written complex, between any bytes
pub read_again : (before after : List ℕ) (k : ComplexView) → KeepsLimits k
    → complex_at (before ++ text_of k.facets ++ after) (length before) ≡ Ok (k, length before + length (text_of k.facets) + to_semicolon after)
unfolding complex_from list_from text_of
read_again before after k keeps =
    let fs = k.facets in
    let is = keeps.complex in
    let inner = join_with_byte 44 (map facet_text fs) in
    let at = length before in
    let end = length (before ++ text_of fs ++ after) in
    let cut : drop at (before ++ text_of fs ++ after) ≡ 91 ∷ (inner ++ 93 ∷ after) =
    ap (drop at) (append_assoc before (text_of fs) after) ∙ drop_at before (text_of fs ++ after) at refl ∙ ap (λ (l : List ℕ). 91 ∷ l) (append_assoc inner (93 ∷ []) after) in
    let read : complex_from end (tokens_past 0 at (91 ∷ (inner ++ 93 ∷ after))) ≡ facet_from end [] (tokens_past 0 (at + 1) (inner ++ 93 ∷ after)) = rw (opens at (inner ++ 93 ∷ after)) refl in
    let len : at + length (text_of fs) ≡ at + 1 + length inner + 1 = omega (arith, length-append inner (93 ∷ [])) in
    let two : 2 ≤ k.dim + 1 = omega (arith, keeps.dim) in
    let seven : k.dim + 1 ≤ 7 = omega (arith, is.low) in
    let offset = at + length (text_of fs) in
    ap (λ (bs : List ℕ). complex_from end (tokens_past 0 at bs)) cut ∙ read
    ∙ facets_again fs [] end (at + 1) (k.dim + 1) offset after is.some two seven tt (each_facet k.dim fs is.pure keeps.small) len
    ∙ limits_pass offset k (tokens_past 0 offset after) keeps
    ∙ ap (λ (p : ℕ). Ok (k, p)) (semicolon offset after)
