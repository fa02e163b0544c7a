-- A complex that is spelled is read.
use Rattle.std.proofs.Common.{◌≡◌, ◌≤◌, ◌<◌, ◌+◌, ℕ, suc, Bool, true, false, List, [], ◌∷◌, ◌++◌, length, drop, map, refl, sym, ap, subst, ◌∙◌, arith, Ok, inl, inr, append_assoc, add-zero, nat_le, nat_lt, nat_eq}
use Rattle.std.specs.List.{prefix_len, AllByRecursion}
use Rattle.std.specs.Str.Parse.{digits_value}
use Rattle.std.specs.Ordering.{nat_cmp}
use Rattle.std.proofs.lemmas.List.{append-nil, take_at, drop_at}
use Rattle.complex_core.specs.Labels.{has as has_label, with, union}
use Rattle.complex_core.specs.Rising.{rising}
use Rattle.complex_core.specs.Complexes.{ComplexView}
use Rattle.facet_text.specs.declared.token.Class.{Class}
use Rattle.facet_text.specs.declared.token.Class.TheVariants.{Blank, Digit, Letter, NameByte}
use Rattle.facet_text.specs.declared.token.TokenKind.{TokenKind}
use Rattle.facet_text.specs.declared.token.TokenKind.TheVariants as kind
use Rattle.facet_text.specs.Tokens.{Spot, between, has, kind_at, more_at, tokens_past}
use Rattle.facet_text.specs.Grammar.{Facets, Reading, after_facet, after_label, after_list, assign_from, complex_at, complex_from, complex_of, facet_from, facet_then, is_label, is_pure, label_from, label_then, labels_of, limits_then, list_end, list_from}
use Rattle.facet_text.specs.Spelling.{AreBlanks, AreGood, IsAssign, IsGood, IsName, IsNaming, IsNumber, Spells, Spread, Word, facet_words, list_words, more_facets, more_numbers, spelled, values}
use Rattle.facet_text.proofs.TokenLaws.{one_token}
use Rattle.facet_text.proofs.Again.{closes, comma, opens, sign}
use Rattle.facet_text.proofs.LabelSets.{Fresh, fresh_labels, gathered}

-- ---- words and tokens

past_gap : (gap bs : List ℕ) (at : ℕ) → AreBlanks gap → tokens_past 0 at (gap ++ bs) ≡ tokens_past 0 (at + length gap) bs
unfolding tokens_past
past_gap [] bs at blank = rw add-zero refl
past_gap (b ∷ gap) bs at blank =
    let offset : at + 1 + length gap ≡ at + suc (length gap) = omega arith in
    rw blank.0 (past_gap gap bs (at + 1) blank.1 ∙ ap (λ (n : ℕ). tokens_past 0 n bs) offset)

-- the bytes begin with none of the class
abbrev Stops : Class → List ℕ → Type 0
Stops class bs = prefix_len (has class) bs ≡ 0

run_len : (p : ℕ → Bool) (ds more : List ℕ) → AllByRecursion (λ d. p d ≡ true) ds → prefix_len p more ≡ 0 → prefix_len p (ds ++ more) ≡ length ds
run_len p [] more all stop = stop
run_len p (d ∷ ds) more all stop = rw (all.0, run_len p ds more all.1 stop) (omega arith)

no_digit : (b : ℕ) → has Letter b ≡ true → has Blank b ≡ false
unfolding has
no_digit b h = grind arith

digit_is : (b : ℕ) → has Digit b ≡ true → (has Letter b ≡ false) × (has Blank b ≡ false)
unfolding has
digit_is b h = (grind arith, grind arith)

blank_low : (b : ℕ) → has Blank b ≡ true → b ≤ 32
unfolding has
blank_low b h = grind arith

not_between : (low high b : ℕ) → b < low → between low high b ≡ false
not_between low high b less = let not_low : nat_le low b ≡ false = grind arith in rw not_low refl

not_byte : (b c : ℕ) → b < c → nat_eq b c ≡ false
not_byte b c less = grind arith

blank_is : (b : ℕ) → has Blank b ≡ true → (has Digit b ≡ false) × (has NameByte b ≡ false)
unfolding has
blank_is b h =
    let low = blank_low b h in
    let digit = not_between 48 57 b (omega arith) in
    (digit, rw (not_between 65 90 b (omega arith), not_between 97 122 b (omega arith), digit, not_byte b 95 (omega arith), not_byte b 35 (omega arith), not_byte b 46 (omega arith), not_byte b 45 (omega arith)) refl)

number_token : (at : ℕ) (w more : List ℕ) → IsNumber w → Stops Digit more → tokens_past 0 at (w ++ more) ≡ (kind.Label, w, at) ∷ tokens_past 0 (at + length w) more
unfolding kind_at more_at
number_token at [] more is stop = absurd is
number_token at (d ∷ ds) more is stop =
    let offset : at + 1 + length ds ≡ at + suc (length ds) = omega arith in
    one_token at d (ds ++ more) (digit_is d is.0).1
    ∙ rw ((digit_is d is.0).0, is.0, run_len (has Digit) ds more is.1 stop, take_at ds more (length ds) refl, drop_at ds more (length ds) refl, offset) refl

name_token : (at : ℕ) (w more : List ℕ) → IsName w → Stops NameByte more → tokens_past 0 at (w ++ more) ≡ (kind.Name, w, at) ∷ tokens_past 0 (at + length w) more
unfolding kind_at more_at
name_token at [] more is stop = absurd is
name_token at (b ∷ bs) more is stop =
    let offset : at + 1 + length bs ≡ at + suc (length bs) = omega arith in
    one_token at b (bs ++ more) (no_digit b is.0)
    ∙ rw (is.0, run_len (has NameByte) bs more is.1 stop, take_at bs more (length bs) refl, drop_at bs more (length bs) refl, offset) refl

equals : (at : ℕ) (bs : List ℕ) → tokens_past 0 at (61 ∷ bs) ≡ (kind.Assign, 61 ∷ [], at) ∷ tokens_past 0 (at + 1) bs
unfolding has
equals at bs = sign at 61 bs refl refl refl refl

blank_letter_digit : (has Blank 58 ≡ false) × (has Letter 58 ≡ false) × (has Digit 58 ≡ false)
unfolding has
blank_letter_digit = (refl, refl, refl)

long_equals : (at : ℕ) (bs : List ℕ) → tokens_past 0 at (58 ∷ 61 ∷ bs) ≡ (kind.Assign, 58 ∷ 61 ∷ [], at) ∷ tokens_past 0 (at + 2) bs
unfolding kind_at more_at
long_equals at bs =
    let offset : at + 1 + 1 ≡ at + 2 = omega arith in
    one_token at 58 (61 ∷ bs) blank_letter_digit.0 ∙ rw (blank_letter_digit.1, blank_letter_digit.2, offset) refl

-- the next word is read as a token of a kind, and the other words follow
abbrev Step : Word → List Word → List ℕ → List Spot → TokenKind → Type 0
Step w ws rest ts k = (offset : ℕ) × (next : ℕ) × (more : List ℕ) × Spread ws more rest × (ts ≡ (k, w, offset) ∷ tokens_past 0 next more)

sign_step : (b : ℕ) (k : TokenKind) → ((at : ℕ) (bs : List ℕ) → tokens_past 0 at (b ∷ bs) ≡ (k, b ∷ [], at) ∷ tokens_past 0 (at + 1) bs)
    → (ws : List Word) (bs rest : List ℕ) (at : ℕ) → Spread ((b ∷ []) ∷ ws) bs rest → Step (b ∷ []) ws rest (tokens_past 0 at bs) k
sign_step b k one ws bs rest at s =
    (at + length s.0, at + length s.0 + 1, s.1, s.4, ap (tokens_past 0 at) s.3 ∙ past_gap s.0 (b ∷ s.1) at s.2 ∙ one (at + length s.0) s.1)

number_step : (w : Word) (ws : List Word) (bs rest : List ℕ) (at : ℕ) → IsNumber w → ((more : List ℕ) → Spread ws more rest → Stops Digit more)
    → Spread (w ∷ ws) bs rest → Step w ws rest (tokens_past 0 at bs) kind.Label
number_step w ws bs rest at is stops s =
    (at + length s.0, at + length s.0 + length w, s.1, s.4, ap (tokens_past 0 at) s.3 ∙ past_gap s.0 (w ++ s.1) at s.2 ∙ number_token (at + length s.0) w s.1 is (stops s.1 s.4))

name_step : (w : Word) (ws : List Word) (bs rest : List ℕ) (at : ℕ) → IsName w → ((more : List ℕ) → Spread ws more rest → Stops NameByte more)
    → Spread (w ∷ ws) bs rest → Step w ws rest (tokens_past 0 at bs) kind.Name
name_step w ws bs rest at is stops s =
    (at + length s.0, at + length s.0 + length w, s.1, s.4, ap (tokens_past 0 at) s.3 ∙ past_gap s.0 (w ++ s.1) at s.2 ∙ name_token (at + length s.0) w s.1 is (stops s.1 s.4))

assign_step : (w : Word) (ws : List Word) (bs rest : List ℕ) (at : ℕ) → IsAssign w → Spread (w ∷ ws) bs rest → Step w ws rest (tokens_past 0 at bs) kind.Assign
assign_step w ws bs rest at (inl e) s = (
  at + length s.0,
  at + length s.0 + 1,
  s.1,
  s.4,
  ap (tokens_past 0 at) s.3 ∙ past_gap s.0 (w ++ s.1) at s.2 ∙ ap (λ (v : Word). tokens_past 0 (at + length s.0) (v ++ s.1)) e ∙ equals (at + length s.0) s.1
      ∙ ap (λ (v : Word). (kind.Assign, v, at + length s.0) ∷ tokens_past 0 (at + length s.0 + 1) s.1) (sym e),
)
assign_step w ws bs rest at (inr e) s = (
  at + length s.0,
  at + length s.0 + 2,
  s.1,
  s.4,
  ap (tokens_past 0 at) s.3 ∙ past_gap s.0 (w ++ s.1) at s.2 ∙ ap (λ (v : Word). tokens_past 0 (at + length s.0) (v ++ s.1)) e ∙ long_equals (at + length s.0) s.1
      ∙ ap (λ (v : Word). (kind.Assign, v, at + length s.0) ∷ tokens_past 0 (at + length s.0 + 2) s.1) (sym e),
)

-- ---- what a word stops

stops_at : (class : Class) → ((b : ℕ) → has Blank b ≡ true → has class b ≡ false) → (gap : List ℕ) (c : ℕ) (tail : List ℕ) → AreBlanks gap → has class c ≡ false → Stops class (gap ++ (c ∷ tail))
stops_at class other [] c tail blank is = rw is refl
stops_at class other (b ∷ gap) c tail blank is = rw (other b blank.0) refl

word_stops : (class : Class) → ((b : ℕ) → has Blank b ≡ true → has class b ≡ false) → (c : ℕ) (w : List ℕ) (ws : List Word) (bs rest : List ℕ) → has class c ≡ false → Spread ((c ∷ w) ∷ ws) bs rest → Stops class bs
word_stops class other c w ws bs rest is s = subst (Stops class) (sym s.3) (stops_at class other s.0 c (w ++ s.1) s.2 is)

signs_stop : (has Digit 44 ≡ false) × (has Digit 93 ≡ false) × (has NameByte 61 ≡ false) × (has NameByte 58 ≡ false)
unfolding has
signs_stop = (refl, refl, refl, refl)

no_digit_next : (ns after : List Word) (rest bs : List ℕ) → Spread (more_numbers ns after) bs rest → Stops Digit bs
no_digit_next [] after rest bs s = word_stops Digit (λ b h. (blank_is b h).0) 93 [] after bs rest signs_stop.1 s
no_digit_next (n ∷ ns) after rest bs s = word_stops Digit (λ b h. (blank_is b h).0) 44 [] (n ∷ more_numbers ns after) bs rest signs_stop.0 s

no_name_next : (w : Word) (ws : List Word) (rest bs : List ℕ) → IsAssign w → Spread (w ∷ ws) bs rest → Stops NameByte bs
no_name_next w ws rest bs (inl e) s = word_stops NameByte (λ b h. (blank_is b h).1) 61 [] ws bs rest signs_stop.2 (subst (λ (v : Word). Spread (v ∷ ws) bs rest) e s)
no_name_next w ws rest bs (inr e) s = word_stops NameByte (λ b h. (blank_is b h).1) 58 (61 ∷ []) ws bs rest signs_stop.3 (subst (λ (v : Word). Spread (v ∷ ws) bs rest) e s)

-- ---- a facet

label_goes : (start at n : ℕ) (done : List ℕ) (next : Reading) → is_label n ≡ true → has_label done n ≡ false → length (with done n) ≤ 7 → label_then start at n done next ≡ next
label_goes start at n done next good new few =
    let room : nat_lt 7 (length (with done n)) ≡ false = grind arith in
    rw (good, new, room) refl

-- what a part of the text was read to, and what follows it
abbrev Then : List Word → List ℕ → Reading → (List Spot → Reading) → Type 0
Then after rest before next = (offset : ℕ) × (more : List ℕ) × Spread after more rest × (before ≡ next (tokens_past 0 offset more))

one_number : (n : Word) (ns after : List Word) (done : List ℕ) (fs : Facets) (end start : ℕ) (bs rest : List ℕ) (at : ℕ)
    → IsNumber n → Fresh done (digits_value 10 n ∷ map (digits_value 10) ns) → Spread (n ∷ more_numbers ns after) bs rest
    → Then (more_numbers ns after) rest (label_from end start done fs (tokens_past 0 at bs)) (after_label end start (with done (digits_value 10 n)) fs)
unfolding label_from
one_number n ns after done fs end start bs rest at is fresh s =
    let step = number_step n (more_numbers ns after) bs rest at is (no_digit_next ns after rest) s in
    (step.1, step.2, step.3, ap (label_from end start done fs) step.4 ∙ label_goes start step.0 (digits_value 10 n) done _ fresh.0 fresh.1 fresh.2)

numbers_read : (ns after : List Word) (done : List ℕ) (fs : Facets) (end start : ℕ) (bs rest : List ℕ) (at : ℕ)
    → AllByRecursion IsNumber ns → Fresh done (map (digits_value 10) ns) → Spread (more_numbers ns after) bs rest
    → Then after rest (after_label end start done fs (tokens_past 0 at bs))
    (λ ts. facet_then start (union done (map (digits_value 10) ns)) fs (after_facet end (fs ++ union done (map (digits_value 10) ns) ∷ []) ts))
unfolding after_label
numbers_read [] after done fs end start bs rest at are fresh s =
    let step = sign_step 93 kind.Close closes after bs rest at s in
    (step.1, step.2, step.3, ap (after_label end start done fs) step.4)
numbers_read (n ∷ ns) after done fs end start bs rest at are fresh s =
    let step = sign_step 44 kind.Comma comma (n ∷ more_numbers ns after) bs rest at s in
    let one = one_number n ns after done fs end start step.2 rest step.1 are.0 fresh step.3 in
    let others = numbers_read ns after (with done (digits_value 10 n)) fs end start one.1 rest one.0 are.1 fresh.3 one.2 in
    (others.0, others.1, others.2, ap (after_label end start done fs) step.4 ∙ one.3 ∙ others.3)

facet_goes : (start : ℕ) (labels : List ℕ) (fs : Facets) (next : Reading) → 2 ≤ length labels → is_pure fs labels ≡ true → facet_then start labels fs next ≡ next
facet_goes start labels fs next two pure =
    let more : nat_eq (length labels) 1 ≡ false = grind arith in
    rw (more, pure) refl

facet_read : (f after : List Word) (fs : Facets) (end : ℕ) (bs rest : List ℕ) (at : ℕ)
    → AllByRecursion IsNumber f → IsGood (map (digits_value 10) f) → is_pure fs (rising nat_cmp (map (digits_value 10) f)) ≡ true → Spread (facet_words f after) bs rest
    → Then after rest (facet_from end fs (tokens_past 0 at bs)) (after_facet end (fs ++ rising nat_cmp (map (digits_value 10) f) ∷ []))
unfolding facet_from
facet_read [] after fs end bs rest at are good pure s = absurd (omega (arith, good.low))
facet_read (n ∷ ns) after fs end bs rest at are good pure s =
    let step = sign_step 91 kind.Open opens (n ∷ more_numbers ns after) bs rest at s in
    let fresh = fresh_labels (digits_value 10 n ∷ map (digits_value 10) ns) good in
    let one = one_number n ns after [] fs end step.0 step.2 rest step.1 are.0 fresh step.3 in
    let others = numbers_read ns after (with [] (digits_value 10 n)) fs end step.0 one.1 rest one.0 are.1 fresh.3 one.2 in
    let set = gathered (digits_value 10 n ∷ map (digits_value 10) ns) good in
    let whole = rising nat_cmp (digits_value 10 n ∷ map (digits_value 10) ns) in
    let goes : facet_then step.0 whole fs (after_facet end (fs ++ whole ∷ []) (tokens_past 0 others.0 others.1)) ≡ after_facet end (fs ++ whole ∷ []) (tokens_past 0 others.0 others.1) =
    facet_goes step.0 whole fs _ (omega (arith, set.1, good.low)) pure in (
      others.0,
      others.1,
      others.2,
      ap (facet_from end fs) step.4 ∙ one.3 ∙ others.3
          ∙ ap (λ (l : List ℕ). facet_then step.0 l fs (after_facet end (fs ++ l ∷ []) (tokens_past 0 others.0 others.1))) set.0 ∙ goes,
    )

-- ---- the list

-- the facets that are still to come have as many labels as those before
abbrev AreOf : ℕ → List (List Word) → Type 0
AreOf size gs = AllByRecursion (λ f. length f ≡ size) (values gs)

abbrev Sized : ℕ → Facets → Type 0
Sized size fs = AllByRecursion (λ f. length f ≡ size) fs

is_pure_one : (size : ℕ) (fs : Facets) (g : List ℕ) → Sized size fs → length g ≡ size → is_pure fs g ≡ true
is_pure_one size [] g all is = refl
is_pure_one size (f ∷ fs) g all is = let first : length f ≡ size = all.0 in grind arith

sized_push : (size : ℕ) (fs : Facets) (g : List ℕ) → Sized size fs → length g ≡ size → Sized size (fs ++ g ∷ [])
sized_push size [] g all is = (is, tt)
sized_push size (f ∷ fs) g all is = (all.0, sized_push size fs g all.1 is)

facets_read : (gs : List (List Word)) (after : List Word) (fs : Facets) (size end : ℕ) (bs rest : List ℕ) (at : ℕ)
    → AllByRecursion (λ f. AllByRecursion IsNumber f) gs → AllByRecursion IsGood (values gs) → AreOf size gs → Sized size fs → Spread (more_facets gs after) bs rest
    → (offset : ℕ) × (ts : List Spot) × (after_facet end fs (tokens_past 0 at bs) ≡ after_list offset (fs ++ spelled gs) ts)
unfolding after_facet
facets_read [] after fs size end bs rest at are good pure sized s =
    let step = sign_step 93 kind.Close closes after bs rest at s in
    let whole : fs ++ [] ≡ fs = append-nil fs in
    (step.0 + 1, tokens_past 0 step.1 step.2, ap (after_facet end fs) step.4 ∙ ap (λ (l : Facets). after_list (step.0 + 1) l (tokens_past 0 step.1 step.2)) (sym whole))
facets_read (g ∷ gs) after fs size end bs rest at are good pure sized s =
    let step = sign_step 44 kind.Comma comma (facet_words g (more_facets gs after)) bs rest at s in
    let labels = map (digits_value 10) g in
    let set = gathered labels good.0 in
    let count : length (rising nat_cmp labels) ≡ size = set.1 ∙ pure.0 in
    let one = facet_read g (more_facets gs after) fs end step.2 rest step.1 are.0 good.0 (is_pure_one size fs (rising nat_cmp labels) sized count) step.3 in
    let others = facets_read gs after (fs ++ rising nat_cmp labels ∷ []) size end one.1 rest one.0 are.1 good.1 pure.1 (sized_push size fs (rising nat_cmp labels) sized count) one.2 in
    let whole : (fs ++ rising nat_cmp labels ∷ []) ++ spelled gs ≡ fs ++ spelled (g ∷ gs) = append_assoc fs (rising nat_cmp labels ∷ []) (spelled gs) in
    (others.0, others.1, ap (after_facet end fs) step.4 ∙ one.3 ∙ others.2 ∙ ap (λ (l : Facets). after_list others.0 l others.1) whole)

list_read : (fs : List (List Word)) (after : List Word) (end : ℕ) (bs rest : List ℕ) (at : ℕ)
    → AllByRecursion (λ f. AllByRecursion IsNumber f) fs → AreGood fs → Spread (list_words fs after) bs rest
    → (offset : ℕ) × (ts : List Spot) × (complex_from end (tokens_past 0 at bs) ≡ after_list offset (spelled fs) ts) × (list_from end (tokens_past 0 at bs) ≡ after_list offset (spelled fs) ts)
unfolding list_from complex_from
list_read [] after end bs rest at are good s = absurd (omega (arith, good.some))
list_read (f ∷ fs) after end bs rest at are good s =
    let step = sign_step 91 kind.Open opens (facet_words f (more_facets fs after)) bs rest at s in
    let labels = map (digits_value 10) f in
    let count : length (rising nat_cmp labels) ≡ length labels = (gathered labels good.good.0).1 in
    let one = facet_read f (more_facets fs after) [] end step.2 rest step.1 are.0 good.good.0 refl step.3 in
    let others = facets_read fs after (rising nat_cmp labels ∷ []) (length labels) end one.1 rest one.0 are.1 good.good.1 good.pure.1 (count, tt) one.2 in
    (others.0, others.1, ap (complex_from end) step.4 ∙ one.3 ∙ others.2, ap (list_from end) step.4 ∙ one.3 ∙ others.2)

-- within the limits the complex stands
limits_go : (offset : ℕ) (fs : List (List Word)) (ts : List Spot) → AreGood fs → after_list offset (spelled fs) ts ≡ Ok (complex_of (spelled fs), list_end offset ts)
unfolding after_list
limits_go offset fs ts good =
    limits_stand (complex_of (spelled fs)) (list_end offset ts) good.few_facets good.few_labels
  where
    limits_stand : (k : ComplexView) (offset : ℕ) → length k.facets ≤ 20000 → length (labels_of k) ≤ 4096 → limits_then k (Ok (k, offset)) ≡ Ok (k, offset)
    limits_stand k offset few_facets few_labels =
        let facets : nat_lt 20000 (length k.facets) ≡ false = grind arith in
        let labels : nat_lt 4096 (length (labels_of k)) ≡ false = grind arith in
        rw (facets, labels) refl

named_read : (naming : List Word) (fs : List (List Word)) (after : List Word) (end : ℕ) (bs rest : List ℕ) (at : ℕ)
    → IsNaming naming → AllByRecursion (λ f. AllByRecursion IsNumber f) fs → AreGood fs → Spread (naming ++ list_words fs after) bs rest
    → (offset : ℕ) × (ts : List Spot) × (complex_from end (tokens_past 0 at bs) ≡ after_list offset (spelled fs) ts)
unfolding complex_from assign_from
named_read [] fs after end bs rest at is are good s =
    let list = list_read fs after end bs rest at are good s in
    (list.0, list.1, list.2)
named_read (name ∷ []) fs after end bs rest at is are good s = absurd is
named_read (name ∷ assign ∷ w ∷ ws) fs after end bs rest at is are good s = absurd is
named_read (name ∷ assign ∷ []) fs after end bs rest at is are good s =
    let first = name_step name (assign ∷ list_words fs after) bs rest at is.0 (λ more next. no_name_next assign (list_words fs after) rest more is.1 next) s in
    let second = assign_step assign (list_words fs after) first.2 rest first.1 is.1 first.3 in
    let list = list_read fs after end second.2 rest second.1 are good second.3 in
    (list.0, list.1, ap (complex_from end) first.4 ∙ ap (assign_from end) second.4 ∙ list.3)

-- where the bytes from an offset on spell a complex that keeps the limits, it is read
pub spelled_read : (bytes : List ℕ) (from : ℕ) (fs : List (List Word)) (rest : List ℕ) → Spells (drop from bytes) fs rest → AreGood fs
    → (offset : ℕ) × (complex_at bytes from ≡ Ok (complex_of (spelled fs), offset))
spelled_read bytes from fs rest spells good =
    let read = named_read spells.naming fs spells.ending (length bytes) (drop from bytes) rest from spells.is_naming spells.numbers good spells.spread in
    (list_end read.0 read.1, read.2 ∙ limits_go read.0 fs read.1 good)
