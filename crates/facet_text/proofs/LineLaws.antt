-- How the items go on from offset to offset.
use Rattle.std.proofs.Common.{◌≡◌, ◌≤◌, ◌<◌, ◌+◌, ◌-◌, ℕ, zero, suc, Bool, true, false, not, List, [], ◌∷◌, ◌++◌, length, take, drop, get_or, refl, sym, ap, subst, ◌∙◌, arith, inl, inr, add-zero, add-one, length-drop, length-append, append_assoc, drop-cons, filter}
use Rattle.std.specs.Prelude.{slice_range}
use Rattle.std.specs.List.{AllPass, list_all, prefix_len, take_while}
use Rattle.std.proofs.Math.Seq.{drop-length}
use Rattle.std.proofs.lemmas.Bool.{cases_Bool, true≢false}
use Rattle.std.proofs.lemmas.List.{append-nil, drop-drop, get_or-drop, take_more}
use Rattle.std.proofs.lemmas.List.Elements.{filter-append}
use Rattle.std.proofs.lemmas.List.Sums.{AllPass-from_list_all}
use Rattle.std.proofs.Math.Seq.{take-length}
use Rattle.std.proofs.lemmas.List.Sums.{prefix_len-le-length}
use Rattle.facet_text.specs.Tokens.{is_blank}
use Rattle.facet_text.specs.Lines.{AfterEnds, AreEnds, Item, feeds_in, is_feed, is_solid, items, items_past, line_end, word}

pub items_past-drop : (n at : ℕ) (bs : List ℕ) → n ≤ length bs → items_past n at bs ≡ items_past 0 (at + n) (drop n bs)
unfolding items_past
items_past-drop zero at bs h = rw add-zero refl
items_past-drop (suc n) at [] h = absurd (omega arith)
items_past-drop (suc n) at (b ∷ bs) h =
    let offset : at + 1 + n ≡ at + suc n = omega arith in
    items_past-drop n (at + 1) bs (omega arith) ∙ ap (λ (k : ℕ). items_past 0 k (drop n bs)) offset

pub feed_here : (at b : ℕ) (bs : List ℕ) → is_feed b ≡ true → items_past 0 at (b ∷ bs) ≡ line_end at ∷ items_past 0 (at + 1) bs
unfolding items_past
feed_here at b bs feed = rw feed refl

pub pass_here : (at b : ℕ) (bs : List ℕ) → is_feed b ≡ false → is_blank b ≡ true → items_past 0 at (b ∷ bs) ≡ items_past 0 (at + 1) bs
unfolding items_past
pass_here at b bs feed blank = rw (blank, feed) refl

pub no_feed : (b : ℕ) → is_blank b ≡ false → is_feed b ≡ false
no_feed b solid = grind arith

ends_push : (ends : List Item) (p : ℕ) → AreEnds ends → AreEnds (ends ++ line_end p ∷ [])
ends_push [] p are = tt
ends_push (line_end q ∷ ends) p are = ends_push ends p are
ends_push (word text q ∷ ends) p are = absurd are

-- one more line end
pub more_ends : (is rest : List Item) (n p : ℕ) → AfterEnds is n (line_end p ∷ rest) → AfterEnds is (n + 1) rest
more_ends is rest n p h =
    (h.0 ++ line_end p ∷ [], ends_push h.0 p h.1, length-append h.0 (line_end p ∷ []) ∙ ap (λ (k : ℕ). k + 1) h.2, h.3 ∙ sym (append_assoc h.0 (line_end p ∷ []) rest))

-- a line feed ends a line, and another blank is passed over
blank_step : (at b : ℕ) (bs : List ℕ) (is : List Item) (n : ℕ) → is_blank b ≡ true → AfterEnds is n (items_past 0 at (b ∷ bs)) → AfterEnds is (n + feeds_in b) (items_past 0 (at + 1) bs)
blank_step at b bs is n blank h = elim (cases_Bool (is_feed b)) [
  | inl feed ↦
      let one : feeds_in b ≡ 1 = rw feed refl in
      rw one (more_ends is (items_past 0 (at + 1) bs) n at (subst (AfterEnds is n) (feed_here at b bs feed) h))
  | inr other ↦
      let none : feeds_in b ≡ 0 = rw other refl in
      rw (none, add-zero) (subst (AfterEnds is n) (pass_here at b bs other blank) h)
]

pub past_blank : (bs : List ℕ) (i : ℕ) (is : List Item) (n : ℕ) → i < length bs → is_blank (get_or bs i 0) ≡ true → AfterEnds is n (items bs i) → AfterEnds is (n + feeds_in (get_or bs i 0)) (items bs (i + 1))
past_blank bs i is n lt blank h =
    let cut : drop i bs ≡ get_or bs i 0 ∷ drop (i + 1) bs = rw add-one (drop-cons bs i 0 lt) in
    blank_step i (get_or bs i 0) (drop (i + 1) bs) is n blank (subst (λ (l : List ℕ). AfterEnds is n (items_past 0 i l)) cut h)

-- the word that begins at a byte
pub word_step : (at b : ℕ) (bs : List ℕ) → is_blank b ≡ false → items_past 0 at (b ∷ bs) ≡ word (b ∷ take_while is_solid bs) at ∷ items_past 0 (at + 1 + prefix_len is_solid bs) (drop (prefix_len is_solid bs) bs)
unfolding items_past
word_step at b bs solid = rw (solid, no_feed b solid) (ap (λ (is : List Item). word (b ∷ take_while is_solid bs) at ∷ is) (items_past-drop (prefix_len is_solid bs) (at + 1) bs (prefix_len-le-length is_solid bs)))

pub items-word : (bs : List ℕ) (i j : ℕ) → i < length bs → is_blank (get_or bs i 0) ≡ false → j ≡ i + 1 + prefix_len is_solid (drop (i + 1) bs)
    → items bs i ≡ word (slice_range bs i j) i ∷ items bs j
items-word bs i j lt solid e =
    let b = get_or bs i 0 in
    let rest = drop (i + 1) bs in
    let m = prefix_len is_solid rest in
    let cut : drop i bs ≡ b ∷ rest = rw add-one (drop-cons bs i 0 lt) in
    let width : j - i ≡ suc m = omega arith in
    let text : b ∷ take m rest ≡ slice_range bs i j = rw (width, cut) refl in
    let after : items_past 0 (i + 1 + m) (drop m rest) ≡ items bs j = rw (drop-drop m (i + 1) bs, ← e) refl in
    ap (items_past 0 i) cut ∙ word_step i b rest solid ∙ rw (text, after) refl

pub items-end : (bs : List ℕ) → items bs (length bs) ≡ line_end (length bs) ∷ []
unfolding items_past
items-end bs = rw drop-length refl

pub only_ends : (is : List Item) (n p : ℕ) → AfterEnds is n (line_end p ∷ []) → AreEnds is
only_ends is n p h = subst AreEnds (sym h.3) (ends_push h.0 p h.1)

pub line_end_is : (p q : ℕ) (is js : List Item) → line_end p ∷ is ≡ line_end q ∷ js → p ≡ q
line_end_is p q is js e = cc

pub not_line_end : (text : List ℕ) (p q : ℕ) (is js : List Item) → word text p ∷ is ≡ line_end q ∷ js → ⊥
not_line_end text p q is js e = cc

-- where the first item is a line end, it stands at the end of the line
pub first_end : (at : ℕ) (bs : List ℕ) (p : ℕ) (rest : List Item) → items_past 0 at bs ≡ line_end p ∷ rest → p ≡ at + prefix_len (λ b. not (is_feed b)) bs
unfolding items_past
first_end at [] p rest e = rw add-zero (sym (line_end_is at p [] rest e))
first_end at (b ∷ bs) p rest e = elim (cases_Bool (is_blank b)) [
  | inr solid ↦ absurd (not_line_end _ at p _ rest (sym (word_step at b bs solid) ∙ e))
  | inl blank ↦ elim (cases_Bool (is_feed b)) [
    | inl feed ↦
        let here : p ≡ at = sym (line_end_is at p _ rest (sym (feed_here at b bs feed) ∙ e)) in
        rw (feed, add-zero) here
    | inr other ↦
        let later : p ≡ at + 1 + prefix_len (λ b. not (is_feed b)) bs = first_end (at + 1) bs p rest (sym (pass_here at b bs other blank) ∙ e) in
        rw other (omega arith)
  ]
]

-- the items are never none
pub some_item : (at : ℕ) (bs : List ℕ) → (first : Item) × (rest : List Item) × (items_past 0 at bs ≡ first ∷ rest)
unfolding items_past
some_item at [] = (line_end at, [], refl)
some_item at (b ∷ bs) = elim (cases_Bool (is_blank b)) [
  | inr solid ↦ (_, _, word_step at b bs solid)
  | inl blank ↦ elim (cases_Bool (is_feed b)) [
    | inl feed ↦ (_, _, feed_here at b bs feed)
    | inr other ↦
        let more = some_item (at + 1) bs in
        (more.0, more.1, pass_here at b bs other blank ∙ more.2)
  ]
]

first_of : (ends rest : List Item) → AreEnds ends → 0 < length ends → (p : ℕ) × (more : List Item) × (ends ++ rest ≡ line_end p ∷ more)
first_of [] rest are some = absurd (omega arith)
first_of (line_end p ∷ ends) rest are some = (p, ends ++ rest, refl)
first_of (word text p ∷ ends) rest are some = absurd are

-- the line ends before a word comes
pub ended : (bs : List ℕ) (from n end : ℕ) (rest : List Item) → 0 < n → AfterEnds (items bs from) n rest → end ≡ from + prefix_len (λ b. not (is_feed b)) (drop from bs)
    → (more : List Item) × (items bs from ≡ line_end end ∷ more)
ended bs from n end rest some h e =
    let first = first_of h.0 rest h.1 (omega (arith, h.2)) in
    let offset = first_end from (drop from bs) first.0 first.1 (h.3 ∙ first.2) in
    (first.1, h.3 ∙ first.2 ∙ ap (λ (p : ℕ). line_end p ∷ first.1) (offset ∙ sym e))

pub all_ended : (bs : List ℕ) (from end : ℕ) → AreEnds (items bs from) → end ≡ from + prefix_len (λ b. not (is_feed b)) (drop from bs)
    → (more : List Item) × (items bs from ≡ line_end end ∷ more)
all_ended bs from end are e =
    let some = some_item from (drop from bs) in
    ended bs from (length (items bs from)) end [] (rw some.2 (omega arith)) (items bs from, are, refl, sym (append-nil (items bs from))) e

-- ---- the bytes before a word

slice_more : (bs : List ℕ) (i j : ℕ) → i ≤ j → j < length bs → slice_range bs i (j + 1) ≡ slice_range bs i j ++ get_or bs j 0 ∷ []
slice_more bs i j le lt =
    let width : j + 1 - i ≡ j - i + 1 = omega arith in
    let offset : i + (j - i) ≡ j = omega arith in
    let last : get_or (drop i bs) (j - i) 0 ≡ get_or bs j 0 = get_or-drop i bs (j - i) 0 ∙ ap (λ (n : ℕ). get_or bs n 0) offset in
    ap (λ (n : ℕ). take n (drop i bs)) width ∙ take_more (drop i bs) (j - i) 0 (omega (arith, length-drop i bs)) ∙ ap (λ (b : ℕ). slice_range bs i j ++ b ∷ []) last

none_there : (bs : List ℕ) (i : ℕ) → slice_range bs i i ≡ []
none_there bs i = let none : i - i ≡ 0 = omega arith in rw none refl

all_push : (p : ℕ → Bool) (xs : List ℕ) (x : ℕ) → list_all p xs ≡ true → p x ≡ true → list_all p (xs ++ x ∷ []) ≡ true
all_push p [] x all is = rw is refl
all_push p (y ∷ ys) x all is = elim (cases_Bool (p y)) [
  | inl good ↦ let rest : list_all p ys ≡ true = rw good at all in rw good (all_push p ys x rest is)
  | inr bad ↦ absurd (true≢false (sym (rw bad at all)))
]

pub more_blanks : (bs : List ℕ) (i j : ℕ) → i ≤ j → j < length bs → list_all is_blank (slice_range bs i j) ≡ true → is_blank (get_or bs j 0) ≡ true → list_all is_blank (slice_range bs i (j + 1)) ≡ true
more_blanks bs i j le lt all is = rw (slice_more bs i j le lt) (all_push is_blank (slice_range bs i j) (get_or bs j 0) all is)

one_feed : (b : ℕ) → length (filter is_feed (b ∷ [])) ≡ feeds_in b
one_feed b = elim (cases_Bool (is_feed b)) [ inl feed ↦ rw feed refl | inr other ↦ rw other refl ]

pub more_feeds : (bs : List ℕ) (i j n : ℕ) → i ≤ j → j < length bs → n ≡ length (filter is_feed (slice_range bs i j)) → n + feeds_in (get_or bs j 0) ≡ length (filter is_feed (slice_range bs i (j + 1)))
more_feeds bs i j n le lt so_far =
    let b = get_or bs j 0 in
    let split : length (filter is_feed (slice_range bs i (j + 1))) ≡ length (filter is_feed (slice_range bs i j)) + length (filter is_feed (b ∷ [])) =
    ap (λ (l : List ℕ). length (filter is_feed l)) (slice_more bs i j le lt) ∙ ap length (filter-append is_feed (slice_range bs i j) (b ∷ [])) ∙ length-append (filter is_feed (slice_range bs i j)) (filter is_feed (b ∷ [])) in
    omega (arith, split, one_feed b, so_far)

pub all_blanks : (bs : List ℕ) (i : ℕ) → i ≤ length bs → list_all is_blank (slice_range bs i (length bs)) ≡ true → AllPass is_blank (drop i bs)
all_blanks bs i le all =
    let width : length bs - i ≡ length (drop i bs) = omega (arith, length-drop i bs) in
    let whole : slice_range bs i (length bs) ≡ drop i bs = ap (λ (n : ℕ). take n (drop i bs)) width ∙ take-length (drop i bs) in
    AllPass-from_list_all is_blank (drop i bs) (rw whole at all)

pub a_word_stays : (bs : List ℕ) (i j : ℕ) → i ≤ j → j < length bs → is_blank (get_or bs j 0) ≡ false → AllPass is_blank (drop i bs) → true ≡ false
a_word_stays bs i j le lt solid all =
    let offset : i + (j - i) ≡ j = omega arith in
    let blank : is_blank (get_or (drop i bs) (j - i) 0) ≡ true = all (j - i) 0 (omega (arith, length-drop i bs)) in
    let same : get_or (drop i bs) (j - i) 0 ≡ get_or bs j 0 = get_or-drop i bs (j - i) 0 ∙ ap (λ (n : ℕ). get_or bs n 0) offset in
    sym blank ∙ ap is_blank same ∙ solid
