-- A certificate that is written is read again.
use Rattle.std.proofs.Common.{◌≡◌, ◌≤◌, ◌<◌, ◌+◌, ℕ, Bool, true, false, List, [], ◌∷◌, ◌++◌, length, drop, map, Some, Ok, refl, sym, ap, subst, ◌∙◌, arith, append_assoc, length-append, codes, nat_le}
use Rattle.std.specs.List.{AllByRecursion, flat_map}
use Rattle.std.specs.Fmt.{decimal}
use Rattle.std.specs.Str.{bytes_eq}
use Rattle.std.proofs.lemmas.List.{append-nil, drop_at, take_at}
use Rattle.std.proofs.Math.Seq.{get_or-append_seam}
use Rattle.std.proofs.Common.{get_or, take}
use Rattle.complex_core.specs.Maps.{Differ, pair_cmp, reaches, takes}
use Rattle.complex_core.specs.Rising.{rising}
use Rattle.complex_core.proofs.Laws.{same_set_itself}
use Rattle.complex_core.proofs.Pairs.{pair_exact, pair_total}
use Rattle.complex_core.proofs.Searching.{rising_own}
use Rattle.facet_text.specs.Tokens.{is_blank}
use Rattle.facet_text.specs.Lines.{Item, items_past, line_end, word}
use Rattle.facet_text.proofs.LineLaws.{some_item}
use Rattle.flip_rules.specs.declared.flip.Flip.{Flip}
use Rattle.line_text.specs.Numbers.{begins_with_digit, end_at, is_digit, line_start, number_at}
use Rattle.line_text.specs.Flips.{flip_at}
use Rattle.line_text.specs.Writing.{HasSides, flip_text}
use Rattle.line_text.specs.declared.label.Labels.TheVariants.{UpTo}
use Rattle.line_text.proofs.LineLaws.{feed_start}
use Rattle.line_text.proofs.Again.{decimal_number, feed_first, flip_again, flip_start, number_begins, number_first, complex_first, word_first}
use Rattle.cert_text.specs.Statements.{Statement, OfVertex, Sphere, Equal, Manifold}
use Rattle.complex_core.specs.Complexes.{ComplexView}
use Rattle.facet_text.specs.Tokens.{has, tokens_past}
use Rattle.facet_text.specs.Writing as facet
use Rattle.facet_text.specs.Writing.{to_semicolon}
use Rattle.facet_text.specs.Grammar.{complex_at}
use Rattle.facet_text.proofs.Again.{read_again}
use Rattle.cert_text.specs.Readings.{Reading, ◌>>=◌, of_line, so_many}
use Rattle.cert_text.specs.Lines.{count_at, counted, ended, flip_line, is_vertex, label_at, none_more, nothing_left, pair_at, pair_line, stated, vertex_at, word_at}
use Rattle.cert_text.specs.Grammar.{body_at, certificate_at, equal_at, flips_at, manifold_at, sphere_at, target_at, header_at, kind_at, kind_of, map_at, version_at, vertex_part, vertices_at}
use Rattle.cert_text.specs.declared.read.Kind.{Kind}
use Rattle.cert_text.specs.declared.read.Kind.TheVariants as kind
use Rattle.cert_text.proofs.PairLaws.{none_before}
use Rattle.cert_text.proofs.Parts.{first_read}
use Rattle.cert_text.specs.Writing.{AreFlips, ArePairs, AreVertices, IsLabel, KeepsLimits, text_of, flip_line_text, flips_text, header_text, map_text, number_line, pair_text, vertex_text, vertices_text}

-- the next line of these items is the first of these bytes
pub record GoesOn (is : List Item) (bytes : List ℕ) : Type 0 where
  pub at : ℕ
  pub same : line_start is ≡ line_start (items_past 0 at bytes)

-- this is read, and these bytes go on
pub record IsRead {X : Type 0} (read : Reading X) (x : X) (rest : List ℕ) : Type 0 where
  pub after : List Item
  pub is : read ≡ Ok (x, after)
  pub on : GoesOn after rest

-- ---- lines

after_feed : (at : ℕ) (rest : List ℕ) → line_start (items_past 0 at (10 ∷ rest)) ≡ line_start (items_past 0 (at + 1) rest)
after_feed at rest =
    let more = some_item (at + 1) rest in
    ap line_start (feed_first at rest) ∙ ap (λ (is : List Item). line_start (line_end at ∷ is)) more.2 ∙ feed_start at more.0 more.1 ∙ ap line_start (sym more.2)

pub goes_on : (at : ℕ) (rest : List ℕ) → GoesOn (items_past 0 at (10 ∷ rest)) rest
goes_on at rest = record { at = at + 1; same = after_feed at rest }

pub other_bytes : (is : List Item) (bytes other : List ℕ) → bytes ≡ other → GoesOn is bytes → GoesOn is other
other_bytes is bytes other e on = record { at = on.at; same = on.same ∙ ap (λ (bs : List ℕ). line_start (items_past 0 on.at bs)) e }

word_start : (text : List ℕ) (at : ℕ) (is : List Item) → line_start (word text at ∷ is) ≡ word text at ∷ is
unfolding line_start
word_start text at is = refl

-- one byte or more, none a blank
pub record IsWord (w : List ℕ) : Type 0 where
  pub some : 0 < length w
  pub solid : AllByRecursion (λ b. is_blank b ≡ false) w

-- the first word of the next line
line_word : (is : List Item) (w rest : List ℕ) → IsWord w → (on : GoesOn is (w ++ 32 ∷ rest)) → line_start is ≡ word w on.at ∷ items_past 0 (on.at + length w) (32 ∷ rest)
line_word is w rest good on =
    on.same ∙ ap line_start (word_first on.at w 32 rest good.some good.solid refl) ∙ word_start w on.at (items_past 0 (on.at + length w) (32 ∷ rest))

-- ---- numbers

first_number : (at n : ℕ) (is : List Item) → n ≤ 4294967295 → number_at (word (decimal n) at ∷ is) ≡ Ok (Some n, at, is)
unfolding number_at
first_number at n is small =
    let good = decimal_number n small in
    let fits : nat_le n 4294967295 ≡ true = grind arith in
    rw (good.number, good.value, fits) refl

next_number : (at n c : ℕ) (rest : List ℕ) → n ≤ 4294967295 → is_blank c ≡ true
    → number_at (items_past 0 at (32 ∷ decimal n ++ c ∷ rest)) ≡ Ok (Some n, at + 1, items_past 0 (at + 1 + length (decimal n)) (c ∷ rest))
next_number at n c rest small blank =
    ap number_at (complex_first at (decimal n ++ c ∷ rest) ∙ number_first (at + 1) n c rest small blank)
    ∙ first_number (at + 1) n (items_past 0 (at + 1 + length (decimal n)) (c ∷ rest)) small

next_count : (at n c : ℕ) (rest : List ℕ) → n ≤ 4294967295 → is_blank c ≡ true
    → count_at (items_past 0 at (32 ∷ decimal n ++ c ∷ rest)) ≡ Ok (n, items_past 0 (at + 1 + length (decimal n)) (c ∷ rest))
unfolding count_at of_line ◌>>=◌
next_count at n c rest small blank = rw (next_number at n c rest small blank) refl

label_read : (before : ℕ → Bool) (is js : List Item) (at n : ℕ) → IsLabel n → before n ≡ false → number_at is ≡ Ok (Some n, at, js) → label_at before is ≡ Ok (n, js)
unfolding label_at of_line ◌>>=◌
label_read before is js at n good new read =
    let low : nat_le 1 n ≡ true = let l = good.0 in grind arith in
    let high : nat_le n 65000 ≡ true = let h = good.1 in grind arith in
    rw (read, low, high, new) refl

line_done : (at : ℕ) (rest : List ℕ) → ended (items_past 0 at (10 ∷ rest)) ≡ Ok (items_past 0 at (10 ∷ rest))
unfolding of_line end_at
line_done at rest = rw (feed_first at rest) refl

-- a word, a number and the line's end
two_words : (w : List ℕ) (n : ℕ) (rest : List ℕ) → number_line w n ++ rest ≡ w ++ 32 ∷ (decimal n ++ 10 ∷ rest)
two_words w n rest =
    append_assoc w (32 ∷ decimal n ++ 10 ∷ []) rest ∙ ap (λ (t : List ℕ). w ++ 32 ∷ t) (append_assoc (decimal n) (10 ∷ []) rest)

pub stated_again : (name : List ℕ) (n : ℕ) (is : List Item) (rest : List ℕ) → IsWord name → n ≤ 4294967295 → GoesOn is (number_line name n ++ rest) → IsRead (stated name is) n rest
unfolding stated word_at ◌>>=◌
stated_again name n is rest good small on =
    let here = other_bytes is _ _ (two_words name n rest) on in
    let start = line_word is name (decimal n ++ 10 ∷ rest) good here in
    let end = here.at + length name + 1 + length (decimal n) in
    let same : bytes_eq name name ≡ true = same_set_itself name in
    let count = next_count (here.at + length name) n 10 rest small refl in
    record { after = items_past 0 end (10 ∷ rest); is = rw (start, same, count, line_done end rest) refl; on = goes_on end rest }

-- ---- the lines of flips, pairs and vertices

pub flip_line_again : (before : List Flip) (f : Flip) (is : List Item) (rest : List ℕ) → HasSides (UpTo 65000) f → GoesOn is (flip_line_text f ++ rest) → IsRead (flip_line before is) f rest
unfolding flip_line counted of_line
flip_line_again before f is rest sides on =
    let here = other_bytes is _ _ (append_assoc (flip_text f) (10 ∷ []) rest) on in
    let start = flip_start (UpTo 65000) here.at f rest sides in
    let line : line_start is ≡ word start.0 here.at ∷ start.1 = here.same ∙ ap line_start start.2 ∙ word_start start.0 here.at start.1 in
    let end = here.at + length (flip_text f) in
    let read : flip_at (UpTo 65000) (word start.0 here.at ∷ start.1) ≡ Ok (f, items_past 0 end (10 ∷ rest)) =
    ap (flip_at (UpTo 65000)) (sym start.2) ∙ flip_again (UpTo 65000) here.at f rest sides in
    record { after = items_past 0 end (10 ∷ rest); is = rw (line, start.3, read) refl; on = goes_on end rest }

small_label : (n : ℕ) → IsLabel n → n ≤ 4294967295
small_label n good = omega (arith, good.1)

decimal_word : (n : ℕ) → n ≤ 4294967295 → IsWord (decimal n)
decimal_word n small = let good = decimal_number n small in record { some = good.some; solid = good.solid }

pub pair_line_again : (ps : List (ℕ × ℕ)) (p : ℕ × ℕ) (is : List Item) (rest : List ℕ) → IsLabel p.0 → IsLabel p.1 → takes ps p.0 ≡ false → reaches ps p.1 ≡ false → GoesOn is (pair_text p ++ rest) → IsRead (pair_line ps is) p rest
unfolding pair_line counted pair_at ◌>>=◌
pair_line_again ps p is rest first second new_first new_second on =
    let low = small_label p.0 first in
    let good = decimal_number p.0 low in
    let here = other_bytes is _ _ (two_words (decimal p.0) p.1 rest) on in
    let start = line_word is (decimal p.0) (decimal p.1 ++ 10 ∷ rest) (decimal_word p.0 low) here in
    let middle = here.at + length (decimal p.0) in
    let end = middle + 1 + length (decimal p.1) in
    let digit : begins_with_digit (decimal p.0) ≡ true = number_begins (decimal p.0) good.some good.number in
    let one = label_read (takes ps) _ (items_past 0 middle (32 ∷ decimal p.1 ++ 10 ∷ rest)) here.at p.0 first new_first (first_number here.at p.0 _ low) in
    let two = label_read (reaches ps) _ (items_past 0 end (10 ∷ rest)) (middle + 1) p.1 second new_second (next_number middle p.1 10 rest (small_label p.1 second) refl) in
    record { after = items_past 0 end (10 ∷ rest); is = rw (start, digit, one, two, line_done end rest) refl; on = goes_on end rest }

vertex_word : IsWord (codes "vertex")
vertex_word = record { some = omega arith; solid = (refl, (refl, (refl, (refl, (refl, (refl, tt)))))) }

pub vertex_line_again : (v : ℕ) (is : List Item) (rest : List ℕ) → IsLabel v → GoesOn is (number_line (codes "vertex") v ++ rest) → IsRead (counted is_vertex vertex_at (line_start is)) v rest
unfolding counted vertex_at word_at ◌>>=◌
vertex_line_again v is rest good on =
    let here = other_bytes is _ _ (two_words (codes "vertex") v rest) on in
    let start = line_word is (codes "vertex") (decimal v ++ 10 ∷ rest) vertex_word here in
    let middle = here.at + length (codes "vertex") in
    let end = middle + 1 + length (decimal v) in
    let one = label_read (λ n. false) _ (items_past 0 end (10 ∷ rest)) (middle + 1) v good refl (next_number middle v 10 rest (small_label v good) refl) in
    record { after = items_past 0 end (10 ∷ rest); is = rw (start, one, line_done end rest) refl; on = goes_on end rest }

-- ---- so many, one after another

-- each is good after those before it
abbrev Each : {X : Type 0} → (List X → X → Type 0) → List X → List X → Type 0
Each P done [] = Unit {0}
Each P done (x ∷ xs) = P done x × Each P (done ++ x ∷ []) xs

module _ {X : Type 0} (one : List X → List Item → Reading X) (text : X → List ℕ) (P : List X → X → Type 0) (Q : List ℕ → Type 0)
    (opens : (x : X) (rest : List ℕ) → Q (text x ++ rest))
    (step : (before : List X) (x : X) (is : List Item) (rest : List ℕ) → P before x → Q rest → GoesOn is (text x ++ rest) → IsRead (one before is) x rest) where
  opened : (xs : List X) (rest : List ℕ) → Q rest → Q (flat_map text xs ++ rest)
  opened [] rest q = q
  opened (x ∷ xs) rest q = subst Q (sym (append_assoc (text x) (flat_map text xs) rest)) (opens x (flat_map text xs ++ rest))

  pub many_again : (xs done : List X) (is : List Item) (rest : List ℕ) → Each P done xs → Q rest → GoesOn is (flat_map text xs ++ rest) → IsRead (so_many one (length xs) done is) (done ++ xs) rest
  unfolding so_many ◌>>=◌
  many_again [] done is rest each q on = record { after = is; is = rw (append-nil done) refl; on = on }
  many_again (x ∷ xs) done is rest each q on =
      let here = other_bytes is _ _ (append_assoc (text x) (flat_map text xs) rest) on in
      let first = step done x is (flat_map text xs ++ rest) each.0 (opened xs rest q) here in
      let others = many_again xs (done ++ x ∷ []) first.after rest each.1 q first.on in
      record { after = others.after; is = rw (first.is, others.is) (ap (λ (l : List X). Ok (l, others.after)) (append_assoc done (x ∷ []) xs)); on = others.on }

-- ---- the parts

-- no line that begins with a digit stands first
abbrev NoDigit : List ℕ → Type 0
NoDigit rest = (at : ℕ) → none_more begins_with_digit (line_start (items_past 0 at rest)) ≡ Ok tt

flips_word : IsWord (codes "flips")
flips_word = record { some = omega arith; solid = (refl, (refl, (refl, (refl, (refl, tt))))) }

map_word : IsWord (codes "map")
map_word = record { some = omega arith; solid = (refl, (refl, (refl, tt))) }

vertices_word : IsWord (codes "vertices")
vertices_word = record { some = omega arith; solid = (refl, (refl, (refl, (refl, (refl, (refl, (refl, (refl, tt)))))))) }

no_digit_left : NoDigit []
unfolding none_more line_start items_past
no_digit_left at = refl

no_digit_word : (name rest : List ℕ) (n : ℕ) → IsWord name → begins_with_digit name ≡ false → NoDigit (number_line name n ++ rest)
unfolding none_more
no_digit_word name rest n good other at =
    let on : GoesOn (items_past 0 at (number_line name n ++ rest)) (number_line name n ++ rest) = record { at = at; same = refl } in
    let start = line_word _ name (decimal n ++ 10 ∷ rest) good (other_bytes _ _ _ (two_words name n rest) on) in
    rw (start, other) refl

no_more : (begins : List ℕ → Bool) (is : List Item) (rest : List ℕ) (on : GoesOn is rest) → none_more begins (line_start (items_past 0 on.at rest)) ≡ Ok tt → none_more begins (line_start is) ≡ Ok tt
no_more begins is rest on none = ap (none_more begins) on.same ∙ none

each_flip : (flips done : List Flip) → AllByRecursion (HasSides (UpTo 65000)) flips → Each (λ before f. HasSides (UpTo 65000) f) done flips
each_flip [] done all = tt
each_flip (f ∷ fs) done all = (all.0, each_flip fs (done ++ f ∷ []) all.1)

pub flips_again : (flips : List Flip) (is : List Item) (rest : List ℕ) → AreFlips flips → NoDigit rest → GoesOn is (flips_text flips ++ rest) → IsRead (flips_at is) flips rest
unfolding flips_at ◌>>=◌ flips_text
flips_again flips is rest good none on =
    let lines = flat_map flip_line_text flips in
    let here = other_bytes is _ _ (append_assoc (number_line (codes "flips") (length flips)) lines rest) on in
    let head = stated_again (codes "flips") (length flips) is (lines ++ rest) flips_word good.few here in
    let all = many_again flip_line flip_line_text (λ before f. HasSides (UpTo 65000) f) (λ bs. Unit {0}) (λ f bs. tt) (λ before f js bs sides q h. flip_line_again before f js bs sides h)
    flips [] head.after rest (each_flip flips [] good.sides) tt head.on in
    let end = no_more begins_with_digit all.after rest all.on (none all.on.at) in
    record { after = all.after; is = rw (head.is, all.is, end) refl; on = all.on }

differ_next : (done ps : List (ℕ × ℕ)) (p : ℕ × ℕ) → Differ (done ++ p ∷ ps) → (takes done p.0 ≡ false) × (reaches done p.1 ≡ false)
differ_next done ps p differ =
    let none = none_before (done ++ p ∷ ps) (length done) (0, 0) differ (omega (arith, length-append done (p ∷ ps))) in
    let front : take (length done) (done ++ p ∷ ps) ≡ done = take_at done (p ∷ ps) (length done) refl in
    let there : get_or (done ++ p ∷ ps) (length done) (0, 0) ≡ p = get_or-append_seam done p ps (0, 0) in
    (rw (front, there) at none.0, rw (front, there) at none.1)

-- labels that stand in no pair before
abbrev IsNew : List (ℕ × ℕ) → ℕ × ℕ → Type 0
IsNew before p = (IsLabel p.0 × IsLabel p.1) × ((takes before p.0 ≡ false) × (reaches before p.1 ≡ false))

each_pair : (ps done : List (ℕ × ℕ)) → AllByRecursion (λ p. IsLabel p.0 × IsLabel p.1) ps → Differ (done ++ ps) → Each IsNew done ps
each_pair [] done all differ = tt
each_pair (p ∷ ps) done all differ =
    let D : List (ℕ × ℕ) → Type 0 = λ qs. Differ qs in
    ((all.0, differ_next done ps p differ), each_pair ps (done ++ p ∷ []) all.1 (subst D (sym (append_assoc done (p ∷ []) ps)) differ))

pub map_again : (pairs : List (ℕ × ℕ)) (is : List Item) (rest : List ℕ) → ArePairs pairs → NoDigit rest → GoesOn is (map_text pairs ++ rest) → IsRead (map_at is) pairs rest
unfolding map_at ◌>>=◌ map_text
map_again pairs is rest good none on =
    let lines = flat_map pair_text pairs in
    let here = other_bytes is _ _ (append_assoc (number_line (codes "map") (length pairs)) lines rest) on in
    let head = stated_again (codes "map") (length pairs) is (lines ++ rest) map_word good.few here in
    let all = many_again pair_line pair_text IsNew (λ bs. Unit {0}) (λ p bs. tt) (λ before p js bs new q h. pair_line_again before p js bs new.0.0 new.0.1 new.1.0 new.1.1 h)
    pairs [] head.after rest (each_pair pairs [] good.labels good.map.differ) tt head.on in
    let end = no_more begins_with_digit all.after rest all.on (none all.on.at) in
    let own : rising pair_cmp pairs ≡ pairs = rising_own pair_total pair_exact pairs good.map.rising in
    record { after = all.after; is = rw (head.is, all.is, end, own) refl; on = all.on }

pub vertex_again : (before : List OfVertex) (v : OfVertex) (is : List Item) (rest : List ℕ) → IsLabel v.0 → AreFlips v.1 → NoDigit rest → GoesOn is (vertex_text v ++ rest) → IsRead (vertex_part before is) v rest
unfolding vertex_part ◌>>=◌ vertex_text
vertex_again before v is rest label good none on =
    let here = other_bytes is _ _ (append_assoc (number_line (codes "vertex") v.0) (flips_text v.1) rest) on in
    let line = vertex_line_again v.0 is (flips_text v.1 ++ rest) label here in
    let flips = flips_again v.1 line.after rest good none line.on in
    record { after = flips.after; is = rw (line.is, flips.is) refl; on = flips.on }

no_digit_vertex : (v : OfVertex) (rest : List ℕ) → NoDigit (vertex_text v ++ rest)
unfolding vertex_text is_digit
no_digit_vertex v rest =
    let N : List ℕ → Type 0 = λ bs. NoDigit bs in
    subst N (sym (append_assoc (number_line (codes "vertex") v.0) (flips_text v.1) rest)) (no_digit_word (codes "vertex") (flips_text v.1 ++ rest) v.0 vertex_word refl)

each_vertex : (vs done : List OfVertex) → AllByRecursion (λ v. IsLabel v.0) vs → AllByRecursion (λ v. AreFlips v.1) vs → Each (λ before v. IsLabel v.0 × AreFlips v.1) done vs
each_vertex [] done labels flips = tt
each_vertex (v ∷ vs) done labels flips = ((labels.0, flips.0), each_vertex vs (done ++ v ∷ []) labels.1 flips.1)

no_vertex_left : (at : ℕ) → none_more is_vertex (line_start (items_past 0 at [])) ≡ Ok tt
unfolding none_more line_start items_past
no_vertex_left at = refl

pub vertices_again : (vs : List OfVertex) (is : List Item) → AreVertices vs → GoesOn is (vertices_text vs ++ []) → IsRead (vertices_at is) vs []
unfolding vertices_at ◌>>=◌ vertices_text
vertices_again vs is good on =
    let parts = flat_map vertex_text vs in
    let here = other_bytes is _ _ (append_assoc (number_line (codes "vertices") (length vs)) parts []) on in
    let head = stated_again (codes "vertices") (length vs) is (parts ++ []) vertices_word good.few here in
    let all = many_again vertex_part vertex_text (λ before v. IsLabel v.0 × AreFlips v.1) (λ bs. NoDigit bs) no_digit_vertex (λ before v js bs is_good q h. vertex_again before v js bs is_good.0 is_good.1 q h)
    vs [] head.after [] (each_vertex vs [] good.labels good.flips) no_digit_left head.on in
    let end = no_more is_vertex all.after [] all.on (no_vertex_left all.on.at) in
    record { after = all.after; is = rw (head.is, all.is, end) refl; on = all.on }

-- ---- the whole

all_done : (is : List Item) → GoesOn is [] → nothing_left (line_start is) ≡ Ok tt
unfolding nothing_left line_start items_past
all_done is on = ap nothing_left on.same

no_digit_map : (pairs : List (ℕ × ℕ)) (rest : List ℕ) → NoDigit (map_text pairs ++ rest)
unfolding map_text is_digit
no_digit_map pairs rest =
    let N : List ℕ → Type 0 = λ bs. NoDigit bs in
    subst N (sym (append_assoc (number_line (codes "map") (length pairs)) (flat_map pair_text pairs) rest)) (no_digit_word (codes "map") (flat_map pair_text pairs ++ rest) (length pairs) map_word refl)

version_read : (at : ℕ) (rest : List ℕ) → version_at (items_past 0 at (32 ∷ 49 ∷ 32 ∷ rest)) ≡ Ok (items_past 0 (at + 2) (32 ∷ rest))
unfolding version_at of_line number_at is_digit ◌>>=◌
version_read at rest =
    let two : at + 1 + 1 ≡ at + 2 = omega arith in
    rw (complex_first at (49 ∷ 32 ∷ rest), word_first (at + 1) (49 ∷ []) 32 rest (omega arith) (refl, tt) refl, two) refl

kind_read : (kind : List ℕ) (k : Kind) (at : ℕ) (rest : List ℕ) → IsWord kind → kind_of kind ≡ Some k → kind_at (items_past 0 at (32 ∷ kind ++ 10 ∷ rest)) ≡ Ok (k, items_past 0 (at + 1 + length kind) (10 ∷ rest))
unfolding kind_at
kind_read kind k at rest good is =
    ap kind_at (complex_first at (kind ++ 10 ∷ rest) ∙ word_first (at + 1) kind 10 rest good.some good.solid refl) ∙ rw is refl

first_word : IsWord (codes "bistellar")
first_word = record { some = omega arith; solid = (refl, (refl, (refl, (refl, (refl, (refl, (refl, (refl, (refl, tt))))))))) }

word_read : (name : List ℕ) (is : List Item) (rest : List ℕ) → IsWord name → (on : GoesOn is (name ++ 32 ∷ rest)) → word_at name (line_start is) ≡ Ok (items_past 0 (on.at + length name) (32 ∷ rest))
unfolding word_at
word_read name is rest good on =
    let same : bytes_eq name name ≡ true = same_set_itself name in
    rw (line_word is name rest good on, same) refl

-- the first line
header_again : (kind : List ℕ) (k : Kind) (at end : ℕ) (rest : List ℕ) → IsWord kind → kind_of kind ≡ Some k → end + 1 ≡ at + length (header_text kind)
    → header_at (items_past 0 at (header_text kind ++ rest)) ≡ Ok (k, items_past 0 end (10 ∷ rest))
unfolding header_at
header_again kind k at end rest good is offset =
    let text : header_text kind ++ rest ≡ codes "bistellar" ++ 32 ∷ 49 ∷ 32 ∷ (kind ++ 10 ∷ rest) =
    append_assoc (codes "bistellar 1 ") (kind ++ 10 ∷ []) rest ∙ ap (λ (t : List ℕ). codes "bistellar 1 " ++ t) (append_assoc kind (10 ∷ []) rest) in
    let on : GoesOn (items_past 0 at (header_text kind ++ rest)) (codes "bistellar" ++ 32 ∷ 49 ∷ 32 ∷ (kind ++ 10 ∷ rest)) =
    record { at = at; same = ap (λ (bs : List ℕ). line_start (items_past 0 at bs)) text } in
    let start = word_read (codes "bistellar") (items_past 0 at (header_text kind ++ rest)) (49 ∷ 32 ∷ (kind ++ 10 ∷ rest)) first_word on in
    let middle = at + length (codes "bistellar") in
    let there : middle + 2 + 1 + length kind ≡ end = omega (arith, offset, length-append kind (10 ∷ [])) in
    first_read _ _ _ start
    ∙ first_read _ _ _ (version_read middle (kind ++ 10 ∷ rest))
    ∙ first_read _ _ _ (kind_read kind k (middle + 2) rest good is)
    ∙ first_read _ _ _ (line_done (middle + 2 + 1 + length kind) rest)
    ∙ ap (λ (p : ℕ). Ok (k, items_past 0 p (10 ∷ rest))) there

sphere_again : (is : List Item) (flips : List Flip) → AreFlips flips → GoesOn is (flips_text flips) → sphere_at is ≡ Ok (Sphere flips)
unfolding sphere_at ◌>>=◌
sphere_again is flips good on =
    let all = flips_again flips is [] good no_digit_left (other_bytes is _ _ (sym (append-nil (flips_text flips))) on) in
    rw (all.is, all_done all.after all.on) refl

manifold_again : (is : List Item) (vs : List OfVertex) → AreVertices vs → GoesOn is (vertices_text vs) → manifold_at is ≡ Ok (Manifold vs)
unfolding manifold_at ◌>>=◌
manifold_again is vs good on =
    let all = vertices_again vs is good (other_bytes is _ _ (sym (append-nil (vertices_text vs))) on) in
    rw (all.is, all_done all.after all.on) refl

-- a blank before a complex is passed over
blank_before : (bytes : List ℕ) (at : ℕ) (rest : List ℕ) → drop at bytes ≡ 10 ∷ rest → drop (at + 1) bytes ≡ rest → complex_at bytes at ≡ complex_at bytes (at + 1)
unfolding tokens_past has
blank_before bytes at rest here next = rw (here, next) refl

-- no `;` follows
no_semicolon : (flips : List Flip) (rest : List ℕ) → to_semicolon (10 ∷ (flips_text flips ++ rest)) ≡ 0
unfolding flips_text has
no_semicolon flips rest = refl

target_again : (front after : List ℕ) (k : ComplexView) → facet.KeepsLimits k → to_semicolon after ≡ 0
    → target_at (front ++ (10 ∷ facet.text_of k.facets ++ after)) (items_past 0 (length front) (10 ∷ facet.text_of k.facets ++ after))
    ≡ Ok (k, items_past 0 (length front + 1 + length (facet.text_of k.facets)) after)
unfolding target_at
target_again front after k keeps none =
    let text = facet.text_of k.facets in
    let at = length front in
    let bytes = front ++ (10 ∷ text ++ after) in
    let fed = front ++ 10 ∷ [] in
    let len : at + 1 ≡ length fed = sym (length-append front (10 ∷ [])) in
    let whole : bytes ≡ fed ++ (text ++ after) = sym (append_assoc front (10 ∷ []) (text ++ after)) in
    let longer : bytes ≡ fed ++ text ++ after = whole ∙ sym (append_assoc fed text after) in
    let here : drop at bytes ≡ 10 ∷ (text ++ after) = drop_at front (10 ∷ (text ++ after)) at refl in
    let next : drop (at + 1) bytes ≡ text ++ after = ap (drop (at + 1)) whole ∙ drop_at fed (text ++ after) (at + 1) (sym len) in
    let offset : length fed + length text + to_semicolon after ≡ at + 1 + length text = omega (arith, none, len) in
    let read : complex_at bytes at ≡ Ok (k, at + 1 + length text) =
    blank_before bytes at (text ++ after) here next ∙ ap (λ (bs : List ℕ). complex_at bs (at + 1)) longer
    ∙ ap (complex_at (fed ++ text ++ after)) len ∙ read_again fed after k keeps ∙ ap (λ (p : ℕ). Ok (k, p)) offset in
    let last : drop (at + 1 + length text) bytes ≡ after =
    ap (drop (at + 1 + length text)) longer ∙ drop_at (fed ++ text) after (at + 1 + length text) (omega (arith, length-append fed text, len)) in
    rw (feed_first at (text ++ after), read, last) refl

equal_again : (front : List ℕ) (k : ComplexView) (flips : List Flip) (pairs : List (ℕ × ℕ)) → facet.KeepsLimits k → AreFlips flips → ArePairs pairs
    → (bytes : List ℕ) → bytes ≡ front ++ (10 ∷ facet.text_of k.facets ++ (10 ∷ flips_text flips ++ map_text pairs))
    → equal_at bytes (items_past 0 (length front) (10 ∷ facet.text_of k.facets ++ (10 ∷ flips_text flips ++ map_text pairs))) ≡ Ok (Equal k flips pairs)
unfolding equal_at ◌>>=◌
equal_again front k flips pairs keeps good map bytes e =
    let text = facet.text_of k.facets in
    let rest = flips_text flips ++ map_text pairs in
    let target : target_at bytes (items_past 0 (length front) (10 ∷ text ++ (10 ∷ rest))) ≡ Ok (k, items_past 0 (length front + 1 + length text) (10 ∷ rest)) =
    ap (λ (bs : List ℕ). target_at bs (items_past 0 (length front) (10 ∷ text ++ (10 ∷ rest)))) e ∙ target_again front (10 ∷ rest) k keeps (no_semicolon flips (map_text pairs)) in
    let on = goes_on (length front + 1 + length text) rest in
    let none : NoDigit (map_text pairs) = (let N : List ℕ → Type 0 = λ bs. NoDigit bs in subst N (append-nil (map_text pairs)) (no_digit_map pairs [])) in
    let all = flips_again flips _ (map_text pairs) good none on in
    let last = map_again pairs all.after [] map no_digit_left (other_bytes _ _ _ (sym (append-nil (map_text pairs))) all.on) in
    rw (target, all.is, last.is, all_done last.after last.on) refl

sphere_word : IsWord (codes "sphere")
sphere_word = record { some = omega arith; solid = (refl, (refl, (refl, (refl, (refl, (refl, tt)))))) }

equal_word : IsWord (codes "equal")
equal_word = record { some = omega arith; solid = (refl, (refl, (refl, (refl, (refl, tt))))) }

manifold_word : IsWord (codes "manifold")
manifold_word = record { some = omega arith; solid = (refl, (refl, (refl, (refl, (refl, (refl, (refl, (refl, tt)))))))) }

pub certificate_again : (before : List ℕ) (c : Statement) → KeepsLimits c → certificate_at (before ++ text_of c) (length before) ≡ Ok c
unfolding certificate_at body_at text_of
certificate_again before (Sphere flips) good =
    let at = length before in
    let text = header_text (codes "sphere") ++ flips_text flips in
    ap (λ (bs : List ℕ). header_at (items_past 0 at bs) >>= λ k. body_at (before ++ text) k.0 k.1) (drop_at before text at refl)
    ∙ first_read _ _ _ (header_again (codes "sphere") kind.Sphere at (at + 18) (flips_text flips) sphere_word refl (omega arith))
    ∙ sphere_again _ flips good (goes_on (at + 18) (flips_text flips))
certificate_again before (Equal k flips pairs) good =
    let at = length before in
    let rest = facet.text_of k.facets ++ (10 ∷ flips_text flips ++ map_text pairs) in
    let text = header_text (codes "equal") ++ rest in
    let front = before ++ codes "bistellar 1 equal" in
    let whole : before ++ text ≡ front ++ 10 ∷ rest = sym (append_assoc before (codes "bistellar 1 equal") (10 ∷ rest)) in
    ap (λ (bs : List ℕ). header_at (items_past 0 at bs) >>= λ k. body_at (before ++ text) k.0 k.1) (drop_at before text at refl)
    ∙ first_read _ _ _ (header_again (codes "equal") kind.Equal at (length front) rest equal_word refl (omega (arith, length-append before (codes "bistellar 1 equal"))))
    ∙ equal_again front k flips pairs good.0 good.1 good.2 (before ++ text) whole
certificate_again before (Manifold vs) good =
    let at = length before in
    let text = header_text (codes "manifold") ++ vertices_text vs in
    ap (λ (bs : List ℕ). header_at (items_past 0 at bs) >>= λ k. body_at (before ++ text) k.0 k.1) (drop_at before text at refl)
    ∙ first_read _ _ _ (header_again (codes "manifold") kind.Manifold at (at + 20) (vertices_text vs) manifold_word refl (omega arith))
    ∙ manifold_again _ vs good (goes_on (at + 20) (vertices_text vs))
