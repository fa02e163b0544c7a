-- A complex that is read was spelled.
use Rattle.std.proofs.Common.{◌≡◌, ◌≤◌, ◌<◌, ◌+◌, ℕ, suc, Bool, true, false, not, cond, ◌&&◌, List, [], ◌∷◌, ◌++◌, length, drop, take, map, refl, sym, ap, subst, ◌∙◌, arith, Ok, Err, inl, inr, append_assoc, nat_lt, nat_eq}
use Rattle.std.specs.List.{prefix_len, AllByRecursion}
use Rattle.std.specs.Str.Parse.{digits_value}
use Rattle.std.specs.Ordering.{nat_cmp}
use Rattle.std.proofs.lemmas.Bool.{cases_Bool, not-false, and_parts}
use Rattle.std.proofs.lemmas.List.{append-nil, drop-drop, length-take, take-append-drop}
use Rattle.complex_core.specs.Labels.{has as has_label, with, union}
use Rattle.complex_core.specs.Rising.{rising}
use Rattle.complex_core.specs.Complexes.{ComplexView}
use Rattle.std.specs.declared.cmp.Ordering.TheVariants.{Less}
use Rattle.std.proofs.lemmas.Cmp.{nat_cmp_total}
use Rattle.complex_core.specs.Labels.{IsFace, face_cmp}
use Rattle.complex_core.proofs.Faces.{cmp_less}
use Rattle.complex_core.proofs.Laws.{nat_eq_is}
use Rattle.complex_core.proofs.Sets.{above_cons, each_rising, sorted_rising}
use Rattle.complex_core.proofs.Sorting.{Sized, made_complex}
use Rattle.facet_text.specs.Writing.{KeepsLimits, to_semicolon}
use Rattle.facet_text.proofs.Again.{semicolon}
use Rattle.facet_text.specs.declared.fault.TextFault.{TextFault}
use Rattle.facet_text.specs.declared.token.Class.TheVariants.{Blank, Digit, Letter, NameByte}
use Rattle.facet_text.specs.declared.token.TokenKind.{TokenKind}
use Rattle.facet_text.specs.declared.token.TokenKind.TheVariants as kind
use Rattle.facet_text.specs.Tokens.{Spot, has, is_long_assign, kind_at, more_at, sign_kind, tokens, tokens_past}
use Rattle.facet_text.specs.Grammar.{Facets, Gives, Reading, after_facet, after_label, after_list, assign_from, complex_at, complex_from, complex_of, facet_from, facet_then, is_label, is_pure, label_from, label_then, labels_of, limits_then, list_end, list_from}
use Rattle.std.specs.Prelude.{IfOk}
use Rattle.facet_text.specs.Spelling.{AreBlanks, AreGood, IsAssign, IsEnding, IsGood, IsName, IsNumber, Spells, Spread, Word, facet_words, list_words, more_facets, more_numbers, spelled, values}
use Rattle.facet_text.proofs.TokenLaws.{more_at-le, one_token}
use Rattle.facet_text.proofs.LabelSets.{Fresh, fresh_labels, gathered_count, good_labels}
use Rattle.complex_core.proofs.Images.{union_rising}

-- ---- the bytes of a token

-- the words that a token may be
abbrev IsWordOf : TokenKind → Word → Type 0
IsWordOf kind.Name w = IsName w
IsWordOf kind.Label w = IsNumber w
IsWordOf kind.Open w = w ≡ 91 ∷ []
IsWordOf kind.Close w = w ≡ 93 ∷ []
IsWordOf kind.Comma w = w ≡ 44 ∷ []
IsWordOf kind.Assign w = IsAssign w
IsWordOf kind.Semicolon w = w ≡ 59 ∷ []
IsWordOf kind.Other w = Unit {0}

prefix_all : (p : ℕ → Bool) (bs : List ℕ) → AllByRecursion (λ b. p b ≡ true) (take (prefix_len p bs) bs)
prefix_all p [] = tt
prefix_all p (b ∷ bs) = elim (cases_Bool (p b)) [
  | inl good ↦ let one : 1 + prefix_len p bs ≡ suc (prefix_len p bs) = omega arith in rw (good, one) (good, prefix_all p bs)
  | inr other ↦ rw other tt
]

one_byte : (b c : ℕ) → nat_eq b c ≡ true → b ∷ [] ≡ c ∷ []
one_byte b c e = ap (λ (n : ℕ). n ∷ []) (nat_eq_is b c e)

sign_word : (b : ℕ) → IsWordOf (sign_kind b) (b ∷ [])
sign_word b = elim (cases_Bool (nat_eq b 91)) [
  | inl e ↦ rw e (one_byte b 91 e)
  | inr a ↦ elim (cases_Bool (nat_eq b 93)) [
    | inl e ↦ rw (a, e) (one_byte b 93 e)
    | inr c ↦ elim (cases_Bool (nat_eq b 44)) [
      | inl e ↦ rw (a, c, e) (one_byte b 44 e)
      | inr d ↦ elim (cases_Bool (nat_eq b 61)) [
        | inl e ↦ rw (a, c, d, e) (inl (one_byte b 61 e))
        | inr f ↦ elim (cases_Bool (nat_eq b 59)) [
          | inl e ↦ rw (a, c, d, f, e) (one_byte b 59 e)
          | inr g ↦ rw (a, c, d, f, g) tt
        ]
      ]
    ]
  ]
]

assign_or_sign : (b : ℕ) (bs : List ℕ) → IsWordOf (cond (is_long_assign b bs) kind.Assign (sign_kind b)) (b ∷ take (cond (is_long_assign b bs) 1 0) bs)
assign_or_sign b [] = sign_word b
assign_or_sign b (c ∷ cs) = elim (cases_Bool (nat_eq b 58 && nat_eq c 61)) [
  | inl long ↦
      let are = and_parts (nat_eq b 58) (nat_eq c 61) long in
      let first = nat_eq_is b 58 are.0 in
      let second = nat_eq_is c 61 are.1 in
      rw long (inr (λ i. first i ∷ second i ∷ []))
  | inr other ↦ rw other (sign_word b)
]

word_of : (b : ℕ) (bs : List ℕ) → IsWordOf (kind_at b bs) (b ∷ take (more_at b bs) bs)
unfolding kind_at more_at
word_of b bs = elim (cases_Bool (has Letter b)) [
  | inl letter ↦ rw letter (letter, prefix_all (has NameByte) bs)
  | inr no_letter ↦ elim (cases_Bool (has Digit b)) [
    | inl digit ↦ rw (no_letter, digit) (digit, prefix_all (has Digit) bs)
    | inr no_digit ↦ rw (no_letter, no_digit) (assign_or_sign b bs)
  ]
]

heads : (x y : Spot) (xs ys : List Spot) → x ∷ xs ≡ y ∷ ys → (x ≡ y) × (xs ≡ ys)
heads x y xs ys e = (cc, cc)

some_none : (x : Spot) (xs : List Spot) → [] ≡ x ∷ xs → ⊥
some_none x xs e = cc

-- a token's word stands after blanks, and the other tokens are read from its end on
abbrev Stood : List ℕ → ℕ → TokenKind → Word → ℕ → List Spot → Type 0
Stood bs at k w offset ts =
    (gap : List ℕ) × (n : ℕ) × AreBlanks gap × (bs ≡ gap ++ (w ++ drop n bs)) × (ts ≡ tokens_past 0 (at + n) (drop n bs)) × (at + n ≡ offset + length w) × IsWordOf k w

stood : (bs : List ℕ) (at : ℕ) (k : TokenKind) (w : Word) (offset : ℕ) (ts : List Spot) → tokens_past 0 at bs ≡ (k, w, offset) ∷ ts → Stood bs at k w offset ts
unfolding tokens_past
stood [] at k w offset ts e = absurd (some_none (k, w, offset) ts e)
stood (b ∷ bs) at k w offset ts e = elim (cases_Bool (has Blank b)) [
  | inl blank ↦
      let later = stood bs (at + 1) k w offset ts (rw blank at e) in
      let end : at + suc later.1 ≡ at + 1 + later.1 = omega arith in
      (b ∷ later.0, suc later.1, (blank, later.2), ap (λ (l : List ℕ). b ∷ l) later.3, later.4 ∙ ap (λ (n : ℕ). tokens_past 0 n (drop later.1 bs)) (sym end), end ∙ later.5, later.6)
  | inr solid ↦
      let m = more_at b bs in
      let same = heads (kind_at b bs, b ∷ take m bs, at) (k, w, offset) (tokens_past 0 (at + 1 + m) (drop m bs)) ts (sym (one_token at b bs solid) ∙ e) in
      let word : b ∷ take m bs ≡ w = ap (λ (s : Spot). s.1) same.0 in
      let from : at ≡ offset = ap (λ (s : Spot). s.2) same.0 in
      let end : at + suc m ≡ at + 1 + m = omega arith in
      let cut : b ∷ bs ≡ w ++ drop m bs = ap (λ (l : List ℕ). b ∷ l) (sym (take-append-drop m bs)) ∙ ap (λ (v : Word). v ++ drop m bs) word in
      let width : length w ≡ suc m = sym (ap length word) ∙ ap suc (omega (arith, length-take m bs, more_at-le b bs)) in
      let is : IsWordOf k w = subst (λ (v : Word). IsWordOf k v) word (subst (λ (j : TokenKind). IsWordOf j (b ∷ take m bs)) (ap (λ (s : Spot). s.0) same.0) (word_of b bs)) in
      ([], suc m, tt, cut, sym same.1 ∙ ap (λ (n : ℕ). tokens_past 0 n (drop m bs)) (sym end), omega arith, is)
]

-- the same in a whole input
abbrev Found : List ℕ → ℕ → TokenKind → Word → ℕ → List Spot → Type 0
Found bytes at k w offset ts =
    (gap : List ℕ) × (next : ℕ) × AreBlanks gap × (drop at bytes ≡ gap ++ (w ++ drop next bytes)) × (tokens bytes next ≡ ts) × (next ≡ offset + length w) × IsWordOf k w

found : (bytes : List ℕ) (at : ℕ) (k : TokenKind) (w : Word) (offset : ℕ) (ts : List Spot) → tokens bytes at ≡ (k, w, offset) ∷ ts → Found bytes at k w offset ts
found bytes at k w offset ts e =
    let s = stood (drop at bytes) at k w offset ts e in
    let rest : drop s.1 (drop at bytes) ≡ drop (at + s.1) bytes = drop-drop s.1 at bytes in
    (s.0, at + s.1, s.2, s.3 ∙ ap (λ (l : List ℕ). s.0 ++ (w ++ l)) rest, sym (s.4 ∙ ap (tokens_past 0 (at + s.1)) rest), s.5, s.6)

-- the word stands first, and the others after it
spread_on : (bytes : List ℕ) (at : ℕ) (k : TokenKind) (w v : Word) (offset : ℕ) (ts : List Spot) (ws : List Word) (rest : List ℕ)
    → (f : Found bytes at k w offset ts) → w ≡ v → Spread ws (drop f.1 bytes) rest → Spread (v ∷ ws) (drop at bytes) rest
spread_on bytes at k w v offset ts ws rest f e s = (f.0, drop f.1 bytes, f.2, f.3 ∙ ap (λ (u : Word). f.0 ++ (u ++ drop f.1 bytes)) e, s)

-- ---- what a reading without a fault says

passed : (b : Bool) (f : TextFault) (next : Reading) (x : ComplexView × ℕ) → cond b (Err f) next ≡ Ok x → (b ≡ false) × (next ≡ Ok x)
passed true f next x e = absurd (fault_not_ok f x e)
  where
    fault_not_ok : (f : TextFault) (x : ComplexView × ℕ) → (let r : Reading = Err f in r ≡ Ok x) → ⊥
    fault_not_ok f x e = cc
passed false f next x e = (refl, e)

no_fault : (f : TextFault) (x : ComplexView × ℕ) (r : Reading) → r ≡ Err f → r ≡ Ok x → ⊥
no_fault f x r e g = cc

most : (n limit : ℕ) → nat_lt limit n ≡ false → n ≤ limit
most n limit e = grind arith

is_not : (n m : ℕ) → nat_eq n m ≡ false → n ≡ m → ⊥
is_not n m e same = grind arith

label_passed : (start at n : ℕ) (done : List ℕ) (next : Reading) (x : ComplexView × ℕ) → label_then start at n done next ≡ Ok x
    → (is_label n ≡ true) × (has_label done n ≡ false) × (length (with done n) ≤ 7) × (next ≡ Ok x)
label_passed start at n done next x e =
    let good = passed (not (is_label n)) _ _ x e in
    let new = passed (has_label done n) _ _ x good.1 in
    let few = passed (nat_lt 7 (length (with done n))) _ _ x new.1 in
    (not-false (is_label n) good.0, new.0, most (length (with done n)) 7 few.0, few.1)

facet_passed : (start : ℕ) (labels : List ℕ) (fs : Facets) (next : Reading) (x : ComplexView × ℕ) → facet_then start labels fs next ≡ Ok x
    → (length labels ≡ 1 → ⊥) × (is_pure fs labels ≡ true) × (next ≡ Ok x)
facet_passed start labels fs next x e =
    let size = passed (nat_eq (length labels) 1) _ _ x e in
    let pure = passed (not (is_pure fs labels)) _ _ x size.1 in
    (is_not (length labels) 1 size.0, not-false (is_pure fs labels) pure.0, pure.1)

limits_passed : (k : ComplexView) (next : Reading) (x : ComplexView × ℕ) → limits_then k next ≡ Ok x → (length k.facets ≤ 20000) × (length (labels_of k) ≤ 4096) × (next ≡ Ok x)
limits_passed k next x e =
    let facets = passed (nat_lt 20000 (length k.facets)) _ _ x e in
    let labels = passed (nat_lt 4096 (length (labels_of k))) _ _ x facets.1 in
    (most (length k.facets) 20000 facets.0, most (length (labels_of k)) 4096 labels.0, labels.1)

same_answer : (x y : ComplexView × ℕ) → (let r : Reading = Ok x in r ≡ Ok y) → x ≡ y
same_answer x y e = cc

-- ---- what is left of a text

abbrev vals : List Word → List ℕ
vals ns = map (digits_value 10) ns

-- the reader took a facet with these labels after those facets
record Took (fs : Facets) (g : List ℕ) : Type 0 where
  fresh : Fresh [] g
  some : 0 < length g
  size : length (rising nat_cmp g) ≡ 1 → ⊥
  pure : is_pure fs (rising nat_cmp g) ≡ true

abbrev Taken : Facets → Facets → Type 0
Taken fs [] = Unit {0}
Taken fs (g ∷ gs) = Took fs g × Taken (fs ++ rising nat_cmp g ∷ []) gs

-- what is left after a facet
record FacetsLeft (fs : Facets) (k : ComplexView) (rest : List ℕ) : Type 0 where
  gs : List (List Word)
  ending : List Word
  is_ending : IsEnding ending
  no_semicolon : ending ≡ [] → to_semicolon rest ≡ 0
  numbers : AllByRecursion (λ f. AllByRecursion IsNumber f) gs
  taken : Taken fs (values gs)
  whole : k ≡ complex_of (fs ++ spelled gs)
  few_facets : length k.facets ≤ 20000
  few_labels : length (labels_of k) ≤ 4096

-- what is left after a label
record LabelsLeft (done : List ℕ) (fs : Facets) (k : ComplexView) (rest : List ℕ) : Type 0 where
  ns : List Word
  numbers : AllByRecursion IsNumber ns
  fresh : Fresh done (vals ns)
  size : length (union done (vals ns)) ≡ 1 → ⊥
  pure : is_pure fs (union done (vals ns)) ≡ true
  left : FacetsLeft (fs ++ union done (vals ns) ∷ []) k rest

abbrev AfterFacet : Facets → ComplexView → ℕ → List ℕ → ℕ → Type 0
AfterFacet fs k offset bytes at = (l : FacetsLeft fs k (drop offset bytes)) × Spread (more_facets l.gs l.ending) (drop at bytes) (drop offset bytes)

abbrev AfterLabel : List ℕ → Facets → ComplexView → ℕ → List ℕ → ℕ → Type 0
AfterLabel done fs k offset bytes at = (l : LabelsLeft done fs k (drop offset bytes)) × Spread (more_numbers l.ns (more_facets l.left.gs l.left.ending)) (drop at bytes) (drop offset bytes)

abbrev AtLabel : List ℕ → Facets → ComplexView → ℕ → List ℕ → ℕ → Type 0
AtLabel done fs k offset bytes at =
    (n : Word) × IsNumber n × (is_label (digits_value 10 n) ≡ true) × (has_label done (digits_value 10 n) ≡ false) × (length (with done (digits_value 10 n)) ≤ 7)
    × (l : LabelsLeft (with done (digits_value 10 n)) fs k (drop offset bytes)) × Spread (n ∷ more_numbers l.ns (more_facets l.left.gs l.left.ending)) (drop at bytes) (drop offset bytes)

abbrev AtFacet : Facets → ComplexView → ℕ → List ℕ → ℕ → Type 0
AtFacet fs k offset bytes at =
    (f : List Word) × AllByRecursion IsNumber f × Took fs (vals f) × (l : FacetsLeft (fs ++ rising nat_cmp (vals f) ∷ []) k (drop offset bytes)) × Spread (facet_words f (more_facets l.gs l.ending)) (drop at bytes) (drop offset bytes)

-- ---- the list's end

-- at the end no `;` is left behind blanks, unless one was read
abbrev Ended : List ℕ → ℕ → ℕ → Type 0
Ended bytes at offset =
    (ending : List Word) × IsEnding ending × (ending ≡ [] → to_semicolon (drop offset bytes) ≡ 0) × Spread ending (drop at bytes) (drop offset bytes)

no_word : (w : Word) → w ∷ [] ≡ [] → ⊥
no_word w e = cc

none_left : (bytes : List ℕ) (at : ℕ) (ts : List Spot) → tokens bytes at ≡ ts → list_end at ts ≡ at → Ended bytes at at
none_left bytes at ts e stays =
    let sum : at ≡ at + to_semicolon (drop at bytes) = sym stays ∙ ap (list_end at) (sym e) ∙ semicolon at (drop at bytes) in
    ([], inl refl, λ none. omega arith, refl)

ended : (bytes : List ℕ) (at : ℕ) (ts : List Spot) → tokens bytes at ≡ ts → Ended bytes at (list_end at ts)
ended bytes at [] e = none_left bytes at [] e refl
ended bytes at ((kind.Semicolon, w, offset) ∷ ts) e =
    let f = found bytes at kind.Semicolon w offset ts e in
    ((59 ∷ []) ∷ [], inr refl, λ none. absurd (no_word (59 ∷ []) none), spread_on bytes at kind.Semicolon w (59 ∷ []) offset ts [] (drop (offset + length w) bytes) f f.6 (ap (λ (n : ℕ). drop n bytes) f.5))
ended bytes at ((k, w, offset) ∷ ts) e = none_left bytes at ((k, w, offset) ∷ ts) e refl

list_ended : (bytes : List ℕ) (at end : ℕ) (fs : Facets) (ts : List Spot) (k : ComplexView) (offset : ℕ) → at ≡ end → tokens bytes at ≡ ts → after_list end fs ts ≡ Ok (k, offset)
    → (k ≡ complex_of fs) × (length k.facets ≤ 20000) × (length (labels_of k) ≤ 4096) × (Ended bytes at offset)
unfolding after_list
list_ended bytes at end fs ts k offset same e read =
    let limits = limits_passed (complex_of fs) (Ok (complex_of fs, list_end end ts)) (k, offset) read in
    let pair = same_answer (complex_of fs, list_end end ts) (k, offset) limits.2 in
    let space : complex_of fs ≡ k = ap (λ (x : ComplexView × ℕ). x.0) pair in
    let stop : list_end at ts ≡ offset = ap (λ (p : ℕ). list_end p ts) same ∙ ap (λ (x : ComplexView × ℕ). x.1) pair in
    let tail = ended bytes at ts e in (
      sym space,
      subst (λ (j : ComplexView). length j.facets ≤ 20000) space limits.0,
      subst (λ (j : ComplexView). length (labels_of j) ≤ 4096) space limits.1,
      subst (Ended bytes at) stop tail,
    )

-- ---- the facets

-- the labels of a facet, gathered one by one, are its set
gathered_left : (fs : Facets) (k : ComplexView) (offset : ℕ) (bytes : List ℕ) (at : ℕ) (f : List Word) → AllByRecursion IsNumber f → Fresh [] (vals f) → 0 < length (vals f)
    → (length (union [] (vals f)) ≡ 1 → ⊥) → is_pure fs (union [] (vals f)) ≡ true
    → (l : FacetsLeft (fs ++ union [] (vals f) ∷ []) k (drop offset bytes)) → Spread (facet_words f (more_facets l.gs l.ending)) (drop at bytes) (drop offset bytes)
    → AtFacet fs k offset bytes at
gathered_left fs k offset bytes at f are fresh some size pure l s =
    let is = union_rising (vals f) in
    let moved = subst (λ (set : List ℕ). (length set ≡ 1 → ⊥) × (is_pure fs set ≡ true) × (m : FacetsLeft (fs ++ set ∷ []) k (drop offset bytes)) × Spread (facet_words f (more_facets m.gs m.ending)) (drop at bytes) (drop offset bytes)) is (size, pure, l, s) in
    (f, are, record { fresh = fresh; some = some; size = moved.0; pure = moved.1 }, moved.2, moved.3)

mutual
  unfolding label_from after_label facet_from after_facet

  label_back : (ts : List Spot) (bytes : List ℕ) (at end start : ℕ) (done : List ℕ) (fs : Facets) (k : ComplexView) (offset : ℕ)
      → tokens bytes at ≡ ts → label_from end start done fs ts ≡ Ok (k, offset) → AtLabel done fs k offset bytes at
  label_back [] bytes at end start done fs k offset e read = absurd (no_fault _ (k, offset) _ refl read)
  label_back ((kind.Label, w, p) ∷ ts) bytes at end start done fs k offset e read =
      let f = found bytes at kind.Label w p ts e in
      let one = label_passed start p (digits_value 10 w) done _ (k, offset) read in
      let rest = after_label_back ts bytes f.1 end start (with done (digits_value 10 w)) fs k offset f.4 one.3 in
      (w, f.6, one.0, one.1, one.2, rest.0, spread_on bytes at kind.Label w w p ts (more_numbers rest.0.ns (more_facets rest.0.left.gs rest.0.left.ending)) (drop offset bytes) f refl rest.1)
  label_back ((_, w, p) ∷ ts) bytes at end start done fs k offset e read = absurd (no_fault _ (k, offset) _ refl read)

  after_label_back : (ts : List Spot) (bytes : List ℕ) (at end start : ℕ) (done : List ℕ) (fs : Facets) (k : ComplexView) (offset : ℕ)
      → tokens bytes at ≡ ts → after_label end start done fs ts ≡ Ok (k, offset) → AfterLabel done fs k offset bytes at
  after_label_back [] bytes at end start done fs k offset e read = absurd (no_fault _ (k, offset) _ refl read)
  after_label_back ((kind.Comma, w, p) ∷ ts) bytes at end start done fs k offset e read =
      let f = found bytes at kind.Comma w p ts e in
      let next = label_back ts bytes f.1 end start done fs k offset f.4 read in
      let l = next.5 in (
        record { ns = next.0 ∷ l.ns; numbers = (next.1, l.numbers); fresh = (next.2, next.3, next.4, l.fresh); size = l.size; pure = l.pure; left = l.left },
        spread_on bytes at kind.Comma w (44 ∷ []) p ts (next.0 ∷ more_numbers l.ns (more_facets l.left.gs l.left.ending)) (drop offset bytes) f f.6 next.6,
      )
  after_label_back ((kind.Close, w, p) ∷ ts) bytes at end start done fs k offset e read =
      let f = found bytes at kind.Close w p ts e in
      let facet = facet_passed start done fs _ (k, offset) read in
      let rest = after_facet_back ts bytes f.1 end (fs ++ done ∷ []) k offset f.4 facet.2 in (
        record { ns = []; numbers = tt; fresh = tt; size = facet.0; pure = facet.1; left = rest.0 },
        spread_on bytes at kind.Close w (93 ∷ []) p ts (more_facets rest.0.gs rest.0.ending) (drop offset bytes) f f.6 rest.1,
      )
  after_label_back ((_, w, p) ∷ ts) bytes at end start done fs k offset e read = absurd (no_fault _ (k, offset) _ refl read)

  facet_back : (ts : List Spot) (bytes : List ℕ) (at end : ℕ) (fs : Facets) (k : ComplexView) (offset : ℕ)
      → tokens bytes at ≡ ts → facet_from end fs ts ≡ Ok (k, offset) → AtFacet fs k offset bytes at
  facet_back [] bytes at end fs k offset e read = absurd (no_fault _ (k, offset) _ refl read)
  facet_back ((kind.Open, w, p) ∷ ts) bytes at end fs k offset e read =
      let f = found bytes at kind.Open w p ts e in
      let next = label_back ts bytes f.1 end p [] fs k offset f.4 read in
      let l = next.5 in
      gathered_left fs k offset bytes at (next.0 ∷ l.ns) (next.1, l.numbers) (next.2, next.3, next.4, l.fresh) (omega arith) l.size l.pure l.left
      (spread_on bytes at kind.Open w (91 ∷ []) p ts (next.0 ∷ more_numbers l.ns (more_facets l.left.gs l.left.ending)) (drop offset bytes) f f.6 next.6)
  facet_back ((_, w, p) ∷ ts) bytes at end fs k offset e read = absurd (no_fault _ (k, offset) _ refl read)

  after_facet_back : (ts : List Spot) (bytes : List ℕ) (at end : ℕ) (fs : Facets) (k : ComplexView) (offset : ℕ)
      → tokens bytes at ≡ ts → after_facet end fs ts ≡ Ok (k, offset) → AfterFacet fs k offset bytes at
  after_facet_back [] bytes at end fs k offset e read = absurd (no_fault _ (k, offset) _ refl read)
  after_facet_back ((kind.Comma, w, p) ∷ ts) bytes at end fs k offset e read =
      let f = found bytes at kind.Comma w p ts e in
      let next = facet_back ts bytes f.1 end fs k offset f.4 read in
      let l = next.3 in
      let set = rising nat_cmp (vals next.0) in
      let whole : k ≡ complex_of (fs ++ spelled (next.0 ∷ l.gs)) = l.whole ∙ ap complex_of (append_assoc fs (set ∷ []) (spelled l.gs)) in (
        record { gs = next.0 ∷ l.gs; ending = l.ending; is_ending = l.is_ending; no_semicolon = l.no_semicolon; numbers = (next.1, l.numbers); taken = (next.2, l.taken); whole = whole; few_facets = l.few_facets; few_labels = l.few_labels },
        spread_on bytes at kind.Comma w (44 ∷ []) p ts (facet_words next.0 (more_facets l.gs l.ending)) (drop offset bytes) f f.6 next.4,
      )
  after_facet_back ((kind.Close, w, p) ∷ ts) bytes at end fs k offset e read =
      let f = found bytes at kind.Close w p ts e in
      let last = list_ended bytes f.1 (p + length w) fs ts k offset f.5 f.4 read in
      let whole : k ≡ complex_of (fs ++ []) = last.0 ∙ ap complex_of (sym (append-nil fs)) in (
        record { gs = []; ending = last.3.0; is_ending = last.3.1; no_semicolon = last.3.2; numbers = tt; taken = tt; whole = whole; few_facets = last.1; few_labels = last.2 },
        spread_on bytes at kind.Close w (93 ∷ []) p ts last.3.0 (drop offset bytes) f f.6 last.3.3,
      )
  after_facet_back ((_, w, p) ∷ ts) bytes at end fs k offset e read = absurd (no_fault _ (k, offset) _ refl read)

-- ---- the whole

took_good : (fs : Facets) (g : List ℕ) → Took fs g → IsGood g
took_good fs g took =
    let two : 2 ≤ length g = elim (cases_Bool (nat_eq (length g) 1)) [
      | inl one ↦ absurd (took.size (gathered_count g took.fresh ∙ nat_eq_is (length g) 1 one))
      | inr other ↦ at_least_two (length g) took.some other
    ] in
    good_labels g took.fresh two
  where
    at_least_two : (n : ℕ) → 0 < n → nat_eq n 1 ≡ false → 2 ≤ n
    at_least_two n some other = grind arith

all_good : (fs gs : Facets) → Taken fs gs → AllByRecursion IsGood gs
all_good fs [] taken = tt
all_good fs (g ∷ gs) taken = (took_good fs g taken.0, all_good (fs ++ rising nat_cmp g ∷ []) gs taken.1)

all_sized : (first : List ℕ) (fs gs : Facets) (size : ℕ) → length first ≡ size → Taken (first ∷ fs) gs → AllByRecursion (λ g. length g ≡ size) gs
all_sized first fs [] size is taken = tt
all_sized first fs (g ∷ gs) size is taken =
    let same : length first ≡ length (rising nat_cmp g) = nat_eq_is (length first) (length (rising nat_cmp g)) taken.0.pure in
    let count = gathered_count g taken.0.fresh in
    (omega arith, all_sized first (fs ++ rising nat_cmp g ∷ []) gs size is taken.1)

abbrev FromList : ComplexView → ℕ → List ℕ → ℕ → Type 0
FromList k offset bytes at =
    (fs : List (List Word)) × (ending : List Word) × IsEnding ending × (ending ≡ [] → to_semicolon (drop offset bytes) ≡ 0) × AllByRecursion (λ f. AllByRecursion IsNumber f) fs × AreGood fs × (k ≡ complex_of (spelled fs))
    × Spread (list_words fs ending) (drop at bytes) (drop offset bytes)

list_back : (ts : List Spot) (bytes : List ℕ) (at end : ℕ) (k : ComplexView) (offset : ℕ) → tokens bytes at ≡ ts → list_from end ts ≡ Ok (k, offset) → FromList k offset bytes at
unfolding list_from
list_back [] bytes at end k offset e read = absurd (no_fault _ (k, offset) _ refl read)
list_back ((kind.Open, w, p) ∷ ts) bytes at end k offset e read =
    let f = found bytes at kind.Open w p ts e in
    let next = facet_back ts bytes f.1 end [] k offset f.4 read in
    let took = next.2 in
    let l = next.3 in
    let g = vals next.0 in
    let count = gathered_count g took.fresh in
    let fs : List (List Word) = next.0 ∷ l.gs in
    let whole : k ≡ complex_of (spelled (next.0 ∷ l.gs)) = l.whole in
    let good : AreGood (next.0 ∷ l.gs) = record {
      some = omega arith;
      good = (took_good [] g took, all_good (rising nat_cmp g ∷ []) (values l.gs) l.taken);
      pure = (refl, all_sized (rising nat_cmp g) [] (values l.gs) (length g) count l.taken);
      few_facets = subst (λ (j : ComplexView). length j.facets ≤ 20000) whole l.few_facets;
      few_labels = subst (λ (j : ComplexView). length (labels_of j) ≤ 4096) whole l.few_labels;
    } in
    (next.0 ∷ l.gs, l.ending, l.is_ending, l.no_semicolon, (next.1, l.numbers), good, whole, spread_on bytes at kind.Open w (91 ∷ []) p ts (facet_words next.0 (more_facets l.gs l.ending)) (drop offset bytes) f f.6 next.4)
list_back ((_, w, p) ∷ ts) bytes at end k offset e read = absurd (no_fault _ (k, offset) _ refl read)

abbrev FromStart : ComplexView → ℕ → List ℕ → ℕ → Type 0
FromStart k offset bytes at =
    (fs : List (List Word)) × (s : Spells (drop at bytes) fs (drop offset bytes)) × AreGood fs × (k ≡ complex_of (spelled fs)) × (s.ending ≡ [] → to_semicolon (drop offset bytes) ≡ 0)

unnamed : (k : ComplexView) (offset : ℕ) (bytes : List ℕ) (at : ℕ) → FromList k offset bytes at → FromStart k offset bytes at
unnamed k offset bytes at l = (l.0, record { naming = []; ending = l.1; is_naming = tt; is_ending = l.2; numbers = l.4; spread = l.7 }, l.5, l.6, l.3)

assign_back : (ts : List Spot) (bytes : List ℕ) (at end : ℕ) (k : ComplexView) (offset : ℕ) → tokens bytes at ≡ ts → assign_from end ts ≡ Ok (k, offset)
    → (w : Word) × IsAssign w × (next : ℕ) × (l : FromList k offset bytes next) × Spread (w ∷ list_words l.0 l.1) (drop at bytes) (drop offset bytes)
unfolding assign_from
assign_back [] bytes at end k offset e read = absurd (no_fault _ (k, offset) _ refl read)
assign_back ((kind.Assign, w, p) ∷ ts) bytes at end k offset e read =
    let f = found bytes at kind.Assign w p ts e in
    let l = list_back ts bytes f.1 end k offset f.4 read in
    (w, f.6, f.1, l, spread_on bytes at kind.Assign w w p ts (list_words l.0 l.1) (drop offset bytes) f refl l.7)
assign_back ((_, w, p) ∷ ts) bytes at end k offset e read = absurd (no_fault _ (k, offset) _ refl read)

start_back : (ts : List Spot) (bytes : List ℕ) (at end : ℕ) (k : ComplexView) (offset : ℕ) → tokens bytes at ≡ ts → complex_from end ts ≡ Ok (k, offset) → FromStart k offset bytes at
unfolding complex_from
start_back ((kind.Name, w, p) ∷ ts) bytes at end k offset e read =
    let f = found bytes at kind.Name w p ts e in
    let a = assign_back ts bytes f.1 end k offset f.4 read in
    let l = a.3 in
    (l.0, record { naming = w ∷ a.0 ∷ []; ending = l.1; is_naming = (f.6, a.1); is_ending = l.2; numbers = l.4; spread = spread_on bytes at kind.Name w w p ts (a.0 ∷ list_words l.0 l.1) (drop offset bytes) f refl a.4 }, l.5, l.6, l.3)
start_back ts bytes at end k offset e read = unnamed k offset bytes at (list_back ts bytes at end k offset e read)

-- what is read from an offset on was spelled there, up to the offset that is answered
pub read_spelled : (bytes : List ℕ) (from : ℕ) (k : ComplexView) (offset : ℕ) → complex_at bytes from ≡ Ok (k, offset)
    → (fs : List (List Word)) × (s : Spells (drop from bytes) fs (drop offset bytes)) × AreGood fs × (k ≡ complex_of (spelled fs)) × (s.ending ≡ [] → to_semicolon (drop offset bytes) ≡ 0)
read_spelled bytes from k offset read = start_back (tokens bytes from) bytes from (length bytes) k offset refl read

-- ---- the limits

small_labels : (labels : List ℕ) → AllByRecursion (λ n. (1 ≤ n) × (n ≤ 60000)) labels → AllByRecursion (λ n. n ≤ 60000) labels
small_labels [] range = tt
small_labels (n ∷ ns) range = (range.0.1, small_labels ns range.1)

positive_labels : (labels : List ℕ) → AllByRecursion (λ n. (1 ≤ n) × (n ≤ 60000)) labels → AllByRecursion (λ n. 0 < n) labels
positive_labels [] range = tt
positive_labels (n ∷ ns) range = (omega (arith, range.0.0), positive_labels ns range.1)

above_zero : (labels : List ℕ) → AllByRecursion (λ n. 0 < n) labels → AllByRecursion (λ n. nat_cmp 0 n ≡ Less) labels
above_zero [] range = tt
above_zero (n ∷ ns) range = (cmp_less 0 n range.0, above_zero ns range.1)

-- good labels are a face
good_face : (g : List ℕ) → IsGood g → IsFace (rising nat_cmp g) × (length (rising nat_cmp g) ≡ length g) × AllByRecursion (λ n. n ≤ 60000) (rising nat_cmp g)
good_face g good =
    let count = gathered_count g (fresh_labels g good) in
    let set = rising nat_cmp g in
    let above = above_zero set (each_rising nat_cmp (λ n. 0 < n) g (positive_labels g good.range)) in (
      record { few = omega (arith, count, good.high); rising = above_cons nat_cmp 0 set above (sorted_rising nat_cmp_total g) },
      count,
      each_rising nat_cmp (λ n. n ≤ 60000) g (small_labels g good.range),
    )

good_faces : (size : ℕ) (gs : Facets) → AllByRecursion IsGood gs → AllByRecursion (λ g. length g ≡ size) gs
    → Sized size (map (rising nat_cmp) gs) × AllByRecursion (λ f. AllByRecursion (λ n. n ≤ 60000) f) (map (rising nat_cmp) gs)
good_faces size [] good pure = (tt, tt)
good_faces size (g ∷ gs) good pure =
    let face = good_face g good.0 in
    let others = good_faces size gs good.1 pure.1 in
    (((face.0, face.1 ∙ pure.0), others.0), (face.2, others.1))

-- facets that are good make a complex that keeps the limits
pub good_limits : (fs : List (List Word)) → AreGood fs → KeepsLimits (complex_of (spelled fs))
good_limits [] good = absurd (omega (arith, good.some))
good_limits (f ∷ fs) good =
    let size = length (vals f) in
    let faces = good_faces size (values (f ∷ fs)) good.good good.pure in
    let first : length (rising nat_cmp (vals f)) ≡ size = faces.0.0.1 in
    let two : 2 ≤ size = good.good.0.low in
    let seven : size ≤ 7 = good.good.0.high in
    let set = length (rising nat_cmp (vals f)) in
    record {
      complex = made_complex set (spelled (f ∷ fs)) (omega arith) (λ none. omega arith) (λ eight. omega arith) (subst (λ (n : ℕ). Sized n (spelled (f ∷ fs))) (sym first) faces.0);
      dim = omega arith;
      small = each_rising face_cmp (λ g. AllByRecursion (λ n. n ≤ 60000) g) (spelled (f ∷ fs)) faces.1;
      few_facets = good.few_facets;
      few_labels = good.few_labels;
    }

pub read_limits : (bytes : List ℕ) (from : ℕ) (k : ComplexView) (offset : ℕ) → complex_at bytes from ≡ Ok (k, offset) → KeepsLimits k
read_limits bytes from k offset read =
    let was = read_spelled bytes from k offset read in
    subst KeepsLimits (sym was.3) (good_limits was.0 was.2)

pub given_limits : (r : Reading) (bytes : List ℕ) (from : ℕ) → Gives r (complex_at bytes from) → IfOk r (λ x. KeepsLimits x.0)
given_limits (Ok (k, offset)) bytes from read = read_limits bytes from k offset read
given_limits (Err e) bytes from read = tt
