-- The ends of lines, and where the next line begins.
use Rattle.std.proofs.Common.{◌≡◌, ◌≤◌, ◌+◌, ℕ, suc, not, List, [], ◌∷◌, ◌++◌, length, drop, refl, sym, ap, subst, ◌∙◌, arith, inl, inr, add-zero, length-drop}
use Rattle.std.specs.List.{prefix_len}
use Rattle.std.proofs.lemmas.Bool.{cases_Bool}
use Rattle.std.proofs.lemmas.List.{drop-drop}
use Rattle.facet_text.specs.Tokens.{is_blank}
use Rattle.facet_text.specs.Lines.{AfterEnds, AreEnds, Item, is_feed, items, items_past, line_end, word}
use Rattle.facet_text.proofs.LineLaws.{feed_here, pass_here, word_step, some_item, not_line_end}
use Rattle.line_text.specs.Numbers.{line_start}

-- before the line's end only blanks are passed over
to_end : (at : ℕ) (bs : List ℕ) (p : ℕ) (rest : List Item) → items_past 0 at bs ≡ line_end p ∷ rest
    → items_past 0 at bs ≡ items_past 0 (at + prefix_len (λ b. not (is_feed b)) bs) (drop (prefix_len (λ b. not (is_feed b)) bs) bs)
unfolding items_past
to_end at [] p rest e = rw add-zero refl
to_end at (b ∷ bs) p rest e = elim (cases_Bool (is_blank b)) [
  | inr solid ↦ absurd (not_line_end _ at p _ rest (sym (word_step at b bs solid) ∙ e))
  | inl blank ↦ elim (cases_Bool (is_feed b)) [
    | inl feed ↦ rw (feed, add-zero, feed) refl
    | inr other ↦
        let n = prefix_len (λ b. not (is_feed b)) bs in
        let offset : at + 1 + n ≡ at + suc n = omega arith in
        let width : prefix_len (λ b. not (is_feed b)) (b ∷ bs) ≡ suc n = rw other (omega arith) in
        pass_here at b bs other blank ∙ to_end (at + 1) bs p rest (sym (pass_here at b bs other blank) ∙ e) ∙ rw (width, offset) refl
  ]
]

pub same_at_end : (bs : List ℕ) (from end : ℕ) (more : (rest : List Item) × (items bs from ≡ line_end end ∷ rest)) → end ≡ from + prefix_len (λ b. not (is_feed b)) (drop from bs) → items bs from ≡ items bs end
same_at_end bs from end more e =
    to_end from (drop from bs) end more.0 more.1 ∙ rw (drop-drop (prefix_len (λ b. not (is_feed b)) (drop from bs)) from bs, ← e) refl

-- from the first word on
start_after : (ends rest : List Item) (text : List ℕ) (p : ℕ) → AreEnds ends → line_start (ends ++ word text p ∷ rest) ≡ word text p ∷ rest
unfolding line_start
start_after [] rest text p are = refl
start_after (line_end q ∷ []) rest text p are = refl
start_after (line_end q ∷ i ∷ ends) rest text p are = start_after (i ∷ ends) rest text p are
start_after (word t q ∷ ends) rest text p are = absurd are

pub start_at_word : (is : List Item) (n : ℕ) (text : List ℕ) (p : ℕ) (rest : List Item) → AfterEnds is n (word text p ∷ rest) → line_start is ≡ word text p ∷ rest
start_at_word is n text p rest h = ap line_start h.3 ∙ start_after h.0 rest text p h.1

pub feed_start : (at : ℕ) (first : Item) (rest : List Item) → line_start (line_end at ∷ first ∷ rest) ≡ line_start (first ∷ rest)
unfolding line_start
feed_start at first rest = refl

one_end : (at : ℕ) → line_start (line_end at ∷ []) ≡ line_end at ∷ []
unfolding line_start
one_end at = refl

-- or at the end of the input
end_of : (at : ℕ) (bs : List ℕ) → AreEnds (items_past 0 at bs) → line_start (items_past 0 at bs) ≡ line_end (at + length bs) ∷ []
unfolding items_past
end_of at [] are = rw add-zero (one_end at)
end_of at (b ∷ bs) are = elim (cases_Bool (is_blank b)) [
  | inr solid ↦ absurd (subst AreEnds (word_step at b bs solid) are)
  | inl blank ↦
      let offset : at + 1 + length bs ≡ at + suc (length bs) = omega arith in
      elim (cases_Bool (is_feed b)) [
        | inl feed ↦
            let more = some_item (at + 1) bs in
            let rest : AreEnds (items_past 0 (at + 1) bs) = subst AreEnds (feed_here at b bs feed) are in
            ap line_start (feed_here at b bs feed ∙ ap (λ (is : List Item). line_end at ∷ is) more.2) ∙ feed_start at more.0 more.1 ∙ ap line_start (sym more.2)
            ∙ end_of (at + 1) bs rest ∙ ap (λ (k : ℕ). line_end k ∷ []) offset
        | inr other ↦
            ap line_start (pass_here at b bs other blank) ∙ end_of (at + 1) bs (subst AreEnds (pass_here at b bs other blank) are) ∙ ap (λ (k : ℕ). line_end k ∷ []) offset
      ]
]

pub start_at_end : (bs : List ℕ) (from : ℕ) → from ≤ length bs → AreEnds (items bs from) → line_start (items bs from) ≡ line_end (length bs) ∷ []
start_at_end bs from le are = end_of from (drop from bs) are ∙ ap (λ (k : ℕ). line_end k ∷ []) (omega (arith, length-drop from bs))
