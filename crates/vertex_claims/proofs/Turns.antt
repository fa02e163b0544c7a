-- A seat's slots in another order.
use Rattle.std.proofs.Common.{◌≡◌, ◌≢◌, ℕ, suc, ◌<◌, eqb, Bool, true, false, cond, List, [], ◌∷◌, ◌++◌, length, get_or, sym, refl, ap, ◌∙◌, subst, arith}
use mathlib.Core.Option.{some}
use Rattle.atomic_table.specs.Table.{turned, rest}
use Rattle.board_rule.proofs.Items.{tested, off}
use Rattle.board_rule.specs.Items.{item, has_item, single, places_of}
use Rattle.board_rule.specs.Plays.{Seated}
use Rattle.vertex_claims.specs.Held.{Shuffled, OnTop, index_of}
use Rattle.board_rule.specs.declared.data.Slot.{Slot}

both_true : (b c : Bool) → cond b false c ≡ true → (b ≡ false) × (c ≡ true)
both_true true c h = off h
both_true false c h = (refl, h)

module _ {A : Type 0} where
  pub single_parts : (x : ℕ × A) (xs : List (ℕ × A)) → single (x ∷ xs) ≡ true → (has_item xs x.0 ≡ false) × (single xs ≡ true)
  single_parts x xs h = both_true (has_item xs x.0) (single xs) h

  has_parts : (x : ℕ × A) (xs : List (ℕ × A)) (q : ℕ) → has_item (x ∷ xs) q ≡ false → (x.0 ≢ q) × (has_item xs q ≡ false)
  has_parts x xs q h = tested x.0 q (λ b. cond b true (has_item xs q) ≡ false → (x.0 ≢ q) × (has_item xs q ≡ false)) (λ _ t. off (sym t)) (λ ne t. (ne, t)) h

  pub has_back : (x : ℕ × A) (xs : List (ℕ × A)) (q : ℕ) → has_item (xs ++ x ∷ []) q ≡ cond (eqb x.0 q) true (has_item xs q)
  has_back x [] q = refl
  has_back x (y ∷ ys) q = tested y.0 q (λ b. cond b true (has_item (ys ++ x ∷ []) q) ≡ cond (eqb x.0 q) true (cond b true (has_item ys q)))
      (λ _. tested x.0 q (λ b. true ≡ cond b true true) (λ _. refl) (λ _. refl)) (λ _. has_back x ys q)

  item_back : (x : ℕ × A) (xs : List (ℕ × A)) (q : ℕ) → has_item xs x.0 ≡ false → item (xs ++ x ∷ []) q ≡ cond (eqb x.0 q) (some x.1) (item xs q)
  item_back x [] q h = refl
  item_back x (y ∷ ys) q h = let t = has_parts y ys x.0 h in
      tested y.0 q (λ b. cond b (some y.1) (item (ys ++ x ∷ []) q) ≡ cond (eqb x.0 q) (some x.1) (cond b (some y.1) (item ys q)))
      (λ is. tested x.0 q (λ b. some y.1 ≡ cond b (some x.1) (some y.1)) (λ e. absurd (t.0 (is ∙ sym e))) (λ _. refl)) (λ _. item_back x ys q t.1)

  single_back : (x : ℕ × A) (xs : List (ℕ × A)) → single (x ∷ xs) ≡ true → single (xs ++ x ∷ []) ≡ true
  single_back x [] h = refl
  single_back x (y ∷ ys) h =
      let a = single_parts x (y ∷ ys) h in let b = single_parts y ys a.1 in let c = has_parts y ys x.0 a.0 in
      let one : single (x ∷ ys) ≡ true = ap (λ (t : Bool). cond t false (single ys)) c.1 ∙ b.1 in
      let none_of : has_item (ys ++ x ∷ []) y.0 ≡ false = has_back x ys y.0 ∙ tested x.0 y.0 (λ t. cond t true (has_item ys y.0) ≡ false) (λ e. absurd (c.0 (sym e))) (λ _. b.0) in
      ap (λ (t : Bool). cond t false (single (ys ++ x ∷ []))) none_of ∙ single_back x ys one

  pub places_back : (x : ℕ × A) (xs : List (ℕ × A)) → places_of (xs ++ x ∷ []) ≡ places_of xs ++ x.0 ∷ []
  places_back x [] = refl
  places_back x (y ∷ ys) = ap (λ (l : List ℕ). y.0 ∷ l) (places_back x ys)

  pub length_places : (xs : List (ℕ × A)) → length (places_of xs) ≡ length xs
  length_places [] = refl
  length_places (x ∷ xs) = ap suc (length_places xs)

  index_back : (p : ℕ) (x : ℕ × A) (xs : List (ℕ × A)) → has_item xs p ≡ true → index_of p (places_of (xs ++ x ∷ [])) ≡ index_of p (places_of xs)
  index_back p x [] h = off h
  index_back p x (y ∷ ys) h = tested y.0 p (λ b. cond b true (has_item ys p) ≡ true → cond b 0 (suc (index_of p (places_of (ys ++ x ∷ [])))) ≡ cond b 0 (suc (index_of p (places_of ys)))) (λ _ _. refl) (λ _ t. ap suc (index_back p x ys t)) h

pub shuffled_then : (m n : Seated) (v : Seated) → Shuffled m n → Shuffled n v → Shuffled m v
shuffled_then m n v a b = record { view = b.view ∙ a.view; slots = λ p. b.slots p ∙ a.slots p; has = λ p. b.has p ∙ a.has p; once = b.once ∙ a.once }

turned_by : (m : Seated) (l : List (ℕ × Slot)) → m.1 ≡ l → single l ≡ true → Shuffled (m.0, l) (m.0, turned l)
turned_by m [] e h = record { view = refl; slots = λ p. refl; has = λ p. refl; once = refl }
turned_by m (x ∷ xs) e h = let t = single_parts x xs h in record { view = refl; slots = λ p. item_back x xs p t.0; has = λ p. has_back x xs p; once = single_back x xs h ∙ sym h }

pub shuffled_turn : (m n : Seated) → single m.1 ≡ true → n ≡ (m.0, turned m.1) → Shuffled m n
shuffled_turn m n h e = subst (Shuffled m) (sym e) (turned_by m m.1 refl h)

pub places_turned : (l : List (ℕ × Slot)) (first : ℕ) (others : List ℕ) → first ∷ others ≡ places_of l → others ++ first ∷ [] ≡ places_of (turned l)
places_turned [] first others e = absurd (cc)
places_turned (x ∷ xs) first others e = let a : first ≡ x.0 = cc in let b : others ≡ places_of xs = cc in (λ i. b i ++ a i ∷ []) ∙ sym (places_back x xs)

-- turning brings a place that is not in front one nearer
pub nearer : (p r : ℕ) (l : List (ℕ × Slot)) → has_item l p ≡ true → r ≡ get_or (places_of l) 0 r → r ≢ p → index_of p (places_of (turned l)) < index_of p (places_of l)
nearer p r [] h is ne = off h
nearer p r (x ∷ xs) h is ne = tested x.0 p (λ b. cond b true (has_item xs p) ≡ true → index_of p (places_of (xs ++ x ∷ [])) < cond b 0 (suc (index_of p (places_of xs)))) (λ e. absurd (ne (is ∙ e))) (λ _ t. let i = index_back p x xs t in omega arith) h

pub on_top : (m : Seated) (l : List (ℕ × Slot)) (p r : ℕ) → m.1 ≡ l → has_item l p ≡ true → r ≡ get_or (places_of l) 0 r → r ≡ p → OnTop m p
on_top m [] p r e h at same = off h
on_top m (x ∷ xs) p r e h at same =
    let is : x.0 ≡ p = sym at ∙ same in
    let l_is : m.1 ≡ (p, x.1) ∷ xs = e ∙ (λ i. (is i, x.1) ∷ xs) in
    (x.1, l_is ∙ ap (λ (l : List (ℕ × Slot)). (p, x.1) ∷ l) (sym (ap rest l_is)), ap (λ (l : List (ℕ × Slot)). item l p) l_is ∙ tested p p (λ b. cond b (some x.1) (item xs p) ≡ some x.1) (λ _. refl) (λ ne. absurd (ne refl)))

pub some_first : (l : List (ℕ × Slot)) (p : ℕ) → has_item l p ≡ true → 0 < length (places_of l)
some_first [] p h = off h
some_first (x ∷ xs) p h = omega arith
