-- What lists of places say after each change.
use Rattle.std.proofs.Common.{◌≡◌, ◌≢◌, ◌⊎◌, ℕ, eqb, Bool, true, false, cond, List, [], ◌∷◌, sym, refl, ap, ◌∙◌, subst, inl, inr, eq-eqb, ne_eqb, true≢false}
use mathlib.Core.Option.{some, none, some-injective, some-ne-none}
use mathlib.Core.Logic.{dite}
use native.Mathlib.Decide.{ℕ_discrete}
use Rattle.flip_rules.specs.declared.flip.Flip.{Flip}
use Rattle.board_rule.specs.Items.{item, has_item, without}
use Rattle.board_rule.specs.Views.{flipped_home, all_flipped}
use Rattle.board_rule.specs.Homes.{VersionedStar}

-- a test of two numbers, by cases
pub tested : (a b : ℕ) (F : Bool → Type 0) → (a ≡ b → F true) → (a ≢ b → F false) → F (eqb a b)
tested a b F hit miss = dite (ℕ_discrete a b) (λ e. subst F (sym (eq-eqb a b e)) (hit e)) (λ ne. subst F (sym (ne_eqb a b ne)) (miss ne))

pub off : {A : Type 0} → false ≡ true → A
off e = absurd (true≢false (sym e))

module _ {A : Type 0} where
  pub item_cons : (p q : ℕ) (x y : A) (xs : List (ℕ × A)) → item ((p, x) ∷ xs) q ≡ some y → ((p ≡ q) × (x ≡ y)) ⊎ (item xs q ≡ some y)
  item_cons p q x y xs = tested p q (λ b. cond b (some x) (item xs q) ≡ some y → ((p ≡ q) × (x ≡ y)) ⊎ (item xs q ≡ some y)) (λ e h. inl (e, some-injective x y h)) (λ ne h. inr h)

  pub item_front : (p : ℕ) (x : A) (xs : List (ℕ × A)) → item ((p, x) ∷ xs) p ≡ some x
  item_front p x xs = tested p p (λ b. cond b (some x) (item xs p) ≡ some x) (λ _. refl) (λ ne. absurd (ne refl))

  pub item_past : (p q : ℕ) (x : A) (xs : List (ℕ × A)) → q ≢ p → item ((p, x) ∷ xs) q ≡ item xs q
  item_past p q x xs ne = tested p q (λ b. cond b (some x) (item xs q) ≡ item xs q) (λ e. absurd (ne (sym e))) (λ _. refl)

  pub has_cons_here : (p : ℕ) (x : A) (xs : List (ℕ × A)) → has_item ((p, x) ∷ xs) p ≡ true
  has_cons_here p x xs = tested p p (λ b. cond b true (has_item xs p) ≡ true) (λ _. refl) (λ ne. absurd (ne refl))

  pub has_cons_else : (p q : ℕ) (x : A) (xs : List (ℕ × A)) → q ≢ p → has_item ((p, x) ∷ xs) q ≡ has_item xs q
  has_cons_else p q x xs ne = tested p q (λ b. cond b true (has_item xs q) ≡ has_item xs q) (λ e. absurd (ne (sym e))) (λ _. refl)

  pub has_more : (p q : ℕ) (x : A) (xs : List (ℕ × A)) → has_item xs q ≡ true → has_item ((p, x) ∷ xs) q ≡ true
  has_more p q x xs h = tested p q (λ b. cond b true (has_item xs q) ≡ true) (λ _. refl) (λ _. h)

  pub has_some : (xs : List (ℕ × A)) (q : ℕ) (y : A) → item xs q ≡ some y → has_item xs q ≡ true
  has_some [] q y h = absurd (some-ne-none y (sym h))
  has_some (x ∷ xs) q y h = tested x.0 q (λ b. cond b (some x.1) (item xs q) ≡ some y → cond b true (has_item xs q) ≡ true) (λ _ _. refl) (λ _ h. has_some xs q y h) h

  pub some_of : (xs : List (ℕ × A)) (q : ℕ) → has_item xs q ≡ true → (x : A) × (item xs q ≡ some x)
  some_of [] q h = off h
  some_of (x ∷ xs) q h = tested x.0 q (λ b. cond b true (has_item xs q) ≡ true → (y : A) × (cond b (some x.1) (item xs q) ≡ some y)) (λ _ _. (x.1, refl)) (λ _ g. some_of xs q g) h

  pub none_of : (xs : List (ℕ × A)) (q : ℕ) → has_item xs q ≡ false → item xs q ≡ none
  none_of [] q h = refl
  none_of (x ∷ xs) q h = tested x.0 q (λ b. cond b true (has_item xs q) ≡ false → cond b (some x.1) (item xs q) ≡ none) (λ _ t. off (sym t)) (λ _ t. none_of xs q t) h

  pub has_without_here : (p : ℕ) (xs : List (ℕ × A)) → has_item (without p xs) p ≡ false
  has_without_here p [] = refl
  has_without_here p (x ∷ xs) = tested x.0 p (λ b. has_item (cond b (without p xs) (x ∷ without p xs)) p ≡ false) (λ _. has_without_here p xs)
      (λ ne. tested x.0 p (λ b. cond b true (has_item (without p xs) p) ≡ false) (λ e. absurd (ne e)) (λ _. has_without_here p xs))

  pub item_without : (p q : ℕ) (y : A) (xs : List (ℕ × A)) → item (without p xs) q ≡ some y → item xs q ≡ some y
  item_without p q y [] h = h
  item_without p q y (x ∷ xs) h = tested x.0 p (λ b. item (cond b (without p xs) (x ∷ without p xs)) q ≡ some y → item (x ∷ xs) q ≡ some y)
      (λ e h. tested x.0 q (λ b. cond b (some x.1) (item xs q) ≡ some y) (λ e'. off (sym (has_without_here p xs) ∙ has_some (without p xs) p y (subst (λ (k : ℕ). item (without p xs) k ≡ some y) (sym e' ∙ e) h))) (λ _. item_without p q y xs h))
      (λ ne. tested x.0 q (λ b. cond b (some x.1) (item (without p xs) q) ≡ some y → cond b (some x.1) (item xs q) ≡ some y) (λ _ h. h) (λ _ h. item_without p q y xs h)) h

  pub has_without_else : (p q : ℕ) (xs : List (ℕ × A)) → q ≢ p → has_item (without p xs) q ≡ has_item xs q
  has_without_else p q [] ne = refl
  has_without_else p q (x ∷ xs) ne = tested x.0 p (λ b. has_item (cond b (without p xs) (x ∷ without p xs)) q ≡ has_item (x ∷ xs) q)
      (λ e. has_without_else p q xs ne ∙ sym (tested x.0 q (λ b. cond b true (has_item xs q) ≡ has_item xs q) (λ e'. absurd (ne (sym e' ∙ e))) (λ _. refl)))
      (λ _. ap (λ (h : Bool). cond (eqb x.0 q) true h) (has_without_else p q xs ne))

  pub has_less : (p q : ℕ) (xs : List (ℕ × A)) → has_item (without p xs) q ≡ true → has_item xs q ≡ true
  has_less p q xs h = dite (ℕ_discrete q p) (λ e. off (sym (has_without_here p xs) ∙ (ap (λ (k : ℕ). has_item (without p xs) k) (sym e) ∙ h))) (λ ne. sym (has_without_else p q xs ne) ∙ h)

pub has_flipped : (fs : List Flip) (xs : List (ℕ × VersionedStar)) (q : ℕ) → has_item (all_flipped fs xs) q ≡ has_item xs q
has_flipped fs [] q = refl
has_flipped fs (x ∷ xs) q = ap (λ (h : Bool). cond (eqb x.0 q) true h) (has_flipped fs xs q)

pub item_flipped : (fs : List Flip) (xs : List (ℕ × VersionedStar)) (q : ℕ) (y : VersionedStar) → item (all_flipped fs xs) q ≡ some y → (x : VersionedStar) × (item xs q ≡ some x) × (y ≡ flipped_home fs q x)
item_flipped fs [] q y h = absurd (some-ne-none y (sym h))
item_flipped fs (x ∷ xs) q y h = tested x.0 q (λ b. cond b (some (flipped_home fs x.0 x.1)) (item (all_flipped fs xs) q) ≡ some y → (z : VersionedStar) × (cond b (some x.1) (item xs q) ≡ some z) × (y ≡ flipped_home fs q z))
    (λ e h. (x.1, refl, sym (some-injective (flipped_home fs x.0 x.1) y h) ∙ ap (λ (k : ℕ). flipped_home fs k x.1) e)) (λ _ h. item_flipped fs xs q y h) h
