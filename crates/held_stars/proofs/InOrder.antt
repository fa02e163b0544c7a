-- Labels that are claimed one after another.
use Rattle.std.proofs.Common.{◌≡◌, ◌⊎◌, inl, inr, ℕ, zero, suc, ◌+◌, ◌<◌, ◌≤◌, true, nat_eq, ◌||◌, List, [], ◌∷◌, length, get_or, take, sym, ◌∙◌, ap, subst, ⊎_elim}
use Rattle.std.proofs.lemmas.List.{take_more}
use Rattle.complex_core.specs.Labels.{has}
use Rattle.complex_core.proofs.Laws.{or_left, or_right, nat_eq_same}
use Rattle.complex_core.proofs.SubsetLists.{two}
use Rattle.board_rule.specs.Items.{has_item}
use Rattle.board_rule.specs.Homes.{VersionedStar}
use Rattle.board_rule.proofs.Items.{off}
use Rattle.held_stars.specs.Holding.{RefusedOf, EndedAt}
use Rattle.held_stars.specs.declared.stopped.Stopped.{Stopped}
use Rattle.held_stars.specs.declared.stopped.Stopped.TheVariants.{Busy, Quit}
use Rattle.held_stars.proofs.LentStars.{take_all}
use Rattle.complex_core.proofs.Members.{has_snoc}

abbrev pub Items : Type 0
Items = List (ℕ × VersionedStar)

-- what is held is what was held, or these labels
abbrev pub OnlyMore : Items → Items → List ℕ → Type 0
OnlyMore was now labels = (q : ℕ) → has_item now q ≡ true → (has_item was q ≡ true) ⊎ (has labels q ≡ true)

taken : (labels : List ℕ) (i q : ℕ) → i < length labels → has (take (i + 1) labels) q ≡ (has (take i labels) q || nat_eq (get_or labels i 0) q)
taken labels i q l = ap (λ (xs : List ℕ). has xs q) (take_more labels i 0 l) ∙ has_snoc (take i labels) (get_or labels i 0) q

-- one label more
pub only_next : (labels : List ℕ) (i : ℕ) (was mid now : Items) → i < length labels → OnlyMore was mid (take i labels) → ((q : ℕ) → has_item now q ≡ true → (has_item mid q ≡ true) ⊎ (get_or labels i 0 ≡ q)) → OnlyMore was now (take (i + 1) labels)
only_next labels i was mid now l only more q h =
    ⊎_elim
    (λ (t : has_item mid q ≡ true). ⊎_elim
    (λ (u : has_item was q ≡ true). inl u)
    (λ (u : has (take i labels) q ≡ true). inr (taken labels i q l ∙ or_left (has (take i labels) q) (nat_eq (get_or labels i 0) q) u))
    (only q t))
    (λ (e : get_or labels i 0 ≡ q). inr (taken labels i q l ∙ or_right (has (take i labels) q) (nat_eq (get_or labels i 0) q) (ap (nat_eq (get_or labels i 0)) (sym e) ∙ nat_eq_same (get_or labels i 0))))
    (more q h)

pub only_all : (labels : List ℕ) (i : ℕ) (was now : Items) → length labels ≤ i → OnlyMore was now (take i labels) → OnlyMore was now labels
only_all labels i was now l only = subst (OnlyMore was now) (take_all labels i l) only

pub only_some : (labels : List ℕ) (i : ℕ) (was now : Items) → OnlyMore was now (take i labels) → OnlyMore was now labels
only_some labels i was now only q h = ⊎_elim (λ (t : has_item was q ≡ true). inl t) (λ (t : has (take i labels) q ≡ true). inr (among labels i q t)) (only q h)
  where
    among : (xs : List ℕ) (n z : ℕ) → has (take n xs) z ≡ true → has xs z ≡ true
    among [] zero z t = t
    among [] (suc n) z t = t
    among (x ∷ xs) zero z t = off t
    among (x ∷ xs) (suc n) z t = elim (two (nat_eq x z)) [
      | inl e ↦ or_left (nat_eq x z) (has xs z) e
      | inr f ↦ or_right (nat_eq x z) (has xs z) (among xs n z (sym (ap (λ b. b || has (take n xs) z) f) ∙ t))
    ]

-- the claims end at a label
pub ended_at : (labels : List ℕ) (i : ℕ) (was mid now : Items) (stop : Stopped) → i < length labels → ((q : ℕ) → has (take i labels) q ≡ true → has_item mid q ≡ true) → ((q : ℕ) → has_item mid q ≡ true → has_item now q ≡ true) → OnlyMore was mid (take i labels)
    → ((q : ℕ) → has_item now q ≡ true → (has_item mid q ≡ true) ⊎ (get_or labels i 0 ≡ q)) → RefusedOf (get_or labels i 0) mid now stop → EndedAt labels was now stop
ended_at labels i was mid now (Busy q o) l before held only more refused = record {
  index = i;
  within = l;
  before = λ z t. held z (before z t);
  only = λ z t. only z (ap (λ (xs : Items). has_item xs z) (sym refused.1) ∙ t);
  at = refused.0;
}
ended_at labels i was mid now Quit l before held only more refused = record {
  index = i;
  within = l;
  before = λ z t. held z (before z t);
  only = only_next labels i was mid now l only more;
  at = tt;
}
