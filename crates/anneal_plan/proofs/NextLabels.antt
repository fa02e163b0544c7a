-- Which labels may come next.
use Rattle.std.proofs.Common.{◌≡◌, ℕ, Bool, true, false, nat_eq, ◌||◌, ◌&&◌, cond, List, [], ◌∷◌, filter, sym, ◌∙◌, ap, refl}
use Rattle.std.specs.List.{list_any, flat_map}
use Rattle.std.specs.Ordering.{nat_cmp}
use Rattle.std.proofs.lemmas.List.Folds.{list_any-append}
use Rattle.complex_core.specs.Labels.{has}
use Rattle.complex_core.specs.Complexes.{over}
use Rattle.complex_core.specs.Maps.{used}
use Rattle.complex_core.proofs.Sets.{any-rising}
use Rattle.complex_core.proofs.Faces.{equal_cmp}
use Rattle.complex_core.proofs.Laws.{nat_eq_is}
use Rattle.anneal_plan.specs.Growth.{comes_next, next_labels}

-- whether some facet has a label
abbrev pub in_any : List (List ℕ) → ℕ → Bool
in_any rows z = list_any (λ r. has r z) rows

pub has-filter : (q : ℕ → Bool) (xs : List ℕ) (z : ℕ) → has (filter q xs) z ≡ (has xs z && q z)
has-filter q [] z = refl
has-filter q (x ∷ xs) z =
    elim (q x) as (λ b. q x ≡ b → has (cond b (x ∷ filter q xs) (filter q xs)) z ≡ ((nat_eq x z || has xs z) && q z)) [
      | true ↦ λ e. ap (λ b. nat_eq x z || b) (has-filter q xs z) ∙ passed (nat_eq x z) (has xs z) (q z) (λ t. ap q (sym (nat_eq_is x z t)) ∙ e)
      | false ↦ λ e. has-filter q xs z ∙ failed (nat_eq x z) (has xs z) (q z) (λ t. ap q (sym (nat_eq_is x z t)) ∙ e)
    ] refl
  where
    passed : (a b c : Bool) → (a ≡ true → c ≡ true) → (a || (b && c)) ≡ ((a || b) && c)
    passed true b c h = sym (h refl)
    passed false b c h = refl

    failed : (a b c : Bool) → (a ≡ true → c ≡ false) → (b && c) ≡ ((a || b) && c)
    failed true true c h = refl
    failed true false c h = sym (h refl)
    failed false b c h = refl

any_used : (rows : List (List ℕ)) (z : ℕ) → has (used rows) z ≡ in_any rows z
any_used rows z = any-rising nat_cmp equal_cmp (λ y. nat_eq y z) (flat_map (λ f. f) rows) ∙ flat rows
  where
    flat : (rs : List (List ℕ)) → has (flat_map (λ f. f) rs) z ≡ in_any rs z
    flat [] = refl
    flat (r ∷ rs) = list_any-append (λ y. nat_eq y z) r (flat_map (λ f. f) rs) ∙ ap (λ b. has r z || b) (flat rs)

pub has_next : (rows : List (List ℕ)) (p last : ℕ) (a : List ℕ) (z : ℕ) → has (next_labels rows p last a) z ≡ (in_any (over rows a) z && comes_next p last z)
has_next rows p last a z = has-filter (comes_next p last) (used (over rows a)) z ∙ ap (λ b. b && comes_next p last z) (any_used (over rows a) z)
