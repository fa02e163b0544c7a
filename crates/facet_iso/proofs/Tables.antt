-- Tables of degrees, which are made facet by facet and label by label.
use Rattle.std.proofs.Common.{zero, suc, ◌≡◌, ℕ, ◌<◌, ◌≤◌, ◌+◌, Bool, true, false, cond, nat_eq, ◌||◌, List, [], ◌∷◌, length, filter, take, set, replicate, get_or, sym, ◌∙◌, ap, refl, arith, inl, inr, if◌then◌else◌}
use Rattle.std.specs.List.Sorted.{IsStrictlySortedBy}
use Rattle.std.specs.Ordering.{nat_cmp}
use Rattle.std.proofs.lemmas.List.{get_or_default, get_or-set_same, get_or-set_other, length-set, length-take}
use Rattle.std.proofs.lemmas.List.Filters.{length-filter_more}
use Rattle.complex_core.specs.Labels.{has}
use Rattle.complex_core.proofs.Laws.{nat_eq_is, nat_eq_same, or_right}
use Rattle.complex_core.proofs.Members.{has_snoc, taken_more}
use Rattle.complex_core.proofs.SubsetLists.{two, clash}
use Rattle.facet_iso.specs.Degrees.{degree, HasDegrees}
use Rattle.facet_iso.proofs.Trying.{later_new}

-- the table before a facet, with the first of its labels counted once more
pub record Counts (labels : List ℕ) (i : ℕ) (old now : List ℕ) : Type 0 where
  pub all : length now ≡ 65536
  pub counted : (x : ℕ) → get_or now x 0 ≡ get_or old x 0 + (if has (take i labels) x then 1 else 0)

pub counts_next : (labels : List ℕ) (i place v : ℕ) (old now : List ℕ) → IsStrictlySortedBy nat_cmp labels → i < length labels → place ≡ get_or labels i 0 → place < 65536 → v ≡ get_or now place v → Counts labels i old now → Counts labels (i + 1) old (set now place (v + 1))
counts_next labels i place v old now s l ep low ev c = record {
  all = length-set now place (v + 1) ∙ c.all;
  counted = λ x. elim (two (nat_eq place x)) [
    | inl e ↦
        let p : place ≡ x = nat_eq_is place x e in
        let here : has (take (i + 1) labels) x ≡ true = more x ∙ or_right (has (take i labels) x) (nat_eq place x) e in
        let before : has (take i labels) x ≡ false = ap (has (take i labels)) (sym p) ∙ later_new labels i place s l (ep ∙ get_or_default labels i 0 place l) in
        let old_value : get_or now x 0 ≡ get_or old x 0 + 0 = c.counted x ∙ ap (λ b. get_or old x 0 + (if b then 1 else 0)) before in
        let value : v ≡ get_or now x 0 = ev ∙ get_or_default now place v 0 (omega (arith, low, c.all)) ∙ ap (λ q. get_or now q 0) p in
        ap (λ q. get_or (set now place (v + 1)) q 0) (sym p) ∙ get_or-set_same now place (v + 1) 0 (omega (arith, low, c.all)) ∙ omega (arith, value, old_value) ∙ ap (λ b. get_or old x 0 + (if b then 1 else 0)) (sym here)
    | inr e ↦
        get_or-set_other now place x (v + 1) 0 (λ q. clash {P = ⊥} (nat_eq place x) (ap (nat_eq place) q ∙ nat_eq_same place) e)
        ∙ c.counted x ∙ ap (λ b. get_or old x 0 + (if b then 1 else 0)) (sym (more x ∙ ap (λ b. has (take i labels) x || b) e ∙ or_none (has (take i labels) x)))
  ];
}
  where
    more : (x : ℕ) → has (take (i + 1) labels) x ≡ (has (take i labels) x || nat_eq place x)
    more x = ap (λ ys. has ys x) (taken_more labels i place l (ep ∙ get_or_default labels i 0 place l)) ∙ has_snoc (take i labels) place x

    or_none : (b : Bool) → (b || false) ≡ b
    or_none true = refl
    or_none false = refl

zeros : (n x : ℕ) → get_or (replicate {A = ℕ} n 0) x 0 ≡ 0
zeros zero x = refl
zeros (suc n) zero = refl
zeros (suc n) (suc x) = zeros n x

pub none_counted : (table : List ℕ) → table ≡ replicate 65536 0 → HasDegrees [] table
none_counted table e = record {
  all = ap length e ∙ length_replicate 65536;
  each = λ x. ap (λ t. get_or t x 0) e ∙ zeros 65536 x;
}
  where
    length_replicate : (n : ℕ) → length (replicate {A = ℕ} n 0) ≡ n
    length_replicate zero = refl
    length_replicate (suc n) = omega (arith, length_replicate n)

pub facet_counted : (facets : List (List ℕ)) (i : ℕ) (facet : List ℕ) (old now : List ℕ) → i < length facets → facet ≡ get_or facets i facet → length now ≡ 65536 → ((x : ℕ) → get_or now x 0 ≡ get_or old x 0 + (if has facet x then 1 else 0)) → HasDegrees (take i facets) old → HasDegrees (take (i + 1) facets) now
facet_counted facets i facet old now l e n c h = record {
  all = n;
  each = λ x. c x ∙ ap (λ d. d + (if has facet x then 1 else 0)) (h.each x) ∙ ap (λ f. degree (take i facets) x + cond (has f x) 1 0) e ∙ sym (length-filter_more (λ f. has f x) facets i facet l);
}

few : (x : ℕ) (fs : List (List ℕ)) → degree fs x ≤ length fs
few x [] = omega arith
few x (f ∷ fs) = counted (has f x) (few x fs)
  where
    counted : (b : Bool) → degree fs x ≤ length fs → length (cond b (f ∷ filter (λ g. has g x) fs) (filter (λ g. has g x) fs)) ≤ length (f ∷ fs)
    counted true e = omega (arith, e)
    counted false e = omega (arith, e)

pub counts_low : (shown : List (List ℕ)) (i : ℕ) (table : List ℕ) → HasDegrees (take i shown) table → i < length shown → length shown < 9223372036854775808 → (x : ℕ) → get_or table x 0 < 9223372036854775808
counts_low shown i table h l n x = omega (arith, h.each x, few x (take i shown), length-take i shown, l, n)
