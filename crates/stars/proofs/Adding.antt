-- A facet put behind the rows of the stars of its labels.
use Rattle.std.proofs.Common.{◌≡◌, ◌≢◌, ℕ, zero, suc, ◌+◌, ◌-◌, ◌<◌, ◌≤◌, true, false, cond, nat_eq, if◌then◌else◌, ◌||◌, List, [], ◌∷◌, length, take, get_or, set, sym, ◌∙◌, ap, refl, subst, arith, eq-eqb}
use Rattle.std.specs.List.Sorted.{IsStrictlySortedBy}
use Rattle.std.specs.Ordering.{nat_cmp}
use Rattle.std.specs.declared.cmp.Ordering.TheVariants.{Less}
use Rattle.std.proofs.lemmas.Bool.{true≢false, ne_eqb}
use Rattle.std.proofs.lemmas.List.{same_lists, take_more, get_or-map, length-map, length-set, get_or-set_same, get_or-set_other, get_or_default}
use Rattle.complex_core.specs.Labels.{IsFace, has}
use Rattle.complex_core.proofs.Sets.{above_head, above_tail}
use Rattle.complex_core.proofs.Faces.{less_cmp}
use Rattle.complex_core.proofs.Laws.{nat_eq_is, nat_eq_same, or_right}
use Rattle.stars.specs.StarViews.{VertexStar, KeptStar, IsStar, shown}
use Rattle.stars.specs.Building.{with_row, with_rows, CanAdd}
use Rattle.stars.proofs.Finding.{each_at, length-shown}
use Rattle.complex_core.proofs.Booleans.{or_none}
use Rattle.complex_core.proofs.Members.{has_place, has_snoc}

-- a label of a rising list isn't among those before it
pub not_before : (xs : List ℕ) (j : ℕ) → IsStrictlySortedBy nat_cmp xs → j < length xs → has (take j xs) (get_or xs j 0) ≡ false
not_before [] j s l = absurd (omega (arith, l))
not_before (y ∷ ys) zero s l = refl
not_before (y ∷ ys) (suc j) s l =
    let inside : j < length ys = omega (arith, l) in
    let below : y < get_or ys j 0 = less_cmp y (get_or ys j 0) (each_at (λ z. nat_cmp y z ≡ Less) ys j 0 (above_head nat_cmp y ys s) inside) in
    ap (λ b. b || has (take j ys) (get_or ys j 0)) (ne_eqb y (get_or ys j 0) (λ e. omega (arith, below, e)))
    ∙ not_before ys j (above_tail nat_cmp y ys s) inside

positive : (low : ℕ) (xs : List ℕ) (j : ℕ) → IsStrictlySortedBy nat_cmp (low ∷ xs) → j < length xs → low < get_or xs j 0
positive low xs j s l = less_cmp low (get_or xs j 0) (each_at (λ z. nat_cmp low z ≡ Less) xs j 0 (above_head nat_cmp low xs s) l)

-- the label at hand, in a loop over the labels of the facet
pub record AtLabel (old : List VertexStar) (f labels : List ℕ) (j : ℕ) : Type 0 where
  pub low : 1 ≤ get_or labels j 0
  pub high : get_or labels j 0 - 1 < length old
  pub named : has f (get_or labels j 0) ≡ true
  pub fresh : has (take j labels) (get_or labels j 0) ≡ false

pub at_label : (old : List VertexStar) (f labels : List ℕ) (j : ℕ) → CanAdd old f → IsFace f → labels ≡ f → j < length labels → AtLabel old f labels j
at_label old f labels j can face e l =
    let P : List ℕ → Type 0 = λ xs. AtLabel old f xs j in
    let inside : j < length f = omega (arith, l, ap length e) in
    let low : 0 < get_or f j 0 = positive 0 f j face.rising inside in
    let named : has f (get_or f j 0) ≡ true = has_place f j inside in
    subst P (sym e) (record {
      low = omega (arith, low);
      high = omega (arith, low, can.within (get_or f j 0) named);
      named = named;
      fresh = not_before f j (above_tail nat_cmp 0 f face.rising) inside;
    })

length-with : (labels f : List ℕ) (old : List VertexStar) → length (with_rows labels f old) ≡ length old
length-with labels f old = length-map old (λ s. if has labels s.vertex then with_row f s else s)

pub label_inside : (old : List VertexStar) (now : List KeptStar) (f labels : List ℕ) (j : ℕ) → AtLabel old f labels j → shown now ≡ with_rows (take j labels) f old → get_or labels j 0 - 1 < length now
label_inside old now f labels j at e = omega (arith, at.high, length-shown now, ap length e, length-with (take j labels) f old)

with_at : (labels f : List ℕ) (old : List VertexStar) (i : ℕ) (d : VertexStar) → i < length old → get_or (with_rows labels f old) i d ≡ (if has labels (get_or old i d).vertex then with_row f (get_or old i d) else get_or old i d)
with_at labels f old i d l = get_or-map (λ s. if has labels s.vertex then with_row f s else s) old i d d l

-- the star at hand is as it was
pub star_at_label : (old now : List VertexStar) (f labels : List ℕ) (j : ℕ) (s : VertexStar) → CanAdd old f → AtLabel old f labels j → now ≡ with_rows (take j labels) f old → s ≡ get_or now (get_or labels j 0 - 1) s → s ≡ get_or old (get_or labels j 0 - 1) s
star_at_label old now f labels j s can at e is =
    let x : ℕ = get_or labels j 0 in
    let v : (get_or old (x - 1) s).vertex ≡ x = let g : x - 1 + 1 ≡ x = omega (arith, at.low) in can.numbered (x - 1) s at.high ∙ g in
    is ∙ ap (λ ss. get_or ss (x - 1) s) e
    ∙ with_at (take j labels) f old (x - 1) s at.high
    ∙ ap (λ b. cond b (with_row f (get_or old (x - 1) s)) (get_or old (x - 1) s)) (ap (has (take j labels)) v ∙ at.fresh)

pub row_fits : (old now : List VertexStar) (f labels : List ℕ) (j : ℕ) (s : VertexStar) → CanAdd old f → AtLabel old f labels j → now ≡ with_rows (take j labels) f old → s ≡ get_or now (get_or labels j 0 - 1) s → IsStar (with_row f s)
row_fits old now f labels j s can at e is =
    let x : ℕ = get_or labels j 0 in
    let g : x - 1 + 1 ≡ x = omega (arith, at.low) in
    let P : VertexStar → Type 0 = λ t. IsStar (with_row f t) in
    subst P (sym (star_at_label old now f labels j s can at e is)) (can.fits (x - 1) s at.high (ap (has f) g ∙ at.named))

-- one more label
pub added_next : (old now : List VertexStar) (f labels : List ℕ) (j : ℕ) (s t : VertexStar) → CanAdd old f → AtLabel old f labels j → j < length labels → now ≡ with_rows (take j labels) f old → s ≡ get_or now (get_or labels j 0 - 1) s → t ≡ with_row f s → set now (get_or labels j 0 - 1) t ≡ with_rows (take (j + 1) labels) f old
added_next old now f labels j s t can at l e is et = same_lists (set now (get_or labels j 0 - 1) t) (with_rows (take (j + 1) labels) f old) long each
  where
    long_now : length now ≡ length old
    long_now = ap length e ∙ length-with (take j labels) f old

    long : length (set now (get_or labels j 0 - 1) t) ≡ length (with_rows (take (j + 1) labels) f old)
    long = length-set now (get_or labels j 0 - 1) t ∙ long_now ∙ sym (length-with (take (j + 1) labels) f old)

    seen : (y : ℕ) → has (take (j + 1) labels) y ≡ (has (take j labels) y || nat_eq (get_or labels j 0) y)
    seen y = ap (λ xs. has xs y) (take_more labels j 0 l) ∙ has_snoc (take j labels) (get_or labels j 0) y

    here : (d : VertexStar) → get_or (set now (get_or labels j 0 - 1) t) (get_or labels j 0 - 1) d ≡ get_or (with_rows (take (j + 1) labels) f old) (get_or labels j 0 - 1) d
    here d =
        let r : VertexStar = get_or old (get_or labels j 0 - 1) d in
        let v : r.vertex ≡ get_or labels j 0 = let g : get_or labels j 0 - 1 + 1 ≡ get_or labels j 0 = omega (arith, at.low) in can.numbered (get_or labels j 0 - 1) d at.high ∙ g in
        let same : s ≡ r = star_at_label old now f labels j s can at e is ∙ get_or_default old (get_or labels j 0 - 1) s d at.high in
        get_or-set_same now (get_or labels j 0 - 1) t d (omega (arith, at.high, long_now))
        ∙ et ∙ ap (with_row f) same
        ∙ sym (with_at (take (j + 1) labels) f old (get_or labels j 0 - 1) d at.high
        ∙ ap (λ b. cond b (with_row f r) r) (ap (has (take (j + 1) labels)) v ∙ seen (get_or labels j 0) ∙ or_right (has (take j labels) (get_or labels j 0)) (nat_eq (get_or labels j 0) (get_or labels j 0)) (nat_eq_same (get_or labels j 0))))

    other : (k : ℕ) (d : VertexStar) → k ≢ get_or labels j 0 - 1 → k < length old → get_or (set now (get_or labels j 0 - 1) t) k d ≡ get_or (with_rows (take (j + 1) labels) f old) k d
    other k d ne lk =
        let r : VertexStar = get_or old k d in
        let v : r.vertex ≡ k + 1 = can.numbered k d lk in
        let apart : get_or labels j 0 ≢ r.vertex = λ g. ne (omega (arith, g, v)) in
        get_or-set_other now (get_or labels j 0 - 1) k t d ne
        ∙ ap (λ ss. get_or ss k d) e
        ∙ with_at (take j labels) f old k d lk
        ∙ ap (λ b. cond b (with_row f r) r) (sym (seen r.vertex ∙ ap (λ b. has (take j labels) r.vertex || b) (ne_eqb (get_or labels j 0) r.vertex apart) ∙ or_none (has (take j labels) r.vertex)))
        ∙ sym (with_at (take (j + 1) labels) f old k d lk)

    each : (k : ℕ) (d : VertexStar) → k < length (set now (get_or labels j 0 - 1) t) → get_or (set now (get_or labels j 0 - 1) t) k d ≡ get_or (with_rows (take (j + 1) labels) f old) k d
    each k d lk =
        let inside : k < length old = omega (arith, lk, length-set now (get_or labels j 0 - 1) t, long_now) in
        elim (nat_eq k (get_or labels j 0 - 1)) as (λ b. nat_eq k (get_or labels j 0 - 1) ≡ b → get_or (set now (get_or labels j 0 - 1) t) k d ≡ get_or (with_rows (take (j + 1) labels) f old) k d) [
          | true ↦ λ g. let h : k ≡ get_or labels j 0 - 1 = nat_eq_is k (get_or labels j 0 - 1) g in let P : ℕ → Type 0 = λ m. get_or (set now (get_or labels j 0 - 1) t) m d ≡ get_or (with_rows (take (j + 1) labels) f old) m d in subst P (sym h) (here d)
          | false ↦ λ g. other k d (λ h. true≢false (sym (eq-eqb k (get_or labels j 0 - 1) h) ∙ g)) inside
        ] refl

-- before the first label
pub added_none : (f : List ℕ) (old : List VertexStar) → old ≡ with_rows [] f old
added_none f [] = refl
added_none f (s ∷ old) = ap (λ ss. s ∷ ss) (added_none f old)
