-- One pass over facets finds the least label that may come next, and the facets that have it.
use Rattle.std.proofs.Common.{◌≡◌, ◌≢◌, ◌⊎◌, inl, inr, ℕ, ◌<◌, ◌≤◌, Bool, true, false, not, nat_eq, nat_lt, ◌||◌, ◌&&◌, cond, if◌then◌else◌, Option, Some, None, List, [], ◌∷◌, ◌++◌, length, filter, fold, sym, ◌∙◌, ap, refl, subst, arith}
use Rattle.std.specs.List.{AllByRecursion, find, flat_map}
use Rattle.std.specs.List.Sorted.{IsStrictlySortedBy}
use Rattle.std.specs.Option.{MatchOption}
use Rattle.std.specs.Cmp.{first_so, second_so}
use Rattle.std.specs.Cmp.Derive.{both_true}
use Rattle.std.specs.Ordering.{nat_cmp}
use Rattle.std.proofs.lemmas.Cmp.{nat_cmp_total}
use Rattle.std.proofs.lemmas.List.Folds.{list_any-append}
use Rattle.std.proofs.lemmas.List.Kept.{IsStrictlySortedBy-filter}
use Rattle.complex_core.specs.Labels.{has, holds}
use Rattle.complex_core.specs.Complexes.{over}
use Rattle.complex_core.specs.Maps.{used}
use Rattle.complex_core.proofs.Sets.{Above, above_head, above_tail, above_cons, sorted_rising}
use Rattle.complex_core.proofs.Faces.{less_cmp, cmp_less}
use Rattle.complex_core.proofs.Laws.{both_ways, nat_eq_is, nat_eq_same, or_left, or_right, same_labels}
use Rattle.complex_core.proofs.SubsetLists.{two, clash, above_at}
use Rattle.anneal_plan.specs.Growth.{comes_next, next_labels}
use Rattle.anneal_plan.proofs.NextLabels.{in_any, has_next}
use Rattle.anneal_plan.specs.Nearest.{Next, nothing_yet, started, joined, nearer, met, seen, nearest}
use Rattle.std.proofs.lemmas.Bool.{ltb-true, ltb-false, lt-ltb}

-- ---- the least label of a facet

abbrev LeastOf : ℕ → ℕ → List ℕ → Option ℕ → Type 0
LeastOf p last row r =
    MatchOption r ((z : ℕ) → comes_next p last z ≡ true → has row z ≡ false)
    (λ x. (comes_next p last x ≡ true) × (has row x ≡ true) × ((z : ℕ) → comes_next p last z ≡ true → has row z ≡ true → x ≤ z))

least_of : (p last : ℕ) (row : List ℕ) → IsStrictlySortedBy nat_cmp row → LeastOf p last row (find (comes_next p last) row)
least_of p last [] r = λ z t. refl
least_of p last (x ∷ xs) r = elim (two (comes_next p last x)) [
  | inl t ↦
      let P : Option ℕ → Type 0 = λ o. LeastOf p last (x ∷ xs) o in
      subst P (sym (ap (λ b. cond b (Some x) (find (comes_next p last) xs)) t)) (
        t,
        or_left (nat_eq x x) (has xs x) (nat_eq_same x),
        λ z _ h. elim (two (nat_eq x z)) [
          | inl e ↦ (let l : x ≤ z = omega (arith, nat_eq_is x z e) in l)
          | inr e ↦ (let l : x < z = less_cmp x z (above_at x z xs (above_head nat_cmp x xs r) (sym (ap (λ b. b || has xs z) e) ∙ h)) in let k : x ≤ z = omega (arith, l) in k)
        ],
      )
  | inr f ↦
      let P : Option ℕ → Type 0 = λ o. LeastOf p last (x ∷ xs) o in
      subst P (sym (ap (λ b. cond b (Some x) (find (comes_next p last) xs)) f)) (wider (find (comes_next p last) xs) f (least_of p last xs (above_tail nat_cmp x xs r)))
]
  where
    in_tail : (z : ℕ) → comes_next p last x ≡ false → comes_next p last z ≡ true → has (x ∷ xs) z ≡ has xs z
    in_tail z f t = elim (two (nat_eq x z)) [
      | inl e ↦ clash (comes_next p last x) (ap (comes_next p last) (nat_eq_is x z e) ∙ t) f
      | inr e ↦ ap (λ b. b || has xs z) e
    ]

    wider : (o : Option ℕ) → comes_next p last x ≡ false → LeastOf p last xs o → LeastOf p last (x ∷ xs) o
    wider None f h = λ z t. in_tail z f t ∙ h z t
    wider (Some y) f h = (h.0, or_right (nat_eq x y) (has xs y) h.1, λ z t i. h.2 z t (sym (in_tail z f t) ∙ i))

-- ---- what was found among the facets so far

pub record Leads (rows : List (List ℕ)) (p last x : ℕ) (near : Next) : Type 0 where
  pub next : comes_next p last x ≡ true
  pub there : in_any rows x ≡ true
  pub least : (z : ℕ) → comes_next p last z ≡ true → in_any rows z ≡ true → x ≤ z
  pub all : near.whole ≡ true → near.rows ≡ filter (λ r. has r x) rows

abbrev pub IsNearest : List (List ℕ) → ℕ → ℕ → Next → Option ℕ → Type 0
IsNearest rows p last near label = MatchOption label ((z : ℕ) → comes_next p last z ≡ true → in_any rows z ≡ false) (λ x. Leads rows p last x near)

any_more : (rows : List (List ℕ)) (row : List ℕ) (z : ℕ) → in_any (rows ++ row ∷ []) z ≡ (in_any rows z || has row z)
any_more rows row z = list_any-append (λ r. has r z) rows (row ∷ []) ∙ ap (λ b. in_any rows z || b) (or_false (has row z))
  where
    or_false : (b : Bool) → (b || false) ≡ b
    or_false true = refl
    or_false false = refl

neither : (rows : List (List ℕ)) (row : List ℕ) (z : ℕ) → in_any rows z ≡ false → has row z ≡ false → in_any (rows ++ row ∷ []) z ≡ false
neither rows row z e f = any_more rows row z ∙ ap (λ b. b || has row z) e ∙ f

one_of : (rows : List (List ℕ)) (row : List ℕ) (z : ℕ) → in_any (rows ++ row ∷ []) z ≡ true → (in_any rows z ≡ true) ⊎ (has row z ≡ true)
one_of rows row z e = elim (two (in_any rows z)) [
  | inl t ↦ inl t
  | inr f ↦ inr (sym (ap (λ b. b || has row z) f) ∙ sym (any_more rows row z) ∙ e)
]

with_more : (rows : List (List ℕ)) (row : List ℕ) (x : ℕ) → has row x ≡ true → filter (λ r. has r x) (rows ++ row ∷ []) ≡ filter (λ r. has r x) rows ++ row ∷ []
with_more [] row x h = ap (λ b. cond b (row ∷ []) []) h
with_more (r ∷ rows) row x h = elim (has r x) as (λ b. cond b (r ∷ filter (λ w. has w x) (rows ++ row ∷ [])) (filter (λ w. has w x) (rows ++ row ∷ [])) ≡ cond b (r ∷ filter (λ w. has w x) rows) (filter (λ w. has w x) rows) ++ row ∷ []) [
  | true ↦ ap (λ rs. r ∷ rs) (with_more rows row x h)
  | false ↦ with_more rows row x h
]

with_same : (rows : List (List ℕ)) (row : List ℕ) (x : ℕ) → has row x ≡ false → filter (λ r. has r x) (rows ++ row ∷ []) ≡ filter (λ r. has r x) rows
with_same [] row x h = ap (λ b. cond b (row ∷ []) []) h
with_same (r ∷ rows) row x h = elim (has r x) as (λ b. cond b (r ∷ filter (λ w. has w x) (rows ++ row ∷ [])) (filter (λ w. has w x) (rows ++ row ∷ [])) ≡ cond b (r ∷ filter (λ w. has w x) rows) (filter (λ w. has w x) rows)) [
  | true ↦ ap (λ rs. r ∷ rs) (with_same rows row x h)
  | false ↦ with_same rows row x h
]

with_none : (rows : List (List ℕ)) (x : ℕ) → in_any rows x ≡ false → filter (λ r. has r x) rows ≡ []
with_none [] x e = refl
with_none (r ∷ rows) x e = elim (two (has r x)) [
  | inl t ↦ clash (in_any (r ∷ rows) x) (or_left (has r x) (in_any rows x) t) e
  | inr f ↦ ap (λ b. cond b (r ∷ filter (λ w. has w x) rows) (filter (λ w. has w x) rows)) f ∙ with_none rows x (sym (ap (λ b. b || in_any rows x) f) ∙ e)
]

-- ---- one facet more

-- the least label of the facet is lesser than those before
begins : (rows : List (List ℕ)) (row : List ℕ) (p last x : ℕ) → LeastOf p last row (Some x) → ((z : ℕ) → comes_next p last z ≡ true → in_any rows z ≡ true → x < z) → Leads (rows ++ row ∷ []) p last x (started row x)
begins rows row p last x r l = record {
  next = r.0;
  there = any_more rows row x ∙ or_right (in_any rows x) (has row x) r.1;
  least = λ z t i. elim (one_of rows row z i) [ inl u ↦ (let k : x ≤ z = omega (arith, l z t u) in k) | inr u ↦ r.2 z t u ];
  all = λ _. sym (with_more rows row x r.1 ∙ ap (λ rs. rs ++ row ∷ []) (with_none rows x none));
}
  where
    none : in_any rows x ≡ false
    none = elim (two (in_any rows x)) [ inl t ↦ (let k : x < x = l x r.0 t in absurd (omega (arith, k))) | inr f ↦ f ]

-- it is greater
stays : (rows : List (List ℕ)) (row : List ℕ) (p last x y : ℕ) (near : Next) → LeastOf p last row (Some x) → y < x → Leads rows p last y near → Leads (rows ++ row ∷ []) p last y near
stays rows row p last x y near r l h = record {
  next = h.next;
  there = any_more rows row y ∙ or_left (in_any rows y) (has row y) h.there;
  least = λ z t i. elim (one_of rows row z i) [ inl u ↦ h.least z t u | inr u ↦ (let k : y ≤ z = omega (arith, l, r.2 z t u) in k) ];
  all = λ w. h.all w ∙ sym (with_same rows row y apart);
}
  where
    apart : has row y ≡ false
    apart = elim (two (has row y)) [ inl t ↦ absurd (omega (arith, l, r.2 y h.next t)) | inr f ↦ f ]

-- it is the same
joins : (rows : List (List ℕ)) (row : List ℕ) (p last y : ℕ) (near : Next) → LeastOf p last row (Some y) → Leads rows p last y near → Leads (rows ++ row ∷ []) p last y (joined near row)
joins rows row p last y near r h = record {
  next = h.next;
  there = any_more rows row y ∙ or_left (in_any rows y) (has row y) h.there;
  least = λ z t i. elim (one_of rows row z i) [ inl u ↦ h.least z t u | inr u ↦ r.2 z t u ];
  all = elim (nat_eq (length near.rows) 256) as (λ b. (if b then record near { whole = false } else record near { rows = near.rows ++ row ∷ [] }).whole ≡ true → (if b then record near { whole = false } else record near { rows = near.rows ++ row ∷ [] }).rows ≡ filter (λ w. has w y) (rows ++ row ∷ [])) [
    | true ↦ λ w. let e : false ≡ true = w in cc
    | false ↦ λ w. ap (λ rs. rs ++ row ∷ []) (h.all w) ∙ sym (with_more rows row y r.1)
  ];
}

-- the facet has no label that may come next
passes : (rows : List (List ℕ)) (row : List ℕ) (p last : ℕ) (near : Next) (label : Option ℕ) → ((z : ℕ) → comes_next p last z ≡ true → has row z ≡ false) → IsNearest rows p last near label → IsNearest (rows ++ row ∷ []) p last near label
passes rows row p last near None n h = λ z t. neither rows row z (h z t) (n z t)
passes rows row p last near (Some y) n h = record {
  next = h.next;
  there = any_more rows row y ∙ or_left (in_any rows y) (has row y) h.there;
  least = λ z t i. elim (one_of rows row z i) [ inl u ↦ h.least z t u | inr u ↦ clash (has row z) u (n z t) ];
  all = λ w. h.all w ∙ sym (with_same rows row y (n y h.next));
}

nears : (rows : List (List ℕ)) (row : List ℕ) (p last x : ℕ) (near : Next) (label : Option ℕ) → LeastOf p last row (Some x) → near.label ≡ label → IsNearest rows p last near label → IsNearest (rows ++ row ∷ []) p last (nearer near row x label) (nearer near row x label).label
nears rows row p last x near None r e h = begins rows row p last x r (λ z t i. clash (in_any rows z) i (h z t))
nears rows row p last x near (Some y) r e h = elim (two (nat_lt y x)) [
  | inl t ↦ put (sym (ap (λ b. if b then near else tied) t)) (at (sym e) (stays rows row p last x y near r (ltb-true y x t) h))
  | inr f ↦ elim (two (nat_eq y x)) [
    | inl s ↦
        let same : y ≡ x = nat_eq_is y x s in
        let Q : ℕ → Type 0 = λ w. LeastOf p last row (Some w) in
        put (sym (ap (λ b. if b then near else tied) f ∙ ap (λ b. if b then joined near row else started row x) s)) (kept (nat_eq (length near.rows) 256) (joins rows row p last y near (subst Q (sym same) r) h))
    | inr n ↦
        put (sym (ap (λ b. if b then near else tied) f ∙ ap (λ b. if b then joined near row else started row x) n))
        (begins rows row p last x r (λ z t i. omega (arith, h.least z t i, ltb-false y x f, differ n)))
  ]
]
  where
    tied : Next
    tied = if nat_eq y x then joined near row else started row x

    differ : nat_eq y x ≡ false → y ≢ x
    differ n q = clash (nat_eq y x) (ap (nat_eq y) (sym q) ∙ nat_eq_same y) n

    put : {v w : Next} → v ≡ w → IsNearest (rows ++ row ∷ []) p last v v.label → IsNearest (rows ++ row ∷ []) p last w w.label
    put {v} {w} q k = let P : Next → Type 0 = λ n. IsNearest (rows ++ row ∷ []) p last n n.label in subst P q k

    at : Some y ≡ near.label → Leads (rows ++ row ∷ []) p last y near → IsNearest (rows ++ row ∷ []) p last near near.label
    at q k = let P : Option ℕ → Type 0 = λ o. IsNearest (rows ++ row ∷ []) p last near o in subst P q k

    kept : (b : Bool) → Leads (rows ++ row ∷ []) p last y (if b then record near { whole = false } else record near { rows = near.rows ++ row ∷ [] }) → IsNearest (rows ++ row ∷ []) p last (if b then record near { whole = false } else record near { rows = near.rows ++ row ∷ [] }) (if b then record near { whole = false } else record near { rows = near.rows ++ row ∷ [] }).label
    kept true k = let P : Option ℕ → Type 0 = λ o. IsNearest (rows ++ row ∷ []) p last (record near { whole = false }) o in subst P (sym e) k
    kept false k = let P : Option ℕ → Type 0 = λ o. IsNearest (rows ++ row ∷ []) p last (record near { rows = near.rows ++ row ∷ [] }) o in subst P (sym e) k

meets : (rows : List (List ℕ)) (row : List ℕ) (p last : ℕ) (near : Next) (r : Option ℕ) → LeastOf p last row r → IsNearest rows p last near near.label → IsNearest (rows ++ row ∷ []) p last (met near row r) (met near row r).label
meets rows row p last near None l h = passes rows row p last near near.label l h
meets rows row p last near (Some x) l h = nears rows row p last x near near.label l refl h

-- ---- all facets

abbrev rises : List (List ℕ) → Type 0
rises rows = AllByRecursion (IsStrictlySortedBy nat_cmp) rows

over_more : (done : List (List ℕ)) (row : List ℕ) (more : List (List ℕ)) → (done ++ row ∷ []) ++ more ≡ done ++ (row ∷ more)
over_more [] row more = refl
over_more (d ∷ done) row more = ap (λ rs. d ∷ rs) (over_more done row more)

all_seen : (done rows : List (List ℕ)) (a : List ℕ) (p last : ℕ) (near : Next) → rises rows → IsNearest done p last near near.label
    → IsNearest (done ++ over rows a) p last (fold (seen a p last) near rows) (fold (seen a p last) near rows).label
all_seen done [] a p last near s h = let P : List (List ℕ) → Type 0 = λ rs. IsNearest rs p last near near.label in subst P (sym (nil done)) h
  where
    nil : (xs : List (List ℕ)) → xs ++ [] ≡ xs
    nil [] = refl
    nil (x ∷ xs) = ap (λ ys. x ∷ ys) (nil xs)
all_seen done (row ∷ rows) a p last near s h = elim (holds row a) as (λ b. IsNearest (done ++ cond b (row ∷ over rows a) (over rows a)) p last (fold (seen a p last) (cond b (met near row (find (comes_next p last) row)) near) rows) (fold (seen a p last) (cond b (met near row (find (comes_next p last) row)) near) rows).label) [
  | true ↦
      let after : Next = met near row (find (comes_next p last) row) in
      let P : List (List ℕ) → Type 0 = λ rs. IsNearest rs p last (fold (seen a p last) after rows) (fold (seen a p last) after rows).label in
      subst P (over_more done row (over rows a)) (all_seen (done ++ row ∷ []) rows a p last after s.1 (meets done row p last near (find (comes_next p last) row) (least_of p last row s.0) h))
  | false ↦ all_seen done rows a p last near s.1 h
]

pub nearest_is : (rows : List (List ℕ)) (p last : ℕ) (a : List ℕ) → rises rows → IsNearest (over rows a) p last (nearest rows p last a) (nearest rows p last a).label
unfolding nearest
nearest_is rows p last a s = all_seen [] rows a p last nothing_yet s (λ z t. refl)

-- ---- the labels that may come next

next_above : (p x : ℕ) (xs : List ℕ) → Above nat_cmp x (filter (comes_next p x) xs)
next_above p x [] = tt
next_above p x (y ∷ ys) = elim (two (comes_next p x y)) [
  | inl t ↦ let P : Bool → Type 0 = λ b. Above nat_cmp x (cond b (y ∷ filter (comes_next p x) ys) (filter (comes_next p x) ys)) in subst P (sym t) (cmp_less x y (ltb-true x y (first_so (nat_lt x y) (not (nat_eq y p)) t)), next_above p x ys)
  | inr f ↦ let P : Bool → Type 0 = λ b. Above nat_cmp x (cond b (y ∷ filter (comes_next p x) ys) (filter (comes_next p x) ys)) in subst P (sym f) (next_above p x ys)
]

pub no_labels : (rows : List (List ℕ)) (p last : ℕ) (a : List ℕ) (near : Next) → IsNearest (over rows a) p last near None → next_labels rows p last a ≡ []
no_labels rows p last a near h = none (next_labels rows p last a) (λ z. has_next rows p last a z ∙ nothing z)
  where
    none : (xs : List ℕ) → ((z : ℕ) → has xs z ≡ false) → xs ≡ []
    none [] f = refl
    none (x ∷ xs) f = clash (has (x ∷ xs) x) (or_left (nat_eq x x) (has xs x) (nat_eq_same x)) (f x)

    nothing : (z : ℕ) → (in_any (over rows a) z && comes_next p last z) ≡ false
    nothing z = elim (two (comes_next p last z)) [
      | inl t ↦ ap (λ b. b && comes_next p last z) (h z t)
      | inr f ↦ ap (λ b. in_any (over rows a) z && b) f ∙ and_false (in_any (over rows a) z)
    ]
      where
        and_false : (b : Bool) → (b && false) ≡ false
        and_false true = refl
        and_false false = refl

pub label_first : (rows : List (List ℕ)) (p last x : ℕ) (a : List ℕ) (near : Next) → Leads (over rows a) p last x near → next_labels rows p last a ≡ x ∷ next_labels rows p x a
label_first rows p last x a near h =
    same_labels (next_labels rows p last a) (x ∷ next_labels rows p x a)
    (IsStrictlySortedBy-filter nat_cmp (comes_next p last) (used (over rows a)) all)
    (above_cons nat_cmp x (next_labels rows p x a) (next_above p x (used (over rows a))) (IsStrictlySortedBy-filter nat_cmp (comes_next p x) (used (over rows a)) all))
    (λ z. has_next rows p last a z ∙ both_ways (in_any (over rows a) z && comes_next p last z) (nat_eq x z || (in_any (over rows a) z && comes_next p x z)) (forth z) (back z) ∙ ap (λ b. nat_eq x z || b) (sym (has_next rows p x a z)))
  where
    all : IsStrictlySortedBy nat_cmp (used (over rows a))
    all = sorted_rising nat_cmp_total (flat_map (λ f. f) (over rows a))

    forth : (z : ℕ) → (in_any (over rows a) z && comes_next p last z) ≡ true → (nat_eq x z || (in_any (over rows a) z && comes_next p x z)) ≡ true
    forth z t =
        let there : in_any (over rows a) z ≡ true = first_so (in_any (over rows a) z) (comes_next p last z) t in
        let next : comes_next p last z ≡ true = second_so (in_any (over rows a) z) (comes_next p last z) t in
        elim (two (nat_eq x z)) [
          | inl e ↦ or_left (nat_eq x z) (in_any (over rows a) z && comes_next p x z) e
          | inr e ↦
              or_right (nat_eq x z) (in_any (over rows a) z && comes_next p x z)
              (both_true there (both_true (lt-ltb x z (let l : x < z = omega (arith, h.least z next there, differ z e) in l)) (second_so (nat_lt last z) (not (nat_eq z p)) next)))
        ]
      where
        differ : (w : ℕ) → nat_eq x w ≡ false → x ≢ w
        differ w n q = clash (nat_eq x w) (ap (nat_eq x) (sym q) ∙ nat_eq_same x) n

    back : (z : ℕ) → (nat_eq x z || (in_any (over rows a) z && comes_next p x z)) ≡ true → (in_any (over rows a) z && comes_next p last z) ≡ true
    back z t = elim (two (nat_eq x z)) [
      | inl e ↦
          let P : ℕ → Type 0 = λ w. (in_any (over rows a) w && comes_next p last w) ≡ true in
          subst P (nat_eq_is x z e) (both_true h.there h.next)
      | inr e ↦
          let u : (in_any (over rows a) z && comes_next p x z) ≡ true = sym (ap (λ b. b || (in_any (over rows a) z && comes_next p x z)) e) ∙ t in
          let v : comes_next p x z ≡ true = second_so (in_any (over rows a) z) (comes_next p x z) u in
          both_true (first_so (in_any (over rows a) z) (comes_next p x z) u)
          (both_true (lt-ltb last z (let l : last < z = omega (arith, ltb-true last x (first_so (nat_lt last x) (not (nat_eq x p)) h.next), ltb-true x z (first_so (nat_lt x z) (not (nat_eq z p)) v)) in l)) (second_so (nat_lt x z) (not (nat_eq z p)) v))
    ]

pub label_above : (rows : List (List ℕ)) (p last x : ℕ) (near : Next) → Leads rows p last x near → last < x
label_above rows p last x near h = ltb-true last x (first_so (nat_lt last x) (not (nat_eq x p)) h.next)
