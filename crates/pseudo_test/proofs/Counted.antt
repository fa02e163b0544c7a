-- The lengths of the runs.
use Rattle.std.proofs.Common.{◌≡◌, ◌≢◌, ℕ, ◌+◌, ◌-◌, ◌<◌, ◌≤◌, zero, suc, Bool, true, false, nat_eq, cond, ◌||◌, List, [], ◌∷◌, length, map, get_or, Option, Some, None, Bor, sym, ◌∙◌, ap, refl, subst, arith, inl, inr}
use Rattle.std.specs.List.{AllByRecursion, list_any, slice_get, flat_map}
use Rattle.std.specs.Option.{option_copied}
use Rattle.std.specs.List.Sorted.{IsStrictlySortedBy}
use Rattle.std.specs.Ordering.{is_le, is_eq, ordering_reverse}
use Rattle.std.specs.Cmp.Lexicographic.{pointwise, nat_list_cmp_total}
use Rattle.std.specs.declared.cmp.Ordering.{Ordering}
use Rattle.std.specs.declared.cmp.Ordering.TheVariants.{Less, Equal, Greater}
use Rattle.std.proofs.lemmas.Bool.{cases_lt}
use Rattle.std.proofs.lemmas.Cmp.{tied_itself}
use Rattle.std.proofs.lemmas.List.Kept.{IsStrictlySortedBy-filter}
use Rattle.std.proofs.lemmas.Map.Keys.{Less-from_sorted}
use Rattle.complex_core.specs.Labels.{has, without, face_cmp}
use Rattle.complex_core.specs.Complexes.{ComplexView, IsComplex, is_facet}
use Rattle.complex_core.proofs.Sets.{Above, above_head, above_tail, sorted_rising}
use Rattle.complex_core.proofs.Faces.{less_cmp}
use Rattle.complex_core.proofs.Laws.{same_sets_is, same_set_itself, some_listed, some_has, found}
use Rattle.pseudo_test.specs.Ridges.{IsRidge, count, Closed, Thin, IsLeastOther}
use Rattle.pseudo_test.specs.Incidences.{incidence_cmp, incidences_of, incidences, facet_of, run_of, IsRun}
use Rattle.pseudo_test.proofs.Incident.{incidence_total, labels_less, any_incidences, found_set, run_is, not_above}
use Rattle.std.proofs.lemmas.List.{get_or_default}
use Rattle.complex_core.proofs.SubsetLists.{two, clash}

-- ---- runs

pub run_made : (xs : List (List ℕ × ℕ)) (r : List ℕ) → IsStrictlySortedBy incidence_cmp xs → IsRun (run_of xs r)
run_made xs r s = record { ridge = r; one = same xs; rising = IsStrictlySortedBy-filter incidence_cmp (λ s. pointwise nat_eq s.0 r) xs s }
  where
    same : (ss : List (List ℕ × ℕ)) → AllByRecursion (λ s. s.0 ≡ r) (run_of ss r)
    same [] = tt
    same (s ∷ ss) = elim (pointwise nat_eq s.0 r) as (λ b. pointwise nat_eq s.0 r ≡ b → AllByRecursion (λ s. s.0 ≡ r) (cond b (s ∷ run_of ss r) (run_of ss r))) [
      | true ↦ λ e. (same_sets_is s.0 r e, same ss)
      | false ↦ λ _. same ss
    ] refl

-- labels rise along a run, so the last one is no less than the number of those before it
label_from : (r : List ℕ) (low : ℕ) (xs : List (List ℕ × ℕ)) (i : ℕ) (d : List ℕ × ℕ) → AllByRecursion (λ s. s.0 ≡ r) xs → IsStrictlySortedBy incidence_cmp xs → AllByRecursion (λ s. low < s.1) xs → i < length xs → low + i < (get_or xs i d).1
label_from r low [] i d one rising above l = absurd (omega (arith, l))
label_from r low (s ∷ ss) zero d one rising above l = omega (arith, above.0)
label_from r low (s ∷ ss) (suc i) d one rising above l =
    let n : s.1 + i < (get_or ss i d).1 = label_from r s.1 ss i d one.1 (above_tail incidence_cmp s ss rising) (higher ss one.1 (above_head incidence_cmp s ss rising)) (omega arith) in
    omega (arith, n, above.0)
  where
    higher : (ts : List (List ℕ × ℕ)) → AllByRecursion (λ t. t.0 ≡ r) ts → Above incidence_cmp s ts → AllByRecursion (λ t. s.1 < t.1) ts
    higher [] h a = tt
    higher (t ∷ ts) h a = (less_cmp s.1 t.1 (labels_less s t r one.0 h.0 a.0), higher ts h.1 a.1)

pub run_short : (xs : List (List ℕ × ℕ)) (i : ℕ) (d : List ℕ × ℕ) → IsRun xs → i < length xs → i ≤ (get_or xs i d).1
run_short [] i d run l = absurd (omega (arith, l))
run_short (s ∷ ss) zero d run l = omega arith
run_short (s ∷ ss) (suc i) d run l =
    let n : s.1 + i < (get_or ss i d).1 = label_from run.ridge s.1 ss i d run.one.1 (above_tail incidence_cmp s ss run.rising) (higher ss run.one.1 (above_head incidence_cmp s ss run.rising)) (omega arith) in
    omega (arith, n)
  where
    higher : (ts : List (List ℕ × ℕ)) → AllByRecursion (λ t. t.0 ≡ run.ridge) ts → Above incidence_cmp s ts → AllByRecursion (λ t. s.1 < t.1) ts
    higher [] h a = tt
    higher (t ∷ ts) h a = (less_cmp s.1 t.1 (labels_less s t run.ridge run.one.0 h.0 a.0), higher ts h.1 a.1)

length_facets : (ss : List (List ℕ × ℕ)) → length (map facet_of ss) ≡ length ss
length_facets [] = refl
length_facets (s ∷ ss) = omega (arith, length_facets ss)

pub count_run : (k : ComplexView) (r : List ℕ) → IsComplex k → IsRidge k.facets r → length (run_of (incidences k.facets) r) ≡ count k.facets r
count_run k r c i = sym (length_facets (run_of (incidences k.facets) r)) ∙ ap length (run_is k c r i)

-- ---- ridges by the places of their incidences

place_of : (p : List ℕ × ℕ → Bool) (xs : List (List ℕ × ℕ)) (d : List ℕ × ℕ) → list_any p xs ≡ true → (k : ℕ) × (k < length xs) × (p (get_or xs k d) ≡ true)
place_of p [] d t = clash true refl (sym t)
place_of p (x ∷ xs) d t = elim (two (p x)) [
  | inl e ↦ (0, omega arith, e)
  | inr e ↦ let q : (k : ℕ) × (k < length xs) × (p (get_or xs k d) ≡ true) = place_of p xs d (sym (ap (λ c. c || list_any p xs) e) ∙ t) in (suc q.0, omega (arith, q.1), q.2)
]

any_at : (p : List ℕ × ℕ → Bool) (xs : List (List ℕ × ℕ)) (k : ℕ) (d : List ℕ × ℕ) → k < length xs → p (get_or xs k d) ≡ true → list_any p xs ≡ true
any_at p [] k d l t = absurd (omega (arith, l))
any_at p (x ∷ xs) zero d l t = ap (λ c. c || list_any p xs) t
any_at p (x ∷ xs) (suc k) d l t = at (p x) (any_at p xs k d (omega arith) t)
  where
    at : (c : Bool) → list_any p xs ≡ true → (c || list_any p xs) ≡ true
    at true h = refl
    at false h = h

-- each ridge has an incidence
pub incidence_place : (fs : List (List ℕ)) (r : List ℕ) (d : List ℕ × ℕ) → IsRidge fs r → (k : ℕ) × (k < length (incidences fs)) × ((get_or (incidences fs) k d).0 ≡ r)
incidence_place fs r d g =
    let t : list_any (λ s. pointwise nat_eq s.0 r) (incidences fs) ≡ true = any_incidences (λ s. pointwise nat_eq s.0 r) fs ∙ some_listed (λ f. list_any (λ x. pointwise nat_eq (without f x) r) f) fs g.facet g.there
    (some_has (λ x. pointwise nat_eq (without g.facet x) r) g.facet g.label g.used (ap (λ m. pointwise nat_eq m r) (sym g.is) ∙ same_set_itself r)) in
    let p : (k : ℕ) × (k < length (incidences fs)) × (pointwise nat_eq (get_or (incidences fs) k d).0 r ≡ true) = place_of (λ s. pointwise nat_eq s.0 r) (incidences fs) d t in
    (p.0, p.1, same_sets_is (get_or (incidences fs) p.0 d).0 r p.2)

-- each incidence has a ridge
pub incidence_ridge : (fs : List (List ℕ)) (k : ℕ) (d : List ℕ × ℕ) → k < length (incidences fs) → IsRidge fs (get_or (incidences fs) k d).0
incidence_ridge fs k d l =
    let r : List ℕ = (get_or (incidences fs) k d).0 in
    let t : list_any (λ f. list_any (λ x. pointwise nat_eq (without f x) (get_or (incidences fs) k d).0) f) fs ≡ true = sym (any_incidences (λ s. pointwise nat_eq s.0 r) fs) ∙ any_at (λ s. pointwise nat_eq s.0 r) (incidences fs) k d l (same_set_itself r) in
    let p : (f : List ℕ) × (is_facet fs f ≡ true) × (list_any (λ x. pointwise nat_eq (without f x) r) f ≡ true) = found_set (λ f. list_any (λ x. pointwise nat_eq (without f x) r) f) fs t in
    let q : (x : ℕ) × (has p.0 x ≡ true) × (pointwise nat_eq (without p.0 x) r ≡ true) = found (λ x. pointwise nat_eq (without p.0 x) r) p.0 p.2 in
    record { facet = p.0; label = q.0; there = p.1; used = q.1; is = sym (same_sets_is (without p.0 q.0) r q.2) }

-- a lesser ridge stands before
earlier : (fs : List (List ℕ)) (i k : ℕ) (d : List ℕ × ℕ) → i < length (incidences fs) → k < length (incidences fs) → face_cmp (get_or (incidences fs) k d).0 (get_or (incidences fs) i d).0 ≡ Less → k < i
earlier fs i k d li lk less = elim (cases_lt k i) [
  | inl lt ↦ lt
  | inr ge ↦ elim (cases_lt i k) [
    | inl gt ↦ absurd (never (face_cmp (get_or (incidences fs) i d).0 (get_or (incidences fs) k d).0) (not_above (get_or (incidences fs) i d) (get_or (incidences fs) k d) (Less-from_sorted incidence_cmp (incidences fs) i k d (sorted_rising incidence_total (flat_map incidences_of fs)) gt lk)) (nat_list_cmp_total.antisymm (get_or (incidences fs) i d).0 (get_or (incidences fs) k d).0 ∙ ap ordering_reverse less))
    | inr le ↦ let e : k ≡ i = omega (arith, ge, le) in absurd (tied (face_cmp (get_or (incidences fs) i d).0 (get_or (incidences fs) i d).0) (tied_itself nat_list_cmp_total (get_or (incidences fs) i d).0) (sym (ap (λ j. face_cmp (get_or (incidences fs) j d).0 (get_or (incidences fs) i d).0) e) ∙ less))
  ]
]
  where
    never : (o : Ordering) → is_le o ≡ true → o ≡ Greater → ⊥
    never o h g = clash {P = ⊥} (is_le o) h (ap is_le g)

    tied : (o : Ordering) → o ≡ Equal → o ≡ Less → ⊥
    tied o e g = clash {P = ⊥} (is_eq o) (ap is_eq e) (ap is_eq g)

-- ---- the tests

pub closed_at : (fs : List (List ℕ)) (items : List (List ℕ × ℕ)) (n : ℕ) → items ≡ incidences fs → length items ≤ n → ((k : ℕ) → k < n → count fs (get_or items k ([], 0)).0 ≡ 2) → Closed fs
closed_at fs items n e l h = record {
  two = λ r g.
      let p : (k : ℕ) × (k < length (incidences fs)) × ((get_or (incidences fs) k ([], 0)).0 ≡ r) = incidence_place fs r ([], 0) g in
      ap (count fs) (sym p.2 ∙ ap (λ (xs : List (List ℕ × ℕ)). (get_or xs p.0 ([], 0)).0) (sym e)) ∙ h p.0 (omega (arith, p.1, l, ap length e));
}

pub least_at : (fs : List (List ℕ)) (items : List (List ℕ × ℕ)) (i : ℕ) (s : List ℕ × ℕ) (n : ℕ) → items ≡ incidences fs → i < length items → s ≡ get_or items i s → n ≡ count fs s.0 → n ≢ 2 → ((k : ℕ) → k < i → count fs (get_or items k ([], 0)).0 ≡ 2) → IsLeastOther fs s.0 n
least_at fs items i s n e l at c o h =
    let li : i < length (incidences fs) = omega (arith, l, ap length e) in
    let a : s ≡ get_or (incidences fs) i s = at ∙ ap (λ xs. get_or xs i s) e in
    record {
      is = let P : List ℕ × ℕ → Type 0 = λ t. IsRidge fs t.0 in subst P (sym a) (incidence_ridge fs i s li);
      counted = sym c;
      other = o;
      least = λ r g less.
          let p : (k : ℕ) × (k < length (incidences fs)) × ((get_or (incidences fs) k s).0 ≡ r) = incidence_place fs r s g in
          let before : p.0 < i = earlier fs i p.0 s li p.1 ((λ j. face_cmp (p.2 j) (sym a j).0) ∙ less) in
          ap (count fs) (sym p.2 ∙ ap (λ t. t.0) (get_or_default (incidences fs) p.0 s ([], 0) p.1) ∙ ap (λ (xs : List (List ℕ × ℕ)). (get_or xs p.0 ([], 0)).0) (sym e)) ∙ h p.0 before;
    }

pub thin_at : (fs : List (List ℕ)) (items : List (List ℕ × ℕ)) (n : ℕ) → items ≡ incidences fs → length items ≤ n → ((k : ℕ) → k < n → count fs (get_or items k ([], 0)).0 ≤ 2) → Thin fs
thin_at fs items n e l h = record {
  at_most = λ r g.
      let p : (k : ℕ) × (k < length (incidences fs)) × ((get_or (incidences fs) k ([], 0)).0 ≡ r) = incidence_place fs r ([], 0) g in
      let P : List ℕ → Type 0 = λ m. count fs m ≤ 2 in
      subst P (ap (λ (xs : List (List ℕ × ℕ)). (get_or xs p.0 ([], 0)).0) e ∙ p.2) (h p.0 (omega (arith, p.1, l, ap length e)));
}

pub not_thin : (fs : List (List ℕ)) (items : List (List ℕ × ℕ)) (i : ℕ) (s : List ℕ × ℕ) → items ≡ incidences fs → i < length items → s ≡ get_or items i s → 2 < count fs s.0 → Thin fs → ⊥
not_thin fs items i s e l at more thin =
    let a : s ≡ get_or (incidences fs) i s = at ∙ ap (λ xs. get_or xs i s) e in
    let g : IsRidge fs s.0 = let P : List ℕ × ℕ → Type 0 = λ t. IsRidge fs t.0 in subst P (sym a) (incidence_ridge fs i s (omega (arith, l, ap length e))) in
    absurd (omega (arith, thin.at_most s.0 g, more))

-- one more incidence whose ridge passes
pub passes_more : (P : ℕ → Type 0) (fs : List (List ℕ)) (items : List (List ℕ × ℕ)) (i : ℕ) (s : List ℕ × ℕ) → i < length items → s ≡ get_or items i s → P (count fs s.0) → ((k : ℕ) → k < i → P (count fs (get_or items k ([], 0)).0)) → (k : ℕ) → k < i + 1 → P (count fs (get_or items k ([], 0)).0)
passes_more P fs items i s l at here h k lk = elim (cases_lt k i) [
  | inl lt ↦ h k lt
  | inr ge ↦
      let e : i ≡ k = omega (arith, lk, ge) in
      subst P (ap (λ t. count fs t.0) (at ∙ get_or_default items i s ([], 0) l) ∙ ap (λ j. count fs (get_or items j ([], 0)).0) e) here
]

-- the run of an incidence, as it is shown
pub run_again : (items shown run : List (List ℕ × ℕ)) (r : List ℕ) → IsStrictlySortedBy incidence_cmp items → shown ≡ items → run ≡ run_of shown r → IsRun run
run_again items shown run r s e er = let P : List (List ℕ × ℕ) → Type 0 = λ xs. IsRun xs in subst P (sym (er ∙ ap (λ xs. run_of xs r) e)) (run_made items r s)

pub run_counts : (k : ComplexView) (items walked shown run : List (List ℕ × ℕ)) (i : ℕ) (s : List ℕ × ℕ) → IsComplex k → items ≡ incidences k.facets → walked ≡ items → shown ≡ items → i < length walked → s ≡ get_or walked i s → run ≡ run_of shown s.0 → length run ≡ count k.facets s.0
run_counts k items walked shown run i s c e ew es l at er =
    let a : s ≡ get_or (incidences k.facets) i s = at ∙ ap (λ xs. get_or xs i s) (ew ∙ e) in
    let g : IsRidge k.facets s.0 = let P : List ℕ × ℕ → Type 0 = λ t. IsRidge k.facets t.0 in subst P (sym a) (incidence_ridge k.facets i s (omega (arith, l, ap length ew, ap length e))) in
    ap length (er ∙ ap (λ xs. run_of xs s.0) (es ∙ e)) ∙ count_run k s.0 c g

-- the last incidence of a run
pub run_last : (xs : List (List ℕ × ℕ)) (r : Option (Bor (List ℕ × ℕ))) (b : Bor (List ℕ × ℕ)) (label : ℕ) → IsRun xs → option_copied r ≡ slice_get xs (length xs - 1) → r ≡ Some b → b.now.1 ≡ label → length xs ≤ label + 1
run_last [] r b label run e is at = omega arith
run_last (x ∷ xs) r b label run e is at =
    let f : Some b.now ≡ Some (get_or (x ∷ xs) (length xs) x) = sym (ap option_copied is) ∙ e ∙ ap (slice_get (x ∷ xs)) last ∙ got (x ∷ xs) (length xs) x (omega arith) in
    let n : length xs ≤ (get_or (x ∷ xs) (length xs) x).1 = run_short (x ∷ xs) (length xs) x run (omega arith) in
    let m : b.now.1 ≡ (get_or (x ∷ xs) (length xs) x).1 = ap (λ (o : Option (List ℕ × ℕ)). label_in o) f in
    omega (arith, n, m, at)
  where
    last : length (x ∷ xs) - 1 ≡ length xs
    last = omega arith

    got : (ys : List (List ℕ × ℕ)) (i : ℕ) (d : List ℕ × ℕ) → i < length ys → slice_get ys i ≡ Some (get_or ys i d)
    got [] i d l = absurd (omega (arith, l))
    got (y ∷ ys) zero d l = refl
    got (y ∷ ys) (suc i) d l = got ys i d (omega arith)

    label_in : Option (List ℕ × ℕ) → ℕ
    label_in None = 0
    label_in (Some s) = s.1
