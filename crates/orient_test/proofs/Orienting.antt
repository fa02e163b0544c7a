-- From signs that are forced to an orientation.
use Rattle.std.proofs.Common.{◌≡◌, ℕ, suc, ◌+◌, ◌<◌, ◌≤◌, Bool, true, false, not, nat_eq, cond, if◌then◌else◌, ◌||◌, is_some, List, [], ◌∷◌, ◌++◌, length, map, take, get_or, Option, None, Some, sym, ◌∙◌, ap, refl, subst, arith, inl, inr}
use lib.IntN.{ℤ, pos, ◌+ℤ◌, neg_ℤ}
use Rattle.std.specs.List.{AllByRecursion}
use Rattle.std.specs.Ordering.{is_eq}
use Rattle.std.specs.Cmp.Lexicographic.{pointwise, texts_ties}
use Rattle.std.proofs.lemmas.Bool.{cases_lt}
use Rattle.std.proofs.lemmas.List.{take_more, get_or_default}
use Rattle.complex_core.specs.Labels.{face_cmp}
use Rattle.complex_core.specs.Complexes.{is_facet}
use Rattle.complex_core.proofs.Laws.{same_sets_is}
use Rattle.orient_test.specs.declared.search.Reached.{Reached}
use Rattle.orient_test.specs.Signs.{odd, times, position, induced, IsOrientation, Orientable, sign_of, turned, IsSign, OrientsBy, value, chosen}
use Rattle.orient_test.specs.Walks.{Step, IsStep, turn}
use Rattle.orient_test.specs.Spreads.{either, given, IsForced}
use Rattle.orient_test.proofs.Chains.{step_back, is_back, opposite_sign}
use Rattle.orient_test.proofs.Trees.{given_push, some_is, none_some}
use Rattle.complex_core.proofs.SubsetLists.{two, clash}

-- one more facet gets its sign
pub sign_step : (rs : List Reached) (i : ℕ) (r : Reached) (old now next : List ℕ → Option Bool) → i < length rs → r ≡ get_or rs i r → ((f : List ℕ) → now f ≡ either (given (take i rs) f) (old f)) → ((f : List ℕ) → next f ≡ cond (is_eq (face_cmp r.facet f)) (Some r.turned) (now f)) → (f : List ℕ) → next f ≡ either (given (take (i + 1) rs) f) (old f)
sign_step rs i r old now next l at_one so_far step f =
    step f
    ∙ (λ j. cond (sym (texts_ties r.facet f) j) (Some r.turned) (so_far f j))
    ∙ table (pointwise nat_eq r.facet f) (given (take i rs) f)
    ∙ ap (λ o. either o (old f)) (sym (given_push (take i rs) r f) ∙ ap (λ qs. given qs f) (ap (λ v. take i rs ++ v ∷ []) at_one ∙ sym (take_more rs i r l)))
  where
    table : (b : Bool) (o : Option Bool) → cond b (Some r.turned) (either o (old f)) ≡ either (if b then Some r.turned else o) (old f)
    table true o = refl
    table false o = refl

-- each sign of the facets before a position was given
abbrev pub Covers : List (List ℕ) → (List ℕ → Option Bool) → ℕ → Type 0
Covers fs signs n = (k : ℕ) → k < n → k < length fs → is_some (signs (get_or fs k [])) ≡ true

-- what spread from another facet is put over the signs so far
pub forced_more : (fs : List (List ℕ)) (rs : List Reached) (old now : List ℕ → Option Bool) → IsForced fs old → IsForced fs (given rs) → ((f : List ℕ) → now f ≡ either (given rs f) (old f)) → IsForced fs now
forced_more fs rs old now o n h f c s i e = go (given rs f) refl (given rs s.to) refl
  where
    go : (a : Option Bool) → given rs f ≡ a → (b : Option Bool) → given rs s.to ≡ b → now s.to ≡ Some (times c (turn f s))
    go (Some d) p b q =
        let same : d ≡ c = some_is d c (sym (h f ∙ ap (λ v. either v (old f)) p) ∙ e) in
        h s.to ∙ ap (λ v. either v (old s.to)) (n f d s i p) ∙ ap (λ v. Some (times v (turn f s))) same
    go None p (Some d) q = none_some (times d (turn s.to (step_back f s))) (sym p ∙ n s.to d (step_back f s) (is_back fs f s i) q)
    go None p None q = h s.to ∙ ap (λ v. either v (old s.to)) q ∙ o f c s i (sym (h f ∙ ap (λ v. either v (old f)) p) ∙ e)

pub covers_more : (fs : List (List ℕ)) (rs : List Reached) (old now : List ℕ → Option Bool) (n : ℕ) (start : List ℕ) → Covers fs old n → ((f : List ℕ) → now f ≡ either (given rs f) (old f)) → given rs start ≡ Some false → start ≡ get_or fs n start → n < length fs → Covers fs now (n + 1)
covers_more fs rs old now n start c h g at_one ln k l m = elim (cases_lt k n) [
  | inl lt ↦ ap is_some (h (get_or fs k [])) ∙ kept (given rs (get_or fs k [])) (old (get_or fs k [])) (c k lt m)
  | inr ge ↦ ap (λ v. is_some (now v)) (ap (λ j. get_or fs j []) (omega (arith, l, ge)) ∙ sym (at_one ∙ get_or_default fs n start [] ln)) ∙ ap is_some (h start ∙ ap (λ v. either v (old start)) g)
]
  where
    kept : (a b : Option Bool) → is_some b ≡ true → is_some (either a b) ≡ true
    kept None b e = e
    kept (Some d) b e = refl

pub covers_known : (fs : List (List ℕ)) (signs : List ℕ → Option Bool) (n : ℕ) (start : List ℕ) → Covers fs signs n → is_some (signs start) ≡ true → start ≡ get_or fs n start → n < length fs → Covers fs signs (n + 1)
covers_known fs signs n start c g at_one ln k l m = elim (cases_lt k n) [
  | inl lt ↦ c k lt m
  | inr ge ↦ ap (λ v. is_some (signs v)) (ap (λ j. get_or fs j []) (omega (arith, l, ge)) ∙ sym (at_one ∙ get_or_default fs n start [] ln)) ∙ g
]

-- ---- the orientation

module _ (fs : List (List ℕ)) (signs : List ℕ → Option Bool) (n : ℕ) (forced : IsForced fs signs) (covers : Covers fs signs n) (all : length fs ≤ n) where
  abbrev sign : List ℕ → Bool
  sign f = chosen (signs f)

  place_in : (gs : List (List ℕ)) (f : List ℕ) → is_facet gs f ≡ true → (k : ℕ) × (k < length gs) × (get_or gs k [] ≡ f)
  place_in [] f t = clash true refl (sym t)
  place_in (g ∷ gs) f t = elim (two (pointwise nat_eq g f)) [
    | inl e ↦ (0, omega arith, same_sets_is g f e)
    | inr e ↦ let p : (k : ℕ) × (k < length gs) × (get_or gs k [] ≡ f) = place_in gs f (sym (ap (λ b. b || is_facet gs f) e) ∙ t) in (suc p.0, omega (arith, p.1), p.2)
  ]

  is_chosen : (o : Option Bool) → is_some o ≡ true → o ≡ Some (chosen o)
  is_chosen None h = clash true refl (sym h)
  is_chosen (Some c) h = refl

  has_sign : (f : List ℕ) → is_facet fs f ≡ true → signs f ≡ Some (sign f)
  has_sign f t =
      let p : (k : ℕ) × (k < length fs) × (get_or fs k [] ≡ f) = place_in fs f t in
      is_chosen (signs f) (ap (λ m. is_some (signs m)) (sym p.2) ∙ covers p.0 (omega (arith, p.1, all)) p.1)

  pub is_orientation : IsOrientation fs (λ f. chosen (signs f))
  is_orientation = record {
    opposite = λ f g x y t u fx gy n r c.
        let s : Step = record { to = g; left = x; taken = y } in
        let i : IsStep fs f (record { to = g; left = x; taken = y }) = record { from_there = t; to_there = u; left_used = fx; taken_used = gy; other = n; shared = r; two = c } in
        let next : sign g ≡ times (sign f) (turn f (record { to = g; left = x; taken = y })) = ap chosen (forced f (sign f) (record { to = g; left = x; taken = y }) i (has_sign f t)) in
        opposite_sign (sign f) (sign g) (odd (position f x)) (odd (position g y)) next;
  }

  pub is_orientable : Orientable fs
  is_orientable = record { signs = sign; is = is_orientation }

  along : (gs : List (List ℕ)) (f : List ℕ) → is_facet gs f ≡ true → sign_of gs (map (λ g. value (chosen (signs g))) gs) f ≡ value (sign f)
  along [] f t = clash true refl (sym t)
  along (g ∷ gs) f t = elim (two (pointwise nat_eq g f)) [
    | inl e ↦ ap (λ b. cond b (value (sign g)) (sign_of gs (map (λ g. value (chosen (signs g))) gs) f)) e ∙ ap (λ m. value (sign m)) (same_sets_is g f e)
    | inr e ↦ ap (λ b. cond b (value (sign g)) (sign_of gs (map (λ g. value (chosen (signs g))) gs) f)) e ∙ along gs f (sym (ap (λ b. b || is_facet gs f) e) ∙ t)
  ]

  turned_value : (b c : Bool) → cond c (neg_ℤ (value b)) (value b) ≡ value (times b c)
  turned_value true true = refl
  turned_value true false = refl
  turned_value false true = refl
  turned_value false false = refl

  sum_from : (p q : Bool) → p ≡ not q → value p +ℤ value q ≡ pos 0
  sum_from true true e = clash true refl e
  sum_from true false e = refl
  sum_from false true e = refl
  sum_from false false e = clash true refl (sym e)

  many : (gs : List (List ℕ)) → length (map (λ g. value (chosen (signs g))) gs) ≡ length gs
  many [] = refl
  many (g ∷ gs) = omega (arith, many gs)

  unit : (b : Bool) → IsSign (value b)
  unit true = inr refl
  unit false = inl refl

  units : (gs : List (List ℕ)) → AllByRecursion IsSign (map (λ g. value (chosen (signs g))) gs)
  units [] = tt
  units (g ∷ gs) = (unit (sign g), units gs)

  pub orients : (items : List ℤ) → items ≡ map (λ g. value (chosen (signs g))) fs → OrientsBy fs items
  orients items e = let P : List ℤ → Type 0 = λ vs. OrientsBy fs vs in subst P (sym e) (record {
    many = many fs;
    units = units fs;
    adds = λ f g x y t u fx gy n r c.
        (λ i. turned (along fs f t i) (position f x) +ℤ turned (along fs g u i) (position g y))
        ∙ (λ i. turned_value (sign f) (odd (position f x)) i +ℤ turned_value (sign g) (odd (position g y)) i)
        ∙ sum_from (induced sign f x) (induced sign g y) (is_orientation.opposite f g x y t u fx gy n r c);
  })
