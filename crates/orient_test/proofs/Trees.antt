-- Facets that are reached one after another.
use Rattle.std.proofs.Common.{◌≡◌, ℕ, zero, suc, ◌+◌, ◌<◌, ◌≤◌, Bool, true, false, not, nat_eq, cond, if◌then◌else◌, ◌||◌, filter, is_some, List, [], ◌∷◌, ◌++◌, length, Option, None, Some, sym, ◌∙◌, ap, refl, subst, arith, inl, inr, length-append}
use mathlib.Core.Bool.{beq}
use Rattle.std.specs.BTreeMap.{BTreeMap, get, is_at}
use Rattle.std.specs.Map.{lookup}
use Rattle.std.specs.Ordering.{is_eq}
use Rattle.std.specs.Cmp.Lexicographic.{pointwise, texts_ties}
use Rattle.std.proofs.lemmas.Bool.{cases_lt}
use Rattle.complex_core.specs.Labels.{face_cmp}
use Rattle.complex_core.specs.Complexes.{is_facet}
use Rattle.complex_core.proofs.Laws.{same_sets_is, same_set_itself}
use Rattle.orient_test.specs.declared.search.Reached.{Reached}
use Rattle.orient_test.specs.Signs.{times}
use Rattle.orient_test.specs.Walks.{Step, IsStep, turn}
use Rattle.orient_test.specs.Spreads.{at, either, given, IsFew, IsNeighbour, CameFrom, IsTree, ComeEarlier, Contradicts, IsPlaced, IsCrossed}
use Rattle.orient_test.proofs.Chains.{step_back, is_back, turn_back}
use Rattle.complex_core.proofs.SubsetLists.{two, clash}

no_one : Reached
no_one = record { facet = []; turned = false; from = 0 }

pub some_is : {A : Type 0} (a b : A) → Some a ≡ Some b → a ≡ b
some_is {A} a b e = ap (λ (o : Option A). of o) e
  where
    of : Option A → A
    of None = a
    of (Some c) = c

pub none_some : {A : Type 0} {P : Type 0} (a : A) → None ≡ Some a → P
none_some {A} {P} a e = clash {P = P} (of (Some a)) refl (ap of (sym e))
  where
    of : Option A → Bool
    of None = false
    of (Some c) = true

-- ---- places

pub at_front : (rs qs : List Reached) (i : ℕ) → i < length rs → at (rs ++ qs) i ≡ at rs i
at_front [] qs i l = absurd (omega (arith, l))
at_front (r ∷ rs) qs zero l = refl
at_front (r ∷ rs) qs (suc i) l = at_front rs qs i (omega arith)

at_end : (rs : List Reached) (r : Reached) → at (rs ++ r ∷ []) (length rs) ≡ r
at_end [] r = refl
at_end (q ∷ rs) r = at_end rs r

-- ---- signs that were given

pub given_push : (rs : List Reached) (r : Reached) (f : List ℕ) → given (rs ++ r ∷ []) f ≡ (if pointwise nat_eq r.facet f then Some r.turned else given rs f)
given_push [] r f = refl
given_push (q ∷ qs) r f = ap (λ o. either o (if pointwise nat_eq q.facet f then Some q.turned else None)) (given_push qs r f) ∙ split (pointwise nat_eq r.facet f)
  where
    split : (b : Bool) → either (if b then Some r.turned else given qs f) (if pointwise nat_eq q.facet f then Some q.turned else None) ≡ (if b then Some r.turned else given (q ∷ qs) f)
    split true = refl
    split false = refl

pub given_new : (rs : List Reached) (r : Reached) → given (rs ++ r ∷ []) r.facet ≡ Some r.turned
given_new rs r = given_push rs r r.facet ∙ ap (λ b. if b then Some r.turned else given rs r.facet) (same_set_itself r.facet)

given_keeps : (rs : List Reached) (r : Reached) (f : List ℕ) (c : Bool) → given rs r.facet ≡ None → given rs f ≡ Some c → given (rs ++ r ∷ []) f ≡ Some c
given_keeps rs r f c n e = elim (two (pointwise nat_eq r.facet f)) [
  | inl h ↦ none_some c (sym n ∙ ap (given rs) (same_sets_is r.facet f h) ∙ e)
  | inr h ↦ given_push rs r f ∙ ap (λ b. if b then Some r.turned else given rs f) h ∙ e
]

pub given_place : (rs : List Reached) (f : List ℕ) (c : Bool) → given rs f ≡ Some c → (i : ℕ) × (i < length rs) × ((at rs i).facet ≡ f) × ((at rs i).turned ≡ c)
given_place [] f c e = none_some c e
given_place (q ∷ qs) f c e = go (given_place qs f c) (given qs f) refl e
  where
    here : (b : Bool) → pointwise nat_eq q.facet f ≡ b → (if b then Some q.turned else None) ≡ Some c → (i : ℕ) × (i < length (q ∷ qs)) × ((at (q ∷ qs) i).facet ≡ f) × ((at (q ∷ qs) i).turned ≡ c)
    here true h g = (0, omega arith, same_sets_is q.facet f h, some_is q.turned c g)
    here false h g = none_some c g

    go : (given qs f ≡ Some c → (i : ℕ) × (i < length qs) × ((at qs i).facet ≡ f) × ((at qs i).turned ≡ c)) → (o : Option Bool) → given qs f ≡ o → either o (if pointwise nat_eq q.facet f then Some q.turned else None) ≡ Some c → (i : ℕ) × (i < length (q ∷ qs)) × ((at (q ∷ qs) i).facet ≡ f) × ((at (q ∷ qs) i).turned ≡ c)
    go rest None h g = here (pointwise nat_eq q.facet f) refl g
    go rest (Some d) h g = let p : (i : ℕ) × (i < length qs) × ((at qs i).facet ≡ f) × ((at qs i).turned ≡ c) = rest (h ∙ g) in (suc p.0, omega (arith, p.1), p.2, p.3)

-- ---- how many

module _ (p q : List ℕ → Bool) (h : (f : List ℕ) → q f ≡ true → p f ≡ true) where
  fewer_pass : (fs : List (List ℕ)) → length (filter q fs) ≤ length (filter p fs)
  fewer_pass [] = omega arith
  fewer_pass (f ∷ fs) = elim (two (q f)) [
    | inl e ↦ let a : length (filter q (f ∷ fs)) ≡ length (filter q fs) + 1 = ap (λ b. length (cond b (f ∷ filter q fs) (filter q fs))) e ∙ (omega arith) in
        let b : length (filter p (f ∷ fs)) ≡ length (filter p fs) + 1 = ap (λ b. length (cond b (f ∷ filter p fs) (filter p fs))) (h f e) ∙ (omega arith) in
        omega (arith, a, b, fewer_pass fs)
    | inr e ↦ let a : length (filter q (f ∷ fs)) ≡ length (filter q fs) = ap (λ b. length (cond b (f ∷ filter q fs) (filter q fs))) e in
        omega (arith, a, longer (p f) f fs, fewer_pass fs)
  ]
    where
      longer : (b : Bool) (f : List ℕ) (fs : List (List ℕ)) → length (filter p fs) ≤ length (cond b (f ∷ filter p fs) (filter p fs))
      longer true f fs = omega arith
      longer false f fs = omega arith

  -- where one passes the first test alone
  one_less : (fs : List (List ℕ)) (g : List ℕ) → is_facet fs g ≡ true → p g ≡ true → q g ≡ false → length (filter q fs) + 1 ≤ length (filter p fs)
  one_less [] g t a b = clash true refl (sym t)
  one_less (f ∷ fs) g t a b = elim (two (pointwise nat_eq f g)) [
    | inl e ↦
        let m : length (filter q (f ∷ fs)) ≡ length (filter q fs) = ap (λ c. length (cond c (f ∷ filter q fs) (filter q fs))) (ap q (same_sets_is f g e) ∙ b) in
        let n : length (filter p (f ∷ fs)) ≡ length (filter p fs) + 1 = ap (λ c. length (cond c (f ∷ filter p fs) (filter p fs))) (ap p (same_sets_is f g e) ∙ a) ∙ (omega arith) in
        omega (arith, m, n, fewer_pass fs)
    | inr e ↦ step (q f) refl (one_less fs g (sym (ap (λ c. c || is_facet fs g) e) ∙ t) a b)
  ]
    where
      step : (c : Bool) → q f ≡ c → length (filter q fs) + 1 ≤ length (filter p fs) → length (cond (q f) (f ∷ filter q fs) (filter q fs)) + 1 ≤ length (cond (p f) (f ∷ filter p fs) (filter p fs))
      step true e l =
          let m : length (cond (q f) (f ∷ filter q fs) (filter q fs)) ≡ length (filter q fs) + 1 = ap (λ c. length (cond c (f ∷ filter q fs) (filter q fs))) e ∙ (omega arith) in
          let n : length (cond (p f) (f ∷ filter p fs) (filter p fs)) ≡ length (filter p fs) + 1 = ap (λ c. length (cond c (f ∷ filter p fs) (filter p fs))) (h f e) ∙ (omega arith) in
          omega (arith, m, n, l)
      step false e l =
          let m : length (cond (q f) (f ∷ filter q fs) (filter q fs)) ≡ length (filter q fs) = ap (λ c. length (cond c (f ∷ filter q fs) (filter q fs))) e in
          omega (arith, m, longer_one (p f), l)
        where
          longer_one : (b : Bool) → length (filter p fs) ≤ length (cond b (f ∷ filter p fs) (filter p fs))
          longer_one true = omega arith
          longer_one false = omega arith

pub few_push : (fs : List (List ℕ)) (rs : List Reached) (r : Reached) → is_facet fs r.facet ≡ true → given rs r.facet ≡ None → IsFew fs rs → IsFew fs (rs ++ r ∷ [])
few_push fs rs r t n few =
    let less : length (filter (λ f. not (is_some (given (rs ++ r ∷ []) f))) fs) + 1 ≤ length (filter (λ f. not (is_some (given rs f))) fs) = one_less (λ f. not (is_some (given rs f))) (λ f. not (is_some (given (rs ++ r ∷ []) f))) still fs r.facet t (ap (λ o. not (is_some o)) n) (ap (λ o. not (is_some o)) (given_new rs r)) in
    omega (arith, less, few, length-append rs (r ∷ []))
  where
    still : (f : List ℕ) → not (is_some (given (rs ++ r ∷ []) f)) ≡ true → not (is_some (given rs f)) ≡ true
    still f e = elim (two (pointwise nat_eq r.facet f)) [
      | inl s ↦ clash true refl (sym e ∙ ap (λ o. not (is_some o)) (given_push rs r f ∙ ap (λ b. if b then Some r.turned else given rs f) s))
      | inr s ↦ ap (λ o. not (is_some o)) (sym (given_push rs r f ∙ ap (λ b. if b then Some r.turned else given rs f) s)) ∙ e
    ]

pub few_start : (fs : List (List ℕ)) (start : List ℕ) (rs : List Reached) → is_facet fs start ≡ true → rs ≡ (record { facet = start; turned = false; from = 0 }) ∷ [] → IsFew fs rs
few_start fs start rs t e = let P : List Reached → Type 0 = λ qs. IsFew fs qs in subst P (sym e) (few_push fs [] (record { facet = start; turned = false; from = 0 }) t refl (omega (arith, all fs)))
  where
    all : (gs : List (List ℕ)) → length (filter (λ f. not (is_some {T = Bool} None)) gs) ≤ length gs
    all [] = omega arith
    all (g ∷ gs) = omega (arith, all gs)

-- ---- trees

pub tree_facet : (fs : List (List ℕ)) (rs : List Reached) (i : ℕ) → IsTree fs rs → i < length rs → is_facet fs (at rs i).facet ≡ true
tree_facet fs rs zero t l = t.begins
tree_facet fs rs (suc i) t l = (t.came (suc i) (omega arith) l).is.from_there

pub tree_earlier : (fs : List (List ℕ)) (rs : List Reached) → IsTree fs rs → ComeEarlier rs
tree_earlier fs rs t i low high = (t.came i low high).earlier

came_still : (fs : List (List ℕ)) (rs : List Reached) (r : Reached) (i : ℕ) → i < length rs → CameFrom fs rs i → CameFrom fs (rs ++ r ∷ []) i
came_still fs rs r i l c =
    let same : at (rs ++ r ∷ []) i ≡ at rs i = at_front rs (r ∷ []) i l in
    let back : at (rs ++ r ∷ []) (at rs i).from ≡ at rs (at rs i).from = at_front rs (r ∷ []) (at rs i).from (omega (arith, c.earlier, l)) in
    let P : Reached → Type 0 = λ q. IsStep fs q.facet c.step in
    let from : (at (rs ++ r ∷ []) i).from ≡ (at rs i).from = ap (λ (q : Reached). q.from) same in
    let both : at (rs ++ r ∷ []) (at (rs ++ r ∷ []) i).from ≡ at rs (at rs i).from = ap (at (rs ++ r ∷ [])) from ∙ back in
    record {
      earlier = omega (arith, from, c.earlier);
      step = c.step;
      is = subst P (sym same) c.is;
      to = c.to ∙ sym (ap (λ (q : Reached). q.facet) both);
      turned = ap (λ (q : Reached). q.turned) same ∙ c.turned ∙ sym (λ j. times (both j).turned (turn (same j).facet c.step));
    }

-- one more facet, reached from one that had been
pub tree_push : (fs : List (List ℕ)) (rs : List Reached) (r : Reached) (step : Step) → IsTree fs rs → r.from < length rs → IsStep fs (at rs r.from).facet step → step.to ≡ r.facet → r.turned ≡ times (at rs r.from).turned (turn (at rs r.from).facet step) → IsTree fs (rs ++ r ∷ [])
tree_push fs rs r step t l i to turned = record {
  some = omega (arith, t.some, length-append rs (r ∷ []));
  begins = ap (λ (q : Reached). is_facet fs q.facet) (at_front rs (r ∷ []) 0 t.some) ∙ t.begins;
  plain = ap (λ (q : Reached). q.turned) (at_front rs (r ∷ []) 0 t.some) ∙ t.plain;
  came = λ j low high. elim (cases_lt j (length rs)) [
    | inl lt ↦ came_still fs rs r j lt (t.came j low lt)
    | inr ge ↦ let e : length rs ≡ j = omega (arith, ge, high, length-append rs (r ∷ [])) in let P : ℕ → Type 0 = λ v. CameFrom fs (rs ++ r ∷ []) v in subst P e last
  ];
}
  where
    own : at (rs ++ r ∷ []) (length rs) ≡ r
    own = at_end rs r

    from : at (rs ++ r ∷ []) (at (rs ++ r ∷ []) (length rs)).from ≡ at rs r.from
    from = ap (λ (q : Reached). at (rs ++ r ∷ []) q.from) own ∙ at_front rs (r ∷ []) r.from l

    back : IsStep fs r.facet (step_back (at rs r.from).facet step)
    back = let P : List ℕ → Type 0 = λ m. IsStep fs m (step_back (at rs r.from).facet step) in subst P to (is_back fs (at rs r.from).facet step i)

    last : CameFrom fs (rs ++ r ∷ []) (length rs)
    last = record {
      earlier = omega (arith, ap (λ (q : Reached). q.from) own, l);
      step = step_back (at rs r.from).facet step;
      is = let P : Reached → Type 0 = λ q. IsStep fs q.facet (step_back (at rs r.from).facet step) in subst P (sym own) back;
      to = sym (ap (λ (q : Reached). q.facet) from);
      turned = ap (λ (q : Reached). q.turned) own ∙ turned ∙ ap (times (at rs r.from).turned) (sym (turn_back (at rs r.from).facet step) ∙ ap (λ m. turn m (step_back (at rs r.from).facet step)) to) ∙ sym (λ j. times (from j).turned (turn (own j).facet (step_back (at rs r.from).facet step)));
    }

pub tree_one : (fs : List (List ℕ)) (start : List ℕ) (rs : List Reached) → is_facet fs start ≡ true → rs ≡ (record { facet = start; turned = false; from = 0 }) ∷ [] → IsTree fs rs
tree_one fs start rs t e = let P : List Reached → Type 0 = λ qs. IsTree fs qs in subst P (sym e) (record { some = omega arith; begins = t; plain = refl; came = λ i low high. absurd (omega (arith, low, high)) })

-- ---- steps

nothing_more : (rs : List Reached) → rs ≡ rs ++ []
nothing_more [] = refl
nothing_more (r ∷ rs) = ap (λ qs. r ∷ qs) (nothing_more rs)

-- what a neighbour's sign has to be
forced_by : (fs : List (List ℕ)) (rs : List Reached) (next label : ℕ) (f g : List ℕ) (turns : Bool) (now : List Reached) → f ≡ (at rs next).facet → IsNeighbour fs f label g turns → given now g ≡ Some (times (at rs next).turned turns) → (s : Step) → IsStep fs (at rs next).facet s → s.left ≡ label → given now s.to ≡ Some (times (at rs next).turned (turn (at rs next).facet s))
forced_by fs rs next label f g turns now e n h s i l =
    let o : (s.to ≡ g) × (turn f s ≡ turns) = n.only s (let P : List ℕ → Type 0 = λ m. IsStep fs m s in subst P (sym e) i) l in
    ap (given now) o.0 ∙ h ∙ ap (λ b. Some (times (at rs next).turned b)) (sym o.1 ∙ ap (λ m. turn m s) e)

pub crossed_known : (fs : List (List ℕ)) (rs : List Reached) (next label : ℕ) (f g : List ℕ) (turns : Bool) (places : List ℕ → Option ℕ) (found : ℕ) → IsTree fs rs → f ≡ (at rs next).facet → IsNeighbour fs f label g turns → IsPlaced rs places → places g ≡ Some found → (at rs found).turned ≡ times (at rs next).turned turns → IsCrossed fs rs rs next label
crossed_known fs rs next label f g turns places found t e n p h same = record {
  tree = t;
  more = [];
  grows = nothing_more rs;
  keeps = λ v c u. u;
  few = λ h. h;
  forced = forced_by fs rs next label f g turns rs e n ((p.there g found h).2 ∙ ap Some same);
}

pub contradicted : (fs : List (List ℕ)) (rs : List Reached) (next label : ℕ) (f g : List ℕ) (turns : Bool) (places : List ℕ → Option ℕ) (found : ℕ) → f ≡ (at rs next).facet → IsNeighbour fs f label g turns → IsPlaced rs places → places g ≡ Some found → (at rs found).turned ≡ not (times (at rs next).turned turns) → (found < length rs) × (rs ≡ rs) × Contradicts fs rs next found
contradicted fs rs next label f g turns places found e n p h other =
    let t : (found < length rs) × ((at rs found).facet ≡ g) × (given rs g ≡ Some (at rs found).turned) = p.there g found h in (
      t.0,
      refl,
      record {
        step = n.step;
        is = let P : List ℕ → Type 0 = λ m. IsStep fs m n.step in subst P e n.is;
        to = n.to ∙ sym t.1;
        other = other ∙ ap (λ b. not (times (at rs next).turned b)) (sym n.turned ∙ ap (λ m. turn m n.step) e);
      },
    )

pub crossed_new : (fs : List (List ℕ)) (rs now : List Reached) (next label : ℕ) (f g : List ℕ) (turns forced : Bool) (places : List ℕ → Option ℕ) → IsTree fs rs → next < length rs → f ≡ (at rs next).facet → IsNeighbour fs f label g turns → IsPlaced rs places → places g ≡ None → forced ≡ times (at rs next).turned turns → now ≡ rs ++ (record { facet = g; turned = forced; from = next }) ∷ [] → IsCrossed fs rs now next label
crossed_new fs rs now next label f g turns forced places t l e n p h is grows =
    let P : List Reached → Type 0 = λ qs. IsCrossed fs rs qs next label in
    subst P (sym grows) (record {
      tree = tree_push fs rs r n.step t l (let Q : List ℕ → Type 0 = λ m. IsStep fs m n.step in subst Q e n.is) n.to (is ∙ ap (times (at rs next).turned) (sym n.turned ∙ ap (λ m. turn m n.step) e));
      more = r ∷ [];
      grows = refl;
      keeps = λ v c u. given_keeps rs r v c (p.absent g h) u;
      few = few_push fs rs r (let to : is_facet fs n.step.to ≡ true = n.is.to_there in ap (is_facet fs) (sym n.to) ∙ to) (p.absent g h);
      forced = forced_by fs rs next label f g turns (rs ++ r ∷ []) e n (given_new rs r ∙ ap Some is);
    })
  where
    r : Reached
    r = record { facet = g; turned = forced; from = next }

pub placed_new : (rs now : List Reached) (g : List ℕ) (forced : Bool) (next : ℕ) (places now_places : List ℕ → Option ℕ) → IsPlaced rs places → places g ≡ None → now ≡ rs ++ (record { facet = g; turned = forced; from = next }) ∷ [] → ((q : List ℕ) → now_places q ≡ cond (is_eq (face_cmp g q)) (Some (length rs)) (places q)) → IsPlaced now now_places
placed_new rs now g forced next places now_places p h grows u =
    let P : List Reached → Type 0 = λ qs. IsPlaced qs now_places in
    subst P (sym grows) (record {
      there = λ f i e. elim (two (pointwise nat_eq g f)) [
        | inl s ↦
            let v : length rs ≡ i = some_is (length rs) i (sym (u f ∙ ap (λ b. cond b (Some (length rs)) (places f)) (sym (texts_ties g f) ∙ s)) ∙ e) in
            let w : at (rs ++ r ∷ []) i ≡ r = ap (at (rs ++ r ∷ [])) (sym v) ∙ at_end rs r in
            (omega (arith, v, length-append rs (r ∷ [])), ap (λ (q : Reached). q.facet) w ∙ same_sets_is g f s, ap (given (rs ++ r ∷ [])) (sym (same_sets_is g f s)) ∙ given_new rs r ∙ ap (λ (q : Reached). Some q.turned) (sym w))
        | inr s ↦
            let o : (i < length rs) × ((at rs i).facet ≡ f) × (given rs f ≡ Some (at rs i).turned) = p.there f i (sym (u f ∙ ap (λ b. cond b (Some (length rs)) (places f)) (sym (texts_ties g f) ∙ s)) ∙ e) in
            let w : at (rs ++ r ∷ []) i ≡ at rs i = at_front rs (r ∷ []) i o.0 in
            (omega (arith, o.0, length-append rs (r ∷ [])), ap (λ (q : Reached). q.facet) w ∙ o.1, given_keeps rs r f (at rs i).turned (p.absent g h) o.2 ∙ ap (λ (q : Reached). Some q.turned) (sym w))
      ];
      absent = λ f e. elim (two (pointwise nat_eq g f)) [
        | inl s ↦ none_some (length rs) (sym e ∙ u f ∙ ap (λ b. cond b (Some (length rs)) (places f)) (sym (texts_ties g f) ∙ s))
        | inr s ↦ given_push rs r f ∙ ap (λ b. if b then Some forced else given rs f) s ∙ p.absent f (sym (u f ∙ ap (λ b. cond b (Some (length rs)) (places f)) (sym (texts_ties g f) ∙ s)) ∙ e)
      ];
    })
  where
    r : Reached
    r = record { facet = g; turned = forced; from = next }

pub placed_start : (rs now : List Reached) (g : List ℕ) (places now_places : List ℕ → Option ℕ) → rs ≡ [] → ((q : List ℕ) → places q ≡ None) → now ≡ rs ++ (record { facet = g; turned = false; from = 0 }) ∷ [] → ((q : List ℕ) → now_places q ≡ cond (is_eq (face_cmp g q)) (Some 0) (places q)) → IsPlaced now now_places
placed_start rs now g places now_places e none grows u = placed_new [] now g false 0 places now_places (record { there = λ f i h. none_some i (sym (none f) ∙ h); absent = λ f h. refl }) (none g) (grows ∙ ap (λ qs. qs ++ (record { facet = g; turned = false; from = 0 }) ∷ []) e) u

pub none_in : (m : BTreeMap (List ℕ) ℕ) → m.entries ≡ [] → (f : List ℕ) → get face_cmp m f ≡ None
none_in m e f = ap (λ es. lookup (is_at (face_cmp f)) es) e

-- ---- signs in code

pub other_sign : (a b : Bool) → not (beq a b) ≡ times a b
other_sign true true = refl
other_sign true false = refl
other_sign false true = refl
other_sign false false = refl

pub same_sign : (a t u : Bool) → beq a (not (beq t u)) ≡ true → a ≡ times t u
same_sign a t u e = is a (not (beq t u)) e ∙ other_sign t u
  where
    is : (b c : Bool) → beq b c ≡ true → b ≡ c
    is true true h = refl
    is true false h = clash true refl (sym h)
    is false true h = clash true refl (sym h)
    is false false h = refl

pub opposite_one : (a t u : Bool) → beq a (not (beq t u)) ≡ false → a ≡ not (times t u)
opposite_one a t u e = is a (not (beq t u)) e ∙ ap not (other_sign t u)
  where
    is : (b c : Bool) → beq b c ≡ false → b ≡ not c
    is true true h = h
    is true false h = refl
    is false true h = refl
    is false false h = sym h
