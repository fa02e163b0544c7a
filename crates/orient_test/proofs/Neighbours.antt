-- The facets at a ridge of two facets.
use Rattle.std.proofs.Common.{◌≡◌, ◌≢◌, ℕ, zero, suc, ◌%◌, ◌<◌, ◌≤◌, Bool, true, false, not, nat_eq, cond, if◌then◌else◌, ◌⊎◌, ◌||◌, ◌&&◌, List, [], ◌∷◌, length, map, get_or, sym, ◌∙◌, ap, refl, subst, arith, inl, inr}
use Rattle.std.specs.List.{AllByRecursion, flat_map}
use Rattle.std.specs.List.Sorted.{IsStrictlySortedBy}
use Rattle.std.specs.Ordering.{nat_cmp, is_eq}
use Rattle.std.specs.Cmp.{first_so, second_so}
use Rattle.std.specs.Cmp.Lexicographic.{pointwise, nat_list_cmp_total}
use Rattle.std.specs.declared.cmp.Ordering.TheVariants.{Less}
use Rattle.std.proofs.lemmas.Cmp.{tied_itself}
use Rattle.std.proofs.lemmas.List.Kept.{IsStrictlySortedBy-filter}
use Rattle.complex_core.specs.Labels.{has, holds, with, without, face_cmp}
use Rattle.complex_core.specs.Complexes.{ComplexView, IsComplex, over, is_facet}
use Rattle.complex_core.proofs.Sets.{above_head}
use Rattle.complex_core.proofs.Laws.{has-with, same_sets_is, same_set_itself, listed-filter, nat_eq_is, nat_eq_same, or_left, or_right}
use Rattle.pseudo_test.specs.Ridges.{IsRidge, count}
use Rattle.pseudo_test.specs.Incidences.{incidence_cmp, incidences_of, incidences, facet_of, run_of}
use Rattle.pseudo_test.proofs.Subsets.{it_is, holds_without}
use Rattle.pseudo_test.proofs.Incident.{run_is, set, dropped, lacks, rising_incidences}
use Rattle.pseudo_test.proofs.Spreading.{with_can}
use Rattle.orient_test.specs.Signs.{odd, times, position}
use Rattle.orient_test.specs.Walks.{Step, IsStep, turn}
use Rattle.orient_test.specs.Spreads.{IsNeighbour, NoNeighbour}
use Rattle.complex_core.proofs.SubsetLists.{two, clash}
use Rattle.complex_core.proofs.Members.{without_gone, with_back}
use Rattle.complex_core.proofs.SetLists.{pure_at}

-- a step over a ridge reaches one of the facets over it, but not the one where it began
stepped : (fs : List (List ℕ)) (f : List ℕ) (s : Step) → IsStep fs f s → is_facet (over fs (without f s.left)) s.to ≡ true
stepped fs f s i = listed-filter (λ h. holds h (without f s.left)) fs s.to ∙ (λ j. i.to_there j && (ap (holds s.to) i.shared ∙ holds_without s.to s.taken) j)

own_over : (fs : List (List ℕ)) (f : List ℕ) (x : ℕ) → is_facet fs f ≡ true → is_facet (over fs (without f x)) f ≡ true
own_over fs f x t = listed-filter (λ h. holds h (without f x)) fs f ∙ (λ j. t j && holds_without f x j)

-- one of two
one_of : (p q h : List ℕ) → is_facet (p ∷ q ∷ []) h ≡ true → (p ≢ h) → q ≡ h
one_of p q h t n = elim (two (pointwise nat_eq p h)) [
  | inl e ↦ absurd (n (same_sets_is p h e))
  | inr e ↦ same_sets_is q h (last (pointwise nat_eq q h) (sym (ap (λ b. b || (pointwise nat_eq q h || false)) e) ∙ t))
]
  where
    last : (b : Bool) → (b || false) ≡ true → b ≡ true
    last true g = refl
    last false g = g

-- the label that is left of two facets with one ridge
label_is : (f : List ℕ) (x y : ℕ) → IsStrictlySortedBy nat_cmp f → has f x ≡ true → has f y ≡ true → without f x ≡ without f y → x ≡ y
label_is f x y s t u e = it_is f y x t (ap (λ m. has m x) (sym e) ∙ without_gone f x)

module _ (k : ComplexView) (c : IsComplex k) (f : List ℕ) (x : ℕ) (t : is_facet k.facets f ≡ true) (u : has f x ≡ true) where
  abbrev ridge : List ℕ
  ridge = without f x

  ridge_is : IsRidge k.facets (without f x)
  ridge_is = record { facet = f; label = x; there = t; used = u; is = refl }

  -- no ridge of two facets
  pub none_met : (run : List (List ℕ × ℕ)) (ss : List (List ℕ × ℕ)) → ss ≡ incidences k.facets → run ≡ run_of ss (without f x) → (length run ≢ 2) → NoNeighbour k.facets f x
  none_met run ss es er n s i e = n (length_facets run ∙ ap length (ap (map facet_of) (er ∙ ap (λ v. run_of v (without f x)) es) ∙ run_is k c (without f x) ridge_is) ∙ ap (λ v. count k.facets (without f v)) (sym e) ∙ i.two)
    where
      length_facets : (us : List (List ℕ × ℕ)) → length us ≡ length (map facet_of us)
      length_facets [] = refl
      length_facets (v ∷ vs) = omega (arith, length_facets vs)

  -- the facets over the ridge, where f is one and g the other
  met : (g : List ℕ) (y : ℕ) (turns : Bool) (p q : List ℕ) → over k.facets (without f x) ≡ p ∷ q ∷ [] → ((p ≡ f) × (q ≡ g)) ⊎ ((p ≡ g) × (q ≡ f)) → g ≡ with (without f x) y → turn f (record { to = g; left = x; taken = y }) ≡ turns → IsNeighbour k.facets f x g turns
  met g y turns p q e which made turned = record {
    step = record { to = g; left = x; taken = y };
    is = record {
      from_there = t;
      to_there = facet_g;
      left_used = u;
      taken_used = used;
      other = other;
      shared = same_ridge;
      two = ap length e;
    };
    left = refl;
    to = refl;
    turned = turned;
    only = λ s i l.
        let to : s.to ≡ g = find s.to (ap (λ fs. is_facet fs s.to) (sym e) ∙ ap (λ v. is_facet (over k.facets (without f v)) s.to) (sym l) ∙ stepped k.facets f s i) i.other in
        let taken : s.taken ≡ y = label_is g s.taken y (set k c g facet_g) (ap (λ m. has m s.taken) (sym to) ∙ i.taken_used) used (ap (λ m. without m s.taken) (sym to) ∙ sym i.shared ∙ ap (without f) l ∙ same_ridge) in
        (to, (λ j. not (times (odd (position f (l j))) (odd (position (to j) (taken j))))) ∙ turned);
  }
    where
      over_g : is_facet (p ∷ q ∷ []) g ≡ true
      over_g = elim which [
        | inl h ↦ or_right (pointwise nat_eq p g) (pointwise nat_eq q g || false) (or_left (pointwise nat_eq q g) false (ap (λ m. pointwise nat_eq m g) h.1 ∙ same_set_itself g))
        | inr h ↦ or_left (pointwise nat_eq p g) (pointwise nat_eq q g || false) (ap (λ m. pointwise nat_eq m g) h.0 ∙ same_set_itself g)
      ]

      both : (is_facet k.facets g && holds g (without f x)) ≡ true
      both = sym (listed-filter (λ h. holds h (without f x)) k.facets g) ∙ ap (λ fs. is_facet fs g) e ∙ over_g

      facet_g : is_facet k.facets g ≡ true
      facet_g = first_so (is_facet k.facets g) (holds g (without f x)) both

      differ : p ≢ q
      differ h =
          let P : List (List ℕ) → Type 0 = λ fs. IsStrictlySortedBy face_cmp fs in
          let less : face_cmp p q ≡ Less = (above_head face_cmp p (q ∷ []) (subst P e (IsStrictlySortedBy-filter face_cmp (λ h. holds h (without f x)) k.facets c.rising))).0 in
          clash {P = ⊥} (is_eq (face_cmp q q)) (ap is_eq (tied_itself nat_list_cmp_total q)) (ap is_eq (ap (λ m. face_cmp m q) (sym h) ∙ less))

      other : f ≢ g
      other h = elim which [
        | inl w ↦ differ (w.0 ∙ h ∙ sym w.1)
        | inr w ↦ differ (w.0 ∙ sym h ∙ sym w.1)
      ]

      find : (h : List ℕ) → is_facet (p ∷ q ∷ []) h ≡ true → (f ≢ h) → h ≡ g
      find h v n = elim which [
        | inl w ↦ sym (one_of p q h v (λ a. n (sym w.0 ∙ a))) ∙ w.1
        | inr w ↦ elim (two (pointwise nat_eq p h)) [
          | inl a ↦ sym (same_sets_is p h a) ∙ w.0
          | inr a ↦ absurd (n (sym w.1 ∙ one_of p q h v (λ b. clash {P = ⊥} (pointwise nat_eq p h) (ap (λ m. pointwise nat_eq m h) b ∙ same_set_itself h) a)))
        ]
      ]

      used : has g y ≡ true
      used = ap (λ m. has m y) made ∙ has-with (without f x) y y ∙ or_left (nat_eq y y) (has (without f x) y) (nat_eq_same y)

      same_ridge : without f x ≡ without g y
      same_ridge =
          let d : (z : ℕ) × (has g z ≡ true) × (without f x ≡ without g z) = dropped k c (without f x) g ridge_is facet_g (second_so (is_facet k.facets g) (holds g (without f x)) both) in
          d.2 ∙ ap (without g) (fresh d.0 d.1 d.2)
        where
          fresh : (z : ℕ) → has g z ≡ true → without f x ≡ without g z → z ≡ y
          fresh z h e = elim (two (nat_eq y z)) [
            | inl a ↦ sym (nat_eq_is y z a)
            | inr a ↦ clash (has (without g z) z) (ap (λ m. has m z) (sym e) ∙ in_rest z a (sym (has-with (without f x) y z) ∙ ap (λ m. has m z) (sym made) ∙ h)) (without_gone g z)
          ]
            where
              in_rest : (z : ℕ) → nat_eq y z ≡ false → (nat_eq y z || has (without f x) z) ≡ true → has (without f x) z ≡ true
              in_rest z a b = sym (ap (λ v. v || has (without f x) z) a) ∙ b

  -- from a run of two incidences
  pub one_met : (run ss : List (List ℕ × ℕ)) (taken : ℕ) (g : List ℕ) (turns : Bool) → ss ≡ incidences k.facets → run ≡ run_of ss (without f x) → length run ≡ 2 → taken ≡ (if nat_eq (get_or run 0 ([], 0)).1 x then (get_or run 1 ([], 0)).1 else (get_or run 0 ([], 0)).1) → g ≡ with (without f x) taken → turn f (record { to = g; left = x; taken = taken }) ≡ turns → IsNeighbour k.facets f x g turns
  one_met run ss taken g turns es er n et eg turned = go run (ap (map facet_of) (er ∙ ap (λ v. run_of v (without f x)) es) ∙ run_is k c (without f x) ridge_is) ones n et
    where
      same : (us : List (List ℕ × ℕ)) → AllByRecursion (λ s. has s.0 s.1 ≡ false) us → AllByRecursion (λ s. (s.0 ≡ without f x) × (has s.0 s.1 ≡ false)) (run_of us (without f x))
      same [] h = tt
      same (s ∷ us) h = elim (pointwise nat_eq s.0 (without f x)) as (λ b. pointwise nat_eq s.0 (without f x) ≡ b → AllByRecursion (λ s. (s.0 ≡ without f x) × (has s.0 s.1 ≡ false)) (cond b (s ∷ run_of us (without f x)) (run_of us (without f x)))) [
        | true ↦ λ e. ((same_sets_is s.0 (without f x) e, h.0), same us h.1)
        | false ↦ λ _. same us h.1
      ] refl

      ones : AllByRecursion (λ s. (s.0 ≡ without f x) × (has s.0 s.1 ≡ false)) run
      ones = let P : List (List ℕ × ℕ) → Type 0 = λ ws. AllByRecursion (λ s. (s.0 ≡ without f x) × (has s.0 s.1 ≡ false)) ws in subst P (sym (er ∙ ap (λ v. run_of v (without f x)) es)) (same (incidences k.facets) (lacks k c))

      -- an incidence of this ridge with this label is one of f
      own : (s : List ℕ × ℕ) → s.0 ≡ without f x → s.1 ≡ x → facet_of s ≡ f
      own s e h = (λ i. with (e i) (h i)) ∙ with_back f x (set k c f t) u

      -- the other one isn't: it has its label, and the ridge has all labels of f but x
      strange : (s : List ℕ × ℕ) → s.0 ≡ without f x → nat_eq s.1 x ≡ false → has s.0 s.1 ≡ false → facet_of s ≡ f → ⊥
      strange s e h n g = clash {P = ⊥} (nat_eq s.1 x) (ap (nat_eq s.1) (sym (it_is f x s.1 (ap (λ m. has m s.1) (sym g) ∙ has-with s.0 s.1 s.1 ∙ or_left (nat_eq s.1 s.1) (has s.0 s.1) (nat_eq_same s.1)) (ap (λ m. has m s.1) (sym e) ∙ n))) ∙ nat_eq_same s.1) h

      go : (us : List (List ℕ × ℕ)) → map facet_of us ≡ over k.facets (without f x) → AllByRecursion (λ s. (s.0 ≡ without f x) × (has s.0 s.1 ≡ false)) us → length us ≡ 2 → taken ≡ (if nat_eq (get_or us 0 ([], 0)).1 x then (get_or us 1 ([], 0)).1 else (get_or us 0 ([], 0)).1) → IsNeighbour k.facets f x g turns
      go [] e o l h = absurd (omega (arith, l))
      go (p ∷ []) e o l h = absurd (omega (arith, l))
      go (p ∷ q ∷ w ∷ us) e o l h = absurd (omega (arith, l))
      go (p ∷ q ∷ []) e o l h = met g taken turns (facet_of p) (facet_of q) (sym e) (elim (two (nat_eq p.1 x)) [
        | inl a ↦ inl (own p o.0.0 (nat_eq_is p.1 x a), (λ i. with (o.1.0.0 i) (sym (h ∙ ap (λ b. if b then q.1 else p.1) a) i)) ∙ sym eg)
        | inr a ↦ inr ((λ i. with (o.0.0 i) (sym (h ∙ ap (λ b. if b then q.1 else p.1) a) i)) ∙ sym eg, one_of (facet_of p) (facet_of q) f (ap (λ fs. is_facet fs f) e ∙ own_over k.facets f x t) (strange p o.0.0 a o.0.1))
      ]) eg turned

-- ---- places

mod_two : (n : ℕ) → n % 2 ≡ cond (odd n) 1 0
mod_two zero = omega arith
mod_two (suc n) = elim (two (odd n)) [
  | inl e ↦ let h : n % 2 ≡ 1 = mod_two n ∙ ap (λ b. cond b 1 0) e in let g : suc n % 2 ≡ 0 = omega (arith, h) in g ∙ ap (λ b. cond (not b) 1 0) (sym e)
  | inr e ↦ let h : n % 2 ≡ 0 = mod_two n ∙ ap (λ b. cond b 1 0) e in let g : suc n % 2 ≡ 1 = omega (arith, h) in g ∙ ap (λ b. cond (not b) 1 0) (sym e)
]

-- both even, or both odd
pub parity : (p q : ℕ) → nat_eq (p % 2) (q % 2) ≡ not (times (odd p) (odd q))
parity p q = (λ i. nat_eq (mod_two p i) (mod_two q i)) ∙ table (odd p) (odd q)
  where
    table : (a b : Bool) → nat_eq (cond a 1 0) (cond b 1 0) ≡ not (times a b)
    table true true = refl
    table true false = refl
    table false true = refl
    table false false = refl

-- ---- what the code finds

module _ (k : ComplexView) (c : IsComplex k) (f : List ℕ) (x : ℕ) (t : is_facet k.facets f ≡ true) (u : has f x ≡ true) where
  pub found_one : (r : List ℕ) (run ss : List (List ℕ × ℕ)) (taken : ℕ) (g : List ℕ) (p q : ℕ) → r ≡ without f x → ss ≡ incidences k.facets → run ≡ run_of ss r → length run ≡ 2 → taken ≡ (if nat_eq (get_or run 0 ([], 0)).1 x then (get_or run 1 ([], 0)).1 else (get_or run 0 ([], 0)).1) → g ≡ with r taken → p ≡ position f x → q ≡ position g taken → IsNeighbour k.facets f x g (nat_eq (p % 2) (q % 2))
  found_one r run ss taken g p q er es e n et eg ep eq = one_met k c f x t u run ss taken g (nat_eq (p % 2) (q % 2)) es (e ∙ ap (run_of ss) er) n et (eg ∙ ap (λ m. with m taken) er)
      (sym (parity (position f x) (position g taken)) ∙ sym (λ i. nat_eq (ep i % 2) (eq i % 2)))

  pub found_none : (r : List ℕ) (run ss : List (List ℕ × ℕ)) (taken : ℕ) → r ≡ without f x → ss ≡ incidences k.facets → run ≡ run_of ss r → length run ≡ 2 → taken ≡ (if nat_eq (get_or run 0 ([], 0)).1 x then (get_or run 1 ([], 0)).1 else (get_or run 0 ([], 0)).1) → (0 < taken) × (length (with r taken) ≤ 8)
  found_none r run ss taken er es e n et =
      let m : IsNeighbour k.facets f x (with r taken) (turn f (record { to = with r taken; left = x; taken = taken })) = one_met k c f x t u run ss taken (with r taken) (turn f (record { to = with r taken; left = x; taken = taken })) es (e ∙ ap (run_of ss) er) n et (ap (λ m. with m taken) er) refl in
      with_can (r, taken) (pure_at k.dim k.facets (with r taken) c.pure (ap (is_facet k.facets) (sym m.to) ∙ m.is.to_there)).face

pub incidences_rise : (fs : List (List ℕ)) (ss : List (List ℕ × ℕ)) → ss ≡ incidences fs → IsStrictlySortedBy incidence_cmp ss
incidences_rise fs ss e = rising_incidences (flat_map incidences_of fs) ss e
