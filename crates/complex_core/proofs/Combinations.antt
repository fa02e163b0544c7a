-- The places of combinations name the subsets of a size, in the same order.
use Rattle.std.proofs.Common.{◌≡◌, ℕ, ◌+◌, ◌-◌, ◌<◌, zero, suc, get_or, List, [], ◌∷◌, ◌++◌, length, map, drop, sym, ◌∙◌, ap, refl, subst, arith, length-append, append_assoc, nat_eq, true, Result, Ok, Some}
use Rattle.std.specs.Prelude.{flat_map, slice_index_or}
use Rattle.std.specs.declared.vec.Vec.{Vec}
use Rattle.std.specs.Cmp.Lexicographic.{pointwise}
use Rattle.std.proofs.lemmas.List.{length-drop}
use Rattle.itertools.specs.Odometer.{ways, numbers}
use Rattle.itertools.specs.Pool.{ascending_low, ascending_high, ClonesAt, pool_steps, reads_pool, combination_left}
use Rattle.itertools.specs.declared.combinations.Combinations.{Combinations}
use Rattle.itertools.proofs.PoolLemmas.{ascending_low-more}
use Rattle.complex_core.specs.Subsets.{subsets_of}
use Rattle.complex_core.proofs.Faces.{drop_next}
use Rattle.complex_core.proofs.Laws.{listed, listed-append, same_set_itself, or_left, or_right}

-- the labels at some places are a set
abbrev pub Reads : (ℕ → ℕ → Type 0) → List ℕ → List ℕ → List ℕ → Type 0
Reads clones xs ds s = (vs : List ℕ) → ClonesAt clones xs ds vs → vs ≡ s

-- and so one after another
abbrev pub ReadsAll : (ℕ → ℕ → Type 0) → List ℕ → List (List ℕ) → List (List ℕ) → Type 0
ReadsAll clones xs [] [] = Unit {0}
ReadsAll clones xs (ds ∷ dss) (s ∷ ss) = Reads clones xs ds s × ReadsAll clones xs dss ss
ReadsAll clones xs [] (s ∷ ss) = ⊥
ReadsAll clones xs (ds ∷ dss) [] = ⊥

no_subsets : (m : ℕ) (ys : List ℕ) → length ys < m → subsets_of m ys ≡ []
no_subsets zero ys h = absurd (omega (arith, h))
no_subsets (suc m) [] h = refl
no_subsets (suc m) (y ∷ ys) h = (λ i. map (λ s. y ∷ s) (no_subsets m ys (omega (arith, h)) i) ++ no_subsets (suc m) ys (omega (arith, h)) i)

module _ (clones : ℕ → ℕ → Type 0) (same : (x y : ℕ) → clones x y → y ≡ x) (xs : List ℕ) where
  read_more : (d : ℕ) (ds s : List ℕ) → d < length xs → Reads clones xs ds s → Reads clones xs (d ∷ ds) (get_or xs d 0 ∷ s)
  read_more d ds s l r [] h = elim h [ ]
  read_more d ds s l r (v ∷ vs) h = let p : v ≡ slice_index_or xs d v = same (slice_index_or xs d v) v h.0 in (λ i. (p ∙ inside xs d v l) i ∷ r vs h.1 i)
    where
      inside : (xs : List ℕ) (d v : ℕ) → d < length xs → slice_index_or xs d v ≡ get_or xs d 0
      inside [] d v l = absurd (omega (arith, l))
      inside (x ∷ xs) zero v l = refl
      inside (x ∷ xs) (suc d) v l = inside xs d v (omega (arith, l))

  read_map : (d : ℕ) (dss ss : List (List ℕ)) → d < length xs → ReadsAll clones xs dss ss → ReadsAll clones xs (map (λ ds. d ∷ ds) dss) (map (λ s. get_or xs d 0 ∷ s) ss)
  read_map d [] [] l r = tt
  read_map d (ds ∷ dss) (s ∷ ss) l r = (read_more d ds s l r.0, read_map d dss ss l r.1)
  read_map d [] (s ∷ ss) l r = elim r [ ]
  read_map d (ds ∷ dss) [] l r = elim r [ ]

  read_both : (dss ss ess ts : List (List ℕ)) → ReadsAll clones xs dss ss → ReadsAll clones xs ess ts → ReadsAll clones xs (dss ++ ess) (ss ++ ts)
  read_both [] [] ess ts r q = q
  read_both (ds ∷ dss) (s ∷ ss) ess ts r q = (r.0, read_both dss ss ess ts r.1 q)
  read_both [] (s ∷ ss) ess ts r q = elim r [ ]
  read_both (ds ∷ dss) [] ess ts r q = elim r [ ]

  -- the first position runs over c numbers from b on
  along : (m : ℕ) (w : ℕ → List (List ℕ)) → ((d : ℕ) → ReadsAll clones xs (w d) (subsets_of m (drop (d + 1) xs))) → (c b : ℕ) → c ≡ length xs - m - b → ReadsAll clones xs (flat_map (λ d. map (λ ds. d ∷ ds) (w d)) (numbers b c)) (subsets_of (suc m) (drop b xs))
  along m w h zero b e = let P : List (List ℕ) → Type 0 = λ ss. ReadsAll clones xs [] ss in subst P (sym (no_subsets (suc m) (drop b xs) (omega (arith, e, length-drop b xs)))) tt
  along m w h (suc c) b e =
      let l : b < length xs = omega (arith, e) in
      let r : ReadsAll clones xs (map (λ ds. b ∷ ds) (w b) ++ flat_map (λ d. map (λ ds. d ∷ ds) (w d)) (numbers (b + 1) c)) (map (λ s. get_or xs b 0 ∷ s) (subsets_of m (drop (b + 1) xs)) ++ subsets_of (suc m) (drop (b + 1) xs)) =
      read_both (map (λ ds. b ∷ ds) (w b)) (map (λ s. get_or xs b 0 ∷ s) (subsets_of m (drop (b + 1) xs))) (flat_map (λ d. map (λ ds. d ∷ ds) (w d)) (numbers (b + 1) c)) (subsets_of (suc m) (drop (b + 1) xs)) (read_map b (w b) (subsets_of m (drop (b + 1) xs)) l (h b)) (along m w h c (b + 1) (omega (arith, e))) in
      let P : List ℕ → Type 0 = λ ys. ReadsAll clones xs (map (λ ds. b ∷ ds) (w b) ++ flat_map (λ d. map (λ ds. d ∷ ds) (w d)) (numbers (b + 1) c)) (subsets_of (suc m) ys) in
      subst P (sym (drop_next xs b 0 l)) r

  read_ways : (k m : ℕ) (p : List ℕ) (a : ℕ) → ascending_low p ≡ a → length p + m ≡ k → ReadsAll clones xs (ways ascending_low (ascending_high (length xs) k) m p) (subsets_of m (drop a xs))
  read_ways k zero p a e f = (none, tt)
    where
      none : Reads clones xs [] []
      none [] h = refl
      none (v ∷ vs) h = elim h [ ]
  read_ways k (suc m) p a e f =
      let n : ascending_high (length xs) k p - a ≡ length xs - m - a = omega (arith, f) in
      let r : ReadsAll clones xs (flat_map (λ d. map (λ ds. d ∷ ds) (ways ascending_low (ascending_high (length xs) k) m (p ++ d ∷ []))) (numbers a (ascending_high (length xs) k p - a))) (subsets_of (suc m) (drop a xs)) =
      along m (λ d. ways ascending_low (ascending_high (length xs) k) m (p ++ d ∷ [])) (λ d. read_ways k m (p ++ d ∷ []) (d + 1) (ascending_low-more p d) (omega (arith, f, length-append p (d ∷ [])))) (ascending_high (length xs) k p - a) a n in
      let P : ℕ → Type 0 = λ z. ReadsAll clones xs (flat_map (λ d. map (λ ds. d ∷ ds) (ways ascending_low (ascending_high (length xs) k) m (p ++ d ∷ []))) (numbers z (ascending_high (length xs) k p - z))) (subsets_of (suc m) (drop a xs)) in
      subst P (sym e) r

  pub read_subsets : (k : ℕ) → ReadsAll clones xs (ways ascending_low (ascending_high (length xs) k) k []) (subsets_of k xs)
  read_subsets k = read_ways k k [] 0 refl (omega arith)

-- what is still to come of the subsets, while the places that are left are read
pub record Coming (clones : ℕ → ℕ → Type 0) (n : ℕ) (xs : List ℕ) (done : List (List ℕ)) (pool : List ℕ) (left : List (List ℕ)) : Type 0 where
  pub rest : List (List ℕ)
  pub whole : done ++ rest ≡ subsets_of n xs
  pub reads : ReadsAll clones pool left rest

pub coming_first : (clones : ℕ → ℕ → Type 0) → ((x y : ℕ) → clones x y → y ≡ x) → (n : ℕ) (xs : List ℕ) (done : List (List ℕ)) (pool : List ℕ) (left : List (List ℕ)) → done ≡ [] → pool ≡ xs → left ≡ ways ascending_low (ascending_high (length pool) n) n [] → Coming clones n xs done pool left
coming_first clones same n xs done pool left d p l =
    let r : ReadsAll clones pool (ways ascending_low (ascending_high (length pool) n) n []) (subsets_of n pool) = read_subsets clones same pool n in
    let P : List (List ℕ) → Type 0 = λ dss. ReadsAll clones pool dss (subsets_of n pool) in
    record { rest = subsets_of n pool; whole = ap (λ ss. ss ++ subsets_of n pool) d ∙ ap (subsets_of n) p; reads = subst P (sym l) r }

-- the next set
pub record Came (clones : ℕ → ℕ → Type 0) (n : ℕ) (xs : List ℕ) (done : List (List ℕ)) (pool : List ℕ) (left : List (List ℕ)) (vs : List ℕ) : Type 0 where
  pub there : listed (subsets_of n xs) vs ≡ true
  pub coming : Coming clones n xs (done ++ vs ∷ []) pool left

came : (clones : ℕ → ℕ → Type 0) (n : ℕ) (xs : List ℕ) (done : List (List ℕ)) (pool : List ℕ) (left rest : List (List ℕ)) (ds vs : List ℕ) → done ++ rest ≡ subsets_of n xs → ReadsAll clones pool (ds ∷ left) rest → ClonesAt clones pool ds vs → Came clones n xs done pool left vs
came clones n xs done pool left [] ds vs w r h = elim r [ ]
came clones n xs done pool left (s ∷ ss) ds vs w r h =
    let e : vs ≡ s = r.0 vs h in
    let w2 : done ++ vs ∷ ss ≡ subsets_of n xs = (λ i. done ++ e i ∷ ss) ∙ w in
    record {
      there = ap (λ zs. listed zs vs) (sym w2) ∙ (listed-append done (vs ∷ ss) vs ∙ or_right (listed done vs) (listed (vs ∷ ss) vs) (or_left (pointwise nat_eq vs vs) (listed ss vs) (same_set_itself vs)));
      coming = record { rest = ss; whole = append_assoc done (vs ∷ []) ss ∙ w2; reads = r.1 };
    }

pub coming_next : {Z E : Type 0} (clones : ℕ → ℕ → Type 0) (n : ℕ) (xs : List ℕ) (done : List (List ℕ)) (s t : Combinations ℕ Z) (item : Result (Vec ℕ Z) E) (v : Vec ℕ Z) → item ≡ Ok v → pool_steps combination_left (λ u. u.pool.items) (reads_pool clones) s (Some item) t → Coming clones n xs done s.pool.items (combination_left s) → Came clones n xs done t.pool.items (combination_left t) v.items
coming_next {Z} {E} clones n xs done s t item v is e c =
    let g = subst (λ (r : Result (Vec ℕ Z) E). pool_steps combination_left (λ u. u.pool.items) (reads_pool clones) s (Some r) t) is e in
    let (ds, at, got) = g.1 in
    let P : List (List ℕ) → Type 0 = λ dss. ReadsAll clones s.pool.items dss c.rest in
    let r : ReadsAll clones s.pool.items (ds ∷ combination_left t) c.rest = subst P at c.reads in
    let Q : List ℕ → Type 0 = λ pool. Came clones n xs done pool (combination_left t) v.items in
    subst Q g.0 (came clones n xs done s.pool.items (combination_left t) c.rest ds v.items c.whole r got)
