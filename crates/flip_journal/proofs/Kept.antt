-- What the program keeps of names: their pairs, and the names themselves.
use Rattle.std.proofs.Common.{◌≡◌, ℕ, zero, suc, get_or, take, Result, Ok, Some, ◌+◌, ◌-◌, ◌<◌, ◌≤◌, Bool, true, false, not, nat_eq, cond, ◌||◌, ◌&&◌, List, [], ◌∷◌, length, map, filter, sym, ◌∙◌, ap, refl, arith, inl, inr, subst}
use Rattle.std.specs.List.{AllByRecursion, flat_map, list_any, remove}
use Rattle.std.specs.List.Sorted.{IsStrictlySortedBy, IsBinarySearchResult, IsSearchInRange}
use Rattle.std.specs.Result.{MatchResult}
use Rattle.std.specs.Cmp.{unsigned_tied}
use Rattle.std.specs.Ordering.{eq_by_cmp, nat_cmp, ordering_then}
use Rattle.std.specs.declared.cmp.Ordering.TheVariants.{Less, Equal, Greater}
use Rattle.std.proofs.lemmas.Cmp.{nat_cmp_total}
use Rattle.std.specs.List.{slice_get}
use Rattle.std.proofs.lemmas.Option.{get_or_from_slice_get}
use Rattle.std.proofs.lemmas.List.{length-map}
use Rattle.complex_core.specs.Labels.{IsFace, IsRising, has, with, without}
use Rattle.complex_core.specs.Rising.{put, rising}
use Rattle.complex_core.specs.Maps.{IsMap, ArePositive, Differ, pair_cmp, takes, reaches, turned, at, used}
use Rattle.complex_core.specs.Complexes.{ComplexView}
use Rattle.complex_core.specs.MapFaults.{IsFirstTwice, repeats}
use Rattle.complex_core.proofs.Booleans.{right_off}
use Rattle.complex_core.proofs.Sets.{above_cons, above_head, above_tail, any-put, length-put_new, sorted_none, sorted_put, sorted_rising}
use Rattle.complex_core.proofs.Faces.{among-has, cmp_less, equal_cmp, less_cmp}
use Rattle.complex_core.proofs.Images.{reaches_at}
use Rattle.complex_core.proofs.Laws.{both_false, has-with, has-without, keep_other, length_put_le, nat_eq_is, nat_eq_same, nat_eq_swap, or_left, or_right, same_labels, sorted_without}
use Rattle.complex_core.proofs.Members.{each_member, has_place, label_low}
use Rattle.complex_core.proofs.Pairs.{differ_turned, pair_exact, pair_total, positive_turned, reaches-rising, reaches-turned}
use Rattle.complex_core.proofs.Places.{at_least_place}
use Rattle.complex_core.proofs.Renaming.{list_any-map}
use Rattle.complex_core.proofs.Searching.{Stands, Missing, searched_for}
use Rattle.complex_core.proofs.SubsetLists.{two, clash}
use Rattle.flip_names.specs.Laws.{map_back}
use Rattle.flip_journal.specs.Carried.{AreNames, NamesLabels, given, least_unused, vanishes, IsLeastUnused}
use Rattle.flip_journal.proofs.Gaps.{given_rises, has-given, new_name_is_least}
use Rattle.flip_journal.proofs.Naming.{Left, left, put_map}

-- ---- first numbers

pub has-firsts : (m : List (ℕ × ℕ)) (x : ℕ) → has (map (λ p. p.0) m) x ≡ takes m x
has-firsts m x = list_any-map (λ y. nat_eq y x) (λ p. p.0) m

firsts_above : (p : ℕ × ℕ) (m : List (ℕ × ℕ)) → takes m p.0 ≡ false → AllByRecursion (λ q. pair_cmp p q ≡ Less) m → AllByRecursion (λ y. nat_cmp p.0 y ≡ Less) (map (λ q. q.0) m)
firsts_above p [] t a = tt
firsts_above p (q ∷ m) t a = (
  elim (nat_cmp p.0 q.0) as (λ r. nat_cmp p.0 q.0 ≡ r → ordering_then r (nat_cmp p.1 q.1) ≡ Less → r ≡ Less) [
    | Less ↦ λ _ _. refl
    | Equal ↦ λ e _. clash (takes (q ∷ m) p.0) (or_left (nat_eq q.0 p.0) (takes m p.0) (ap (λ z. nat_eq z p.0) (sym (equal_cmp p.0 q.0 e)) ∙ nat_eq_same p.0)) t
    | Greater ↦ λ _ g. g
  ] refl a.0,
  firsts_above p m (right_off (nat_eq q.0 p.0) (takes m p.0) t) a.1,
)

pub firsts_rise : (m : List (ℕ × ℕ)) → Differ m → IsStrictlySortedBy pair_cmp m → IsStrictlySortedBy nat_cmp (map (λ p. p.0) m)
firsts_rise [] d s = sorted_none nat_cmp
firsts_rise (p ∷ m) d s = above_cons nat_cmp p.0 (map (λ q. q.0) m) (firsts_above p m d.0 (above_head pair_cmp p m s)) (firsts_rise m d.2 (above_tail pair_cmp p m s))

-- ---- a pair less

abbrev pub others : List (ℕ × ℕ) → ℕ → List (ℕ × ℕ)
others ps x = filter (λ p. not (nat_eq p.0 x)) ps

-- without a pair of the label nothing is left out
pub none_left_out : (ps : List (ℕ × ℕ)) (x : ℕ) → takes ps x ≡ false → others ps x ≡ ps
none_left_out [] x t = refl
none_left_out (p ∷ ps) x t = elim (nat_eq p.0 x) as (λ b. (b || takes ps x) ≡ false → cond (not b) (p ∷ others ps x) (others ps x) ≡ p ∷ ps) [
  | true ↦ λ f. let e : true ≡ false = f in cc
  | false ↦ λ f. ap (λ qs. p ∷ qs) (none_left_out ps x f)
] t

-- the pair at a position is the only one of its label
pub removed_pair : (ps : List (ℕ × ℕ)) (x i : ℕ) (d : ℕ × ℕ) → Differ ps → i < length ps → (get_or ps i d).0 ≡ x → remove ps i ≡ others ps x
removed_pair [] x i d differ l e = absurd (omega (arith, l))
removed_pair (p ∷ ps) x zero d differ l e =
    let t : nat_eq p.0 x ≡ true = ap (nat_eq p.0) (sym e) ∙ nat_eq_same p.0 in
    sym (ap (λ b. cond (not b) (p ∷ others ps x) (others ps x)) t ∙ none_left_out ps x (ap (takes ps) (sym e) ∙ differ.0))
removed_pair (p ∷ ps) x (suc i) d differ l e =
    let f : nat_eq p.0 x ≡ false = elim (two (nat_eq p.0 x)) [
      | inl t ↦ clash (takes ps p.0) (ap (takes ps) (nat_eq_is p.0 x t) ∙ there ps i (omega (arith, l)) e) differ.0
      | inr f ↦ f
    ] in
    ap (λ qs. p ∷ qs) (removed_pair ps x i d differ.2 (omega (arith, l)) e) ∙ sym (ap (λ b. cond (not b) (p ∷ others ps x) (others ps x)) f)
  where
    there : (ps : List (ℕ × ℕ)) (i : ℕ) → i < length ps → (get_or ps i d).0 ≡ x → takes ps x ≡ true
    there [] i l e = absurd (omega (arith, l))
    there (q ∷ qs) zero l e = or_left (nat_eq q.0 x) (takes qs x) (ap (nat_eq q.0) (sym e) ∙ nat_eq_same q.0)
    there (q ∷ qs) (suc i) l e = or_right (nat_eq q.0 x) (takes qs x) (there qs i (omega (arith, l)) e)

reaches-others : (ps : List (ℕ × ℕ)) (x z : ℕ) → Differ ps → takes ps x ≡ true → reaches (others ps x) z ≡ (reaches ps z && not (nat_eq z (at ps x)))
reaches-others [] x z d t = let e : false ≡ true = t in cc
reaches-others (p ∷ ps) x z d t = elim (nat_eq p.0 x) as (λ b. nat_eq p.0 x ≡ b → (b || takes ps x) ≡ true → reaches (cond (not b) (p ∷ others ps x) (others ps x)) z ≡ ((nat_eq p.1 z || reaches ps z) && not (nat_eq z (cond b p.1 (at ps x))))) [
  | true ↦ λ e _. ap (λ qs. reaches qs z) (none_left_out ps x (ap (takes ps) (sym (nat_eq_is p.0 x e)) ∙ d.0)) ∙ off (nat_eq p.1 z) (reaches ps z) (nat_eq z p.1) (nat_eq_swap p.1 z) (λ f. ap (reaches ps) (sym (nat_eq_is p.1 z f)) ∙ d.1)
  | false ↦ λ _ u. ap (λ c. nat_eq p.1 z || c) (reaches-others ps x z d.2 u) ∙ keep_other (nat_eq p.1 z) (reaches ps z) (nat_eq z (at ps x)) (λ f. elim (two (nat_eq z (at ps x))) [
    | inl g ↦ clash (reaches ps p.1) (ap (reaches ps) (nat_eq_is p.1 z f ∙ nat_eq_is z (at ps x) g) ∙ reaches_at ps x u) d.1
    | inr g ↦ g
  ])
] refl t
  where
    off : (a b c : Bool) → a ≡ c → (a ≡ true → b ≡ false) → b ≡ ((a || b) && not c)
    off true true c e h = let f : true ≡ false = h refl in cc
    off true false true e h = refl
    off true false false e h = let f : true ≡ false = e in cc
    off false true true e h = let f : false ≡ true = e in cc
    off false true false e h = refl
    off false false true e h = refl
    off false false false e h = refl

given-others : (ps : List (ℕ × ℕ)) (x : ℕ) → Differ ps → takes ps x ≡ true → given (others ps x) ≡ without (given ps) (at ps x)
given-others ps x d t =
    let s : IsStrictlySortedBy nat_cmp (given ps) = sorted_rising nat_cmp_total (map (λ p. p.1) ps) in
    same_labels (given (others ps x)) (without (given ps) (at ps x)) (sorted_rising nat_cmp_total (map (λ p. p.1) (others ps x))) (sorted_without (given ps) (at ps x) s)
    (λ z. has-given (others ps x) z ∙ reaches-others ps x z d t ∙ sym (has-without (given ps) (at ps x) z ∙ ap (λ c. c && not (nat_eq z (at ps x))) (has-given ps z)))

-- the pairs and names that are left without a label
pub are_left : (ps qs : List (ℕ × ℕ)) (names less : List ℕ) (x n : ℕ) → AreNames ps names → takes ps x ≡ true → n ≡ at ps x → qs ≡ others ps x → less ≡ without names n → AreNames qs less
are_left ps qs names less x n a t e q r =
    let l : Left ps (others ps x) (λ z. not (nat_eq z x)) = left ps (λ z. not (nat_eq z x)) a.is_map in
    record {
      is_map = subst IsMap (sym q) l.is_map;
      given_are = r ∙ (λ i. without (a.given_are i) (e i)) ∙ sym (given-others ps x a.is_map.differ t) ∙ ap given (sym q);
    }

-- ---- a pair more

given-put : (ps : List (ℕ × ℕ)) (x n : ℕ) → given (put pair_cmp (x, n) ps) ≡ with (given ps) n
given-put ps x n = same_labels (given (put pair_cmp (x, n) ps)) (with (given ps) n) (sorted_rising nat_cmp_total (map (λ p. p.1) (put pair_cmp (x, n) ps))) (sorted_put nat_cmp_total n (given ps) (sorted_rising nat_cmp_total (map (λ p. p.1) ps)))
    (λ z. has-given (put pair_cmp (x, n) ps) z ∙ any-put pair_cmp pair_exact (λ p. nat_eq p.1 z) (x, n) ps ∙ sym (has-with (given ps) n z ∙ ap (λ c. nat_eq n z || c) (has-given ps z)))

-- the pairs and names with a new label and the least unused name
pub are_more : (ps qs : List (ℕ × ℕ)) (names more : List ℕ) (x n : ℕ) → AreNames ps names → 0 < x → takes ps x ≡ false → n ≡ least_unused ps → qs ≡ put pair_cmp (x, n) ps → more ≡ with names n → AreNames qs more
are_more ps qs names more x n a low t e q r =
    let l : IsLeastUnused ps n = subst (IsLeastUnused ps) (sym e) (new_name_is_least ps a.is_map.positive) in
    record {
      is_map = subst IsMap (sym q) (put_map ps x n a.is_map low l.positive t l.unused);
      given_are = r ∙ ap (λ xs. with xs n) a.given_are ∙ sym (given-put ps x n) ∙ ap given (sym q);
    }

-- ---- how many names there are

length-rising : (xs : List ℕ) → length (rising nat_cmp xs) ≤ length xs
length-rising [] = omega arith
length-rising (x ∷ xs) = omega (arith, length-rising xs, length_put_le x (rising nat_cmp xs))

pub given_few : (ps : List (ℕ × ℕ)) → length (given ps) ≤ length ps
given_few ps = omega (arith, length-rising (map (λ p. p.1) ps), length-map ps (λ p. p.1))

-- labels up to a number, without one of them, are fewer than it
pub pairs_few : (ps : List (ℕ × ℕ)) (x most : ℕ) → IsMap ps → 0 < x → x ≤ most → takes ps x ≡ false → ((z : ℕ) → takes ps z ≡ true → z ≤ most) → length ps < most
pairs_few ps x most h low high t all =
    let f : List ℕ = map (λ p. p.0) ps in
    let n : ℕ = length f in
    let s : IsStrictlySortedBy nat_cmp (with f x) = sorted_put nat_cmp_total x f (firsts_rise ps h.differ h.rising) in
    let long : length (with f x) ≡ n + 1 = length-put_new nat_cmp x f (among-has x f ∙ has-firsts ps x ∙ t) in
    let there : has (with f x) (get_or (with f x) n 0) ≡ true = has_place (with f x) n (omega (arith, long)) in
    let bound : (z : ℕ) → has (with f x) z ≡ true → (0 < z) × (z ≤ most) = λ z u. elim (two (nat_eq x z)) [
      | inl e ↦ let q : x ≡ z = nat_eq_is x z e in (omega (arith, q, low), omega (arith, q, high))
      | inr e ↦
          let w : takes ps z ≡ true = sym (has-firsts ps z) ∙ ap (λ c. c || has f z) (sym e) ∙ sym (has-with f x z) ∙ u in
          (first_positive ps z h.positive w, all z w)
    ] in
    let rises : IsRising (with f x) = above_cons nat_cmp 0 (with f x) (each_member (λ z. nat_cmp 0 z ≡ Less) (with f x) (λ z u. cmp_less 0 z (bound z u).0)) s in
    omega (arith, at_least_place 0 (with f x) n rises (omega (arith, long)), (bound (get_or (with f x) n 0) there).1, length-map ps (λ p. p.0))
  where
    first_positive : (ps : List (ℕ × ℕ)) (z : ℕ) → AllByRecursion (λ p. (0 < p.0) × (0 < p.1)) ps → takes ps z ≡ true → 0 < z
    first_positive [] z h t = let e : false ≡ true = t in cc
    first_positive (p ∷ ps) z h t = elim (two (nat_eq p.0 z)) [
      | inl e ↦ omega (arith, h.0.0, nat_eq_is p.0 z e)
      | inr e ↦ first_positive ps z h.1 (ap (λ c. c || takes ps z) (sym e) ∙ t)
    ]

-- a bound of each pair is one of each label
pub labels_bounded : (ps : List (ℕ × ℕ)) (most : ℕ) → ((i : ℕ) → i < length ps → (get_or ps i (0, 0)).0 ≤ most) → (z : ℕ) → takes ps z ≡ true → z ≤ most
labels_bounded [] most h z t = let e : false ≡ true = t in cc
labels_bounded (p ∷ ps) most h z t = elim (two (nat_eq p.0 z)) [
  | inl e ↦ omega (arith, h zero (omega arith), nat_eq_is p.0 z e)
  | inr e ↦ labels_bounded ps most (λ i l. h (suc i) (omega (arith, l))) z (ap (λ c. c || takes ps z) (sym e) ∙ t)
]

-- ---- the label that vanishes

pub vanishes_one : (a : List ℕ) (x : ℕ) (ps : List (ℕ × ℕ)) → length a ≡ 1 → x ≡ get_or a 0 0 → filter (λ p. not (vanishes a p.0)) ps ≡ filter (λ p. not (nat_eq p.0 x)) ps
vanishes_one [] x ps l e = absurd (omega (arith, l))
vanishes_one (y ∷ []) x ps l e = same ps
  where
    same : (ps : List (ℕ × ℕ)) → filter (λ p. not (nat_eq y p.0)) ps ≡ filter (λ p. not (nat_eq p.0 x)) ps
    same [] = refl
    same (p ∷ ps) = (λ i. cond (not ((nat_eq_swap y p.0 ∙ ap (nat_eq p.0) (sym e)) i)) (p ∷ same ps i) (same ps i))
vanishes_one (y ∷ z ∷ ys) x ps l e = absurd (omega (arith, l))

pub vanishes_none : (a : List ℕ) (ps : List (ℕ × ℕ)) → (length a ≡ 1 → ⊥) → filter (λ p. not (vanishes a p.0)) ps ≡ ps
vanishes_none [] ps n = all ps
  where
    all : (ps : List (ℕ × ℕ)) → filter (λ p. not false) ps ≡ ps
    all [] = refl
    all (p ∷ ps) = ap (λ qs. p ∷ qs) (all ps)
vanishes_none (y ∷ []) ps n = absurd (n (omega arith))
vanishes_none (y ∷ z ∷ ys) ps n = all ps
  where
    all : (ps : List (ℕ × ℕ)) → filter (λ p. not false) ps ≡ ps
    all [] = refl
    all (p ∷ ps) = ap (λ qs. p ∷ qs) (all ps)

-- ---- searches

-- a search over a slice that shows rising names, or rising pairs
pub search_name : (shown xs : List ℕ) (x : ℕ) (r : Result ℕ ℕ) → shown ≡ xs → IsStrictlySortedBy nat_cmp xs → IsSearchInRange r (length shown) → IsBinarySearchResult (λ y. nat_cmp y x) shown r → MatchResult r (Stands nat_cmp xs x) (Missing nat_cmp xs x)
search_name shown xs x r e s =
    let P : List ℕ → Type 0 = λ ys. IsSearchInRange r (length ys) → IsBinarySearchResult (λ y. nat_cmp y x) ys r → MatchResult r (Stands nat_cmp xs x) (Missing nat_cmp xs x) in
    subst P (sym e) (searched_for nat_cmp_total equal_cmp xs x r s)

pub search_pair : (shown xs : List (ℕ × ℕ)) (x : ℕ × ℕ) (r : Result ℕ ℕ) → shown ≡ xs → IsStrictlySortedBy pair_cmp xs → IsSearchInRange r (length shown) → IsBinarySearchResult (λ y. pair_cmp y x) shown r → MatchResult r (Stands pair_cmp xs x) (Missing pair_cmp xs x)
search_pair shown xs x r e s =
    let P : List (ℕ × ℕ) → Type 0 = λ ys. IsSearchInRange r (length ys) → IsBinarySearchResult (λ y. pair_cmp y x) ys r → MatchResult r (Stands pair_cmp xs x) (Missing pair_cmp xs x) in
    subst P (sym e) (searched_for pair_total pair_exact xs x r s)

-- a name less is a filter
pub filter_names : (xs : List ℕ) (x : ℕ) → filter (λ y. not (eq_by_cmp nat_cmp y x)) xs ≡ without xs x
filter_names xs x = λ i. filter (λ y. not (unsigned_tied y x i)) xs

-- a search by the label
pub pair_taken : (shown ps : List (ℕ × ℕ)) (x position : ℕ) → shown ≡ ps → Differ ps → position < length shown → IsBinarySearchResult (λ q. nat_cmp q.0 x) shown (Ok position) → remove ps position ≡ others ps x
pair_taken shown ps x position e d =
    let P : List (ℕ × ℕ) → Type 0 = λ qs. position < length qs → IsBinarySearchResult (λ q. nat_cmp q.0 x) qs (Ok position) → remove ps position ≡ others ps x in
    subst P (sym e) (λ l search. removed_pair ps x position (0, 0) d l (equal_cmp (get_or ps position (0, 0)).0 x (search (0, 0))))

-- rising pairs: the label of the last is the greatest
last_is_greatest : (ps : List (ℕ × ℕ)) (i : ℕ) (d : ℕ × ℕ) → IsStrictlySortedBy nat_cmp (map (λ p. p.0) ps) → i + 1 ≡ length ps → (x : ℕ) → takes ps x ≡ true → x ≤ (get_or ps i d).0
last_is_greatest [] i d s e x t = let f : false ≡ true = t in cc
last_is_greatest (p ∷ []) i d s e x t =
    let z : i ≡ 0 = omega (arith, e) in
    rw z (elim (two (nat_eq p.0 x)) [ inl f ↦ omega (arith, nat_eq_is p.0 x f) | inr f ↦ clash (nat_eq p.0 x || false) t (ap (λ c. c || false) f) ])
last_is_greatest (p ∷ q ∷ ps) zero d s e x t = absurd (omega (arith, e))
last_is_greatest (p ∷ q ∷ ps) (suc i) d s e x t =
    let rest : (y : ℕ) → takes (q ∷ ps) y ≡ true → y ≤ (get_or (q ∷ ps) i d).0 = last_is_greatest (q ∷ ps) i d (above_tail nat_cmp p.0 (map (λ r. r.0) (q ∷ ps)) s) (omega (arith, e)) in
    elim (two (nat_eq p.0 x)) [
      | inl f ↦ omega (arith, nat_eq_is p.0 x f, less_cmp p.0 q.0 (above_head nat_cmp p.0 (map (λ r. r.0) (q ∷ ps)) s).0, rest q.0 (or_left (nat_eq q.0 q.0) (takes ps q.0) (nat_eq_same q.0)))
      | inr f ↦ rest x (ap (λ c. c || takes (q ∷ ps) x) (sym f) ∙ t)
    ]

pub greatest_label : (shown ps view : List (ℕ × ℕ)) (p : ℕ × ℕ) → shown ≡ ps → ps ≡ view → IsMap ps → slice_get shown (length shown - 1) ≡ Some p → (x : ℕ) → takes view x ≡ true → x ≤ p.0
greatest_label shown ps view p e v h is x t =
    let l : slice_get ps (length ps - 1) ≡ Some p = ap (λ qs. slice_get qs (length qs - 1)) (sym e) ∙ is in
    let u : takes ps x ≡ true = ap (λ qs. takes qs x) v ∙ t in
    subst (λ q. x ≤ q.0) (get_or_from_slice_get ps (length ps - 1) p p l) (last_is_greatest ps (length ps - 1) p (firsts_rise ps h.differ h.rising) (some ps u) x u)
  where
    some : (qs : List (ℕ × ℕ)) → takes qs x ≡ true → length qs - 1 + 1 ≡ length qs
    some [] f = let g : false ≡ true = f in cc
    some (q ∷ qs) f = omega arith

-- ---- lists that the program keeps

pub names_rise : (ps : List (ℕ × ℕ)) (names : List ℕ) → AreNames ps names → IsStrictlySortedBy nat_cmp names
names_rise ps names a = subst (λ xs. IsStrictlySortedBy nat_cmp xs) (sym a.given_are) (sorted_rising nat_cmp_total (map (λ p. p.1) ps))

pub names_are_rising : (shown : List ℕ) (ps : List (ℕ × ℕ)) (names : List ℕ) → shown ≡ names → AreNames ps names → IsRising shown
names_are_rising shown ps names e a = subst (λ xs. IsRising xs) (sym (e ∙ a.given_are)) (given_rises ps a.is_map.positive)

-- a new label finds a name
pub name_fits : (shown : List ℕ) (ps view : List (ℕ × ℕ)) (names : List ℕ) (x n most : ℕ) → shown ≡ names → ps ≡ view → AreNames ps names → 0 < x → x < 65536 → takes view x ≡ false → most < 65536 → ((z : ℕ) → takes view z ≡ true → z ≤ most) → n ≤ length shown + 1 → n < 65536
name_fits shown ps view names x n most e v a low fits t small all few =
    let h : IsMap view = subst IsMap v a.is_map in
    let f : length view < 65535 = pairs_few view x 65535 h low (omega (arith, fits)) t (λ z u. omega (arith, all z u, small)) in
    omega (arith, few, ap length (e ∙ a.given_are), given_few ps, ap length v, f)

pub label_low_at : (shown f : List ℕ) (i : ℕ) → shown ≡ f → IsFace f → i < length shown → 0 < get_or shown i 0
label_low_at shown f i e h l = label_low f (get_or shown i 0) h (ap (λ xs. has xs (get_or shown i 0)) (sym e) ∙ has_place shown i l)

-- the pairs that a map begins with, and the labels of the complex, are names
pub start_is_names : (k : ComplexView) (m back shown ps : List (ℕ × ℕ)) (names : List ℕ) → IsMap back → back ≡ map_back m → shown ≡ back → ps ≡ shown → NamesLabels m k → names ≡ used k.facets → AreNames ps names
start_is_names k m back shown ps names h b e p labels n =
    let q : ps ≡ map_back m = p ∙ e ∙ b in
    record {
      is_map = subst IsMap (sym (p ∙ e)) h;
      given_are = n ∙ same_labels (used k.facets) (given (map_back m)) (sorted_rising nat_cmp_total (flat_map (λ f. f) k.facets)) (sorted_rising nat_cmp_total (map (λ r. r.1) (map_back m)))
          (λ z. ap (λ xs. has xs z) (sym labels) ∙ has-firsts m z ∙ sym (has-given (map_back m) z ∙ reaches-rising (turned m) z ∙ reaches-turned m z))
          ∙ ap given (sym q);
    }

-- pairs that differ have none that repeats
nothing_repeats : (ps : List (ℕ × ℕ)) (i : ℕ) (d : ℕ × ℕ) → Differ ps → i < length ps → (takes (take i ps) (get_or ps i d).0 ≡ false) × (reaches (take i ps) (get_or ps i d).1 ≡ false)
nothing_repeats [] i d differ l = absurd (omega (arith, l))
nothing_repeats (p ∷ ps) zero d differ l = (refl, refl)
nothing_repeats (p ∷ ps) (suc i) d differ l =
    let m : i < length ps = omega (arith, l) in
    let r : (takes (take i ps) (get_or ps i d).0 ≡ false) × (reaches (take i ps) (get_or ps i d).1 ≡ false) = nothing_repeats ps i d differ.2 m in
    (both_false (other (λ q. q.0) differ.0) r.0, both_false (other (λ q. q.1) differ.1) r.1)
  where
    here : (side : ℕ × ℕ → ℕ) (ps : List (ℕ × ℕ)) (i : ℕ) → i < length ps → list_any (λ q. nat_eq (side q) (side (get_or ps i d))) ps ≡ true
    here side [] i l = absurd (omega (arith, l))
    here side (q ∷ qs) zero l = or_left (nat_eq (side q) (side q)) (list_any (λ r. nat_eq (side r) (side q)) qs) (nat_eq_same (side q))
    here side (q ∷ qs) (suc i) l = or_right (nat_eq (side q) (side (get_or qs i d))) (list_any (λ r. nat_eq (side r) (side (get_or qs i d))) qs) (here side qs i (omega (arith, l)))

    other : (side : ℕ × ℕ → ℕ) → list_any (λ q. nat_eq (side q) (side p)) ps ≡ false → nat_eq (side p) (side (get_or ps i d)) ≡ false
    other side f = elim (two (nat_eq (side p) (side (get_or ps i d)))) [
      | inl e ↦ clash (list_any (λ q. nat_eq (side q) (side p)) ps) (ap (λ z. list_any (λ q. nat_eq (side q) z) ps) (nat_eq_is (side p) (side (get_or ps i d)) e) ∙ here side ps i (omega (arith, l))) f
      | inr e ↦ e
    ]

pub never_twice : (shown made seen ps : List (ℕ × ℕ)) (i : ℕ) → shown ≡ made → made ≡ turned seen → seen ≡ ps → IsMap ps → IsFirstTwice shown i → ⊥
never_twice shown made seen ps i e f g h twice =
    let d : Differ shown = subst Differ (sym (e ∙ f ∙ ap turned g)) (differ_turned ps h.differ) in
    let r : (takes (take i shown) (get_or shown i (0, 0)).0 ≡ false) × (reaches (take i shown) (get_or shown i (0, 0)).1 ≡ false) = nothing_repeats shown i (0, 0) d twice.inside in
    clash (repeats shown i) twice.there (both_false r.0 r.1)

pub positive_shown : (shown made seen ps : List (ℕ × ℕ)) → shown ≡ made → made ≡ turned seen → seen ≡ ps → IsMap ps → ArePositive shown
positive_shown shown made seen ps e f g h = subst ArePositive (sym (e ∙ f ∙ ap turned g)) (positive_turned ps h.positive)
