-- Which subsets of some labels are candidates, as a program decides it.
use Rattle.std.proofs.Common.{◌≡◌, ℕ, zero, suc, ◌+◌, ◌-◌, ◌<◌, ◌≤◌, Bool, true, false, cond, nat_eq, if◌then◌else◌, ◌||◌, ◌&&◌, Option, Some, None, List, [], ◌∷◌, ◌++◌, length, map, filter, sym, ◌∙◌, ap, refl, subst, arith, eq-eqb, append_assoc, length-append}
use Rattle.std.specs.List.{AllByRecursion}
use Rattle.std.specs.List.Sorted.{IsStrictlySortedBy}
use Rattle.std.specs.Option.{is_some, IsSome, SomeIff}
use Rattle.std.specs.Ordering.{nat_cmp}
use Rattle.std.specs.declared.cmp.Ordering.TheVariants.{Less}
use Rattle.std.specs.Result.{is_ok}
use Rattle.std.proofs.lemmas.Cmp.{nat_cmp_total}
use Rattle.std.proofs.lemmas.List.{map-append}
use Rattle.std.proofs.lemmas.List.Elements.{filter-append}
use Rattle.std.proofs.lemmas.List.Folds.{list_any-append}
use Rattle.complex_core.specs.Labels.{IsRising, has, with}
use Rattle.complex_core.specs.Subsets.{subsets_of}
use Rattle.complex_core.proofs.Sets.{Above, above_head, above_tail, above_cons, sorted_front, sorted_put}
use Rattle.complex_core.proofs.Faces.{less_cmp}
use Rattle.complex_core.proofs.Laws.{has-with, same_labels}
use Rattle.flip_rules.specs.Flips.{broken_rule_near}
use Rattle.flip_rules.specs.declared.flip.Flip.{Flip}
use Rattle.stars.specs.StarViews.{VertexStar, IsStar}
use Rattle.stars.specs.Candidates.{flip_of, opposite, is_candidate, flip_at}
use Rattle.stars.specs.CandidateLists.{belongs, candidates_within}
use Rattle.stars.proofs.Gathered.{judged}

-- ---- one face

some_if : (c : Bool) (f : Flip) → is_some (if c then Some f else None) ≡ c
some_if true f = refl
some_if false f = refl

pub told : (s : VertexStar) (f : List ℕ) (d : ℕ) (rows : List (List ℕ)) (o : Option Flip) (r : Bool) → IsStar s → 1 ≤ length f → length f ≤ s.dim → d ≡ s.dim → rows ≡ s.rows → o ≡ flip_at d rows f → r ≡ is_some o → r ≡ is_candidate s.rows (s.dim + 2 - length f) f
told s f d rows o r h some small ed er e is =
    is ∙ ap is_some (e ∙ (λ j. flip_at (ed j) (er j) f))
    ∙ some_if (is_ok (broken_rule_near s.dim s.rows [] f (opposite s.rows f))) (flip_of f (opposite s.rows f))
    ∙ judged s.dim s.rows f h.rising some small

-- ---- all subsets

begun_sized : (x n : ℕ) (ss : List (List ℕ)) → AllByRecursion (λ s. length s ≡ n) ss → AllByRecursion (λ s. length s ≡ suc n) (map (λ s. x ∷ s) ss)
begun_sized x n [] h = tt
begun_sized x n (s ∷ ss) h = (ap suc h.0, begun_sized x n ss h.1)

both_sized : (n : ℕ) (ss ts : List (List ℕ)) → AllByRecursion (λ s. length s ≡ n) ss → AllByRecursion (λ s. length s ≡ n) ts → AllByRecursion (λ s. length s ≡ n) (ss ++ ts)
both_sized n [] ts h g = g
both_sized n (s ∷ ss) ts h g = (h.0, both_sized n ss ts h.1 g)

all_sized : (n : ℕ) (xs : List ℕ) → AllByRecursion (λ s. length s ≡ n) (subsets_of n xs)
all_sized zero xs = (refl, tt)
all_sized (suc n) [] = tt
all_sized (suc n) (x ∷ xs) = both_sized (suc n) (map (λ s. x ∷ s) (subsets_of n xs)) (subsets_of (suc n) xs) (begun_sized x n (subsets_of n xs) (all_sized n xs)) (all_sized (suc n) xs)

two_tests : (s : VertexStar) (i : ℕ) (fs : List (List ℕ)) → AllByRecursion (λ f. length f ≡ s.dim + 1 - i) fs → filter (belongs s i) fs ≡ filter (is_candidate s.rows (i + 1)) (filter (λ f. has f s.vertex) fs)
two_tests s i [] h = refl
two_tests s i (f ∷ fs) h =
    ap (λ c. cond (c && (has f s.vertex && is_candidate s.rows (i + 1) f)) (f ∷ filter (belongs s i) fs) (filter (belongs s i) fs)) (eq-eqb (length f) (s.dim + 1 - i) h.0)
    ∙ by_vertex (two_tests s i fs h.1) (has f s.vertex)
  where
    by_vertex : filter (belongs s i) fs ≡ filter (is_candidate s.rows (i + 1)) (filter (λ g. has g s.vertex) fs) → (c : Bool) → cond (c && is_candidate s.rows (i + 1) f) (f ∷ filter (belongs s i) fs) (filter (belongs s i) fs) ≡ filter (is_candidate s.rows (i + 1)) (cond c (f ∷ filter (λ g. has g s.vertex) fs) (filter (λ g. has g s.vertex) fs))
    by_vertex rest true = ap (λ gs. cond (is_candidate s.rows (i + 1) f) (f ∷ gs) gs) rest
    by_vertex rest false = rest

pub found_within : (s : VertexStar) (i n : ℕ) (labels : List ℕ) → n ≡ s.dim + 1 - i → filter (belongs s i) (subsets_of n labels) ≡ candidates_within s i labels
unfolding candidates_within
found_within s i n labels e = ap (λ m. filter (belongs s i) (subsets_of m labels)) e ∙ two_tests s i (subsets_of (s.dim + 1 - i) labels) (all_sized (s.dim + 1 - i) labels)

-- ---- the subsets one label after another

-- a label above those of a face
pub with_above : (f rest : List ℕ) (x : ℕ) → IsRising (f ++ x ∷ rest) → with f x ≡ f ++ x ∷ []
with_above f rest x r =
    let all : IsStrictlySortedBy nat_cmp (f ++ x ∷ rest) = above_tail nat_cmp 0 (f ++ x ∷ rest) r in
    let front : IsStrictlySortedBy nat_cmp (f ++ x ∷ []) = sorted_front nat_cmp (f ++ x ∷ []) rest (let P : List ℕ → Type 0 = λ ys. IsStrictlySortedBy nat_cmp ys in subst P (sym (append_assoc f (x ∷ []) rest)) all) in
    same_labels (with f x) (f ++ x ∷ []) (sorted_put nat_cmp_total x f (sorted_front nat_cmp f (x ∷ rest) all)) front
    (λ z. has-with f x z ∙ either (nat_eq x z) (has f z) ∙ sym (list_any-append (λ y. nat_eq y z) f (x ∷ [])))
  where
    either : (p q : Bool) → (p || q) ≡ (q || (p || false))
    either true true = refl
    either true false = refl
    either false true = refl
    either false false = refl

module _ (test : List ℕ → Bool) where
  -- the sets of a face and n of some labels that pass a test
  abbrev pub picked : List ℕ → ℕ → List ℕ → List (List ℕ)
  picked f n labels = filter test (map (λ s. f ++ s) (subsets_of n labels))

  longer_face : (f : List ℕ) (x : ℕ) (ss : List (List ℕ)) → map (λ s. f ++ s) (map (λ s. x ∷ s) ss) ≡ map (λ s. (f ++ x ∷ []) ++ s) ss
  longer_face f x [] = refl
  longer_face f x (s ∷ ss) = λ i. sym (append_assoc f (x ∷ []) s) i ∷ longer_face f x ss i

  -- those with the first label, and those without it
  pub picked_on : (f : List ℕ) (n x : ℕ) (rest : List ℕ) → picked f (suc n) (x ∷ rest) ≡ picked (f ++ x ∷ []) n rest ++ picked f (suc n) rest
  picked_on f n x rest =
      ap (filter test) (map-append (λ s. f ++ s) (map (λ s. x ∷ s) (subsets_of n rest)) (subsets_of (suc n) rest) ∙ ap (λ ss. ss ++ map (λ s. f ++ s) (subsets_of (suc n) rest)) (longer_face f x (subsets_of n rest)))
      ∙ filter-append test (map (λ s. (f ++ x ∷ []) ++ s) (subsets_of n rest)) (map (λ s. f ++ s) (subsets_of (suc n) rest))

  pub picked_all : (n : ℕ) (labels : List ℕ) → picked [] n labels ≡ filter test (subsets_of n labels)
  picked_all n labels = ap (filter test) (same (subsets_of n labels))
    where
      same : (ss : List (List ℕ)) → map (λ s. [] ++ s) ss ≡ ss
      same [] = refl
      same (s ∷ ss) = ap (λ ts. s ∷ ts) (same ss)

-- ---- as the program goes over them

above_others : (k x : ℕ) (f rest : List ℕ) → Above nat_cmp k (f ++ x ∷ rest) → Above nat_cmp k (f ++ rest)
above_others k x [] rest a = a.1
above_others k x (y ∷ f) rest a = (a.0, above_others k x f rest a.1)

sorted_others : (x : ℕ) (f rest : List ℕ) → IsStrictlySortedBy nat_cmp (f ++ x ∷ rest) → IsStrictlySortedBy nat_cmp (f ++ rest)
sorted_others x [] rest s = above_tail nat_cmp x rest s
sorted_others x (y ∷ f) rest s = above_cons nat_cmp y (f ++ rest) (above_others y x f rest (above_head nat_cmp y (f ++ x ∷ rest) s)) (sorted_others x f rest (above_tail nat_cmp y (f ++ x ∷ rest) s))

-- what the walk asks of the labels that are left
pub without_first : (f labels rest : List ℕ) (x : ℕ) → IsRising (f ++ labels) → labels ≡ x ∷ rest → IsRising (f ++ rest)
without_first f labels rest x r e = let P : List ℕ → Type 0 = λ ys. IsRising (f ++ ys) in sorted_others x (0 ∷ f) rest (subst P e r)

more_is : (f labels rest more : List ℕ) (x : ℕ) → IsRising (f ++ labels) → labels ≡ x ∷ rest → more ≡ with f x → more ≡ f ++ x ∷ []
more_is f labels rest more x r e is = let P : List ℕ → Type 0 = λ ys. IsRising (f ++ ys) in is ∙ with_above f rest x (subst P e r)

pub with_first : (f labels rest more : List ℕ) (x : ℕ) → IsRising (f ++ labels) → labels ≡ x ∷ rest → more ≡ with f x → IsRising (more ++ rest)
with_first f labels rest more x r e is =
    let P : List ℕ → Type 0 = λ ys. IsRising ys in
    subst P (ap (λ ys. f ++ ys) e ∙ sym (append_assoc f (x ∷ []) rest) ∙ ap (λ g. g ++ rest) (sym (more_is f labels rest more x r e is))) r

pub one_longer : (f labels rest more : List ℕ) (x : ℕ) → IsRising (f ++ labels) → labels ≡ x ∷ rest → more ≡ with f x → length more ≡ length f + 1
one_longer f labels rest more x r e is = omega (arith, ap length (more_is f labels rest more x r e is), length-append f (x ∷ []))

last_above : (k x : ℕ) (f rest : List ℕ) → Above nat_cmp k (f ++ x ∷ rest) → nat_cmp k x ≡ Less
last_above k x [] rest a = a.0
last_above k x (y ∷ f) rest a = last_above k x f rest a.1

-- so the label can be added
pub can_add : (f labels rest : List ℕ) (x n : ℕ) (o : Option (List ℕ)) → IsRising (f ++ labels) → labels ≡ x ∷ rest → length f + n ≤ 8 → (n ≡ 0 → ⊥) → SomeIff o ((0 < x) × (length (with f x) ≤ 8)) (with f x) → IsSome o
can_add f labels rest x n None r e few some s =
    let P : List ℕ → Type 0 = λ ys. IsRising (f ++ ys) in
    absurd (s (less_cmp 0 x (last_above 0 x f rest (above_head nat_cmp 0 (f ++ x ∷ rest) (subst P e r))), omega (arith, one_longer f labels rest (with f x) x r e refl, few, some)))
can_add f labels rest x n (Some w) r e few some s = refl

pub adds_both : (test : List ℕ → Bool) (f labels rest more : List ℕ) (x n : ℕ) (old first made : List (List ℕ)) → IsRising (f ++ labels) → labels ≡ x ∷ rest → more ≡ with f x → (n ≡ 0 → ⊥) → first ≡ old ++ picked test more (n - 1) rest → made ≡ first ++ picked test f n rest → made ≡ old ++ picked test f n labels
adds_both test f labels rest more x zero old first made r e is some ef em = absurd (some refl)
adds_both test f labels rest more x (suc n) old first made r e is some ef em =
    em
    ∙ ap (λ fs. fs ++ picked test f (suc n) rest) (ef ∙ (λ j. old ++ picked test (more_is f labels rest more x r e is j) (one n j) rest))
    ∙ append_assoc old (picked test (f ++ x ∷ []) n rest) (picked test f (suc n) rest)
    ∙ ap (λ fs. old ++ fs) (sym (ap (picked test f (suc n)) e ∙ picked_on test f n x rest))
  where
    one : (k : ℕ) → suc k - 1 ≡ k
    one k = omega arith

pub all_found : (s : VertexStar) (i n : ℕ) (f given labels : List ℕ) (made none : List (List ℕ)) → f ≡ [] → given ≡ labels → none ≡ [] → made ≡ none ++ picked (belongs s i) f n given → n ≡ s.dim + 1 - i → made ≡ candidates_within s i labels
all_found s i n f given labels made none ef el en e size =
    e ∙ (λ j. en j ++ picked (belongs s i) (ef j) n (el j)) ∙ picked_all (belongs s i) n labels ∙ found_within s i n labels size
