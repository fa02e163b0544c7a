-- What each candidate is.
use Rattle.std.proofs.Common.{◌≡◌, inl, inr, ℕ, zero, suc, ◌+◌, ◌-◌, ◌%◌, ◌<◌, ◌≤◌, Bool, true, false, not, nat_eq, ◌||◌, ◌&&◌, cond, if◌then◌else◌, Option, Some, None, Ok, Err, List, [], ◌∷◌, length, map, filter, slice_get, sym, ◌∙◌, ap, refl, subst, arith}
use Rattle.std.specs.List.{AllByRecursion, list_any, flat_map}
use Rattle.std.specs.List.Sorted.{IsStrictlySortedBy}
use Rattle.std.specs.Option.{option_or}
use Rattle.std.specs.Cmp.{first_so, second_so}
use Rattle.std.specs.Cmp.Derive.{both_true}
use Rattle.std.specs.Cmp.Lexicographic.{pointwise}
use Rattle.std.specs.Ordering.{nat_cmp}
use Rattle.std.specs.declared.cmp.Ordering.TheVariants.{Less}
use Rattle.std.proofs.lemmas.List.Folds.{list_any-append}
use Rattle.std.proofs.lemmas.List.Kept.{IsStrictlySortedBy-filter}
use Rattle.complex_core.specs.Labels.{IsFace, has, holds, union, without, face_cmp}
use Rattle.complex_core.specs.Rising.{rising}
use Rattle.complex_core.specs.Complexes.{IsFacet, over, is_held}
use Rattle.complex_core.specs.Maps.{used}
use Rattle.complex_core.specs.Subsets.{subsets_of}
use Rattle.complex_core.proofs.Sets.{Above, above_tail, above_cons, sorted_none, any-rising, some_rising, each_rising}
use Rattle.complex_core.proofs.Faces.{cmp_less, equal_cmp}
use Rattle.complex_core.proofs.Laws.{both_ways, nat_eq_is, nat_eq_same, has-without, or_left, or_right, holds_has, holds_each, listed, listed-filter, listed-rising, same_lists, same_labels, same_sets_is, same_set_itself, length-without, sorted_without}
use Rattle.complex_core.proofs.Runs.{held_alike}
use Rattle.complex_core.proofs.SubsetLists.{two, clash, Chosen, chosen_is, fewer, part_is_face, above_from}
use Rattle.flip_rules.specs.Flips.{join_boundary, link_is, has_shape}
use Rattle.flip_rules.specs.declared.flip.Flip.{Flip}
use Rattle.flip_rules.specs.declared.flip.Illegal.TheVariants.{BIsFace}
use Rattle.flip_rules.proofs.Links.{same_lists_is, same_lists_from}
use Rattle.flip_rules.proofs.Legal.{verdict, shape_from}
use Rattle.star_laws.specs.Stars.{star}
use Rattle.stars.specs.StarViews.{VertexStar, IsStar}
use Rattle.stars.specs.Candidates.{flip_of, opposite, is_candidate, faces_at, candidate_faces}
use Rattle.anneal_plan.specs.Proposals.{inner, entering, candidates, chosen, first_chosen, falling}
use Rattle.anneal_plan.specs.Fits.{FitsStar, OnlyBCanBreak}
use Rattle.stars.proofs.Gathered.{all_of, apart, sorted_opposite}
use Rattle.complex_core.proofs.Sorting.{each_filter}
use Rattle.complex_core.proofs.Renaming.{labels_above}
use Rattle.complex_core.proofs.Members.{has-less}
use Rattle.complex_core.proofs.SetLists.{listed-flat_map, of_kind, used_label}

-- ---- facts of members

all_listed : (all xs : List (List ℕ)) → ((a : List ℕ) → listed xs a ≡ true → listed all a ≡ true) → AllByRecursion (λ a. listed all a ≡ true) xs
all_listed all [] h = tt
all_listed all (x ∷ xs) h = (
  h x (or_left (pointwise nat_eq x x) (listed xs x) (same_set_itself x)),
  all_listed all xs (λ a t. h a (or_right (pointwise nat_eq x a) (listed xs a) t)),
)

-- a label that some facets use is used by all of them
used_among : (rows : List (List ℕ)) (q : List ℕ → Bool) (z : ℕ) → has (used (filter q rows)) z ≡ true → has (used rows) z ≡ true
used_among rows q z t =
    any-rising nat_cmp equal_cmp (λ y. nat_eq y z) (all_of rows) ∙ wider rows (sym (any-rising nat_cmp equal_cmp (λ y. nat_eq y z) (all_of (filter q rows))) ∙ t)
  where
    wider : (fs : List (List ℕ)) → has (all_of (filter q fs)) z ≡ true → has (all_of fs) z ≡ true
    wider [] u = u
    wider (f ∷ fs) u = list_any-append (λ y. nat_eq y z) f (all_of fs) ∙ elim (two (q f)) [
      | inl e ↦ either (has f z) (has (all_of (filter q fs)) z) (sym (ap (λ b. has (all_of (cond b (f ∷ filter q fs) (filter q fs))) z) e ∙ list_any-append (λ y. nat_eq y z) f (all_of (filter q fs))) ∙ u) (wider fs)
      | inr e ↦ or_right (has f z) (has (all_of fs) z) (wider fs (sym (ap (λ b. has (all_of (cond b (f ∷ filter q fs) (filter q fs))) z) e) ∙ u))
    ]
      where
        either : (a b : Bool) → (a || b) ≡ true → (b ≡ true → has (all_of fs) z ≡ true) → (a || has (all_of fs) z) ≡ true
        either true b v g = refl
        either false b v g = g v

-- ---- index 0

-- sets of one size, one of which holds the other, are equal
same_size : (f a : List ℕ) → IsStrictlySortedBy nat_cmp f → IsStrictlySortedBy nat_cmp a → length f ≡ length a → holds f a ≡ true → f ≡ a
same_size f a r s e h = same_labels f a r s (λ z. both_ways (has f z) (has a z) (λ t. elim (two (has a z)) [ inl u ↦ u | inr u ↦ absurd (too_few z t u) ]) (λ t. holds_has f a z h t))
  where
    too_few : (z : ℕ) → has f z ≡ true → has a z ≡ false → ⊥
    too_few z t u =
        let part : holds (without f z) a ≡ true = holds_each (without f z) a (λ y v. has-without f z y ∙ both_true (holds_has f a y h v) (other y v)) in
        omega (arith, fewer a (without f z) s (sorted_without f z r) part, length-without f z r t, e)
      where
        other : (y : ℕ) → has a y ≡ true → not (nat_eq y z) ≡ true
        other y v = elim (two (nat_eq y z)) [ inl g ↦ clash (has a y) v (ap (has a) (nat_eq_is y z g) ∙ u) | inr g ↦ ap not g ]

over_itself : (d : ℕ) (rows : List (List ℕ)) (a : List ℕ) → IsStrictlySortedBy face_cmp rows → AllByRecursion (IsFacet d) rows → listed rows a ≡ true → over rows a ≡ a ∷ []
over_itself d rows a r pure t =
    same_lists (over rows a) (a ∷ []) (IsStrictlySortedBy-filter face_cmp (λ f. holds f a) rows r) (above_cons face_cmp a [] tt (sorted_none face_cmp))
    (λ f. listed-filter (λ g. holds g a) rows f ∙ both_ways (listed rows f && holds f a) (pointwise nat_eq a f || false)
    (λ u.
    let there : listed rows f ≡ true = first_so (listed rows f) (holds f a) u in
    let g : IsFacet d f = of_kind (IsFacet d) rows f pure there in
    let e : f ≡ a = same_size f a (above_tail nat_cmp 0 f g.face.rising) (above_tail nat_cmp 0 a own.face.rising) (g.size ∙ sym own.size) (second_so (listed rows f) (holds f a) u) in
    or_left (pointwise nat_eq a f) false (ap (pointwise nat_eq a) e ∙ same_set_itself a))
    (λ u.
    let e : a ≡ f = same_sets_is a f (one (pointwise nat_eq a f) u) in
    ap (λ g. listed rows g && holds g a) (sym e) ∙ both_true t (holds_each a a (λ z v. v))))
  where
    own : IsFacet d a
    own = of_kind (IsFacet d) rows a pure t

    one : (b : Bool) → (b || false) ≡ true → b ≡ true
    one true u = refl
    one false u = u

side_itself : (a : List ℕ) (x : ℕ) → rising face_cmp (join_boundary a (x ∷ [])) ≡ a ∷ []
side_itself a x = ap (λ b. union a (cond (not b) (x ∷ []) []) ∷ []) (nat_eq_same x)

enter_one : (s : VertexStar) (free : List ℕ) (x : ℕ) (a : List ℕ) → IsStar s → 0 < x → has free x ≡ true → listed s.rows a ≡ true → has a x ≡ false → FitsStar s free (flip_of a (x ∷ []))
enter_one s free x a h pos there t out =
    let own : IsFacet s.dim a = of_kind (IsFacet s.dim) s.rows a h.pure t in
    record {
      vertex = of_kind (λ f. has f s.vertex ≡ true) s.rows a h.held t;
      faces = record { first = own.face; second = record { few = omega arith; rising = above_cons nat_cmp 0 (x ∷ []) (cmp_less 0 x pos, tt) (above_cons nat_cmp x [] tt (sorted_none nat_cmp)) } };
      shape = record {
        first = λ z. omega (arith, z, own.size);
        second = λ z. omega (arith, z);
        apart = λ z u. elim (two (nat_eq x z)) [ inl g ↦ clash (has a z) u (ap (has a) (sym (nat_eq_is x z g)) ∙ out) | inr g ↦ ap (λ b. b || false) g ];
        sizes = omega (arith, own.size);
      };
      link = over_itself s.dim s.rows a h.rising h.pure t ∙ sym (side_itself a x);
      first = λ z u. used_label s.rows a z t u;
      second = λ z u. or_right (has (used s.rows) z) (has free z) (ap (has free) (sym (nat_eq_is x z (one (nat_eq x z) u))) ∙ there);
    }
  where
    one : (b : Bool) → (b || false) ≡ true → b ≡ true
    one true u = refl
    one false u = u

enter_all : (s : VertexStar) (free : List ℕ) (x : ℕ) (rows : List (List ℕ)) → IsStar s → 0 < x → has free x ≡ true → AllByRecursion (λ a. listed s.rows a ≡ true) rows → AllByRecursion (FitsStar s free) (map (λ a. flip_of a (x ∷ [])) (filter (λ f. not (has f x)) rows))
enter_all s free x [] h pos there t = tt
enter_all s free x (a ∷ rows) h pos there t =
    let P : List (List ℕ) → Type 0 = λ fs. AllByRecursion (FitsStar s free) (map (λ c. flip_of c (x ∷ [])) fs) in
    elim (two (has a x)) [
      | inl e ↦ subst P (sym (ap (λ b. cond (not b) (a ∷ filter (λ f. not (has f x)) rows) (filter (λ f. not (has f x)) rows)) e)) (enter_all s free x rows h pos there t.1)
      | inr e ↦ subst P (sym (ap (λ b. cond (not b) (a ∷ filter (λ f. not (has f x)) rows) (filter (λ f. not (has f x)) rows)) e)) (enter_one s free x a h pos there t.0 e, enter_all s free x rows h pos there t.1)
    ]

-- a label that is one of the free ones
pub record IsFree (free : List ℕ) (x : ℕ) : Type 0 where
  pub positive : 0 < x
  pub there : has free x ≡ true

entering_fit : (s : VertexStar) (free : List ℕ) (fresh : Option ℕ) → IsStar s → ((x : ℕ) → fresh ≡ Some x → IsFree free x) → AllByRecursion (FitsStar s free) (entering s fresh)
unfolding entering
entering_fit s free None h f = tt
entering_fit s free (Some x) h f = enter_all s free x s.rows h (f x refl).positive (f x refl).there (all_listed s.rows s.rows (λ a t. t))

-- ---- the other indices

-- a face with the vertex, of so many labels
record IsFaceAt (s : VertexStar) (n : ℕ) (a : List ℕ) : Type 0 where
  face : IsFace a
  held : has a s.vertex ≡ true
  size : length a ≡ n
  used : (z : ℕ) → has a z ≡ true → has (used s.rows) z ≡ true

in_row : (s : VertexStar) (n : ℕ) (row a : List ℕ) → IsStar s → listed s.rows row ≡ true → listed (filter (λ t. has t s.vertex) (subsets_of n row)) a ≡ true → IsFaceAt s n a
in_row s n row a h there t =
    let both : (listed (subsets_of n row) a && has a s.vertex) ≡ true = sym (listed-filter (λ f. has f s.vertex) (subsets_of n row) a) ∙ t in
    let own : IsFacet s.dim row = of_kind (IsFacet s.dim) s.rows row h.pure there in
    let c : Chosen n row a = chosen_is n row a (above_tail nat_cmp 0 row own.face.rising) (first_so (listed (subsets_of n row) a) (has a s.vertex) both) in
    record {
      face = part_is_face row a own.face c.rises c.part;
      held = second_so (listed (subsets_of n row) a) (has a s.vertex) both;
      size = c.size;
      used = λ z u. used_label s.rows row z there (holds_has row a z c.part u);
    }

in_rows : (s : VertexStar) (n : ℕ) (a : List ℕ) (rows : List (List ℕ)) → IsStar s → AllByRecursion (λ f. listed s.rows f ≡ true) rows → list_any (λ row. listed (filter (λ t. has t s.vertex) (subsets_of n row)) a) rows ≡ true → IsFaceAt s n a
in_rows s n a [] h l t = clash true refl (sym t)
in_rows s n a (row ∷ rows) h l t = elim (two (listed (filter (λ f. has f s.vertex) (subsets_of n row)) a)) [
  | inl e ↦ in_row s n row a h l.0 e
  | inr e ↦ in_rows s n a rows h l.1 (sym (ap (λ b. b || list_any (λ w. listed (filter (λ f. has f s.vertex) (subsets_of n w)) a) rows) e) ∙ t)
]

face_at : (s : VertexStar) (n : ℕ) (a : List ℕ) → IsStar s → listed (faces_at s.rows s.vertex n) a ≡ true → IsFaceAt s n a
unfolding faces_at
face_at s n a h t =
    let parts : List (List ℕ) = flat_map (λ row. filter (λ f. has f s.vertex) (subsets_of n row)) s.rows in
    in_rows s n a s.rows h (all_listed s.rows s.rows (λ f u. u))
    (sym (listed-rising parts a ∙ listed-flat_map (λ row. filter (λ f. has f s.vertex) (subsets_of n row)) s.rows a) ∙ t)

opposite_face : (s : VertexStar) (a : List ℕ) → IsStar s → length (opposite s.rows a) ≤ 8 → IsFace (opposite s.rows a)
opposite_face s a h few =
    let near : List (List ℕ) = over s.rows a in
    let all : List ℕ = used near in
    let above : Above nat_cmp 0 all = each_rising nat_cmp (λ y. nat_cmp 0 y ≡ Less) (all_of near) (labels_above s.dim near (each_filter (IsFacet s.dim) (λ f. holds f a) s.rows h.pure)) in
    let part : holds all (opposite s.rows a) ≡ true = holds_each all (opposite s.rows a) (λ z t. first_so (has all z) (not (has a z)) (sym (has-less all a z) ∙ t)) in
    record { few = few; rising = above_cons nat_cmp 0 (opposite s.rows a) (above_from 0 all (opposite s.rows a) above part) (sorted_opposite s.rows a) }

inside_one : (s : VertexStar) (free : List ℕ) (i n : ℕ) (a : List ℕ) → IsStar s → 1 ≤ i → i ≤ s.dim → n ≡ s.dim + 1 - i → IsFaceAt s n a → is_candidate s.rows (i + 1) a ≡ true → FitsStar s free (flip_of a (opposite s.rows a))
inside_one s free i n a h low high e f t =
    let b : List ℕ = opposite s.rows a in
    let size : length b ≡ i + 1 = nat_eq_is (length b) (i + 1) (first_so (nat_eq (length b) (i + 1)) (link_is s.rows a b) t) in
    record {
      vertex = f.held;
      faces = record { first = f.face; second = opposite_face s a h (omega (arith, size, high, h.low)) };
      shape = record {
        first = λ z. omega (arith, z, f.size, e, high);
        second = λ z. omega (arith, z, size);
        apart = apart s.rows a;
        sizes = omega (arith, size, f.size, e, high);
      };
      link = same_lists_is (over s.rows a) (rising face_cmp (join_boundary a b)) (second_so (nat_eq (length b) (i + 1)) (link_is s.rows a b) t);
      first = f.used;
      second = λ z u. or_left (has (used s.rows) z) (has free z) (used_among s.rows (λ g. holds g a) z (first_so (has (used (over s.rows a)) z) (not (has a z)) (sym (has-less (used (over s.rows a)) a z) ∙ u)));
    }

inside_all : (s : VertexStar) (free : List ℕ) (i n : ℕ) (faces : List (List ℕ)) → IsStar s → 1 ≤ i → i ≤ s.dim → n ≡ s.dim + 1 - i → AllByRecursion (λ a. listed (faces_at s.rows s.vertex n) a ≡ true) faces → AllByRecursion (FitsStar s free) (map (λ a. flip_of a (opposite s.rows a)) (filter (is_candidate s.rows (i + 1)) faces))
inside_all s free i n [] h low high e t = tt
inside_all s free i n (a ∷ faces) h low high e t =
    let P : List (List ℕ) → Type 0 = λ fs. AllByRecursion (FitsStar s free) (map (λ c. flip_of c (opposite s.rows c)) fs) in
    elim (two (is_candidate s.rows (i + 1) a)) [
      | inl u ↦ subst P (sym (ap (λ b. cond b (a ∷ filter (is_candidate s.rows (i + 1)) faces) (filter (is_candidate s.rows (i + 1)) faces)) u)) (inside_one s free i n a h low high e (face_at s n a h t.0) u, inside_all s free i n faces h low high e t.1)
      | inr u ↦ subst P (sym (ap (λ b. cond b (a ∷ filter (is_candidate s.rows (i + 1)) faces) (filter (is_candidate s.rows (i + 1)) faces)) u)) (inside_all s free i n faces h low high e t.1)
    ]

inner_fit : (s : VertexStar) (free : List ℕ) (i : ℕ) → IsStar s → 1 ≤ i → i ≤ s.dim → AllByRecursion (FitsStar s free) (inner s i)
unfolding inner candidate_faces
inner_fit s free i h low high =
    let n : ℕ = s.dim + 1 - i in
    inside_all s free i n (faces_at s.rows s.vertex n) h low high refl (all_listed (faces_at s.rows s.vertex n) (faces_at s.rows s.vertex n) (λ a t. t))

candidates_fit : (s : VertexStar) (free : List ℕ) (fresh : Option ℕ) (i : ℕ) → IsStar s → ((x : ℕ) → fresh ≡ Some x → IsFree free x) → i ≤ s.dim → AllByRecursion (FitsStar s free) (candidates s fresh i)
candidates_fit s free fresh i h f high =
    let P : List Flip → Type 0 = λ fs. AllByRecursion (FitsStar s free) fs in
    elim (two (nat_eq i 0)) [
      | inl e ↦ subst P (sym (ap (λ b. cond b (entering s fresh) (inner s i)) e)) (entering_fit s free fresh h f)
      | inr e ↦ subst P (sym (ap (λ b. cond b (entering s fresh) (inner s i)) e)) (inner_fit s free i h (positive i e) high)
    ]
  where
    positive : (k : ℕ) → nat_eq k 0 ≡ false → 1 ≤ k
    positive zero e = clash true refl e
    positive (suc k) e = omega arith

-- ---- the chosen one

pub all_get : {X : Type 0} (P : X → Type 0) (xs : List X) (n : ℕ) (x : X) → AllByRecursion P xs → slice_get xs n ≡ Some x → P x
all_get P [] n x h e = cc
all_get P (y ∷ ys) zero x h e = let p : y ≡ x = cc in subst P p h.0
all_get P (y ∷ ys) (suc n) x h e = all_get P ys n x h.1 e

pub first_fits : (P : Flip → Type 0) (flips : ℕ → List Flip) (word : ℕ) (is : List ℕ) (f : Flip) → AllByRecursion (λ i. AllByRecursion P (flips i)) is → first_chosen flips word is ≡ Some f → P f
first_fits P flips word [] f all e = cc
first_fits P flips word (i ∷ more) f all e = first_of (first_chosen flips word more) (chosen (flips i) word) refl e (first_fits P flips word more f all.1) (λ x q. all_get P (flips i) (word % length (flips i)) x all.0 q)
  where
    first_of : (rest o : Option Flip) → chosen (flips i) word ≡ o → option_or o rest ≡ Some f → (rest ≡ Some f → P f) → ((x : Flip) → chosen (flips i) word ≡ Some x → P x) → P f
    first_of rest None q g h k = h g
    first_of rest (Some x) q g h k = let p : x ≡ f = cc in subst P p (k x q)

-- the indices are at most the first
falling_each : (P : ℕ → Type 0) (d high n : ℕ) → high ≤ d → ((i : ℕ) → i ≤ d → P i) → AllByRecursion P (falling high n)
falling_each P d high zero h all = tt
falling_each P d high (suc n) h all = (all high h, falling_each P d (high - 1) n (omega (arith, h)) all)

pub proposal_fits : (s : VertexStar) (free : List ℕ) (fresh : Option ℕ) (word high n : ℕ) (f : Flip) → IsStar s → ((x : ℕ) → fresh ≡ Some x → IsFree free x) → high ≤ s.dim → first_chosen (candidates s fresh) word (falling high n) ≡ Some f → FitsStar s free f
proposal_fits s free fresh word high n f h free_is low e =
    first_fits (FitsStar s free) (candidates s fresh) word (falling high n) f (falling_each (λ i. AllByRecursion (FitsStar s free) (candidates s fresh i)) s.dim high n low (λ i l. candidates_fit s free fresh i h free_is l)) e

-- ---- no candidate

get_some : {X : Type 0} (xs : List X) (n : ℕ) → n < length xs → slice_get xs n ≡ None → ⊥
get_some [] n l e = absurd (omega (arith, l))
get_some (x ∷ xs) zero l e = cc
get_some (x ∷ xs) (suc n) l e = get_some xs n (let g : n < length xs = omega (arith, l) in g) e

none_chosen : (flips : List Flip) (word : ℕ) → chosen flips word ≡ None → flips ≡ []
none_chosen [] word e = refl
none_chosen (f ∷ fs) word e = absurd (get_some (f ∷ fs) (word % length (f ∷ fs)) (omega arith) e)

pub none_there : (flips : ℕ → List Flip) (word : ℕ) (is : List ℕ) → first_chosen flips word is ≡ None → AllByRecursion (λ i. flips i ≡ []) is
none_there flips word [] e = tt
none_there flips word (i ∷ more) e =
    let p : (chosen (flips i) word ≡ None) × (first_chosen flips word more ≡ None) = both_none (chosen (flips i) word) (first_chosen flips word more) e in
    (none_chosen (flips i) word p.0, none_there flips word more p.1)
  where
    both_none : (o r : Option Flip) → option_or o r ≡ None → (o ≡ None) × (r ≡ None)
    both_none None r g = (refl, g)
    both_none (Some x) r g = cc

pub none_from : (flips : ℕ → List Flip) (word : ℕ) (is : List ℕ) → AllByRecursion (λ i. flips i ≡ []) is → first_chosen flips word is ≡ None
none_from flips word [] h = refl
none_from flips word (i ∷ more) h = ap (λ fs. option_or (chosen fs word) (first_chosen flips word more)) h.0 ∙ none_from flips word more h.1

-- ---- on a complex with this star

over_star : (fs : List (List ℕ)) (p : ℕ) (a : List ℕ) → has a p ≡ true → over (star fs p) a ≡ over fs a
over_star [] p a h = refl
over_star (f ∷ fs) p a h = elim (two (holds f (p ∷ []))) [
  | inl e ↦
      ap (λ b. over (cond b (f ∷ star fs p) (star fs p)) a) e
      ∙ ap (λ gs. cond (holds f a) (f ∷ gs) gs) (over_star fs p a h)
  | inr e ↦
      ap (λ b. over (cond b (f ∷ star fs p) (star fs p)) a) e ∙ over_star fs p a h
      ∙ sym (ap (λ b. cond b (f ∷ over fs a) (over fs a)) (not_held e))
]
  where
    not_held : holds f (p ∷ []) ≡ false → holds f a ≡ false
    not_held e = elim (two (holds f a)) [
      | inl t ↦ clash (holds f (p ∷ [])) (both_true (holds_has f a p t h) refl) e
      | inr t ↦ t
    ]

pub only_b_can_break : OnlyBCanBreak
only_b_can_break k s free f is fits =
    let a : List ℕ = f.a in
    let b : List ℕ = f.b in
    let near : over k.facets a ≡ over s.rows a = sym (ap (λ rs. over rs a) is.rows ∙ over_star k.facets s.vertex a fits.vertex) in
    let link : link_is k.facets a b ≡ true = same_lists_from (over k.facets a) (rising face_cmp (join_boundary a b)) (near ∙ fits.link) in
    let shape : has_shape k.dim a b ≡ true = ap (λ d. has_shape d a b) (sym is.dim) ∙ shape_from s.dim a b fits.shape in
    let held : is_held k.facets a ≡ true = held_alike k.facets s.rows a near ∙ held_some s.rows a (let g : 0 < length (over s.rows a) = omega (arith, ap length fits.link, some_rising face_cmp (join_boundary a b) (some_sides a b (let z : 0 < length b = omega (arith, fits.shape.second) in z))) in g) in
    judged_by (has_shape k.dim a b) (is_held k.facets a) (link_is k.facets a b) (is_held k.facets b) shape held link
  where
    judged_by : (s h l n : Bool) → s ≡ true → h ≡ true → l ≡ true → verdict s h l n ≡ (if n then Err BIsFace else Ok tt)
    judged_by s h l n p q r = (λ i. verdict (p i) (q i) (r i) n)

    some_sides : (a b : List ℕ) → 0 < length b → 0 < length (join_boundary a b)
    some_sides a [] z = absurd (omega (arith, z))
    some_sides a (x ∷ b) z = omega arith

    held_some : (fs : List (List ℕ)) (a : List ℕ) → 0 < length (over fs a) → is_held fs a ≡ true
    held_some [] a z = absurd (omega (arith, z))
    held_some (g ∷ fs) a z = elim (two (holds g a)) [
      | inl t ↦ or_left (holds g a) (is_held fs a) t
      | inr t ↦ or_right (holds g a) (is_held fs a) (held_some fs a (let y : 0 < length (over fs a) = omega (arith, z, ap length (ap (λ c. cond c (g ∷ over fs a) (over fs a)) t)) in y))
    ]
