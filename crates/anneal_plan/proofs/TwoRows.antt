-- The flip of a face that is a candidate, from the first two rows over the face.
use Rattle.std.proofs.Common.{◌≡◌, inl, inr, ℕ, zero, suc, ◌+◌, ◌-◌, ◌%◌, ◌<◌, ◌≤◌, Bool, true, false, not, nat_eq, ◌||◌, ◌&&◌, Option, Some, None, List, [], ◌∷◌, length, slice_get, sym, ◌∙◌, ap, refl, subst, arith}
use Rattle.std.specs.List.Sorted.{IsStrictlySortedBy}
use Rattle.std.specs.Option.{option_map, SomeIff}
use Rattle.std.specs.Ordering.{nat_cmp}
use Rattle.std.specs.declared.cmp.Ordering.TheVariants.{Less, Equal}
use Rattle.std.specs.Cmp.{first_so, second_so}
use Rattle.std.specs.Cmp.Derive.{both_true}
use Rattle.std.specs.Cmp.Lexicographic.{pointwise, nat_list_cmp_total}
use Rattle.std.proofs.lemmas.Bool.Decides.{nat_tests}
use Rattle.std.proofs.lemmas.Cmp.{tied_itself}
use Rattle.std.proofs.lemmas.List.{length-map}
use Rattle.complex_core.specs.Labels.{has, holds, union, without, face_cmp}
use Rattle.complex_core.specs.Links.{less}
use Rattle.complex_core.specs.Rising.{rising}
use Rattle.complex_core.specs.Complexes.{IsFacet, over}
use Rattle.complex_core.proofs.Sets.{above_head, above_tail, sorted_rising}
use Rattle.complex_core.proofs.Faces.{less_cmp}
use Rattle.complex_core.proofs.Laws.{nat_eq_is, nat_eq_same, has-union, has-without, or_left, or_right, some_has, same_sets_is, listed, listed-filter, listed-rising, same_labels, same_set_itself, sorted_union}
use Rattle.complex_core.proofs.SubsetLists.{two, clash}
use Rattle.flip_rules.specs.Flips.{join_boundary, link_is}
use Rattle.flip_rules.specs.declared.flip.Flip.{Flip}
use Rattle.flip_rules.proofs.Links.{side, side_of, listed-join_boundary, same_lists_is}
use Rattle.stars.specs.StarViews.{VertexStar, IsStar}
use Rattle.stars.specs.Candidates.{flip_of, opposite, is_candidate, faces_at, candidate_faces, IsListOf}
use Rattle.complex_core.proofs.Members.{has-less, sorted_less}
use Rattle.stars.proofs.Gathered.{apart, length_less, sorted_opposite}
use Rattle.complex_core.proofs.SetLists.{of_kind}
use Rattle.stars.proofs.Listing.{Stands, stands}
use Rattle.anneal_plan.specs.Proposals.{inner, chosen}
use Rattle.anneal_plan.specs.Listed.{IsListed, TellsTwo}
use Rattle.anneal_plan.proofs.Choosing.{slice_get-map, get_none}

-- A with all of B but one label each
has_side : (a b : List ℕ) (x z : ℕ) → has (side a b x) z ≡ (has a z || (has b z && not (nat_eq z x)))
has_side a b x z = has-union a (without b x) z ∙ ap (λ c. has a z || c) (has-without b x z)

both_sides : (p q x y : Bool) → (x ≡ true → y ≡ false) → (((p || (q && not x)) || (p || (q && not y))) && not p) ≡ (q && not p)
both_sides true true x y n = refl
both_sides true false x y n = refl
both_sides false true true true n = let e : true ≡ false = n refl in cc
both_sides false true true false n = refl
both_sides false true false y n = refl
both_sides false false x y n = refl

-- rows that rise differ in the label that they lack
other_label : (a b r q : List ℕ) (x y : ℕ) → r ≡ side a b x → q ≡ side a b y → face_cmp r q ≡ Less → (z : ℕ) → nat_eq z x ≡ true → nat_eq z y ≡ false
other_label a b r q x y er eq l z t = elim (two (nat_eq z y)) [
  | inl u ↦
      let e : x ≡ y = sym (nat_eq_is z x t) ∙ nat_eq_is z y u in
      let same : r ≡ q = er ∙ ap (side a b) e ∙ sym eq in
      let c : Less ≡ Equal = sym l ∙ ap (λ f. face_cmp f q) same ∙ tied_itself nat_list_cmp_total q in cc
  | inr f ↦ f
]

all_of_two : (a b r q : List ℕ) (x y : ℕ) → r ≡ side a b x → q ≡ side a b y → face_cmp r q ≡ Less → (z : ℕ) → has (less (union r q) a) z ≡ (has b z && not (has a z))
all_of_two a b r q x y er eq l z =
    has-less (union r q) a z
    ∙ ap (λ c. c && not (has a z)) (has-union r q z ∙ (λ i. (ap (λ f. has f z) er ∙ has_side a b x z) i || (ap (λ f. has f z) eq ∙ has_side a b y z) i))
    ∙ both_sides (has a z) (has b z) (nat_eq z x) (nat_eq z y) (other_label a b r q x y er eq l z)

not_in : (p q : Bool) → (p ≡ true → q ≡ false) → (q && not p) ≡ q
not_in true true h = let e : true ≡ false = h refl in cc
not_in true false h = refl
not_in false true h = refl
not_in false false h = refl

pub two_tell : (rows : List (List ℕ)) (a r q : List ℕ) (rest : List (List ℕ)) → IsStrictlySortedBy nat_cmp r → over rows a ≡ r ∷ q ∷ rest → link_is rows a (opposite rows a) ≡ true → less (union r q) a ≡ opposite rows a
two_tell rows a r q rest s e t =
    let b : List ℕ = opposite rows a in
    let all : r ∷ q ∷ rest ≡ rising face_cmp (join_boundary a b) = sym e ∙ same_lists_is (over rows a) (rising face_cmp (join_boundary a b)) t in
    let rises : IsStrictlySortedBy face_cmp (r ∷ q ∷ rest) = (let P : List (List ℕ) → Type 0 = λ fs. IsStrictlySortedBy face_cmp fs in subst P (sym all) (sorted_rising nat_list_cmp_total (join_boundary a b))) in
    let first : (x : ℕ) × (has b x ≡ true) × (r ≡ side a b x) = side_of a b r (sym (listed-rising (join_boundary a b) r) ∙ ap (λ fs. listed fs r) (sym all) ∙ or_left (pointwise nat_eq r r) (listed (q ∷ rest) r) (same_set_itself r)) in
    let second : (y : ℕ) × (has b y ≡ true) × (q ≡ side a b y) = side_of a b q (sym (listed-rising (join_boundary a b) q) ∙ ap (λ fs. listed fs q) (sym all) ∙ or_right (pointwise nat_eq r q) (listed (q ∷ rest) q) (or_left (pointwise nat_eq q q) (listed rest q) (same_set_itself q))) in
    same_labels (less (union r q) a) b (sorted_less (union r q) a (sorted_union r q s)) (sorted_opposite rows a)
    (λ z. all_of_two a b r q first.0 second.0 first.2 second.2 (above_head face_cmp r (q ∷ rest) rises).0 z ∙ not_in (has a z) (has b z) (apart rows a z))

-- ---- there are two rows over a candidate

listed_side : (a b : List ℕ) (x : ℕ) → has b x ≡ true → listed (join_boundary a b) (side a b x) ≡ true
listed_side a b x t = listed-join_boundary a b b (side a b x) ∙ some_has (λ y. pointwise nat_eq (side a b y) (side a b x)) b x t (same_set_itself (side a b x))

-- the sides without one label and without another one differ
sides_differ : (a b : List ℕ) (x y : ℕ) → has a x ≡ false → has b x ≡ true → nat_eq x y ≡ false → side a b x ≡ side a b y → ⊥
sides_differ a b x y out there other e =
    let lacks : has (side a b x) x ≡ false = has_side a b x x ∙ (λ i. out i || (has b x && not (nat_eq_same x i))) ∙ none (has b x) in
    let keeps : has (side a b y) x ≡ true = has_side a b y x ∙ or_right (has a x) (has b x && not (nat_eq x y)) (both_true there (ap not other)) in
    clash (has (side a b x) x) (ap (λ f. has f x) e ∙ keeps) lacks
  where
    none : (c : Bool) → (c && false) ≡ false
    none true = refl
    none false = refl

one_only : (r f : List ℕ) → listed (r ∷ []) f ≡ true → r ≡ f
one_only r f t = same_sets_is r f (one (pointwise nat_eq r f) t)
  where
    one : (c : Bool) → (c || false) ≡ true → c ≡ true
    one true t = refl
    one false t = t

module _ (s : VertexStar) (a : List ℕ) (h : IsStar s) (l : IsListed s a) where
  abbrev b : List ℕ
  b = opposite s.rows a

  many : length b ≡ l.index + 1
  many = nat_eq_is (length b) (l.index + 1) (first_so (nat_eq (length b) (l.index + 1)) (link_is s.rows a b) l.is)

  linked : link_is s.rows a b ≡ true
  linked = second_so (nat_eq (length b) (l.index + 1)) (link_is s.rows a b) l.is

  there : (x : ℕ) → has b x ≡ true → listed (over s.rows a) (side a b x) ≡ true
  there x t = ap (λ fs. listed fs (side a b x)) (same_lists_is (over s.rows a) (rising face_cmp (join_boundary a b)) linked) ∙ listed-rising (join_boundary a b) (side a b x) ∙ listed_side a b x t

  not_a : (x : ℕ) → has b x ≡ true → has a x ≡ false
  not_a x t = elim (two (has a x)) [ inl e ↦ clash (has b x) t (apart s.rows a x e) | inr e ↦ e ]

-- two labels of a set that rises
pub record TwoLabels (xs : List ℕ) : Type 0 where
  pub first : ℕ
  pub second : ℕ
  pub has_first : has xs first ≡ true
  pub has_second : has xs second ≡ true
  pub differ : nat_eq first second ≡ false

two_labels : (xs : List ℕ) → IsStrictlySortedBy nat_cmp xs → 2 ≤ length xs → TwoLabels xs
two_labels [] r n = absurd (omega (arith, n))
two_labels (x ∷ []) r n = absurd (omega (arith, n))
two_labels (x ∷ y ∷ xs) r n = record {
  first = x;
  second = y;
  has_first = or_left (nat_eq x x) (has (y ∷ xs) x) (nat_eq_same x);
  has_second = or_right (nat_eq x y) (has (y ∷ xs) y) (or_left (nat_eq y y) (has xs y) (nat_eq_same y));
  differ = below x y (less_cmp x y (above_head nat_cmp x (y ∷ xs) r).0);
}
  where
    below : (x y : ℕ) → x < y → nat_eq x y ≡ false
    below x y l = grind (arith, nat_tests)

-- what the first two rows tell
pub record Told (s : VertexStar) (a : List ℕ) (o : Option (List ℕ)) : Type 0 where
  pub labels : List ℕ
  pub is : o ≡ Some labels
  pub rest : less labels a ≡ opposite s.rows a

pub told_by_two : (s : VertexStar) (a : List ℕ) (o : Option (List ℕ)) → IsStar s → IsListed s a → TellsTwo (over s.rows a) o → Told s a o
told_by_two s a o h l t = by_rows (over s.rows a) refl t
  where
    labels : TwoLabels (opposite s.rows a)
    labels = two_labels (opposite s.rows a) (sorted_opposite s.rows a) (omega (arith, many s a h l, l.low))

    fits : (r q : List ℕ) → IsStrictlySortedBy nat_cmp r → less (union r q) a ≡ opposite s.rows a → length (union r q) ≤ 8
    fits r q rises e = omega (arith, length_less (union r q) a (sorted_union r q rises), ap length e, many s a h l, l.size, h.low)

    by_some : (r q : List ℕ) (p : Option (List ℕ)) → length (union r q) ≤ 8 → less (union r q) a ≡ opposite s.rows a → SomeIff p (length (union r q) ≤ 8) (union r q) → Told s a p
    by_some r q None few e i = absurd (i few)
    by_some r q (Some u) few e i = record { labels = u; is = refl; rest = ap (λ w. less w a) i.1 ∙ e }

    by_rows : (fs : List (List ℕ)) → over s.rows a ≡ fs → TellsTwo fs o → Told s a o
    by_rows [] e u = clash (listed (over s.rows a) (side a (opposite s.rows a) labels.first)) (there s a h l labels.first labels.has_first) (ap (λ fs. listed fs (side a (opposite s.rows a) labels.first)) e)
    by_rows (r ∷ []) e u = absurd (sides_differ a (opposite s.rows a) labels.first labels.second (not_a s a h l labels.first labels.has_first) labels.has_first labels.differ
        (sym (one_only r (side a (opposite s.rows a) labels.first) (ap (λ fs. listed fs (side a (opposite s.rows a) labels.first)) (sym e) ∙ there s a h l labels.first labels.has_first))
        ∙ one_only r (side a (opposite s.rows a) labels.second) (ap (λ fs. listed fs (side a (opposite s.rows a) labels.second)) (sym e) ∙ there s a h l labels.second labels.has_second)))
    by_rows (r ∷ q ∷ rest) e u =
        let own : listed s.rows r ≡ true = first_so (listed s.rows r) (holds r a) (sym (listed-filter (λ g. holds g a) s.rows r) ∙ ap (λ fs. listed fs r) e ∙ or_left (pointwise nat_eq r r) (listed (q ∷ rest) r) (same_set_itself r)) in
        let rises : IsStrictlySortedBy nat_cmp r = above_tail nat_cmp 0 r (of_kind (IsFacet s.dim) s.rows r h.pure own).face.rising in
        let tells : less (union r q) a ≡ opposite s.rows a = two_tell s.rows a r q rest rises e (linked s a h l) in
        by_some r q o (fits r q rises tells) tells u

-- ---- a face of the list

get_listed : (xs : List (List ℕ)) (n : ℕ) (f : List ℕ) → slice_get xs n ≡ Some f → listed xs f ≡ true
get_listed [] n f e = cc
get_listed (x ∷ xs) zero f e = let p : x ≡ f = cc in or_left (pointwise nat_eq x f) (listed xs f) (ap (λ g. pointwise nat_eq g f) p ∙ same_set_itself f)
get_listed (x ∷ xs) (suc n) f e = or_right (pointwise nat_eq x f) (listed xs f) (get_listed xs n f e)

pub is_listed : (s : VertexStar) (i : ℕ) (list : List (List ℕ)) (n : ℕ) (f : List ℕ) → IsStar s → IsListOf s i list → slice_get list n ≡ Some f → IsListed s f
unfolding candidate_faces
is_listed s i list n f h l e =
    let t : (listed (faces_at s.rows s.vertex (s.dim + 1 - i)) f && is_candidate s.rows (i + 1) f) ≡ true =
    sym (listed-filter (is_candidate s.rows (i + 1)) (faces_at s.rows s.vertex (s.dim + 1 - i)) f) ∙ ap (λ fs. listed fs f) (sym l.is) ∙ get_listed list n f e in
    let c : Stands s.rows s.vertex (s.dim + 1 - i) f = stands s.dim s.rows s.vertex (s.dim + 1 - i) f h.pure (first_so (listed (faces_at s.rows s.vertex (s.dim + 1 - i)) f) (is_candidate s.rows (i + 1) f) t) in
    record {
      index = i;
      low = l.low;
      size = omega (arith, c.size, l.high);
      is = second_so (listed (faces_at s.rows s.vertex (s.dim + 1 - i)) f) (is_candidate s.rows (i + 1) f) t;
    }

pub nth_is : (s : VertexStar) (i : ℕ) (list : List (List ℕ)) (n : ℕ) → IsListOf s i list → slice_get (inner s i) n ≡ option_map (λ a. flip_of a (opposite s.rows a)) (slice_get list n)
unfolding inner
nth_is s i list n l =
    slice_get-map (λ a. flip_of a (opposite s.rows a)) (candidate_faces s i) n
    ∙ ap (λ fs. option_map (λ a. flip_of a (opposite s.rows a)) (slice_get fs n)) (sym l.is)

-- ---- the loop

abbrev pub as_list : Option (List ℕ) → List (List ℕ)
as_list None = []
as_list (Some r) = r ∷ []

-- ---- for the answers

pub not_none : (s : VertexStar) (f : List ℕ) (rows : List (List ℕ)) (o : Option (List ℕ)) → IsStar s → IsListed s f → rows ≡ s.rows → TellsTwo (over rows f) o → o ≡ None → ⊥
not_none s f rows o h l e t none =
    let P : List (List ℕ) → Type 0 = λ fs. TellsTwo (over fs f) o in
    let u : Told s f o = told_by_two s f o h l (subst P e t) in
    let c : None ≡ Some u.labels = sym none ∙ u.is in cc

pub flip_told : (s : VertexStar) (f : List ℕ) (rows : List (List ℕ)) (o : Option (List ℕ)) (u w : List ℕ) → IsStar s → IsListed s f → rows ≡ s.rows → TellsTwo (over rows f) o → o ≡ Some u → w ≡ less u f → flip_of f w ≡ flip_of f (opposite s.rows f)
flip_told s f rows o u w h l e t some is =
    let P : List (List ℕ) → Type 0 = λ fs. TellsTwo (over fs f) o in
    let r : Told s f o = told_by_two s f o h l (subst P e t) in
    let c : Some u ≡ Some r.labels = sym some ∙ r.is in
    let g : u ≡ r.labels = cc in
    ap (flip_of f) (is ∙ ap (λ v. less v f) g ∙ r.rest)

pub none_at : (s : VertexStar) (i : ℕ) (list : List (List ℕ)) (n : ℕ) (r : Option Flip) → IsListOf s i list → r ≡ None → slice_get list n ≡ None → r ≡ slice_get (inner s i) n
none_at s i list n r l e g = e ∙ sym (nth_is s i list n l ∙ ap (option_map (λ a. flip_of a (opposite s.rows a))) g)

pub some_at : (s : VertexStar) (i : ℕ) (list : List (List ℕ)) (n : ℕ) (f : List ℕ) (w : Flip) → IsListOf s i list → slice_get list n ≡ Some f → w ≡ flip_of f (opposite s.rows f) → Some w ≡ slice_get (inner s i) n
some_at s i list n f w l g e = ap Some e ∙ sym (nth_is s i list n l ∙ ap (option_map (λ a. flip_of a (opposite s.rows a))) g)

pub length_inner : (s : VertexStar) (i : ℕ) (list : List (List ℕ)) → IsListOf s i list → length (inner s i) ≡ length list
unfolding inner
length_inner s i list l = length-map (candidate_faces s i) (λ a. flip_of a (opposite s.rows a)) ∙ ap length (sym l.is)

pub none_listed : (s : VertexStar) (i : ℕ) (list : List (List ℕ)) (word n : ℕ) → IsListOf s i list → n ≡ length list → n ≡ 0 → None ≡ chosen (inner s i) word
none_listed s i list word n l e z = sym (get_none (inner s i) (word % length (inner s i)) (length_inner s i list l ∙ sym e ∙ z))

pub listed_chosen : (s : VertexStar) (i : ℕ) (list : List (List ℕ)) (word n : ℕ) (r : Option Flip) → IsListOf s i list → n ≡ length list → r ≡ slice_get (inner s i) (word % n) → r ≡ chosen (inner s i) word
listed_chosen s i list word n r l e is = is ∙ ap (λ k. slice_get (inner s i) (word % k)) (e ∙ sym (length_inner s i list l))
