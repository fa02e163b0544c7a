-- Laws of sets of labels, and of lists of such sets.
use Rattle.std.proofs.Common.{◌≡◌, ℕ, ◌+◌, ◌≤◌, Bool, true, false, not, nat_eq, cond, ◌||◌, ◌&&◌, List, [], ◌∷◌, ◌++◌, length, sym, ◌∙◌, ap, refl, arith}
use Rattle.std.specs.List.{list_any, list_all, filter}
use Rattle.std.specs.Ordering.{nat_cmp, eq_by_cmp, match_ordering}
use Rattle.std.specs.declared.cmp.Ordering.TheVariants.{Less, Equal, Greater}
use Rattle.std.specs.Cmp.{Equal-is, first_so, second_so}
use Rattle.std.specs.Cmp.Derive.{both_true}
use Rattle.std.specs.Cmp.Lexicographic.{pointwise, texts_ties, nat_list_cmp_total, nat_list_eq_equiv}
use Rattle.std.specs.List.Sorted.{IsStrictlySortedBy}
use Rattle.std.proofs.lemmas.Bool.Decides.{nat_tests}
use Rattle.std.proofs.lemmas.Cmp.{nat_cmp_total}
use Rattle.complex_core.specs.Rising.{put, rising}
use Rattle.complex_core.specs.Labels.{has, holds, with, without, union, face_cmp, IsFace}
use Rattle.complex_core.specs.Complexes.{IsFacet}
use Rattle.complex_core.proofs.Sets.{among, among-put, among-rising, same_members, Above, above_head, above_tail, not_among, sorted_put, sorted_none}
use Rattle.complex_core.proofs.Faces.{among-has, short_filter, with_new, face_put, face_filter, less_cmp, equal_cmp, length-union}
use Rattle.std.proofs.lemmas.List.Kept.{IsStrictlySortedBy-filter}
use Rattle.std.proofs.lemmas.Bool.{true≢false}
use Rattle.complex_core.proofs.Sorting.{exact_faces}

pub both_ways : (a b : Bool) → (a ≡ true → b ≡ true) → (b ≡ true → a ≡ true) → a ≡ b
both_ways true true f g = refl
both_ways true false f g = sym (f refl)
both_ways false true f g = g refl
both_ways false false f g = refl

pub nat_eq_swap : (x y : ℕ) → nat_eq x y ≡ nat_eq y x
nat_eq_swap x y = grind (arith, nat_tests)

pub nat_eq_is : (x y : ℕ) → nat_eq x y ≡ true → x ≡ y
nat_eq_is x y h = grind (arith, nat_tests)

pub nat_eq_same : (x : ℕ) → nat_eq x x ≡ true
nat_eq_same x = grind (arith, nat_tests)

tied_is : (x y : ℕ) → eq_by_cmp nat_cmp x y ≡ nat_eq x y
tied_is x y = grind (arith, nat_tests)

pub or_assoc : (a b c : Bool) → (a || (b || c)) ≡ ((a || b) || c)
or_assoc true b c = refl
or_assoc false b c = refl

keep_passed : (a b c : Bool) → (a ≡ true → c ≡ true) → (a || (b && c)) ≡ ((a || b) && c)
keep_passed true b true h = refl
keep_passed true b false h = sym (h refl)
keep_passed false b c h = refl

drop_failed : (a b c : Bool) → (a ≡ true → c ≡ false) → (b && c) ≡ ((a || b) && c)
drop_failed true true c h = refl
drop_failed true false c h = sym (h refl)
drop_failed false b c h = refl

pub both_false : {a b : Bool} → a ≡ false → b ≡ false → (a || b) ≡ false
both_false {a} {b} h g = ap (λ c. c || b) h ∙ g

pub has-with : (xs : List ℕ) (x z : ℕ) → has (with xs x) z ≡ (nat_eq x z || has xs z)
has-with xs x z = sym (among-has z (with xs x)) ∙ among-put nat_cmp_total x z xs ∙ (λ i. (tied_is z x ∙ nat_eq_swap z x) i || among-has z xs i)

or_swap : (a b c : Bool) → ((a || b) || c) ≡ (b || (a || c))
or_swap true true c = refl
or_swap true false c = refl
or_swap false b c = refl

pub has-union : (xs ys : List ℕ) (z : ℕ) → has (union xs ys) z ≡ (has xs z || has ys z)
has-union xs [] z = elim (has xs z) as (λ b. b ≡ (b || false)) [ true ↦ refl | false ↦ refl ]
has-union xs (y ∷ ys) z = has-union (with xs y) ys z ∙ ap (λ b. b || has ys z) (has-with xs y z) ∙ or_swap (nat_eq y z) (has xs z) (has ys z)

drop_same : (a b c : Bool) → (a ≡ true → c ≡ true) → (b && not c) ≡ ((a || b) && not c)
drop_same true true true h = refl
drop_same true true false h = refl
drop_same true false true h = refl
drop_same true false false h = h refl
drop_same false b c h = refl

pub keep_other : (a b c : Bool) → (a ≡ true → c ≡ false) → (a || (b && not c)) ≡ ((a || b) && not c)
keep_other true b true h = h refl
keep_other true b false h = refl
keep_other false b c h = refl

pub has-without : (xs : List ℕ) (x z : ℕ) → has (without xs x) z ≡ (has xs z && not (nat_eq z x))
has-without [] x z = refl
has-without (y ∷ ys) x z =
    elim (nat_eq y x) as (λ b. nat_eq y x ≡ b → has (cond (not b) (y ∷ without ys x) (without ys x)) z ≡ ((nat_eq y z || has ys z) && not (nat_eq z x))) [
      | true ↦ λ e. has-without ys x z ∙ drop_same (nat_eq y z) (has ys z) (nat_eq z x) (λ t. ap (λ w. nat_eq w x) (sym (nat_eq_is y z t)) ∙ e)
      | false ↦ λ e. ap (λ b. nat_eq y z || b) (has-without ys x z) ∙ keep_other (nat_eq y z) (has ys z) (nat_eq z x) (λ t. ap (λ w. nat_eq w x) (sym (nat_eq_is y z t)) ∙ e)
    ] refl

pub either : (a b c : Bool) → (a || b) ≡ true → (a ≡ true → c ≡ true) → (b ≡ true → c ≡ true) → c ≡ true
either true b c h f g = f refl
either false b c h f g = g h

pub or_left : (a b : Bool) → a ≡ true → (a || b) ≡ true
or_left true b h = refl
or_left false b h = cc

pub or_right : (a b : Bool) → b ≡ true → (a || b) ≡ true
or_right true b h = refl
or_right false b h = h

pub holds_has : (xs ys : List ℕ) (z : ℕ) → holds xs ys ≡ true → has ys z ≡ true → has xs z ≡ true
holds_has xs [] z h t = let e : false ≡ true = t in cc
holds_has xs (y ∷ ys) z h t =
    let p : has xs y ≡ true = first_so (has xs y) (holds xs ys) h in
    let q : holds xs ys ≡ true = second_so (has xs y) (holds xs ys) h in
    either (nat_eq y z) (has ys z) (has xs z) t (λ e. ap (has xs) (sym (nat_eq_is y z e)) ∙ p) (holds_has xs ys z q)

pub holds_each : (xs ys : List ℕ) → ((z : ℕ) → has ys z ≡ true → has xs z ≡ true) → holds xs ys ≡ true
holds_each xs [] h = refl
holds_each xs (y ∷ ys) h = both_true (h y (or_left (nat_eq y y) (has ys y) (nat_eq_same y))) (holds_each xs ys (λ z t. h z (or_right (nat_eq y z) (has ys z) t)))

-- ---- lists of sets

-- whether a set is in a list, in the words of a slice's `contains`
abbrev pub listed : List (List ℕ) → List ℕ → Bool
listed fs f = list_any (λ g. pointwise nat_eq g f) fs

pub same_sets_is : (f g : List ℕ) → pointwise nat_eq f g ≡ true → f ≡ g
same_sets_is f g h = exact_faces f g ((Equal-is (face_cmp f g)).0 (sym (texts_ties f g) ∙ h))

pub same_set_itself : (f : List ℕ) → pointwise nat_eq f f ≡ true
same_set_itself f = nat_list_eq_equiv.refl f

pub listed-among : (fs : List (List ℕ)) (f : List ℕ) → among face_cmp f fs ≡ listed fs f
listed-among [] f = refl
listed-among (g ∷ gs) f = λ i. (sym (texts_ties f g) ∙ nat_list_eq_equiv.symm f g) i || listed-among gs f i

pub listed-append : (fs gs : List (List ℕ)) (f : List ℕ) → listed (fs ++ gs) f ≡ (listed fs f || listed gs f)
listed-append [] gs f = refl
listed-append (h ∷ fs) gs f = ap (λ b. pointwise nat_eq h f || b) (listed-append fs gs f) ∙ or_assoc (pointwise nat_eq h f) (listed fs f) (listed gs f)

-- what passes a test, of a list
pub listed-filter : (p : List ℕ → Bool) (fs : List (List ℕ)) (f : List ℕ) → listed (filter p fs) f ≡ (listed fs f && p f)
listed-filter p [] f = refl
listed-filter p (g ∷ gs) f =
    elim (p g) as (λ b. p g ≡ b → listed (cond b (g ∷ filter p gs) (filter p gs)) f ≡ ((pointwise nat_eq g f || listed gs f) && p f)) [
      | true ↦ λ e. ap (λ b. pointwise nat_eq g f || b) (listed-filter p gs f) ∙ keep_passed (pointwise nat_eq g f) (listed gs f) (p f) (λ t. ap p (sym (same_sets_is g f t)) ∙ e)
      | false ↦ λ e. listed-filter p gs f ∙ drop_failed (pointwise nat_eq g f) (listed gs f) (p f) (λ t. ap p (sym (same_sets_is g f t)) ∙ e)
    ] refl

pub listed-rising : (fs : List (List ℕ)) (f : List ℕ) → listed (rising face_cmp fs) f ≡ listed fs f
listed-rising fs f = sym (listed-among (rising face_cmp fs) f) ∙ among-rising nat_list_cmp_total f fs ∙ listed-among fs f

-- two rising lists with the same sets are one
pub same_lists : (fs gs : List (List ℕ)) → IsStrictlySortedBy face_cmp fs → IsStrictlySortedBy face_cmp gs → ((f : List ℕ) → listed fs f ≡ listed gs f) → fs ≡ gs
same_lists fs gs s t h = same_members nat_list_cmp_total exact_faces fs gs s t (λ f. listed-among fs f ∙ h f ∙ sym (listed-among gs f))

-- what is listed passes what all pass, and where one is listed that passes, some passes
pub passes_listed : (p : List ℕ → Bool) (fs : List (List ℕ)) (f : List ℕ) → list_all p fs ≡ true → listed fs f ≡ true → p f ≡ true
passes_listed p [] f all t = let e : false ≡ true = t in cc
passes_listed p (g ∷ gs) f all t =
    either (pointwise nat_eq g f) (listed gs f) (p f) t (λ e. ap p (sym (same_sets_is g f e)) ∙ first_so (p g) (list_all p gs) all) (passes_listed p gs f (second_so (p g) (list_all p gs) all))

pub each_listed : (p : List ℕ → Bool) (fs : List (List ℕ)) → ((f : List ℕ) → listed fs f ≡ true → p f ≡ true) → list_all p fs ≡ true
each_listed p [] h = refl
each_listed p (g ∷ gs) h = both_true (h g (or_left (pointwise nat_eq g g) (listed gs g) (same_set_itself g))) (each_listed p gs (λ f t. h f (or_right (pointwise nat_eq g f) (listed gs f) t)))

pub some_listed : (p : List ℕ → Bool) (fs : List (List ℕ)) (f : List ℕ) → listed fs f ≡ true → p f ≡ true → list_any p fs ≡ true
some_listed p [] f t e = t
some_listed p (g ∷ gs) f t e = either (pointwise nat_eq g f) (listed gs f) (p g || list_any p gs) t (λ s. or_left (p g) (list_any p gs) (ap p (same_sets_is g f s) ∙ e)) (λ s. or_right (p g) (list_any p gs) (some_listed p gs f s e))

pub none_listed : (p : List ℕ → Bool) (fs : List (List ℕ)) → ((f : List ℕ) → listed fs f ≡ true → p f ≡ false) → list_any p fs ≡ false
none_listed p [] h = refl
none_listed p (g ∷ gs) h = both_false (h g (or_left (pointwise nat_eq g g) (listed gs g) (same_set_itself g))) (none_listed p gs (λ f t. h f (or_right (pointwise nat_eq g f) (listed gs f) t)))

pub each_has : (q : ℕ → Bool) (xs : List ℕ) → ((x : ℕ) → has xs x ≡ true → q x ≡ true) → list_all q xs ≡ true
each_has q [] h = refl
each_has q (x ∷ xs) h = both_true (h x (or_left (nat_eq x x) (has xs x) (nat_eq_same x))) (each_has q xs (λ z t. h z (or_right (nat_eq x z) (has xs z) t)))

pub none_has : (q : ℕ → Bool) (xs : List ℕ) → list_any q xs ≡ false → (x : ℕ) → has xs x ≡ true → q x ≡ false
none_has q [] h x t = let e : false ≡ true = t in cc
none_has q (y ∷ ys) h x t =
    elim (q y) as (λ b. q y ≡ b → (b || list_any q ys) ≡ false → q x ≡ false) [
      | true ↦ λ e g. let f : true ≡ false = g in cc
      | false ↦ λ e g. elim (nat_eq y x) as (λ b. nat_eq y x ≡ b → (b || has ys x) ≡ true → q x ≡ false) [
        | true ↦ λ s _. ap q (sym (nat_eq_is y x s)) ∙ e
        | false ↦ λ s r. none_has q ys g x r
      ] refl t
    ] refl h

pub some_has : (q : ℕ → Bool) (xs : List ℕ) (x : ℕ) → has xs x ≡ true → q x ≡ true → list_any q xs ≡ true
some_has q [] x t e = t
some_has q (y ∷ ys) x t e = either (nat_eq y x) (has ys x) (q y || list_any q ys) t (λ s. or_left (q y) (list_any q ys) (ap q (nat_eq_is y x s) ∙ e)) (λ s. or_right (q y) (list_any q ys) (some_has q ys x s e))

-- ---- sizes

pub length_put_le : (k : ℕ) (xs : List ℕ) → length (put nat_cmp k xs) ≤ length xs + 1
length_put_le k [] = omega arith
length_put_le k (x ∷ xs) =
    elim (nat_cmp k x) as (λ r. length (match_ordering r (k ∷ x ∷ xs) (x ∷ xs) (x ∷ put nat_cmp k xs)) ≤ length (x ∷ xs) + 1) [
      | Less ↦ omega arith
      | Equal ↦ omega arith
      | Greater ↦ omega (arith, length_put_le k xs)
    ]

pub length_union_le : (xs ys : List ℕ) → length (union xs ys) ≤ length xs + length ys
length_union_le xs [] = omega arith
length_union_le xs (y ∷ ys) = omega (arith, length_union_le (with xs y) ys, length_put_le y xs)

pub side_fits : (a b : List ℕ) (x : ℕ) → length a + length b ≤ 8 → length (union a (without b x)) ≤ 8
side_fits a b x h = omega (arith, h, length_union_le a (without b x), short_filter (λ y. not (nat_eq y x)) b)

-- no label of ys is in xs
abbrev pub Apart : List ℕ → List ℕ → Type 0
Apart xs ys = (z : ℕ) → has ys z ≡ true → has xs z ≡ false

pub above_not : (low : ℕ) (xs : List ℕ) → Above nat_cmp low xs → has xs low ≡ false
above_not low xs a = sym (among-has low xs) ∙ not_among nat_cmp_total low xs a

pub length-union_apart : (xs ys : List ℕ) → IsStrictlySortedBy nat_cmp ys → Apart xs ys → length (union xs ys) ≡ length xs + length ys
length-union_apart xs [] s apart = omega arith
length-union_apart xs (y ∷ ys) s apart =
    let new : has xs y ≡ false = apart y (or_left (nat_eq y y) (has ys y) (nat_eq_same y)) in
    let n : length (with xs y) ≡ length xs + 1 = with_new xs y new in
    let rest : Apart (with xs y) ys = λ z t. has-with xs y z ∙ both_false (other y z ys t (above_not y ys (above_head nat_cmp y ys s))) (apart z (or_right (nat_eq y z) (has ys z) t)) in
    omega (arith, n, length-union_apart (with xs y) ys (above_tail nat_cmp y ys s) rest)
  where
    other : (y z : ℕ) (ys : List ℕ) → has ys z ≡ true → has ys y ≡ false → nat_eq y z ≡ false
    other y z ys t f = elim (nat_eq y z) as (λ b. nat_eq y z ≡ b → b ≡ false) [ true ↦ λ e. let g : true ≡ false = sym t ∙ ap (has ys) (sym (nat_eq_is y z e)) ∙ f in g | false ↦ λ e. refl ] refl

-- without a label that is there
pub length-without : (xs : List ℕ) (x : ℕ) → IsStrictlySortedBy nat_cmp xs → has xs x ≡ true → length (without xs x) + 1 ≡ length xs
length-without [] x s t = let e : false ≡ true = t in cc
length-without (y ∷ ys) x s t =
    elim (nat_eq y x) as (λ b. nat_eq y x ≡ b → (b || has ys x) ≡ true → length (cond (not b) (y ∷ without ys x) (without ys x)) + 1 ≡ length (y ∷ ys)) [
      | true ↦ λ e _. let f : has ys x ≡ false = ap (has ys) (sym (nat_eq_is y x e)) ∙ above_not y ys (above_head nat_cmp y ys s) in omega (arith, ap length (without_none ys x f))
      | false ↦ λ e r. omega (arith, length-without ys x (above_tail nat_cmp y ys s) r)
    ] refl t
  where
    without_none : (ys : List ℕ) (x : ℕ) → has ys x ≡ false → without ys x ≡ ys
    without_none [] x f = refl
    without_none (y ∷ ys) x f =
        elim (nat_eq y x) as (λ b. (b || has ys x) ≡ false → cond (not b) (y ∷ without ys x) (without ys x) ≡ y ∷ ys) [
          | true ↦ λ g. let e : true ≡ false = g in cc
          | false ↦ λ g. ap (λ zs. y ∷ zs) (without_none ys x g)
        ] f

pub face_union : (xs ys : List ℕ) → IsFace xs → Above nat_cmp 0 ys → length (union xs ys) ≤ 8 → IsFace (union xs ys)
face_union xs [] h a few = h
face_union xs (y ∷ ys) h a few = face_union (with xs y) ys (face_put y xs h (less_cmp 0 y a.0) (omega (arith, few, length-union (with xs y) ys))) a.1 few

-- (A less a) ∪ B is a facet
pub facet_side : (d : ℕ) (b a : List ℕ) (x : ℕ) → IsFace b → IsFace a → Apart b a → length a + length b ≡ d + 2 → d ≤ 6 → has a x ≡ true → IsFacet d (union b (without a x))
facet_side d b a x fb fa apart n low t =
    let f : IsFace (without a x) = face_filter (λ y. not (nat_eq y x)) a fa in
    let s : IsStrictlySortedBy nat_cmp (without a x) = above_tail nat_cmp 0 (without a x) f.rising in
    let m : length (without a x) + 1 ≡ length a = length-without a x (above_tail nat_cmp 0 a fa.rising) t in
    let e : length (union b (without a x)) ≡ length b + length (without a x) = length-union_apart b (without a x) s (λ z r. apart z (first_so (has a z) (not (nat_eq z x)) (sym (has-without a x z) ∙ r))) in
    record {
      face = face_union b (without a x) fb (above_head nat_cmp 0 (without a x) f.rising) (omega (arith, e, m, n, low));
      size = omega (arith, e, m, n);
    }

pub none_from : (q : ℕ → Bool) (xs : List ℕ) → ((x : ℕ) → has xs x ≡ true → q x ≡ false) → list_any q xs ≡ false
none_from q [] h = refl
none_from q (x ∷ xs) h = both_false (h x (or_left (nat_eq x x) (has xs x) (nat_eq_same x))) (none_from q xs (λ z t. h z (or_right (nat_eq x z) (has xs z) t)))

-- what a test over labels found
pub found : (q : ℕ → Bool) (xs : List ℕ) → list_any q xs ≡ true → (x : ℕ) × (has xs x ≡ true) × (q x ≡ true)
found q [] h = let e : false ≡ true = h in absurd (true≢false (sym e))
found q (x ∷ xs) h =
    elim (q x) as (λ b. q x ≡ b → (b || list_any q xs) ≡ true → (z : ℕ) × (has (x ∷ xs) z ≡ true) × (q z ≡ true)) [
      | true ↦ λ e _. (x, or_left (nat_eq x x) (has xs x) (nat_eq_same x), e)
      | false ↦ λ e g. let r : (z : ℕ) × (has xs z ≡ true) × (q z ≡ true) = found q xs g in (r.0, or_right (nat_eq x r.0) (has xs r.0) r.1, r.2)
    ] refl h

pub sorted_union : (xs ys : List ℕ) → IsStrictlySortedBy nat_cmp xs → IsStrictlySortedBy nat_cmp (union xs ys)
sorted_union xs [] s = s
sorted_union xs (y ∷ ys) s = sorted_union (with xs y) ys (sorted_put nat_cmp_total y xs s)

-- sets of labels with the same labels are one list
pub same_labels : (xs ys : List ℕ) → IsStrictlySortedBy nat_cmp xs → IsStrictlySortedBy nat_cmp ys → ((z : ℕ) → has xs z ≡ has ys z) → xs ≡ ys
same_labels xs ys s t h = same_members nat_cmp_total equal_cmp xs ys s t (λ z. among-has z xs ∙ h z ∙ sym (among-has z ys))

pub union_none : (xs : List ℕ) → IsStrictlySortedBy nat_cmp xs → union [] xs ≡ xs
union_none xs s = same_labels (union [] xs) xs (sorted_union [] xs (sorted_none nat_cmp)) s (λ z. has-union [] xs z)

pub sorted_without : (xs : List ℕ) (x : ℕ) → IsStrictlySortedBy nat_cmp xs → IsStrictlySortedBy nat_cmp (without xs x)
sorted_without xs x s = IsStrictlySortedBy-filter nat_cmp (λ y. not (nat_eq y x)) xs s
