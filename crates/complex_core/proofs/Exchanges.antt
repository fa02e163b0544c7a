-- Faces taken out of a rising list of faces, and put into it.
use Rattle.std.proofs.Common.{◌≡◌, ℕ, zero, suc, ◌+◌, ◌-◌, ◌<◌, ◌≤◌, Result, Ok, Err, get_or, Bool, true, false, not, cond, ◌&&◌, ◌||◌, List, [], ◌∷◌, ◌++◌, length, take, filter, sym, ◌∙◌, ap, refl, is_ok, nat_eq, append_assoc, append-nil, subst, arith}
use Rattle.std.specs.List.{remove}
use Rattle.std.specs.List.Sorted.{IsStrictlySortedBy, IsBinarySearchResult, IsSearchInRange}
use Rattle.std.specs.Cmp.Lexicographic.{pointwise, texts_ties, nat_list_cmp_total, nat_list_eq_equiv}
use Rattle.std.specs.Ordering.{eq_by_cmp}
use Rattle.std.specs.Result.{MatchResult}
use Rattle.std.specs.Ordering.{match_ordering}
use Rattle.std.specs.declared.cmp.Ordering.TheVariants.{Less, Equal, Greater}
use Rattle.std.proofs.lemmas.List.{take_more, take_all, get_or_default, length-append}
use Rattle.std.proofs.lemmas.List.Folds.{list_any-append}
use Rattle.std.proofs.lemmas.List.Kept.{IsStrictlySortedBy-filter}
use Rattle.complex_core.specs.Labels.{face_cmp}
use Rattle.complex_core.specs.Rising.{put, rising}
use Rattle.complex_core.specs.Complexes.{is_facet, staying}
use Rattle.complex_core.proofs.Sets.{sorted_put, length-put_new}
use Rattle.complex_core.proofs.SetLists.{rising_length}
use Rattle.complex_core.proofs.Searching.{Stands, Missing, searched_for, rising_push, rising_own}
use Rattle.complex_core.proofs.Sorting.{exact_faces}
use Rattle.complex_core.proofs.Laws.{listed-among}
use Rattle.complex_core.proofs.Booleans.{or_none}

-- one taken out
staying_one : (xs : List (List ℕ)) (x : List ℕ) → staying xs (x ∷ []) ≡ filter (λ y. not (eq_by_cmp face_cmp y x)) xs
staying_one xs x =
    let tie : (y : List ℕ) → (pointwise nat_eq x y || false) ≡ eq_by_cmp face_cmp y x = λ y. or_none (pointwise nat_eq x y) ∙ nat_list_eq_equiv.symm x y ∙ texts_ties y x in
    λ i. filter (λ y. not (tie y i)) xs

-- a search over a slice that shows the list
pub search_face : (shown xs : List (List ℕ)) (x : List ℕ) (r : Result ℕ ℕ) → shown ≡ xs → IsStrictlySortedBy face_cmp xs → IsSearchInRange r (length shown) → IsBinarySearchResult (λ y. face_cmp y x) shown r → MatchResult r (Stands face_cmp xs x) (Missing face_cmp xs x)
search_face shown xs x r e s =
    let P : List (List ℕ) → Type 0 = λ ys. IsSearchInRange r (length ys) → IsBinarySearchResult (λ y. face_cmp y x) ys r → MatchResult r (Stands face_cmp xs x) (Missing face_cmp xs x) in
    subst P (sym e) (searched_for nat_list_cmp_total exact_faces xs x r s)

pub taken_out : (xs : List (List ℕ)) (x : List ℕ) (at : ℕ) → Stands face_cmp xs x at → remove xs at ≡ staying xs (x ∷ [])
taken_out xs x at s = s.removed ∙ sym (staying_one xs x)

pub nothing_out : (xs : List (List ℕ)) (x : List ℕ) (at : ℕ) → Missing face_cmp xs x at → xs ≡ staying xs (x ∷ [])
nothing_out xs x at m = sym (staying_one xs x ∙ m.same)

-- whether a face is listed, by a search
pub facet_searched : (shown xs : List (List ℕ)) (x : List ℕ) (r : Result ℕ ℕ) → shown ≡ xs → IsStrictlySortedBy face_cmp xs → IsSearchInRange r (length shown) → IsBinarySearchResult (λ y. face_cmp y x) shown r → is_ok r ≡ is_facet xs x
facet_searched shown xs x (Ok at) e s within found = let t : Stands face_cmp xs x at = search_face shown xs x (Ok at) e s within found in sym (sym (listed-among xs x) ∙ t.there)
facet_searched shown xs x (Err at) e s within position = let t : Missing face_cmp xs x at = search_face shown xs x (Err at) e s within position in sym (sym (listed-among xs x) ∙ t.absent)

-- two tests in a row
twice_filtered : (p q : List ℕ → Bool) (xs : List (List ℕ)) → filter p (filter q xs) ≡ filter (λ x. q x && p x) xs
twice_filtered p q [] = refl
twice_filtered p q (x ∷ xs) =
    elim (q x) as (λ b. filter p (cond b (x ∷ filter q xs) (filter q xs)) ≡ cond (b && p x) (x ∷ filter (λ y. q y && p y) xs) (filter (λ y. q y && p y) xs)) [
      | true ↦ ap (λ ys. cond (p x) (x ∷ ys) ys) (twice_filtered p q xs)
      | false ↦ twice_filtered p q xs
    ]

neither : (a b : Bool) → (not a && not b) ≡ not (a || b)
neither true b = refl
neither false b = refl

-- one more taken out
pub staying_next : (old sets new out : List (List ℕ)) (x : List ℕ) (i : ℕ) → i < length out → x ≡ get_or out i x → sets ≡ staying old (take i out) → new ≡ staying sets (x ∷ []) → new ≡ staying old (take (i + 1) out)
staying_next old sets new out x i h item so_far step =
    step ∙ ap (λ ys. staying ys (x ∷ [])) so_far
    ∙ twice_filtered (λ f. not (is_facet (x ∷ []) f)) (λ f. not (is_facet (take i out) f)) old
    ∙ (λ j. filter (λ f. neither (is_facet (take i out) f) (is_facet (x ∷ []) f) j) old)
    ∙ (λ j. filter (λ f. not (sym (list_any-append (λ g. pointwise nat_eq g f) (take i out) (x ∷ [])) j)) old)
    ∙ ap (λ y. staying old (take i out ++ y ∷ [])) item
    ∙ ap (staying old) (sym (take_more out i x h))

pub rising_staying : (sets new out : List (List ℕ)) → new ≡ staying sets out → IsStrictlySortedBy face_cmp sets → IsStrictlySortedBy face_cmp new
rising_staying sets new out e s = let P : List (List ℕ) → Type 0 = λ ys. IsStrictlySortedBy face_cmp ys in subst P (sym e) (IsStrictlySortedBy-filter face_cmp (λ f. not (is_facet out f)) sets s)

-- one more put in
pub rising_next : (old sets new more : List (List ℕ)) (x : List ℕ) (i : ℕ) → i < length more → x ≡ get_or more i x → sets ≡ rising face_cmp (old ++ take i more) → new ≡ put face_cmp x sets → new ≡ rising face_cmp (old ++ take (i + 1) more)
rising_next old sets new more x i h item so_far step =
    step ∙ ap (put face_cmp x) so_far
    ∙ sym (rising_push nat_list_cmp_total exact_faces (old ++ take i more) x)
    ∙ ap (rising face_cmp) (append_assoc old (take i more) (x ∷ []) ∙ ap (λ y. old ++ (take i more ++ y ∷ [])) item ∙ ap (λ ys. old ++ ys) (sym (take_more more i x h)))

pub rising_put : (sets new : List (List ℕ)) (x : List ℕ) → new ≡ put face_cmp x sets → IsStrictlySortedBy face_cmp sets → IsStrictlySortedBy face_cmp new
rising_put sets new x e s = let P : List (List ℕ) → Type 0 = λ ys. IsStrictlySortedBy face_cmp ys in subst P (sym e) (sorted_put nat_list_cmp_total x sets s)

pub rising_itself : (xs : List (List ℕ)) → IsStrictlySortedBy face_cmp xs → rising face_cmp xs ≡ xs
rising_itself = rising_own nat_list_cmp_total exact_faces

-- before the first
pub staying_none : (xs : List (List ℕ)) → xs ≡ staying xs []
staying_none [] = refl
staying_none (x ∷ xs) = ap (λ ys. x ∷ ys) (staying_none xs)

pub rising_start : (xs : List (List ℕ)) → IsStrictlySortedBy face_cmp xs → xs ≡ rising face_cmp (xs ++ [])
rising_start xs s = sym (ap (rising face_cmp) (append-nil xs) ∙ rising_itself xs s)

-- what is put in stays within what all of them make
put_no_less : (f : List ℕ) (fs : List (List ℕ)) → length fs ≤ length (put face_cmp f fs)
put_no_less f [] = omega arith
put_no_less f (g ∷ gs) = elim (face_cmp f g) as (λ o. length (g ∷ gs) ≤ length (match_ordering o (f ∷ g ∷ gs) (g ∷ gs) (g ∷ put face_cmp f gs))) [
  | Less ↦ omega arith
  | Equal ↦ omega arith
  | Greater ↦ omega (arith, put_no_less f gs)
]

grows : (old more : List (List ℕ)) (i n : ℕ) → i + n ≤ length more → length (rising face_cmp (old ++ take i more)) ≤ length (rising face_cmp (old ++ take (i + n) more))
grows old more i zero l = let e : i + zero ≡ i = omega arith in subst (λ k. length (rising face_cmp (old ++ take i more)) ≤ length (rising face_cmp (old ++ take k more))) (sym e) (omega arith)
grows old more i (suc n) l =
    let x : List ℕ = get_or more (i + n) [] in
    let one : rising face_cmp (old ++ take (i + n + 1) more) ≡ put face_cmp x (rising face_cmp (old ++ take (i + n) more)) = sym (rising_next old (rising face_cmp (old ++ take (i + n) more)) (put face_cmp x (rising face_cmp (old ++ take (i + n) more))) more x (i + n) (omega (arith, l)) (get_or_default more (i + n) [] x (omega (arith, l))) refl refl) in
    let e : i + suc n ≡ i + n + 1 = omega arith in
    subst (λ k. length (rising face_cmp (old ++ take i more)) ≤ length (rising face_cmp (old ++ take k more))) (sym e) (omega (arith, ap length one, put_no_less x (rising face_cmp (old ++ take (i + n) more)), grows old more i n (omega (arith, l))))

pub next_fits : (old sets more : List (List ℕ)) (x : List ℕ) (i room : ℕ) → i < length more → x ≡ get_or more i x → sets ≡ rising face_cmp (old ++ take i more) → length (rising face_cmp (old ++ more)) ≤ room → length (put face_cmp x sets) ≤ room
next_fits old sets more x i room h item so_far fits =
    let one : put face_cmp x sets ≡ rising face_cmp (old ++ take (i + 1) more) = rising_next old sets (put face_cmp x sets) more x i h item so_far refl in
    let e : i + 1 + (length more - (i + 1)) ≡ length more = omega (arith, h) in
    let all : length (rising face_cmp (old ++ take (i + 1) more)) ≤ length (rising face_cmp (old ++ take (i + 1 + (length more - (i + 1))) more)) = grows old more (i + 1) (length more - (i + 1)) (omega (arith, h)) in
    let whole : take (i + 1 + (length more - (i + 1))) more ≡ more = take_all (i + 1 + (length more - (i + 1))) more (omega (arith, e)) in
    omega (arith, ap length one, all, ap (λ fs. length (rising face_cmp (old ++ fs))) whole, fits)

-- a new one takes one place more
pub one_fits : (xs : List (List ℕ)) (x : List ℕ) (at room : ℕ) → Missing face_cmp xs x at → length (put face_cmp x xs) ≤ room → length xs < room
one_fits xs x at room m fits = omega (arith, length-put_new face_cmp x xs m.absent, fits)

-- there is room for what is made of two lists where there is room for both
pub both_fit : (old more : List (List ℕ)) (room : ℕ) → length old + length more ≤ room → length (rising face_cmp (old ++ more)) ≤ room
both_fit old more room fits = omega (arith, rising_length (old ++ more), length-append old more, fits)
