-- What another naming of the vertices keeps.
use Rattle.std.proofs.Common.{◌≡◌, ◌≢◌, ℕ, ◌+◌, ◌<◌, suc, Bool, true, false, not, nat_eq, nat_lt, ◌||◌, ◌&&◌, List, [], ◌∷◌, length, map, sym, ◌∙◌, ap, refl, arith, inl, inr, subst, cond}
use Rattle.std.specs.List.{filter}
use Rattle.std.specs.List.Sorted.{IsStrictlySortedBy}
use Rattle.std.specs.Ordering.{nat_cmp, match_ordering, is_eq}
use Rattle.std.specs.declared.cmp.Ordering.TheVariants.{Less, Equal, Greater}
use Rattle.std.specs.Cmp.{first_so, second_so}
use Rattle.std.specs.Cmp.Derive.{both_true}
use Rattle.std.specs.Cmp.Lexicographic.{pointwise, nat_list_cmp_total}
use Rattle.std.proofs.lemmas.Cmp.{nat_cmp_total}
use Rattle.std.proofs.lemmas.Bool.Decides.{nat_tests}
use Rattle.std.proofs.lemmas.List.Kept.{IsStrictlySortedBy-filter}
use Rattle.complex_core.specs.Labels.{has, holds, without, face_cmp}
use Rattle.complex_core.specs.Rising.{rising, put}
use Rattle.complex_core.specs.Complexes.{over}
use Rattle.complex_core.proofs.Sets.{among, above_head, above_tail, not_among, sorted_rising, length-put_new}
use Rattle.complex_core.proofs.Faces.{among-has, less_cmp}
use Rattle.complex_core.proofs.Laws.{both_ways, holds_has, holds_each, or_left, or_right, listed, same_sets_is, same_set_itself, listed-filter, listed-rising, listed-among, same_lists, same_labels, sorted_without, nat_eq_is, nat_eq_same}
use Rattle.pseudo_test.specs.Ridges.{count}
use Rattle.orient_test.specs.Signs.{odd}
use Rattle.orient_test.specs.Signs.{times, position, induced, Orientable}
use Rattle.flip_laws.proofs.Images.{image, images}
use Rattle.pseudo_test.proofs.Subsets.{holds_without, holds_through}
use Rattle.flip_laws.proofs.Totals.{Distinct, distinct_sorted}
use Rattle.complex_core.proofs.SubsetLists.{above_at, map_from, map_back, two, clash}
use Rattle.face_counts.proofs.Parts.{Sets}
use Rattle.flip_laws.proofs.SignsKept.{without_none, odd_more, lt_turn}
use Rattle.std.proofs.lemmas.Bool.{false_from_ne_true, lt-ltb}
use Rattle.complex_core.proofs.Members.{without_has, without_other, in_without, has-rising, has-map, map_has}
use Rattle.orient_test.proofs.Chains.{cancel}

pub in_image : (m : ℕ → ℕ) (f : List ℕ) (x : ℕ) → has f x ≡ true → has (image m f) (m x) ≡ true
in_image m f x t = has-rising (map m f) (m x) ∙ has-map m f x t

pub image_has : (m : ℕ → ℕ) (f : List ℕ) (z : ℕ) → has (image m f) z ≡ true → (x : ℕ) × (has f x ≡ true) × (z ≡ m x)
image_has m f z t = map_has m f z (sym (has-rising (map m f) z) ∙ t)

pub image_rises : (m : ℕ → ℕ) (f : List ℕ) → IsStrictlySortedBy nat_cmp (image m f)
image_rises m f = sorted_rising nat_cmp_total (map m f)

-- how many pass a test
passing : (ℕ → Bool) → List ℕ → ℕ
passing p xs = length (filter p xs)

passing-put : (p : ℕ → Bool) (k : ℕ) (xs : List ℕ) → has xs k ≡ false → length (filter p (put nat_cmp k xs)) ≡ cond (p k) 1 0 + length (filter p xs)
passing-put p k xs n = at xs (among-has k xs ∙ n)
  where
    one : (ys : List ℕ) → length (filter p (k ∷ ys)) ≡ cond (p k) 1 0 + length (filter p ys)
    one ys = elim (p k) as (λ c. length (cond c (k ∷ filter p ys) (filter p ys)) ≡ cond c 1 0 + length (filter p ys)) [ true ↦ omega arith | false ↦ omega arith ]

    later : (x : ℕ) (us ys : List ℕ) (c : ℕ) → length (filter p us) ≡ c + length (filter p ys) → length (filter p (x ∷ us)) ≡ c + length (filter p (x ∷ ys))
    later x us ys c e = elim (p x) as (λ d. length (cond d (x ∷ filter p us) (filter p us)) ≡ c + length (cond d (x ∷ filter p ys) (filter p ys))) [ true ↦ omega (arith, e) | false ↦ e ]

    at : (xs : List ℕ) → among nat_cmp k xs ≡ false → length (filter p (put nat_cmp k xs)) ≡ cond (p k) 1 0 + length (filter p xs)
    at [] n = one []
    at (x ∷ xs) n =
        elim (nat_cmp k x) as (λ r. (is_eq r || among nat_cmp k xs) ≡ false → length (filter p (match_ordering r (k ∷ x ∷ xs) (x ∷ xs) (x ∷ put nat_cmp k xs))) ≡ cond (p k) 1 0 + length (filter p (x ∷ xs))) [
          | Less ↦ λ _. one (x ∷ xs)
          | Equal ↦ λ e. clash true refl e
          | Greater ↦ λ e. later x (put nat_cmp k xs) xs (cond (p k) 1 0) (at xs e)
        ] n

passing-first : (p : ℕ → Bool) (x : ℕ) (xs : List ℕ) → length (filter p (x ∷ xs)) ≡ cond (p x) 1 0 + length (filter p xs)
passing-first p x xs = elim (p x) as (λ c. length (cond c (x ∷ filter p xs) (filter p xs)) ≡ cond c 1 0 + length (filter p xs)) [ true ↦ omega arith | false ↦ omega arith ]

passing-without : (p : ℕ → Bool) (w : List ℕ) (x : ℕ) → IsStrictlySortedBy nat_cmp w → has w x ≡ true → length (filter p (without w x)) + cond (p x) 1 0 ≡ length (filter p w)
passing-without p [] x s t = clash true refl (sym t)
passing-without p (z ∷ zs) x s t =
    elim (nat_eq z x) as (λ c. nat_eq z x ≡ c → (c || has zs x) ≡ true → length (filter p (cond (not c) (z ∷ without zs x) (without zs x))) + cond (p x) 1 0 ≡ length (filter p (z ∷ zs))) [
      | true ↦ λ e _.
          let q : z ≡ x = nat_eq_is z x e in
          let out : has zs x ≡ false = ap (has zs) (sym q) ∙ sym (among-has z zs) ∙ not_among nat_cmp_total z zs (above_head nat_cmp z zs s) in
          let g : length (filter p (without zs x)) ≡ length (filter p zs) = ap (λ us. length (filter p us)) (without_none zs x out) in
          let P : ℕ → ℕ = λ v. cond (p v) 1 0 in
          let h : P x ≡ P z = ap P (sym q) in
          omega (arith, g, h, passing-first p z zs)
      | false ↦ λ e r. omega (arith, passing-first p z zs, passing-first p z (without zs x), passing-without p zs x (above_tail nat_cmp z zs s) r)
    ] refl t

odd_plus : (c : Bool) (n : ℕ) → odd (cond c 1 0 + n) ≡ times c (odd n)
odd_plus true n = let e : 1 + n ≡ suc n = omega arith in ap odd e
odd_plus false n = let e : 0 + n ≡ n = omega arith in ap odd e

lt_not : (x y : ℕ) → y < x → nat_lt x y ≡ false
lt_not x y h = grind (arith, nat_tests)

lt_itself : (x : ℕ) → nat_lt x x ≡ false
lt_itself x = grind (arith, nat_tests)

-- below all of them no label is less
place_low : (x : ℕ) (xs : List ℕ) → ((y : ℕ) → has xs y ≡ true → x < y) → length (filter (λ y. nat_lt y x) xs) ≡ 0
place_low x [] h = refl
place_low x (y ∷ ys) h = ap (λ c. length (cond c (y ∷ filter (λ y. nat_lt y x) ys) (filter (λ y. nat_lt y x) ys))) (lt_not y x (h y (or_left (nat_eq y y) (has ys y) (nat_eq_same y)))) ∙ place_low x ys (λ z t. h z (or_right (nat_eq y z) (has ys z) t))

head_table : (a t : Bool) → a ≡ times (times a t) t
head_table true true = refl
head_table true false = refl
head_table false true = refl
head_table false false = refl

tail_table : (m p a t r : Bool) → times (not m) (times p (times t r)) ≡ times (not p) (times (times a t) (times (times m a) r))
tail_table true true true true true = refl
tail_table true true true true false = refl
tail_table true true true false true = refl
tail_table true true true false false = refl
tail_table true true false true true = refl
tail_table true true false true false = refl
tail_table true true false false true = refl
tail_table true true false false false = refl
tail_table true false true true true = refl
tail_table true false true true false = refl
tail_table true false true false true = refl
tail_table true false true false false = refl
tail_table true false false true true = refl
tail_table true false false true false = refl
tail_table true false false false true = refl
tail_table true false false false false = refl
tail_table false true true true true = refl
tail_table false true true true false = refl
tail_table false true true false true = refl
tail_table false true true false false = refl
tail_table false true false true true = refl
tail_table false true false true false = refl
tail_table false true false false true = refl
tail_table false true false false false = refl
tail_table false false true true true = refl
tail_table false false true true false = refl
tail_table false false true false true = refl
tail_table false false true false false = refl
tail_table false false false true true = refl
tail_table false false false true false = refl
tail_table false false false false true = refl
tail_table false false false false false = refl

pull_table : (a p i r : Bool) → times a (times p (times i r)) ≡ times (times (times a i) p) r
pull_table true true true true = refl
pull_table true true true false = refl
pull_table true true false true = refl
pull_table true true false false = refl
pull_table true false true true = refl
pull_table true false true false = refl
pull_table true false false true = refl
pull_table true false false false = refl
pull_table false true true true = refl
pull_table false true true false = refl
pull_table false true false true = refl
pull_table false true false false = refl
pull_table false false true true = refl
pull_table false false true false = refl
pull_table false false false true = refl
pull_table false false false false = refl

push_table : (a p i r : Bool) → times (times a i) (times p (times i r)) ≡ times (times a p) r
push_table true true true true = refl
push_table true true true false = refl
push_table true true false true = refl
push_table true true false false = refl
push_table true false true true = refl
push_table true false true false = refl
push_table true false false true = refl
push_table true false false false = refl
push_table false true true true = refl
push_table false true true false = refl
push_table false true false true = refl
push_table false true false false = refl
push_table false false true true = refl
push_table false false true false = refl
push_table false false false true = refl
push_table false false false false = refl

drop_common : (x y r : Bool) → times x r ≡ not (times y r) → x ≡ not y
drop_common x y r e = cancel x r (not (times y r)) e ∙ table y r
  where
    table : (y r : Bool) → times (not (times y r)) r ≡ not y
    table true true = refl
    table true false = refl
    table false true = refl
    table false false = refl

add_common : (x y r : Bool) → x ≡ not y → times x r ≡ not (times y r)
add_common x y r e = ap (λ c. times c r) e ∙ table y r
  where
    table : (y r : Bool) → times (not y) r ≡ not (times y r)
    table true true = refl
    table true false = refl
    table false true = refl
    table false false = refl

pub distinct_map : (g : List ℕ → List ℕ) (xs : List (List ℕ)) → ((s t : List ℕ) → listed xs s ≡ true → listed xs t ≡ true → g s ≡ g t → s ≡ t) → Distinct xs → Distinct (map g xs)
distinct_map g [] h d = tt
distinct_map g (x ∷ xs) h d = (
  false_from_ne_true (listed (map g xs) (g x)) (λ t.
      let q : (r : List ℕ) × (listed xs r ≡ true) × (g x ≡ g r) = map_back g xs (g x) t in
      let e : x ≡ q.0 = h x q.0 (or_left (pointwise nat_eq x x) (listed xs x) (same_set_itself x)) (or_right (pointwise nat_eq x q.0) (listed xs q.0) q.1) q.2 in
      clash {P = ⊥} (listed xs x) (ap (listed xs) e ∙ q.1) d.0),
  distinct_map g xs (λ s t p q. h s t (or_right (pointwise nat_eq x s) (listed xs s) p) (or_right (pointwise nat_eq x t) (listed xs t) q)) d.1,
)

length_rising : (xs : List (List ℕ)) → Distinct xs → length (rising face_cmp xs) ≡ length xs
length_rising [] d = refl
length_rising (x ∷ xs) d = omega (arith, length-put_new face_cmp x (rising face_cmp xs) (listed-among (rising face_cmp xs) x ∙ listed-rising xs x ∙ d.0), length_rising xs d.1)

length_map : (g : List ℕ → List ℕ) (xs : List (List ℕ)) → length (map g xs) ≡ length xs
length_map g [] = refl
length_map g (x ∷ xs) = omega (arith, length_map g xs)

module _ (m : ℕ → ℕ) (u : List ℕ) (one : (x y : ℕ) → has u x ≡ true → has u y ≡ true → m x ≡ m y → x ≡ y) where
  -- a label's image is in an image exactly where the label is in the set
  has-image : (f : List ℕ) (x : ℕ) → holds u f ≡ true → has u x ≡ true → has (image m f) (m x) ≡ has f x
  has-image f x h t = both_ways (has (image m f) (m x)) (has f x)
      (λ p. let q : (y : ℕ) × (has f y ≡ true) × (m x ≡ m y) = image_has m f (m x) p in ap (has f) (one x q.0 t (holds_has u f q.0 h q.1) q.2) ∙ q.1)
      (in_image m f x)

  pub holds-image : (f r : List ℕ) → holds u f ≡ true → holds u r ≡ true → holds (image m f) (image m r) ≡ holds f r
  holds-image f r hf hr = both_ways (holds (image m f) (image m r)) (holds f r)
      (λ p. holds_each f r (λ z t. sym (has-image f z hf (holds_has u r z hr t)) ∙ holds_has (image m f) (image m r) (m z) p (in_image m r z t)))
      (λ p. holds_each (image m f) (image m r) (λ k t. let q : (x : ℕ) × (has r x ≡ true) × (k ≡ m x) = image_has m r k t in ap (has (image m f)) q.2 ∙ in_image m f q.0 (holds_has f r q.0 p q.1)))

  pub image_one : (f g : List ℕ) → IsStrictlySortedBy nat_cmp f → IsStrictlySortedBy nat_cmp g → holds u f ≡ true → holds u g ≡ true → image m f ≡ image m g → f ≡ g
  image_one f g s r hf hg e = same_labels f g s r (λ z. both_ways (has f z) (has g z)
      (λ t. sym (has-image g z hg (holds_has u f z hf t)) ∙ ap (λ v. has v (m z)) (sym e) ∙ in_image m f z t)
      (λ t. sym (has-image f z hf (holds_has u g z hg t)) ∙ ap (λ v. has v (m z)) e ∙ in_image m g z t))

  image_without : (f : List ℕ) (x : ℕ) → holds u f ≡ true → has u x ≡ true → without (image m f) (m x) ≡ image m (without f x)
  image_without f x h t = same_labels (without (image m f) (m x)) (image m (without f x)) (sorted_without (image m f) (m x) (image_rises m f)) (image_rises m (without f x)) (λ k. both_ways (has (without (image m f) (m x)) k) (has (image m (without f x)) k)
      (λ p. let q : (z : ℕ) × (has f z ≡ true) × (k ≡ m z) = image_has m f k (without_has (image m f) (m x) k p) in
      ap (has (image m (without f x))) q.2 ∙ in_image m (without f x) q.0 (in_without f x q.0 q.1 (λ e. without_other (image m f) (m x) k p (q.2 ∙ ap m e))))
      (λ p. let q : (z : ℕ) × (has (without f x) z ≡ true) × (k ≡ m z) = image_has m (without f x) k p in
      let zf : has f q.0 ≡ true = without_has f x q.0 q.1 in
      in_without (image m f) (m x) k (ap (has (image m f)) q.2 ∙ in_image m f q.0 zf) (λ e. without_other f x q.0 q.1 (one q.0 x (holds_has u f q.0 h zf) t (sym q.2 ∙ e)))))

  -- an image has as many labels that pass
  passing-image : (p : ℕ → Bool) (f : List ℕ) → IsStrictlySortedBy nat_cmp f → holds u f ≡ true → length (filter p (image m f)) ≡ length (filter (λ x. p (m x)) f)
  passing-image p [] s h = refl
  passing-image p (x ∷ f) s h =
      let ux : has u x ≡ true = first_so (has u x) (holds u f) h in
      let uf : holds u f ≡ true = second_so (has u x) (holds u f) h in
      let new : has (image m f) (m x) ≡ false = has-image f x uf ux ∙ sym (among-has x f) ∙ not_among nat_cmp_total x f (above_head nat_cmp x f s) in
      omega (arith, passing-put p (m x) (image m f) new, passing-image p f (above_tail nat_cmp x f s) uf, passing-first (λ x. p (m x)) x f)

  pub length-image : (f : List ℕ) → IsStrictlySortedBy nat_cmp f → holds u f ≡ true → length (image m f) ≡ length f
  length-image [] s h = refl
  length-image (x ∷ f) s h =
      let ux : has u x ≡ true = first_so (has u x) (holds u f) h in
      let uf : holds u f ≡ true = second_so (has u x) (holds u f) h in
      let new : has (image m f) (m x) ≡ false = has-image f x uf ux ∙ sym (among-has x f) ∙ not_among nat_cmp_total x f (above_head nat_cmp x f s) in
      omega (arith, length-put_new nat_cmp (m x) (image m f) (among-has (m x) (image m f) ∙ new), length-image f (above_tail nat_cmp x f s) uf)

  -- the parity of the pairs that the naming turns round
  abbrev turns : List ℕ → Bool
  turns [] = false
  turns (x ∷ xs) = times (odd (length (filter (λ y. nat_lt (m y) (m x)) xs))) (turns xs)

  abbrev before : List ℕ → ℕ → ℕ
  before f x = length (filter (λ y. nat_lt (m y) (m x)) f)

  -- the position in the image, by the position and the pairs turned round
  parity : (f : List ℕ) (x : ℕ) → IsStrictlySortedBy nat_cmp f → holds u f ≡ true → has f x ≡ true → odd (before f x) ≡ times (odd (position f x)) (times (turns f) (turns (without f x)))
  parity [] x s h t = clash true refl (sym t)
  parity (z ∷ zs) x s h t = elim (two (nat_eq z x)) [
    | inl e ↦ let P : ℕ → Type 0 = λ v. odd (before (z ∷ zs) v) ≡ times (odd (position (z ∷ zs) v)) (times (turns (z ∷ zs)) (turns (without (z ∷ zs) v))) in subst P (nat_eq_is z x e) head
    | inr e ↦ let p : has zs x ≡ true = sym (ap (λ c. c || has zs x) e) ∙ t in tail e p (parity zs x (above_tail nat_cmp z zs s) (second_so (has u z) (holds u zs) h) p)
  ]
    where
      above : (y : ℕ) → has zs y ≡ true → z < y
      above y p = less_cmp z y (above_at z y zs (above_head nat_cmp z zs s) p)

      out : has zs z ≡ false
      out = sym (among-has z zs) ∙ not_among nat_cmp_total z zs (above_head nat_cmp z zs s)

      gone : without (z ∷ zs) z ≡ zs
      gone = ap (λ c. cond (not c) (z ∷ without zs z) (without zs z)) (nat_eq_same z) ∙ without_none zs z out

      low : position (z ∷ zs) z ≡ 0
      low = ap (λ c. length (cond c (z ∷ filter (λ y. nat_lt y z) zs) (filter (λ y. nat_lt y z) zs))) (lt_itself z) ∙ place_low z zs above

      first : before (z ∷ zs) z ≡ before zs z
      first = ap (λ c. length (cond c (z ∷ filter (λ y. nat_lt (m y) (m z)) zs) (filter (λ y. nat_lt (m y) (m z)) zs))) (lt_itself (m z))

      head : odd (before (z ∷ zs) z) ≡ times (odd (position (z ∷ zs) z)) (times (turns (z ∷ zs)) (turns (without (z ∷ zs) z)))
      head = ap odd first ∙ head_table (odd (before zs z)) (turns zs) ∙ (λ i. times (odd (sym low i)) (times (times (odd (before zs z)) (turns zs)) (turns (sym gone i))))

      tail : nat_eq z x ≡ false → has zs x ≡ true → odd (before zs x) ≡ times (odd (position zs x)) (times (turns zs) (turns (without zs x))) → odd (before (z ∷ zs) x) ≡ times (odd (position (z ∷ zs) x)) (times (turns (z ∷ zs)) (turns (without (z ∷ zs) x)))
      tail e p again =
          let uz : has u z ≡ true = first_so (has u z) (holds u zs) h in
          let us : holds u zs ≡ true = second_so (has u z) (holds u zs) h in
          let ux : has u x ≡ true = holds_has u zs x us p in
          let n : m x ≢ m z = λ q. clash {P = ⊥} (nat_eq z x) (ap (nat_eq z) (one x z ux uz q) ∙ nat_eq_same z) e in
          let step : without (z ∷ zs) x ≡ z ∷ without zs x = ap (λ c. cond (not c) (z ∷ without zs x) (without zs x)) e in
          let less : nat_lt z x ≡ true = lt-ltb z x (above x p) in
          let sz : IsStrictlySortedBy nat_cmp zs = above_tail nat_cmp z zs s in
          let left : odd (before (z ∷ zs) x) ≡ times (not (nat_lt (m x) (m z))) (times (odd (position zs x)) (times (turns zs) (turns (without zs x)))) =
          ap odd (passing-first (λ y. nat_lt (m y) (m x)) z zs) ∙ odd_plus (nat_lt (m z) (m x)) (before zs x) ∙ (λ i. times (lt_turn (m x) (m z) n i) (again i)) in
          let pl : odd (position (z ∷ zs) x) ≡ not (odd (position zs x)) = ap odd (passing-first (λ y. nat_lt y x) z zs) ∙ odd_plus (nat_lt z x) (position zs x) ∙ ap (λ c. times c (odd (position zs x))) less in
          let tw : turns (without (z ∷ zs) x) ≡ times (times (nat_lt (m x) (m z)) (odd (before zs z))) (turns (without zs x)) = ap turns step ∙ ap (λ c. times c (turns (without zs x))) (odd_more (before (without zs x) z) (before zs z) (nat_lt (m x) (m z)) (passing-without (λ y. nat_lt (m y) (m z)) zs x sz p)) in
          left ∙ tail_table (nat_lt (m x) (m z)) (odd (position zs x)) (odd (before zs z)) (turns zs) (turns (without zs x)) ∙ (λ i. times (sym pl i) (times (turns (z ∷ zs)) (sym tw i)))

  position-image : (f : List ℕ) (x : ℕ) → IsStrictlySortedBy nat_cmp f → holds u f ≡ true → has f x ≡ true → odd (position (image m f) (m x)) ≡ times (odd (position f x)) (times (turns f) (turns (without f x)))
  position-image f x s h t = ap odd (passing-image (λ v. nat_lt v (m x)) f s h) ∙ parity f x s h t

  module _ (fs : List (List ℕ)) (sets : Sets fs) (all : (f : List ℕ) → listed fs f ≡ true → holds u f ≡ true) (rises : IsStrictlySortedBy face_cmp fs) where
    pub one_set : (f g : List ℕ) → listed fs f ≡ true → listed fs g ≡ true → image m f ≡ image m g → f ≡ g
    one_set f g t p e = image_one f g (sets f t) (sets g p) (all f t) (all g p) e

    pub listed_image : (f : List ℕ) → listed fs f ≡ true → listed (images m fs) (image m f) ≡ true
    listed_image f t = listed-rising (map (λ f. image m f) fs) (image m f) ∙ map_from (λ f. image m f) fs f t

    pub image_listed : (g : List ℕ) → listed (images m fs) g ≡ true → (f : List ℕ) × (listed fs f ≡ true) × (g ≡ image m f)
    image_listed g t = map_back (λ f. image m f) fs g (sym (listed-rising (map (λ f. image m f) fs) g) ∙ t)

    over-image : (r : List ℕ) → holds u r ≡ true → over (images m fs) (image m r) ≡ rising face_cmp (map (λ f. image m f) (over fs r))
    over-image r hr = same_lists (over (images m fs) (image m r)) (rising face_cmp (map (λ f. image m f) (over fs r)))
        (IsStrictlySortedBy-filter face_cmp (λ f. holds f (image m r)) (images m fs) (sorted_rising nat_list_cmp_total (map (λ f. image m f) fs)))
        (sorted_rising nat_list_cmp_total (map (λ f. image m f) (over fs r)))
        (λ g. listed-filter (λ f. holds f (image m r)) (images m fs) g
        ∙ both_ways (listed (images m fs) g && holds g (image m r)) (listed (map (λ f. image m f) (over fs r)) g) (into g) (outof g)
        ∙ sym (listed-rising (map (λ f. image m f) (over fs r)) g))
      where
        into : (g : List ℕ) → (listed (images m fs) g && holds g (image m r)) ≡ true → listed (map (λ f. image m f) (over fs r)) g ≡ true
        into g t =
            let q : (f : List ℕ) × (listed fs f ≡ true) × (g ≡ image m f) = image_listed g (first_so (listed (images m fs) g) (holds g (image m r)) t) in
            let h : holds q.0 r ≡ true = sym (holds-image q.0 r (all q.0 q.1) hr) ∙ ap (λ v. holds v (image m r)) (sym q.2) ∙ second_so (listed (images m fs) g) (holds g (image m r)) t in
            ap (listed (map (λ f. image m f) (over fs r))) q.2 ∙ map_from (λ f. image m f) (over fs r) q.0 (listed-filter (λ f. holds f r) fs q.0 ∙ both_true q.1 h)

        outof : (g : List ℕ) → listed (map (λ f. image m f) (over fs r)) g ≡ true → (listed (images m fs) g && holds g (image m r)) ≡ true
        outof g t =
            let q : (f : List ℕ) × (listed (over fs r) f ≡ true) × (g ≡ image m f) = map_back (λ f. image m f) (over fs r) g t in
            let p : (listed fs q.0 && holds q.0 r) ≡ true = sym (listed-filter (λ f. holds f r) fs q.0) ∙ q.1 in
            let a : listed fs q.0 ≡ true = first_so (listed fs q.0) (holds q.0 r) p in
            let P : List ℕ → Type 0 = λ v. (listed (images m fs) v && holds v (image m r)) ≡ true in
            subst P (sym q.2) (both_true (listed_image q.0 a) (holds-image q.0 r (all q.0 a) hr ∙ second_so (listed fs q.0) (holds q.0 r) p))

    count-image : (r : List ℕ) → holds u r ≡ true → count (images m fs) (image m r) ≡ count fs r
    count-image r hr =
        ap length (over-image r hr)
        ∙ length_rising (map (λ f. image m f) (over fs r)) (distinct_map (λ f. image m f) (over fs r) (λ s t p q e. one_set s t (in_over s p) (in_over t q) e) (distinct_sorted (over fs r) (IsStrictlySortedBy-filter face_cmp (λ f. holds f r) fs rises)))
        ∙ length_map (λ f. image m f) (over fs r)
      where
        in_over : (f : List ℕ) → listed (over fs r) f ≡ true → listed fs f ≡ true
        in_over f p = first_so (listed fs f) (holds f r) (sym (listed-filter (λ f. holds f r) fs f) ∙ p)

    part_used : (f : List ℕ) (x : ℕ) → listed fs f ≡ true → holds u (without f x) ≡ true
    part_used f x t = holds_through u f (without f x) (all f t) (holds_without f x)

    -- signs of the image give signs
    pulled : (List ℕ → Bool) → List ℕ → Bool
    pulled s f = times (s (image m f)) (turns f)

    pull_is : (s : List ℕ → Bool) (f : List ℕ) (x : ℕ) → listed fs f ≡ true → has f x ≡ true → induced s (image m f) (m x) ≡ times (times (times (s (image m f)) (turns f)) (odd (position f x))) (turns (without f x))
    pull_is s f x t fx = ap (times (s (image m f))) (position-image f x (sets f t) (all f t) fx) ∙ pull_table (s (image m f)) (odd (position f x)) (turns f) (turns (without f x))

    pub pull : Orientable (images m fs) → Orientable fs
    pull o = record {
      signs = λ f. times (o.signs (image m f)) (turns f);
      is = record {
        opposite = λ f g x y t p fx gy n r c.
            let ux : has u x ≡ true = holds_has u f x (all f t) fx in
            let uy : has u y ≡ true = holds_has u g y (all g p) gy in
            let e : without (image m f) (m x) ≡ image m (without f x) = image_without f x (all f t) ux in
            let e' : without (image m g) (m y) ≡ image m (without g y) = image_without g y (all g p) uy in
            let c' : count (images m fs) (without (image m f) (m x)) ≡ 2 = ap (count (images m fs)) e ∙ count-image (without f x) (part_used f x t) ∙ c in
            let q : induced o.signs (image m f) (m x) ≡ not (induced o.signs (image m g) (m y)) = o.is.opposite (image m f) (image m g) (m x) (m y) (listed_image f t) (listed_image g p) (in_image m f x fx) (in_image m g y gy) (λ z. n (one_set f g t p z)) (e ∙ ap (image m) r ∙ sym e') c' in
            let s : times (times (times (o.signs (image m f)) (turns f)) (odd (position f x))) (turns (without f x)) ≡ not (times (times (times (o.signs (image m g)) (turns g)) (odd (position g y))) (turns (without f x))) =
            sym (pull_is o.signs f x t fx) ∙ q ∙ ap not (pull_is o.signs g y p gy ∙ ap (λ v. times (times (times (o.signs (image m g)) (turns g)) (odd (position g y))) (turns v)) (sym r)) in
            drop_common (times (times (o.signs (image m f)) (turns f)) (odd (position f x))) (times (times (o.signs (image m g)) (turns g)) (odd (position g y))) (turns (without f x)) s;
      };
    }

    -- signs give signs of the image
    abbrev carried : (List ℕ → Bool) → List (List ℕ) → List ℕ → Bool
    carried s [] g = false
    carried s (f ∷ rest) g = cond (pointwise nat_eq (image m f) g) (times (s f) (turns f)) (carried s rest g)

    carried_is : (s : List ℕ → Bool) (rest : List (List ℕ)) (f : List ℕ) → listed rest f ≡ true → ((g : List ℕ) → listed rest g ≡ true → image m g ≡ image m f → g ≡ f) → carried s rest (image m f) ≡ times (s f) (turns f)
    carried_is s [] f t h = clash true refl (sym t)
    carried_is s (g ∷ rest) f t h = elim (two (pointwise nat_eq (image m g) (image m f))) [
      | inl e ↦
          let q : g ≡ f = h g (or_left (pointwise nat_eq g g) (listed rest g) (same_set_itself g)) (same_sets_is (image m g) (image m f) e) in
          ap (λ c. cond c (times (s g) (turns g)) (carried s rest (image m f))) e ∙ ap (λ v. times (s v) (turns v)) q
      | inr e ↦
          let ng : pointwise nat_eq g f ≡ false = false_from_ne_true (pointwise nat_eq g f) (λ q. clash {P = ⊥} (pointwise nat_eq (image m g) (image m f)) (ap (λ v. pointwise nat_eq (image m v) (image m f)) (same_sets_is g f q) ∙ same_set_itself (image m f)) e) in
          ap (λ c. cond c (times (s g) (turns g)) (carried s rest (image m f))) e ∙ carried_is s rest f (sym (ap (λ c. c || listed rest f) ng) ∙ t) (λ v q. h v (or_right (pointwise nat_eq g v) (listed rest v) q))
    ]

    push_is : (s : List ℕ → Bool) (f : List ℕ) (x : ℕ) → listed fs f ≡ true → has f x ≡ true → induced (carried s fs) (image m f) (m x) ≡ times (times (s f) (odd (position f x))) (turns (without f x))
    push_is s f x t fx = (λ i. times (carried_is s fs f t (λ g q e. one_set g f q t e) i) (position-image f x (sets f t) (all f t) fx i)) ∙ push_table (s f) (odd (position f x)) (turns f) (turns (without f x))

    pub push : Orientable fs → Orientable (images m fs)
    push o = record {
      signs = carried o.signs fs;
      is = record {
        opposite = λ f g x y t p fx gy n r c.
            let f0 : (v : List ℕ) × (listed fs v ≡ true) × (f ≡ image m v) = image_listed f t in
            let g0 : (v : List ℕ) × (listed fs v ≡ true) × (g ≡ image m v) = image_listed g p in
            let x0 : (v : ℕ) × (has f0.0 v ≡ true) × (x ≡ m v) = image_has m f0.0 x (ap (λ v. has v x) (sym f0.2) ∙ fx) in
            let y0 : (v : ℕ) × (has g0.0 v ≡ true) × (y ≡ m v) = image_has m g0.0 y (ap (λ v. has v y) (sym g0.2) ∙ gy) in
            at o f0.0 g0.0 x0.0 y0.0 f g x y f0.1 g0.1 x0.1 y0.1 f0.2 g0.2 x0.2 y0.2 n r c;
      };
    }
      where
        at : (o : Orientable fs) (f g : List ℕ) (x y : ℕ) (f' g' : List ℕ) (x' y' : ℕ) → listed fs f ≡ true → listed fs g ≡ true → has f x ≡ true → has g y ≡ true → f' ≡ image m f → g' ≡ image m g → x' ≡ m x → y' ≡ m y → (f' ≢ g') → without f' x' ≡ without g' y' → count (images m fs) (without f' x') ≡ 2 → induced (carried o.signs fs) f' x' ≡ not (induced (carried o.signs fs) g' y')
        at o f g x y f' g' x' y' t p fx gy ef eg ex ey n r c =
            let ux : has u x ≡ true = holds_has u f x (all f t) fx in
            let uy : has u y ≡ true = holds_has u g y (all g p) gy in
            let e : without f' x' ≡ image m (without f x) = (λ i. without (ef i) (ex i)) ∙ image_without f x (all f t) ux in
            let e' : without g' y' ≡ image m (without g y) = (λ i. without (eg i) (ey i)) ∙ image_without g y (all g p) uy in
            let r0 : without f x ≡ without g y = image_one (without f x) (without g y) (sorted_without f x (sets f t)) (sorted_without g y (sets g p)) (part_used f x t) (part_used g y p) (sym e ∙ r ∙ e') in
            let c0 : count fs (without f x) ≡ 2 = sym (count-image (without f x) (part_used f x t)) ∙ ap (count (images m fs)) (sym e) ∙ c in
            let q : induced o.signs f x ≡ not (induced o.signs g y) = o.is.opposite f g x y t p fx gy (λ z. n (ef ∙ ap (image m) z ∙ sym eg)) r0 c0 in
            let left : induced (carried o.signs fs) f' x' ≡ times (times (o.signs f) (odd (position f x))) (turns (without f x)) = (λ i. induced (carried o.signs fs) (ef i) (ex i)) ∙ push_is o.signs f x t fx in
            let right : induced (carried o.signs fs) g' y' ≡ times (times (o.signs g) (odd (position g y))) (turns (without f x)) = (λ i. induced (carried o.signs fs) (eg i) (ey i)) ∙ push_is o.signs g y p gy ∙ ap (λ v. times (times (o.signs g) (odd (position g y))) (turns v)) (sym r0) in
            left ∙ add_common (times (o.signs f) (odd (position f x))) (times (o.signs g) (odd (position g y))) (turns (without f x)) q ∙ ap not (sym right)
