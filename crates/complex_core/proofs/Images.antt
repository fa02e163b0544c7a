-- What faces and facets become under a map that takes no two labels to the same one.
use Rattle.std.proofs.Common.{◌≡◌, ℕ, ◌<◌, ◌≤◌, get_or, true, false, nat_eq, cond, ◌||◌, List, [], ◌∷◌, length, take, map, sym, ◌∙◌, ap, refl, subst, arith}
use Rattle.std.specs.List.{AllByRecursion, list_all}
use Rattle.std.specs.List.Sorted.{IsStrictlySortedBy}
use Rattle.std.specs.Cmp.{first_so, second_so}
use Rattle.std.specs.Ordering.{nat_cmp}
use Rattle.std.specs.declared.cmp.Ordering.TheVariants.{Less}
use Rattle.std.proofs.lemmas.Cmp.{nat_cmp_total}
use Rattle.std.proofs.lemmas.List.Folds.{list_all_at}
use Rattle.std.proofs.lemmas.List.{take_all, length-take, length-map}
use Rattle.complex_core.specs.Labels.{IsFace, has, with, union}
use Rattle.complex_core.specs.Rising.{rising}
use Rattle.complex_core.specs.Complexes.{ComplexView, IsComplex, IsFacet}
use Rattle.complex_core.specs.Maps.{IsMap, Differ, ArePositive, takes, reaches, at, face_image, face_images, takes_all}
use Rattle.complex_core.proofs.Sets.{among, among-rising, any-rising, above_cons, above_head, above_tail, each_rising, sorted_rising, sorted_none, length-put_new}
use Rattle.complex_core.proofs.Faces.{among-has, equal_cmp, cmp_less}
use Rattle.complex_core.proofs.Laws.{above_not, both_ways, has-union, length_put_le, length_union_le, nat_eq_is, nat_eq_same, or_left, or_right, same_labels, sorted_union}

-- ---- labels

pub reaches_at : (ps : List (ℕ × ℕ)) (x : ℕ) → takes ps x ≡ true → reaches ps (at ps x) ≡ true
reaches_at [] x t = t
reaches_at (p ∷ ps) x t =
    elim (nat_eq p.0 x) as (λ b. (b || takes ps x) ≡ true → reaches (p ∷ ps) (cond b p.1 (at ps x)) ≡ true) [
      | true ↦ λ _. or_left (nat_eq p.1 p.1) (reaches ps p.1) (nat_eq_same p.1)
      | false ↦ λ r. or_right (nat_eq p.1 (at ps x)) (reaches ps (at ps x)) (reaches_at ps x r)
    ] t

pub positive_at : (ps : List (ℕ × ℕ)) (x : ℕ) → ArePositive ps → takes ps x ≡ true → 0 < at ps x
positive_at [] x h t = let e : false ≡ true = t in cc
positive_at (p ∷ ps) x h t =
    elim (nat_eq p.0 x) as (λ b. (b || takes ps x) ≡ true → 0 < cond b p.1 (at ps x)) [
      | true ↦ λ _. h.0.1
      | false ↦ λ r. positive_at ps x h.1 r
    ] t

pub injective : (ps : List (ℕ × ℕ)) (x y : ℕ) → Differ ps → takes ps x ≡ true → takes ps y ≡ true → at ps x ≡ at ps y → x ≡ y
injective [] x y d t r e = let f : false ≡ true = t in cc
injective (p ∷ ps) x y d t r e =
    elim (nat_eq p.0 x) as (λ b. nat_eq p.0 x ≡ b → (b || takes ps x) ≡ true → cond b p.1 (at ps x) ≡ at (p ∷ ps) y → x ≡ y) [
      | true ↦ λ ex _ one. elim (nat_eq p.0 y) as (λ b. nat_eq p.0 y ≡ b → (b || takes ps y) ≡ true → p.1 ≡ cond b p.1 (at ps y) → x ≡ y) [
        | true ↦ λ ey _ _. sym (nat_eq_is p.0 x ex) ∙ nat_eq_is p.0 y ey
        | false ↦ λ _ s two. let f : true ≡ false = sym (reaches_at ps y s) ∙ ap (reaches ps) (sym two) ∙ d.1 in cc
      ] refl r one
      | false ↦ λ _ s one. elim (nat_eq p.0 y) as (λ b. nat_eq p.0 y ≡ b → (b || takes ps y) ≡ true → at ps x ≡ cond b p.1 (at ps y) → x ≡ y) [
        | true ↦ λ _ _ two. let f : true ≡ false = sym (reaches_at ps x s) ∙ ap (reaches ps) two ∙ d.1 in cc
        | false ↦ λ _ u two. injective ps x y d.2 s u two
      ] refl r one
    ] refl t e

one_to_one : (ps : List (ℕ × ℕ)) (x y : ℕ) → Differ ps → takes ps x ≡ true → takes ps y ≡ true → nat_eq (at ps x) (at ps y) ≡ nat_eq x y
one_to_one ps x y d t r = both_ways (nat_eq (at ps x) (at ps y)) (nat_eq x y)
    (λ e. ap (nat_eq x) (sym (injective ps x y d t r (nat_eq_is (at ps x) (at ps y) e))) ∙ nat_eq_same x)
    (λ e. ap (λ z. nat_eq (at ps x) (at ps z)) (sym (nat_eq_is x y e)) ∙ nat_eq_same (at ps x))

-- ---- faces

pub union_rising : (ys : List ℕ) → union [] ys ≡ rising nat_cmp ys
union_rising ys = same_labels (union [] ys) (rising nat_cmp ys) (sorted_union [] ys (sorted_none nat_cmp)) (sorted_rising nat_cmp_total ys) (λ z. has-union [] ys z ∙ sym (any-rising nat_cmp equal_cmp (λ y. nat_eq y z) ys))

has-image : (ps : List (ℕ × ℕ)) (xs : List ℕ) (x : ℕ) → Differ ps → takes ps x ≡ true → list_all (takes ps) xs ≡ true → has (map (at ps) xs) (at ps x) ≡ has xs x
has-image ps [] x d t a = refl
has-image ps (y ∷ ys) x d t a = λ i. one_to_one ps y x d (first_so (takes ps y) (list_all (takes ps) ys) a) t i || has-image ps ys x d t (second_so (takes ps y) (list_all (takes ps) ys) a) i

length-face_image : (ps : List (ℕ × ℕ)) (xs : List ℕ) → Differ ps → IsStrictlySortedBy nat_cmp xs → list_all (takes ps) xs ≡ true → length (face_image ps xs) ≡ length xs
length-face_image ps [] d s a = refl
length-face_image ps (x ∷ xs) d s a =
    let rest : list_all (takes ps) xs ≡ true = second_so (takes ps x) (list_all (takes ps) xs) a in
    let new : among nat_cmp (at ps x) (face_image ps xs) ≡ false =
    among-rising nat_cmp_total (at ps x) (map (at ps) xs) ∙ among-has (at ps x) (map (at ps) xs) ∙ has-image ps xs x d (first_so (takes ps x) (list_all (takes ps) xs) a) rest ∙ above_not x xs (above_head nat_cmp x xs s) in
    omega (arith, length-put_new nat_cmp (at ps x) (face_image ps xs) new, length-face_image ps xs d (above_tail nat_cmp x xs s) rest)

above_image : (ps : List (ℕ × ℕ)) (xs : List ℕ) → ArePositive ps → list_all (takes ps) xs ≡ true → AllByRecursion (λ y. nat_cmp 0 y ≡ Less) (map (at ps) xs)
above_image ps [] h a = tt
above_image ps (x ∷ xs) h a = (cmp_less 0 (at ps x) (positive_at ps x h (first_so (takes ps x) (list_all (takes ps) xs) a)), above_image ps xs h (second_so (takes ps x) (list_all (takes ps) xs) a))

facet_image : (d : ℕ) (ps : List (ℕ × ℕ)) (f : List ℕ) → IsMap ps → IsFacet d f → list_all (takes ps) f ≡ true → IsFacet d (face_image ps f)
facet_image d ps f m facet a =
    let same : length (face_image ps f) ≡ length f = length-face_image ps f m.differ (above_tail nat_cmp 0 f facet.face.rising) a in
    record {
      face = record {
        few = omega (arith, same, facet.face.few);
        rising = above_cons nat_cmp 0 (face_image ps f) (each_rising nat_cmp (λ y. nat_cmp 0 y ≡ Less) (map (at ps) f) (above_image ps f m.positive a)) (sorted_rising nat_cmp_total (map (at ps) f));
      };
      size = same ∙ facet.size;
    }

-- ---- lists of facets

pub facet_images : (d : ℕ) (ps : List (ℕ × ℕ)) (fs : List (List ℕ)) → IsMap ps → AllByRecursion (IsFacet d) fs → takes_all ps fs ≡ true → AllByRecursion (IsFacet d) (face_images ps fs)
facet_images d ps [] m h a = tt
facet_images d ps (f ∷ fs) m h a = (
  facet_image d ps f m h.0 (first_so (list_all (takes ps) f) (takes_all ps fs) a),
  facet_images d ps fs m h.1 (second_so (list_all (takes ps) f) (takes_all ps fs) a),
)

-- ---- a face's image, label by label

pub image_done : (ps : List (ℕ × ℕ)) (shown f made : List ℕ) (i : ℕ) → shown ≡ f → length shown ≤ i → made ≡ union [] (map (at ps) (take i shown)) → list_all (takes ps) (take i shown) ≡ true → (list_all (takes ps) f ≡ true) × (made ≡ face_image ps f)
image_done ps shown f made i e l so_far taken =
    let whole : take i shown ≡ f = take_all i shown l ∙ e in
    (ap (list_all (takes ps)) (sym whole) ∙ taken, so_far ∙ ap (λ xs. union [] (map (at ps) xs)) whole ∙ union_rising (map (at ps) f))

pub label_taken : (ps : List (ℕ × ℕ)) (shown f : List ℕ) (i : ℕ) → shown ≡ f → i < length shown → list_all (takes ps) f ≡ true → takes ps (get_or shown i 0) ≡ true
label_taken ps shown f i e l all =
    elim (takes ps (get_or shown i 0)) as (λ b. takes ps (get_or shown i 0) ≡ b → b ≡ true) [
      | true ↦ λ _. refl
      | false ↦ λ none. sym (list_all_at (takes ps) shown i 0 l none) ∙ ap (list_all (takes ps)) e ∙ all
    ] refl

-- the image of the labels so far has room for one more
pub image_fits : (ps : List (ℕ × ℕ)) (shown f made : List ℕ) (i y : ℕ) → shown ≡ f → IsFace f → i < length shown → made ≡ union [] (map (at ps) (take i shown)) → length (with made y) ≤ 8
image_fits ps shown f made i y e face l so_far =
    omega (arith, length_put_le y made, ap length so_far, length_union_le [] (map (at ps) (take i shown)), length-map (take i shown) (at ps), length-take i shown, ap length e, face.few)

-- ---- renaming a complex

pub images_pure : (k : ComplexView) (d : ℕ) (ps : List (ℕ × ℕ)) (shown items : List (List ℕ)) → shown ≡ k.facets → d ≡ k.dim → IsComplex k → IsMap ps → (takes_all ps shown ≡ true) × (items ≡ face_images ps shown) → AllByRecursion (IsFacet d) items
images_pure k d ps shown items e f complex m made =
    let P : ℕ → List (List ℕ) → Type 0 = λ n gs. AllByRecursion (IsFacet n) gs in
    let facets : P d shown = subst (λ (n : ℕ). P n shown) (sym f) (subst (P k.dim) (sym e) complex.pure) in
    subst (P d) (sym made.1) (facet_images d ps shown m facets made.0)
