-- The labels of a report are small, and so are the names that they get when its flips are carried over a map.
use Rattle.std.proofs.Common.{◌≡◌, ℕ, ◌+◌, ◌<◌, ◌≤◌, true, false, not, nat_eq, cond, ◌||◌, List, [], ◌∷◌, filter, length, sym, ◌∙◌, ap, refl, arith}
use Rattle.std.specs.List.{AllByRecursion}
use Rattle.std.specs.Cmp.{first_so}
use Rattle.complex_core.specs.Labels.{has}
use Rattle.complex_core.specs.Rising.{put}
use Rattle.complex_core.specs.Complexes.{ComplexView}
use Rattle.complex_core.specs.Maps.{IsMap, pair_cmp, takes, at, face_image, image, turned, used, renamed}
use Rattle.complex_core.proofs.Booleans.{or_none}
use Rattle.complex_core.proofs.Laws.{listed, nat_eq_same, or_left, or_right}
use Rattle.complex_core.proofs.Members.{each_push}
use Rattle.complex_core.proofs.Sets.{each_put}
use Rattle.complex_core.proofs.Sorting.{each_filter}
use Rattle.flip_rules.specs.Laws.{inverse_list}
use Rattle.flip_rules.specs.declared.flip.Flip.{Flip}
use Rattle.flip_names.specs.Names.{named_flips}
use Rattle.flip_names.proofs.Images.{image_has, image_listed}
use Rattle.flip_journal.specs.Carried.{first_gap, least_unused, vanishes, with_label, with_labels, given}
use Rattle.flip_journal.proofs.Kept.{given_few, pairs_few}
use Rattle.flip_journal.proofs.Labels.{used_found}
use Rattle.flip_journal.proofs.Naming.{Grown, Left, grown, left}
use Rattle.sphere_text.proofs.Fits.{AreSmall}

-- ---- under names of places

name_small : (m : List (ℕ × ℕ)) (x : ℕ) → AreSmall m → at m x ≤ 61024
name_small [] x s = omega arith
name_small (p ∷ ps) x s = elim (nat_eq p.0 x) as (λ b. cond b p.1 (at ps x) ≤ 61024) [ true ↦ s.0 | false ↦ name_small ps x s.1 ]

-- no label of the set is above this number
abbrev pub HasSmall : List ℕ → Type 0
HasSmall f = (x : ℕ) → has f x ≡ true → x ≤ 61024

image_small : (m : List (ℕ × ℕ)) (f : List ℕ) → AreSmall m → HasSmall (face_image m f)
image_small m f s x t = let q : (z : ℕ) × (has f z ≡ true) × (x ≡ at m z) = image_has m f x t in omega (arith, name_small m q.0 s, q.2)

pub used_small : (k : ComplexView) (m : List (ℕ × ℕ)) → AreSmall m → HasSmall (used (renamed k m).facets)
used_small k m s x t =
    let r : (g : List ℕ) × (listed (image m k.facets) g ≡ true) × (has g x ≡ true) = used_found (image m k.facets) x t in
    let q : (f : List ℕ) × (listed k.facets f ≡ true) × (r.0 ≡ face_image m f) = image_listed m k.facets r.0 r.1 in
    image_small m q.0 s x (ap (λ g. has g x) (sym q.2) ∙ r.2)

abbrev pub IsSmall : Flip → Type 0
IsSmall f = HasSmall f.a × HasSmall f.b

pub named_small : (m : List (ℕ × ℕ)) (flips : List Flip) → AreSmall m → AllByRecursion IsSmall (named_flips m flips)
named_small m [] s = tt
named_small m (f ∷ fs) s = ((image_small m f.a s, image_small m f.b s), named_small m fs s)

-- what holds of a flip and of its inverse holds of each flip of the inverse list
pub each_inverse : (P : Flip → Type 0) (flips : List Flip) → ((f : Flip) → P f → P (record { a = f.b; b = f.a })) → AllByRecursion P flips → AllByRecursion P (inverse_list flips)
each_inverse P [] turn h = tt
each_inverse P (f ∷ fs) turn h = each_push P (inverse_list fs) (record { a = f.b; b = f.a }) (each_inverse P fs turn h.1) (turn f h.0)

-- ---- names while flips are carried

-- no label and no name is above it
pub record AreLow (names : List (ℕ × ℕ)) : Type 0 where
  pub labels : (x : ℕ) → takes names x ≡ true → x ≤ 61024
  pub small : AreSmall names

gap_low : (n : ℕ) (xs : List ℕ) → first_gap n xs ≤ n + length xs
gap_low n [] = omega arith
gap_low n (x ∷ xs) = elim (nat_eq x n) as (λ b. cond b (first_gap (n + 1) xs) n ≤ n + length (x ∷ xs)) [ true ↦ omega (arith, gap_low (n + 1) xs) | false ↦ omega arith ]

-- fewer labels than this number have names when a new one gets its own, so that this isn't above it either
new_small : (names : List (ℕ × ℕ)) (x : ℕ) → IsMap names → AreLow names → 0 < x → x ≤ 61024 → takes names x ≡ false → least_unused names ≤ 61024
new_small names x h s low high t = omega (arith, gap_low 1 (given names), given_few names, pairs_few names x 61024 h low high t s.labels)

one_low : (names : List (ℕ × ℕ)) (x : ℕ) → IsMap names → AreLow names → 0 < x → x ≤ 61024 → AreSmall (with_label names x)
one_low names x h s low high = elim (takes names x) as (λ b. takes names x ≡ b → AreSmall (cond b names (put pair_cmp (x, least_unused names) names))) [
  | true ↦ λ _. s.small
  | false ↦ λ t. each_put pair_cmp (λ p. p.1 ≤ 61024) (x, least_unused names) names (new_small names x h s low high t) s.small
] refl

-- the labels of a face get names
abbrev IsLow : List ℕ → Type 0
IsLow xs = (x : ℕ) → has xs x ≡ true → (0 < x) × (x ≤ 61024)

labels_low : (names more : List (ℕ × ℕ)) (xs : List ℕ) → Grown names more xs → AreLow names → IsLow xs → (x : ℕ) → takes more x ≡ true → x ≤ 61024
labels_low names more xs g s low x t = elim (takes names x) as (λ b. takes names x ≡ b → x ≤ 61024) [
  | true ↦ λ e. s.labels x e
  | false ↦ λ e. (low x (ap (λ c. c || has xs x) (sym e) ∙ sym (g.takes_are x) ∙ t)).1
] refl

pub all_low : (names : List (ℕ × ℕ)) (xs : List ℕ) → IsMap names → AreLow names → IsLow xs → AreLow (with_labels names xs)
all_low names [] h s low = s
all_low names (x ∷ xs) h s low =
    let here : (0 < x) × (x ≤ 61024) = low x (or_left (nat_eq x x) (has xs x) (nat_eq_same x)) in
    let first : IsLow (x ∷ []) = λ z t. low z (or_left (nat_eq x z) (has xs z) (sym (or_none (nat_eq x z)) ∙ t)) in
    let one : Grown names (with_label names x) (x ∷ []) = grown names (x ∷ []) h (λ z t. (first z t).0) in
    let next : AreLow (with_label names x) = record { labels = labels_low names (with_label names x) (x ∷ []) one s first; small = one_low names x h s here.0 here.1 } in
    all_low (with_label names x) xs one.is_map next (λ z t. low z (or_right (nat_eq x z) (has xs z) t))

-- a label that vanishes loses its name
pub left_low : (names : List (ℕ × ℕ)) (a : List ℕ) → IsMap names → AreLow names → AreLow (filter (λ p. not (vanishes a p.0)) names)
left_low names a h s =
    let l : Left names (filter (λ p. not (vanishes a p.0)) names) (λ x. not (vanishes a x)) = left names (λ x. not (vanishes a x)) h in
    record {
      labels = λ x t. s.labels x (first_so (takes names x) (not (vanishes a x)) (sym (l.takes_are x) ∙ t));
      small = each_filter (λ p. p.1 ≤ 61024) (λ p. not (vanishes a p.0)) names s.small;
    }

-- ---- the pairs turned round

pub turned_small : (m : List (ℕ × ℕ)) → ((x : ℕ) → takes m x ≡ true → x ≤ 61024) → AreSmall (turned m)
turned_small [] h = tt
turned_small (p ∷ ps) h = (h p.0 (or_left (nat_eq p.0 p.0) (takes ps p.0) (nat_eq_same p.0)), turned_small ps (λ x t. h x (or_right (nat_eq p.0 x) (takes ps x) t)))
