-- Names of labels: a label more, and less, and what a map makes of labels.
use Rattle.std.proofs.Common.{◌≡◌, ℕ, ◌<◌, Bool, true, false, nat_eq, cond, ◌||◌, ◌&&◌, List, [], ◌∷◌, map, filter, sym, ◌∙◌, ap, refl, inl, inr, subst}
use Rattle.std.specs.List.{list_any}
use Rattle.std.specs.Ordering.{nat_cmp}
use Rattle.std.specs.Cmp.Lexicographic.{pointwise}
use Rattle.std.proofs.lemmas.List.Kept.{IsStrictlySortedBy-filter}
use Rattle.complex_core.specs.Labels.{has, face_cmp}
use Rattle.complex_core.specs.Rising.{put, rising}
use Rattle.complex_core.specs.Complexes.{ComplexView}
use Rattle.complex_core.specs.Maps.{IsMap, Differ, pair_cmp, takes, reaches, at, face_images, used, renamed}
use Rattle.complex_core.proofs.Sets.{any-put}
use Rattle.complex_core.proofs.Booleans.{and_false, left_off, or_none, right_off}
use Rattle.complex_core.proofs.Laws.{both_false, listed, nat_eq_is, nat_eq_same, or_left, or_right, same_set_itself}
use Rattle.complex_core.proofs.Pairs.{made_map, pair_exact, pair_total}
use Rattle.complex_core.proofs.Searching.{rising_own, to_end}
use Rattle.complex_core.proofs.SetLists.{used_label}
use Rattle.complex_core.proofs.Sorting.{each_filter}
use Rattle.complex_core.proofs.SubsetLists.{two, clash}
use Rattle.flip_journal.specs.Carried.{least_unused, with_label, with_labels, IsLeastUnused}
use Rattle.flip_journal.proofs.Gaps.{new_name_is_least}

-- ---- complexes under two maps that agree

map_alike : (m n : List (ℕ × ℕ)) (f : List ℕ) → ((x : ℕ) → has f x ≡ true → at m x ≡ at n x) → map (at m) f ≡ map (at n) f
map_alike m n [] h = refl
map_alike m n (x ∷ f) h = λ i. h x (or_left (nat_eq x x) (has f x) (nat_eq_same x)) i ∷ map_alike m n f (λ y t. h y (or_right (nat_eq x y) (has f y) t)) i

images_alike : (m n : List (ℕ × ℕ)) (fs : List (List ℕ)) → ((f : List ℕ) (x : ℕ) → listed fs f ≡ true → has f x ≡ true → at m x ≡ at n x) → face_images m fs ≡ face_images n fs
images_alike m n [] h = refl
images_alike m n (f ∷ fs) h = λ i.
    rising nat_cmp (map_alike m n f (λ x t. h f x (or_left (pointwise nat_eq f f) (listed fs f) (same_set_itself f)) t) i)
    ∷ images_alike m n fs (λ g x t. h g x (or_right (pointwise nat_eq f g) (listed fs g) t)) i

pub renamed_alike : (m n : List (ℕ × ℕ)) (k : ComplexView) → ((x : ℕ) → has (used k.facets) x ≡ true → at m x ≡ at n x) → renamed k m ≡ renamed k n
renamed_alike m n k h = λ i. record { dim = k.dim; facets = rising face_cmp (images_alike m n k.facets (λ f x t u. h x (used_label k.facets f x t u)) i) }

-- ---- pairs that are there

abbrev paired : List (ℕ × ℕ) → ℕ → ℕ → Bool
paired m x y = list_any (λ p. nat_eq p.0 x && nat_eq p.1 y) m

paired_takes : (m : List (ℕ × ℕ)) (x y : ℕ) → paired m x y ≡ true → takes m x ≡ true
paired_takes [] x y t = t
paired_takes (p ∷ m) x y t = elim (two (nat_eq p.0 x)) [
  | inl e ↦ or_left (nat_eq p.0 x) (takes m x) e
  | inr e ↦ or_right (nat_eq p.0 x) (takes m x) (paired_takes m x y (ap (λ c. (c && nat_eq p.1 y) || paired m x y) (sym e) ∙ t))
]

pair_at : (m : List (ℕ × ℕ)) (x : ℕ) → takes m x ≡ true → paired m x (at m x) ≡ true
pair_at [] x t = t
pair_at (p ∷ m) x t =
    elim (nat_eq p.0 x) as (λ b. (b || takes m x) ≡ true → ((b && nat_eq p.1 (cond b p.1 (at m x))) || paired m x (cond b p.1 (at m x))) ≡ true) [
      | true ↦ λ _. or_left (nat_eq p.1 p.1) (paired m x p.1) (nat_eq_same p.1)
      | false ↦ λ r. pair_at m x r
    ] t

at_pair : (m : List (ℕ × ℕ)) (x y : ℕ) → Differ m → paired m x y ≡ true → at m x ≡ y
at_pair [] x y d t = let e : false ≡ true = t in cc
at_pair (p ∷ m) x y d t =
    elim (nat_eq p.0 x) as (λ b. nat_eq p.0 x ≡ b → ((b && nat_eq p.1 y) || paired m x y) ≡ true → cond b p.1 (at m x) ≡ y) [
      | true ↦ λ e r. elim (two (nat_eq p.1 y)) [
        | inl f ↦ nat_eq_is p.1 y f
        | inr f ↦ clash (takes m p.0) (ap (takes m) (nat_eq_is p.0 x e) ∙ paired_takes m x y (ap (λ c. c || paired m x y) (sym f) ∙ r)) d.0
      ]
      | false ↦ λ _ r. at_pair m x y d.2 r
    ] refl t

-- ---- a label less

at-filter : (q : ℕ → Bool) (m : List (ℕ × ℕ)) (x : ℕ) → q x ≡ true → at (filter (λ p. q p.0) m) x ≡ at m x
at-filter q [] x t = refl
at-filter q (p ∷ m) x t =
    elim (q p.0) as (λ b. q p.0 ≡ b → at (cond b (p ∷ filter (λ r. q r.0) m) (filter (λ r. q r.0) m)) x ≡ at (p ∷ m) x) [
      | true ↦ λ _. ap (cond (nat_eq p.0 x) p.1) (at-filter q m x t)
      | false ↦ λ e. at-filter q m x t ∙ elim (two (nat_eq p.0 x)) [
        | inl f ↦ clash (q x) t (ap q (sym (nat_eq_is p.0 x f)) ∙ e)
        | inr f ↦ sym (ap (λ b. cond b p.1 (at m x)) f)
      ]
    ] refl

takes-filter : (q : ℕ → Bool) (m : List (ℕ × ℕ)) (x : ℕ) → takes (filter (λ p. q p.0) m) x ≡ (takes m x && q x)
takes-filter q [] x = refl
takes-filter q (p ∷ m) x =
    elim (q p.0) as (λ b. q p.0 ≡ b → takes (cond b (p ∷ filter (λ r. q r.0) m) (filter (λ r. q r.0) m)) x ≡ ((nat_eq p.0 x || takes m x) && q x)) [
      | true ↦ λ e. ap (λ c. nat_eq p.0 x || c) (takes-filter q m x) ∙ kept (nat_eq p.0 x) (takes m x) (q x) (λ f. ap q (sym (nat_eq_is p.0 x f)) ∙ e)
      | false ↦ λ e. takes-filter q m x ∙ lost (nat_eq p.0 x) (takes m x) (q x) (λ f. ap q (sym (nat_eq_is p.0 x f)) ∙ e)
    ] refl
  where
    kept : (a b c : Bool) → (a ≡ true → c ≡ true) → (a || (b && c)) ≡ ((a || b) && c)
    kept true b c h = sym (h refl)
    kept false b c h = refl

    lost : (a b c : Bool) → (a ≡ true → c ≡ false) → (b && c) ≡ ((a || b) && c)
    lost true b c h = ap (λ d. b && d) (h refl) ∙ and_false b ∙ sym (h refl)
    lost false b c h = refl

none-filter : {K : Type 0} (t p : K → Bool) (xs : List K) → list_any t xs ≡ false → list_any t (filter p xs) ≡ false
none-filter t p [] h = refl
none-filter t p (x ∷ xs) h =
    elim (p x) as (λ b. list_any t (cond b (x ∷ filter p xs) (filter p xs)) ≡ false) [
      | true ↦ both_false (left_off (t x) (list_any t xs) h) (none-filter t p xs (right_off (t x) (list_any t xs) h))
      | false ↦ none-filter t p xs (right_off (t x) (list_any t xs) h)
    ]

differ-filter : (p : ℕ × ℕ → Bool) (m : List (ℕ × ℕ)) → Differ m → Differ (filter p m)
differ-filter p [] d = tt
differ-filter p (q ∷ m) d =
    elim (p q) as (λ b. Differ (cond b (q ∷ filter p m) (filter p m))) [
      | true ↦ (none-filter (λ r. nat_eq r.0 q.0) p m d.0, none-filter (λ r. nat_eq r.1 q.1) p m d.1, differ-filter p m d.2)
      | false ↦ differ-filter p m d.2
    ]

pub record Left (names less : List (ℕ × ℕ)) (q : ℕ → Bool) : Type 0 where
  pub is_map : IsMap less
  pub takes_are : (x : ℕ) → takes less x ≡ (takes names x && q x)
  pub same : (x : ℕ) → q x ≡ true → at less x ≡ at names x

pub left : (names : List (ℕ × ℕ)) (q : ℕ → Bool) → IsMap names → Left names (filter (λ p. q p.0) names) q
left names q h = record {
  is_map = record {
    positive = each_filter (λ p. (0 < p.0) × (0 < p.1)) (λ p. q p.0) names h.positive;
    rising = IsStrictlySortedBy-filter pair_cmp (λ p. q p.0) names h.rising;
    differ = differ-filter (λ p. q p.0) names h.differ;
  };
  takes_are = takes-filter q names;
  same = at-filter q names;
}

-- ---- a label more

pub record Grown (names more : List (ℕ × ℕ)) (xs : List ℕ) : Type 0 where
  pub is_map : IsMap more
  pub takes_are : (x : ℕ) → takes more x ≡ (takes names x || has xs x)
  pub same : (x : ℕ) → takes names x ≡ true → at more x ≡ at names x

-- a pair more, of a label and a name that are new
pub put_map : (names : List (ℕ × ℕ)) (x n : ℕ) → IsMap names → 0 < x → 0 < n → takes names x ≡ false → reaches names n ≡ false → IsMap (put pair_cmp (x, n) names)
put_map names x n h low named t r = subst IsMap (ap (put pair_cmp (x, n)) (rising_own pair_total pair_exact names h.rising)) (made_map ((x, n) ∷ names) ((low, named), h.positive) (t, r, h.differ))

grown_new : (names : List (ℕ × ℕ)) (x n : ℕ) → IsMap names → 0 < x → 0 < n → takes names x ≡ false → reaches names n ≡ false → Grown names (put pair_cmp (x, n) names) (x ∷ [])
grown_new names x n h low named t r =
    let m : IsMap (put pair_cmp (x, n) names) = put_map names x n h low named t r in
    record {
      is_map = m;
      takes_are = λ z. any-put pair_cmp pair_exact (λ p. nat_eq p.0 z) (x, n) names ∙ to_end (nat_eq x z) (takes names z);
      same = λ z u. at_pair (put pair_cmp (x, n) names) z (at names z) m.differ (any-put pair_cmp pair_exact (λ p. nat_eq p.0 z && nat_eq p.1 (at names z)) (x, n) names ∙ or_right (nat_eq x z && nat_eq n (at names z)) (paired names z (at names z)) (pair_at names z u));
    }

grown_label : (names : List (ℕ × ℕ)) (x : ℕ) → IsMap names → 0 < x → Grown names (with_label names x) (x ∷ [])
grown_label names x h low = elim (takes names x) as (λ b. takes names x ≡ b → Grown names (cond b names (put pair_cmp (x, least_unused names) names)) (x ∷ [])) [
  | true ↦ λ t. record {
    is_map = h;
    takes_are = λ z. there (takes names z) (nat_eq x z) (λ e. ap (takes names) (sym (nat_eq_is x z e)) ∙ t);
    same = λ z u. refl;
  }
  | false ↦ λ t.
      let l : IsLeastUnused names (least_unused names) = new_name_is_least names h.positive in
      grown_new names x (least_unused names) h low l.positive t l.unused
] refl
  where
    there : (a b : Bool) → (b ≡ true → a ≡ true) → a ≡ (a || (b || false))
    there true b h = refl
    there false true h = let e : false ≡ true = h refl in cc
    there false false h = refl

pub grown : (names : List (ℕ × ℕ)) (xs : List ℕ) → IsMap names → ((x : ℕ) → has xs x ≡ true → 0 < x) → Grown names (with_labels names xs) xs
grown names [] h low = record { is_map = h; takes_are = λ z. sym (or_none (takes names z)); same = λ z t. refl }
grown names (x ∷ xs) h low =
    let one : Grown names (with_label names x) (x ∷ []) = grown_label names x h (low x (or_left (nat_eq x x) (has xs x) (nat_eq_same x))) in
    let rest : Grown (with_label names x) (with_labels (with_label names x) xs) xs = grown (with_label names x) xs one.is_map (λ z t. low z (or_right (nat_eq x z) (has xs z) t)) in
    record {
      is_map = rest.is_map;
      takes_are = λ z. rest.takes_are z ∙ ap (λ c. c || has xs z) (one.takes_are z) ∙ grouped (takes names z) (nat_eq x z) (has xs z);
      same = λ z t. rest.same z (one.takes_are z ∙ or_left (takes names z) (nat_eq x z || false) t) ∙ one.same z t;
    }
  where
    grouped : (a b c : Bool) → ((a || (b || false)) || c) ≡ (a || (b || c))
    grouped true b c = refl
    grouped false true c = refl
    grouped false false c = refl
