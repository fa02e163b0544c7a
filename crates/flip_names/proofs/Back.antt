-- A renamed complex and named flips are renamed back by the pairs turned round.
use Rattle.std.proofs.Common.{◌≡◌, ℕ, Bool, true, false, nat_eq, cond, ◌||◌, List, [], ◌∷◌, map, sym, ◌∙◌, ap, refl, subst, inl, inr}
use Rattle.std.specs.List.{list_all, AllByRecursion}
use Rattle.std.specs.List.Sorted.{IsStrictlySortedBy}
use Rattle.std.specs.Ordering.{nat_cmp, match_ordering}
use Rattle.std.specs.declared.cmp.Ordering.TheVariants.{Less, Equal, Greater}
use Rattle.std.specs.Cmp.{first_so, second_so}
use Rattle.std.specs.Cmp.Derive.{both_true}
use Rattle.std.specs.Cmp.Lexicographic.{nat_list_cmp_total}
use Rattle.complex_core.specs.Labels.{has}
use Rattle.complex_core.specs.Rising.{put, rising}
use Rattle.complex_core.specs.Complexes.{ComplexView}
use Rattle.complex_core.specs.Maps.{IsMap, Differ, pair_cmp, takes, turned, at, face_image, image, takes_all, renamed}
use Rattle.complex_core.proofs.Sets.{above_tail, sorted_rising}
use Rattle.complex_core.proofs.Images.{reaches_at}
use Rattle.complex_core.proofs.Laws.{both_ways, each_has, each_listed, listed, nat_eq_is, nat_eq_same, or_left, same_labels, same_lists}
use Rattle.complex_core.proofs.Pairs.{pair_exact, made_map, differ_turned, positive_turned, takes-rising, takes-turned, reaches-turned}
use Rattle.complex_core.proofs.Places.{at_back}
use Rattle.complex_core.proofs.SubsetLists.{two, clash}
use Rattle.flip_rules.specs.declared.flip.Flip.{Flip}
use Rattle.flip_rules.specs.Flips.{OfFaces}
use Rattle.flip_names.specs.Names.{named_flip, named_flips, takes_flip, takes_flips}
use Rattle.flip_names.specs.Laws.{Renames, map_back, RenamingIsUndone}
use Rattle.flip_names.proofs.Images.{Taken, in_image, image_has, image_rises, taken_set, listed_image, image_listed}
use Rattle.flip_names.proofs.Flips.{facet_rises, takes_first, takes_second}
use Rattle.flip_names.proofs.Faces.{sizes_are_kept, renamed_is_complex}
use Rattle.complex_core.proofs.Members.{passes_has}

-- ---- labels there and back

-- a pair in its place, among pairs with other first numbers
at-put : (p : ℕ × ℕ) (ps : List (ℕ × ℕ)) (x : ℕ) → takes ps p.0 ≡ false → at (put pair_cmp p ps) x ≡ at (p ∷ ps) x
at-put p [] x n = refl
at-put p (q ∷ ps) x n =
    elim (pair_cmp p q) as (λ r. pair_cmp p q ≡ r → at (match_ordering r (p ∷ q ∷ ps) (q ∷ ps) (q ∷ put pair_cmp p ps)) x ≡ at (p ∷ q ∷ ps) x) [
      | Less ↦ λ _. refl
      | Equal ↦ λ e. clash (takes (q ∷ ps) p.0) (or_left (nat_eq q.0 p.0) (takes ps p.0) (ap (λ z. nat_eq z.0 p.0) (sym (pair_exact p q e)) ∙ nat_eq_same p.0)) n
      | Greater ↦ λ _. ap (λ y. cond (nat_eq q.0 x) q.1 y) (at-put p ps x (behind (nat_eq q.0 p.0) (takes ps p.0) n)) ∙ swap
    ] refl
  where
    behind : (a b : Bool) → (a || b) ≡ false → b ≡ false
    behind true b h = clash true refl h
    behind false b h = h

    front : (a b : Bool) → (a || b) ≡ false → a ≡ false
    front true b h = h
    front false b h = refl

    swap : cond (nat_eq q.0 x) q.1 (cond (nat_eq p.0 x) p.1 (at ps x)) ≡ cond (nat_eq p.0 x) p.1 (cond (nat_eq q.0 x) q.1 (at ps x))
    swap = elim (two (nat_eq q.0 x)) [
      | inl e ↦
          let o : nat_eq p.0 x ≡ false = elim (two (nat_eq p.0 x)) [
            | inl f ↦ clash (nat_eq q.0 p.0) (ap (nat_eq q.0) (nat_eq_is p.0 x f) ∙ e) (front (nat_eq q.0 p.0) (takes ps p.0) n)
            | inr f ↦ f
          ] in
          (λ i. cond (e i) q.1 (cond (nat_eq p.0 x) p.1 (at ps x))) ∙ sym (λ i. cond (o i) p.1 (cond (e i) q.1 (at ps x)))
      | inr e ↦ (λ i. cond (e i) q.1 (cond (nat_eq p.0 x) p.1 (at ps x))) ∙ sym (λ i. cond (nat_eq p.0 x) p.1 (cond (e i) q.1 (at ps x)))
    ]

-- the order of the pairs plays no part
at-rising : (ps : List (ℕ × ℕ)) (x : ℕ) → Differ ps → at (rising pair_cmp ps) x ≡ at ps x
at-rising [] x d = refl
at-rising (p ∷ ps) x d =
    at-put p (rising pair_cmp ps) x (takes-rising ps p.0 ∙ d.0)
    ∙ ap (λ y. cond (nat_eq p.0 x) p.1 y) (at-rising ps x d.2)

turned-turned : (m : List (ℕ × ℕ)) → turned (turned m) ≡ m
turned-turned [] = refl
turned-turned (p ∷ m) = ap (λ ps. p ∷ ps) (turned-turned m)

at-at : (m : List (ℕ × ℕ)) (x : ℕ) → Differ m → takes m x ≡ true → at (map_back m) (at m x) ≡ x
at-at m x d t =
    at-rising (turned m) (at m x) (differ_turned m d)
    ∙ ap (λ ps. at (turned m) (at ps x)) (sym (turned-turned m))
    ∙ at_back (turned m) x (differ_turned m d) (reaches-turned m x ∙ t)

pub back_is_map : (m : List (ℕ × ℕ)) → IsMap m → IsMap (map_back m)
back_is_map m h = made_map (turned m) (positive_turned m h.positive) (differ_turned m h.differ)

-- ---- sets there and back

-- the map back takes what the labels become
taken_back : (m : List (ℕ × ℕ)) (f : List ℕ) → Taken m f → Taken (map_back m) (face_image m f)
taken_back m f t = each_has (takes (map_back m)) (face_image m f) (λ y u.
    let q : (x : ℕ) × (has f x ≡ true) × (y ≡ at m x) = image_has m f y u in
    ap (takes (map_back m)) q.2 ∙ takes-rising (turned m) (at m q.0) ∙ takes-turned m (at m q.0) ∙ reaches_at m q.0 (passes_has (takes m) f q.0 t q.1))

set_back : (m : List (ℕ × ℕ)) (f : List ℕ) → Differ m → IsStrictlySortedBy nat_cmp f → Taken m f → face_image (map_back m) (face_image m f) ≡ f
set_back m f d s t = same_labels (face_image (map_back m) (face_image m f)) f (image_rises (map_back m) (face_image m f)) s (λ z. both_ways (has (face_image (map_back m) (face_image m f)) z) (has f z)
    (λ u.
    let q : (y : ℕ) × (has (face_image m f) y ≡ true) × (z ≡ at (map_back m) y) = image_has (map_back m) (face_image m f) z u in
    let p : (x : ℕ) × (has f x ≡ true) × (q.0 ≡ at m x) = image_has m f q.0 q.1 in
    ap (has f) (q.2 ∙ ap (at (map_back m)) p.2 ∙ at-at m p.0 d (passes_has (takes m) f p.0 t p.1)) ∙ p.1)
    (λ u.
    ap (has (face_image (map_back m) (face_image m f))) (sym (at-at m z d (passes_has (takes m) f z t u)))
    ∙ in_image (map_back m) (face_image m f) (at m z) (in_image m f z u)))

-- ---- complexes there and back

module _ (m : List (ℕ × ℕ)) (k : ComplexView) (r : Renames m k) where
  one_back : (f : List ℕ) → listed k.facets f ≡ true → face_image (map_back m) (face_image m f) ≡ f
  one_back f t = set_back m f r.is_map.differ (facet_rises k.dim k.facets f r.complex.pure t) (taken_set m r.is_map.differ k.facets r.taken f t)

  facets_back : image (map_back m) (image m k.facets) ≡ k.facets
  facets_back = same_lists (image (map_back m) (image m k.facets)) k.facets (sorted_rising nat_list_cmp_total (map (face_image (map_back m)) (image m k.facets))) r.complex.rising (λ g. both_ways (listed (image (map_back m) (image m k.facets)) g) (listed k.facets g)
      (λ t.
      let q : (h : List ℕ) × (listed (image m k.facets) h ≡ true) × (g ≡ face_image (map_back m) h) = image_listed (map_back m) (image m k.facets) g t in
      let p : (f : List ℕ) × (listed k.facets f ≡ true) × (q.0 ≡ face_image m f) = image_listed m k.facets q.0 q.1 in
      ap (listed k.facets) (q.2 ∙ ap (face_image (map_back m)) p.2 ∙ one_back p.0 p.1) ∙ p.1)
      (λ t.
      ap (listed (image (map_back m) (image m k.facets))) (sym (one_back g t))
      ∙ listed_image (map_back m) (image m k.facets) (face_image m g) (listed_image m k.facets g t)))

  pub renamed_back : renamed (renamed k m) (map_back m) ≡ k
  renamed_back = λ i. record { dim = k.dim; facets = facets_back i }

  all_back : takes_all (map_back m) (image m k.facets) ≡ true
  all_back = each_listed (λ f. list_all (takes (map_back m)) f) (image m k.facets) (λ g t.
      let q : (f : List ℕ) × (listed k.facets f ≡ true) × (g ≡ face_image m f) = image_listed m k.facets g t in
      let P : List ℕ → Type 0 = λ h. Taken (map_back m) h in
      subst P (sym q.2) (taken_back m q.0 (taken_set m r.is_map.differ k.facets r.taken q.0 q.1)))

  pub renames_back : Renames (map_back m) (renamed k m)
  renames_back = record { is_map = back_is_map m r.is_map; complex = renamed_is_complex m k r; taken = all_back }

-- complexes that become the same one are the same
pub one_complex : (m : List (ℕ × ℕ)) (k l : ComplexView) → Renames m k → Renames m l → renamed k m ≡ renamed l m → k ≡ l
one_complex m k l rk rl e = sym (renamed_back m k rk) ∙ ap (λ n. renamed n (map_back m)) e ∙ renamed_back m l rl

-- ---- flips there and back

flip_back : (m : List (ℕ × ℕ)) (f : Flip) → Differ m → OfFaces f → takes_flip m f ≡ true → named_flip (map_back m) (named_flip m f) ≡ f
flip_back m f d faces t = λ i. record {
  a = set_back m f.a d (above_tail nat_cmp 0 f.a faces.first.rising) (takes_first m f t) i;
  b = set_back m f.b d (above_tail nat_cmp 0 f.b faces.second.rising) (takes_second m f t) i;
}

flips_back : (m : List (ℕ × ℕ)) (fs : List Flip) → Differ m → AllByRecursion OfFaces fs → takes_flips m fs ≡ true → named_flips (map_back m) (named_flips m fs) ≡ fs
flips_back m [] d faces t = refl
flips_back m (f ∷ fs) d faces t = λ i.
    flip_back m f d faces.0 (first_so (takes_flip m f) (takes_flips m fs) t) i
    ∷ flips_back m fs d faces.1 (second_so (takes_flip m f) (takes_flips m fs) t) i

flips_taken_back : (m : List (ℕ × ℕ)) (fs : List Flip) → takes_flips m fs ≡ true → takes_flips (map_back m) (named_flips m fs) ≡ true
flips_taken_back m [] t = refl
flips_taken_back m (f ∷ fs) t =
    let h : takes_flip m f ≡ true = first_so (takes_flip m f) (takes_flips m fs) t in
    both_true (both_true (taken_back m f.a (takes_first m f h)) (taken_back m f.b (takes_second m f h))) (flips_taken_back m fs (second_so (takes_flip m f) (takes_flips m fs) t))

pub named_are_faces : (m : List (ℕ × ℕ)) (fs : List Flip) → IsMap m → AllByRecursion OfFaces fs → takes_flips m fs ≡ true → AllByRecursion OfFaces (named_flips m fs)
named_are_faces m [] h faces t = tt
named_are_faces m (f ∷ fs) h faces t = (
  (sizes_are_kept m f h faces.0 (first_so (takes_flip m f) (takes_flips m fs) t)).faces,
  named_are_faces m fs h faces.1 (second_so (takes_flip m f) (takes_flips m fs) t),
)

pub renaming_is_undone : RenamingIsUndone
renaming_is_undone m k fs r = record {
  back = record {
    complex = renames_back m k r.complex;
    faces = named_are_faces m fs r.complex.is_map r.faces r.taken;
    taken = flips_taken_back m fs r.taken;
  };
  complex = renamed_back m k r.complex;
  flips_are = flips_back m fs r.complex.is_map.differ r.faces r.taken;
}
