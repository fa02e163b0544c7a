-- Another naming of the vertices keeps the Euler characteristic.
use Rattle.std.proofs.Common.{◌≡◌, ℕ, Bool, true, false, nat_eq, ◌||◌, ◌&&◌, List, [], ◌∷◌, map, sym, ◌∙◌, ap, refl, inl, inr, subst, cond}
use Rattle.std.specs.List.{filter}
use Rattle.std.specs.List.Sorted.{IsStrictlySortedBy}
use Rattle.std.specs.Ordering.{nat_cmp}
use Rattle.std.specs.Cmp.{first_so, second_so}
use Rattle.std.specs.Cmp.Derive.{both_true}
use Rattle.std.specs.Cmp.Lexicographic.{pointwise}
use Rattle.std.proofs.lemmas.List.Kept.{IsStrictlySortedBy-filter}
use lib.IntN.{pos, negsuc, ◌+ℤ◌}
use Rattle.complex_core.specs.Labels.{has, holds, face_cmp}
use Rattle.complex_core.specs.Complexes.{is_held}
use Rattle.complex_core.proofs.Laws.{both_ways, holds_has, holds_each, or_left, or_right, listed, same_set_itself, some_listed, same_labels, nat_eq_is, nat_eq_same}
use Rattle.face_counts.specs.Faces.{faces, is_some}
use Rattle.face_counts.specs.Eulers.{odd, total, sign, euler}
use Rattle.flip_laws.proofs.Images.{image, images}
use Rattle.pseudo_test.proofs.Subsets.{holds_through}
use Rattle.flip_laws.proofs.Totals.{distinct_sorted, total_same}
use Rattle.complex_core.proofs.SubsetLists.{map_from, map_back, two, clash}
use Rattle.face_counts.proofs.Parts.{Sets, listed-faces, face_is, faces_rise}
use Rattle.flip_laws.proofs.Renaming.{in_image, image_has, image_rises, holds-image, image_one, length-image, listed_image, image_listed, distinct_map}
use Rattle.complex_core.proofs.SetLists.{found_set}

in_filter : (p : ℕ → Bool) (f : List ℕ) (x : ℕ) → has f x ≡ true → p x ≡ true → has (filter p f) x ≡ true
in_filter p [] x t q = t
in_filter p (y ∷ f) x t q = elim (two (nat_eq y x)) [
  | inl e ↦ ap (λ c. has (cond c (y ∷ filter p f) (filter p f)) x) (ap p (nat_eq_is y x e) ∙ q) ∙ or_left (nat_eq y x) (has (filter p f) x) e
  | inr e ↦ let g : has (filter p f) x ≡ true = in_filter p f x (sym (ap (λ c. c || has f x) e) ∙ t) q in elim (p y) as (λ c. has (cond c (y ∷ filter p f) (filter p f)) x ≡ true) [ true ↦ or_right (nat_eq y x) (has (filter p f) x) g | false ↦ g ]
]

filter_in : (p : ℕ → Bool) (f : List ℕ) (x : ℕ) → has (filter p f) x ≡ true → (has f x ≡ true) × (p x ≡ true)
filter_in p [] x t = clash true refl (sym t)
filter_in p (y ∷ f) x t =
    elim (p y) as (λ c. p y ≡ c → has (cond c (y ∷ filter p f) (filter p f)) x ≡ true → (has (y ∷ f) x ≡ true) × (p x ≡ true)) [
      | true ↦ λ e q. elim (two (nat_eq y x)) [
        | inl d ↦ (or_left (nat_eq y x) (has f x) d, ap p (sym (nat_eq_is y x d)) ∙ e)
        | inr d ↦ let g : (has f x ≡ true) × (p x ≡ true) = filter_in p f x (sym (ap (λ c. c || has (filter p f) x) d) ∙ q) in (or_right (nat_eq y x) (has f x) g.0, g.1)
      ]
      | false ↦ λ e q. let g : (has f x ≡ true) × (p x ≡ true) = filter_in p f x q in (or_right (nat_eq y x) (has f x) g.0, g.1)
    ] refl t

some_has : (s : List ℕ) (x : ℕ) → has s x ≡ true → is_some s ≡ true
some_has [] x t = clash true refl (sym t)
some_has (y ∷ s) x t = refl

some-image : (m : ℕ → ℕ) (s : List ℕ) → is_some (image m s) ≡ is_some s
some-image m [] = refl
some-image m (x ∷ s) = some_has (image m (x ∷ s)) (m x) (in_image m (x ∷ s) x (or_left (nat_eq x x) (has s x) (nat_eq_same x)))

module _ (m : ℕ → ℕ) (u : List ℕ) (one : (x y : ℕ) → has u x ≡ true → has u y ≡ true → m x ≡ m y → x ≡ y) (fs : List (List ℕ)) (sets : Sets fs) (all : (f : List ℕ) → listed fs f ≡ true → holds u f ≡ true) (rises : IsStrictlySortedBy face_cmp fs) where
  image_sets : Sets (images m fs)
  image_sets g t = let q : (f : List ℕ) × (listed fs f ≡ true) × (g ≡ image m f) = image_listed m u one fs sets all rises g t in let P : List ℕ → Type 0 = λ v. IsStrictlySortedBy nat_cmp v in subst P (sym q.2) (image_rises m q.0)

  used_face : (s : List ℕ) → listed (faces fs) s ≡ true → IsStrictlySortedBy nat_cmp s × (holds u s ≡ true)
  used_face s t =
      let p : IsStrictlySortedBy nat_cmp s × (is_held fs s ≡ true) = face_is fs s sets t in
      let f : (f : List ℕ) × (listed fs f ≡ true) × (holds f s ≡ true) = found_set (λ f. holds f s) fs p.1 in
      (p.0, holds_through u f.0 s (all f.0 f.1) f.2)

  came : (t f : List ℕ) → IsStrictlySortedBy nat_cmp t → holds (image m f) t ≡ true → image m (filter (λ x. has t (m x)) f) ≡ t
  came t f r h = same_labels (image m (filter (λ x. has t (m x)) f)) t (image_rises m (filter (λ x. has t (m x)) f)) r (λ k. both_ways (has (image m (filter (λ x. has t (m x)) f)) k) (has t k)
      (λ p. let q : (x : ℕ) × (has (filter (λ x. has t (m x)) f) x ≡ true) × (k ≡ m x) = image_has m (filter (λ x. has t (m x)) f) k p in ap (has t) q.2 ∙ (filter_in (λ x. has t (m x)) f q.0 q.1).1)
      (λ p. let q : (x : ℕ) × (has f x ≡ true) × (k ≡ m x) = image_has m f k (holds_has (image m f) t k h p) in ap (has (image m (filter (λ x. has t (m x)) f))) q.2 ∙ in_image m (filter (λ x. has t (m x)) f) q.0 (in_filter (λ x. has t (m x)) f q.0 q.1 (ap (has t) (sym q.2) ∙ p))))

  into : (t : List ℕ) → listed (faces (images m fs)) t ≡ true → listed (map (λ s. image m s) (faces fs)) t ≡ true
  into t p =
      let q : IsStrictlySortedBy nat_cmp t × (is_held (images m fs) t ≡ true) = face_is (images m fs) t image_sets p in
      let z : (is_held (images m fs) t && is_some t) ≡ true = sym (listed-faces (images m fs) t image_sets q.0) ∙ p in
      let g : (g : List ℕ) × (listed (images m fs) g ≡ true) × (holds g t ≡ true) = found_set (λ g. holds g t) (images m fs) q.1 in
      let f : (f : List ℕ) × (listed fs f ≡ true) × (g.0 ≡ image m f) = image_listed m u one fs sets all rises g.0 g.1 in
      let e : image m (filter (λ x. has t (m x)) f.0) ≡ t = came t f.0 q.0 (ap (λ v. holds v t) (sym f.2) ∙ g.2) in
      let part : holds f.0 (filter (λ x. has t (m x)) f.0) ≡ true = holds_each f.0 (filter (λ x. has t (m x)) f.0) (λ x v. (filter_in (λ x. has t (m x)) f.0 x v).0) in
      let some : is_some (filter (λ x. has t (m x)) f.0) ≡ true = sym (some-image m (filter (λ x. has t (m x)) f.0)) ∙ ap is_some e ∙ second_so (is_held (images m fs) t) (is_some t) z in
      let l : listed (faces fs) (filter (λ x. has t (m x)) f.0) ≡ true = listed-faces fs (filter (λ x. has t (m x)) f.0) sets (IsStrictlySortedBy-filter nat_cmp (λ x. has t (m x)) f.0 (sets f.0 f.1)) ∙ both_true (some_listed (λ h. holds h (filter (λ x. has t (m x)) f.0)) fs f.0 f.1 part) some in
      ap (listed (map (λ s. image m s) (faces fs))) (sym e) ∙ map_from (λ s. image m s) (faces fs) (filter (λ x. has t (m x)) f.0) l

  outof : (t : List ℕ) → listed (map (λ s. image m s) (faces fs)) t ≡ true → listed (faces (images m fs)) t ≡ true
  outof t p =
      let s : (s : List ℕ) × (listed (faces fs) s ≡ true) × (t ≡ image m s) = map_back (λ s. image m s) (faces fs) t p in
      let q : IsStrictlySortedBy nat_cmp s.0 × (holds u s.0 ≡ true) = used_face s.0 s.1 in
      let z : (is_held fs s.0 && is_some s.0) ≡ true = sym (listed-faces fs s.0 sets q.0) ∙ s.1 in
      let f : (f : List ℕ) × (listed fs f ≡ true) × (holds f s.0 ≡ true) = found_set (λ f. holds f s.0) fs (first_so (is_held fs s.0) (is_some s.0) z) in
      let held : is_held (images m fs) (image m s.0) ≡ true = some_listed (λ g. holds g (image m s.0)) (images m fs) (image m f.0) (listed_image m u one fs sets all rises f.0 f.1) (holds-image m u one f.0 s.0 (all f.0 f.1) q.1 ∙ f.2) in
      ap (listed (faces (images m fs))) s.2 ∙ listed-faces (images m fs) (image m s.0) image_sets (image_rises m s.0) ∙ both_true held (some-image m s.0 ∙ second_so (is_held fs s.0) (is_some s.0) z)

  total-image : (xs : List (List ℕ)) → ((s : List ℕ) → listed xs s ≡ true → IsStrictlySortedBy nat_cmp s × (holds u s ≡ true)) → total sign (map (λ s. image m s) xs) ≡ total sign xs
  total-image [] h = refl
  total-image (x ∷ xs) h =
      let q : IsStrictlySortedBy nat_cmp x × (holds u x ≡ true) = h x (or_left (pointwise nat_eq x x) (listed xs x) (same_set_itself x)) in
      (λ i. cond (odd (length-image m u one x q.0 q.1 i)) (pos 1) (negsuc 0) +ℤ total-image xs (λ s t. h s (or_right (pointwise nat_eq x s) (listed xs s) t)) i)

  pub euler-images : euler (images m fs) ≡ euler fs
  euler-images =
      total_same sign (faces (images m fs)) (map (λ s. image m s) (faces fs)) (distinct_sorted (faces (images m fs)) (faces_rise (images m fs)))
      (distinct_map (λ s. image m s) (faces fs) (λ s t p q e. let a : IsStrictlySortedBy nat_cmp s × (holds u s ≡ true) = used_face s p in let b : IsStrictlySortedBy nat_cmp t × (holds u t ≡ true) = used_face t q in image_one m u one s t a.0 b.0 a.1 b.1 e) (distinct_sorted (faces fs) (faces_rise fs)))
      (λ t. both_ways (listed (faces (images m fs)) t) (listed (map (λ s. image m s) (faces fs)) t) (into t) (outof t))
      ∙ total-image (faces fs) used_face
