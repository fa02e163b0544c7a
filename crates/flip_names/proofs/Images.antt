-- What sets of labels become under a map that takes no two labels to the same one.
use Rattle.std.proofs.Common.{◌≡◌, ℕ, Bool, true, false, not, nat_eq, ◌||◌, ◌&&◌, List, [], ◌∷◌, length, map, sym, ◌∙◌, ap, refl, arith, inl, inr}
use Rattle.std.specs.List.{list_any, list_all, filter}
use Rattle.std.specs.List.Sorted.{IsStrictlySortedBy}
use Rattle.std.specs.Ordering.{nat_cmp}
use Rattle.std.specs.Cmp.{first_so, second_so}
use Rattle.std.specs.Cmp.Derive.{both_true}
use Rattle.std.specs.Cmp.Lexicographic.{pointwise, nat_list_cmp_total}
use Rattle.std.proofs.lemmas.Cmp.{nat_cmp_total}
use Rattle.complex_core.specs.Labels.{has, holds, without, union, face_cmp}
use Rattle.complex_core.specs.Rising.{rising}
use Rattle.complex_core.specs.Complexes.{over, beside, is_held}
use Rattle.complex_core.specs.Maps.{Differ, takes, at, face_image, image, takes_all}
use Rattle.complex_core.proofs.Sets.{above_head, above_tail, any-rising, not_among, sorted_rising, length-put_new}
use Rattle.complex_core.proofs.Faces.{among-has, equal_cmp}
use Rattle.complex_core.proofs.Images.{injective}
use Rattle.complex_core.proofs.Laws.{both_ways, each_has, has-union, holds_has, holds_each, listed, listed-filter, listed-rising, nat_eq_same, or_left, or_right, passes_listed, same_labels, same_lists, same_set_itself, some_has, sorted_union, sorted_without}
use Rattle.complex_core.proofs.Sorting.{exact_faces}
use Rattle.complex_core.proofs.SubsetLists.{two, map_from, map_back}
use Rattle.flip_rules.specs.Flips.{join_boundary}
use Rattle.flip_rules.proofs.Links.{side, side_of, listed-join_boundary}
use Rattle.complex_core.proofs.Renaming.{list_any-map}
use Rattle.complex_core.proofs.Members.{without_has, without_other, in_without, has-rising, has-map, map_has, passes_has}

-- each label of a set has a pair
abbrev pub Taken : List (ℕ × ℕ) → List ℕ → Type 0
Taken m f = list_all (takes m) f ≡ true

-- ---- tests of lists

any_label : (p q : ℕ → Bool) (f : List ℕ) → ((x : ℕ) → has f x ≡ true → p x ≡ q x) → list_any p f ≡ list_any q f
any_label p q [] h = refl
any_label p q (x ∷ f) h = λ i. h x (or_left (nat_eq x x) (has f x) (nat_eq_same x)) i || any_label p q f (λ z t. h z (or_right (nat_eq x z) (has f z) t)) i

any_set : (p q : List ℕ → Bool) (fs : List (List ℕ)) → ((f : List ℕ) → listed fs f ≡ true → p f ≡ q f) → list_any p fs ≡ list_any q fs
any_set p q [] h = refl
any_set p q (f ∷ fs) h = λ i. h f (or_left (pointwise nat_eq f f) (listed fs f) (same_set_itself f)) i || any_set p q fs (λ g t. h g (or_right (pointwise nat_eq f g) (listed fs g) t)) i

-- ---- the image of a set, label by label

pub in_image : (m : List (ℕ × ℕ)) (f : List ℕ) (x : ℕ) → has f x ≡ true → has (face_image m f) (at m x) ≡ true
in_image m f x t = has-rising (map (at m) f) (at m x) ∙ has-map (at m) f x t

pub image_has : (m : List (ℕ × ℕ)) (f : List ℕ) (z : ℕ) → has (face_image m f) z ≡ true → (x : ℕ) × (has f x ≡ true) × (z ≡ at m x)
image_has m f z t = map_has (at m) f z (sym (has-rising (map (at m) f) z) ∙ t)

pub image_rises : (m : List (ℕ × ℕ)) (f : List ℕ) → IsStrictlySortedBy nat_cmp (face_image m f)
image_rises m f = sorted_rising nat_cmp_total (map (at m) f)

-- a map takes what is in a set whose labels it takes
pub taken_part : (m : List (ℕ × ℕ)) (f g : List ℕ) → Taken m f → ((x : ℕ) → has g x ≡ true → has f x ≡ true) → Taken m g
taken_part m f g t h = each_has (takes m) g (λ x gx. passes_has (takes m) f x t (h x gx))

pub taken_without : (m : List (ℕ × ℕ)) (f : List ℕ) (x : ℕ) → Taken m f → Taken m (without f x)
taken_without m f x t = taken_part m f (without f x) t (without_has f x)

pub taken_union : (m : List (ℕ × ℕ)) (f g : List ℕ) → Taken m f → Taken m g → Taken m (union f g)
taken_union m f g tf tg = each_has (takes m) (union f g) (λ x t. elim (two (has f x)) [
  | inl e ↦ passes_has (takes m) f x tf e
  | inr e ↦ passes_has (takes m) g x tg (sym (ap (λ c. c || has g x) e) ∙ sym (has-union f g x) ∙ t)
])

pub taken_side : (m : List (ℕ × ℕ)) (a b : List ℕ) (x : ℕ) → Taken m a → Taken m b → Taken m (side a b x)
taken_side m a b x ta tb = taken_union m a (without b x) ta (taken_without m b x tb)

-- the image of a union
pub image-union : (m : List (ℕ × ℕ)) (f g : List ℕ) → union (face_image m f) (face_image m g) ≡ face_image m (union f g)
image-union m f g = same_labels (union (face_image m f) (face_image m g)) (face_image m (union f g)) (sorted_union (face_image m f) (face_image m g) (image_rises m f)) (image_rises m (union f g)) (λ z.
    has-union (face_image m f) (face_image m g) z ∙ both_ways (has (face_image m f) z || has (face_image m g) z) (has (face_image m (union f g)) z) (into z) (outof z))
  where
    into : (z : ℕ) → (has (face_image m f) z || has (face_image m g) z) ≡ true → has (face_image m (union f g)) z ≡ true
    into z t = elim (two (has (face_image m f) z)) [
      | inl e ↦
          let q : (x : ℕ) × (has f x ≡ true) × (z ≡ at m x) = image_has m f z e in
          ap (has (face_image m (union f g))) q.2 ∙ in_image m (union f g) q.0 (has-union f g q.0 ∙ or_left (has f q.0) (has g q.0) q.1)
      | inr e ↦
          let q : (x : ℕ) × (has g x ≡ true) × (z ≡ at m x) = image_has m g z (sym (ap (λ c. c || has (face_image m g) z) e) ∙ t) in
          ap (has (face_image m (union f g))) q.2 ∙ in_image m (union f g) q.0 (has-union f g q.0 ∙ or_right (has f q.0) (has g q.0) q.1)
    ]

    outof : (z : ℕ) → has (face_image m (union f g)) z ≡ true → (has (face_image m f) z || has (face_image m g) z) ≡ true
    outof z t =
        let q : (x : ℕ) × (has (union f g) x ≡ true) × (z ≡ at m x) = image_has m (union f g) z t in
        elim (two (has f q.0)) [
          | inl e ↦ or_left (has (face_image m f) z) (has (face_image m g) z) (ap (has (face_image m f)) q.2 ∙ in_image m f q.0 e)
          | inr e ↦ or_right (has (face_image m f) z) (has (face_image m g) z) (ap (has (face_image m g)) q.2 ∙ in_image m g q.0 (sym (ap (λ c. c || has g q.0) e) ∙ sym (has-union f g q.0) ∙ q.1))
        ]

-- ---- no two labels become the same one

module _ (m : List (ℕ × ℕ)) (d : Differ m) where
  pub has-image : (f : List ℕ) (x : ℕ) → Taken m f → takes m x ≡ true → has (face_image m f) (at m x) ≡ has f x
  has-image f x tf tx = both_ways (has (face_image m f) (at m x)) (has f x)
      (λ p. let q : (y : ℕ) × (has f y ≡ true) × (at m x ≡ at m y) = image_has m f (at m x) p in
      ap (has f) (injective m x q.0 d tx (passes_has (takes m) f q.0 tf q.1) q.2) ∙ q.1)
      (in_image m f x)

  pub holds-image : (f r : List ℕ) → Taken m f → Taken m r → holds (face_image m f) (face_image m r) ≡ holds f r
  holds-image f r tf tr = both_ways (holds (face_image m f) (face_image m r)) (holds f r)
      (λ p. holds_each f r (λ z t. sym (has-image f z tf (passes_has (takes m) r z tr t)) ∙ holds_has (face_image m f) (face_image m r) (at m z) p (in_image m r z t)))
      (λ p. holds_each (face_image m f) (face_image m r) (λ k t.
      let q : (x : ℕ) × (has r x ≡ true) × (k ≡ at m x) = image_has m r k t in
      ap (has (face_image m f)) q.2 ∙ in_image m f q.0 (holds_has f r q.0 p q.1)))

  -- different sets have different images
  pub one_set : (f g : List ℕ) → IsStrictlySortedBy nat_cmp f → IsStrictlySortedBy nat_cmp g → Taken m f → Taken m g → face_image m f ≡ face_image m g → f ≡ g
  one_set f g s r tf tg e = same_labels f g s r (λ z. both_ways (has f z) (has g z)
      (λ t. sym (has-image g z tg (passes_has (takes m) f z tf t)) ∙ ap (λ v. has v (at m z)) (sym e) ∙ in_image m f z t)
      (λ t. sym (has-image f z tf (passes_has (takes m) g z tg t)) ∙ ap (λ v. has v (at m z)) e ∙ in_image m g z t))

  image-without : (f : List ℕ) (x : ℕ) → Taken m f → takes m x ≡ true → without (face_image m f) (at m x) ≡ face_image m (without f x)
  image-without f x tf tx = same_labels (without (face_image m f) (at m x)) (face_image m (without f x)) (sorted_without (face_image m f) (at m x) (image_rises m f)) (image_rises m (without f x)) (λ k. both_ways (has (without (face_image m f) (at m x)) k) (has (face_image m (without f x)) k)
      (λ p. let q : (z : ℕ) × (has f z ≡ true) × (k ≡ at m z) = image_has m f k (without_has (face_image m f) (at m x) k p) in
      ap (has (face_image m (without f x))) q.2 ∙ in_image m (without f x) q.0 (in_without f x q.0 q.1 (λ e. without_other (face_image m f) (at m x) k p (q.2 ∙ ap (at m) e))))
      (λ p. let q : (z : ℕ) × (has (without f x) z ≡ true) × (k ≡ at m z) = image_has m (without f x) k p in
      let zf : has f q.0 ≡ true = without_has f x q.0 q.1 in
      in_without (face_image m f) (at m x) k (ap (has (face_image m f)) q.2 ∙ in_image m f q.0 zf) (λ e. without_other f x q.0 q.1 (injective m q.0 x d (passes_has (takes m) f q.0 tf zf) tx (sym q.2 ∙ e)))))

  pub length-image : (f : List ℕ) → IsStrictlySortedBy nat_cmp f → Taken m f → length (face_image m f) ≡ length f
  length-image [] s t = refl
  length-image (x ∷ f) s t =
      let tx : takes m x ≡ true = first_so (takes m x) (list_all (takes m) f) t in
      let tf : Taken m f = second_so (takes m x) (list_all (takes m) f) t in
      let new : has (face_image m f) (at m x) ≡ false = has-image f x tf tx ∙ sym (among-has x f) ∙ not_among nat_cmp_total x f (above_head nat_cmp x f s) in
      omega (arith, length-put_new nat_cmp (at m x) (face_image m f) (among-has (at m x) (face_image m f) ∙ new), length-image f (above_tail nat_cmp x f s) tf)

  -- labels in common
  pub common-image : (a b : List ℕ) → Taken m a → Taken m b → list_any (λ x. has (face_image m b) x) (face_image m a) ≡ list_any (λ x. has b x) a
  common-image a b ta tb =
      any-rising nat_cmp equal_cmp (λ x. has (face_image m b) x) (map (at m) a)
      ∙ list_any-map (λ x. has (face_image m b) x) (at m) a
      ∙ any_label (λ x. has (face_image m b) (at m x)) (λ x. has b x) a (λ x t. has-image b x tb (passes_has (takes m) a x ta t))

  -- ---- sides

  side-image : (a b : List ℕ) (x : ℕ) → Taken m b → has b x ≡ true → side (face_image m a) (face_image m b) (at m x) ≡ face_image m (side a b x)
  side-image a b x tb t = ap (union (face_image m a)) (image-without b x tb (passes_has (takes m) b x tb t)) ∙ image-union m a (without b x)

  pub listed_side : (a b : List ℕ) (x : ℕ) → has b x ≡ true → listed (join_boundary a b) (side a b x) ≡ true
  listed_side a b x t = listed-join_boundary a b b (side a b x) ∙ some_has (λ y. pointwise nat_eq (side a b y) (side a b x)) b x t (same_set_itself (side a b x))

  pub listed-sides_image : (a b g : List ℕ) → Taken m b → listed (join_boundary (face_image m a) (face_image m b)) g ≡ listed (map (face_image m) (join_boundary a b)) g
  listed-sides_image a b g tb = both_ways (listed (join_boundary (face_image m a) (face_image m b)) g) (listed (map (face_image m) (join_boundary a b)) g)
      (λ t. let q : (y : ℕ) × (has (face_image m b) y ≡ true) × (g ≡ side (face_image m a) (face_image m b) y) = side_of (face_image m a) (face_image m b) g t in
      let p : (x : ℕ) × (has b x ≡ true) × (q.0 ≡ at m x) = image_has m b q.0 q.1 in
      let e : g ≡ face_image m (side a b p.0) = q.2 ∙ ap (side (face_image m a) (face_image m b)) p.2 ∙ side-image a b p.0 tb p.1 in
      ap (listed (map (face_image m) (join_boundary a b))) e ∙ map_from (face_image m) (join_boundary a b) (side a b p.0) (listed_side a b p.0 p.1))
      (λ t. let q : (s : List ℕ) × (listed (join_boundary a b) s ≡ true) × (g ≡ face_image m s) = map_back (face_image m) (join_boundary a b) g t in
      let p : (x : ℕ) × (has b x ≡ true) × (q.0 ≡ side a b x) = side_of a b q.0 q.1 in
      let e : g ≡ side (face_image m a) (face_image m b) (at m p.0) = q.2 ∙ ap (face_image m) p.2 ∙ sym (side-image a b p.0 tb p.1) in
      ap (listed (join_boundary (face_image m a) (face_image m b))) e ∙ listed_side (face_image m a) (face_image m b) (at m p.0) (in_image m b p.0 p.1))

  pub join_boundary-image : (a b : List ℕ) → Taken m b → rising face_cmp (join_boundary (face_image m a) (face_image m b)) ≡ image m (join_boundary a b)
  join_boundary-image a b tb = same_lists (rising face_cmp (join_boundary (face_image m a) (face_image m b))) (image m (join_boundary a b))
      (sorted_rising nat_list_cmp_total (join_boundary (face_image m a) (face_image m b)))
      (sorted_rising nat_list_cmp_total (map (face_image m) (join_boundary a b)))
      (λ g. listed-rising (join_boundary (face_image m a) (face_image m b)) g ∙ listed-sides_image a b g tb ∙ sym (listed-rising (map (face_image m) (join_boundary a b)) g))

-- ---- lists of sets

-- what a rising list becomes is what any list with its members becomes
pub listed-map_rising : (m : List (ℕ × ℕ)) (fs : List (List ℕ)) (g : List ℕ) → listed (map (face_image m) (rising face_cmp fs)) g ≡ listed (map (face_image m) fs) g
listed-map_rising m fs g =
    list_any-map (λ s. pointwise nat_eq s g) (face_image m) (rising face_cmp fs)
    ∙ any-rising face_cmp exact_faces (λ s. pointwise nat_eq (face_image m s) g) fs
    ∙ sym (list_any-map (λ s. pointwise nat_eq s g) (face_image m) fs)

pub image-rising : (m : List (ℕ × ℕ)) (fs : List (List ℕ)) → image m (rising face_cmp fs) ≡ image m fs
image-rising m fs = same_lists (image m (rising face_cmp fs)) (image m fs)
    (sorted_rising nat_list_cmp_total (map (face_image m) (rising face_cmp fs)))
    (sorted_rising nat_list_cmp_total (map (face_image m) fs))
    (λ g. listed-rising (map (face_image m) (rising face_cmp fs)) g ∙ listed-map_rising m fs g ∙ sym (listed-rising (map (face_image m) fs) g))

pub listed_image : (m : List (ℕ × ℕ)) (fs : List (List ℕ)) (f : List ℕ) → listed fs f ≡ true → listed (image m fs) (face_image m f) ≡ true
listed_image m fs f t = listed-rising (map (face_image m) fs) (face_image m f) ∙ map_from (face_image m) fs f t

pub image_listed : (m : List (ℕ × ℕ)) (fs : List (List ℕ)) (g : List ℕ) → listed (image m fs) g ≡ true → (f : List ℕ) × (listed fs f ≡ true) × (g ≡ face_image m f)
image_listed m fs g t = map_back (face_image m) fs g (sym (listed-rising (map (face_image m) fs) g) ∙ t)

-- the images of the sets that pass a test are the images that pass another, where the two judge a set and its image alike
listed-filter_image : (m : List (ℕ × ℕ)) (fs : List (List ℕ)) (p q : List ℕ → Bool) → ((f : List ℕ) → listed fs f ≡ true → q (face_image m f) ≡ p f) → (g : List ℕ) → listed (filter q (image m fs)) g ≡ listed (map (face_image m) (filter p fs)) g
listed-filter_image m fs p q alike g = listed-filter q (image m fs) g ∙ both_ways (listed (image m fs) g && q g) (listed (map (face_image m) (filter p fs)) g)
    (λ t. let r : (f : List ℕ) × (listed fs f ≡ true) × (g ≡ face_image m f) = image_listed m fs g (first_so (listed (image m fs) g) (q g) t) in
    let h : p r.0 ≡ true = sym (alike r.0 r.1) ∙ ap q (sym r.2) ∙ second_so (listed (image m fs) g) (q g) t in
    ap (listed (map (face_image m) (filter p fs))) r.2 ∙ map_from (face_image m) (filter p fs) r.0 (listed-filter p fs r.0 ∙ both_true r.1 h))
    (λ t. let r : (f : List ℕ) × (listed (filter p fs) f ≡ true) × (g ≡ face_image m f) = map_back (face_image m) (filter p fs) g t in
    let h : (listed fs r.0 && p r.0) ≡ true = sym (listed-filter p fs r.0) ∙ r.1 in
    let u : listed fs r.0 ≡ true = first_so (listed fs r.0) (p r.0) h in
    both_true (ap (listed (image m fs)) r.2 ∙ listed_image m fs r.0 u) (ap q r.2 ∙ alike r.0 u ∙ second_so (listed fs r.0) (p r.0) h))

module _ (m : List (ℕ × ℕ)) (d : Differ m) (fs : List (List ℕ)) (all : takes_all m fs ≡ true) where
  pub taken_set : (f : List ℕ) → listed fs f ≡ true → Taken m f
  taken_set f t = passes_listed (λ g. list_all (takes m) g) fs f all t

  pub listed-over_image : (r g : List ℕ) → Taken m r → listed (over (image m fs) (face_image m r)) g ≡ listed (map (face_image m) (over fs r)) g
  listed-over_image r g tr = listed-filter_image m fs (λ f. holds f r) (λ f. holds f (face_image m r)) (λ f t. holds-image m d f r (taken_set f t) tr) g

  pub listed-beside_image : (r g : List ℕ) → Taken m r → listed (beside (image m fs) (face_image m r)) g ≡ listed (map (face_image m) (beside fs r)) g
  listed-beside_image r g tr = listed-filter_image m fs (λ f. not (holds f r)) (λ f. not (holds f (face_image m r))) (λ f t. ap not (holds-image m d f r (taken_set f t) tr)) g

  pub held-image : (r : List ℕ) → Taken m r → is_held (image m fs) (face_image m r) ≡ is_held fs r
  held-image r tr =
      any-rising face_cmp exact_faces (λ f. holds f (face_image m r)) (map (face_image m) fs)
      ∙ list_any-map (λ f. holds f (face_image m r)) (face_image m) fs
      ∙ any_set (λ f. holds (face_image m f) (face_image m r)) (λ f. holds f r) fs (λ f t. holds-image m d f r (taken_set f t) tr)
