-- A complex on the places from 1 on: it is renamed there and back by a map and its inverse.
use Rattle.std.proofs.Common.{◌≡◌, ℕ, Option, Some, None, Bool, true, nat_eq, ◌||◌, List, [], ◌∷◌, ◌++◌, map, sym, ◌∙◌, ap, refl, subst}
use Rattle.std.specs.List.{AllByRecursion, list_any, list_all, flat_map}
use Rattle.std.specs.List.Sorted.{IsStrictlySortedBy}
use Rattle.std.specs.Cmp.{IsTotalOrder, first_so, second_so}
use Rattle.std.specs.Cmp.Derive.{both_true}
use Rattle.std.specs.Cmp.Lexicographic.{nat_list_cmp_total}
use Rattle.std.specs.Ordering.{nat_cmp, eq_by_cmp}
use Rattle.std.specs.declared.cmp.Ordering.{Ordering}
use Rattle.std.specs.declared.cmp.Ordering.TheVariants.{Less, Equal}
use Rattle.std.proofs.lemmas.Cmp.{nat_cmp_total}
use Rattle.std.specs.Option.{SomeIff}
use Rattle.std.proofs.lemmas.List.Folds.{list_any-append}
use Rattle.complex_core.specs.Labels.{IsRising, has, face_cmp}
use Rattle.complex_core.specs.Rising.{rising}
use Rattle.complex_core.specs.Complexes.{ComplexView, IsComplex, IsFacet}
use Rattle.complex_core.specs.Maps.{Differ, pair_cmp, takes, reaches, turned, at, face_image, face_images, image, takes_all, used, greatest, next_after, renamed, names_of}
use Rattle.complex_core.proofs.Sets.{above_cons, above_head, above_tail, among-rising, any-rising, each_rising, rising_is, sorted_rising}
use Rattle.complex_core.proofs.Searching.{rising_own}
use Rattle.complex_core.proofs.Sorting.{exact_faces, each_append}
use Rattle.complex_core.proofs.Faces.{equal_cmp}
use Rattle.complex_core.proofs.Laws.{each_has, or_left, or_right}
use Rattle.complex_core.proofs.Pairs.{takes-turned, takes-rising}
use Rattle.complex_core.proofs.Places.{at_back, place_taken, numbered_map, reaches-numbered, rising_spare, turned_own}

pub list_any-map : {K L : Type 0} (p : L → Bool) (h : K → L) (xs : List K) → list_any p (map h xs) ≡ list_any (λ x. p (h x)) xs
list_any-map p h [] = refl
list_any-map p h (x ∷ xs) = ap (λ b. p (h x) || b) (list_any-map p h xs)

-- what a rising list becomes is what any list with its members becomes
rising_images : {K L : Type 0} {R : L → L → Ordering} {S : K → K → Ordering} (o : IsTotalOrder R) (exact : (x y : L) → R x y ≡ Equal → x ≡ y) (same : (x y : K) → S x y ≡ Equal → x ≡ y) (h : K → L) (ks : List K) → rising R (map h (rising S ks)) ≡ rising R (map h ks)
rising_images {K} {L} {R} {S} o exact same h ks =
    rising_is o exact (rising R (map h (rising S ks))) (map h ks) (sorted_rising o (map h (rising S ks)))
    (λ q. among-rising o q (map h (rising S ks)) ∙ list_any-map (eq_by_cmp R q) h (rising S ks) ∙ any-rising S same (λ x. eq_by_cmp R q (h x)) ks ∙ sym (list_any-map (eq_by_cmp R q) h ks))

-- ---- there and back

labels_back : (m : List (ℕ × ℕ)) (f : List ℕ) → Differ m → list_all (reaches m) f ≡ true → map (at m) (map (at (turned m)) f) ≡ f
labels_back m [] d r = refl
labels_back m (x ∷ xs) d r = λ i. at_back m x d (first_so (reaches m x) (list_all (reaches m) xs) r) i ∷ labels_back m xs d (second_so (reaches m x) (list_all (reaches m) xs) r) i

face_back : (m : List (ℕ × ℕ)) (f : List ℕ) → Differ m → IsStrictlySortedBy nat_cmp f → list_all (reaches m) f ≡ true → face_image m (face_image (turned m) f) ≡ f
face_back m f d s r =
    rising_images nat_cmp_total equal_cmp equal_cmp (at m) (map (at (turned m)) f) ∙ ap (rising nat_cmp) (labels_back m f d r) ∙ rising_own nat_cmp_total equal_cmp f s

faces_back : (d : ℕ) (m : List (ℕ × ℕ)) (fs : List (List ℕ)) → Differ m → AllByRecursion (IsFacet d) fs → list_all (λ f. list_all (reaches m) f) fs ≡ true → face_images m (face_images (turned m) fs) ≡ fs
faces_back d m [] differ facets r = refl
faces_back d m (f ∷ fs) differ facets r = λ i.
    face_back m f differ (above_tail nat_cmp 0 f facets.0.face.rising) (first_so (list_all (reaches m) f) (list_all (λ g. list_all (reaches m) g) fs) r) i
    ∷ faces_back d m fs differ facets.1 (second_so (list_all (reaches m) f) (list_all (λ g. list_all (reaches m) g) fs) r) i

image_back : (d : ℕ) (m : List (ℕ × ℕ)) (fs : List (List ℕ)) → Differ m → AllByRecursion (IsFacet d) fs → IsStrictlySortedBy face_cmp fs → list_all (λ f. list_all (reaches m) f) fs ≡ true → image m (image (turned m) fs) ≡ fs
image_back d m fs differ facets s r =
    rising_images nat_list_cmp_total exact_faces exact_faces (face_image m) (face_images (turned m) fs)
    ∙ ap (rising face_cmp) (faces_back d m fs differ facets r) ∙ rising_own nat_list_cmp_total exact_faces fs s

-- ---- the labels of the renamed complex have pairs

all_from_each : {K : Type 0} (p : K → Bool) (xs : List K) → AllByRecursion (λ x. p x ≡ true) xs → list_all p xs ≡ true
all_from_each p [] h = refl
all_from_each p (x ∷ xs) h = both_true h.0 (all_from_each p xs h.1)

places_taken : (m : List (ℕ × ℕ)) (f : List ℕ) → list_all (reaches m) f ≡ true → AllByRecursion (λ x. takes m x ≡ true) (map (at (turned m)) f)
places_taken m [] r = tt
places_taken m (x ∷ xs) r = (place_taken m x (first_so (reaches m x) (list_all (reaches m) xs) r), places_taken m xs (second_so (reaches m x) (list_all (reaches m) xs) r))

faces_taken : (m : List (ℕ × ℕ)) (fs : List (List ℕ)) → list_all (λ f. list_all (reaches m) f) fs ≡ true → AllByRecursion (λ f. list_all (takes m) f ≡ true) (face_images (turned m) fs)
faces_taken m [] r = tt
faces_taken m (f ∷ fs) r = (
  all_from_each (takes m) (face_image (turned m) f) (each_rising nat_cmp (λ x. takes m x ≡ true) (map (at (turned m)) f) (places_taken m f (first_so (list_all (reaches m) f) (list_all (λ g. list_all (reaches m) g) fs) r))),
  faces_taken m fs (second_so (list_all (reaches m) f) (list_all (λ g. list_all (reaches m) g) fs) r),
)

image_taken : (m : List (ℕ × ℕ)) (fs : List (List ℕ)) → list_all (λ f. list_all (reaches m) f) fs ≡ true → takes_all m (image (turned m) fs) ≡ true
image_taken m fs r = all_from_each (λ f. list_all (takes m) f) (image (turned m) fs) (each_rising face_cmp (λ f. list_all (takes m) f ≡ true) (face_images (turned m) fs) (faces_taken m fs r))

-- ---- the names of the places

-- a test that all labels pass
pub each_label : (p : ℕ → Bool) (fs : List (List ℕ)) → ((x : ℕ) → has (flat_map (λ f. f) fs) x ≡ true → p x ≡ true) → list_all (λ f. list_all p f) fs ≡ true
each_label p [] h = refl
each_label p (f ∷ fs) h =
    let parts : (x : ℕ) → has (f ++ flat_map (λ g. g) fs) x ≡ (has f x || has (flat_map (λ g. g) fs) x) = λ x. list_any-append (λ y. nat_eq y x) f (flat_map (λ g. g) fs) in
    both_true
    (each_has p f (λ x t. h x (parts x ∙ or_left (has f x) (has (flat_map (λ g. g) fs) x) t)))
    (each_label p fs (λ x t. h x (parts x ∙ or_right (has f x) (has (flat_map (λ g. g) fs) x) t)))

all_named : (fs : List (List ℕ)) (room : ℕ) → list_all (λ f. list_all (reaches (names_of fs room)) f) fs ≡ true
all_named fs room =
    let spare = next_after (greatest (used fs)) room in
    each_label (reaches (names_of fs room)) fs (λ x t.
    reaches-numbered 1 (used fs ++ spare) x
    ∙ list_any-append (λ y. nat_eq y x) (used fs) spare
    ∙ or_left (has (used fs) x) (has spare x) (any-rising nat_cmp equal_cmp (λ y. nat_eq y x) (flat_map (λ f. f) fs) ∙ t))

pub labels_above : (d : ℕ) (fs : List (List ℕ)) → AllByRecursion (IsFacet d) fs → AllByRecursion (λ y. nat_cmp 0 y ≡ Less) (flat_map (λ f. f) fs)
labels_above d [] h = tt
labels_above d (f ∷ fs) h = each_append (λ y. nat_cmp 0 y ≡ Less) f (flat_map (λ g. g) fs) (above_head nat_cmp 0 f h.0.face.rising) (labels_above d fs h.1)

rising_names : (d : ℕ) (fs : List (List ℕ)) (room : ℕ) → AllByRecursion (IsFacet d) fs → IsRising (used fs ++ next_after (greatest (used fs)) room)
rising_names d fs room h = rising_spare (used fs) room (above_cons nat_cmp 0 (used fs) (each_rising nat_cmp (λ y. nat_cmp 0 y ≡ Less) (flat_map (λ f. f) fs) (labels_above d fs h)) (sorted_rising nat_cmp_total (flat_map (λ f. f) fs)))

-- the names of the places of a complex, and its renaming by them
pub record Named (k : ComplexView) (room : ℕ) : Type 0 where
  pub labels : IsRising (used k.facets ++ next_after (greatest (used k.facets)) room)
  pub taken : takes_all (rising pair_cmp (turned (names_of k.facets room))) k.facets ≡ true
  pub places : rising pair_cmp (turned (names_of k.facets room)) ≡ turned (names_of k.facets room)
  pub taken_back : takes_all (names_of k.facets room) (image (turned (names_of k.facets room)) k.facets) ≡ true
  pub back : image (names_of k.facets room) (image (turned (names_of k.facets room)) k.facets) ≡ k.facets

pub named : (k : ComplexView) (room : ℕ) → IsComplex k → Named k room
named k room h =
    let m = names_of k.facets room in
    let labels : IsRising (used k.facets ++ next_after (greatest (used k.facets)) room) = rising_names k.dim k.facets room h.pure in
    let differ : Differ m = (numbered_map (used k.facets ++ next_after (greatest (used k.facets)) room) labels).differ in
    let reached : list_all (λ f. list_all (reaches m) f) k.facets ≡ true = all_named k.facets room in
    record {
      labels = labels;
      taken = (λ i. list_all (λ f. list_all (λ x. (takes-rising (turned m) x ∙ takes-turned m x) i) f) k.facets) ∙ reached;
      places = turned_own (used k.facets ++ next_after (greatest (used k.facets)) room) labels;
      taken_back = image_taken m k.facets reached;
      back = image_back k.dim m k.facets differ h.pure h.rising reached;
    }

-- ---- what the calls made

pub spare_added : (fs : List (List ℕ)) (labels seen all shown : List ℕ) (most room : ℕ) → labels ≡ used fs → seen ≡ labels → most ≡ greatest seen → all ≡ labels ++ next_after most room → shown ≡ all → shown ≡ used fs ++ next_after (greatest (used fs)) room
spare_added fs labels seen all shown most room e f g h i =
    i ∙ h ∙ (λ j. e j ++ next_after ((g ∙ ap greatest (f ∙ e)) j) room)

abbrev Renamed : ComplexView → List (ℕ × ℕ) → Option ComplexView → Type 0
Renamed k places r = SomeIff r (takes_all places k.facets ≡ true) (renamed k places)

pub none_refused : (k : ComplexView) (room : ℕ) (names places : List (ℕ × ℕ)) (r : Option ComplexView) → IsComplex k → names ≡ names_of k.facets room → places ≡ rising pair_cmp (turned names) → SomeIff r (takes_all places k.facets ≡ true) (renamed k places) → r ≡ None → ⊥
none_refused k room names places r h en ep s e =
    let P : Option ComplexView → Type 0 = λ q. Renamed k places q in
    subst P e s (ap (λ ps. takes_all ps k.facets) (ep ∙ ap (λ ns. rising pair_cmp (turned ns)) en) ∙ (named k room h).taken)

pub some_renamed : (k : ComplexView) (room : ℕ) (names places : List (ℕ × ℕ)) (r : Option ComplexView) (dense : ComplexView) → IsComplex k → names ≡ names_of k.facets room → places ≡ rising pair_cmp (turned names) → SomeIff r (takes_all places k.facets ≡ true) (renamed k places) → r ≡ Some dense → dense ≡ renamed k (turned names)
some_renamed k room names places r dense h en ep s e =
    let P : Option ComplexView → Type 0 = λ q. Renamed k places q in
    let made : Renamed k places (Some dense) = subst P e s in
    let n : Named k room = named k room h in
    made.1 ∙ ap (renamed k) (ep ∙ ap (λ ns. rising pair_cmp (turned ns)) en ∙ n.places ∙ ap turned (sym en))

pub dense_taken : (k : ComplexView) (room : ℕ) (names : List (ℕ × ℕ)) (dense : ComplexView) → IsComplex k → names ≡ names_of k.facets room → dense ≡ renamed k (turned names) → takes_all names dense.facets ≡ true
dense_taken k room names dense h en e =
    ap (λ c. takes_all names c.facets) e ∙ ap (λ ns. takes_all ns (image (turned ns) k.facets)) en ∙ (named k room h).taken_back

pub dense_back : (k : ComplexView) (room : ℕ) (names : List (ℕ × ℕ)) (dense : ComplexView) → IsComplex k → names ≡ names_of k.facets room → dense ≡ renamed k (turned names) → renamed dense names ≡ k
dense_back k room names dense h en e =
    let facets : image names dense.facets ≡ k.facets = ap (λ c. image names c.facets) e ∙ ap (λ ns. image ns (image (turned ns) k.facets)) en ∙ (named k room h).back in
    let dim : dense.dim ≡ k.dim = ap (λ c. c.dim) e in
    λ i. record { dim = dim i; facets = facets i }
