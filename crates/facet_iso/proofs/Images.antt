-- What a map makes of the facets of the complex that it takes to another.
use Rattle.std.proofs.Common.{◌≡◌, ℕ, Bool, true, false, not, nat_eq, ◌||◌, ◌&&◌, List, map, sym, ◌∙◌, ap, refl}
use Rattle.std.specs.List.{list_all}
use Rattle.std.specs.List.Sorted.{IsStrictlySortedBy}
use Rattle.std.specs.Ordering.{nat_cmp}
use Rattle.std.proofs.lemmas.Cmp.{nat_cmp_total}
use Rattle.complex_core.specs.Labels.{has, with, without}
use Rattle.complex_core.specs.Complexes.{ComplexView, IsComplex, is_facet}
use Rattle.complex_core.specs.Maps.{takes, at, face_image, face_images}
use Rattle.complex_core.proofs.Sets.{sorted_rising, sorted_put}
use Rattle.complex_core.proofs.Images.{injective}
use Rattle.complex_core.proofs.Laws.{both_ways, has-with, has-without, listed-rising, nat_eq_is, nat_eq_swap, passes_listed, same_labels, sorted_without}
use Rattle.complex_core.proofs.Members.{has-map, has-rising, in_without, map_has, passes_has, without_has, without_other}
use Rattle.complex_core.proofs.SubsetLists.{map_from}
use Rattle.pseudo_test.proofs.Incident.{set}
use Rattle.facet_iso.specs.Isomorphisms.{Takes}

-- a label that isn't in a set comes and goes
pub without_with : (r : List ℕ) (y : ℕ) → IsStrictlySortedBy nat_cmp r → has r y ≡ false → without (with r y) y ≡ r
without_with r y s n = same_labels (without (with r y) y) r (sorted_without (with r y) y (sorted_put nat_cmp_total y r s)) s (λ z.
    has-without (with r y) y z ∙ ap (λ b. b && not (nat_eq z y)) (has-with r y z) ∙ table (nat_eq y z) (nat_eq z y) (has r z) (nat_eq_swap y z) (λ e. ap (has r) (sym (nat_eq_is y z e)) ∙ n))
  where
    table : (a b c : Bool) → a ≡ b → (a ≡ true → c ≡ false) → ((a || c) && not b) ≡ c
    table true true c e f = sym (f refl)
    table true false c e f = cc
    table false true c e f = cc
    table false false true e f = refl
    table false false false e f = refl

pub image_rises : (m : List (ℕ × ℕ)) (f : List ℕ) → IsStrictlySortedBy nat_cmp (face_image m f)
image_rises m f = sorted_rising nat_cmp_total (map (at m) f)

pub in_image : (m : List (ℕ × ℕ)) (f : List ℕ) (x : ℕ) → has f x ≡ true → has (face_image m f) (at m x) ≡ true
in_image m f x t = has-rising (map (at m) f) (at m x) ∙ has-map (at m) f x t

pub image_has : (m : List (ℕ × ℕ)) (f : List ℕ) (z : ℕ) → has (face_image m f) z ≡ true → (x : ℕ) × (has f x ≡ true) × (z ≡ at m x)
image_has m f z t = map_has (at m) f z (sym (has-rising (map (at m) f) z) ∙ t)

module _ (k l : ComplexView) (m : List (ℕ × ℕ)) (t : Takes k l m) where
  -- each label of a facet has a pair
  pub taken : (f : List ℕ) (x : ℕ) → is_facet k.facets f ≡ true → has f x ≡ true → takes m x ≡ true
  taken f x u v = passes_has (takes m) f x (passes_listed (λ g. list_all (takes m) g) k.facets f t.all u) v

  pub facet_to : (f : List ℕ) → is_facet k.facets f ≡ true → is_facet l.facets (face_image m f) ≡ true
  facet_to f u = ap (λ c. is_facet c.facets (face_image m f)) (sym t.image) ∙ listed-rising (face_images m k.facets) (face_image m f) ∙ map_from (face_image m) k.facets f u

  -- labels of facets become one only where they are one
  pub one_label : (f g : List ℕ) (x y : ℕ) → is_facet k.facets f ≡ true → is_facet k.facets g ≡ true → has f x ≡ true → has g y ≡ true → at m x ≡ at m y → x ≡ y
  one_label f g x y u v p q = injective m x y t.is_map.differ (taken f x u p) (taken g y v q)

  -- a label of a facet is in it as its image is in the facet's image
  pub has_image : (f g : List ℕ) (x : ℕ) → is_facet k.facets f ≡ true → is_facet k.facets g ≡ true → has g x ≡ true → has (face_image m f) (at m x) ≡ has f x
  has_image f g x u v q = both_ways (has (face_image m f) (at m x)) (has f x)
      (λ p. let r : (y : ℕ) × (has f y ≡ true) × (at m x ≡ at m y) = image_has m f (at m x) p in
      ap (has f) (one_label g f x r.0 v u q r.1 r.2) ∙ r.1)
      (in_image m f x)

  pub image_without : (f : List ℕ) (x : ℕ) → is_facet k.facets f ≡ true → has f x ≡ true → face_image m (without f x) ≡ without (face_image m f) (at m x)
  image_without f x u v = same_labels (face_image m (without f x)) (without (face_image m f) (at m x)) (image_rises m (without f x)) (sorted_without (face_image m f) (at m x) (image_rises m f)) (λ z.
      both_ways (has (face_image m (without f x)) z) (has (without (face_image m f) (at m x)) z)
      (λ p. let q : (y : ℕ) × (has (without f x) y ≡ true) × (z ≡ at m y) = image_has m (without f x) z p in
      let yf : has f q.0 ≡ true = without_has f x q.0 q.1 in
      in_without (face_image m f) (at m x) z (ap (has (face_image m f)) q.2 ∙ in_image m f q.0 yf) (λ e. without_other f x q.0 q.1 (one_label f f q.0 x u u yf v (sym q.2 ∙ e))))
      (λ p. let q : (y : ℕ) × (has f y ≡ true) × (z ≡ at m y) = image_has m f z (without_has (face_image m f) (at m x) z p) in
      ap (has (face_image m (without f x))) q.2 ∙ in_image m (without f x) q.0 (in_without f x q.0 q.1 (λ e. without_other (face_image m f) (at m x) z p (q.2 ∙ ap (at m) e)))))

  -- different facets have different images
  pub one_facet : (f g : List ℕ) → IsComplex k → is_facet k.facets f ≡ true → is_facet k.facets g ≡ true → face_image m f ≡ face_image m g → f ≡ g
  one_facet f g c u v e = same_labels f g (set k c f u) (set k c g v) (λ z. both_ways (has f z) (has g z)
      (λ p. sym (has_image g f z v u p) ∙ ap (λ h. has h (at m z)) (sym e) ∙ in_image m f z p)
      (λ p. sym (has_image f g z u v p) ∙ ap (λ h. has h (at m z)) e ∙ in_image m g z p))
