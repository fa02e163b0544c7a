-- The images of faces, and of the facets of a complex.
use Rattle.std.proofs.Common.{◌≡◌, ℕ, List, [], ◌∷◌, map, refl, arith}
use Rattle.std.specs.List.{list_all, AllByRecursion}
use Rattle.std.specs.Ordering.{nat_cmp}
use Rattle.std.specs.declared.cmp.Ordering.TheVariants.{Less}
use Rattle.std.specs.Cmp.{first_so, second_so}
use Rattle.std.proofs.lemmas.List.{length-map}
use Rattle.complex_core.specs.Labels.{IsFace, IsRising}
use Rattle.complex_core.specs.Complexes.{ComplexView, IsComplex}
use Rattle.complex_core.specs.Maps.{IsMap, ArePositive, takes, at, face_image, face_images, renamed}
use Rattle.complex_core.proofs.Sets.{above_cons, above_tail, each_rising}
use Rattle.complex_core.proofs.Faces.{cmp_less}
use Rattle.complex_core.proofs.Images.{positive_at, facet_images}
use Rattle.complex_core.proofs.Sorting.{sorted_complex}
use Rattle.flip_names.specs.Laws.{Renames, SizesAreKept}
use Rattle.flip_names.proofs.Images.{Taken, image_rises, length-image}
use Rattle.flip_names.proofs.Flips.{takes_first, takes_second}

above_image : (m : List (ℕ × ℕ)) (f : List ℕ) → ArePositive m → Taken m f → AllByRecursion (λ y. nat_cmp 0 y ≡ Less) (map (at m) f)
above_image m [] p t = tt
above_image m (x ∷ f) p t = (
  cmp_less 0 (at m x) (positive_at m x p (first_so (takes m x) (list_all (takes m) f) t)),
  above_image m f p (second_so (takes m x) (list_all (takes m) f) t),
)

-- the images rise from 1
pub image_rising : (m : List (ℕ × ℕ)) (f : List ℕ) → ArePositive m → Taken m f → IsRising (face_image m f)
image_rising m f p t = above_cons nat_cmp 0 (face_image m f) (each_rising nat_cmp (λ y. nat_cmp 0 y ≡ Less) (map (at m) f) (above_image m f p t)) (image_rises m f)

image_is_face : (m : List (ℕ × ℕ)) (f : List ℕ) → IsMap m → IsFace f → Taken m f → IsFace (face_image m f)
image_is_face m f h face t = record {
  few = omega (arith, face.few, length-image m h.differ f (above_tail nat_cmp 0 f face.rising) t);
  rising = image_rising m f h.positive t;
}

pub sizes_are_kept : SizesAreKept
sizes_are_kept m f h faces t = record {
  faces = record {
    first = image_is_face m f.a h faces.first (takes_first m f t);
    second = image_is_face m f.b h faces.second (takes_second m f t);
  };
  first = length-image m h.differ f.a (above_tail nat_cmp 0 f.a faces.first.rising) (takes_first m f t);
  second = length-image m h.differ f.b (above_tail nat_cmp 0 f.b faces.second.rising) (takes_second m f t);
}

pub renamed_is_complex : (m : List (ℕ × ℕ)) (k : ComplexView) → Renames m k → IsComplex (renamed k m)
renamed_is_complex m k r = sorted_complex k.dim (face_images m k.facets) (renamed k m).facets refl r.complex.low (omega (arith, r.complex.some, length-map k.facets (face_image m))) (facet_images k.dim m k.facets r.is_map r.complex.pure r.taken)
