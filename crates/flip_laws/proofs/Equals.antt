-- Complexes of which flips lead from one to an image of the other.
use Rattle.std.proofs.Common.{◌≡◌, ◌↔◌, Bool, true, false, IsTrue, Option, None, Some, Result, Ok, Err, sym, ◌∙◌, refl}
use Rattle.std.specs.Prelude.{IfOk, IfSome, MatchOption}
use Rattle.std.specs.Ordering.{nat_cmp}
use Rattle.complex_core.specs.Maps.{at, renamed}
use Rattle.complex_core.specs.Complexes.{ComplexView, IsComplex}
use Rattle.complex_core.proofs.Sets.{above_tail}
use Rattle.face_counts.proofs.Parts.{Sets}
use Rattle.flip_laws.specs.declared.difference.Differ.{Differ}
use Rattle.flip_laws.specs.declared.difference.Differ.TheVariants as differ
use Rattle.flip_laws.specs.Keeping.{Keeps}
use Rattle.flip_laws.specs.Differences.{Alike, IsDifference, LeadsToImage, ImageIsAlike}
use Rattle.flip_laws.proofs.Images.{Renames, map_renames}
use Rattle.flip_laws.proofs.Renaming.{pull, push}
use Rattle.flip_laws.proofs.RenamedEuler.{euler-images}
use Rattle.flip_laws.proofs.Replays.{replay_keeps}
use Rattle.complex_core.proofs.SetLists.{pure_at}

pub image_is_alike : ImageIsAlike
image_is_alike k l hk hl e =
    let q : IsComplex (renamed l e.naming) × Keeps k (renamed l e.naming) = replay_keeps k (renamed l e.naming) e.flips hk e.faces e.replays in
    let sets : Sets l.facets = λ f u. above_tail nat_cmp 0 f (pure_at l.dim l.facets f hl.pure u).face.rising in
    let r : Renames l.facets (at e.naming) = map_renames e.naming l.facets e.is_map e.all in
    record {
      dim = q.1.dim;
      euler = q.1.euler ∙ euler-images (at e.naming) r.used r.one l.facets sets r.all hl.rising;
      orientable = (
        λ o. pull (at e.naming) r.used r.one l.facets sets r.all hl.rising (q.1.orientable.0 o),
        λ o. q.1.orientable.1 (push (at e.naming) r.used r.one l.facets sets r.all hl.rising o),
      );
    }

-- answers of a test that say the same are one
same_answer : (s t : Bool) (A B : Type 0) → IsTrue s ↔ A → IsTrue t ↔ B → A ↔ B → s ≡ t
same_answer true true A B p q r = refl
same_answer true false A B p q r = sym (q.1 (r.0 (p.0 refl)))
same_answer false true A B p q r = p.1 (r.1 (q.0 refl))
same_answer false false A B p q r = refl

-- a difference contradicts one of the three facts
excludes : (k l : ComplexView) (d : Differ) → IsDifference k l d → Alike k l → ⊥
excludes k l (differ.Dimension m n) h a = h.2 (h.0 ∙ a.dim ∙ sym h.1)
excludes k l (differ.Euler m n) h a = h.3 (h.1 ∙ a.euler ∙ sym h.2)
excludes k l (differ.Orientable s t) h a = h.4 (same_answer s t _ _ h.2 h.3 a.orientable)

-- so where there is one, no flips lead to an image
pub sound_difference : {E : Type 0} (k l : ComplexView) (r : Result (Option Differ) E) → IsComplex k → IsComplex l → IfOk r (λ d. MatchOption d (Alike k l) (IsDifference k l)) → IfOk r (λ d. IfSome d (λ _. LeadsToImage k l → ⊥))
sound_difference k l (Ok (Some d)) hk hl h = λ e. excludes k l d h (image_is_alike k l hk hl e)
sound_difference k l (Ok None) hk hl h = tt
sound_difference k l (Err e) hk hl h = tt
