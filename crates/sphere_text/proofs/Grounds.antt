-- A complex on the places of its labels.
use Rattle.std.proofs.Common.{◌≡◌, ℕ, List, ◌++◌, refl, subst}
use Rattle.complex_core.specs.Complexes.{ComplexView, IsComplex}
use Rattle.complex_core.specs.Maps.{IsMap, turned, renamed, names_of, used, greatest, next_after}
use Rattle.complex_core.proofs.Places.{numbered_map}
use Rattle.complex_core.proofs.Renaming.{Named, named, dense_back}
use Rattle.flip_names.specs.Laws.{Renames, map_back}
use Rattle.flip_names.proofs.Faces.{renamed_is_complex}
use Rattle.flip_names.proofs.Back.{back_is_map}

-- the map leads from the places to the complex, and the map back leads from the complex to them
pub record Ground (k : ComplexView) (m : List (ℕ × ℕ)) : Type 0 where
  pub places : map_back m ≡ turned m
  pub there : Renames (map_back m) k
  pub here : Renames m (renamed k (turned m))
  pub back : renamed (renamed k (turned m)) m ≡ k

pub ground : (k : ComplexView) (room : ℕ) → IsComplex k → Ground k (names_of k.facets room)
ground k room h =
    let n : Named k room = named k room h in
    let m : List (ℕ × ℕ) = names_of k.facets room in
    let i : IsMap m = numbered_map (used k.facets ++ next_after (greatest (used k.facets)) room) n.labels in
    let t : Renames (map_back m) k = record { is_map = back_is_map m i; complex = h; taken = n.taken } in
    let P : List (ℕ × ℕ) → Type 0 = λ ps. IsComplex (renamed k ps) in
    record {
      places = n.places;
      there = t;
      here = record { is_map = i; complex = subst P n.places (renamed_is_complex (map_back m) k t); taken = n.taken_back };
      back = dense_back k room m (renamed k (turned m)) h refl refl;
    }
