-- What a descent on the places of a complex shows of it.
use Rattle.std.proofs.Common.{◌≡◌, ℕ, ◌≤◌, true, List, [], ◌∷◌, length, subst, arith}
use Rattle.std.proofs.lemmas.List.{length-map}
use Rattle.std.specs.List.{AllByRecursion}
use Rattle.complex_core.specs.Maps.{turned, names_of, face_image, face_images}
use Rattle.complex_core.specs.Complexes.{ComplexView}
use Rattle.flip_rules.specs.Flips.{flipped}
use Rattle.flip_rules.specs.Certificates.{SphereCert}
use Rattle.flip_rules.specs.declared.flip.Flip.{Flip}
use Rattle.flip_names.specs.Names.{named_flip, takes_flips}
use Rattle.flip_names.specs.Laws.{RenamesAll, HasPositiveIndex}
use Rattle.flip_names.proofs.Replays.{certificate_is_kept}
use Rattle.flip_names.proofs.Staying.{reducing_flips_taken}
use Rattle.descent_laws.specs.Descents.{IsDescent}
use Rattle.descent_laws.specs.Laws.{Descends}
use Rattle.descent_laws.proofs.DescentRuns.{descent_descends}
use Rattle.descent_laws.proofs.Reducing.{two_at_least}
use Rattle.sphere_text.specs.Statements.{placed, named, DescentIsShown}
use Rattle.sphere_text.proofs.Grounds.{Ground, ground}
use Rattle.sphere_text.proofs.Fits.{names_are_small, flips_fit}
use Rattle.complex_core.proofs.SetLists.{rising_length}

-- each flip of a descent has a B of two labels or more
pub all_reduce : (k end : ComplexView) (flips : List Flip) → IsDescent k flips end → AllByRecursion HasPositiveIndex flips
all_reduce k end [] d = tt
all_reduce k end (f ∷ fs) d = (two_at_least k f d.0.reduces, all_reduce (flipped k f.a f.b) end fs d.1)

pub placed_length : (k : ComplexView) (room : ℕ) → length (placed k room).facets ≤ length k.facets
placed_length k room =
    let m : List (ℕ × ℕ) = turned (names_of k.facets room) in
    omega (arith, rising_length (face_images m k.facets), length-map k.facets (face_image m))

pub descent_is_shown : DescentIsShown
descent_is_shown k room flips end limits small d =
    let m : List (ℕ × ℕ) = names_of k.facets room in
    let g : Ground k m = ground k room limits.complex in
    let s : Descends (placed k room) flips end = descent_descends (placed k room) end flips d in
    let t : takes_flips m flips ≡ true = reducing_flips_taken m (placed k room) end flips g.here.taken s.faces (all_reduce (placed k room) end flips d) s.replays in
    let few : length flips ≤ length k.facets = omega (arith, s.falls, placed_length k room) in
    let a : RenamesAll m (placed k room) flips = record { complex = g.here; faces = s.faces; taken = t } in
    let P : ComplexView → Type 0 = λ l. SphereCert l (named k room flips) in
    record {
      start = g.back;
      replays = s.replays;
      minimal = s.minimal;
      faces = s.faces;
      taken = t;
      few = few;
      fit = record {
        few = omega (arith, few, limits.few_facets, length-map flips (named_flip m));
        sides = flips_fit m (placed k room) end flips g.here.is_map (names_are_small k room limits small) limits.complex.low d t;
      };
      certificate = λ b. subst P g.back ((certificate_is_kept m (placed k room) flips a).0 (record { end = end; replays = s.replays; boundary = b }));
    }
