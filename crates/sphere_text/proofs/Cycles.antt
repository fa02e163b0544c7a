-- Closed and strongly connected complexes of dimension 1.
use Rattle.std.proofs.Common.{◌≡◌, ◌⊎◌, inl, inr, ℕ, ◌≤◌, zero, suc, List, [], ◌∷◌, length, ◌∙◌, refl, subst, arith}
use Rattle.std.specs.List.{AllByRecursion}
use Rattle.complex_core.specs.Maps.{renamed, names_of}
use Rattle.complex_core.specs.Complexes.{ComplexView, IsComplex}
use Rattle.flip_rules.specs.Boundaries.{IsBoundary}
use Rattle.flip_rules.specs.Certificates.{SphereCert}
use Rattle.flip_rules.specs.Flips.{OfFaces, flipped}
use Rattle.flip_rules.specs.declared.flip.Flip.{Flip}
use Rattle.flip_rules.proofs.Replays.{replay_legal}
use Rattle.flip_laws.specs.Keeping.{Keeps}
use Rattle.flip_laws.specs.Obstacles.{LooksLikeSphere}
use Rattle.flip_laws.proofs.Reaching.{reaching_looks}
use Rattle.flip_laws.proofs.Replays.{replay_keeps}
use Rattle.flip_names.specs.Names.{named_flips}
use Rattle.flip_names.specs.Laws.{RenamesAll, HasPositiveIndex, map_back}
use Rattle.flip_names.proofs.Replays.{certificate_is_kept}
use Rattle.flip_names.proofs.Staying.{reducing_flips_taken}
use Rattle.descent_laws.specs.Descents.{IsReducing}
use Rattle.descent_laws.specs.Laws.{IsCycle}
use Rattle.descent_laws.proofs.Cycles.{cycle_reduces, cycle_ends}
use Rattle.descent_laws.proofs.Falling.{flip_falls}
use Rattle.descent_laws.proofs.Reducing.{two_at_least}
use Rattle.sphere_text.specs.Statements.{placed, CycleIsDecided}
use Rattle.sphere_text.proofs.Grounds.{Ground, ground}
use Rattle.flip_names.proofs.Back.{named_are_faces}

-- flips that lead to the boundary of a simplex, and bring no new label
record Reaches (k : ComplexView) : Type 0 where
  flips : List Flip
  faces : AllByRecursion OfFaces flips
  many : AllByRecursion HasPositiveIndex flips
  certificate : SphereCert k flips

-- a flip of a cycle makes a cycle
cycle_next : (k : ComplexView) (f : Flip) → IsCycle k → IsReducing k f → IsCycle (flipped k f.a f.b)
cycle_next k f h r =
    let p : IsComplex (flipped k f.a f.b) × Keeps k (flipped k f.a f.b) = replay_keeps k (flipped k f.a f.b) (f ∷ []) h.complex (r.faces, tt) (replay_legal k f [] r.legal) in
    record { complex = p.0; dim = h.dim; closed = p.1.closed.0 h.closed; strong = p.1.strong.0 h.strong }

one_flip_more : (k : ComplexView) (f : Flip) → IsReducing k f → Reaches (flipped k f.a f.b) → Reaches k
one_flip_more k f r h = record {
  flips = f ∷ h.flips;
  faces = (r.faces, h.faces);
  many = (two_at_least k f r, h.many);
  certificate = record { end = h.certificate.end; replays = replay_legal k f h.flips r.legal ∙ h.certificate.replays; boundary = h.certificate.boundary };
}

-- one flip or none, and then what a smaller cycle reaches
cycle_step : (n : ℕ) (k : ComplexView) → length k.facets ≤ suc n → IsCycle k → ((l : ComplexView) → length l.facets ≤ n → IsCycle l → Reaches l) → IsBoundary k ⊎ ((f : Flip) × IsReducing k f × (length f.b ≡ 2)) → Reaches k
cycle_step n k l h smaller (inl b) = record { flips = []; faces = tt; many = tt; certificate = record { end = k; replays = refl; boundary = b } }
cycle_step n k l h smaller (inr f) = one_flip_more k f.0 f.1 (smaller (flipped k f.0.a f.0.b) (omega (arith, l, flip_falls k f.0 f.1)) (cycle_next k f.0 h f.1))

cycle_reaches : (n : ℕ) (k : ComplexView) → length k.facets ≤ n → IsCycle k → Reaches k
cycle_reaches zero k l h = absurd (omega (arith, l, h.complex.some))
cycle_reaches (suc n) k l h = cycle_step n k l h (λ m i c. cycle_reaches n m i c) (cycle_reduces k h)

-- what flips lead to a boundary of is so on its places
placed_looks : (k : ComplexView) (room : ℕ) → IsComplex k → Reaches k → LooksLikeSphere (placed k room)
placed_looks k room c h =
    let m : List (ℕ × ℕ) = names_of k.facets room in
    let g : Ground k m = ground k room c in
    let a : RenamesAll (map_back m) k h.flips = record { complex = g.there; faces = h.faces; taken = reducing_flips_taken (map_back m) k h.certificate.end h.flips g.there.taken h.faces h.many h.certificate.replays } in
    let P : List (ℕ × ℕ) → Type 0 = λ ps. SphereCert (renamed k ps) (named_flips (map_back m) h.flips) in
    reaching_looks (placed k room) (named_flips (map_back m) h.flips) g.here.complex (named_are_faces (map_back m) h.flips g.there.is_map h.faces a.taken) (subst P g.places ((certificate_is_kept (map_back m) k h.flips a).0 h.certificate))

pub cycle_is_decided : CycleIsDecided
cycle_is_decided k h =
    let r : Reaches k = cycle_reaches (length k.facets) k (omega arith) h in
    record {
      looks = reaching_looks k r.flips h.complex r.faces r.certificate;
      ends = λ room flips end d.
          let l : LooksLikeSphere (placed k room) = placed_looks k room h.complex r in
          let c : IsCycle (placed k room) = record { complex = (ground k room h.complex).here.complex; dim = h.dim; closed = l.closed; strong = l.strong } in
          cycle_ends (placed k room) end flips c d;
    }
