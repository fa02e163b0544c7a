-- What is true of every named complex.
use Rattle.std.proofs.Common.{◌≡◌, ◌∙◌, sym, ap, ℕ, ◌≤◌, true, length, refl, arith}
use Rattle.complex_core.specs.Complexes.{ComplexView, IsComplex}
use Rattle.std.specs.Prelude.{◌↔◌, IsTrue}
use Rattle.std.proofs.lemmas.Bool.{true≢false}
use Rattle.pseudo_test.specs.Ridges.{Closed}
use Rattle.pseudo_test.specs.Chains.{StronglyConnected}
use Rattle.face_counts.specs.Eulers.{euler}
use Rattle.orient_test.specs.Signs.{Orientable}
use Rattle.flip_laws.specs.Keeping.{Keeps}
use Rattle.flip_laws.specs.Obstacles.{LooksLikeSphere, sphere_euler}
use Rattle.stars.specs.StarViews.{UsesUpTo}
use Rattle.make_complex.specs.Kinds.{is_surface}
use Rattle.make_complex.specs.Named.{named_complex, named_euler, is_orientable, simplex_facets, cross_facets, torus_facets, plane_facets}
use Rattle.make_complex.specs.declared.kind.Kind.{Kind}
use Rattle.make_complex.specs.declared.kind.Kind.TheVariants.{Simplex, Cross, Torus, Plane}
use Rattle.make_complex.specs.Draws.{made_complex}
use Rattle.make_complex.specs.Words.{generator}
use Rattle.make_complex.proofs.Drawing.{made_keeps}
use Rattle.make_complex.proofs.Computed.{each_dim, uses_by}
use Rattle.make_complex.proofs.Spheres.{simplex_sphere, cross_sphere}
use Rattle.make_complex.proofs.Surfaces.{torus_closed, torus_strong, torus_orientable, plane_closed, plane_strong, plane_not_orientable}

-- it can be drawn on
pub record IsSmall (k : ComplexView) : Type 0 where
  pub uses : UsesUpTo k 4096
  pub few : length k.facets ≤ 20000

simplex_small : (d : ℕ) → 1 ≤ d → d ≤ 6 → IsSmall (named_complex Simplex d)
simplex_small = each_dim (λ d. IsSmall (named_complex Simplex d))
    (record { uses = uses_by (simplex_facets 1) refl; few = omega arith })
    (record { uses = uses_by (simplex_facets 2) refl; few = omega arith })
    (record { uses = uses_by (simplex_facets 3) refl; few = omega arith })
    (record { uses = uses_by (simplex_facets 4) refl; few = omega arith })
    (record { uses = uses_by (simplex_facets 5) refl; few = omega arith })
    (record { uses = uses_by (simplex_facets 6) refl; few = omega arith })

cross_small : (d : ℕ) → 1 ≤ d → d ≤ 6 → IsSmall (named_complex Cross d)
cross_small = each_dim (λ d. IsSmall (named_complex Cross d))
    (record { uses = uses_by (cross_facets 1) refl; few = omega (arith, (let n : length (cross_facets 1) ≡ 4 = refl in n)) })
    (record { uses = uses_by (cross_facets 2) refl; few = omega (arith, (let n : length (cross_facets 2) ≡ 8 = refl in n)) })
    (record { uses = uses_by (cross_facets 3) refl; few = omega (arith, (let n : length (cross_facets 3) ≡ 16 = refl in n)) })
    (record { uses = uses_by (cross_facets 4) refl; few = omega (arith, (let n : length (cross_facets 4) ≡ 32 = refl in n)) })
    (record { uses = uses_by (cross_facets 5) refl; few = omega (arith, (let n : length (cross_facets 5) ≡ 64 = refl in n)) })
    (record { uses = uses_by (cross_facets 6) refl; few = omega (arith, (let n : length (cross_facets 6) ≡ 128 = refl in n)) })

pub named_small : (kind : Kind) (d : ℕ) → 1 ≤ d → d ≤ 6 → (is_surface kind ≡ true → d ≡ 2) → IsSmall (named_complex kind d)
named_small Simplex d low high s = simplex_small d low high
named_small Cross d low high s = cross_small d low high
named_small Torus d low high s = record { uses = uses_by torus_facets refl; few = omega (arith, (let n : length torus_facets ≡ 14 = refl in n)) }
named_small Plane d low high s = record { uses = uses_by plane_facets refl; few = omega arith }

-- what flips keep, of each of them
pub record Looks (kind : Kind) (k : ComplexView) : Type 0 where
  pub closed : Closed k.facets
  pub strong : StronglyConnected k.facets
  pub euler : euler k.facets ≡ named_euler kind k.dim
  pub orientable : Orientable k.facets ↔ IsTrue (is_orientable kind)

sphere_looks : (kind : Kind) (k : ComplexView) → named_euler kind k.dim ≡ sphere_euler k → is_orientable kind ≡ true → LooksLikeSphere k → Looks kind k
sphere_looks kind k e t h = record { closed = h.closed; strong = h.strong; euler = h.euler ∙ sym e; orientable = (λ _. t, λ _. h.orientable) }

pub named_looks : (kind : Kind) (d : ℕ) → 1 ≤ d → d ≤ 6 → IsComplex (named_complex kind d) → Looks kind (named_complex kind d)
named_looks Simplex d low high h = sphere_looks Simplex (named_complex Simplex d) refl refl (simplex_sphere d low high)
named_looks Cross d low high h = sphere_looks Cross (named_complex Cross d) refl refl (cross_sphere d low high h)
named_looks Torus d low high h = record { closed = torus_closed; strong = torus_strong; euler = refl; orientable = (λ _. refl, λ _. torus_orientable) }
named_looks Plane d low high h = record { closed = plane_closed; strong = plane_strong; euler = refl; orientable = (λ o. absurd (plane_not_orientable o), λ t. absurd (true≢false (sym t))) }

-- ---- for the answers

pub made_looks : (kind : Kind) (d draws seed : ℕ) (k : ComplexView) → 1 ≤ d → d ≤ 6 → IsComplex (named_complex kind d) → k ≡ made_complex kind d draws seed → Looks kind k × (k.dim ≡ d)
made_looks kind d draws seed k low high h e =
    let p : Keeps (named_complex kind d) k = made_keeps (named_complex kind d) k (generator seed) draws h e in
    let q : Looks kind (named_complex kind d) = named_looks kind d low high h in (
      record {
        closed = p.closed.0 q.closed;
        strong = p.strong.0 q.strong;
        euler = sym p.euler ∙ q.euler ∙ ap (named_euler kind) p.dim;
        orientable = (λ o. q.orientable.0 (p.orientable.1 o), λ t. p.orientable.0 (q.orientable.1 t));
      },
      sym p.dim,
    )
