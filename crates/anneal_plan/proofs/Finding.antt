-- The faces of a star that flips take out are the candidates of their index.
use Rattle.std.proofs.Common.{◌≡◌, ℕ, ◌+◌, ◌-◌, ◌≤◌, true, cond, ◌&&◌, List, [], ◌∷◌, ◌++◌, map, sym, ◌∙◌, ap, refl}
use Rattle.std.specs.List.{AllByRecursion}
use Rattle.complex_core.specs.Labels.{has}
use Rattle.complex_core.specs.Complexes.{over}
use Rattle.flip_rules.specs.declared.flip.Flip.{Flip}
use Rattle.stars.specs.StarViews.{VertexStar, IsStar}
use Rattle.stars.specs.Candidates.{flip_of, opposite, faces_at, candidate_faces}
use Rattle.anneal_plan.specs.Faces.{faces_out}
use Rattle.anneal_plan.specs.Growth.{grown}
use Rattle.anneal_plan.specs.Proposals.{inner}
use Rattle.anneal_plan.proofs.Choosing.{inner_is, star_rows}
use Rattle.anneal_plan.proofs.Growing.{grown_flips}

-- all facets of a star are over its vertex
held_all : (p : ℕ) (rows : List (List ℕ)) → AllByRecursion (λ f. has f p ≡ true) rows → over rows (p ∷ []) ≡ rows
held_all p [] h = refl
held_all p (row ∷ rows) h = (λ i. cond (h.0 i && true) (row ∷ held_all p rows h.1 i) (held_all p rows h.1 i))

pub star_over : (s : VertexStar) (rows : List (List ℕ)) (face : List ℕ) → IsStar s → rows ≡ s.rows → face ≡ s.vertex ∷ [] → over rows face ≡ rows
star_over s rows face h e is = (λ i. over (e i) (is i)) ∙ held_all s.vertex s.rows h.held ∙ sym e

pub out_of_star : (s : VertexStar) (p d others : ℕ) (rows : List (List ℕ)) (face : List ℕ) (start all : List (List ℕ)) → IsStar s → p ≡ s.vertex → d ≡ s.dim → rows ≡ s.rows → face ≡ s.vertex ∷ [] → start ≡ [] → all ≡ start ++ faces_out d rows (grown rows p others 0 face) → all ≡ faces_out s.dim s.rows (faces_at s.rows s.vertex (others + 1))
out_of_star s p d others rows face start all h v dim e is none made =
    made
    ∙ (λ i. none i ++ faces_out (dim i) (e i) (grown (e i) (v i) others 0 (is i)))
    ∙ ap (map (λ (f : Flip). f.a)) (grown_flips s.dim s.rows s.vertex others (star_rows s h))

same_faces : (s : VertexStar) (faces : List (List ℕ)) → map (λ (f : Flip). f.a) (map (λ a. flip_of a (opposite s.rows a)) faces) ≡ faces
same_faces s [] = refl
same_faces s (a ∷ faces) = ap (λ fs. a ∷ fs) (same_faces s faces)

pub candidates_out : (s : VertexStar) (i others : ℕ) → IsStar s → 1 ≤ i → i ≤ s.dim → others ≡ s.dim - i → faces_out s.dim s.rows (faces_at s.rows s.vertex (others + 1)) ≡ candidate_faces s i
unfolding inner
candidates_out s i others h low high e = ap (map (λ (f : Flip). f.a)) (sym (inner_is s i others h low high e)) ∙ same_faces s (candidate_faces s i)
