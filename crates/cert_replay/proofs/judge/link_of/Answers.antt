use Rattle.std.proofs.Common.{◌≡◌, ◌≤◌, List, ℕ, [], ◌∷◌, length, subst, sym, ◌∙◌, ap, arith, true}
use Rattle.complex_core.specs.Labels.{with}
use Rattle.complex_core.specs.Complexes.{is_face}
use Rattle.complex_core.specs.Links.{link}
use Rattle.cert_replay.proofs.VertexLists.{used_positive, used_face, none_where}
use Rattle.cert_replay.proofs.judge.link_of.Goals as goal

pub unreachable-requires : goal.unreachable-requires
unreachable-requires c =
    let P : List ℕ → Type 0 = λ xs. length (with xs c.args.vertex) ≤ 8 in
    let one : length (c.args.vertex ∷ []) ≤ 8 = omega arith in
    c.in_default.ensures (used_positive c.args.complex.now c.args.vertex c.facets.ensures.complex c.requires.used, subst P (sym c.new.ensures) one)

pub unreachable-requires-in-None : goal.unreachable-requires-in-None
unreachable-requires-in-None c =
    let e : c.in-Some.face ≡ c.args.vertex ∷ [] = c.in-Some.ensures.1 ∙ ap (λ (xs : List ℕ). with xs c.args.vertex) c.new.ensures in
    none_where c.in_ok-link.field-0 (is_face c.args.complex.now.facets c.in-Some.face ≡ true) (link c.args.complex.now c.in-Some.face) c.in_ok-link.ensures c.in-None.is (ap (is_face c.args.complex.now.facets) e ∙ used_face c.args.complex.now.facets c.args.vertex c.requires.used)
