-- Links that stay open: none has dimension 0, and the report of each shows a history.
use Rattle.std.proofs.Common.{◌≡◌, ◌⊎◌, inl, inr, ℕ, ◌<◌, ◌≤◌, true, List, [], ◌∷◌, length, Some, suc, zero, sym, refl, subst, arith}
use Rattle.std.specs.List.{AllByRecursion}
use Rattle.complex_core.specs.Labels.{has}
use Rattle.complex_core.specs.Complexes.{ComplexView, IsComplex}
use Rattle.complex_core.specs.Maps.{names_of, renamed, used}
use Rattle.facet_text.specs.Writing.{KeepsLimits as KeepsTextLimits}
use Rattle.pseudo_test.specs.Ridges.{Closed}
use Rattle.flip_rules.specs.Boundaries.{IsBoundary}
use Rattle.flip_rules.specs.Certificates.{SphereCert}
use Rattle.flip_rules.specs.Flips.{Legal}
use Rattle.flip_rules.specs.declared.flip.Flip.{Flip}
use Rattle.flip_rules.proofs.Legal.{legal}
use Rattle.flip_names.specs.Laws.{RenamesAll, map_back}
use Rattle.flip_names.proofs.Replays.{certificate_is_kept}
use Rattle.descent_laws.specs.Descents.{IsDescent, IsReducing}
use Rattle.sphere_text.specs.Statements.{placed}
use Rattle.sphere_text.proofs.Grounds.{Ground, ground}
use Rattle.anneal_plan.specs.Numbers.{Numbers, KeepsLimits}
use Rattle.round_rules.specs.Rounds.{RoundView}
use Rattle.round_run.specs.Reports.{Chain, IsElsewhere, IsUndecided, ReportView}
use Rattle.report_text.proofs.Searches.{chain_of, end_is_minimal}
use Rattle.report_text.proofs.Shown.{report_is_shown}
use Rattle.link_check.specs.Vertices.{vertex_link}
use Rattle.link_check.proofs.LinkSearching.{point_boundary}
use Rattle.link_check.proofs.Linked.{link_complex}
use Rattle.link_check.proofs.Vertices.{link_closed, vertex_has}
use Rattle.job_manifold.specs.Answers.{ShowsHistory, StaysOpen}
use Rattle.job_manifold.proofs.Limits.{link_keeps}

-- ---- dimension 0

-- no flip leaves fewer facets
no_reducing : (k : ComplexView) (f : Flip) → k.dim ≡ 0 → IsReducing k f → ⊥
no_reducing k f d r = let l : Legal k f.a f.b = legal k f.a f.b r.legal in omega (arith, d, r.high, l.shape.first, l.shape.sizes)

descent_stays : (k end : ComplexView) (flips : List Flip) → k.dim ≡ 0 → IsBoundary k → IsDescent k flips end → IsBoundary end
descent_stays k end [] d b h = subst IsBoundary (sym h.0) b
descent_stays k end (f ∷ fs) d b h = absurd (no_reducing k f d h.0.reduces)

-- no first descent ends elsewhere
first_ends : (plan : Numbers) (places n : ℕ) (k end : ComplexView) (ds : List (List Flip)) (lows : List ComplexView) (rs : List RoundView) → k.dim ≡ 0 → IsBoundary k → 0 < length ds → Chain plan places n k ds lows rs end → AllByRecursion IsElsewhere lows → ⊥
first_ends plan places n k end [] lows rs d b some c none = omega (arith, some)
first_ends plan places n k end (f ∷ ds) [] rs d b some c none = c
first_ends plan places n k end (f ∷ ds) (low ∷ lows) [] d b some c none = none.0 (descent_stays k low f d b c.0)
first_ends plan places n k end (f ∷ ds) (low ∷ lows) (r ∷ rs) d b some c none = none.0 (descent_stays k low f d b c.1)

placed_boundary : (k : ComplexView) (room : ℕ) → IsComplex k → IsBoundary k → IsBoundary (placed k room)
placed_boundary k room c b =
    let m : List (ℕ × ℕ) = names_of k.facets room in
    let g : Ground k m = ground k room c in
    let a : RenamesAll (map_back m) k [] = record { complex = g.there; faces = tt; taken = refl } in
    let P : List (ℕ × ℕ) → Type 0 = λ ps. SphereCert (renamed k ps) [] in
    let s : SphereCert (placed k room) [] = subst P g.places ((certificate_is_kept (map_back m) k [] a).0 (record { end = k; replays = refl; boundary = b })) in
    subst IsBoundary (sym (some_is (placed k room) s.end s.replays)) s.boundary
  where
    some_is : (l end : ComplexView) → Some l ≡ Some end → l ≡ end
    some_is l end e = cc

points_are_found : (k : ComplexView) (plan : Numbers) (r : ReportView) → IsComplex k → k.dim ≡ 0 → Closed k.facets → IsUndecided k plan r → ⊥
points_are_found k plan r c d closed u =
    let some : 0 < length r.descents = omega (arith, u.spent.descents) in
    first_ends plan (length (names_of k.facets plan.room)) 0 (placed k plan.room) r.end r.descents u.ok.lows r.rounds d (placed_boundary k plan.room c (point_boundary k c d closed)) some (chain_of k plan r u.ok) u.none

-- ---- the dimension

pub vertex_complex : (k : ComplexView) (v : ℕ) → KeepsTextLimits k → has (used k.facets) v ≡ true → IsComplex (vertex_link k v)
vertex_complex k v h u = link_complex k (v ∷ []) h.complex (vertex_has k v h.complex (omega (arith, h.dim)) u)

one_is_high : (k : ComplexView) (plan : Numbers) (v : ℕ) (r : ReportView) → KeepsTextLimits k → Closed k.facets → has (used k.facets) v ≡ true → IsUndecided (vertex_link k v) plan r → k.dim ≡ 1 → ⊥
one_is_high k plan v r h closed u spent d = points_are_found (vertex_link k v) plan r (vertex_complex k v h u) (omega (arith, d)) (link_closed k h.complex v closed) spent

two_dims : (d : ℕ) → 0 < d → (d ≡ 1) ⊎ (2 ≤ d)
two_dims zero some = absurd (omega (arith, some))
two_dims (suc zero) some = inl refl
two_dims (suc (suc d)) some = inr (omega arith)

is_high : (k : ComplexView) (plan : Numbers) (v : ℕ) (r : ReportView) → KeepsTextLimits k → Closed k.facets → has (used k.facets) v ≡ true → IsUndecided (vertex_link k v) plan r → (k.dim ≡ 1) ⊎ (2 ≤ k.dim) → 2 ≤ k.dim
is_high k plan v r h closed u spent (inl d) = absurd (one_is_high k plan v r h closed u spent d)
is_high k plan v r h closed u spent (inr d) = d

first_is_high : (k : ComplexView) (plan : Numbers) (left : List (ℕ × ReportView)) → KeepsTextLimits k → Closed k.facets → 0 < length left → AllByRecursion (λ p. has (used k.facets) p.0 ≡ true) left → AllByRecursion (λ p. IsUndecided (vertex_link k p.0) plan p.1) left → 2 ≤ k.dim
first_is_high k plan [] h closed some us spent = absurd (omega (arith, some))
first_is_high k plan (p ∷ ps) h closed some us spent = is_high k plan p.0 p.1 h closed us.0 spent.0 (two_dims k.dim h.dim)

-- links stay open from dimension 2 on
pub open_is_high : (k : ComplexView) (plan : Numbers) (left : List (ℕ × ReportView)) → KeepsTextLimits k → Closed k.facets → StaysOpen k plan left → 2 ≤ k.dim
open_is_high k plan left h closed s = first_is_high k plan left h closed s.some s.vertices s.spent

-- ---- histories

history_of : (k : ComplexView) (plan : Numbers) (r : ReportView) → KeepsTextLimits k → KeepsLimits plan → IsUndecided k plan r → ShowsHistory k plan r
history_of k plan r h limits u = record {
  ok = u.ok;
  shown = report_is_shown k plan r h limits u.ok;
  minimal = end_is_minimal k plan r u.ok (omega (arith, u.spent.rounds, u.spent.descents));
}

all_histories : (k : ComplexView) (plan : Numbers) (left : List (ℕ × ReportView)) → KeepsTextLimits k → KeepsLimits plan → 2 ≤ k.dim → AllByRecursion (λ p. has (used k.facets) p.0 ≡ true) left → AllByRecursion (λ p. IsUndecided (vertex_link k p.0) plan p.1) left → AllByRecursion (λ p. ShowsHistory (vertex_link k p.0) plan p.1) left
all_histories k plan [] h limits d us spent = tt
all_histories k plan (p ∷ ps) h limits d us spent = (history_of (vertex_link k p.0) plan p.1 (link_keeps k p.0 h d us.0) limits spent.0, all_histories k plan ps h limits d us.1 spent.1)

pub open_histories : (k : ComplexView) (plan : Numbers) (left : List (ℕ × ReportView)) → KeepsTextLimits k → KeepsLimits plan → 2 ≤ k.dim → StaysOpen k plan left → AllByRecursion (λ p. ShowsHistory (vertex_link k p.0) plan p.1) left
open_histories k plan left h limits d s = all_histories k plan left h limits d s.vertices s.spent
