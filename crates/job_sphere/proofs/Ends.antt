-- A search from a complex that came to an end.
use Rattle.std.proofs.Common.{◌≡◌, ℕ, ◌+◌, List, [], ◌∷◌, ◌++◌, length, sym, ap, subst, arith}
use Rattle.std.specs.List.{AllByRecursion}
use Rattle.complex_core.specs.Maps.{renamed, turned}
use Rattle.complex_core.specs.Complexes.{ComplexView}
use Rattle.flip_rules.specs.declared.flip.Flip.{Flip}
use Rattle.anneal_plan.specs.Numbers.{Numbers}
use Rattle.round_rules.specs.Rounds.{RoundView}
use Rattle.round_run.specs.Reports.{ReportView, Chain, ReportOk, IsElsewhere, IsSphere, IsUndecided}
use Rattle.round_run.specs.Found.{IsFound}
use Rattle.round_run.specs.declared.search.SphereFound.{SphereFound}
use Rattle.round_run.specs.declared.search.SphereFound.TheVariants.{Sphere, Undecided}
use Rattle.report_text.proofs.Searches.{descent_report_is_one}

-- where a descent was made there is one descent more than there are rounds
one_more : (plan : Numbers) (places n : ℕ) (k : ComplexView) (ds : List (List Flip)) (earlier : List ComplexView) (last : ComplexView) (rs : List RoundView) (end : ComplexView) → Chain plan places n k ds (earlier ++ last ∷ []) rs end → length ds ≡ length rs + 1
one_more plan places n k [] [] last [] end c = absurd c
one_more plan places n k [] [] last (r ∷ rs) end c = absurd c
one_more plan places n k [] (low ∷ lows) last [] end c = absurd c
one_more plan places n k [] (low ∷ lows) last (r ∷ rs) end c = absurd c
one_more plan places n k (d ∷ ds) [] last [] end c = ap (λ xs. length (d ∷ xs)) c.2
one_more plan places n k (d ∷ ds) [] last (r ∷ rs) end c = omega (arith, c.3)
one_more plan places n k (d ∷ ds) (low ∷ lows) last [] end c = ap (λ xs. length (d ∷ xs)) c.2
one_more plan places n k (d ∷ ds) (low ∷ lows) last (r ∷ rs) end c = omega (arith, c.3)

pub sphere_descents : (k : ComplexView) (plan : Numbers) (r : ReportView) → IsSphere k plan r → length r.descents ≡ length r.rounds + 1
sphere_descents k plan r h =
    let P : List ComplexView → Type 0 = λ lows. Chain plan (length r.names) 0 (renamed k (turned r.names)) r.descents lows r.rounds r.end in
    one_more plan (length r.names) 0 (renamed k (turned r.names)) r.descents h.earlier r.end r.rounds r.end (subst P h.ends h.ok.chain)

pub spent_descents : (k : ComplexView) (plan : Numbers) (r : ReportView) → IsUndecided k plan r → length r.descents ≡ length r.rounds + 1
spent_descents k plan r h = omega (arith, h.spent.descents, h.spent.rounds)

-- the search ends where the last descent ended
end_elsewhere : (plan : Numbers) (places n : ℕ) (k : ComplexView) (ds : List (List Flip)) (lows : List ComplexView) (rs : List RoundView) (end : ComplexView) → Chain plan places n k ds lows rs end → length ds ≡ length rs + 1 → AllByRecursion IsElsewhere lows → IsElsewhere end
end_elsewhere plan places n k [] lows rs end c e h = absurd (omega (arith, e))
end_elsewhere plan places n k (d ∷ ds) [] rs end c e h = absurd c
end_elsewhere plan places n k (d ∷ ds) (low ∷ lows) [] end c e h = subst IsElsewhere (sym c.1) h.0
end_elsewhere plan places n k (d ∷ ds) (low ∷ lows) (r ∷ rs) end c e h = end_elsewhere plan places (n + 1) c.0 ds lows rs end c.4 c.3 h.1

-- so no search is both
pub not_both : (k : ComplexView) (plan : Numbers) (r : ReportView) → IsSphere k plan r → IsUndecided k plan r → ⊥
not_both k plan r a b = end_elsewhere plan (length r.names) 0 (renamed k (turned r.names)) r.descents b.ok.lows r.rounds r.end b.ok.chain (spent_descents k plan r b) b.none a.boundary

-- ---- one search where no round is made

report_of_one : (k : ComplexView) (plan : Numbers) (r q : ReportView) → plan.rounds ≡ 0 → ReportOk k plan r → ReportOk k plan q → length r.descents ≡ length r.rounds + 1 → length q.descents ≡ length q.rounds + 1 → r ≡ q
report_of_one k plan r q z a b m n = descent_report_is_one k plan r q z a b (omega (arith, z, a.few, m)) (omega (arith, z, b.few, n))

pub one_found : (k : ComplexView) (plan : Numbers) (f g : SphereFound) → plan.rounds ≡ 0 → IsFound k plan f → IsFound k plan g → f ≡ g
one_found k plan (Sphere r) (Sphere q) z a b = ap (λ (x : ReportView). Sphere x) (report_of_one k plan r q z a.ok b.ok (sphere_descents k plan r a) (sphere_descents k plan q b))
one_found k plan (Sphere r) (Undecided q) z a b =
    let i : q ≡ r = report_of_one k plan q r z b.ok a.ok (spent_descents k plan q b) (sphere_descents k plan r a) in
    absurd (not_both k plan r a (let P : ReportView → Type 0 = λ x. IsUndecided k plan x in subst P i b))
one_found k plan (Undecided r) (Sphere q) z a b =
    let i : r ≡ q = report_of_one k plan r q z a.ok b.ok (spent_descents k plan r a) (sphere_descents k plan q b) in
    absurd (not_both k plan q b (let P : ReportView → Type 0 = λ x. IsUndecided k plan x in subst P i a))
one_found k plan (Undecided r) (Undecided q) z a b = ap (λ (x : ReportView). Undecided x) (report_of_one k plan r q z a.ok b.ok (spent_descents k plan r a) (spent_descents k plan q b))

-- the report of a search from a complex is one from its own input
pub own_sphere : (k : ComplexView) (plan : Numbers) (r : ReportView) → IsSphere k plan r → IsSphere r.input plan r
own_sphere k plan r h = let P : ComplexView → Type 0 = λ l. IsSphere l plan r in subst P (sym h.ok.input) h

pub own_spent : (k : ComplexView) (plan : Numbers) (r : ReportView) → IsUndecided k plan r → IsUndecided r.input plan r
own_spent k plan r h = let P : ComplexView → Type 0 = λ l. IsUndecided l plan r in subst P (sym h.ok.input) h
