use Rattle.std.proofs.Common.{◌≡◌, ◌++◌, ◌∙◌, arith, vec_capacity, ap, List, ℕ, subst, sym, not}
use Rattle.std.specs.List.{AllByRecursion}
use Rattle.complex_core.specs.Labels.{face_cmp}
use Rattle.complex_core.specs.Rising.{rising}
use Rattle.complex_core.specs.Complexes.{IsComplex, IsFacet, staying, is_facet}
use Rattle.complex_core.proofs.Exchanges.{both_fit}
use Rattle.complex_core.proofs.Sorting.{exchanged}
use Rattle.complex_core.proofs.complex.Complex.exchange.Goals as goal

pub invariant_of-self : goal.invariant_of-self
invariant_of-self c =
    let P : List (List ℕ) → Type 0 = λ fs. IsComplex (record { dim = c.self.inside.dim; facets = fs }) in
    subst P (sym c.in_err-reserve.ensures.items) c.self.invariant

pub put_all_in-requires-clause-room : goal.put_all_in-requires-clause-room
put_all_in-requires-clause-room c = both_fit c.take_all_out.new.sets.items c.args.more.now (vec_capacity c.take_all_out.new.sets) (omega (arith, c.take_all_out.new.sets.ok.0, c.take_all_out.ensures.len, c.take_all_out.ensures.capacity, c.in_ok-reserve.ensures.ok))

pub invariant_of-self-2 : goal.invariant_of-self-2
invariant_of-self-2 c =
    let e : c.put_all_in.new.sets.items ≡ rising face_cmp (staying c.self.inside.facets.items c.args.out.now ++ c.args.more.now) =
    c.put_all_in.ensures.items ∙ ap (λ fs. rising face_cmp (fs ++ c.args.more.now)) (c.take_all_out.ensures.items ∙ ap (λ fs. staying fs c.args.out.now) c.in_ok-reserve.ensures.items) in
    let P : List (List ℕ) → Type 0 = λ fs. IsComplex (record { dim = c.self.inside.dim; facets = fs }) in
    let Q : ℕ → Type 0 = λ d. AllByRecursion (IsFacet d) c.args.more.now in
    subst P (sym e) (exchanged (λ f. not (is_facet c.args.out.now f)) c.self.inside.dim c.self.inside.facets.items c.args.more.now c.self.invariant c.requires.some (subst Q (sym (ap (λ k. k.dim) c.self.view_is)) c.requires.pure))
