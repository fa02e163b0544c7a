use Rattle.std.proofs.Common.{◌≡◌, ◌<◌, nat_le, length, true, false, ◌∙◌, ap, arith, rules}
use Rattle.std.specs.List.Sorted.{IsPartitionPoint}
use Rattle.std.proofs.lemmas.Bool.Decides.{nat_tests}
use Rattle.std.proofs.lemmas.List.Sorted.{IsPartitionPoint-from_clause}
use Rattle.complex_core.specs.Complexes.{over}
use Rattle.complex_core.proofs.Runs.{least, parted_run, over_run, sorted_run}
use Rattle.complex_core.proofs.complex.Complex.around.Goals as goal

pub returns-clause-over : goal.returns-clause-over
returns-clause-over c =
    let fs = c.self.inside.facets.items in
    let s = c.first-first.result in
    let some : 0 < length c.args.set.now = grind (arith, nat_tests) in
    let position : IsPartitionPoint (λ f. nat_le (least f) s ≡ true) (λ f. nat_le (least f) s ≡ false) c.deref-2.result.now c.partition_point-end.result = IsPartitionPoint-from_clause (λ f. nat_le (least f) s) c.deref-2.result.now c.partition_point-end.result c.partition_point-end.ensures.partitioned (parted_run s fs c.deref-2.result.now c.deref-2.ensures.value c.self.invariant.rising) (λ a r q k. search rules) in
    over_run c.self.inside.dim fs c.deref-2.result.now c.deref-3.result.now c.args.set.now s c.partition_point-end.result c.deref-2.ensures.value c.deref-3.ensures.value c.first-first.ensures some c.self.invariant.pure position
    ∙ ap (λ k. over k.facets c.args.set.now) c.self.view_is

pub returns-clause-rising : goal.returns-clause-rising
returns-clause-rising c = sorted_run c.self.inside.facets.items c.deref-3.result.now c.partition_point-end.result c.deref-3.ensures.value c.self.invariant.rising
