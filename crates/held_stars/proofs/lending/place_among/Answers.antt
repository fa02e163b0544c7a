use Rattle.std.proofs.Common.{◌≡◌, nat_lt, true, false, rules}
use Rattle.std.specs.List.Sorted.{IsPartitionPoint}
use Rattle.std.proofs.lemmas.List.Sorted.{IsPartitionPoint-from_clause}
use Rattle.stars.proofs.Finding.{FoundAt, parted, found_at}
use Rattle.held_stars.proofs.lending.place_among.Goals as goal

pub returns-clause-parts : goal.returns-clause-parts
returns-clause-parts c = IsPartitionPoint-from_clause (λ s. nat_lt s.star.vertex c.args.vertex) c.args.near.now c.partition_point.result c.partition_point.ensures.partitioned (parted c.args.near.now c.args.vertex c.requires) (λ a r q k. search rules)

pub returns-clause-there : goal.returns-clause-there
returns-clause-there c = λ held.
    let near = c.args.near.now in
    let x = c.args.vertex in
    let place : IsPartitionPoint (λ s. nat_lt s.star.vertex x ≡ true) (λ s. nat_lt s.star.vertex x ≡ false) near c.partition_point.result = IsPartitionPoint-from_clause (λ s. nat_lt s.star.vertex x) near c.partition_point.result c.partition_point.ensures.partitioned (parted near x c.requires) (λ a r q k. search rules) in
    let f : FoundAt near x c.partition_point.result = found_at near x c.partition_point.result c.requires held c.partition_point.ensures.bound place in
    (f.within, f.there)
