use Rattle.std.proofs.Common.{◌≡◌, nat_lt, true, false, rules}
use Rattle.std.specs.List.Sorted.{IsPartitionPoint}
use Rattle.std.proofs.lemmas.List.Sorted.{IsPartitionPoint-from_clause}
use Rattle.stars.proofs.Finding.{FoundAt, parted, found_at}
use Rattle.stars.proofs.rows.place_of.Goals as goal

pub returns : goal.returns
returns c =
    let near = c.args.near.now in
    let x = c.args.vertex in
    let place : IsPartitionPoint (λ s. nat_lt s.star.vertex x ≡ true) (λ s. nat_lt s.star.vertex x ≡ false) near c.partition_point.result = IsPartitionPoint-from_clause (λ s. nat_lt s.star.vertex x) near c.partition_point.result c.partition_point.ensures.partitioned (parted near x c.requires.rising) (λ a r q k. search rules) in
    let f : FoundAt near x c.partition_point.result = found_at near x c.partition_point.result c.requires.rising c.requires.held c.partition_point.ensures.bound place in
    record { within = f.within; there = f.there }
