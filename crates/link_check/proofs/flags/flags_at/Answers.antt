use Rattle.std.proofs.Common.{◌-◌, length, take, drop, rules}
use Rattle.std.proofs.lemmas.List.Sorted.{IsPartitionPoint-from_clause}
use Rattle.pseudo_test.proofs.Incident.{tail_rest}
use Rattle.link_check.proofs.Flagged.{before, up_to, parted_before, parted_up_to, run_between, rest_rises}
use Rattle.link_check.proofs.flags.flags_at.Goals as goal

pub returns : goal.returns
returns c =
    let xs = c.args.flags.now in
    let r = c.args.face.now in
    let rest = take (length xs - c.partition_point-start.result) (drop c.partition_point-start.result xs) in
    let start = IsPartitionPoint-from_clause (before r) xs c.partition_point-start.result c.partition_point-start.ensures.partitioned (parted_before r xs c.requires) (λ a r q k. search rules) in
    let end = IsPartitionPoint-from_clause (up_to r) rest c.partition_point-end.result c.partition_point-end.ensures.partitioned (parted_up_to r rest (rest_rises xs c.partition_point-start.result c.requires)) (λ a r q k. search rules) in
    run_between r xs rest c.partition_point-start.result c.partition_point-end.result start (tail_rest xs c.partition_point-start.result) end
