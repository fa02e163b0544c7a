use Rattle.std.proofs.Common.{◌≡◌, ◌++◌, map, take, string_bytes}
use Rattle.std.specs.List.{flat_map}
use Rattle.line_text.specs.Writing.{set_off}
use Rattle.job_manifold.proofs.text.write_vertices.Given as goal

abbrev pub invariant-loop-record : goal.invariant-loop-record
invariant-loop-record l = string_bytes l.text ≡ string_bytes l.fn.text ++ flat_map set_off (map (λ p. p.0) (take l.record-index l.left))
