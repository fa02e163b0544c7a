use Rattle.std.proofs.Common.{◌≡◌, ◌+◌, ◌∙◌, sym, ap, length, arith, w64, to_z}
use Rattle.face_counts.specs.Faces.{faces}
use Rattle.face_counts.specs.Eulers.{alternating}
use Rattle.face_counts.proofs.Sums.{NextSum, length-numbers, one_more}
use Rattle.face_counts.proofs.Numbers.{euler_law}
use Rattle.face_counts.proofs.count.euler_from.Goals as goal

next : (c : goal.After-signed-sum) → NextSum (faces c.args.complex.now.facets) c.loop-j.j (to_z w64 c.loop-j.sum-bits) c.signed-sum.result
next c =
    let k = c.args.complex.now in
    one_more (faces k.facets) c.args.counts.now (k.dim + 1) c.loop-j.j (to_z w64 c.loop-j.sum-bits) c.signed-sum.result c.requires.counts (omega (arith, c.dim.ensures.complex.low)) c.loop-j-test.true c.requires.small c.loop-j.invariant.sums c.loop-j.invariant.low c.loop-j.invariant.high c.signed-sum.ensures

pub overflow_add-sum : goal.overflow_add-sum
overflow_add-sum c = (next c).fits

pub loop-j-preserved : goal.loop-j-preserved
loop-j-preserved c = let s = next c in record { sums = s.sums; low = s.low; high = s.high }

pub returns-clause-sum : goal.returns-clause-sum
returns-clause-sum c =
    let long : length c.args.counts.now ≡ c.args.complex.now.dim + 1 = ap length c.requires.counts ∙ length-numbers (faces c.args.complex.now.facets) (c.args.complex.now.dim + 1) in
    let end : c.loop-j.j ≡ c.args.complex.now.dim + 1 = omega (arith, long, c.loop-j-test.false, c.loop-j.auto.j-end) in
    c.loop-j.invariant.sums ∙ ap (alternating (faces c.args.complex.now.facets)) end

pub returns-clause-total : goal.returns-clause-total
returns-clause-total c = returns-clause-sum c ∙ sym (euler_law c.args.complex.now c.dim.ensures.complex)
