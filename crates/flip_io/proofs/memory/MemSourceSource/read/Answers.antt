use Rattle.std.proofs.Common.{ap, arith}
use Rattle.flip_io.proofs.Taken.{reads_on}
use Rattle.flip_io.specs.Supplies.{Supply}
use Rattle.flip_io.proofs.memory.MemSourceSource.read.Goals as goal

pub returns-clause-bytes : goal.returns-clause-bytes
returns-clause-bytes c = reads_on c.self.inside.bytes.items c.deref-2.result.now c.args.self.now.bytes c.args.buf.now c.hand_out-count.new.buf c.self.inside.at c.hand_out-count.result c.self.inside.piece c.deref-2.ensures.value (ap (λ (s : Supply). s.bytes) c.self.view_is) c.hand_out-count.ensures (omega arith) (omega arith)
