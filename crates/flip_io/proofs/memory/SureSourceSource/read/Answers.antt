use Rattle.std.proofs.Common.{arith}
use Rattle.flip_io.proofs.Taken.{reads_on}
use Rattle.flip_io.proofs.memory.SureSourceSource.read.Goals as goal

pub returns-clause-bytes : goal.returns-clause-bytes
returns-clause-bytes c = reads_on c.self.inside.bytes.items c.deref.result.now c.args.self.now c.args.buf.now c.hand_out-count.new.buf c.self.inside.at c.hand_out-count.result 18446744073709551615 c.deref.ensures.value c.self.view_is c.hand_out-count.ensures (omega arith) (omega arith)
