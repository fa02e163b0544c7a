use Rattle.std.proofs.Common.{vec_capacity, ap, length, arith}
use Rattle.complex_core.proofs.Exchanges.{both_fit}
use Rattle.stars.proofs.candidate_lists.Candidates.decide.Goals as goal

pub put_all_in-requires-clause-room : goal.put_all_in-requires-clause-room
put_all_in-requires-clause-room c = both_fit c.reserve.new.self.items c.deref.result.now (vec_capacity c.reserve.new.self) (omega (arith, c.reserve.new.self.ok.0, ap length c.deref.ensures.value, c.in_ok-more.more.ok.0, c.len.ensures, c.in_ok-reserve.ensures.ok))
