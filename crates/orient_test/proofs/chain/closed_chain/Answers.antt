use Rattle.std.proofs.Common.{◌∙◌, ◌++◌}
use Rattle.orient_test.proofs.Chains.{clash_made}
use Rattle.orient_test.proofs.chain.closed_chain.Goals as goal

pub returns : goal.returns
returns c facets t d = clash_made c.args.reached.now c.args.there c.args.back c.in_ok-chain.chain.items c.in_ok-rest.rest.items c.extend_from_slice.new.self.items facets t (c.in_ok-chain.ensures facets t) (c.in_ok-rest.ensures facets t) (c.in_ok-extend_from_slice.ensures.items ∙ (λ i. c.reverse.ensures.items i ++ c.deref.ensures.value i)) d
