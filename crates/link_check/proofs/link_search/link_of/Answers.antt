use Rattle.link_check.proofs.LinkSearching.{vertex_fits, vertex_flags_rise}
use Rattle.link_check.proofs.link_search.link_of.Goals as goal

pub unreachable-requires : goal.unreachable-requires
unreachable-requires c = c.in_default.ensures (vertex_fits c.requires.0 c.args.vertex c.args.flags.now c.new.result c.requires.1 c.new.ensures)

pub flags_at-requires : goal.flags_at-requires
flags_at-requires c = vertex_flags_rise c.requires.0 c.args.vertex c.args.flags.now c.requires.1
