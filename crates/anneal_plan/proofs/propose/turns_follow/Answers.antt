use Rattle.anneal_plan.proofs.Turning.{turns_start, turns_go_on, turns_stop, turns_end, turns_split, turns_are_few, turns_have_vertex}
use Rattle.anneal_plan.proofs.propose.turns_follow.Goals as goal

pub returns : goal.returns
returns c = record {
  start = turns_start;
  on = turns_go_on;
  stop = turns_stop;
  end = turns_end;
  split = turns_split;
  few = turns_are_few;
  vertex = turns_have_vertex;
}
