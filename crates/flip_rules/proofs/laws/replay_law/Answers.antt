use Rattle.flip_rules.proofs.Replays.{replay-append, keeps_complexes, replays_back, decides_replay, never_both, first_is_one}
use Rattle.flip_rules.proofs.laws.replay_law.Goals as goal

pub returns-clause-goes_on : goal.returns-clause-goes_on
returns-clause-goes_on c = replay-append

pub returns-clause-keeps : goal.returns-clause-keeps
returns-clause-keeps c = keeps_complexes

pub returns-clause-decides : goal.returns-clause-decides
returns-clause-decides c = decides_replay

pub returns-clause-excludes : goal.returns-clause-excludes
returns-clause-excludes c = never_both

pub returns-clause-one : goal.returns-clause-one
returns-clause-one c = first_is_one

pub returns-clause-back : goal.returns-clause-back
returns-clause-back c = replays_back
