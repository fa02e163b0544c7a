use Rattle.flip_names.proofs.Flips.{broken_rule_commutes, flip_commutes, flip_stays_taken}
use Rattle.flip_names.proofs.Faces.{sizes_are_kept}
use Rattle.flip_names.proofs.Back.{renaming_is_undone}
use Rattle.flip_names.proofs.Boundaries.{boundary_is_kept}
use Rattle.flip_names.proofs.Replays.{replay_commutes, replay_stays_taken, replay_is_kept, certificate_is_kept}
use Rattle.flip_names.proofs.FirstIllegals.{first_illegal_is_kept}
use Rattle.flip_names.proofs.laws.renaming_law.Goals as goal

pub returns-clause-broken_rule : goal.returns-clause-broken_rule
returns-clause-broken_rule c = broken_rule_commutes

pub returns-clause-flipped : goal.returns-clause-flipped
returns-clause-flipped c = flip_commutes

pub returns-clause-taken : goal.returns-clause-taken
returns-clause-taken c = flip_stays_taken

pub returns-clause-replay : goal.returns-clause-replay
returns-clause-replay c = replay_commutes

pub returns-clause-end : goal.returns-clause-end
returns-clause-end c = replay_stays_taken

pub returns-clause-leads : goal.returns-clause-leads
returns-clause-leads c = replay_is_kept

pub returns-clause-boundary : goal.returns-clause-boundary
returns-clause-boundary c = boundary_is_kept

pub returns-clause-certificate : goal.returns-clause-certificate
returns-clause-certificate c = certificate_is_kept

pub returns-clause-illegal : goal.returns-clause-illegal
returns-clause-illegal c = first_illegal_is_kept

pub returns-clause-sizes : goal.returns-clause-sizes
returns-clause-sizes c = sizes_are_kept

pub returns-clause-back : goal.returns-clause-back
returns-clause-back c = renaming_is_undone
