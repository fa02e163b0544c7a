use Rattle.flip_names.proofs.Staying.{reducing_flips_taken}
use Rattle.flip_names.proofs.laws.reducing_flips_stay.Goals as goal

pub returns : goal.returns
returns c = reducing_flips_taken
