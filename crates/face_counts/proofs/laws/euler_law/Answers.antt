use Rattle.face_counts.proofs.Numbers.{euler_law}
use Rattle.face_counts.proofs.laws.euler_law.Goals as goal

pub returns : goal.returns
returns c = euler_law
