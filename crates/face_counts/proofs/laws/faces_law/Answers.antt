use Rattle.face_counts.proofs.Parts.{faces_law}
use Rattle.face_counts.proofs.laws.faces_law.Goals as goal

pub returns : goal.returns
returns c = faces_law
