-- What the definitions of faces and of the Euler characteristic mean.
use Rattle.std.specs.Prelude.{◌≡◌, ◌+◌}
use Rattle.complex_core.specs.Complexes.{ComplexView, IsComplex}
use Rattle.face_counts.specs.Faces.{faces, AreFaces}
use Rattle.face_counts.specs.Eulers.{euler, alternating}

abbrev pub FacesLaw : Type 0
FacesLaw = (k : ComplexView) → IsComplex k → AreFaces k (faces k.facets)

-- the Euler characteristic is the sum of (-1)^j f_j for j from 0 to the dimension
abbrev pub EulerLaw : Type 0
EulerLaw = (k : ComplexView) → IsComplex k → euler k.facets ≡ alternating (faces k.facets) (k.dim + 1)
