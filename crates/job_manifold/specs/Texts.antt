-- The texts that `manifold` answers. Each line ends with a line feed.
use Rattle.std.specs.Prelude.{ℕ, List, [], ◌∷◌, ◌++◌, codes}
use Rattle.std.specs.List.{flat_map}
use Rattle.complex_core.specs.Complexes.{ComplexView}
use Rattle.cert_text.specs.Statements.{OfVertex, Manifold}
use Rattle.cert_text.specs.Writing as cert
use Rattle.facet_text.specs.Writing as facet
use Rattle.line_text.specs.Writing.{set_off}
use Rattle.link_check.specs.declared.bad.BadLink.{BadLink}
use Rattle.link_check.specs.declared.bad.LinkFact.{LinkFact}
use Rattle.link_check.specs.declared.bad.LinkFact.TheVariants as fact
use Rattle.job_answer.specs.Lines.{euler_line, ridge_line}

-- a complex that isn't closed: a ridge, and in how many facets it lies
abbrev pub unclosed_text : List ℕ → ℕ → List ℕ
unclosed_text ridge count = codes "no" ++ (10 ∷ ridge_line ridge count)

-- what a link lacks: its Euler characteristic, or two facets of it that no chain joins
abbrev pub fact_line : LinkFact → List ℕ
fact_line (fact.Euler n) = euler_line n
fact_line (fact.Split a) = codes "apart" ++ (flat_map set_off a.first ++ (codes " |" ++ (flat_map set_off a.other ++ 10 ∷ [])))

-- a face, and what its link lacks
abbrev pub link_line : BadLink → List ℕ
link_line bad = codes "link" ++ (flat_map set_off bad.face ++ (32 ∷ fact_line bad.fact))

abbrev pub bad_text : BadLink → List ℕ
bad_text bad = codes "no" ++ (10 ∷ link_line bad)

-- the certificate with these lists
abbrev pub found_text : List OfVertex → List ℕ
found_text lists = codes "yes" ++ (10 ∷ cert.text_of (Manifold lists))

-- the vertices whose links no search led to the boundary of a simplex
abbrev pub open_text : List ℕ → List ℕ
open_text vertices = codes "undecided" ++ (10 ∷ codes "open" ++ (flat_map set_off vertices ++ 10 ∷ []))

-- the complex on a line, and the certificate with these lists
abbrev pub certified : ComplexView → List OfVertex → List ℕ
certified k lists = facet.text_of k.facets ++ (10 ∷ cert.text_of (Manifold lists))
