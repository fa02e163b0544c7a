-- The text of a certificate: what it holds, or the first fault from left to right.
use Rattle.std.specs.Prelude.{◌==◌, ℕ, List, [], ◌∷◌, Option, Some, None, Result, Ok, Err, codes, if◌then◌else◌}
use Rattle.std.specs.Str.{bytes_eq}
use Rattle.complex_core.specs.Maps.{pair_cmp}
use Rattle.complex_core.specs.Rising.{rising}
use Rattle.complex_core.specs.Complexes.{ComplexView}
use Rattle.facet_text.specs.Grammar as facet
use Rattle.facet_text.specs.Grammar.{complex_at}
use Rattle.facet_text.specs.Lines.{Item, items, line_end, word}
use Rattle.flip_rules.specs.declared.flip.Flip.{Flip}
use Rattle.line_text.specs.Numbers.{begins_with_digit, line_start, number_at}
use Rattle.cert_text.specs.declared.fault.CertFault.{CertFault}
use Rattle.cert_text.specs.declared.fault.CertFault.TheVariants as fault
use Rattle.cert_text.specs.declared.read.Kind.{Kind}
use Rattle.cert_text.specs.declared.read.Kind.TheVariants as kind
use Rattle.cert_text.specs.Statements.{Statement, OfVertex, Sphere, Equal, Manifold}
use Rattle.cert_text.specs.Readings.{Reading, ◌>>=◌, of_line, so_many}
use Rattle.cert_text.specs.Lines.{counted, ended, flip_line, is_vertex, none_more, nothing_left, pair_line, stated, vertex_at, word_at}

-- the version is 1
abbrev pub version_of : Option ℕ × ℕ × List Item → Result (List Item) CertFault
version_of (Some n, at, is) = if n == 1 then Ok is else Err (fault.Syntax at)
version_of (None, at, is) = Err (fault.Syntax at)

unfoldable pub version_at : List Item → Result (List Item) CertFault
version_at is = of_line (number_at is) >>= version_of

-- the kind that a word names
abbrev pub kind_of : List ℕ → Option Kind
kind_of text =
    if bytes_eq text (codes "sphere") then Some kind.Sphere
    else if bytes_eq text (codes "equal") then Some kind.Equal
    else if bytes_eq text (codes "manifold") then Some kind.Manifold
    else None

abbrev pub kind_then : Option Kind → ℕ → List Item → Reading Kind
kind_then (Some k) at is = Ok (k, is)
kind_then None at is = Err (fault.Syntax at)

unfoldable pub kind_at : List Item → Reading Kind
kind_at [] = Err (fault.Syntax 0)
kind_at (line_end at ∷ is) = Err (fault.Syntax at)
kind_at (word text at ∷ is) = kind_then (kind_of text) at is

-- `bistellar 1` and a kind
unfoldable pub header_at : List Item → Reading Kind
header_at is =
    word_at (codes "bistellar") (line_start is) >>= λ js.
    version_at js >>= λ ks.
    kind_at ks >>= λ k.
    ended k.1 >>= λ ls.
    Ok (k.0, ls)

-- `flips N`, and N lines of flips
unfoldable pub flips_at : List Item → Reading (List Flip)
flips_at is =
    stated (codes "flips") is >>= λ n.
    so_many flip_line n.0 [] n.1 >>= λ flips.
    none_more begins_with_digit (line_start flips.1) >>= λ _.
    Ok flips

-- `map M`, and M lines of pairs
unfoldable pub map_at : List Item → Reading (List (ℕ × ℕ))
map_at is =
    stated (codes "map") is >>= λ n.
    so_many pair_line n.0 [] n.1 >>= λ pairs.
    none_more begins_with_digit (line_start pairs.1) >>= λ _.
    Ok (rising pair_cmp pairs.0, pairs.1)

-- `vertex V`, and its flips
unfoldable pub vertex_part : List OfVertex → List Item → Reading OfVertex
vertex_part before is =
    counted is_vertex vertex_at (line_start is) >>= λ vertex.
    flips_at vertex.1 >>= λ flips.
    Ok ((vertex.0, flips.0), flips.1)

-- `vertices M`, and M vertices
unfoldable pub vertices_at : List Item → Reading (List OfVertex)
vertices_at is =
    stated (codes "vertices") is >>= λ n.
    so_many vertex_part n.0 [] n.1 >>= λ vertices.
    none_more is_vertex (line_start vertices.1) >>= λ _.
    Ok vertices

-- the complex that begins at the end of this line, whose fault is the target's
abbrev pub target_of : List ℕ → facet.Reading → Reading ComplexView
target_of bytes (Ok x) = Ok (x.0, items bytes x.1)
target_of bytes (Err e) = Err (fault.Target e)

unfoldable pub target_at : List ℕ → List Item → Reading ComplexView
target_at bytes [] = Err (fault.Syntax 0)
target_at bytes (line_end at ∷ is) = target_of bytes (complex_at bytes at)
target_at bytes (word text at ∷ is) = Err (fault.Syntax at)

unfoldable pub sphere_at : List Item → Result Statement CertFault
sphere_at is =
    flips_at is >>= λ flips.
    nothing_left (line_start flips.1) >>= λ _.
    Ok (Sphere flips.0)

unfoldable pub equal_at : List ℕ → List Item → Result Statement CertFault
equal_at bytes is =
    target_at bytes is >>= λ target.
    flips_at target.1 >>= λ flips.
    map_at flips.1 >>= λ pairs.
    nothing_left (line_start pairs.1) >>= λ _.
    Ok (Equal target.0 flips.0 pairs.0)

unfoldable pub manifold_at : List Item → Result Statement CertFault
manifold_at is =
    vertices_at is >>= λ vertices.
    nothing_left (line_start vertices.1) >>= λ _.
    Ok (Manifold vertices.0)

unfoldable pub body_at : List ℕ → Kind → List Item → Result Statement CertFault
body_at bytes kind.Sphere is = sphere_at is
body_at bytes kind.Equal is = equal_at bytes is
body_at bytes kind.Manifold is = manifold_at is

-- The certificate that the input spells from an offset to its end, or the first fault.
unfoldable pub certificate_at : List ℕ → ℕ → Result Statement CertFault
certificate_at bytes from = header_at (items bytes from) >>= λ k. body_at bytes k.0 k.1
