-- How long the text of a complex and of a certificate behind it is.
use Rattle.std.proofs.Common.{◌≤◌, List, [], ◌∷◌, length, codes, length-append, arith}
use Rattle.std.specs.List.{flat_map}
use Rattle.std.specs.Fmt.{decimal}
use Rattle.std.proofs.lemmas.Fmt.{length-decimal-le}
use Rattle.complex_core.specs.Complexes.{ComplexView}
use Rattle.facet_text.specs.Writing as facet
use Rattle.cert_text.specs.Statements.{Sphere}
use Rattle.cert_text.specs.Writing.{text_of, flips_text, number_line, flip_line_text, AreFlips}
use Rattle.flip_rules.specs.declared.flip.Flip.{Flip}
use Rattle.sphere_text.proofs.Lengths.{certified_is_short, short_flips}
use Rattle.report_text.specs.Laws.{CertifiedIsShort}

short_certificate : (flips : List Flip) → AreFlips flips → length flips ≤ 2520000 → length (text_of (Sphere flips)) ≤ 216720100
unfolding text_of flips_text
short_certificate flips h l =
    let n : length (decimal (length flips)) ≤ 7 = length-decimal-le 7 (length flips) (omega arith) (omega arith) (omega (arith, l)) in
    omega (arith, n, l, short_flips flips h.sides, length-append (decimal (length flips)) (10 ∷ []), length-append (number_line (codes "flips") (length flips)) (flat_map flip_line_text flips))

-- with no flip behind it the text of the complex is within its bound
short_complex : (k : ComplexView) → facet.KeepsLimits k → length (facet.text_of k.facets) ≤ 4194304
short_complex k h =
    let none : AreFlips [] = record { few = omega arith; sides = tt } in
    omega (arith, certified_is_short k [] h none (omega arith), length-append (facet.text_of k.facets) (10 ∷ text_of (Sphere [])))

pub certificate_is_short : CertifiedIsShort
certificate_is_short k flips h good l =
    omega (arith, short_complex k h, short_certificate flips good l, length-append (facet.text_of k.facets) (10 ∷ text_of (Sphere flips)))
