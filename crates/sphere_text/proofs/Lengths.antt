-- How long the texts are.
use Rattle.std.proofs.Common.{◌≡◌, ℕ, ◌+◌, ◌*◌, ◌≤◌, true, nat_le, List, [], ◌∷◌, length, map, codes, length-append, arith}
use Rattle.std.proofs.lemmas.List.{length-map}
use Rattle.std.specs.List.{AllByRecursion, flat_map, join_with_byte}
use Rattle.std.specs.Cmp.{second_so}
use Rattle.std.specs.Fmt.{decimal}
use Rattle.std.proofs.lemmas.Bool.Decides.{nat_tests}
use Rattle.std.proofs.lemmas.Fmt.{length-decimal-le}
use Rattle.std.proofs.Math.Nat.{mul-suc}
use Rattle.complex_core.specs.Complexes.{ComplexView, IsFacet}
use Rattle.facet_text.specs.Tokens.{between}
use Rattle.facet_text.specs.Writing as facet
use Rattle.facet_text.specs.Writing.{bracketed, facet_text}
use Rattle.line_text.specs.Writing.{HasSides, flip_text, spaced, set_off}
use Rattle.line_text.specs.Labels.{allows}
use Rattle.line_text.specs.declared.label.Labels.TheVariants.{UpTo}
use Rattle.cert_text.specs.Statements.{Sphere}
use Rattle.cert_text.specs.Writing.{text_of, flips_text, number_line, flip_line_text, AreFlips}
use Rattle.flip_rules.specs.declared.flip.Flip.{Flip}
use Rattle.sphere_text.specs.Texts.{CertifiedIsShort}

short_number : (n : ℕ) → n ≤ 65000 → length (decimal n) ≤ 5
short_number n l = length-decimal-le 5 n (omega arith) (omega arith) (omega arith)

-- ---- pieces in brackets

-- each piece is at most so long
abbrev AreShort : ℕ → List (List ℕ) → Type 0
AreShort most pieces = AllByRecursion (λ p. length p ≤ most) pieces

joined : (most : ℕ) (pieces : List (List ℕ)) → AreShort most pieces → length (join_with_byte 44 pieces) ≤ (most + 1) * length pieces
joined most [] h = omega arith
joined most (p ∷ []) h = omega (arith, h.0, mul-suc (most + 1) 0)
joined most (p ∷ q ∷ ps) h =
    omega (arith, h.0, joined most (q ∷ ps) h.1, mul-suc (most + 1) (length (q ∷ ps)), length-append p (44 ∷ join_with_byte 44 (q ∷ ps)))

in_brackets : (most : ℕ) (pieces : List (List ℕ)) → AreShort most pieces → length (bracketed pieces) ≤ (most + 1) * length pieces + 2
in_brackets most pieces h = omega (arith, joined most pieces h, length-append (join_with_byte 44 pieces) (93 ∷ []))

-- ---- complexes

short_labels : (f : List ℕ) → AllByRecursion (λ n. n ≤ 60000) f → AreShort 5 (map decimal f)
short_labels [] h = tt
short_labels (n ∷ ns) h = (short_number n (omega (arith, h.0)), short_labels ns h.1)

short_facet : (d : ℕ) (f : List ℕ) → d ≤ 6 → IsFacet d f → AllByRecursion (λ n. n ≤ 60000) f → length (facet_text f) ≤ 44
short_facet d f l i h = omega (arith, in_brackets 5 (map decimal f) (short_labels f h), length-map f decimal, i.size, l)

short_facets : (d : ℕ) (fs : List (List ℕ)) → d ≤ 6 → AllByRecursion (IsFacet d) fs → AllByRecursion (λ f. AllByRecursion (λ n. n ≤ 60000) f) fs → AreShort 44 (map facet_text fs)
short_facets d [] l i h = tt
short_facets d (f ∷ fs) l i h = (short_facet d f l i.0 h.0, short_facets d fs l i.1 h.1)

short_complex : (k : ComplexView) → facet.KeepsLimits k → length (facet.text_of k.facets) ≤ 900002
unfolding facet.text_of
short_complex k h =
    omega (arith, in_brackets 44 (map facet_text k.facets) (short_facets k.dim k.facets h.complex.low h.complex.pure h.small), length-map k.facets facet_text, h.few_facets)

-- ---- flips

label_low : (n : ℕ) → allows (UpTo 65000) n ≡ true → n ≤ 65000
unfolding allows
label_low n h = let t : nat_le n 65000 ≡ true = second_so (between 1 65535 n) (nat_le n 65000) h in grind (arith, nat_tests)

short_spaced : (f : List ℕ) → AllByRecursion (λ n. allows (UpTo 65000) n ≡ true) f → length (flat_map spaced f) ≤ 6 * length f
short_spaced [] h = omega arith
short_spaced (n ∷ ns) h = omega (arith, short_number n (label_low n h.0), short_spaced ns h.1, length-append (decimal n) (32 ∷ []), length-append (spaced n) (flat_map spaced ns))

short_set_off : (f : List ℕ) → AllByRecursion (λ n. allows (UpTo 65000) n ≡ true) f → length (flat_map set_off f) ≤ 6 * length f
short_set_off [] h = omega arith
short_set_off (n ∷ ns) h = omega (arith, short_number n (label_low n h.0), short_set_off ns h.1, length-append (set_off n) (flat_map set_off ns))

pub short_flip : (f : Flip) → HasSides (UpTo 65000) f → length (flip_line_text f) ≤ 86
unfolding flip_text
short_flip f h =
    omega (arith, short_spaced f.a h.a.allowed, short_set_off f.b h.b.allowed, h.a.high, h.b.high, length-append (flat_map spaced f.a) (124 ∷ flat_map set_off f.b), length-append (flip_text f) (10 ∷ []))

pub short_flips : (flips : List Flip) → AllByRecursion (HasSides (UpTo 65000)) flips → length (flat_map flip_line_text flips) ≤ 86 * length flips
short_flips [] h = omega arith
short_flips (f ∷ fs) h = omega (arith, short_flip f h.0, short_flips fs h.1, length-append (flip_line_text f) (flat_map flip_line_text fs))

short_certificate : (flips : List Flip) → AreFlips flips → length flips ≤ 20000 → length (text_of (Sphere flips)) ≤ 1720100
unfolding text_of flips_text
short_certificate flips h l =
    let n : length (decimal (length flips)) ≤ 5 = short_number (length flips) (omega arith) in
    omega (arith, n, l, short_flips flips h.sides, length-append (decimal (length flips)) (10 ∷ []), length-append (number_line (codes "flips") (length flips)) (flat_map flip_line_text flips))

pub certified_is_short : CertifiedIsShort
certified_is_short k flips h good l =
    omega (arith, short_complex k h, short_certificate flips good l, length-append (facet.text_of k.facets) (10 ∷ text_of (Sphere flips)))
