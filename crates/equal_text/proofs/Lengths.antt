-- How long the text of a complex and of a certificate behind it is.
use Rattle.std.proofs.Common.{◌≡◌, ℕ, ◌+◌, ◌*◌, ◌≤◌, true, nat_le, List, [], ◌∷◌, ◌++◌, length, codes, length-append, arith}
use Rattle.std.specs.List.{AllByRecursion, flat_map}
use Rattle.std.specs.Cmp.{second_so}
use Rattle.std.specs.Fmt.{decimal}
use Rattle.std.proofs.lemmas.Bool.Decides.{nat_tests}
use Rattle.std.proofs.lemmas.Fmt.{length-decimal-le}
use Rattle.complex_core.specs.Complexes.{ComplexView}
use Rattle.facet_text.specs.Tokens.{between}
use Rattle.facet_text.specs.Writing as facet
use Rattle.line_text.specs.Writing.{HasSides, flip_text, spaced, set_off}
use Rattle.line_text.specs.Labels.{allows}
use Rattle.line_text.specs.declared.label.Labels.TheVariants.{UpTo}
use Rattle.cert_text.specs.Statements.{Sphere, Equal}
use Rattle.cert_text.specs.Writing.{text_of, flips_text, map_text, header_text, number_line, flip_line_text, pair_text, AreFlips, IsLabel, KeepsLimits}
use Rattle.flip_rules.specs.declared.flip.Flip.{Flip}
use Rattle.sphere_text.proofs.Lengths.{certified_is_short as sphere_is_short}
use Rattle.equal_text.specs.Texts.{AreFew, CertifiedIsShort}

short_number : (n : ℕ) → n ≤ 65000 → length (decimal n) ≤ 5
short_number n l = length-decimal-le 5 n (omega arith) (omega arith) (omega arith)

-- ---- flips

label_short : (n : ℕ) → allows (UpTo 65000) n ≡ true → length (decimal n) ≤ 5
unfolding allows
label_short n h =
    let t : nat_le n 65000 ≡ true = second_so (between 1 65535 n) (nat_le n 65000) h in
    let l : n ≤ 65000 = grind (arith, nat_tests) in
    short_number n l

short_side : (write : ℕ → List ℕ) (f : List ℕ) → ((n : ℕ) → length (write n) ≡ length (decimal n) + 1) → AllByRecursion (λ n. allows (UpTo 65000) n ≡ true) f → length (flat_map write f) ≤ 6 * length f
short_side write [] one h = omega arith
short_side write (n ∷ ns) one h = omega (arith, one n, label_short n h.0, short_side write ns one h.1, length-append (write n) (flat_map write ns))

short_flip : (f : Flip) → HasSides (UpTo 65000) f → length f.a + length f.b ≤ 8 → length (flip_line_text f) ≤ 50
unfolding flip_text
short_flip f h few =
    let first : length (flat_map spaced f.a) ≤ 6 * length f.a = short_side spaced f.a (λ n. length-append (decimal n) (32 ∷ [])) h.a.allowed in
    let second : length (flat_map set_off f.b) ≤ 6 * length f.b = short_side set_off f.b (λ n. omega arith) h.b.allowed in
    omega (arith, first, second, few, length-append (flat_map spaced f.a) (124 ∷ flat_map set_off f.b), length-append (flip_text f) (10 ∷ []))

short_flips : (flips : List Flip) → AllByRecursion (HasSides (UpTo 65000)) flips → AllByRecursion (λ f. length f.a + length f.b ≤ 8) flips → length (flat_map flip_line_text flips) ≤ 50 * length flips
short_flips [] h few = omega arith
short_flips (f ∷ fs) h few = omega (arith, short_flip f h.0 few.0, short_flips fs h.1 few.1, length-append (flip_line_text f) (flat_map flip_line_text fs))

-- ---- pairs

short_pair : (p : ℕ × ℕ) → IsLabel p.0 × IsLabel p.1 → length (pair_text p) ≤ 12
short_pair p h = omega (arith, short_number p.0 h.0.1, short_number p.1 h.1.1, length-append (decimal p.0) (32 ∷ decimal p.1 ++ 10 ∷ []), length-append (decimal p.1) (10 ∷ []))

short_pairs : (pairs : List (ℕ × ℕ)) → AllByRecursion (λ p. IsLabel p.0 × IsLabel p.1) pairs → length (flat_map pair_text pairs) ≤ 12 * length pairs
short_pairs [] h = omega arith
short_pairs (p ∷ ps) h = omega (arith, short_pair p h.0, short_pairs ps h.1, length-append (pair_text p) (flat_map pair_text ps))

-- ---- the whole

-- a number of at most seven digits behind a word, on a line
short_count : (name : List ℕ) (n : ℕ) → n ≤ 5040000 → length (number_line name n) ≤ length name + 9
short_count name n l =
    let digits : length (decimal n) ≤ 7 = length-decimal-le 7 n (omega arith) (omega arith) (omega (arith, l)) in
    omega (arith, digits, length-append name (32 ∷ decimal n ++ 10 ∷ []), length-append (decimal n) (10 ∷ []))

-- with no flip behind it, the text of a complex is within its bound
short_complex : (k : ComplexView) → facet.KeepsLimits k → length (facet.text_of k.facets) ≤ 4194304
short_complex k h =
    let none : AreFlips [] = record { few = omega arith; sides = tt } in
    omega (arith, sphere_is_short k [] h none (omega arith), length-append (facet.text_of k.facets) (10 ∷ text_of (Sphere [])))

short_list : (flips : List Flip) → AreFlips flips → length flips ≤ 5040000 → AllByRecursion (λ f. length f.a + length f.b ≤ 8) flips → length (flips_text flips) ≤ 252000014
unfolding flips_text
short_list flips good l few = omega (arith, l, short_flips flips good.sides few, short_count (codes "flips") (length flips) l, length-append (number_line (codes "flips") (length flips)) (flat_map flip_line_text flips))

short_map : (pairs : List (ℕ × ℕ)) → AllByRecursion (λ p. IsLabel p.0 × IsLabel p.1) pairs → length pairs ≤ 5121 → length (map_text pairs) ≤ 61464
unfolding map_text
short_map pairs h l = omega (arith, l, short_pairs pairs h, short_count (codes "map") (length pairs) (omega (arith, l)), length-append (number_line (codes "map") (length pairs)) (flat_map pair_text pairs))

short_certificate : (target : ComplexView) (flips : List Flip) (pairs : List (ℕ × ℕ)) → KeepsLimits (Equal target flips pairs) → AreFew flips pairs → length (text_of (Equal target flips pairs)) ≤ 256255801
unfolding text_of
short_certificate target flips pairs good few =
    let rest : List ℕ = flips_text flips ++ map_text pairs in
    omega (
      arith,
      short_complex target good.0,
      short_list flips good.1 few.few_flips few.few_labels,
      short_map pairs good.2.labels few.few_pairs,
      length-append (flips_text flips) (map_text pairs),
      length-append (facet.text_of target.facets) (10 ∷ rest),
      length-append (header_text (codes "equal")) (facet.text_of target.facets ++ (10 ∷ rest)),
    )

pub certified_is_short : CertifiedIsShort
certified_is_short k target flips pairs h good few =
    omega (arith, short_complex k h, short_certificate target flips pairs good few, length-append (facet.text_of k.facets) (10 ∷ text_of (Equal target flips pairs)))
