-- The text of a complex and of a certificate behind it, of whatever kind, is read again.
use Rattle.std.proofs.Common.{◌≡◌, ℕ, ◌+◌, List, [], ◌∷◌, ◌++◌, length, drop, Ok, refl, sym, ◌∙◌, ap, append_assoc, length-append, arith}
use Rattle.std.proofs.lemmas.List.{drop_at}
use Rattle.complex_core.specs.Complexes.{ComplexView}
use Rattle.facet_text.specs.Grammar.{complex_at}
use Rattle.facet_text.specs.Lines.{Item, items_past, line_end}
use Rattle.facet_text.specs.Tokens.{has}
use Rattle.facet_text.specs.Writing as facet
use Rattle.facet_text.specs.Writing.{to_semicolon}
use Rattle.facet_text.proofs.Again.{read_again}
use Rattle.facet_text.proofs.LineLaws.{some_item}
use Rattle.line_text.specs.Numbers.{line_start}
use Rattle.line_text.proofs.Again.{feed_first}
use Rattle.cert_text.specs.Statements.{Statement, Sphere, Equal, Manifold}
use Rattle.cert_text.specs.Grammar.{certificate_at, header_at, body_at}
use Rattle.cert_text.specs.Readings.{◌>>=◌}
use Rattle.cert_text.specs.Writing.{text_of, KeepsLimits}
use Rattle.cert_text.proofs.Again.{certificate_again}
use Rattle.sphere_text.specs.Texts.{CertifiedIsRead}

-- ---- a line feed before a certificate is passed over

header_after_feed : (at : ℕ) (i : Item) (is : List Item) → header_at (line_end at ∷ i ∷ is) ≡ header_at (i ∷ is)
unfolding header_at line_start
header_after_feed at i is = refl

after_feed : (bytes rest : List ℕ) (from : ℕ) → drop from bytes ≡ 10 ∷ rest → drop (from + 1) bytes ≡ rest → certificate_at bytes from ≡ certificate_at bytes (from + 1)
unfolding certificate_at
after_feed bytes rest from here next =
    let more = some_item (from + 1) rest in
    ap (λ (bs : List ℕ). header_at (items_past 0 from bs) >>= λ k. body_at bytes k.0 k.1) here
    ∙ ap (λ (is : List Item). header_at is >>= λ k. body_at bytes k.0 k.1) (feed_first from rest ∙ ap (λ (is : List Item). line_end from ∷ is) more.2)
    ∙ ap (λ r. r >>= λ k. body_at bytes k.0 k.1) (header_after_feed from more.0 more.1)
    ∙ sym (ap (λ (is : List Item). header_at is >>= λ k. body_at bytes k.0 k.1) (ap (items_past 0 (from + 1)) next ∙ more.2))

-- ---- the whole

-- a certificate begins with no `;`
no_semicolon : (c : Statement) → to_semicolon (10 ∷ text_of c) ≡ 0
unfolding text_of has
no_semicolon (Sphere flips) = refl
no_semicolon (Equal target flips pairs) = refl
no_semicolon (Manifold lists) = refl

pub complex_again : (k : ComplexView) (c : Statement) → facet.KeepsLimits k → complex_at (facet.text_of k.facets ++ (10 ∷ text_of c)) 0 ≡ Ok (k, length (facet.text_of k.facets))
complex_again k c keeps =
    let after : List ℕ = 10 ∷ text_of c in
    let offset : length (facet.text_of k.facets) ≡ 0 + length (facet.text_of k.facets) + to_semicolon after = omega (arith, no_semicolon c) in
    read_again [] after k keeps ∙ ap (λ (p : ℕ). Ok (k, p)) (sym offset)

pub behind_complex : (k : ComplexView) (c : Statement) → KeepsLimits c → certificate_at (facet.text_of k.facets ++ (10 ∷ text_of c)) (length (facet.text_of k.facets)) ≡ Ok c
behind_complex k c good =
    let text : List ℕ = facet.text_of k.facets in
    let rest : List ℕ = text_of c in
    let fed : List ℕ = text ++ 10 ∷ [] in
    let bytes : List ℕ = text ++ (10 ∷ rest) in
    let whole : bytes ≡ fed ++ rest = sym (append_assoc text (10 ∷ []) rest) in
    let long : length text + 1 ≡ length fed = sym (length-append text (10 ∷ [])) in
    let here : drop (length text) bytes ≡ 10 ∷ rest = drop_at text (10 ∷ rest) (length text) refl in
    let next : drop (length text + 1) bytes ≡ rest = ap (drop (length text + 1)) whole ∙ drop_at fed rest (length text + 1) (sym long) in
    after_feed bytes rest (length text) here next
    ∙ ap (λ (bs : List ℕ). certificate_at bs (length text + 1)) whole
    ∙ ap (certificate_at (fed ++ rest)) long
    ∙ certificate_again fed c good

pub certified_is_read : CertifiedIsRead
certified_is_read k flips keeps good = record { offset = length (facet.text_of k.facets); complex = complex_again k (Sphere flips) keeps; certificate = behind_complex k (Sphere flips) good }
