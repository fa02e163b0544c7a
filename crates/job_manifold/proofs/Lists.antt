-- The lists of a manifold keep the limits of the text of a certificate, and are one.
use Rattle.std.proofs.Common.{◌≡◌, ℕ, ◌<◌, ◌≤◌, true, List, [], ◌∷◌, length, map, Some, Ok, refl, sym, ◌∙◌, ap, subst, arith}
use Rattle.std.specs.List.{AllByRecursion}
use Rattle.std.proofs.lemmas.Bool.Decides.{nat_tests}
use Rattle.std.proofs.lemmas.List.{length-map}
use Rattle.complex_core.specs.Labels.{IsFace}
use Rattle.complex_core.specs.Complexes.{ComplexView}
use Rattle.complex_core.proofs.Members.{each_member, label_low}
use Rattle.facet_text.specs.Writing.{KeepsLimits}
use Rattle.line_text.specs.Labels.{allows}
use Rattle.line_text.specs.Writing.{IsSide, HasSides}
use Rattle.line_text.specs.declared.label.Labels.TheVariants.{UpTo}
use Rattle.cert_text.specs.Statements.{OfVertex, Manifold}
use Rattle.cert_text.specs.Writing.{AreFlips, AreVertices, IsLabel}
use Rattle.flip_rules.specs.Flips.{OfFaces, Legal, broken_rule, flipped, replay}
use Rattle.flip_rules.specs.declared.flip.Flip.{Flip}
use Rattle.flip_rules.proofs.Legal.{legal}
use Rattle.flip_rules.proofs.Replays.{first_flip}
use Rattle.sphere_search.specs.Searches.{FlipAtMost}
use Rattle.link_check.specs.LinkSearches.{ShowsLink, ShowsLinks}
use Rattle.link_check.specs.Vertices.{vertex_link}
use Rattle.cert_replay.specs.Answers.{ManifoldCert, ShowsLink as CertifiesLink}
use Rattle.job_replay.specs.Answers.{TellsCertified}
use Rattle.job_replay.specs.Readings.{behind, stated}
use Rattle.job_manifold.specs.Texts.{certified, found_text}
use Rattle.job_manifold.specs.Answers.{IsCertificate}
use Rattle.job_manifold.proofs.Limits.{few_facets, used_labels}
use Rattle.job_manifold.proofs.ReadAgain.{IsReadAgain, certified_is_read}

-- ---- the flips of a link

abbrev Allowed : ℕ → Type 0
Allowed n = allows (UpTo 65000) n ≡ true

allowed : (n : ℕ) → 0 < n → n ≤ 61025 → Allowed n
unfolding allows
allowed n low high = grind (arith, nat_tests)

all_allowed : (g : List ℕ) → AllByRecursion (λ x. 0 < x) g → AllByRecursion (λ x. x ≤ 61025) g → AllByRecursion Allowed g
all_allowed [] low high = tt
all_allowed (n ∷ ns) low high = (allowed n low.0 high.0, all_allowed ns low.1 high.1)

side_fits : (g : List ℕ) → IsFace g → 0 < length g → length g ≤ 7 → AllByRecursion (λ x. x ≤ 61025) g → IsSide (UpTo 65000) g
side_fits g f some few small = record { low = some; high = few; rising = f.rising; allowed = all_allowed g (each_member (λ x. 0 < x) g (λ x t. label_low g x f t)) small }

flip_fits : (k : ComplexView) (f : Flip) → k.dim ≤ 6 → OfFaces f → FlipAtMost 61025 f → Legal k f.a f.b → HasSides (UpTo 65000) f
flip_fits k f d faces small l = record {
  a = side_fits f.a faces.first (omega (arith, l.shape.first)) (omega (arith, l.shape.second, l.shape.sizes, d)) small.first;
  b = side_fits f.b faces.second (omega (arith, l.shape.second)) (omega (arith, l.shape.first, l.shape.sizes, d)) small.second;
}

sides_fit : (k end : ComplexView) (flips : List Flip) → k.dim ≤ 6 → AllByRecursion OfFaces flips → AllByRecursion (FlipAtMost 61025) flips → replay k flips ≡ Some end → AllByRecursion (HasSides (UpTo 65000)) flips
sides_fit k end [] d faces small r = tt
sides_fit k end (f ∷ fs) d faces small r =
    let p : (broken_rule k f.a f.b ≡ Ok tt) × (replay (flipped k f.a f.b) fs ≡ Some end) = first_flip k end f fs r in
    (flip_fits k f d faces.0 small.0 (legal k f.a f.b p.0), sides_fit (flipped k f.a f.b) end fs d faces.1 small.1 p.1)

flips_fit : (k : ComplexView) (p : OfVertex) → KeepsLimits k → ShowsLink k p.0 p.1 → AreFlips p.1
flips_fit k p h s = record {
  few = omega (arith, s.few, few_facets k p.0, h.few_facets);
  sides = sides_fit (vertex_link k p.0) s.leads.end p.1 (omega (arith, h.complex.low)) s.faces s.labels s.leads.replays;
}

-- ---- the lists

all_fit : (k : ComplexView) (lists : List OfVertex) → KeepsLimits k → AllByRecursion (λ p. ShowsLink k p.0 p.1) lists → AllByRecursion (λ v. AreFlips v.1) lists
all_fit k [] h s = tt
all_fit k (p ∷ ps) h s = (flips_fit k p h s.0, all_fit k ps h s.1)

own_labels : (lists : List OfVertex) → AllByRecursion IsLabel (map (λ p. p.0) lists) → AllByRecursion (λ v. IsLabel v.0) lists
own_labels [] h = tt
own_labels (p ∷ ps) h = (h.0, own_labels ps h.1)

lists_fit : (k : ComplexView) (lists : List OfVertex) → KeepsLimits k → ShowsLinks k lists → AreVertices lists
lists_fit k lists h s = record {
  few = omega (arith, length-map lists (λ p. p.0), ap length s.vertices, h.few_labels);
  labels = let P : List ℕ → Type 0 = λ xs. AllByRecursion IsLabel xs in own_labels lists (subst P (sym s.vertices) (used_labels k h));
  flips = all_fit k lists h s.links;
}

all_certify : (k : ComplexView) (lists : List OfVertex) → AllByRecursion (λ p. ShowsLink k p.0 p.1) lists → AllByRecursion (CertifiesLink k) lists
all_certify k [] s = tt
all_certify k (p ∷ ps) s = (s.0.leads, all_certify k ps s.1)

lists_certify : (k : ComplexView) (lists : List OfVertex) → ShowsLinks k lists → ManifoldCert k lists
lists_certify k lists s = record { vertices = s.vertices; links = all_certify k lists s.links }

-- ---- the certificate

abbrev certified_tells : (k : ComplexView) (lists : List OfVertex) → KeepsLimits k → ShowsLinks k lists → length (certified k lists) ≤ 268435456 → TellsCertified (certified k lists)
certified_tells k lists h s short =
    let r : IsReadAgain k lists = certified_is_read k lists h (lists_fit k lists h s) in
    record {
      short = short;
      start = k;
      statement = Manifold lists;
      input = ap (behind (certified k lists)) r.complex ∙ ap (stated k) r.certificate;
      shows = lists_certify k lists s;
    }

pub is_certificate : (k : ComplexView) (lists : List OfVertex) (xs : List ℕ) → KeepsLimits k → ShowsLinks k lists → xs ≡ found_text lists → IsCertificate k lists xs
is_certificate k lists xs h s says = record {
  says = says;
  shows = lists_certify k lists s;
  valid = λ short. (certified_tells k lists h s short, refl, refl);
}
