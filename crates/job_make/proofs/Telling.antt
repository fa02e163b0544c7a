-- The line of a complex that keeps the limits is read again.
use Rattle.std.proofs.Common.{◌≡◌, ℕ, true, nat_eq, ◌+◌, ◌≤◌, ◌<◌, List, [], ◌∷◌, ◌++◌, length, Ok, sym, ◌∙◌, ap, refl, subst, arith}
use Rattle.std.proofs.lemmas.List.{drop_at}
use Rattle.std.specs.List.{AllByRecursion}
use Rattle.std.specs.Prelude.{◌↔◌, IsTrue}
use Rattle.std.specs.Cmp.Lexicographic.{pointwise}
use Rattle.complex_core.specs.Complexes.{ComplexView, IsComplex}
use Rattle.complex_core.specs.Maps.{used}
use Rattle.complex_core.proofs.Laws.{listed, or_left, or_right, same_set_itself}
use Rattle.complex_core.proofs.Members.{each_member}
use Rattle.facet_text.specs.Grammar.{complex_at}
use Rattle.facet_text.specs.Tokens.{tokens_past, has as is_of}
use Rattle.facet_text.specs.Writing.{KeepsLimits, text_of, to_semicolon}
use Rattle.facet_text.proofs.Again.{read_again}
use Rattle.job_answer.specs.Alone.{alone, complex_of, ended}
use Rattle.job_answer.specs.Lines.{complex_line}
use Rattle.face_counts.specs.Eulers as eulers
use Rattle.pseudo_test.specs.Ridges.{Closed}
use Rattle.pseudo_test.specs.Chains.{StronglyConnected}
use Rattle.orient_test.specs.Signs.{Orientable}
use Rattle.make_complex.specs.Named.{named_euler, is_orientable}
use Rattle.job_answer.specs.declared.status.Status.TheVariants.{Yes}
use Rattle.job_make.specs.Recipes.{Recipe, CanMake, LooksNamed, made}
use Rattle.job_make.specs.Answers.{IsMade}
use Rattle.stars.specs.StarViews.{UsesUpTo}
use Rattle.stars.proofs.Mapping.{uses_of}

no_semicolon : to_semicolon (10 ∷ []) ≡ 0
unfolding is_of
no_semicolon = refl

no_token : (at : ℕ) → tokens_past 0 at (10 ∷ []) ≡ []
unfolding tokens_past is_of
no_token at = refl

pub line_is_read : (k : ComplexView) → KeepsLimits k → complex_of (complex_line k.facets) ≡ Ok k
line_is_read k keeps =
    let text : List ℕ = text_of k.facets in
    let offset : length text ≡ 0 + length text + to_semicolon (10 ∷ []) = omega (arith, no_semicolon) in
    let read : complex_at (text ++ 10 ∷ []) 0 ≡ Ok (k, length text) = read_again [] (10 ∷ []) k keeps ∙ ap (λ (p : ℕ). Ok (k, p)) (sym offset) in
    ap (alone (text ++ 10 ∷ [])) read ∙ ap (λ bs. ended k (tokens_past 0 (length text) bs)) (drop_at text (10 ∷ []) (length text) refl) ∙ ap (ended k) (no_token (length text))

-- ---- the limits

small_facets : (k : ComplexView) → UsesUpTo k 4096 → (fs : List (List ℕ)) → ((f : List ℕ) → listed fs f ≡ true → listed k.facets f ≡ true) → AllByRecursion (λ f. AllByRecursion (λ n. n ≤ 60000) f) fs
small_facets k u [] h = tt
small_facets k u (f ∷ fs) h = (
  each_member (λ n. n ≤ 60000) f (λ x t. omega (arith, uses_of k 4096 f x u (h f (or_left (pointwise nat_eq f f) (listed fs f) (same_set_itself f))) t)),
  small_facets k u fs (λ g t. h g (or_right (pointwise nat_eq f g) (listed fs g) t)),
)

pub limits_kept : (k : ComplexView) → IsComplex k → 0 < k.dim → UsesUpTo k 4096 → length k.facets ≤ 20000 → length (used k.facets) ≤ 4096 → KeepsLimits k
limits_kept k h dim u facets labels = record { complex = h; dim = dim; small = small_facets k u k.facets (λ f t. t); few_facets = facets; few_labels = labels }

-- a complex that is made keeps the limits, and looks as it was named
pub keeps_all : (r : Recipe) (k : ComplexView) → CanMake r → IsComplex k → k.dim ≡ r.dim → UsesUpTo k 4096 → length k.facets ≤ 20000 → length (used k.facets) ≤ 4096 → KeepsLimits k
keeps_all r k can h dim u facets labels = limits_kept k h (omega (arith, can.low, dim)) u facets labels

pub looks_named : (r : Recipe) (k : ComplexView) → k ≡ made r → Closed k.facets → StronglyConnected k.facets → eulers.euler k.facets ≡ named_euler r.kind r.dim → Orientable k.facets ↔ IsTrue (is_orientable r.kind) → LooksNamed r
looks_named r k e closed strong number orientable =
    let C : ComplexView → Type 0 = λ l. Closed l.facets in
    let S : ComplexView → Type 0 = λ l. StronglyConnected l.facets in
    let O : ComplexView → Type 0 = λ l. Orientable l.facets ↔ IsTrue (is_orientable r.kind) in
    record { closed = subst C e closed; strong = subst S e strong; euler = ap (λ (l : ComplexView). eulers.euler l.facets) (sym e) ∙ number; orientable = subst O e orientable }

-- what is said of it
pub is_made : (r : Recipe) (k : ComplexView) (text line : List ℕ) → k ≡ made r → KeepsLimits k → LooksNamed r → line ≡ complex_line k.facets → text ≡ line → IsMade r Yes text
is_made r k text line e limits looks says is = record {
  is_yes = refl;
  says = is ∙ says ∙ ap (λ (l : ComplexView). complex_line l.facets) e;
  limits = let K : ComplexView → Type 0 = λ l. KeepsLimits l in subst K e limits;
  looks = looks;
}
