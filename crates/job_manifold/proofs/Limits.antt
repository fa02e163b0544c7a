-- The links of vertices of a complex within the limits of texts are within them.
use Rattle.std.proofs.Common.{◌≡◌, ℕ, suc, ◌<◌, ◌≤◌, Bool, true, false, not, nat_eq, cond, List, [], ◌∷◌, length, map, filter, sym, ◌∙◌, arith}
use Rattle.std.specs.List.{AllByRecursion, flat_map}
use Rattle.std.specs.Ordering.{nat_cmp}
use Rattle.std.proofs.lemmas.Cmp.{nat_cmp_total}
use Rattle.std.proofs.lemmas.List.{length-map}
use Rattle.complex_core.specs.Labels.{has, holds, without, face_cmp}
use Rattle.complex_core.specs.Complexes.{ComplexView, IsComplex, IsFacet, over}
use Rattle.complex_core.specs.Links.{less}
use Rattle.complex_core.specs.Maps.{used}
use Rattle.complex_core.proofs.Laws.{holds_each, listed}
use Rattle.complex_core.proofs.Members.{each_member, label_low, without_has}
use Rattle.complex_core.proofs.SetLists.{found_set, rising_length, used_label}
use Rattle.complex_core.proofs.Sets.{each_rising, sorted_rising}
use Rattle.complex_core.proofs.Sorting.{each_append, each_filter}
use Rattle.complex_core.proofs.SubsetLists.{fewer}
use Rattle.facet_text.specs.Writing.{KeepsLimits}
use Rattle.cert_text.specs.Writing.{IsLabel}
use Rattle.sphere_search.specs.Searches.{UsesAtMost}
use Rattle.link_check.specs.Vertices.{vertex_link}
use Rattle.link_check.proofs.Linked.{link_complex}
use Rattle.link_check.proofs.Vertices.{from_facet, has_used, vertex_has}
use Rattle.std.specs.Cmp.{first_so}

-- ---- labels

both_hold : {X : Type 0} {P Q R : X → Type 0} → ((x : X) → P x → Q x → R x) → (xs : List X) → AllByRecursion P xs → AllByRecursion Q xs → AllByRecursion R xs
both_hold f [] p q = tt
both_hold f (x ∷ xs) p q = (f x p.0 q.0, both_hold f xs p.1 q.1)

all_flat : (P : ℕ → Type 0) (fs : List (List ℕ)) → AllByRecursion (λ f. AllByRecursion P f) fs → AllByRecursion P (flat_map (λ f. f) fs)
all_flat P [] h = tt
all_flat P (f ∷ fs) h = each_append P f (flat_map (λ g. g) fs) h.0 (all_flat P fs h.1)

positive : (d : ℕ) (f : List ℕ) → IsFacet d f → AllByRecursion (λ x. 0 < x) f
positive d f h = each_member (λ x. 0 < x) f (λ x t. label_low f x h.face t)

-- the labels of a complex are labels of certificates
facet_labels : (d : ℕ) (f : List ℕ) → IsFacet d f → AllByRecursion (λ n. n ≤ 60000) f → AllByRecursion IsLabel f
facet_labels d f h s = both_hold (λ x p q. (omega (arith, p), omega (arith, q))) f (positive d f h) s

pub used_labels : (k : ComplexView) → KeepsLimits k → AllByRecursion IsLabel (used k.facets)
used_labels k h =
    each_rising nat_cmp IsLabel (flat_map (λ f. f) k.facets) (all_flat IsLabel k.facets (both_hold (λ f p q. facet_labels k.dim f p q) k.facets h.complex.pure h.small))

pub uses_few : (k : ComplexView) → KeepsLimits k → UsesAtMost 60000 k
uses_few k h = each_rising nat_cmp (λ x. x ≤ 60000) (flat_map (λ f. f) k.facets) (all_flat (λ x. x ≤ 60000) k.facets h.small)

-- ---- facets of a link

short_filter : {X : Type 0} (p : X → Bool) (xs : List X) → length (filter p xs) ≤ length xs
short_filter p [] = omega arith
short_filter p (x ∷ xs) = elim (p x) as (λ b. length (cond b (x ∷ filter p xs) (filter p xs)) ≤ suc (length xs)) [
  | true ↦ omega (arith, short_filter p xs)
  | false ↦ omega (arith, short_filter p xs)
]

pub few_facets : (k : ComplexView) (v : ℕ) → length (vertex_link k v).facets ≤ length k.facets
few_facets k v =
    let near : List (List ℕ) = over k.facets (v ∷ []) in
    omega (arith, rising_length (map (λ f. less f (v ∷ [])) near), length-map near (λ f. less f (v ∷ [])), short_filter (λ f. holds f (v ∷ [])) k.facets)

small_less : (v : ℕ) (fs : List (List ℕ)) → AllByRecursion (λ f. AllByRecursion (λ n. n ≤ 60000) f) fs → AllByRecursion (λ f. AllByRecursion (λ n. n ≤ 60000) f) (map (λ f. less f (v ∷ [])) fs)
small_less v [] h = tt
small_less v (f ∷ fs) h = (each_filter (λ n. n ≤ 60000) (λ y. not (nat_eq y v)) f h.0, small_less v fs h.1)

small_facets : (k : ComplexView) (v : ℕ) → AllByRecursion (λ f. AllByRecursion (λ n. n ≤ 60000) f) k.facets → AllByRecursion (λ f. AllByRecursion (λ n. n ≤ 60000) f) (vertex_link k v).facets
small_facets k v h =
    let P : List ℕ → Type 0 = λ f. AllByRecursion (λ n. n ≤ 60000) f in
    each_rising face_cmp P (map (λ f. less f (v ∷ [])) (over k.facets (v ∷ []))) (small_less v (over k.facets (v ∷ [])) (each_filter P (λ f. holds f (v ∷ [])) k.facets h))

-- ---- labels of a link

used_there : (k : ComplexView) (v x : ℕ) → IsComplex k → has (used (vertex_link k v).facets) x ≡ true → has (used k.facets) x ≡ true
used_there k v x c t =
    let g : (g : List ℕ) × (listed (vertex_link k v).facets g ≡ true) × (holds g (x ∷ []) ≡ true) = found_set (λ g. holds g (x ∷ [])) (vertex_link k v).facets (sym (has_used (vertex_link k v).facets x) ∙ t) in
    let f : (f : List ℕ) × (listed k.facets f ≡ true) × (has f v ≡ true) × (g.0 ≡ without f v) = from_facet k c v g.0 g.1 in
    used_label k.facets f.0 x f.1 (without_has f.0 v x ((λ i. has (sym f.3 i) x) ∙ first_so (has g.0 x) true g.2))

few_labels : (k : ComplexView) (v : ℕ) → IsComplex k → length (used (vertex_link k v).facets) ≤ length (used k.facets)
few_labels k v c =
    let one : List ℕ = used (vertex_link k v).facets in
    fewer one (used k.facets) (sorted_rising nat_cmp_total (flat_map (λ f. f) (vertex_link k v).facets)) (sorted_rising nat_cmp_total (flat_map (λ f. f) k.facets)) (holds_each (used k.facets) one (λ x t. used_there k v x c t))

-- ---- the whole

pub link_keeps : (k : ComplexView) (v : ℕ) → KeepsLimits k → 2 ≤ k.dim → has (used k.facets) v ≡ true → KeepsLimits (vertex_link k v)
link_keeps k v h d u = record {
  complex = link_complex k (v ∷ []) h.complex (vertex_has k v h.complex (omega (arith, d)) u);
  dim = omega (arith, d);
  small = small_facets k v h.small;
  few_facets = omega (arith, few_facets k v, h.few_facets);
  few_labels = omega (arith, few_labels k v h.complex, h.few_labels);
}
