-- Draws one after another: flips that lead from the named complex to the made one.
use Rattle.std.proofs.Common.{Less, ◌≡◌, inl, inr, ℕ, zero, suc, ◌+◌, ◌%◌, ◌<◌, ◌≤◌, Bool, true, false, not, nat_eq, nat_le, ◌&&◌, cond, List, [], ◌∷◌, ◌++◌, length, Some, Ok, sym, ◌∙◌, ap, refl, subst, arith}
use Rattle.std.specs.Result.{is_ok}
use Rattle.std.specs.List.{AllByRecursion}
use Rattle.std.specs.Ordering.{nat_cmp}
use Rattle.std.specs.Cmp.{first_so, second_so}
use Rattle.std.proofs.lemmas.Bool.Decides.{nat_tests}
use Rattle.std.proofs.lemmas.Nat.{mod_below}
use Rattle.rand_pcg.specs.Lcg.{Lcg}
use Rattle.complex_core.specs.Labels.{IsFace, has}
use Rattle.complex_core.specs.Complexes.{ComplexView, IsComplex, over}
use Rattle.complex_core.specs.Maps.{used}
use Rattle.complex_core.proofs.Sets.{above_cons}
use Rattle.complex_core.proofs.Faces.{cmp_less}
use Rattle.complex_core.proofs.Members.{has-less, each_member, label_low}
use Rattle.complex_core.proofs.Sorting.{each_append}
use Rattle.complex_core.proofs.SetLists.{pure_at}
use Rattle.complex_core.proofs.SubsetLists.{two, clash}
use Rattle.complex_core.proofs.Laws.{listed, listed-filter}
use Rattle.flip_rules.specs.Flips.{Legal, OfFaces, broken_rule, flipped, replay}
use Rattle.flip_rules.specs.declared.flip.Flip.{Flip}
use Rattle.flip_rules.proofs.Legal.{legal}
use Rattle.flip_rules.proofs.Replays.{replay-append, replay_legal, complex_replayed}
use Rattle.stars.specs.Candidates.{opposite}
use Rattle.stars.proofs.Gathered.{sorted_opposite}
use Rattle.flip_rules.proofs.Replays.{keeps_complexes}
use Rattle.stars.specs.StarViews.{StarList, IsStarListOf, UsesUpTo, places_in}
use Rattle.flip_laws.specs.Keeping.{Keeps}
use Rattle.flip_laws.proofs.Replays.{replay_keeps}
use Rattle.make_complex.specs.declared.kind.Kind.{Kind}
use Rattle.make_complex.specs.Named.{named_complex}
use Rattle.make_complex.specs.Draws.{made_complex}
use Rattle.make_complex.specs.Words.{generator}
use Rattle.make_complex.specs.Choices.{IsSubfacet}
use Rattle.make_complex.specs.Draws.{after_choice, after_draw, after_draws, flipped_within, first_of, is_within, least_unused, second_of}
use Rattle.make_complex.specs.Words.{after_words, word_at}
use Rattle.make_complex.proofs.Gaps.{IsGap, gap_used}
use Rattle.make_complex.proofs.Choosing.{chosen_part, in_facet, single_face, decided}

-- legal flips of sets of labels lead from one complex to the other
pub record Leads (k l : ComplexView) : Type 0 where
  pub flips : List Flip
  pub faces : AllByRecursion OfFaces flips
  pub replays : replay k flips ≡ Some l

leads_nowhere : (k : ComplexView) → Leads k k
leads_nowhere k = record { flips = []; faces = tt; replays = refl }

leads_on : (k l m : ComplexView) → Leads k l → Leads l m → Leads k m
leads_on k l m p q = record { flips = p.flips ++ q.flips; faces = each_append OfFaces p.flips q.flips p.faces q.faces; replays = replay-append k l p.flips q.flips p.replays ∙ q.replays }

leads_once : (k : ComplexView) (a b : List ℕ) → IsFace a → IsFace b → broken_rule k a b ≡ Ok tt → Leads k (flipped k a b)
leads_once k a b fa fb t = record { flips = record { a = a; b = b } ∷ []; faces = (record { first = fa; second = fb }, tt); replays = replay_legal k (record { a = a; b = b }) [] t }

-- B of a legal draw is a set of labels
second_face : (k : ComplexView) (i : ℕ) (a : List ℕ) → IsComplex k → broken_rule k a (second_of k.facets i a) ≡ Ok tt → IsFace (second_of k.facets i a)
second_face k zero a h t = let p : IsGap 1 (used k.facets) (least_unused k.facets) = gap_used k h in single_face (least_unused k.facets) (omega (arith, p.low))
second_face k (suc i) a h t =
    let l : Legal k a (opposite k.facets a) = legal k a (opposite k.facets a) t in
    record {
      few = omega (arith, l.shape.sizes, h.low);
      rising = above_cons nat_cmp 0 (opposite k.facets a) (each_member (λ y. nat_cmp 0 y ≡ Less) (opposite k.facets a) (λ x u.
          let s : has (used (over k.facets a)) x ≡ true = first_so (has (used (over k.facets a)) x) (not (has a x)) (sym (has-less (used (over k.facets a)) a x) ∙ u) in
          let f : (f : List ℕ) × (listed (over k.facets a) f ≡ true) × (has f x ≡ true) = in_facet (over k.facets a) x s in
          let g : listed k.facets f.0 ≡ true = first_so (listed k.facets f.0) _ (sym (listed-filter _ k.facets f.0) ∙ f.1) in
          cmp_less 0 x (label_low f.0 x (pure_at k.dim k.facets f.0 h.pure g).face f.2))) (sorted_opposite k.facets a);
    }

leads_within : (k : ComplexView) (a b : List ℕ) → IsFace a → (broken_rule k a b ≡ Ok tt → IsFace b) → Leads k (flipped_within k a b)
leads_within k a b fa fb = elim (two (is_ok (broken_rule k a b) && is_within (flipped k a b))) [
  | inl t ↦
      let ok : is_ok (broken_rule k a b) ≡ true = first_so (is_ok (broken_rule k a b)) (is_within (flipped k a b)) t in
      let r : broken_rule k a b ≡ Ok tt = elim (decided (broken_rule k a b)) [ inl g ↦ g | inr f ↦ clash (is_ok (broken_rule k a b)) ok f ] in
      let P : ComplexView → Type 0 = λ l. Leads k l in
      subst P (ap (λ c. cond c (flipped k a b) k) (sym t)) (leads_once k a b fa (fb r) r)
  | inr f ↦ let P : ComplexView → Type 0 = λ l. Leads k l in subst P (ap (λ c. cond c (flipped k a b) k) (sym f)) (leads_nowhere k)
]

leads_at : (k : ComplexView) (i : ℕ) (a : List ℕ) → IsComplex k → IsFace a → Leads k (after_choice k i a)
leads_at k i a h fa = elim (two (nat_eq (length (second_of k.facets i a)) (i + 1))) [
  | inl t ↦ let P : ComplexView → Type 0 = λ l. Leads k l in subst P (ap (λ c. cond c (flipped_within k a (second_of k.facets i a)) k) (sym t)) (leads_within k a (second_of k.facets i a) fa (second_face k i a h))
  | inr f ↦ let P : ComplexView → Type 0 = λ l. Leads k l in subst P (ap (λ c. cond c (flipped_within k a (second_of k.facets i a)) k) (sym f)) (leads_nowhere k)
]

pub leads_draw : (k : ComplexView) (u0 u1 u2 : ℕ) → IsComplex k → Leads k (after_draw k u0 u1 u2)
leads_draw k u0 u1 u2 h =
    let s : IsSubfacet k (u1 % (k.dim + 1)) (first_of k (u1 % (k.dim + 1)) u0 u2) = chosen_part k (u1 % (k.dim + 1)) u0 u2 h (let l : u1 % (k.dim + 1) < k.dim + 1 = mod_below u1 (k.dim + 1) (omega arith) in omega (arith, l)) in
    leads_at k (u1 % (k.dim + 1)) (first_of k (u1 % (k.dim + 1)) u0 u2) h s.face

abbrev one_draw : ComplexView → Lcg → ComplexView
one_draw k g = after_draw k (word_at g 0) (word_at g 1) (word_at g 2)

pub leads_draws : (k : ComplexView) (g : Lcg) (n : ℕ) → IsComplex k → Leads k (after_draws k g n)
leads_draws k g zero h = leads_nowhere k
leads_draws k g (suc n) h =
    let p : Leads k (one_draw k g) = leads_draw k (word_at g 0) (word_at g 1) (word_at g 2) h in
    leads_on k (one_draw k g) (after_draws (one_draw k g) (after_words g 3) n) p (leads_draws (one_draw k g) (after_words g 3) n (complex_replayed k (one_draw k g) p.flips h p.faces p.replays))

-- ---- how many facets there are

few_within : (k : ComplexView) (a b : List ℕ) → length k.facets ≤ 20000 → length (flipped_within k a b).facets ≤ 20000
few_within k a b few = elim (two (is_ok (broken_rule k a b) && is_within (flipped k a b))) [
  | inl t ↦
      let w : is_within (flipped k a b) ≡ true = second_so (is_ok (broken_rule k a b)) (is_within (flipped k a b)) t in
      let l : nat_le (length (flipped k a b).facets) 20000 ≡ true = first_so (nat_le (length (flipped k a b).facets) 20000) _ w in
      let P : ComplexView → Type 0 = λ l. length l.facets ≤ 20000 in
      subst P (ap (λ c. cond c (flipped k a b) k) (sym t)) (grind (arith, nat_tests))
  | inr f ↦ let P : ComplexView → Type 0 = λ l. length l.facets ≤ 20000 in subst P (ap (λ c. cond c (flipped k a b) k) (sym f)) few
]

few_after : (k : ComplexView) (i : ℕ) (a : List ℕ) → length k.facets ≤ 20000 → length (after_choice k i a).facets ≤ 20000
few_after k i a few = by_size (nat_eq (length (second_of k.facets i a)) (i + 1))
  where
    by_size : (c : Bool) → length (cond c (flipped_within k a (second_of k.facets i a)) k).facets ≤ 20000
    by_size true = few_within k a (second_of k.facets i a) few
    by_size false = few

pub few_drawn : (k : ComplexView) (g : Lcg) (n : ℕ) → length k.facets ≤ 20000 → length (after_draws k g n).facets ≤ 20000
few_drawn k g zero few = few
few_drawn k g (suc n) few = few_drawn (one_draw k g) (after_words g 3) n (few_after k (word_at g 1 % (k.dim + 1)) (first_of k (word_at g 1 % (k.dim + 1)) (word_at g 0) (word_at g 2)) few)

-- ---- the loop over the draws

-- from here so many draws are left to the goal, and the stars are those of the complex
pub record IsOnWay (goal k : ComplexView) (m : StarList) (g : Lcg) (left : ℕ) : Type 0 where
  pub made : goal ≡ after_draws k g left
  pub stars : IsStarListOf k m
  pub places : places_in m ≡ 4096
  pub low : 1 ≤ k.dim

pub way_begins : (kind : Kind) (d draws seed left : ℕ) (k : ComplexView) (m : StarList) (g : Lcg) → 1 ≤ d → k ≡ named_complex kind d → g ≡ generator seed → left ≡ draws → IsStarListOf k m → places_in m ≡ 4096 → IsOnWay (made_complex kind d draws seed) k m g left
way_begins kind d draws seed left k m g low e f l h p = record {
  made = λ j. after_draws (sym e j) (sym f j) (sym l j);
  stars = h;
  places = p;
  low = omega (arith, low, (let n : k.dim ≡ d = ap (λ (v : ComplexView). v.dim) e in n));
}

pub way_goes : (goal k l : ComplexView) (m n : StarList) (g h : Lcg) (u0 u1 u2 left fewer : ℕ) → left ≡ suc fewer → IsOnWay goal k m g left → u0 ≡ word_at g 0 → u1 ≡ word_at g 1 → u2 ≡ word_at g 2 → h ≡ after_words g 3 → l ≡ after_draw k u0 u1 u2 → IsStarListOf l n → places_in n ≡ places_in m → IsOnWay goal l n h fewer
way_goes goal k l m n g h u0 u1 u2 left fewer e p w0 w1 w2 after made stars places =
    let q : Leads k (after_draw k u0 u1 u2) = leads_draw k u0 u1 u2 p.stars.complex in
    let dim : (after_draw k u0 u1 u2).dim ≡ k.dim = (keeps_complexes k (after_draw k u0 u1 u2) q.flips p.stars.complex q.faces q.replays).dim in
    record {
      made = p.made ∙ ap (after_draws k g) e ∙ (λ j. after_draws (sym (made ∙ (λ i. after_draw k (w0 i) (w1 i) (w2 i))) j) (sym after j) fewer);
      stars = stars;
      places = places ∙ p.places;
      low = omega (arith, p.low, (let s : l.dim ≡ k.dim = ap (λ (v : ComplexView). v.dim) made ∙ dim in s));
    }

pub way_ends : (goal k : ComplexView) (m : StarList) (g : Lcg) (left : ℕ) → left ≡ 0 → IsOnWay goal k m g left → k ≡ goal
way_ends goal k m g left e p = sym (p.made ∙ ap (after_draws k g) e)

pub way_uses : (goal k : ComplexView) (m : StarList) (g : Lcg) (left : ℕ) → IsOnWay goal k m g left → UsesUpTo k 4096
way_uses goal k m g left p = let P : ℕ → Type 0 = λ n. UsesUpTo k n in subst P p.places p.stars.within

-- ---- what is kept

pub made_keeps : (start k : ComplexView) (g : Lcg) (n : ℕ) → IsComplex start → k ≡ after_draws start g n → Keeps start k
made_keeps start k g n h e =
    let p : Leads start (after_draws start g n) = leads_draws start g n h in
    let P : ComplexView → Type 0 = λ l. Keeps start l in
    subst P (sym e) (replay_keeps start (after_draws start g n) p.flips h p.faces p.replays).1

pub made_few : (start k : ComplexView) (g : Lcg) (n : ℕ) → length start.facets ≤ 20000 → k ≡ after_draws start g n → length k.facets ≤ 20000
made_few start k g n few e = let P : ComplexView → Type 0 = λ l. length l.facets ≤ 20000 in subst P (sym e) (few_drawn start g n few)
