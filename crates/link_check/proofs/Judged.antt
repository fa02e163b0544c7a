-- The faces of one size one after another, then all sizes, and what a bad face shows.
use Rattle.std.proofs.Common.{◌≡◌, ℕ, suc, ◌+◌, ◌<◌, ◌≤◌, true, false, nat_eq, ◌||◌, List, [], ◌∷◌, length, map, get_or, Option, None, Some, Result, Ok, Err, sym, ◌∙◌, ap, refl, subst, arith, inl, inr}
use Rattle.std.specs.Prelude.{◌↔◌, IfOk, IfSome, IsNone, MatchOption}
use Rattle.std.specs.List.Sorted.{IsStrictlySortedBy}
use Rattle.std.specs.Ordering.{ordering_reverse}
use Rattle.std.specs.Cmp.{first_so}
use Rattle.std.specs.Cmp.Lexicographic.{pointwise, nat_list_cmp_total}
use Rattle.std.specs.declared.cmp.Ordering.TheVariants.{Less, Equal, Greater}
use Rattle.std.proofs.lemmas.Bool.{cases_lt}
use Rattle.std.proofs.lemmas.Cmp.{tied_itself}
use Rattle.std.proofs.lemmas.List.{get_or_default}
use Rattle.std.proofs.lemmas.List.Folds.{list_any_at}
use Rattle.std.proofs.lemmas.Map.Keys.{Less-from_sorted}
use Rattle.complex_core.specs.Labels.{face_cmp}
use Rattle.complex_core.specs.Rising.{rising}
use Rattle.complex_core.specs.Complexes.{ComplexView, IsComplex, is_held}
use Rattle.complex_core.specs.Links.{link}
use Rattle.complex_core.proofs.Sets.{sorted_rising}
use Rattle.complex_core.proofs.Laws.{listed, same_sets_is, same_set_itself}
use Rattle.complex_core.proofs.SubsetLists.{two, clash}
use Rattle.flip_laws.specs.Obstacles.{LooksLikeSphere}
use Rattle.flip_laws.proofs.Reaching.{reaching_looks}
use Rattle.link_check.specs.declared.bad.LinkFact.{LinkFact}
use Rattle.link_check.specs.declared.bad.LinkFact.TheVariants as fact
use Rattle.link_check.specs.declared.bad.BadLink.{BadLink}
use Rattle.link_check.specs.Flags.{flags, flags_at}
use Rattle.link_check.specs.BadLinks.{HasLink, IsGoodLink, Lacks, Before, NoneIsBad, IsLeastBad}
use Rattle.link_check.specs.Sizes.{NoneOfSize, IsFirstOfSize, AreFlagsAt}
use Rattle.link_check.specs.Laws.{BadLinkLaw}
use Rattle.link_check.proofs.Flagged.{face_has, face_there}
use Rattle.link_check.proofs.Linked.{link_complex}

-- ---- places of sets in a rising list

place_of : (s : List ℕ) (xs : List (List ℕ)) (d : List ℕ) → listed xs s ≡ true → (j : ℕ) × (j < length xs) × (get_or xs j d ≡ s)
place_of s [] d t = clash true refl (sym t)
place_of s (x ∷ xs) d t = elim (two (pointwise nat_eq x s)) [
  | inl e ↦ (0, omega arith, same_sets_is x s e)
  | inr e ↦ let q : (j : ℕ) × (j < length xs) × (get_or xs j d ≡ s) = place_of s xs d (sym (ap (λ c. c || listed xs s) e) ∙ t) in (suc q.0, omega (arith, q.1), q.2)
]

earlier : (xs : List (List ℕ)) (i j : ℕ) (d : List ℕ) → IsStrictlySortedBy face_cmp xs → i < length xs → j < length xs → face_cmp (get_or xs j d) (get_or xs i d) ≡ Less → j < i
earlier xs i j d rises li lj less = elim (cases_lt j i) [
  | inl lt ↦ lt
  | inr ge ↦ elim (cases_lt i j) [
    | inl gt ↦ let e : Less ≡ Greater = sym (Less-from_sorted face_cmp xs i j d rises gt lj) ∙ nat_list_cmp_total.antisymm (get_or xs i d) (get_or xs j d) ∙ ap ordering_reverse less in cc
    | inr le ↦
        let e : j ≡ i = omega (arith, ge, le) in
        let f : Equal ≡ Less = sym (tied_itself nat_list_cmp_total (get_or xs i d)) ∙ sym (ap (λ m. face_cmp (get_or xs m d) (get_or xs i d)) e) ∙ less in cc
  ]
]

-- ---- the faces of one size

abbrev pub sets : ℕ → List (List ℕ) → List (List ℕ)
sets n facets = rising face_cmp (map (λ p. p.0) (flags n facets))

pub sets_are : (n : ℕ) (facets walked items : List (List ℕ)) (shown fl : List (List ℕ × List ℕ)) → walked ≡ items → items ≡ rising face_cmp (map (λ p. p.0) shown) → shown ≡ fl → fl ≡ flags n facets → walked ≡ sets n facets
sets_are n facets walked items shown fl a b c d = a ∙ b ∙ ap (λ ps. rising face_cmp (map (λ p. p.0) ps)) (c ∙ d)

-- the face at a place
pub has_at : (k : ComplexView) (n i : ℕ) (face : List ℕ) (walked : List (List ℕ)) → IsComplex k → 0 < n → n ≤ k.dim → walked ≡ sets n k.facets → i < length walked → face ≡ get_or walked i face → HasLink k face × (length face ≡ n)
has_at k n i face walked c low high e l at =
    let t : listed walked face ≡ true = list_any_at (λ g. pointwise nat_eq g face) walked i face l (ap (λ g. pointwise nat_eq g face) (sym at) ∙ same_set_itself face) in
    face_has k c n face low high (ap (λ xs. listed xs face) (sym e) ∙ t)

-- the flags that are looked up for it
pub near_at : (k : ComplexView) (n : ℕ) (face : List ℕ) (near shown fl : List (List ℕ × List ℕ)) → IsComplex k → HasLink k face × (length face ≡ n) → near ≡ flags_at shown face → shown ≡ fl → fl ≡ flags n k.facets → AreFlagsAt k face near
near_at k n face near shown fl c h e f g = record {
  complex = c;
  has = h.0;
  are = e ∙ ap (λ ps. flags_at ps face) (f ∙ g ∙ ap (λ m. flags m k.facets) (sym h.1));
}

-- what was found at it
pub fact_some : (l : ComplexView) (o : Option LinkFact) (what : LinkFact) → o ≡ Some what → MatchOption o (IsGoodLink l) (Lacks l) → Lacks l what
fact_some l o what e h = let P : Option LinkFact → Type 0 = λ r. MatchOption r (IsGoodLink l) (Lacks l) in subst P e h

pub fact_none : (l : ComplexView) (o : Option LinkFact) → o ≡ None → MatchOption o (IsGoodLink l) (Lacks l) → IsGoodLink l
fact_none l o e h = let P : Option LinkFact → Type 0 = λ r. MatchOption r (IsGoodLink l) (Lacks l) in subst P e h

-- the faces up to a place have good links
abbrev pub GoodUpTo : ComplexView → List (List ℕ) → ℕ → Type 0
GoodUpTo k walked i = (j : ℕ) → j < i → IsGoodLink (link k (get_or walked j []))

pub good_more : (k : ComplexView) (i : ℕ) (face : List ℕ) (walked : List (List ℕ)) → i < length walked → face ≡ get_or walked i face → IsGoodLink (link k face) → GoodUpTo k walked i → GoodUpTo k walked (i + 1)
good_more k i face walked l at good h j lj = elim (cases_lt j i) [
  | inl lt ↦ h j lt
  | inr ge ↦
      let e : i ≡ j = omega (arith, lj, ge) in
      let P : List ℕ → Type 0 = λ s. IsGoodLink (link k s) in
      subst P (at ∙ get_or_default walked i face [] l ∙ ap (λ m. get_or walked m []) e) good
]

good_there : (k : ComplexView) (i : ℕ) (s : List ℕ) (walked : List (List ℕ)) → GoodUpTo k walked i → (j : ℕ) → j < i → get_or walked j [] ≡ s → IsGoodLink (link k s)
good_there k i s walked h j l e = let P : List ℕ → Type 0 = λ s. IsGoodLink (link k s) in subst P e (h j l)

pub none_of_size : (k : ComplexView) (n i : ℕ) (walked : List (List ℕ)) → IsComplex k → walked ≡ sets n k.facets → length walked ≤ i → GoodUpTo k walked i → NoneOfSize k n
none_of_size k n i walked c e l h = record {
  good = λ s has size.
      let t : listed walked s ≡ true = ap (λ xs. listed xs s) (e ∙ ap (λ m. sets m k.facets) (sym size)) ∙ face_there k c s has in
      let p : (j : ℕ) × (j < length walked) × (get_or walked j [] ≡ s) = place_of s walked [] t in
      good_there k i s walked h p.0 (omega (arith, p.1, l)) p.2;
}

pub first_of_size : (k : ComplexView) (n i : ℕ) (bad : BadLink) (walked : List (List ℕ)) → IsComplex k → walked ≡ sets n k.facets → i < length walked → bad.face ≡ get_or walked i bad.face → HasLink k bad.face × (length bad.face ≡ n) → Lacks (link k bad.face) bad.fact → GoodUpTo k walked i → IsFirstOfSize k n bad
first_of_size k n i bad walked c e l at has lacks h = record {
  has = has.0;
  size = has.1;
  lacks = lacks;
  first = λ s own size less.
      let t : listed walked s ≡ true = ap (λ xs. listed xs s) (e ∙ ap (λ m. sets m k.facets) (sym size)) ∙ face_there k c s own in
      let p : (j : ℕ) × (j < length walked) × (get_or walked j [] ≡ s) = place_of s walked [] t in
      let rises : IsStrictlySortedBy face_cmp walked = let P : List (List ℕ) → Type 0 = λ xs. IsStrictlySortedBy face_cmp xs in subst P (sym e) (sorted_rising nat_list_cmp_total (map (λ q. q.0) (flags n k.facets))) in
      let before : p.0 < i = earlier walked i p.0 [] rises l p.1 ((λ m. face_cmp (p.2 m) ((sym (get_or_default walked i bad.face [] l) ∙ sym at) m)) ∙ less) in
      good_there k i s walked h p.0 before p.2;
}

-- ---- all sizes

abbrev pub NoneBelow : ComplexView → ℕ → Type 0
NoneBelow k n = (m : ℕ) → 0 < m → m < n → NoneOfSize k m

pub none_more : (k : ComplexView) (n : ℕ) → NoneOfSize k n → NoneBelow k n → NoneBelow k (n + 1)
none_more k n none h m low high = elim (cases_lt m n) [
  | inl lt ↦ h m low lt
  | inr ge ↦ let e : n ≡ m = omega (arith, high, ge) in let P : ℕ → Type 0 = λ j. NoneOfSize k j in subst P e none
]

some_labels : (k : ComplexView) (s : List ℕ) → HasLink k s → 0 < length s
some_labels k [] h = clash true refl (sym (first_so false (is_held k.facets []) h.face))
some_labels k (x ∷ s) h = omega arith

pub none_bad : (k : ComplexView) (n : ℕ) → k.dim < n → NoneBelow k n → NoneIsBad k
none_bad k n high h = record { good = λ s has. (h (length s) (some_labels k s has) (omega (arith, has.proper, high))).good s has refl }

pub first_some : (k : ComplexView) (n : ℕ) (o : Option BadLink) (bad : BadLink) → o ≡ Some bad → MatchOption o (NoneOfSize k n) (IsFirstOfSize k n) → IsFirstOfSize k n bad
first_some k n o bad e h = let P : Option BadLink → Type 0 = λ r. MatchOption r (NoneOfSize k n) (IsFirstOfSize k n) in subst P e h

pub least_bad : (k : ComplexView) (n : ℕ) (bad : BadLink) → IsFirstOfSize k n bad → NoneBelow k n → IsLeastBad k bad
least_bad k n bad first h = record {
  has = first.has;
  lacks = first.lacks;
  least = λ s has before. by_size s has before;
}
  where
    by_size : (s : List ℕ) → HasLink k s → Before s bad.face → IsGoodLink (link k s)
    by_size s has (inl fewer) = (h (length s) (some_labels k s has) (omega (arith, fewer, first.size))).good s has refl
    by_size s has (inr same) = first.first s has (same.0 ∙ first.size) same.1

-- ---- what a bad face excludes

lacks_one : (l : ComplexView) (what : LinkFact) → Lacks l what → IsGoodLink l → ⊥
lacks_one l (fact.Euler n) h g = h.1 (h.0 ∙ g.euler)
lacks_one l (fact.Split a) h g = h.2.apart ((g.strong h.1).joined _ _ h.2.begins.there h.2.there)

pub found_of : {E : Type 0} (k : ComplexView) (r : Result (Option BadLink) E) → IfOk r (λ o. MatchOption o (NoneIsBad k) (IsLeastBad k)) → IfOk r (λ o. IfSome o (IsLeastBad k))
found_of k (Ok (Some bad)) h = h
found_of k (Ok None) h = tt
found_of k (Err e) h = tt

pub none_of : {E : Type 0} (k : ComplexView) (r : Result (Option BadLink) E) → IfOk r (λ o. MatchOption o (NoneIsBad k) (IsLeastBad k)) → IfOk r (λ o. IsNone o ↔ NoneIsBad k)
none_of k (Ok (Some bad)) h = (λ e. clash true refl e, λ none. absurd (lacks_one (link k bad.face) bad.fact h.lacks (none.good bad.face h.has)))
none_of k (Ok None) h = (λ _. h, λ _. refl)
none_of k (Err e) h = tt

looks_good : (l : ComplexView) → LooksLikeSphere l → IsGoodLink l
looks_good l h = record { euler = h.euler; strong = λ _. h.strong }

pub bad_link_law : BadLinkLaw
bad_link_law k s what c h l = λ flips faces cert. lacks_one (link k s) what l (looks_good (link k s) (reaching_looks (link k s) flips (link_complex k s c h) faces cert))
