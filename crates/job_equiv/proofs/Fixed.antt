-- Without rounds two complexes have one answer of `equiv`.
use Rattle.std.proofs.Common.{◌≡◌, ℕ, ◌+◌, ◌⊎◌, inl, inr, List, [], ◌∷◌, ◌++◌, codes, length, Option, Some, sym, ◌∙◌, ap, refl, subst, arith}
use Rattle.complex_core.specs.Complexes.{ComplexView, IsComplex}
use Rattle.flip_rules.specs.declared.flip.Flip.{Flip}
use Rattle.flip_names.proofs.Faces.{renamed_is_complex}
use Rattle.facet_iso.specs.Isomorphisms.{IsFit, NoMap, Takes}
use Rattle.facet_iso.proofs.Determined.{one_least_map}
use Rattle.sphere_text.specs.Statements.{placed}
use Rattle.anneal_plan.specs.Numbers.{Numbers}
use Rattle.round_rules.specs.Rounds.{RoundView}
use Rattle.round_run.specs.Reports.{Chain, ReportView, ReportOk}
use Rattle.report_text.proofs.Searches.{chain_of, descent_report_is_one}
use Rattle.equal_text.specs.Lists.{joined, map_left, told_end}
use Rattle.equal_search.specs.Comparing.{AreCompared, AreEqual, AreUndecided, IsCompared, NoMaps, stages}
use Rattle.equal_search.specs.Pairs.{CanCompare}
use Rattle.equal_search.proofs.Told.{can_compare}
use Rattle.job_answer.specs.Meanings.{Same}
use Rattle.job_answer.specs.declared.status.Status.{Status}
use Rattle.job_pairs.specs.Readings.{Pair}
use Rattle.job_equiv.specs.Texts.{found_text, undecided_text}
use Rattle.job_equiv.specs.Answers.{AreDifferent, AreSearched, ComesTo, IsEquivAnswer, LeadsOver, MayBeSearched, Reports}
use Rattle.job_equiv.proofs.Differing.{no_difference, same_difference}
use Rattle.job_equiv.proofs.Searched.{fits, first_ok, second_ok}

-- ---- where a search without rounds stands

-- at its beginning, where it was compared nowhere else
record IsAtStart (k : ComplexView) (plan : Numbers) (before : List ComplexView) (r : ReportView) : Type 0 where
  none : before ≡ []
  told : told_end r ≡ k
  descents : r.descents ≡ []
  rounds : r.rounds ≡ []
  end : r.end ≡ placed k plan.room

-- or behind descent 0, where it was compared at its beginning
record IsBelow (k : ComplexView) (before : List ComplexView) (r : ReportView) : Type 0 where
  once : before ≡ k ∷ []
  descents : length r.descents ≡ 1
  rounds : length r.rounds ≡ 0

-- the one complex of a list with another behind it
only : (x y : ComplexView) (ys : List ComplexView) → x ∷ [] ≡ ys ++ y ∷ [] → (ys ≡ []) × (y ≡ x)
only x y [] e = (refl, let same : (a b : ComplexView) → a ∷ [] ≡ b ∷ [] → b ≡ a = λ a b f. cc in same x y e)
only x y (z ∷ []) e = absurd (omega (arith, ap length e))
only x y (z ∷ w ∷ ys) e = absurd (omega (arith, ap length e))

first_of_two : (x z y : ComplexView) (ys : List ComplexView) → x ∷ z ∷ [] ≡ ys ++ y ∷ [] → ys ≡ x ∷ []
first_of_two x z y [] e = absurd (omega (arith, ap length e))
first_of_two x z y (w ∷ []) e = let same : (a b c d : ComplexView) → a ∷ b ∷ [] ≡ c ∷ d ∷ [] → c ∷ [] ≡ a ∷ [] = λ a b c d f. cc in same x z w y e
first_of_two x z y (w ∷ v ∷ []) e = absurd (omega (arith, ap length e))
first_of_two x z y (w ∷ v ∷ u ∷ ys) e = absurd (omega (arith, ap length e))

-- a chain without rounds
chain_without : (plan : Numbers) (places n : ℕ) (k end : ComplexView) (ds : List (List Flip)) (lows : List ComplexView) (rs : List RoundView) → length rs ≡ 0 → Chain plan places n k ds lows rs end
    → ((ds ≡ []) × (lows ≡ []) × (rs ≡ []) × (end ≡ k)) ⊎ ((low : ComplexView) × (length ds ≡ 1) × (lows ≡ low ∷ []))
chain_without plan places n k end [] [] [] z c = inl (refl, refl, refl, c)
chain_without plan places n k end [] [] (r ∷ rs) z c = absurd c
chain_without plan places n k end [] (low ∷ lows) rs z c = absurd c
chain_without plan places n k end (d ∷ ds) [] rs z c = absurd c
chain_without plan places n k end (d ∷ ds) (low ∷ lows) [] z c = inr (low, ap (λ es. length (d ∷ es)) c.2, ap (λ ls. low ∷ ls) c.3)
chain_without plan places n k end (d ∷ ds) (low ∷ lows) (r ∷ rs) z c = absurd (omega (arith, z))

stands_where : (k : ComplexView) (plan : Numbers) (before : List ComplexView) (r : ReportView) → plan.rounds ≡ 0 → IsCompared k plan before r → IsAtStart k plan before r ⊎ IsBelow k before r
stands_where k plan before r z h =
    let none : length r.rounds ≡ 0 = omega (arith, z, h.ok.few) in
    elim (chain_without plan _ 0 (placed k plan.room) r.end r.descents h.ok.lows r.rounds none (chain_of k plan r h.ok)) [
      | inl c ↦
          let o : (before ≡ []) × (told_end r ≡ k) = only k (told_end r) before (sym (ap (stages k plan) c.1) ∙ h.stages_are) in
          inl (record { none = o.0; told = o.1; descents = c.0; rounds = c.2; end = c.3 })
      | inr c ↦ inr (record { once = first_of_two k _ (told_end r) before (sym (ap (stages k plan) c.2) ∙ h.stages_are); descents = c.1; rounds = none })
    ]

-- ---- both searches

record AreAtStart (k l : ComplexView) (plan : Numbers) (r s : ReportView) : Type 0 where
  first : List ComplexView
  second : List ComplexView
  near : IsAtStart k plan first r
  far : IsAtStart l plan second s

record AreBelow (k l : ComplexView) (r s : ReportView) : Type 0 where
  first : List ComplexView
  second : List ComplexView
  near : IsBelow k first r
  far : IsBelow l second s
  none : NoMap k l

stand_where : (k l : ComplexView) (plan : Numbers) (r s : ReportView) → plan.rounds ≡ 0 → AreCompared k l plan r s → AreAtStart k l plan r s ⊎ AreBelow k l r s
stand_where k l plan r s z h = both (stands_where k plan h.first_before r z h.first) (stands_where l plan h.second_before s z h.second)
  where
    both : IsAtStart k plan h.first_before r ⊎ IsBelow k h.first_before r → IsAtStart l plan h.second_before s ⊎ IsBelow l h.second_before s → AreAtStart k l plan r s ⊎ AreBelow k l r s
    both (inl a) (inl b) = inl (record { first = h.first_before; second = h.second_before; near = a; far = b })
    both (inl a) (inr b) = absurd (subst (λ (ls : List ComplexView). NoMaps [] ls) b.once (subst (λ (ks : List ComplexView). NoMaps ks h.second_before) a.none h.none))
    both (inr a) (inl b) = absurd (subst (λ (ls : List ComplexView). NoMaps (k ∷ []) ls) b.none (subst (λ (ks : List ComplexView). NoMaps ks h.second_before) a.once h.none))
    both (inr a) (inr b) =
        let none : NoMaps (k ∷ []) (l ∷ []) = subst (λ (ls : List ComplexView). NoMaps (k ∷ []) ls) b.once (subst (λ (ks : List ComplexView). NoMaps ks h.second_before) a.once h.none) in
        inr (record { first = h.first_before; second = h.second_before; near = a; far = b; none = none.0 })

-- ---- one report

start_is_one : (k : ComplexView) (plan : Numbers) (before also : List ComplexView) (r q : ReportView) → ReportOk k plan r → ReportOk k plan q → IsAtStart k plan before r → IsAtStart k plan also q → r ≡ q
start_is_one k plan before also r q ok right a b =
    let input : r.input ≡ q.input = ok.input ∙ sym right.input in
    let names : r.names ≡ q.names = ok.names ∙ sym right.names in
    let descents : r.descents ≡ q.descents = a.descents ∙ sym b.descents in
    let rounds : r.rounds ≡ q.rounds = a.rounds ∙ sym b.rounds in
    let end : r.end ≡ q.end = a.end ∙ sym b.end in
    λ i. record { input = input i; names = names i; descents = descents i; rounds = rounds i; end = end i }

below_is_one : (k : ComplexView) (plan : Numbers) (before also : List ComplexView) (r q : ReportView) → plan.rounds ≡ 0 → ReportOk k plan r → ReportOk k plan q → IsBelow k before r → IsBelow k also q → r ≡ q
below_is_one k plan before also r q z ok right a b = descent_report_is_one k plan r q z ok right a.descents b.descents

-- ---- one answer

compared_of : (k l : ComplexView) (plan : Numbers) (r s : ReportView) (status : Status) (xs : List ℕ) → ComesTo k l plan r s status xs → AreCompared k l plan r s
compared_of k l plan r s status xs (inl a) = a.equal.compared
compared_of k l plan r s status xs (inr a) = a.spent.compared

-- at the beginning a map was found
start_takes : (k l : ComplexView) (plan : Numbers) (r s : ReportView) (status : Status) (xs : List ℕ) → AreAtStart k l plan r s → ComesTo k l plan r s status xs → NoMap k l → ⊥
start_takes k l plan r s status xs h (inl a) none =
    let P : ComplexView → Type 0 = λ x. Takes x (told_end s) a.equal.between in
    let Q : ComplexView → Type 0 = λ y. Takes k y a.equal.between in
    none a.equal.between (subst Q h.far.told (subst P h.near.told a.equal.least.takes))
start_takes k l plan r s status xs h (inr a) none = omega (arith, a.spent.first.descents, ap length h.near.descents)

-- so two answers report the same
same_reports : (k l : ComplexView) (plan : Numbers) (r s t u : ReportView) (status other : Status) (xs ys : List ℕ) → plan.rounds ≡ 0 → ComesTo k l plan r s status xs → ComesTo k l plan t u other ys → (r ≡ t) × (s ≡ u)
same_reports k l plan r s t u status other xs ys z a b = by_place (stand_where k l plan r s z (compared_of k l plan r s status xs a)) (stand_where k l plan t u z (compared_of k l plan t u other ys b))
  where
    by_place : AreAtStart k l plan r s ⊎ AreBelow k l r s → AreAtStart k l plan t u ⊎ AreBelow k l t u → (r ≡ t) × (s ≡ u)
    by_place (inl p) (inl q) = (
      start_is_one k plan p.first q.first r t (first_ok k l plan r s status xs a) (first_ok k l plan t u other ys b) p.near q.near,
      start_is_one l plan p.second q.second s u (second_ok k l plan r s status xs a) (second_ok k l plan t u other ys b) p.far q.far,
    )
    by_place (inl p) (inr q) = absurd (start_takes k l plan r s status xs p a q.none)
    by_place (inr p) (inl q) = absurd (start_takes k l plan t u other ys q b p.none)
    by_place (inr p) (inr q) = (
      below_is_one k plan p.first q.first r t z (first_ok k l plan r s status xs a) (first_ok k l plan t u other ys b) p.near q.near,
      below_is_one l plan p.second q.second s u z (second_ok k l plan r s status xs a) (second_ok k l plan t u other ys b) p.far q.far,
    )

-- the least map between two ends is one
one_between : (k l : ComplexView) (plan : Numbers) (r s : ReportView) (flips other : List Flip) (pairs also : List (ℕ × ℕ)) → MayBeSearched k → MayBeSearched l → (a : AreEqual k l plan r s flips pairs) → (b : AreEqual k l plan r s other also) → a.between ≡ b.between
one_between k l plan r s flips other pairs also near far a b =
    let h : CanCompare r = can_compare k plan r near.limits.complex (fits k near.pseudomanifold) a.compared.first.ok in
    let g : CanCompare s = can_compare l plan s far.limits.complex (fits l far.pseudomanifold) a.compared.second.ok in
    one_least_map (told_end r) (told_end s) a.between b.between (renamed_is_complex r.names r.end h.named) (renamed_is_complex s.names s.end g.named) h.fit g.fit a.least b.least

-- and so is what they come to
same_equal : (k l : ComplexView) (plan : Numbers) (r s : ReportView) (status other : Status) (xs ys : List ℕ) → MayBeSearched k → MayBeSearched l → LeadsOver k l plan r s status xs → LeadsOver k l plan r s other ys → (status ≡ other) × (xs ≡ ys)
same_equal k l plan r s status other xs ys near far a b =
    let m : a.equal.between ≡ b.equal.between = one_between k l plan r s a.flips b.flips a.pairs b.pairs near far a.equal b.equal in
    let flips : a.flips ≡ b.flips = a.equal.joined.flips_are ∙ ap (joined r s) m ∙ sym b.equal.joined.flips_are in
    let pairs : a.pairs ≡ b.pairs = a.equal.joined.pairs_are ∙ ap (map_left s) m ∙ sym b.equal.joined.pairs_are in
    (a.is_yes ∙ sym b.is_yes, a.says ∙ (λ i. found_text (length r.rounds) l (flips i) (pairs i)) ∙ sym b.says)

same_coming : (k l : ComplexView) (plan : Numbers) (r s : ReportView) (status other : Status) (xs ys : List ℕ) → MayBeSearched k → MayBeSearched l → ComesTo k l plan r s status xs → ComesTo k l plan r s other ys → (status ≡ other) × (xs ≡ ys)
same_coming k l plan r s status other xs ys near far (inl a) (inl b) = same_equal k l plan r s status other xs ys near far a b
same_coming k l plan r s status other xs ys near far (inl a) (inr b) = absurd (b.spent.none a.equal.between a.equal.least.takes)
same_coming k l plan r s status other xs ys near far (inr a) (inl b) = absurd (a.spent.none b.equal.between b.equal.least.takes)
same_coming k l plan r s status other xs ys near far (inr a) (inr b) = (a.is_undecided ∙ sym b.is_undecided, a.says ∙ sym b.says)

same_search : (plan : Numbers) (k l : ComplexView) (status other : Status) (xs ys : List ℕ) (p q : Option Reports) → plan.rounds ≡ 0 → AreSearched k l plan status xs p → AreSearched k l plan other ys q → Same status other xs ys p q
same_search plan k l status other xs ys p q z a b =
    let r : ReportView = a.search.first in
    let s : ReportView = a.search.second in
    let e : (r ≡ b.search.first) × (s ≡ b.search.second) = same_reports k l plan r s b.search.first b.search.second status other xs ys z a.search.comes b.search.comes in
    let P : ReportView → Type 0 = λ x. ComesTo k l plan x b.search.second other ys in
    let Q : ReportView → Type 0 = λ y. ComesTo k l plan r y other ys in
    let o : (status ≡ other) × (xs ≡ ys) = same_coming k l plan r s status other xs ys a.near a.far a.search.comes (subst Q (sym e.1) (subst P (sym e.0) b.search.comes)) in
    record { statuses = o.0; texts = o.1; reports = a.search.reports ∙ (λ i. Some (e.0 i, e.1 i)) ∙ sym b.search.reports }

same_difference_told : (plan : Numbers) (k l : ComplexView) (status other : Status) (xs ys : List ℕ) (p q : Option Reports) → AreDifferent k l status xs p → AreDifferent k l other ys q → Same status other xs ys p q
same_difference_told plan k l status other xs ys p q a b = record {
  statuses = a.is_no ∙ sym b.is_no;
  texts = a.says ∙ same_difference k l a.difference b.difference a.first b.first ∙ sym b.says;
  reports = a.reports ∙ sym b.reports;
}

pub one_answer : (plan : Numbers) (x : Pair) (status other : Status) (xs ys : List ℕ) (p q : Option Reports) → plan.rounds ≡ 0 → IsEquivAnswer plan x status xs p → IsEquivAnswer plan x other ys q → Same status other xs ys p q
one_answer plan x status other xs ys p q z (inl a) (inl b) = same_difference_told plan x.0 x.1 status other xs ys p q a b
one_answer plan x status other xs ys p q z (inl a) (inr b) = absurd (no_difference x.0 x.1 a.difference b.alike a.first)
one_answer plan x status other xs ys p q z (inr a) (inl b) = absurd (no_difference x.0 x.1 b.difference a.alike b.first)
one_answer plan x status other xs ys p q z (inr a) (inr b) = same_search plan x.0 x.1 status other xs ys p q z a b
