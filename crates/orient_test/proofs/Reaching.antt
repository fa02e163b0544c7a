-- How signs spread over the facets that walks reach.
use Rattle.std.proofs.Common.{◌≡◌, ℕ, ◌+◌, ◌<◌, ◌≤◌, true, false, List, [], ◌∷◌, length, get_or, Option, None, Some, sym, ◌∙◌, ap, subst, arith, inl, inr, length-append}
use Rattle.std.specs.Option.{MatchOption}
use Rattle.std.proofs.lemmas.Bool.{cases_lt}
use Rattle.complex_core.specs.Labels.{has}
use Rattle.complex_core.specs.Complexes.{is_facet}
use Rattle.orient_test.specs.declared.search.Reached.{Reached}
use Rattle.orient_test.specs.Signs.{times}
use Rattle.orient_test.specs.Walks.{Step, IsStep, turn}
use Rattle.orient_test.specs.Spreads.{at, given, IsTree, IsForced, IsPlaced, IsCrossed, IsFew, ComeEarlier}
use Rattle.orient_test.proofs.Trees.{at_front, given_place, given_new, tree_one, tree_earlier, few_start}
use Rattle.complex_core.proofs.Members.{place_of_label}

-- the steps from this facet lead to facets that have the forced signs
abbrev pub Forces : List (List ℕ) → List Reached → ℕ → Step → Type 0
Forces fs rs k s = given rs s.to ≡ Some (times (at rs k).turned (turn (at rs k).facet s))

pub record Growing (fs : List (List ℕ)) (start : List ℕ) (rs : List Reached) (places : List ℕ → Option ℕ) (next : ℕ) : Type 0 where
  pub tree : IsTree fs rs
  pub placed : IsPlaced rs places
  pub few : IsFew fs rs
  pub begins : given rs start ≡ Some false
  pub done : (k : ℕ) → k < next → k < length rs → (s : Step) → IsStep fs (at rs k).facet s → Forces fs rs k s

-- the same within the loop over the labels of the facet at a position
pub record Inner (fs : List (List ℕ)) (start : List ℕ) (rs : List Reached) (places : List ℕ → Option ℕ) (next : ℕ) (labels : List ℕ) (so_far : ℕ) : Type 0 where
  pub growing : Growing fs start rs places next
  pub inside : next < length rs
  pub is : labels ≡ (at rs next).facet
  pub before : (i : ℕ) → i < so_far → (s : Step) → IsStep fs (at rs next).facet s → s.left ≡ get_or labels i 0 → Forces fs rs next s

pub growing_start : (fs : List (List ℕ)) (start : List ℕ) (rs : List Reached) (places : List ℕ → Option ℕ) → is_facet fs start ≡ true → rs ≡ (record { facet = start; turned = false; from = 0 }) ∷ [] → IsPlaced rs places → Growing fs start rs places 0
growing_start fs start rs places t e p = record {
  tree = tree_one fs start rs t e;
  placed = p;
  few = few_start fs start rs t e;
  begins = ap (λ qs. given qs start) e ∙ given_new [] (record { facet = start; turned = false; from = 0 });
  done = λ k l. absurd (omega (arith, l));
}

-- what was forced stays forced
still : (fs : List (List ℕ)) (rs now : List Reached) (next label k : ℕ) (s : Step) → IsCrossed fs rs now next label → k < length rs → Forces fs rs k s → Forces fs now k s
still fs rs now next label k s c l f =
    let same : at now k ≡ at rs k = ap (λ qs. at qs k) c.grows ∙ at_front rs c.more k l in
    c.keeps s.to (times (at rs k).turned (turn (at rs k).facet s)) f ∙ sym (λ i. Some (times (same i).turned (turn (same i).facet s)))

earlier_step : (fs : List (List ℕ)) (rs now : List Reached) (next label k : ℕ) (s : Step) → IsCrossed fs rs now next label → k < length rs → IsStep fs (at now k).facet s → IsStep fs (at rs k).facet s
earlier_step fs rs now next label k s c l i =
    let same : at now k ≡ at rs k = ap (λ qs. at qs k) c.grows ∙ at_front rs c.more k l in
    let P : Reached → Type 0 = λ r. IsStep fs r.facet s in subst P same i

pub inner_next : (fs : List (List ℕ)) (start : List ℕ) (rs now : List Reached) (places now_places : List ℕ → Option ℕ) (next : ℕ) (labels : List ℕ) (j : ℕ) → Inner fs start rs places next labels j → IsCrossed fs rs now next (get_or labels j 0) → IsPlaced now now_places → Inner fs start now now_places next labels (j + 1)
inner_next fs start rs now places now_places next labels j n c p = record {
  growing = record {
    tree = c.tree;
    placed = p;
    few = c.few n.growing.few;
    begins = c.keeps start false n.growing.begins;
    done = λ k l m s i.
        let in_old : k < length rs = omega (arith, l, n.inside) in
        still fs rs now next (get_or labels j 0) k s c in_old (n.growing.done k l in_old s (earlier_step fs rs now next (get_or labels j 0) k s c in_old i));
  };
  inside = omega (arith, n.inside, ap length c.grows, length-append rs c.more);
  is = n.is ∙ sym (ap (λ (r : Reached). r.facet) (ap (λ qs. at qs next) c.grows ∙ at_front rs c.more next n.inside));
  before = λ i l s st e. elim (cases_lt i j) [
    | inl lt ↦ still fs rs now next (get_or labels j 0) next s c n.inside (n.before i lt s (earlier_step fs rs now next (get_or labels j 0) next s c n.inside st) e)
    | inr ge ↦
        let q : i ≡ j = omega (arith, l, ge) in
        let same : at now next ≡ at rs next = ap (λ qs. at qs next) c.grows ∙ at_front rs c.more next n.inside in
        c.forced s (earlier_step fs rs now next (get_or labels j 0) next s c n.inside st) (e ∙ ap (λ v. get_or labels v 0) q) ∙ sym (λ v. Some (times (same v).turned (turn (same v).facet s)))
  ];
}

pub inner_end : (fs : List (List ℕ)) (start : List ℕ) (rs : List Reached) (places : List ℕ → Option ℕ) (next : ℕ) (labels : List ℕ) (j : ℕ) → Inner fs start rs places next labels j → length labels ≤ j → Growing fs start rs places (next + 1)
inner_end fs start rs places next labels j n l = record {
  tree = n.growing.tree;
  placed = n.growing.placed;
  few = n.growing.few;
  begins = n.growing.begins;
  done = λ k h m s i. elim (cases_lt k next) [
    | inl lt ↦ n.growing.done k lt m s i
    | inr ge ↦
        let e : k ≡ next = omega (arith, h, ge) in
        let P : ℕ → Type 0 = λ v. IsStep fs (at rs v).facet s in
        let Q : ℕ → Type 0 = λ v. Forces fs rs v s in
        let st : IsStep fs (at rs next).facet s = subst P e i in
        let w : (v : ℕ) × (v < length labels) × (get_or labels v 0 ≡ s.left) = place_of_label labels s.left (ap (λ f. has f s.left) n.is ∙ st.left_used) in
        subst Q (sym e) (n.before w.0 (omega (arith, w.1, l)) s st (sym w.2))
  ];
}

pub spread_end : (fs : List (List ℕ)) (start : List ℕ) (rs : List Reached) (places : List ℕ → Option ℕ) (next : ℕ) → Growing fs start rs places next → length rs ≤ next → IsForced fs (given rs)
spread_end fs start rs places next g l f c s i h =
    let p : (k : ℕ) × (k < length rs) × ((at rs k).facet ≡ f) × ((at rs k).turned ≡ c) = given_place rs f c h in
    let P : List ℕ → Type 0 = λ m. IsStep fs m s in
    g.done p.0 (omega (arith, p.1, l)) p.1 s (subst P (sym p.2) i) ∙ (λ v. Some (times (p.3 v) (turn (p.2 v) s)))

pub met_some : {A : Type 0} (P : Type 0) (Q : A → Type 0) (o : Option A) (a : A) → MatchOption o P Q → o ≡ Some a → Q a
met_some {A} P Q o a m e = let R : Option A → Type 0 = λ v. MatchOption v P Q in let n : MatchOption (Some a) P Q = subst R e m in n

pub met_none : {A : Type 0} (P : Type 0) (Q : A → Type 0) (o : Option A) → MatchOption o P Q → o ≡ None → P
met_none {A} P Q o m e = let R : Option A → Type 0 = λ v. MatchOption v P Q in let n : MatchOption None P Q = subst R e m in n

pub still_earlier : (fs : List (List ℕ)) (rs now shown : List Reached) → IsTree fs rs → now ≡ rs → shown ≡ now → ComeEarlier shown
still_earlier fs rs now shown t e s = let P : List Reached → Type 0 = λ qs. ComeEarlier qs in subst P (sym (s ∙ e)) (tree_earlier fs rs t)
