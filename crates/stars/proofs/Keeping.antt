-- Lists that are decided again one after another.
use Rattle.std.proofs.Common.{◌≡◌, ◌≢◌, ℕ, ◌+◌, ◌<◌, ◌≤◌, true, false, nat_eq, List, [], length, get_or, set, sym, ◌∙◌, ap, refl, subst, arith, eq-eqb}
use Rattle.std.specs.List.Sorted.{IsStrictlySortedBy}
use Rattle.std.specs.Ordering.{nat_cmp}
use Rattle.std.proofs.lemmas.Bool.{true≢false}
use Rattle.std.proofs.lemmas.List.{length-set, get_or-set_same, get_or-set_other}
use Rattle.complex_core.specs.Labels.{face_cmp}
use Rattle.complex_core.proofs.Laws.{nat_eq_is}
use Rattle.stars.specs.StarViews.{VertexStar, IsStar}
use Rattle.stars.specs.Candidates.{IsListOf}
use Rattle.stars.specs.CandidateLists.{CandidateList, AreLists, ChangedWithin, list_after}
use Rattle.stars.proofs.Finding.{each_from}
use Rattle.stars.proofs.Listing.{kept_up, list_rises}

-- this is a list of the star
abbrev pub Fits : VertexStar → CandidateList → Type 0
Fits s l = IsListOf s l.index l.faces

-- the first ones are lists of the star now, the others of the star before
pub record Halfway (old now : VertexStar) (n : ℕ) (lists : List CandidateList) : Type 0 where
  pub done : (k : ℕ) (d : CandidateList) → k < n → k < length lists → Fits now (get_or lists k d)
  pub left : (k : ℕ) (d : CandidateList) → n ≤ k → k < length lists → Fits old (get_or lists k d)

same_or_other : (k n : ℕ) (P : Type 0) → (k ≡ n → P) → (k ≢ n → P) → P
same_or_other k n P f g = elim (nat_eq k n) as (λ b. nat_eq k n ≡ b → P) [
  | true ↦ λ e. f (nat_eq_is k n e)
  | false ↦ λ e. g (λ same. true≢false (sym (eq-eqb k n same) ∙ e))
] refl

pub halfway_goes_on : (old now : VertexStar) (n : ℕ) (lists : List CandidateList) (m : CandidateList) → n < length lists → Halfway old now n lists → Fits now m → Halfway old now (n + 1) (set lists n m)
halfway_goes_on old now n lists m l h fits = record {
  done = λ k d lk lg. same_or_other k n (Fits now (get_or (set lists n m) k d))
      (λ e. let P : ℕ → Type 0 = λ j. Fits now (get_or (set lists n m) j d) in subst P (sym e) (subst (Fits now) (sym (get_or-set_same lists n m d l)) fits))
      (λ e. subst (Fits now) (sym (get_or-set_other lists n k m d e)) (h.done k d (below k e lk) (inside k lg)));
  left = λ k d lk lg. subst (Fits old) (sym (get_or-set_other lists n k m d (above k lk))) (h.left k d (omega (arith, lk)) (inside k lg));
}
  where
    inside : (k : ℕ) → k < length (set lists n m) → k < length lists
    inside k g = omega (arith, g, length-set lists n m)

    below : (k : ℕ) → k ≢ n → k < n + 1 → k < n
    below k e g = omega (arith, e, g)

    above : (k : ℕ) → n + 1 ≤ k → k ≢ n
    above k g e = omega (arith, e, g)

pub halfway_ends : (old now : VertexStar) (n : ℕ) (lists : List CandidateList) → length lists ≤ n → Halfway old now n lists → AreLists now lists
halfway_ends old now n lists l h =
    let d : CandidateList = record { index = 0; faces = [] } in
    each_from (Fits now) lists d (λ i g. h.done i d (omega (arith, g, l)) g)

-- ---- one list

pub old_rises : (old : VertexStar) (l m : CandidateList) → l ≡ m → Fits old m → IsStrictlySortedBy face_cmp l.faces
old_rises old l m e f = let P : List (List ℕ) → Type 0 = λ fs. IsStrictlySortedBy face_cmp fs in subst P (sym (ap (λ (t : CandidateList). t.faces) e ∙ f.is)) (list_rises old m.index)

pub decided : (old now : VertexStar) (labels : List ℕ) (l m new : CandidateList) → IsStar old → IsStar now → IsStrictlySortedBy nat_cmp labels → ChangedWithin labels old now → l ≡ m → Fits old m → new.index ≡ l.index → new.faces ≡ list_after l.faces now l.index labels → Fits now new
decided old now labels l m new h g r c e f ei ef =
    let i : new.index ≡ m.index = ei ∙ ap (λ (t : CandidateList). t.index) e in
    let P : ℕ → Type 0 = λ j. IsListOf now j new.faces in
    subst P (sym i) (record {
      low = f.low;
      high = omega (arith, f.high, c.dim);
      is = kept_up old now m.index labels m.faces new.faces h g r c f.is (ef ∙ ap (λ (t : CandidateList). list_after t.faces now t.index labels) e);
    })
