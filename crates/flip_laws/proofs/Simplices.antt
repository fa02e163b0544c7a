-- The boundary of a simplex is closed, strongly connected and orientable.
use Rattle.std.proofs.Common.{◌≡◌, ◌≢◌, ℕ, ◌+◌, Bool, true, false, not, nat_eq, List, [], length, map, sym, ◌∙◌, ap, refl, subst}
use Rattle.std.specs.List.Sorted.{IsStrictlySortedBy}
use Rattle.std.specs.Ordering.{nat_cmp}
use Rattle.std.specs.Cmp.Lexicographic.{pointwise, nat_list_cmp_total}
use Rattle.complex_core.specs.Labels.{has, holds, without, face_cmp}
use Rattle.complex_core.specs.Rising.{rising}
use Rattle.complex_core.proofs.Sets.{sorted_rising}
use Rattle.complex_core.proofs.Laws.{holds_has, listed, same_sets_is, same_set_itself, listed-rising, found, some_has, sorted_without, length-without}
use Rattle.pseudo_test.specs.Ridges.{Closed}
use Rattle.pseudo_test.specs.Chains.{StronglyConnected}
use Rattle.orient_test.specs.Signs.{odd, times, position, induced, IsOrientation}
use Rattle.flip_laws.proofs.Exchange.{Half}
use Rattle.pseudo_test.proofs.Subsets.{it_is}
use Rattle.flip_laws.proofs.RidgesKept.{ridge_two, listed-map}
use Rattle.pseudo_test.proofs.Spreading.{here, join}
use Rattle.flip_laws.proofs.ChainsKept.{over_b}
use Rattle.flip_laws.proofs.SignsKept.{canon, canon_opposite, lost, lost_without}
use Rattle.std.proofs.lemmas.Bool.{false_from_ne_true}
use Rattle.complex_core.proofs.SubsetLists.{clash}
use Rattle.complex_core.proofs.Members.{without_has, without_gone, in_without}

side_of : (w : List ℕ) (f : List ℕ) → listed (rising face_cmp (map (λ x. without w x) w)) f ≡ true → (x : ℕ) × (has w x ≡ true) × (f ≡ without w x)
side_of w f t =
    let r : (x : ℕ) × (has w x ≡ true) × (pointwise nat_eq (without w x) f ≡ true) = found (λ x. pointwise nat_eq (without w x) f) w (sym (listed-rising (map (λ x. without w x) w) f ∙ listed-map w w f) ∙ t) in
    (r.0, r.1, sym (same_sets_is (without w r.0) f r.2))

lacks : (w : List ℕ) (x : ℕ) → has w x ≡ true → holds (without w x) w ≡ false
lacks w x t = false_from_ne_true (holds (without w x) w) (λ p. clash {P = ⊥} (has (without w x) x) (holds_has (without w x) w x p t) (without_gone w x))

-- the boundary is what a flip (∅, w) would take out
abbrev pub simplex_boundary : List ℕ → List (List ℕ)
simplex_boundary w = rising face_cmp (map (λ x. without w x) w)

pub half_of : (w : List ℕ) → IsStrictlySortedBy nat_cmp w → Half (simplex_boundary w) [] w w
half_of w s = record {
  rises = sorted_rising nat_list_cmp_total (map (λ x. without w x) w);
  facets = λ f t. let p : (x : ℕ) × (has w x ≡ true) × (f ≡ without w x) = side_of w f t in let P : List ℕ → Type 0 = λ g. IsStrictlySortedBy nat_cmp g × (length g + 1 ≡ length w) in subst P (sym p.2) (sorted_without w p.0 s, length-without w p.0 s p.1);
  free = λ f t. let p : (x : ℕ) × (has w x ≡ true) × (f ≡ without w x) = side_of w f t in ap (λ g. holds g w) p.2 ∙ lacks w p.0 p.1;
  outs = λ f t _. side_of w f t;
  was = λ x t. listed-rising (map (λ x. without w x) w) (without w x) ∙ listed-map w w (without w x) ∙ some_has (λ y. pointwise nat_eq (without w y) (without w x)) w x t (same_set_itself (without w x));
  apart = λ z t. clash true refl (sym t);
  labels = s;
  both = λ z. refl;
}

module _ (w : List ℕ) (s : IsStrictlySortedBy nat_cmp w) where
  pub closed_of : Closed (simplex_boundary w)
  closed_of = record { two = λ r g. ridge_two (simplex_boundary w) [] w w r (half_of w s) g refl }

  pub strong_of : StronglyConnected (simplex_boundary w)
  strong_of = record {
    joined = λ f g t u.
        let p : (x : ℕ) × (has w x ≡ true) × (f ≡ without w x) = side_of w f t in
        let q : (x : ℕ) × (has w x ≡ true) × (g ≡ without w x) = side_of w g u in
        join (simplex_boundary w) f (without w p.0) g (here (simplex_boundary w) f (without w p.0) p.2) (join (simplex_boundary w) (without w p.0) (without w q.0) g (over_b (simplex_boundary w) [] w w (half_of w s) p.0 q.0 p.1 q.1) (here (simplex_boundary w) (without w q.0) g (sym q.2)));
  }

  abbrev pub signs_of : List ℕ → Bool
  signs_of f = canon w (lost w f)

  pub orientation_of : IsOrientation (simplex_boundary w) signs_of
  orientation_of = record {
    opposite = λ f g x y t u fx gy n r c.
        let p : (x : ℕ) × (has w x ≡ true) × (f ≡ without w x) = side_of w f t in
        let q : (x : ℕ) × (has w x ≡ true) × (g ≡ without w x) = side_of w g u in
        at f g x y p.0 q.0 p.1 q.1 p.2 q.2 n r;
  }
    where
      at : (f g : List ℕ) (x y p q : ℕ) → has w p ≡ true → has w q ≡ true → f ≡ without w p → g ≡ without w q → (f ≢ g) → without f x ≡ without g y → induced signs_of f x ≡ not (induced signs_of g y)
      at f g x y p q wp wq fp gq n r =
          let pq : p ≢ q = λ m. n (fp ∙ ap (without w) m ∙ sym gq) in
          let qf : has f q ≡ true = ap (λ m. has m q) fp ∙ in_without w p q wq (λ m. pq (sym m)) in
          let pg : has g p ≡ true = ap (λ m. has m p) gq ∙ in_without w q p wp pq in
          let gone_q : has (without f x) q ≡ false = false_from_ne_true (has (without f x) q) (λ m. clash {P = ⊥} (has g q) (without_has g y q (ap (λ v. has v q) (sym r) ∙ m)) (ap (λ v. has v q) gq ∙ without_gone w q)) in
          let gone_p : has (without g y) p ≡ false = false_from_ne_true (has (without g y) p) (λ m. clash {P = ⊥} (has f p) (without_has f x p (ap (λ v. has v p) r ∙ m)) (ap (λ v. has v p) fp ∙ without_gone w p)) in
          let qx : q ≡ x = it_is f x q qf gone_q in
          let py : p ≡ y = it_is g y p pg gone_p in
          let left : induced signs_of f x ≡ times (canon w p) (odd (position (without w p) q)) = ap (λ v. induced signs_of f v) (sym qx) ∙ ap (λ m. induced signs_of m q) fp ∙ ap (λ v. times (canon w v) (odd (position (without w p) q))) (lost_without w p wp) in
          let right : induced signs_of g y ≡ times (canon w q) (odd (position (without w q) p)) = ap (λ v. induced signs_of g v) (sym py) ∙ ap (λ m. induced signs_of m p) gq ∙ ap (λ v. times (canon w v) (odd (position (without w q) p))) (lost_without w q wq) in
          left ∙ canon_opposite w p q s wp wq pq ∙ ap not (sym right)
