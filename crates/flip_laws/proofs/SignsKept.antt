-- A legal flip keeps orientability.
use Rattle.std.proofs.Common.{◌≡◌, ◌≢◌, ℕ, ◌+◌, suc, Bool, true, false, not, nat_eq, nat_lt, ◌||◌, List, [], ◌∷◌, length, sym, ◌∙◌, ap, refl, arith, inl, inr, cond, filter}
use Rattle.std.specs.List.Sorted.{IsStrictlySortedBy}
use Rattle.std.specs.Ordering.{nat_cmp}
use Rattle.std.proofs.lemmas.Cmp.{nat_cmp_total}
use Rattle.std.proofs.lemmas.Bool.Decides.{nat_tests}
use Rattle.complex_core.specs.Labels.{has, holds, without}
use Rattle.complex_core.proofs.Sets.{above_head, above_tail, not_among}
use Rattle.complex_core.proofs.Faces.{among-has}
use Rattle.complex_core.proofs.Laws.{listed, holds_has, or_left, or_right, nat_eq_is, nat_eq_same}
use Rattle.pseudo_test.specs.Ridges.{count}
use Rattle.orient_test.specs.Signs.{odd}
use Rattle.orient_test.specs.Signs.{times, position, induced, IsOrientation, Orientable}
use Rattle.flip_laws.proofs.Exchange.{Exchange}
use Rattle.pseudo_test.proofs.Subsets.{it_is, without_swap, holds_without, holds_through, holds_less, lacking}
use Rattle.flip_laws.proofs.Counting.{in_a, in_b, apart, holds_a, count_kept}
use Rattle.flip_laws.proofs.RidgesKept.{Sized, ridge_size, ridge_two}
use Rattle.std.proofs.lemmas.Bool.{false_from_ne_true}
use Rattle.complex_core.proofs.SubsetLists.{two, clash}
use Rattle.complex_core.proofs.Members.{without_has, without_gone, in_without}
use Rattle.orient_test.proofs.Chains.{cancel}

-- ---- the position of a label without another

place_more : (z y : ℕ) (us vs : List ℕ) (c : ℕ) → position us y + c ≡ position vs y → position (z ∷ us) y + c ≡ position (z ∷ vs) y
place_more z y us vs c e = elim (nat_lt z y) as (λ t. length (cond t (z ∷ filter (λ v. nat_lt v y) us) (filter (λ v. nat_lt v y) us)) + c ≡ length (cond t (z ∷ filter (λ v. nat_lt v y) vs) (filter (λ v. nat_lt v y) vs))) [
  | true ↦ omega (arith, e)
  | false ↦ e
]

place_first : (x y : ℕ) (vs : List ℕ) → position vs y + cond (nat_lt x y) 1 0 ≡ position (x ∷ vs) y
place_first x y vs = elim (nat_lt x y) as (λ t. position vs y + cond t 1 0 ≡ length (cond t (x ∷ filter (λ v. nat_lt v y) vs) (filter (λ v. nat_lt v y) vs))) [ true ↦ omega arith | false ↦ omega arith ]

pub without_none : (ys : List ℕ) (x : ℕ) → has ys x ≡ false → without ys x ≡ ys
without_none [] x f = refl
without_none (y ∷ ys) x f =
    elim (nat_eq y x) as (λ b. (b || has ys x) ≡ false → cond (not b) (y ∷ without ys x) (without ys x) ≡ y ∷ ys) [
      | true ↦ λ g. clash true refl g
      | false ↦ λ g. ap (λ zs. y ∷ zs) (without_none ys x g)
    ] f

place_without : (w : List ℕ) (x y : ℕ) → IsStrictlySortedBy nat_cmp w → has w x ≡ true → position (without w x) y + cond (nat_lt x y) 1 0 ≡ position w y
place_without [] x y s t = clash true refl (sym t)
place_without (z ∷ zs) x y s t =
    elim (nat_eq z x) as (λ c. nat_eq z x ≡ c → (c || has zs x) ≡ true → position (cond (not c) (z ∷ without zs x) (without zs x)) y + cond (nat_lt x y) 1 0 ≡ position (z ∷ zs) y) [
      | true ↦ λ e _.
          let p : z ≡ x = nat_eq_is z x e in
          let out : has zs x ≡ false = ap (has zs) (sym p) ∙ sym (among-has z zs) ∙ not_among nat_cmp_total z zs (above_head nat_cmp z zs s) in
          ap (λ us. position us y + cond (nat_lt x y) 1 0) (without_none zs x out) ∙ place_first x y zs ∙ ap (λ v. position (v ∷ zs) y) (sym p)
      | false ↦ λ e r. place_more z y (without zs x) zs (cond (nat_lt x y) 1 0) (place_without zs x y (above_tail nat_cmp z zs s) r)
    ] refl t

-- ---- signs

pub odd_more : (n m : ℕ) (c : Bool) → n + cond c 1 0 ≡ m → odd n ≡ times c (odd m)
odd_more n m true e = let g : m ≡ suc n = omega (arith, e) in twice (odd n) ∙ sym (ap (λ v. not v) (ap odd g))
  where
    twice : (c : Bool) → c ≡ not (not c)
    twice true = refl
    twice false = refl
odd_more n m false e = let g : n ≡ m = omega (arith, e) in ap odd g

pub lt_turn : (x y : ℕ) → (x ≢ y) → nat_lt y x ≡ not (nat_lt x y)
lt_turn x y n = grind (arith, nat_tests)

-- the canonical sign of the facet of w without x
abbrev pub canon : List ℕ → ℕ → Bool
canon w x = odd (position w x)

-- the canonical signs of the facets without x and without y are opposite at the ridge without both
pub canon_opposite : (w : List ℕ) (x y : ℕ) → IsStrictlySortedBy nat_cmp w → has w x ≡ true → has w y ≡ true → (x ≢ y) → times (canon w x) (odd (position (without w x) y)) ≡ not (times (canon w y) (odd (position (without w y) x)))
canon_opposite w x y s p q n =
    (λ i. times (canon w x) (odd_more (position (without w x) y) (position w y) (nat_lt x y) (place_without w x y s p) i))
    ∙ signs (canon w x) (canon w y) (nat_lt x y)
    ∙ (λ i. not (times (canon w y) (times (sym (lt_turn x y n) i) (canon w x))))
    ∙ sym (λ i. not (times (canon w y) (odd_more (position (without w y) x) (position w x) (nat_lt y x) (place_without w y x s q) i)))
  where
    signs : (p q l : Bool) → times p (times l q) ≡ not (times q (times (not l) p))
    signs true true true = refl
    signs true true false = refl
    signs true false true = refl
    signs true false false = refl
    signs false true true = refl
    signs false true false = refl
    signs false false true = refl
    signs false false false = refl

-- the label of w that a facet lacks
abbrev pub lost : List ℕ → List ℕ → ℕ
lost [] f = 0
lost (z ∷ zs) f = cond (has f z) (lost zs f) z

lost_is : (v f : List ℕ) (y : ℕ) → has v y ≡ true → has f y ≡ false → ((z : ℕ) → has v z ≡ true → has f z ≡ false → z ≡ y) → lost v f ≡ y
lost_is [] f y t g h = clash true refl (sym t)
lost_is (z ∷ zs) f y t g h = elim (two (has f z)) [
  | inl e ↦
      let ny : nat_eq z y ≡ false = false_from_ne_true (nat_eq z y) (λ q. clash {P = ⊥} (has f y) (ap (has f) (sym (nat_eq_is z y q)) ∙ e) g) in
      ap (λ c. cond c (lost zs f) z) e ∙ lost_is zs f y (sym (ap (λ c. c || has zs y) ny) ∙ t) g (λ v p q. h v (or_right (nat_eq z v) (has zs v) p) q)
  | inr e ↦ ap (λ c. cond c (lost zs f) z) e ∙ h z (or_left (nat_eq z z) (has zs z) (nat_eq_same z)) e
]

pub lost_without : (w : List ℕ) (y : ℕ) → has w y ≡ true → lost w (without w y) ≡ y
lost_without w y t = lost_is w (without w y) y t (without_gone w y) (λ z p q. it_is w y z p q)

-- ---- the sign before a flip

tied_table : (t q u v : Bool) → times (times (not (times t v)) u) (times (not (times q v)) u) ≡ times t q
tied_table true true true true = refl
tied_table true true true false = refl
tied_table true true false true = refl
tied_table true true false false = refl
tied_table true false true true = refl
tied_table true false true false = refl
tied_table true false false true = refl
tied_table true false false false = refl
tied_table false true true true = refl
tied_table false true true false = refl
tied_table false true false true = refl
tied_table false true false false = refl
tied_table false false true true = refl
tied_table false false true false = refl
tied_table false false false true = refl
tied_table false false false false = refl

tied : (s p t q u v : Bool) → times s u ≡ not (times t v) → times p u ≡ not (times q v) → times s p ≡ times t q
tied s p t q u v e g = (λ i. times (cancel s u (not (times t v)) e i) (cancel p u (not (times q v)) g i)) ∙ tied_table t q u v

new_table : (c q u v : Bool) → times (not (times c (times (not (times q v)) u))) u ≡ not (times (not (times c q)) v)
new_table true true true true = refl
new_table true true true false = refl
new_table true true false true = refl
new_table true true false false = refl
new_table true false true true = refl
new_table true false true false = refl
new_table true false false true = refl
new_table true false false false = refl
new_table false true true true = refl
new_table false true true false = refl
new_table false true false true = refl
new_table false true false false = refl
new_table false false true true = refl
new_table false false true false = refl
new_table false false false true = refl
new_table false false false false = refl

both_new : (c p q u v : Bool) → times p u ≡ not (times q v) → times (not (times c p)) u ≡ not (times (not (times c q)) v)
both_new c p q u v e = (λ i. times (not (times c (cancel p u (not (times q v)) e i))) u) ∙ new_table c q u v

mixed_table : (c y u v : Bool) → times (not (times c (times (not (times y v)) u))) u ≡ times (times c y) v
mixed_table true true true true = refl
mixed_table true true true false = refl
mixed_table true true false true = refl
mixed_table true true false false = refl
mixed_table true false true true = refl
mixed_table true false true false = refl
mixed_table true false false true = refl
mixed_table true false false false = refl
mixed_table false true true true = refl
mixed_table false true true false = refl
mixed_table false true false true = refl
mixed_table false true false false = refl
mixed_table false false true true = refl
mixed_table false false true false = refl
mixed_table false false false true = refl
mixed_table false false false false = refl

one_new : (c q y u v : Bool) → times q u ≡ not (times y v) → times (not (times c q)) u ≡ times (times c y) v
one_new c q y u v e = (λ i. times (not (times c (cancel q u (not (times y v)) e i))) u) ∙ mixed_table c y u v

not_twice : (a b : Bool) → a ≡ not b → b ≡ not a
not_twice true true e = e
not_twice true false e = refl
not_twice false true e = refl
not_twice false false e = sym (sym e)

module _ (fs gs : List (List ℕ)) (a b w : List ℕ) (e : Exchange fs gs a b w) (s : List ℕ → Bool) (o : IsOrientation fs s) where
  abbrev x0 : ℕ
  x0 = e.some_b.0

  -- the given sign of a removed facet, times its canonical sign
  abbrev c0 : Bool
  c0 = times (s (without w e.some_b.0)) (canon w e.some_b.0)

  differ : (x y : ℕ) → has w x ≡ true → (x ≢ y) → has (without w y) x ≡ true
  differ x y t n = in_without w y x t n

  apart_facets : (x y : ℕ) → has w x ≡ true → (x ≢ y) → without w x ≢ without w y
  apart_facets x y t n q = clash {P = ⊥} (has (without w x) x) (ap (λ m. has m x) q ∙ in_without w y x t n) (without_gone w x)

  -- it is the same for each of them
  one_sign : (x : ℕ) → has b x ≡ true → times (s (without w x)) (canon w x) ≡ c0
  one_sign x t = elim (two (nat_eq x x0)) [
    | inl q ↦ ap (λ v. times (s (without w v)) (canon w v)) (nat_eq_is x x0 q)
    | inr q ↦
        let n : x ≢ x0 = λ p. clash {P = ⊥} (nat_eq x x0) (ap (nat_eq x) (sym p) ∙ nat_eq_same x) q in
        let m : x0 ≢ x = λ p. n (sym p) in
        let wx : has w x ≡ true = in_b fs a b w e.old x t in
        let w0 : has w x0 ≡ true = in_b fs a b w e.old x0 e.some_b.1 in
        let f0 : has (without w x) x0 ≡ true = in_without w x x0 w0 m in
        let g0 : has (without w x0) x ≡ true = in_without w x0 x wx n in
        let ra : holds (without (without w x) x0) a ≡ true = holds_less (without w x) a x0 (holds_a fs a b w e.old x t) (e.new.apart x0 e.some_b.1) in
        let r2 : count fs (without (without w x) x0) ≡ 2 = ridge_two fs a b w (without (without w x) x0) e.old (record { facet = without w x; label = x0; there = e.old.was x t; used = f0; is = refl }) ra in
        let p : induced s (without w x) x0 ≡ not (induced s (without w x0) x) = o.opposite (without w x) (without w x0) x0 x (e.old.was x t) (e.old.was x0 e.some_b.1) f0 g0 (apart_facets x x0 wx n) (without_swap w x x0 e.old.labels) r2 in
        tied (s (without w x)) (canon w x) (s (without w x0)) (canon w x0) (odd (position (without w x) x0)) (odd (position (without w x0) x)) p (canon_opposite w x x0 e.old.labels wx w0 n)
  ]

  sign_old : (x : ℕ) → has b x ≡ true → s (without w x) ≡ times c0 (canon w x)
  sign_old x t = cancel (s (without w x)) (canon w x) c0 (one_sign x t)

  -- each added facet has -c times its canonical sign
  abbrev new_signs : List ℕ → Bool
  new_signs f = cond (holds f b) (not (times c0 (canon w (lost w f)))) (s f)

  sign_new : (y : ℕ) → has a y ≡ true → new_signs (without w y) ≡ not (times c0 (canon w y))
  sign_new y t =
      ap (λ v. cond v (not (times c0 (canon w (lost w (without w y))))) (s (without w y))) (holds_a gs b a w e.new y t)
      ∙ ap (λ v. not (times c0 (canon w v))) (lost_without w y (in_a fs a b w e.old y t))

  sign_same : (f : List ℕ) → holds f b ≡ false → new_signs f ≡ s f
  sign_same f q = ap (λ v. cond v (not (times c0 (canon w (lost w f)))) (s f)) q

  not_part : (f r v : List ℕ) → holds f r ≡ true → holds f v ≡ false → holds r v ≡ false
  not_part f r v p q = false_from_ne_true (holds r v) (λ t. clash {P = ⊥} (holds f v) (holds_through f r v p t) q)

  -- a ridge of a facet that stays lies in two facets before the flip too
  two_before : (f : List ℕ) (x : ℕ) → listed gs f ≡ true → holds f b ≡ false → has f x ≡ true → count gs (without f x) ≡ 2 → count fs (without f x) ≡ 2
  two_before f x t fb u n =
      let z : Sized w (without f x) = ridge_size gs b a w (without f x) e.new (record { facet = f; label = x; there = t; used = u; is = refl }) in
      count_kept fs gs a b w (without f x) e z.rises z.size (not_part f (without f x) a (holds_without f x) (e.new.free f t)) (not_part f (without f x) b (holds_without f x) fb) ∙ n

  stayed : (f : List ℕ) → listed gs f ≡ true → holds f b ≡ false → listed fs f ≡ true
  stayed f t fb = e.stays f (e.new.free f t) fb ∙ t

  -- a facet that stays, and an added one
  mixed : (f g : List ℕ) (x y : ℕ) → listed gs f ≡ true → listed gs g ≡ true → has f x ≡ true → has g y ≡ true → holds f b ≡ false → holds g b ≡ true → without f x ≡ without g y → count gs (without f x) ≡ 2 → induced new_signs f x ≡ not (induced new_signs g y)
  mixed f g x y t u fx gy fb gb r n =
      let q : (q : ℕ) × (has a q ≡ true) × (g ≡ without w q) = e.new.outs g u gb in
      at q.0 q.1 q.2
    where
      at : (q : ℕ) → has a q ≡ true → g ≡ without w q → induced new_signs f x ≡ not (induced new_signs g y)
      at q qa is =
          let rb : holds (without f x) b ≡ false = not_part f (without f x) b (holds_without f x) fb in
          let z : (z : ℕ) × (has b z ≡ true) × (has (without f x) z ≡ false) = lacking (without f x) b rb in
          let zg : has g z.0 ≡ true = holds_has g b z.0 gb z.1 in
          let zy : z.0 ≡ y = it_is g y z.0 zg (ap (λ m. has m z.0) (sym r) ∙ z.2) in
          let yb : has b y ≡ true = ap (has b) (sym zy) ∙ z.1 in
          let wy : has w y ≡ true = in_b fs a b w e.old y yb in
          let wq : has w q ≡ true = in_a fs a b w e.old q qa in
          let qy : q ≢ y = apart fs a b w e.old q y qa yb in
          let hq : has (without w y) q ≡ true = in_without w y q wq qy in
          let rh : without f x ≡ without (without w y) q = r ∙ ap (λ m. without m y) is ∙ without_swap w q y e.old.labels in
          let fh : f ≢ without w y = λ p. clash {P = ⊥} (holds f a) (ap (λ m. holds m a) p ∙ holds_a fs a b w e.old y yb) (e.new.free f t) in
          let opp : induced s f x ≡ not (induced s (without w y) q) = o.opposite f (without w y) x q (stayed f t fb) (e.old.was y yb) fx hq fh rh (two_before f x t fb fx n) in
          let new : induced new_signs g y ≡ times (not (times c0 (canon w q))) (odd (position (without w q) y)) = ap (λ m. induced new_signs m y) is ∙ ap (λ v. times v (odd (position (without w q) y))) (sign_new q qa) in
          let old : induced s (without w y) q ≡ times (times c0 (canon w y)) (odd (position (without w y) q)) = ap (λ v. times v (odd (position (without w y) q))) (sign_old y yb) in
          let same : times (not (times c0 (canon w q))) (odd (position (without w q) y)) ≡ times (times c0 (canon w y)) (odd (position (without w y) q)) = one_new c0 (canon w q) (canon w y) (odd (position (without w q) y)) (odd (position (without w y) q)) (canon_opposite w q y e.old.labels wq wy qy) in
          ap (λ v. times v (odd (position f x))) (sign_same f fb) ∙ opp ∙ ap not (old ∙ sym same ∙ sym new)

  -- two added facets
  added : (f g : List ℕ) (x y : ℕ) → listed gs f ≡ true → listed gs g ≡ true → has f x ≡ true → has g y ≡ true → holds f b ≡ true → holds g b ≡ true → (f ≢ g) → without f x ≡ without g y → induced new_signs f x ≡ not (induced new_signs g y)
  added f g x y t u fx gy fb gb n r =
      let p : (p : ℕ) × (has a p ≡ true) × (f ≡ without w p) = e.new.outs f t fb in
      let q : (q : ℕ) × (has a q ≡ true) × (g ≡ without w q) = e.new.outs g u gb in
      at p.0 q.0 p.1 q.1 p.2 q.2
    where
      at : (p q : ℕ) → has a p ≡ true → has a q ≡ true → f ≡ without w p → g ≡ without w q → induced new_signs f x ≡ not (induced new_signs g y)
      at p q pa qa fp gq =
          let pq : p ≢ q = λ m. n (fp ∙ ap (without w) m ∙ sym gq) in
          let wp : has w p ≡ true = in_a fs a b w e.old p pa in
          let wq : has w q ≡ true = in_a fs a b w e.old q qa in
          let qf : has f q ≡ true = ap (λ m. has m q) fp ∙ in_without w p q wq (λ m. pq (sym m)) in
          let pg : has g p ≡ true = ap (λ m. has m p) gq ∙ in_without w q p wp pq in
          let gone_q : has (without f x) q ≡ false = false_from_ne_true (has (without f x) q) (λ m. clash {P = ⊥} (has g q) (without_has g y q (ap (λ v. has v q) (sym r) ∙ m)) (ap (λ v. has v q) gq ∙ without_gone w q)) in
          let gone_p : has (without g y) p ≡ false = false_from_ne_true (has (without g y) p) (λ m. clash {P = ⊥} (has f p) (without_has f x p (ap (λ v. has v p) r ∙ m)) (ap (λ v. has v p) fp ∙ without_gone w p)) in
          let qx : q ≡ x = it_is f x q qf gone_q in
          let py : p ≡ y = it_is g y p pg gone_p in
          let left : induced new_signs f x ≡ times (not (times c0 (canon w p))) (odd (position (without w p) q)) = ap (λ v. induced new_signs f v) (sym qx) ∙ ap (λ m. induced new_signs m q) fp ∙ ap (λ v. times v (odd (position (without w p) q))) (sign_new p pa) in
          let right : induced new_signs g y ≡ times (not (times c0 (canon w q))) (odd (position (without w q) p)) = ap (λ v. induced new_signs g v) (sym py) ∙ ap (λ m. induced new_signs m p) gq ∙ ap (λ v. times v (odd (position (without w q) p))) (sign_new q qa) in
          left ∙ both_new c0 (canon w p) (canon w q) (odd (position (without w p) q)) (odd (position (without w q) p)) (canon_opposite w p q e.old.labels wp wq pq) ∙ ap not (sym right)

  new_orientation : IsOrientation gs new_signs
  new_orientation = record {
    opposite = λ f g x y t u fx gy n r c. elim (two (holds f b)) [
      | inl fb ↦ elim (two (holds g b)) [
        | inl gb ↦ added f g x y t u fx gy fb gb n r
        | inr gb ↦ not_twice (induced new_signs g y) (induced new_signs f x) (mixed g f y x u t gy fx gb fb (sym r) (ap (count gs) (sym r) ∙ c))
      ]
      | inr fb ↦ elim (two (holds g b)) [
        | inl gb ↦ mixed f g x y t u fx gy fb gb r c
        | inr gb ↦
            ap (λ v. times v (odd (position f x))) (sign_same f fb)
            ∙ o.opposite f g x y (stayed f t fb) (stayed g u gb) fx gy n r (two_before f x t fb fx c)
            ∙ ap (λ v. not (times v (odd (position g y)))) (sym (sign_same g gb))
      ]
    ];
  }

  pub oriented : Orientable gs
  oriented = record { signs = new_signs; is = new_orientation }

-- a legal flip keeps orientability
pub orientable_kept : (fs gs : List (List ℕ)) (a b w : List ℕ) → Exchange fs gs a b w → Orientable fs → Orientable gs
orientable_kept fs gs a b w e o = oriented fs gs a b w e o.signs o.is
