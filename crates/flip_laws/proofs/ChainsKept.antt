-- A legal flip keeps strong connectedness.
use Rattle.std.proofs.Common.{◌≡◌, ◌≢◌, ℕ, true, false, nat_eq, List, [], ◌∷◌, sym, ◌∙◌, ap, refl, inl, inr, cond}
use Rattle.complex_core.specs.Labels.{has, holds, without}
use Rattle.complex_core.proofs.Laws.{listed, nat_eq_is, nat_eq_same}
use Rattle.pseudo_test.specs.Ridges.{IsRidge}
use Rattle.pseudo_test.specs.Chains.{Near, Linked, Joined, StronglyConnected}
use Rattle.pseudo_test.proofs.Spreading.{here, step, join, near_back}
use Rattle.flip_laws.proofs.Exchange.{Half, Exchange, turned}
use Rattle.pseudo_test.proofs.Subsets.{holds_without, holds_through, holds_less, lacking}
use Rattle.flip_laws.proofs.Counting.{in_b, holds_a}
use Rattle.flip_laws.proofs.RidgesKept.{ridge_was}
use Rattle.std.proofs.lemmas.Bool.{false_from_ne_true}
use Rattle.complex_core.proofs.SubsetLists.{two, clash}
use Rattle.complex_core.proofs.Members.{without_gone, in_without}

not_part : (f r a : List ℕ) → holds f r ≡ true → holds f a ≡ false → holds r a ≡ false
not_part f r a p q = false_from_ne_true (holds r a) (λ t. clash {P = ⊥} (holds f a) (holds_through f r a p t) q)

-- two facets over B are neighbours, or one
pub over_b : (gs : List (List ℕ)) (b a w : List ℕ) → Half gs b a w → (y z : ℕ) → has a y ≡ true → has a z ≡ true → Joined gs (without w y) (without w z)
over_b gs b a w h y z p q = elim (two (nat_eq z y)) [
  | inl e ↦ here gs (without w y) (without w z) (ap (without w) (sym (nat_eq_is z y e)))
  | inr e ↦
      let zy : z ≢ y = λ m. clash {P = ⊥} (nat_eq z y) (ap (λ c. nat_eq z c) (sym m) ∙ nat_eq_same z) e in
      step gs (without w y) (without w z) (h.was z q) (record {
        ridge = without (without w y) z;
        is = record { facet = without w y; label = z; there = h.was y p; used = in_without w y z (in_b gs b a w h z q) zy; is = refl };
        first = holds_without (without w y) z;
        second = holds_less w (without (without w y) z) z (holds_through w (without w y) (without (without w y) z) (holds_without w y) (holds_without (without w y) z)) (without_gone (without w y) z);
      })
]

module _ (fs gs : List (List ℕ)) (a b w : List ℕ) (e : Exchange fs gs a b w) where
  abbrev y0 : ℕ
  y0 = e.some_a.0

  -- where a facet goes
  abbrev goes : List ℕ → List ℕ
  goes f = cond (holds f a) (without w y0) f

  goes_new : (f : List ℕ) → holds f a ≡ true → goes f ≡ without w y0
  goes_new f t = ap (λ c. cond c (without w y0) f) t

  goes_same : (f : List ℕ) → holds f a ≡ false → goes f ≡ f
  goes_same f t = ap (λ c. cond c (without w y0) f) t

  ridge_new : (f r : List ℕ) → listed fs f ≡ true → holds f a ≡ false → holds f r ≡ true → IsRidge fs r → IsRidge gs r
  ridge_new f r t q p g = (ridge_was gs fs b a w r (turned fs gs a b w e) g (not_part f r a p q)).0

  stays : (f : List ℕ) → listed fs f ≡ true → holds f a ≡ false → listed gs f ≡ true
  stays f t q = sym (e.stays f q (e.old.free f t)) ∙ t

  -- a facet that stays, beside one that goes
  beside_new : (f g : List ℕ) → listed fs f ≡ true → listed fs g ≡ true → Near fs f g → holds f a ≡ false → holds g a ≡ true → (y : ℕ) × (has a y ≡ true) × Near gs f (without w y)
  beside_new f g t u n p q =
      let x : (x : ℕ) × (has b x ≡ true) × (g ≡ without w x) = e.old.outs g u q in
      let y : (y : ℕ) × (has a y ≡ true) × (has n.ridge y ≡ false) = lacking n.ridge a (not_part f n.ridge a n.first p) in
      let wr : holds w n.ridge ≡ true = holds_through w (without w x.0) n.ridge (holds_without w x.0) (ap (λ m. holds m n.ridge) (sym x.2) ∙ n.second) in
      (y.0, y.1, record { ridge = n.ridge; is = ridge_new f n.ridge t p n.first n.is; first = n.first; second = holds_less w n.ridge y.0 wr y.2 })

  moved : (f g : List ℕ) → listed fs f ≡ true → listed fs g ≡ true → Near fs f g → Joined gs (goes f) (goes g)
  moved f g t u n = elim (two (holds f a)) [
    | inl p ↦ elim (two (holds g a)) [
      | inl q ↦ here gs (goes f) (goes g) (goes_new f p ∙ sym (goes_new g q))
      | inr q ↦
          let y : (y : ℕ) × (has a y ≡ true) × Near gs g (without w y) = beside_new g f u t (near_back fs f g n) q p in
          let j : Joined gs (without w y0) g = join gs (without w y0) (without w y.0) g (over_b gs b a w e.new y0 y.0 e.some_a.1 y.1) (step gs (without w y.0) g (stays g u q) (near_back gs g (without w y.0) y.2)) in
          both (goes f) (goes g) (without w y0) g (goes_new f p) (goes_same g q) j
    ]
    | inr p ↦ elim (two (holds g a)) [
      | inl q ↦
          let y : (y : ℕ) × (has a y ≡ true) × Near gs f (without w y) = beside_new f g t u n p q in
          let j : Joined gs f (without w y0) = join gs f (without w y.0) (without w y0) (step gs f (without w y.0) (e.new.was y.0 y.1) y.2) (over_b gs b a w e.new y.0 y0 y.1 e.some_a.1) in
          both (goes f) (goes g) f (without w y0) (goes_same f p) (goes_new g q) j
      | inr q ↦
          both (goes f) (goes g) f g (goes_same f p) (goes_same g q) (step gs f g (stays g u q) (record { ridge = n.ridge; is = ridge_new f n.ridge t p n.first n.is; first = n.first; second = n.second }))
    ]
  ]
    where
      both : (f g f' g' : List ℕ) → f ≡ f' → g ≡ g' → Joined gs f' g' → Joined gs f g
      both f g f' g' p q j = join gs f f' g (here gs f f' p) (join gs f' g' g j (here gs g' g (sym q)))

  moved_all : (f g : List ℕ) (cs : List (List ℕ)) → listed fs f ≡ true → Linked fs f cs g → Joined gs (goes f) (goes g)
  moved_all f g [] t p = here gs (goes f) (goes g) (ap goes p)
  moved_all f g (c ∷ cs) t p = join gs (goes f) (goes c) (goes g) (moved f c t p.0 p.1) (moved_all c g cs p.0 p.2)

  -- each facet after the flip is joined with where some facet goes
  comes : (g : List ℕ) → listed gs g ≡ true → (f : List ℕ) × (listed fs f ≡ true) × Joined gs g (goes f) × Joined gs (goes f) g
  comes g t = elim (two (holds g b)) [
    | inl p ↦
        let y : (y : ℕ) × (has a y ≡ true) × (g ≡ without w y) = e.new.outs g t p in
        let x : (x : ℕ) × (has b x ≡ true) = e.some_b in
        let m : goes (without w x.0) ≡ without w y0 = goes_new (without w x.0) (holds_a fs a b w e.old x.0 x.1) in (
          without w x.0,
          e.old.was x.0 x.1,
          join gs g (without w y.0) (goes (without w x.0)) (here gs g (without w y.0) y.2) (join gs (without w y.0) (without w y0) (goes (without w x.0)) (over_b gs b a w e.new y.0 y0 y.1 e.some_a.1) (here gs (without w y0) (goes (without w x.0)) (sym m))),
          join gs (goes (without w x.0)) (without w y0) g (here gs (goes (without w x.0)) (without w y0) m) (join gs (without w y0) (without w y.0) g (over_b gs b a w e.new y0 y.0 e.some_a.1 y.1) (here gs (without w y.0) g (sym y.2))),
        )
    | inr p ↦
        let q : holds g a ≡ false = e.new.free g t in
        (g, e.stays g q p ∙ t, here gs g (goes g) (sym (goes_same g q)), here gs (goes g) g (goes_same g q))
  ]

  -- a legal flip keeps strong connectedness
  pub strong_kept : StronglyConnected fs → StronglyConnected gs
  strong_kept s = record {
    joined = λ f g t u.
        let p : (f' : List ℕ) × (listed fs f' ≡ true) × Joined gs f (goes f') × Joined gs (goes f') f = comes f t in
        let q : (g' : List ℕ) × (listed fs g' ≡ true) × Joined gs g (goes g') × Joined gs (goes g') g = comes g u in
        let j : Joined fs p.0 q.0 = s.joined p.0 q.0 p.1 q.1 in
        join gs f (goes p.0) g p.2 (join gs (goes p.0) (goes q.0) g (moved_all p.0 q.0 j.chain p.1 j.linked) q.3);
  }
