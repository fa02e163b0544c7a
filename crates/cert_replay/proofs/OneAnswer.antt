-- A certificate has one answer, and it is Valid exactly where the certificate shows what it states.
use Rattle.std.proofs.Common.{◌≡◌, ℕ, ◌+◌, inl, inr, Result, Ok, Err, IfOk, List, [], ◌∷◌, ◌++◌, length, Some, sym, ◌∙◌, ap, refl, subst}
use Rattle.std.specs.List.{AllByRecursion}
use Rattle.complex_core.specs.Complexes.{ComplexView}
use Rattle.flip_rules.specs.Boundaries.{IsBoundary}
use Rattle.flip_rules.specs.Certificates.{SphereCert, IsFirstIllegal}
use Rattle.flip_rules.specs.declared.flip.Flip.{Flip}
use Rattle.flip_rules.specs.declared.flip.Illegal.{Illegal}
use Rattle.flip_rules.proofs.Replays.{never_both, first_is_one}
use Rattle.cert_text.specs.Statements.{OfVertex, Statement, Sphere, Equal, Manifold}
use Rattle.cert_replay.specs.Answers.{IsTakenTo, link_at, ShowsLink, ManifoldCert, Certifies, EndsAsStated, EndsElsewhere, IsListAnswer, all_flips, IsFirstOpen, LinkBreaks, LinkEndsElsewhere, IsListsAnswer, IsAnswer, IsValid, AnswerIsOne}
use Rattle.cert_replay.specs.declared.judge.Replayed.{Replayed}
use Rattle.cert_replay.specs.declared.judge.Replayed.TheVariants.{Valid, Bad, WrongEnd}

-- ---- a list of flips

module _ (P : ComplexView → Type 0) (k : ComplexView) (flips : List Flip) where
  stated_breaks : {n m number : ℕ} {reason : Illegal} → EndsAsStated P k flips n m → IsFirstIllegal k flips number reason → ⊥
  stated_breaks {number = number} {reason = reason} a b = never_both k a.end flips number reason b a.replays

  elsewhere_breaks : {number : ℕ} {reason : Illegal} → EndsElsewhere P k flips → IsFirstIllegal k flips number reason → ⊥
  elsewhere_breaks {number = number} {reason = reason} a b = never_both k a.end flips number reason b a.replays

  stated_elsewhere : {n m : ℕ} → EndsAsStated P k flips n m → EndsElsewhere P k flips → ⊥
  stated_elsewhere a b = let e : Some a.end ≡ Some b.end = sym a.replays ∙ b.replays in let s : a.end ≡ b.end = cc in b.other (subst P s a.stated)

  pub list_answer_one : (r s : Replayed) → IsListAnswer P k flips r → IsListAnswer P k flips s → r ≡ s
  list_answer_one (Valid n m) (Valid o p) a b =
      let e : Some a.end ≡ Some b.end = sym a.replays ∙ b.replays in
      let s : a.end ≡ b.end = cc in
      let x : n ≡ o = a.counted ∙ sym b.counted in
      let y : m ≡ p = a.left ∙ ap (λ (l : ComplexView). length l.facets) s ∙ sym b.left in
      λ i. Valid (x i) (y i)
  list_answer_one (Valid n m) (Bad o e) a b = absurd (stated_breaks a b)
  list_answer_one (Valid n m) WrongEnd a b = absurd (stated_elsewhere a b)
  list_answer_one (Bad o e) (Valid n m) a b = absurd (stated_breaks b a)
  list_answer_one (Bad n e) (Bad o f) a b = let s : (n ≡ o) × (e ≡ f) = first_is_one k flips n o e f a b in λ i. Bad (s.0 i) (s.1 i)
  list_answer_one (Bad o e) WrongEnd a b = absurd (elsewhere_breaks b a)
  list_answer_one WrongEnd (Valid n m) a b = absurd (stated_elsewhere b a)
  list_answer_one WrongEnd (Bad o e) a b = absurd (elsewhere_breaks a b)
  list_answer_one WrongEnd WrongEnd a b = refl

-- ---- the lists of a manifold

shows_breaks : (k : ComplexView) (flips : List Flip) (number : ℕ) (reason : Illegal) → SphereCert k flips → IsFirstIllegal k flips number reason → ⊥
shows_breaks k flips number reason c b = never_both k c.end flips number reason b c.replays

shows_elsewhere : (k : ComplexView) (flips : List Flip) → SphereCert k flips → EndsElsewhere IsBoundary k flips → ⊥
shows_elsewhere k flips c b = let e : Some c.end ≡ Some b.end = sym c.replays ∙ b.replays in let s : c.end ≡ b.end = cc in b.other (subst IsBoundary s c.boundary)

all_there : {X : Type 0} (P : X → Type 0) (xs ys : List X) (x : X) → AllByRecursion P (xs ++ x ∷ ys) → P x
all_there P [] ys x a = a.0
all_there P (z ∷ zs) ys x a = all_there P zs ys x a.1

-- the first member that fails stands at one position
module _ {X : Type 0} (P : X → Type 0) where
  pub same_split : (b c : List X) (x y : X) (u v : List X) → b ++ x ∷ u ≡ c ++ y ∷ v → AllByRecursion P b → AllByRecursion P c → (P x → ⊥) → (P y → ⊥) → (b ≡ c) × (x ≡ y)
  same_split [] [] x y u v e p q f g = let h : x ≡ y = cc in (refl, h)
  same_split [] (z ∷ zs) x y u v e p q f g = let h : z ≡ x = cc in absurd (f (subst P h q.0))
  same_split (z ∷ zs) [] x y u v e p q f g = let h : z ≡ y = cc in absurd (g (subst P h p.0))
  same_split (z ∷ zs) (w ∷ ws) x y u v e p q f g =
      let h : z ≡ w = cc in
      let t : zs ++ x ∷ u ≡ ws ++ y ∷ v = cc in
      let r : (zs ≡ ws) × (x ≡ y) = same_split zs ws x y u v t p.1 q.1 f g in
      (λ i. h i ∷ r.0 i, r.1)

open_fails : (k : ComplexView) (lists before : List OfVertex) (list : OfVertex) → IsFirstOpen k lists before list → (ShowsLink k list → ⊥) → ManifoldCert k lists → ⊥
open_fails k lists before list o f c = let P : List OfVertex → Type 0 = λ vs. AllByRecursion (ShowsLink k) vs in f (all_there (ShowsLink k) before o.after list (subst P o.are c.links))

same_open : (k : ComplexView) (lists b c : List OfVertex) (x y : OfVertex) → IsFirstOpen k lists b x → IsFirstOpen k lists c y → (ShowsLink k x → ⊥) → (ShowsLink k y → ⊥) → (b ≡ c) × (x ≡ y)
same_open k lists b c x y o p f g = same_split (ShowsLink k) b c x y o.after p.after (sym o.are ∙ p.are) o.shown p.shown f g

module _ (k : ComplexView) (lists : List OfVertex) where
  break_fails : {n : ℕ} {e : Illegal} (b : LinkBreaks k lists n e) → ShowsLink k b.list → ⊥
  break_fails {e = e} b c = shows_breaks (link_at k b.list.0) b.list.1 b.position e c b.breaks

  end_fails : (b : LinkEndsElsewhere k lists) → ShowsLink k b.list → ⊥
  end_fails b c = shows_elsewhere (link_at k b.list.0) b.list.1 c b.ends

  shown_breaks : {n : ℕ} {e : Illegal} → ManifoldCert k lists → LinkBreaks k lists n e → ⊥
  shown_breaks c b = open_fails k lists b.before b.list b.fails (break_fails b) c

  shown_ends : ManifoldCert k lists → LinkEndsElsewhere k lists → ⊥
  shown_ends c b = open_fails k lists b.before b.list b.fails (end_fails b) c

  shown_wrong : ManifoldCert k lists → IsListsAnswer k lists WrongEnd → ⊥
  shown_wrong c w = elim w [ inl n ↦ n c.vertices | inr b ↦ shown_ends c b ]

  break_ends : {n : ℕ} {e : Illegal} → LinkBreaks k lists n e → LinkEndsElsewhere k lists → ⊥
  break_ends {e = e} a b =
      let s : (a.before ≡ b.before) × (a.list ≡ b.list) = same_open k lists a.before b.before a.list b.list a.fails b.fails (break_fails a) (end_fails b) in
      let P : OfVertex → Type 0 = λ v. IsFirstIllegal (link_at k v.0) v.1 a.position e in
      never_both (link_at k b.list.0) b.ends.end b.list.1 a.position e (subst P s.1 a.breaks) b.ends.replays

  break_wrong : {n : ℕ} {e : Illegal} → LinkBreaks k lists n e → IsListsAnswer k lists WrongEnd → ⊥
  break_wrong a w = elim w [ inl n ↦ n a.fails.vertices | inr b ↦ break_ends a b ]

  break_one : (n o : ℕ) (e f : Illegal) → LinkBreaks k lists n e → LinkBreaks k lists o f → Bad n e ≡ Bad o f
  break_one n o e f a b =
      let s : (a.before ≡ b.before) × (a.list ≡ b.list) = same_open k lists a.before b.before a.list b.list a.fails b.fails (break_fails a) (break_fails b) in
      let P : OfVertex → Type 0 = λ v. IsFirstIllegal (link_at k v.0) v.1 a.position e in
      let t : (a.position ≡ b.position) × (e ≡ f) = first_is_one (link_at k b.list.0) b.list.1 a.position b.position e f (subst P s.1 a.breaks) b.breaks in
      let m : n ≡ o = a.counted ∙ (λ i. all_flips (s.0 i) + t.0 i) ∙ sym b.counted in
      λ i. Bad (m i) (t.1 i)

  pub lists_answer_one : (r s : Replayed) → IsListsAnswer k lists r → IsListsAnswer k lists s → r ≡ s
  lists_answer_one (Valid n m) (Valid o p) a b = let x : n ≡ o = a.counted ∙ sym b.counted in let y : m ≡ p = a.listed ∙ sym b.listed in λ i. Valid (x i) (y i)
  lists_answer_one (Valid n m) (Bad o e) a b = absurd (shown_breaks a.certificate b)
  lists_answer_one (Valid n m) WrongEnd a b = absurd (shown_wrong a.certificate b)
  lists_answer_one (Bad o e) (Valid n m) a b = absurd (shown_breaks b.certificate a)
  lists_answer_one (Bad n e) (Bad o f) a b = break_one n o e f a b
  lists_answer_one (Bad o e) WrongEnd a b = absurd (break_wrong a b)
  lists_answer_one WrongEnd (Valid n m) a b = absurd (shown_wrong b.certificate a)
  lists_answer_one WrongEnd (Bad o e) a b = absurd (break_wrong b a)
  lists_answer_one WrongEnd WrongEnd a b = refl

pub answer_one : AnswerIsOne
answer_one k (Sphere flips) r s a b = list_answer_one IsBoundary k flips r s a b
answer_one k (Equal target flips pairs) r s a b = list_answer_one (IsTakenTo pairs target) k flips r s a b
answer_one k (Manifold lists) r s a b = lists_answer_one k lists r s a b

-- ---- Valid exactly

pub valid_from : (k : ComplexView) (c : Statement) (r : Replayed) → IsAnswer k c r → IsValid r → Certifies k c
valid_from k (Sphere flips) (Valid n m) a v = record { end = a.end; replays = a.replays; boundary = a.stated }
valid_from k (Equal target flips pairs) (Valid n m) a v = record { end = a.end; replays = a.replays; reaches = a.stated }
valid_from k (Manifold lists) (Valid n m) a v = a.certificate
valid_from k c (Bad n e) a v = absurd v
valid_from k c WrongEnd a v = absurd v

pub valid_where : (k : ComplexView) (c : Statement) (r : Replayed) → IsAnswer k c r → Certifies k c → IsValid r
valid_where k c (Valid n m) a s = tt
valid_where k (Sphere flips) (Bad n e) a s = absurd (never_both k s.end flips n e a s.replays)
valid_where k (Sphere flips) WrongEnd a s = absurd (shows_elsewhere k flips s a)
valid_where k (Equal target flips pairs) (Bad n e) a s = absurd (never_both k s.end flips n e a s.replays)
valid_where k (Equal target flips pairs) WrongEnd a s = let e : Some s.end ≡ Some a.end = sym s.replays ∙ a.replays in let t : s.end ≡ a.end = cc in absurd (a.other (subst (IsTakenTo pairs target) t s.reaches))
valid_where k (Manifold lists) (Bad n e) a s = absurd (shown_breaks k lists s a)
valid_where k (Manifold lists) WrongEnd a s = absurd (shown_wrong k lists s a)

pub valid_iff : {E : Type 0} (k : ComplexView) (c : Statement) (r : Result Replayed E) → IfOk r (IsAnswer k c) → IfOk r (λ s. (IsValid s → Certifies k c) × (Certifies k c → IsValid s))
valid_iff k c (Ok s) a = (valid_from k c s a, valid_where k c s a)
valid_iff k c (Err e) a = a
