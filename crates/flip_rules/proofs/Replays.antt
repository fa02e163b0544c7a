-- Flips one after another.
use Rattle.std.proofs.Common.{◌≡◌, ℕ, ◌+◌, ◌⊎◌, inl, inr, not, List, [], ◌∷◌, ◌++◌, length, get_or, drop, Result, Ok, Err, Option, Some, None, sym, ◌∙◌, ap, refl, subst, arith}
use Rattle.std.specs.List.{AllByRecursion}
use Rattle.std.proofs.lemmas.Option.{none-some, same_Some}
use Rattle.complex_core.specs.Labels.{holds, IsFace}
use Rattle.complex_core.specs.Complexes.{ComplexView, IsComplex}
use Rattle.complex_core.proofs.Sorting.{exchanged}
use Rattle.flip_rules.specs.Flips.{join_boundary, broken_rule, flipped, if_legal, replay, OfFaces, CanPut}
use Rattle.flip_rules.specs.Certificates.{IsFirstIllegal}
use Rattle.flip_rules.specs.Laws.{ReplayGoesOn, ReplayKeepsComplexes, inverse_list, ReplaysBack, ReplayDecides, FirstIllegalExcludes, FirstIllegalIsOne}
use Rattle.flip_rules.specs.declared.flip.Flip.{Flip}
use Rattle.flip_rules.specs.declared.flip.Illegal.{Illegal}
use Rattle.flip_rules.proofs.Legal.{can_put}
use Rattle.flip_rules.proofs.Back.{undoes}

-- where a legal flip leads
legal_first : (k m : ComplexView) (a b : List ℕ) (r : Result (Unit {0}) Illegal) (rest : Option ComplexView) → broken_rule k a b ≡ r → if_legal r rest ≡ Some m → (broken_rule k a b ≡ Ok tt) × (rest ≡ Some m)
legal_first k m a b (Ok u) rest e h = (e, h)
legal_first k m a b (Err x) rest e h = absurd (none-some m h)

-- the first flip of a replay that comes to an end is legal, and the others go on from there
pub first_flip : (k m : ComplexView) (f : Flip) (fs : List Flip) → replay k (f ∷ fs) ≡ Some m → (broken_rule k f.a f.b ≡ Ok tt) × (replay (flipped k f.a f.b) fs ≡ Some m)
first_flip k m f fs h = legal_first k m f.a f.b (broken_rule k f.a f.b) (replay (flipped k f.a f.b) fs) refl h

-- a legal flip, and others from there
pub replay_legal : (k : ComplexView) (f : Flip) (fs : List Flip) → broken_rule k f.a f.b ≡ Ok tt → replay k (f ∷ fs) ≡ replay (flipped k f.a f.b) fs
replay_legal k f fs e = ap (λ r. if_legal r (replay (flipped k f.a f.b) fs)) e

pub replay_illegal : (k : ComplexView) (f : Flip) (fs : List Flip) (x : Illegal) → broken_rule k f.a f.b ≡ Err x → replay k (f ∷ fs) ≡ None
replay_illegal k f fs x e = ap (λ r. if_legal r (replay (flipped k f.a f.b) fs)) e

pub replay-append : ReplayGoesOn
replay-append k m [] gs h = ap (λ l. replay l gs) (same_Some k m h)
replay-append k m (f ∷ fs) gs h =
    let p : (broken_rule k f.a f.b ≡ Ok tt) × (replay (flipped k f.a f.b) fs ≡ Some m) = first_flip k m f fs h in
    replay_legal k f (fs ++ gs) p.0 ∙ replay-append (flipped k f.a f.b) m fs gs p.1

-- one flip more at the end
pub replay_then : (k m : ComplexView) (fs : List Flip) (f : Flip) → replay k fs ≡ Some m → broken_rule m f.a f.b ≡ Ok tt → replay k (fs ++ f ∷ []) ≡ Some (flipped m f.a f.b)
replay_then k m fs f h e = replay-append k m fs (f ∷ []) h ∙ replay_legal m f [] e

-- the parts of a replay that comes to an end
pub replay_split : (k n : ComplexView) (fs gs : List Flip) → replay k (fs ++ gs) ≡ Some n → (m : ComplexView) × (replay k fs ≡ Some m) × (replay m gs ≡ Some n)
replay_split k n [] gs h = (k, refl, h)
replay_split k n (f ∷ fs) gs h =
    let p : (broken_rule k f.a f.b ≡ Ok tt) × (replay (flipped k f.a f.b) (fs ++ gs) ≡ Some n) = first_flip k n f (fs ++ gs) h in
    let r : (m : ComplexView) × (replay (flipped k f.a f.b) fs ≡ Some m) × (replay m gs ≡ Some n) = replay_split (flipped k f.a f.b) n fs gs p.1 in
    (r.0, replay_legal k f fs p.0 ∙ r.1, r.2)

-- ---- what a replay keeps

pub replay_dim : (k m : ComplexView) (fs : List Flip) → replay k fs ≡ Some m → m.dim ≡ k.dim
replay_dim k m [] h = ap (λ l. l.dim) (sym (same_Some k m h))
replay_dim k m (f ∷ fs) h = replay_dim (flipped k f.a f.b) m fs (first_flip k m f fs h).1

pub complex_flipped : (k : ComplexView) (a b : List ℕ) → IsComplex k → IsFace a → IsFace b → broken_rule k a b ≡ Ok tt → IsComplex (flipped k a b)
complex_flipped k a b h fa fb e = let c : CanPut k.dim a b = can_put k a b h fa fb e in exchanged (λ f. not (holds f a)) k.dim k.facets (join_boundary b a) h c.some c.pure

pub complex_replayed : (k m : ComplexView) (fs : List Flip) → IsComplex k → AllByRecursion OfFaces fs → replay k fs ≡ Some m → IsComplex m
complex_replayed k m [] h faces r = subst IsComplex (same_Some k m r) h
complex_replayed k m (f ∷ fs) h faces r =
    let p : (broken_rule k f.a f.b ≡ Ok tt) × (replay (flipped k f.a f.b) fs ≡ Some m) = first_flip k m f fs r in
    complex_replayed (flipped k f.a f.b) m fs (complex_flipped k f.a f.b h faces.0.first faces.0.second p.0) faces.1 p.1

pub keeps_complexes : ReplayKeepsComplexes
keeps_complexes k m fs h faces r = record { dim = replay_dim k m fs r; complex = complex_replayed k m fs h faces r }

-- the inverse list of a replay replays back
pub replays_back : ReplaysBack
replays_back k m [] h faces r = ap Some (sym (same_Some k m r))
replays_back k m (f ∷ fs) h faces r =
    let p : (broken_rule k f.a f.b ≡ Ok tt) × (replay (flipped k f.a f.b) fs ≡ Some m) = first_flip k m f fs r in
    let q : replay m (inverse_list fs) ≡ Some (flipped k f.a f.b) = replays_back (flipped k f.a f.b) m fs (complex_flipped k f.a f.b h faces.0.first faces.0.second p.0) faces.1 p.1 in
    let u : (broken_rule (flipped k f.a f.b) f.b f.a ≡ Ok tt) × (flipped (flipped k f.a f.b) f.b f.a ≡ k) = undoes k f.a f.b h.rising p.0 in
    replay_then m (flipped k f.a f.b) (inverse_list fs) (record { a = f.b; b = f.a }) q u.0 ∙ ap Some u.1

-- ---- the first illegal flip

-- the first flip is legal, and a later one is the first illegal one
later_illegal : (k : ComplexView) (f : Flip) (fs : List Flip) (n : ℕ) (e : Illegal) → broken_rule k f.a f.b ≡ Ok tt → IsFirstIllegal (flipped k f.a f.b) fs n e → IsFirstIllegal k (f ∷ fs) (n + 1) e
later_illegal k f fs n e legal i = record {
  before = f ∷ i.before;
  flip = i.flip;
  after = i.after;
  are = ap (λ gs. f ∷ gs) i.are;
  counted = omega (arith, i.counted);
  there = i.there;
  replays = replay_legal k f i.before legal ∙ i.replays;
  breaks = i.breaks;
}

-- how flips may end
abbrev Ends : ComplexView → List Flip → Type 0
Ends k fs = ((m : ComplexView) × (replay k fs ≡ Some m)) ⊎ ((n : ℕ) × (e : Illegal) × IsFirstIllegal k fs n e)

ends_later : (k : ComplexView) (f : Flip) (fs : List Flip) → broken_rule k f.a f.b ≡ Ok tt → Ends (flipped k f.a f.b) fs → Ends k (f ∷ fs)
ends_later k f fs legal (inl r) = inl (r.0, replay_legal k f fs legal ∙ r.1)
ends_later k f fs legal (inr r) = inr (r.0 + 1, r.1, later_illegal k f fs r.0 r.1 legal r.2)

ends_by : (k : ComplexView) (f : Flip) (fs : List Flip) (r : Result (Unit {0}) Illegal) → broken_rule k f.a f.b ≡ r → Ends (flipped k f.a f.b) fs → Ends k (f ∷ fs)
ends_by k f fs (Ok u) legal later = ends_later k f fs legal later
ends_by k f fs (Err x) breaks later = inr (1, x, record { before = []; flip = f; after = fs; are = refl; counted = refl; there = k; replays = refl; breaks = breaks })

pub decides_replay : ReplayDecides
decides_replay k [] = inl (k, refl)
decides_replay k (f ∷ fs) = ends_by k f fs (broken_rule k f.a f.b) refl (decides_replay (flipped k f.a f.b) fs)

pub never_both : FirstIllegalExcludes
never_both k m fs n e i h =
    none-some m (
    sym (replay_illegal i.there i.flip i.after e i.breaks)
    ∙ sym (replay-append k i.there i.before (i.flip ∷ i.after) i.replays)
    ∙ ap (replay k) (sym i.are)
    ∙ h
    )

abbrev reason_or : Illegal → Result (Unit {0}) Illegal → Illegal
reason_or d (Ok u) = d
reason_or d (Err e) = e

abbrev refused : Illegal → Result (Unit {0}) Illegal
refused e = Err e

same_reason : (e f : Illegal) → refused e ≡ refused f → e ≡ f
same_reason e f h = ap (reason_or e) h

same_first : (f g : Flip) (fs gs : List Flip) → f ∷ fs ≡ g ∷ gs → f ≡ g
same_first f g fs gs h = ap (λ hs. get_or hs 0 f) h

same_rest : (f g : Flip) (fs gs : List Flip) → f ∷ fs ≡ g ∷ gs → fs ≡ gs
same_rest f g fs gs h = ap (λ hs. drop 1 hs) h

-- a flip where a replay goes on isn't illegal there
goes_on : (k m : ComplexView) (f g : Flip) (gs : List Flip) (e : Illegal) → f ≡ g → broken_rule k f.a f.b ≡ Err e → replay k (g ∷ gs) ≡ Some m → ⊥
goes_on k m f g gs e same breaks h = let P : Flip → Type 0 = λ q. broken_rule k q.a q.b ≡ Err e in none-some m (sym (replay_illegal k g gs e (subst P same breaks)) ∙ h)

same_end : (k l m : ComplexView) (before front : List Flip) (f g : Flip) (fs gs : List Flip) (e x : Illegal) → before ++ f ∷ fs ≡ front ++ g ∷ gs → replay k before ≡ Some l → replay k front ≡ Some m → broken_rule l f.a f.b ≡ Err e → broken_rule m g.a g.b ≡ Err x → (length before ≡ length front) × (e ≡ x)
same_end k l m [] [] f g fs gs e x same h i p q =
    (refl, same_reason e x (sym p ∙ (λ j. broken_rule (sym (same_Some k l h) j) (same_first f g fs gs same j).a (same_first f g fs gs same j).b) ∙ (λ j. broken_rule (same_Some k m i j) g.a g.b) ∙ q))
same_end k l m [] (b ∷ bs) f g fs gs e x same h i p q = absurd (goes_on k m f b bs e (same_first f b fs (bs ++ g ∷ gs) same) (ap (λ n. broken_rule n f.a f.b) (same_Some k l h) ∙ p) i)
same_end k l m (b ∷ bs) [] f g fs gs e x same h i p q = absurd (goes_on k l g b bs x (sym (same_first b g (bs ++ f ∷ fs) gs same)) (ap (λ n. broken_rule n g.a g.b) (same_Some k m i) ∙ q) h)
same_end k l m (b ∷ bs) (c ∷ cs) f g fs gs e x same h i p q =
    let r : (broken_rule k b.a b.b ≡ Ok tt) × (replay (flipped k b.a b.b) bs ≡ Some l) = first_flip k l b bs h in
    let s : (broken_rule k c.a c.b ≡ Ok tt) × (replay (flipped k c.a c.b) cs ≡ Some m) = first_flip k m c cs i in
    let P : Flip → Type 0 = λ o. replay (flipped k o.a o.b) cs ≡ Some m in
    let t : (length bs ≡ length cs) × (e ≡ x) = same_end (flipped k b.a b.b) l m bs cs f g fs gs e x (same_rest b c (bs ++ f ∷ fs) (cs ++ g ∷ gs) same) r.1 (subst P (sym (same_first b c (bs ++ f ∷ fs) (cs ++ g ∷ gs) same)) s.1) p q in
    (omega (arith, t.0), t.1)

pub first_is_one : FirstIllegalIsOne
first_is_one k fs n o e x i j =
    let t : (length i.before ≡ length j.before) × (e ≡ x) = same_end k i.there j.there i.before j.before i.flip j.flip i.after j.after e x (sym i.are ∙ j.are) i.replays j.replays i.breaks j.breaks in
    (omega (arith, i.counted, j.counted, t.0), t.1)
