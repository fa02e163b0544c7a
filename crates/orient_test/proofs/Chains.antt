-- Walks, and how they put together chains.
use Rattle.std.proofs.Common.{◌≡◌, ℕ, ◌<◌, Bool, true, false, not, List, [], ◌∷◌, ◌++◌, length, map, get_or, sym, ◌∙◌, ap, refl, subst}
use mathlib.Core.List.{reverse}
use Rattle.std.proofs.lemmas.List.{reverse-append, get_or_default}
use Rattle.pseudo_test.specs.Ridges.{count}
use Rattle.orient_test.specs.declared.search.Reached.{Reached}
use Rattle.orient_test.specs.Signs.{odd, times, position, induced, IsOrientation, Orientable}
use Rattle.orient_test.specs.Walks.{Step, IsStep, Walk, turn, turning, IsChain, IsClash}
use Rattle.orient_test.specs.Spreads.{at, IsTree, Contradicts, CameFrom}
use Rattle.complex_core.proofs.SubsetLists.{clash}

-- ---- the product of signs

pub assoc : (a b c : Bool) → times (times a b) c ≡ times a (times b c)
assoc true true true = refl
assoc true true false = refl
assoc true false c = refl
assoc false b c = refl

pub times_none : (a : Bool) → a ≡ times a false
times_none true = refl
times_none false = refl

pub times_swap : (a b : Bool) → times a b ≡ times b a
times_swap true true = refl
times_swap true false = refl
times_swap false true = refl
times_swap false false = refl

pub cancel : (s u z : Bool) → times s u ≡ z → s ≡ times z u
cancel true true z e = ap (λ c. times c true) e
cancel true false z e = ap (λ c. times c false) e
cancel false true z e = ap (λ c. times c true) e
cancel false false z e = ap (λ c. times c false) e

next_table : (t p q : Bool) → t ≡ times (times (not (times t q)) p) (not (times p q))
next_table true true true = refl
next_table true true false = refl
next_table true false true = refl
next_table true false false = refl
next_table false true true = refl
next_table false true false = refl
next_table false false true = refl
next_table false false false = refl

-- what induced signs that are opposite say of the signs
pub next_sign : (s t p q : Bool) → times s p ≡ not (times t q) → t ≡ times s (not (times p q))
next_sign s t p q e = next_table t p q ∙ ap (λ c. times c (not (times p q))) (sym (cancel s p (not (times t q)) e))

opposite_table : (s p q : Bool) → times s p ≡ not (times (times s (not (times p q))) q)
opposite_table true true true = refl
opposite_table true true false = refl
opposite_table true false true = refl
opposite_table true false false = refl
opposite_table false true true = refl
opposite_table false true false = refl
opposite_table false false true = refl
opposite_table false false false = refl

pub opposite_sign : (s t p q : Bool) → t ≡ times s (not (times p q)) → times s p ≡ not (times t q)
opposite_sign s t p q e = opposite_table s p q ∙ ap (λ c. not (times c q)) (sym e)

-- ---- no orientation has a closed walk that turns

walked : (fs : List (List ℕ)) (s : List ℕ → Bool) → IsOrientation fs s → (f g : List ℕ) (steps : List Step) → Walk fs f steps g → s g ≡ times (s f) (turning f steps)
walked fs s o f g [] w = ap s (sym w) ∙ times_none (s f)
walked fs s o f g (step ∷ steps) w =
    let p : induced s f step.left ≡ not (induced s step.to step.taken) = o.opposite f step.to step.left step.taken w.0.from_there w.0.to_there w.0.left_used w.0.taken_used w.0.other w.0.shared w.0.two in
    let q : s step.to ≡ times (s f) (turn f step) = next_sign (s f) (s step.to) (odd (position f step.left)) (odd (position step.to step.taken)) p in
    walked fs s o step.to g steps w.1 ∙ ap (λ c. times c (turning step.to steps)) q ∙ assoc (s f) (turn f step) (turning step.to steps)

never : (a : Bool) → a ≡ times a true → ⊥
never true e = clash true refl e
never false e = clash true refl (sym e)

pub clash_law : (fs : List (List ℕ)) (f : List ℕ) (steps : List Step) → Walk fs f steps f → turning f steps ≡ true → Orientable fs → ⊥
clash_law fs f steps w t o = never (o.signs f) (walked fs o.signs o.is f f steps w ∙ ap (times (o.signs f)) t)

pub clash_excludes : (fs chain : List (List ℕ)) → IsClash fs chain → Orientable fs → ⊥
clash_excludes fs chain c = clash_law fs c.first c.closed.steps c.closed.walk c.closed.turned

-- ---- chains

abbrev pub step_back : List ℕ → Step → Step
step_back f s = record { to = f; left = s.taken; taken = s.left }

pub is_back : (fs : List (List ℕ)) (f : List ℕ) (s : Step) → IsStep fs f s → IsStep fs s.to (step_back f s)
is_back fs f s i = record {
  from_there = i.to_there;
  to_there = i.from_there;
  left_used = i.taken_used;
  taken_used = i.left_used;
  other = λ e. i.other (sym e);
  shared = sym i.shared;
  two = ap (count fs) (sym i.shared) ∙ i.two;
}

pub turn_back : (f : List ℕ) (s : Step) → turn s.to (step_back f s) ≡ turn f s
turn_back f s = ap not (times_swap (odd (position s.to s.taken)) (odd (position f s.left)))

walk_on : (fs : List (List ℕ)) (f g h : List ℕ) (ss ts : List Step) → Walk fs f ss g → Walk fs g ts h → Walk fs f (ss ++ ts) h
walk_on fs f g h [] ts p q = let P : List ℕ → Type 0 = λ m. Walk fs m ts h in subst P (sym p) q
walk_on fs f g h (s ∷ ss) ts p q = (p.0, walk_on fs s.to g h ss ts p.1 q)

turning_on : (fs : List (List ℕ)) (f g : List ℕ) (ss ts : List Step) → Walk fs f ss g → turning f (ss ++ ts) ≡ times (turning f ss) (turning g ts)
turning_on fs f g [] ts p = ap (λ m. turning m ts) p
turning_on fs f g (s ∷ ss) ts p = ap (times (turn f s)) (turning_on fs s.to g ss ts p.1) ∙ sym (assoc (turn f s) (turning s.to ss) (turning g ts))

map_on : (ss ts : List Step) → map (λ (s : Step). s.to) (ss ++ ts) ≡ map (λ (s : Step). s.to) ss ++ map (λ (s : Step). s.to) ts
map_on [] ts = refl
map_on (s ∷ ss) ts = ap (λ us. s.to ∷ us) (map_on ss ts)

-- a chain, a step, and a chain behind it
pub chain_join : (fs : List (List ℕ)) (f g h : List ℕ) (c d e : Bool) (us vs : List (List ℕ)) (s : Step) → IsChain fs f g c us → IsStep fs g s → IsChain fs s.to h d vs → times c (times (turn g s) d) ≡ e → IsChain fs f h e (us ++ vs)
chain_join fs f g h c d e us vs s p i q t = record {
  steps = p.steps ++ (s ∷ q.steps);
  is = (λ j. p.is j ++ q.is j) ∙ ap (λ ws. f ∷ ws) (sym (map_on p.steps (s ∷ q.steps)));
  walk = walk_on fs f g h p.steps (s ∷ q.steps) p.walk (i, q.walk);
  turned = turning_on fs f g p.steps (s ∷ q.steps) p.walk ∙ (λ j. times (p.turned j) (times (turn g s) (q.turned j))) ∙ t;
}

pub chain_one : (fs : List (List ℕ)) (f : List ℕ) → IsChain fs f f false (f ∷ [])
chain_one fs f = record { steps = []; is = refl; walk = refl; turned = refl }

pub chain_push : (fs : List (List ℕ)) (f g : List ℕ) (c e : Bool) (us : List (List ℕ)) (s : Step) → IsChain fs f g c us → IsStep fs g s → times c (turn g s) ≡ e → IsChain fs f s.to e (us ++ s.to ∷ [])
chain_push fs f g c e us s p i t = chain_join fs f g s.to c false e us (s.to ∷ []) s p i (chain_one fs s.to) (ap (times c) (sym (times_none (turn g s))) ∙ t)

-- back along the steps
walk_back : (fs : List (List ℕ)) (f g : List ℕ) (ss : List Step) → Walk fs f ss g → IsChain fs g f (turning f ss) (reverse (f ∷ map (λ (s : Step). s.to) ss))
walk_back fs f g [] w = let P : List ℕ → Type 0 = λ m. IsChain fs m f false (f ∷ []) in subst P w (chain_one fs f)
walk_back fs f g (s ∷ ss) w = let P : List (List ℕ) → Type 0 = λ us. IsChain fs g f (turning f (s ∷ ss)) us in subst P (sym (reverse-append (f ∷ []) (s.to ∷ map (λ (s : Step). s.to) ss))) (chain_push fs g s.to (turning s.to ss) (turning f (s ∷ ss)) (reverse (s.to ∷ map (λ (s : Step). s.to) ss)) (step_back f s) (walk_back fs s.to g ss w.1) (is_back fs f s w.0)
    (ap (times (turning s.to ss)) (turn_back f s) ∙ times_swap (turning s.to ss) (turn f s)))

pub chain_back : (fs : List (List ℕ)) (f g : List ℕ) (c : Bool) (us : List (List ℕ)) → IsChain fs f g c us → IsChain fs g f c (reverse us)
chain_back fs f g c us p =
    let P : Bool → Type 0 = λ d. IsChain fs g f d (reverse us) in
    let Q : List (List ℕ) → Type 0 = λ vs. IsChain fs g f (turning f p.steps) (reverse vs) in
    subst P p.turned (subst Q (sym p.is) (walk_back fs f g p.steps p.walk))

-- ---- the chain to the first facet

-- what was pushed, and the facet where the climb stands
abbrev pub Climbs : List Reached → List (List ℕ) → ℕ → ℕ → Type 0
Climbs reached pushed start now = (facets : List (List ℕ)) → IsTree facets reached → IsChain facets (at reached start).facet (at reached now).facet (times (at reached start).turned (at reached now).turned) (pushed ++ (at reached now).facet ∷ [])

pub climb_next : (reached : List Reached) (pushed now_pushed : List (List ℕ)) (start now next : ℕ) (f : List ℕ) → Climbs reached pushed start now → 0 < now → now < length reached → f ≡ (at reached now).facet → now_pushed ≡ pushed ++ f ∷ [] → next ≡ (at reached now).from → Climbs reached now_pushed start next
climb_next reached pushed now_pushed start now next f c l h ef ep en = λ facets t.
    let came : CameFrom facets reached now = t.came now l h in
    let push : IsChain facets (at reached start).facet came.step.to (times (at reached start).turned (at reached (at reached now).from).turned) ((pushed ++ (at reached now).facet ∷ []) ++ came.step.to ∷ []) =
    chain_push facets (at reached start).facet (at reached now).facet (times (at reached start).turned (at reached now).turned) (times (at reached start).turned (at reached (at reached now).from).turned) (pushed ++ (at reached now).facet ∷ []) came.step (c facets t) came.is
    (ap (λ b. times (times (at reached start).turned b) (turn (at reached now).facet came.step)) came.turned ∙ undo (at reached start).turned (at reached (at reached now).from).turned (turn (at reached now).facet came.step)) in
    let P : List ℕ → Type 0 = λ m. IsChain facets (at reached start).facet m (times (at reached start).turned (at reached (at reached now).from).turned) ((pushed ++ (at reached now).facet ∷ []) ++ m ∷ []) in
    let Q : List (List ℕ) → Type 0 = λ us. IsChain facets (at reached start).facet (at reached (at reached now).from).facet (times (at reached start).turned (at reached (at reached now).from).turned) (us ++ (at reached (at reached now).from).facet ∷ []) in
    let R : ℕ → Type 0 = λ n. IsChain facets (at reached start).facet (at reached n).facet (times (at reached start).turned (at reached n).turned) (now_pushed ++ (at reached n).facet ∷ []) in
    subst R (sym en) (subst Q (ap (λ m. pushed ++ m ∷ []) (sym ef) ∙ sym ep) (subst P came.to push))
  where
    undo : (a b c : Bool) → times (times a (times b c)) c ≡ times a b
    undo true true true = refl
    undo true true false = refl
    undo true false true = refl
    undo true false false = refl
    undo false true true = refl
    undo false true false = refl
    undo false false true = refl
    undo false false false = refl

-- up to the first facet from one end of the step, and from the other
pub clash_made : (reached : List Reached) (there back : ℕ) (us vs chain facets : List (List ℕ)) → IsTree facets reached → IsChain facets (at reached there).facet (at reached 0).facet (at reached there).turned us → IsChain facets (at reached back).facet (at reached 0).facet (at reached back).turned vs → chain ≡ reverse us ++ vs → Contradicts facets reached there back → IsClash facets chain
clash_made reached there back us vs chain facets t p q e d =
    let P : List ℕ → Type 0 = λ m. IsChain facets m (at reached 0).facet (at reached back).turned vs in
    let Q : List (List ℕ) → Type 0 = λ ws. IsChain facets (at reached 0).facet (at reached 0).facet true ws in
    record {
      first = (at reached 0).facet;
      closed = subst Q (sym e) (chain_join facets (at reached 0).facet (at reached there).facet (at reached 0).facet (at reached there).turned (at reached back).turned true (reverse us) vs d.step (chain_back facets (at reached there).facet (at reached 0).facet (at reached there).turned us p) d.is (subst P (sym d.to) q)
          (ap (λ b. times (at reached there).turned (times (turn (at reached there).facet d.step) b)) d.other ∙ odd_one (at reached there).turned (turn (at reached there).facet d.step)));
    }
  where
    odd_one : (a b : Bool) → times a (times b (not (times a b))) ≡ true
    odd_one true true = refl
    odd_one true false = refl
    odd_one false true = refl
    odd_one false false = refl

pub same_place : (reached : List Reached) (position : ℕ) (d : Reached) → position < length reached → get_or reached position d ≡ at reached position
same_place reached position d l = get_or_default reached position d (record { facet = []; turned = false; from = 0 }) l
