-- How a walk over ridges grows.
use Rattle.std.proofs.Common.{zero, suc, ◌≡◌, ℕ, ◌<◌, ◌≤◌, ◌+◌, Bool, true, false, cond, not, nat_eq, ◌||◌, ◌&&◌, List, [], ◌∷◌, ◌++◌, length, take, get_or, sym, ◌∙◌, ap, refl, subst, arith, inl, inr, length-append}
use Rattle.std.specs.List.{AllByRecursion}
use Rattle.std.specs.Cmp.{first_so, second_so}
use Rattle.std.specs.Cmp.Lexicographic.{pointwise}
use Rattle.std.proofs.lemmas.Bool.{cases_lt}
use Rattle.std.proofs.lemmas.List.{get_or_default}
use Rattle.complex_core.specs.Labels.{has, with, without}
use Rattle.complex_core.specs.Complexes.{ComplexView, IsComplex, is_facet}
use Rattle.complex_core.proofs.Booleans.{and_false}
use Rattle.complex_core.proofs.Laws.{listed-append, same_sets_is}
use Rattle.complex_core.proofs.SubsetLists.{two, clash}
use Rattle.pseudo_test.specs.Chains.{StronglyConnected}
use Rattle.pseudo_test.specs.Incidences.{facet_of, run_of}
use Rattle.pseudo_test.specs.Spreads.{Moved}
use Rattle.pseudo_test.proofs.Spreading.{Done, Spread, listed_at, not_reached}
use Rattle.facet_iso.specs.Isomorphisms.{least_facet}
use Rattle.facet_iso.specs.Walks.{Apart, IsStep, IsWalk, Leads}
use Rattle.facet_iso.specs.declared.walk.Step.{Step}
use Rattle.facet_iso.proofs.Trying.{least_there}

-- ---- lists that grow

pub get_front : {A : Type 0} (xs ys : List A) (i : ℕ) (d : A) → i < length xs → get_or (xs ++ ys) i d ≡ get_or xs i d
get_front [] ys i d h = absurd (omega (arith, h))
get_front (x ∷ xs) ys zero d h = refl
get_front (x ∷ xs) ys (suc i) d h = get_front xs ys i d (omega (arith, h))

get_last : {A : Type 0} (xs : List A) (x d : A) → get_or (xs ++ x ∷ []) (length xs) d ≡ x
get_last [] x d = refl
get_last (y ∷ ys) x d = get_last ys x d

-- a step between facets that stay where they are
still_step : (reached now : List (List ℕ)) (position : ℕ) (step : Step) → ((j : ℕ) → j ≤ position + 1 → get_or now j [] ≡ get_or reached j []) → IsStep reached position step → IsStep now position step
still_step reached now position step same s = record {
  earlier = s.earlier;
  used = ap (λ f. has f step.left) from ∙ s.used;
  to = next ∙ s.to ∙ ap (λ f. with (without f step.left) step.taken) (sym from);
  other = λ e. s.other (sym next ∙ e ∙ from);
}
  where
    from : get_or now step.from [] ≡ get_or reached step.from []
    from = same step.from (omega (arith, s.earlier))

    next : get_or now (position + 1) [] ≡ get_or reached (position + 1) []
    next = same (position + 1) (omega arith)

-- one step more
pub leads_on : (reached left now : List (List ℕ)) (steps now_steps : List Step) (s : List ℕ × ℕ) (facet : List ℕ) (step : Step) → Leads reached steps → Apart reached left → step.from < length reached → has (get_or reached step.from []) step.left ≡ true → s.0 ≡ without (get_or reached step.from []) step.left → s.1 ≡ step.taken → facet ≡ facet_of s → is_facet left facet ≡ true → now ≡ reached ++ facet ∷ [] → now_steps ≡ steps ++ step ∷ [] → Leads now now_steps
leads_on reached left now steps now_steps s facet step h apart b u er et ef t en es = record {
  long = omega (arith, ap length en, ap length es, length-append reached (facet ∷ []), length-append steps (step ∷ []), h.long);
  each = λ p none lt. elim (cases_lt p (length steps)) [
    | inl l ↦
        let P : Step → Type 0 = λ q. IsStep now p q in
        subst P (sym (ap (λ qs. get_or qs p none) es ∙ get_front steps (step ∷ []) p none l)) (still_step reached now p (get_or steps p none) (λ j c. same j (omega (arith, c, l, h.long))) (h.each p none l))
    | inr ge ↦
        let e : p ≡ length steps = omega (arith, ge, lt, ap length es, length-append steps (step ∷ [])) in
        let P : Step → Type 0 = λ q. IsStep now p q in
        let Q : ℕ → Type 0 = λ n. IsStep now n step in
        subst P (sym (ap (λ qs. get_or qs p none) es ∙ ap (λ n. get_or (steps ++ step ∷ []) n none) e ∙ get_last steps step none)) (subst Q (sym e) newest)
  ];
}
  where
    same : (j : ℕ) → j < length reached → get_or now j [] ≡ get_or reached j []
    same j c = ap (λ fs. get_or fs j []) en ∙ get_front reached (facet ∷ []) j [] c

    newest_is : get_or now (length steps + 1) [] ≡ facet
    newest_is = ap (λ fs. get_or fs (length steps + 1) []) en ∙ ap (λ n. get_or (reached ++ facet ∷ []) n []) (sym h.long) ∙ get_last reached facet []

    newest : IsStep now (length steps) step
    newest = record {
      earlier = omega (arith, b, h.long);
      used = ap (λ f. has f step.left) (same step.from b) ∙ u;
      to = newest_is ∙ ef ∙ (λ i. with ((er ∙ ap (λ f. without f step.left) (sym (same step.from b))) i) (et i));
      other = λ e. clash {P = ⊥} (is_facet reached facet) (ap (is_facet reached) (sym newest_is ∙ e ∙ same step.from b) ∙ listed_at reached step.from [] b) (apart facet t);
    }

-- what is left stays apart
pub still_apart : (run reached left now_reached now_left : List (List ℕ)) → Moved run reached left now_reached now_left → Apart reached left → Apart now_reached now_left
still_apart run reached left now_reached now_left m a g t =
    let u : (is_facet left g && not (is_facet run g)) ≡ true = sym (m.gone g) ∙ t in
    let n : is_facet run g ≡ false = not_true (is_facet run g) (second_so (is_facet left g) (not (is_facet run g)) u) in
    ap (λ fs. is_facet fs g) m.grows ∙ listed-append reached m.more g
    ∙ (λ i. a g (first_so (is_facet left g) (not (is_facet run g)) u) i || (m.comes g ∙ ap (λ b. is_facet left g && b) n ∙ and_false (is_facet left g)) i)
  where
    not_true : (b : Bool) → not b ≡ true → b ≡ false
    not_true true e = clash true refl (sym e)
    not_true false e = refl

pub still_there : (run reached left now_reached now_left : List (List ℕ)) (i : ℕ) → Moved run reached left now_reached now_left → i < length reached → (i < length now_reached) × (get_or now_reached i [] ≡ get_or reached i [])
still_there run reached left now_reached now_left i m b = (
  omega (arith, b, ap length m.grows, length-append reached m.more),
  ap (λ fs. get_or fs i []) m.grows ∙ get_front reached m.more i [] b,
)

-- the ridge of an incidence of a run
pub run_ridge : (incidences : List (List ℕ × ℕ)) (ridge : List ℕ) (i : ℕ) (s : List ℕ × ℕ) → i < length (run_of incidences ridge) → s ≡ get_or (run_of incidences ridge) i s → s.0 ≡ ridge
run_ridge incidences ridge i s l e = at (run_of incidences ridge) (all incidences) i l e
  where
    all : (ss : List (List ℕ × ℕ)) → AllByRecursion (λ t. t.0 ≡ ridge) (run_of ss ridge)
    all [] = tt
    all (t ∷ ss) = kept (pointwise nat_eq t.0 ridge) refl (all ss)
      where
        kept : (b : Bool) → pointwise nat_eq t.0 ridge ≡ b → AllByRecursion (λ t. t.0 ≡ ridge) (run_of ss ridge) → AllByRecursion (λ t. t.0 ≡ ridge) (cond b (t ∷ run_of ss ridge) (run_of ss ridge))
        kept true q h = (same_sets_is t.0 ridge q, h)
        kept false q h = h

    at : (run : List (List ℕ × ℕ)) → AllByRecursion (λ t. t.0 ≡ ridge) run → (j : ℕ) → j < length run → s ≡ get_or run j s → s.0 ≡ ridge
    at [] h j b q = absurd (omega (arith, b))
    at (t ∷ ss) h zero b q = ap (λ v. v.0) q ∙ h.0
    at (t ∷ ss) h (suc j) b q = at ss h.1 j (omega (arith, b)) q

-- ---- at the end

pub walk_end : (k : ComplexView) (reached left : List (List ℕ)) (seen : List ℕ → Bool) (steps : List Step) (next : ℕ) → IsComplex k → StronglyConnected k.facets → Spread k.facets (least_facet k) reached left seen → Done reached seen next → length reached ≤ next → get_or reached 0 [] ≡ least_facet k → Leads reached steps → IsWalk k steps
walk_end k reached left seen steps next c strong s d l e h = record {
  reached = reached;
  begins = e;
  leads = h;
  all = λ f. elim (two (is_facet left f)) [
    | inl t ↦ absurd (not_reached k (least_facet k) reached left seen next c s d l f t (strong.joined (least_facet k) f (least_there k c) (s.all f ∙ right (is_facet reached f) (is_facet left f) t)))
    | inr n ↦ sym (s.all f ∙ ap (λ b. is_facet reached f || b) n ∙ none (is_facet reached f))
  ];
}
  where
    right : (a b : Bool) → b ≡ true → (a || b) ≡ true
    right true b t = refl
    right false b t = t

    none : (b : Bool) → (b || false) ≡ b
    none true = refl
    none false = refl

-- ---- at the start

pub first_is : (k : ComplexView) (fs : List (List ℕ)) → IsComplex k → fs ≡ k.facets → least_facet k ≡ get_or fs 0 (least_facet k)
first_is k fs c e = get_or_default k.facets 0 [] (least_facet k) c.some ∙ ap (λ gs. get_or gs 0 (least_facet k)) (sym e)

pub begins_first : (k : ComplexView) (fs reached : List (List ℕ)) → fs ≡ k.facets → reached ≡ take 1 fs → get_or reached 0 [] ≡ least_facet k
begins_first k fs reached e r = ap (λ gs. get_or gs 0 []) r ∙ head fs ∙ ap (λ gs. get_or gs 0 []) e
  where
    head : (gs : List (List ℕ)) → get_or (take 1 gs) 0 [] ≡ get_or gs 0 []
    head [] = refl
    head (g ∷ gs) = refl

pub leads_first : (k : ComplexView) (fs reached : List (List ℕ)) (steps : List Step) → IsComplex k → fs ≡ k.facets → reached ≡ take 1 fs → steps ≡ [] → Leads reached steps
leads_first k fs reached steps c e r s = record {
  long = ap length r ∙ one fs (omega (arith, c.some, ap length e)) ∙ omega (arith, ap length s);
  each = λ p none l. absurd (omega (arith, l, ap length s));
}
  where
    one : (gs : List (List ℕ)) → 0 < length gs → length (take 1 gs) ≡ 1
    one [] l = absurd (omega (arith, l))
    one (g ∷ gs) l = refl
