use Rattle.std.proofs.Common.{rules, ◌≡◌, not, ◌∙◌, sym, List, ℕ, map, refl, ap, subst}
use Rattle.std.specs.List.{AllByRecursion}
use Rattle.std.specs.BTreeSet.{contains}
use Rattle.std.proofs.lemmas.Bool.{not-true, not-false}
use Rattle.std.proofs.lemmas.List.{take_all}
use Rattle.complex_core.specs.Labels.{IsFace, face_cmp, has, without}
use Rattle.pseudo_test.specs.Incidences.{facet_of, run_of}
use Rattle.pseudo_test.specs.Spreads.{Moved}
use Rattle.pseudo_test.proofs.Spreading.{each_at, moved_fresh, moved_next, moved_none, moved_old, seen_more}
use Rattle.facet_iso.proofs.Walking.{run_ridge, still_apart, still_there}
use Rattle.facet_iso.proofs.walk.cross.Goals as goal

pub returns-then-not-branch-clause-moved : goal.returns-then-not-branch-clause-moved
returns-then-not-branch-clause-moved c = moved_old (contains face_cmp c.args.walk.now.seen (without c.args.facet c.args.label)) (map facet_of (run_of c.args.incidences.now (without c.args.facet c.args.label))) c.args.walk.now.reached.items c.args.walk.now.rest.keys c.args.walk.now.rest.keys (not-false (contains face_cmp c.args.walk.now.seen (without c.args.facet c.args.label)) (ap (λ r. not (contains face_cmp c.args.walk.now.seen r)) (sym c.without-ridge.ensures) ∙ sym c.in_ok-insert.ensures.added ∙ c.if-not-branch.true)) refl

pub loop-incidence-init : goal.loop-incidence-init
loop-incidence-init c = record { moved = moved_none c.args.walk.now.reached.items c.args.walk.now.rest.keys; leads = c.requires.leads; seen = refl }

pub reach-requires-clause-face : goal.reach-requires-clause-face
reach-requires-clause-face c =
    let P : List (List ℕ × ℕ) → Type 0 = λ ss. AllByRecursion IsFace (map facet_of ss) in
    each_at IsFace c.over-incidence-items.result.now c.loop-incidence.incidence-index c.incidence-item.result (subst P (sym (c.over-incidence-items.ensures ∙ ap (run_of c.args.incidences.now) c.without-ridge.ensures)) c.requires.faces) c.loop-incidence-test.true c.incidence-item.is

pub reach-requires-clause-apart : goal.reach-requires-clause-apart
reach-requires-clause-apart c = still_apart _ c.args.walk.now.reached.items c.args.walk.now.rest.keys c.loop-incidence.walk.reached.items c.loop-incidence.walk.rest.keys c.loop-incidence.invariant.moved c.requires.apart

pub reach-requires-clause-from : goal.reach-requires-clause-from
reach-requires-clause-from c = (still_there _ c.args.walk.now.reached.items c.args.walk.now.rest.keys c.loop-incidence.walk.reached.items c.loop-incidence.walk.rest.keys c.args.from c.loop-incidence.invariant.moved c.requires.from).0

pub reach-requires-clause-left : goal.reach-requires-clause-left
reach-requires-clause-left c = ap (λ f. has f c.args.label) ((still_there _ c.args.walk.now.reached.items c.args.walk.now.rest.keys c.loop-incidence.walk.reached.items c.loop-incidence.walk.rest.keys c.args.from c.loop-incidence.invariant.moved c.requires.from).1 ∙ sym c.requires.facet) ∙ c.requires.label

pub reach-requires-clause-ridge : goal.reach-requires-clause-ridge
reach-requires-clause-ridge c =
    let e : c.over-incidence-items.result.now ≡ run_of c.args.incidences.now c.without-ridge.result = c.over-incidence-items.ensures in
    run_ridge c.args.incidences.now c.without-ridge.result c.loop-incidence.incidence-index c.incidence-item.result (search rules) (search rules)
    ∙ c.without-ridge.ensures ∙ ap (λ f. without f c.args.label) (c.requires.facet ∙ sym (still_there _ c.args.walk.now.reached.items c.args.walk.now.rest.keys c.loop-incidence.walk.reached.items c.loop-incidence.walk.rest.keys c.args.from c.loop-incidence.invariant.moved c.requires.from).1)

pub reach-requires-clause-leads : goal.reach-requires-clause-leads
reach-requires-clause-leads c = c.loop-incidence.invariant.leads

pub loop-incidence-preserved : goal.loop-incidence-preserved
loop-incidence-preserved c = record {
  moved = moved_next c.over-incidence-items.result.now c.loop-incidence.incidence-index c.incidence-item.result c.args.walk.now.reached.items c.args.walk.now.rest.keys c.loop-incidence.walk.reached.items c.loop-incidence.walk.rest.keys c.reach.new.walk.reached.items c.reach.new.walk.rest.keys c.loop-incidence-test.true c.incidence-item.is c.loop-incidence.invariant.moved c.in_ok-reach.ensures.moved;
  leads = c.in_ok-reach.ensures.leads;
  seen = c.in_ok-reach.ensures.seen ∙ c.loop-incidence.invariant.seen;
}

pub returns-clause-moved : goal.returns-clause-moved
returns-clause-moved c =
    let P : List (List ℕ × ℕ) → Type 0 = λ ss. Moved (map facet_of ss) c.args.walk.now.reached.items c.args.walk.now.rest.keys c.loop-incidence.walk.reached.items c.loop-incidence.walk.rest.keys in
    moved_fresh (contains face_cmp c.args.walk.now.seen (without c.args.facet c.args.label)) (map facet_of (run_of c.args.incidences.now (without c.args.facet c.args.label))) c.args.walk.now.reached.items c.args.walk.now.rest.keys c.loop-incidence.walk.reached.items c.loop-incidence.walk.rest.keys (not-true (contains face_cmp c.args.walk.now.seen (without c.args.facet c.args.label)) (ap (λ r. not (contains face_cmp c.args.walk.now.seen r)) (sym c.without-ridge.ensures) ∙ sym c.in_ok-insert.ensures.added ∙ c.if-not-branch.false))
    (subst P (take_all c.loop-incidence.incidence-index c.over-incidence-items.result.now c.loop-incidence-test.false ∙ c.over-incidence-items.ensures ∙ ap (run_of c.args.incidences.now) c.without-ridge.ensures) c.loop-incidence.invariant.moved)

pub returns-clause-seen : goal.returns-clause-seen
returns-clause-seen c r = ap (λ s. contains face_cmp s r) c.loop-incidence.invariant.seen ∙ seen_more (contains face_cmp c.args.walk.now.seen) (contains face_cmp c.insert.new.self) (without c.args.facet c.args.label) (search rules) r

pub returns-clause-leads : goal.returns-clause-leads
returns-clause-leads c = c.loop-incidence.invariant.leads
