use Rattle.std.proofs.Common.{◌∙◌, sym, List, ℕ, map, refl, ap, subst}
use Rattle.std.specs.List.{AllByRecursion}
use Rattle.std.specs.BTreeSet.{contains}
use Rattle.complex_core.specs.Labels.{face_cmp, IsFace}
use Rattle.pseudo_test.specs.Incidences.{facet_of, run_of}
use Rattle.pseudo_test.specs.Spreads.{Moved}
use Rattle.pseudo_test.proofs.Spreading.{seen_more, moved_fresh, moved_old}
use Rattle.pseudo_test.proofs.chains.spread.Goals as goal
use Rattle.std.proofs.lemmas.Bool.{not-true, not-false}

pub returns-then-not-branch-clause-moved : goal.returns-then-not-branch-clause-moved
returns-then-not-branch-clause-moved c = moved_old (contains face_cmp c.args.seen.now c.args.ridge) (map facet_of (run_of c.args.incidences.now c.args.ridge)) c.args.reached.now.items c.args.rest.now.keys c.args.rest.now.keys (not-false (contains face_cmp c.args.seen.now c.args.ridge) (sym c.in_ok-insert.ensures.added ∙ c.if-not-branch.true)) refl

pub returns-then-not-branch-clause-seen : goal.returns-then-not-branch-clause-seen
returns-then-not-branch-clause-seen c = seen_more (contains face_cmp c.args.seen.now) (contains face_cmp c.insert.new.self) c.args.ridge c.in_ok-insert.ensures.updates.0

pub reach-requires : goal.reach-requires
reach-requires c = let P : List (List ℕ × ℕ) → Type 0 = λ ss. AllByRecursion IsFace (map facet_of ss) in subst P (sym c.over.ensures) c.requires.faces

pub returns-clause-moved : goal.returns-clause-moved
returns-clause-moved c =
    let P : List (List ℕ) → Type 0 = λ fs. Moved fs c.args.reached.now.items c.args.rest.now.keys c.reach.new.reached.items c.reach.new.rest.keys in
    moved_fresh (contains face_cmp c.args.seen.now c.args.ridge) (map facet_of (run_of c.args.incidences.now c.args.ridge)) c.args.reached.now.items c.args.rest.now.keys c.reach.new.reached.items c.reach.new.rest.keys (not-true (contains face_cmp c.args.seen.now c.args.ridge) (sym c.in_ok-insert.ensures.added ∙ c.if-not-branch.false)) (subst P (ap (map facet_of) c.over.ensures) c.in_ok-reach.ensures)

pub returns-clause-seen : goal.returns-clause-seen
returns-clause-seen c = seen_more (contains face_cmp c.args.seen.now) (contains face_cmp c.insert.new.self) c.args.ridge c.in_ok-insert.ensures.updates.0
