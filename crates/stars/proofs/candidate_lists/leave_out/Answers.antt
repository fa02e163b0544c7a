use Rattle.std.proofs.Common.{◌≡◌, rules, sym, subst, not, List, ℕ}
use Rattle.std.specs.List.Sorted.{IsStrictlySortedBy}
use Rattle.std.proofs.lemmas.Fn.{filter_same}
use Rattle.std.proofs.lemmas.List.Kept.{IsStrictlySortedBy-filter}
use Rattle.complex_core.specs.Labels.{holds, face_cmp}
use Rattle.stars.specs.CandidateLists.{not_within}
use Rattle.stars.proofs.candidate_lists.leave_out.Goals as goal

pub returns-clause-items : goal.returns-clause-items
returns-clause-items c = filter_same _ (λ f. not (holds c.args.labels.now f)) _ (λ x b f' k. search rules) _ _ c.retain.ensures.filtered

pub returns-clause-rising : goal.returns-clause-rising
returns-clause-rising c =
    let e : c.retain.new.self.items ≡ not_within c.args.labels.now c.args.sets.now.items = filter_same _ (λ f. not (holds c.args.labels.now f)) _ (λ x b f' k. search rules) _ _ c.retain.ensures.filtered in
    let P : List (List ℕ) → Type 0 = λ fs. IsStrictlySortedBy face_cmp fs in
    subst P (sym e) (IsStrictlySortedBy-filter face_cmp (λ f. not (holds c.args.labels.now f)) c.args.sets.now.items c.requires)
