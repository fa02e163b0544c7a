use Rattle.std.proofs.Common.{◌≡◌, ◌≤◌, ◌++◌, ℕ, List, length, vec_capacity, ◌∙◌, sym, ap, subst, arith}
use Rattle.std.specs.List.{AllByRecursion}
use Rattle.complex_core.specs.Labels.{face_cmp}
use Rattle.complex_core.specs.Rising.{rising}
use Rattle.complex_core.specs.Complexes.{IsFacet, staying}
use Rattle.star_laws.specs.Stars.{star}
use Rattle.stars.specs.StarViews.{VertexStar, KeptStar, IsStar}
use Rattle.stars.specs.Changes.{star_changed}
use Rattle.stars.specs.CandidateLists.{CandidateList, AreLists, ChangedWithin}
use Rattle.stars.proofs.Changing.{changed_is_star, changed_whole}
use Rattle.stars.proofs.Staying.{changed_within}
use Rattle.stars.proofs.star.Star.change.Goals as goal

pub put_all_in-requires-clause-room : goal.put_all_in-requires-clause-room
put_all_in-requires-clause-room c =
    let P : KeptStar → Type 0 = λ t. length (star_changed c.args.out.now c.args.more.now t.star).rows ≤ t.room in
    let room : length (star_changed c.args.out.now c.args.more.now (record { vertex = c.self.inside.vertex; dim = c.self.inside.dim; rows = c.self.inside.rows.items })).rows ≤ vec_capacity c.self.inside.rows = subst P (sym c.self.view_is) c.requires.room in
    let rows : rising face_cmp (c.take_all_out.new.sets.items ++ c.as_slice.result.now) ≡ rising face_cmp (staying c.self.inside.rows.items c.args.out.now ++ star c.args.more.now c.self.inside.vertex) = λ i. rising face_cmp (c.take_all_out.ensures.items i ++ (c.as_slice.ensures ∙ c.holding-more_here.ensures) i) in
    omega (arith, room, ap length rows, c.take_all_out.ensures.capacity)

pub invariant_of-self : goal.invariant_of-self
invariant_of-self c =
    let old : VertexStar = record { vertex = c.self.inside.vertex; dim = c.self.inside.dim; rows = c.self.inside.rows.items } in
    let now : star_changed c.args.out.now c.args.more.now old ≡ record old { rows = c.put_all_in.new.sets.items } = changed_whole old c.put_all_in.new.sets.items c.take_all_out.new.sets.items c.as_slice.result.now c.args.out.now c.args.more.now c.put_all_in.ensures.items c.take_all_out.ensures.items (c.as_slice.ensures ∙ c.holding-more_here.ensures) in
    let Q : ℕ → Type 0 = λ d. AllByRecursion (IsFacet d) c.args.more.now in
    let none : List CandidateList → Type 0 = λ ls. AreLists (record old { rows = c.put_all_in.new.sets.items }) ls in
    (subst (λ s. IsStar s) now (changed_is_star old c.args.out.now c.args.more.now c.self.invariant.0 (subst Q (sym (ap (λ k. k.star.dim) c.self.view_is)) c.requires.pure)), subst none (sym (ap (λ v. v.items) c.replace-lists.ensures.after ∙ c.new.ensures.items)) tt)

pub decided_again-requires-clause-lists : goal.decided_again-requires-clause-lists
decided_again-requires-clause-lists c =
    let old : VertexStar = record { vertex = c.self.inside.vertex; dim = c.self.inside.dim; rows = c.self.inside.rows.items } in
    let now : star_changed c.args.out.now c.args.more.now old ≡ record old { rows = c.put_all_in.new.sets.items } = changed_whole old c.put_all_in.new.sets.items c.take_all_out.new.sets.items c.as_slice.result.now c.args.out.now c.args.more.now c.put_all_in.ensures.items c.take_all_out.ensures.items (c.as_slice.ensures ∙ c.holding-more_here.ensures) in
    (old, c.self.invariant.0, subst (λ ls. AreLists old ls) (sym (ap (λ v. v.items) c.replace-lists.ensures.value)) c.self.invariant.1, subst (ChangedWithin c.args.joined.now old) now (changed_within old c.args.joined.now c.args.out.now c.args.more.now c.self.invariant.0 c.requires.within.gone c.requires.within.come))

pub invariant_of-self-2 : goal.invariant_of-self-2
invariant_of-self-2 c =
    let old : VertexStar = record { vertex = c.self.inside.vertex; dim = c.self.inside.dim; rows = c.self.inside.rows.items } in
    let now : star_changed c.args.out.now c.args.more.now old ≡ record old { rows = c.put_all_in.new.sets.items } = changed_whole old c.put_all_in.new.sets.items c.take_all_out.new.sets.items c.as_slice.result.now c.args.out.now c.args.more.now c.put_all_in.ensures.items c.take_all_out.ensures.items (c.as_slice.ensures ∙ c.holding-more_here.ensures) in
    let Q : ℕ → Type 0 = λ d. AllByRecursion (IsFacet d) c.args.more.now in
    (subst (λ s. IsStar s) now (changed_is_star old c.args.out.now c.args.more.now c.self.invariant.0 (subst Q (sym (ap (λ k. k.star.dim) c.self.view_is)) c.requires.pure)), c.decided_again.ensures)
