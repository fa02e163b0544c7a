-- A complex has one description.
use Rattle.std.proofs.Common.{◌≡◌, ℕ, List, ◌++◌, inl, inr, sym, ◌∙◌, ap}
use Rattle.complex_core.specs.Complexes.{ComplexView}
use Rattle.job_answer.proofs.Describing.{same_ridge_line, not_closed, same_apart_line, not_strong}
use Rattle.job_info.specs.Descriptions.{counted_lines, IsClosedLine, IsStrongLine, IsOrientableLine, Describes}

same_closed_line : (fs : List (List ℕ)) (xs ys : List ℕ) → IsClosedLine fs xs → IsClosedLine fs ys → xs ≡ ys
same_closed_line fs xs ys (inl a) (inl b) = a.says ∙ sym b.says
same_closed_line fs xs ys (inl a) (inr b) = absurd (not_closed fs b.ridge b.count a.closed b.least)
same_closed_line fs xs ys (inr a) (inl b) = absurd (not_closed fs a.ridge a.count b.closed a.least)
same_closed_line fs xs ys (inr a) (inr b) = a.says ∙ same_ridge_line fs a.ridge b.ridge a.count b.count a.least b.least ∙ sym b.says

same_strong_line : (fs : List (List ℕ)) (xs ys : List ℕ) → IsStrongLine fs xs → IsStrongLine fs ys → xs ≡ ys
same_strong_line fs xs ys (inl a) (inl b) = a.says ∙ sym b.says
same_strong_line fs xs ys (inl a) (inr b) = absurd (not_strong fs b.first b.other a.strong b.apart)
same_strong_line fs xs ys (inr a) (inl b) = absurd (not_strong fs a.first a.other b.strong a.apart)
same_strong_line fs xs ys (inr a) (inr b) = a.says ∙ same_apart_line fs a.first a.other b.first b.other a.apart b.apart ∙ sym b.says

same_orientable_line : (fs : List (List ℕ)) (xs ys : List ℕ) → IsOrientableLine fs xs → IsOrientableLine fs ys → xs ≡ ys
same_orientable_line fs xs ys (inl a) (inl b) = a.says ∙ sym b.says
same_orientable_line fs xs ys (inl a) (inr b) = absurd (b.clash a.orientable)
same_orientable_line fs xs ys (inr a) (inl b) = absurd (a.clash b.orientable)
same_orientable_line fs xs ys (inr a) (inr b) = a.says ∙ sym b.says

pub same_description : (k : ComplexView) (xs ys : List ℕ) → Describes k xs → Describes k ys → xs ≡ ys
same_description k xs ys a b =
    let c : a.closed ≡ b.closed = same_closed_line k.facets a.closed b.closed a.closed_is b.closed_is in
    let s : a.strong ≡ b.strong = same_strong_line k.facets a.strong b.strong a.strong_is b.strong_is in
    let o : a.orientable ≡ b.orientable = same_orientable_line k.facets a.orientable b.orientable a.orientable_is b.orientable_is in
    a.says
    ∙ ap (λ l. counted_lines k ++ (l ++ (a.strong ++ a.orientable))) c
    ∙ ap (λ l. counted_lines k ++ (b.closed ++ (l ++ a.orientable))) s
    ∙ ap (λ l. counted_lines k ++ (b.closed ++ (b.strong ++ l))) o
    ∙ sym b.says
