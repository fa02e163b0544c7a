-- Two complexes have one first difference, or none.
use Rattle.std.proofs.Common.{◌≡◌, ◌↔◌, Bool, true, false, IsTrue, sym, ◌∙◌, refl}
use Rattle.complex_core.specs.Complexes.{ComplexView}
use Rattle.flip_laws.specs.Differences.{Alike, IsDifference}
use Rattle.flip_laws.specs.declared.difference.Differ.{Differ}
use Rattle.flip_laws.specs.declared.difference.Differ.TheVariants as differ
use Rattle.job_equiv.specs.Texts.{difference_text}

-- answers to two questions of which one holds where the other does
same_answer : (s t : Bool) (A B : Type 0) → IsTrue s ↔ A → IsTrue t ↔ B → A ↔ B → s ≡ t
same_answer true true A B p q r = refl
same_answer true false A B p q r = sym (q.1 (r.0 (p.0 refl)))
same_answer false true A B p q r = p.1 (r.1 (q.0 refl))
same_answer false false A B p q r = refl

-- two that are alike don't differ
pub no_difference : (k l : ComplexView) (d : Differ) → Alike k l → IsDifference k l d → ⊥
no_difference k l (differ.Dimension m n) a h = h.2 (h.0 ∙ a.dim ∙ sym h.1)
no_difference k l (differ.Euler m n) a h = h.3 (h.1 ∙ a.euler ∙ sym h.2)
no_difference k l (differ.Orientable s t) a h = h.4 (same_answer s t _ _ h.2 h.3 a.orientable)

pub same_difference : (k l : ComplexView) (d e : Differ) → IsDifference k l d → IsDifference k l e → difference_text d ≡ difference_text e
same_difference k l (differ.Dimension m n) (differ.Dimension o p) a b = λ i. difference_text (differ.Dimension ((a.0 ∙ sym b.0) i) ((a.1 ∙ sym b.1) i))
same_difference k l (differ.Dimension m n) (differ.Euler o p) a b = absurd (a.2 (a.0 ∙ b.0 ∙ sym a.1))
same_difference k l (differ.Dimension m n) (differ.Orientable s t) a b = absurd (a.2 (a.0 ∙ b.0 ∙ sym a.1))
same_difference k l (differ.Euler m n) (differ.Dimension o p) a b = absurd (b.2 (b.0 ∙ a.0 ∙ sym b.1))
same_difference k l (differ.Euler m n) (differ.Euler o p) a b = λ i. difference_text (differ.Euler ((a.1 ∙ sym b.1) i) ((a.2 ∙ sym b.2) i))
same_difference k l (differ.Euler m n) (differ.Orientable s t) a b = absurd (a.3 (a.1 ∙ b.1 ∙ sym a.2))
same_difference k l (differ.Orientable s t) (differ.Dimension o p) a b = absurd (b.2 (b.0 ∙ a.0 ∙ sym b.1))
same_difference k l (differ.Orientable s t) (differ.Euler o p) a b = absurd (b.3 (b.1 ∙ a.1 ∙ sym b.2))
same_difference k l (differ.Orientable s t) (differ.Orientable u v) a b =
    let first : s ≡ u = same_answer s u _ _ a.2 b.2 (λ h. h, λ h. h) in
    let second : t ≡ v = same_answer t v _ _ a.3 b.3 (λ h. h, λ h. h) in
    λ i. difference_text (differ.Orientable (first i) (second i))
