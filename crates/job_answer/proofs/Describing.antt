-- There is one least ridge that doesn't lie in two facets, and one least facet that isn't joined; each has one line.
use Rattle.std.proofs.Common.{◌≡◌, ℕ, List, sym, ◌∙◌, ap, subst}
use Rattle.pseudo_test.specs.Ridges.{count, Closed, IsLeastOther}
use Rattle.pseudo_test.specs.Chains.{StronglyConnected, IsLeast, IsApart}
use Rattle.job_answer.specs.Lines.{ridge_line, apart_line}
use Rattle.complex_core.proofs.SetLists.{neither_less}

-- ---- the least ridge

same_ridge : (fs : List (List ℕ)) (r s : List ℕ) (m n : ℕ) → IsLeastOther fs r m → IsLeastOther fs s n → r ≡ s
same_ridge fs r s m n a b = neither_less r s (λ l. a.other (sym a.counted ∙ b.least r a.is l)) (λ l. b.other (sym b.counted ∙ a.least s b.is l))

pub same_ridge_line : (fs : List (List ℕ)) (r s : List ℕ) (m n : ℕ) → IsLeastOther fs r m → IsLeastOther fs s n → ridge_line r m ≡ ridge_line s n
same_ridge_line fs r s m n a b =
    let e : r ≡ s = same_ridge fs r s m n a b in
    let c : m ≡ n = sym a.counted ∙ ap (count fs) e ∙ b.counted in
    ap (λ i. ridge_line i m) e ∙ ap (λ i. ridge_line s i) c

pub not_closed : (fs : List (List ℕ)) (r : List ℕ) (m : ℕ) → Closed fs → IsLeastOther fs r m → ⊥
not_closed fs r m c a = a.other (sym a.counted ∙ c.two r a.is)

-- ---- the least facets that no chain joins

same_least : (fs : List (List ℕ)) (f g : List ℕ) → IsLeast fs f → IsLeast fs g → f ≡ g
same_least fs f g a b = neither_less f g (λ l. b.least f a.there l) (λ l. a.least g b.there l)

same_other : (fs : List (List ℕ)) (f g h : List ℕ) → IsApart fs f g → IsApart fs f h → g ≡ h
same_other fs f g h a b = neither_less g h (λ l. a.apart (b.least g a.there l)) (λ l. b.apart (a.least h b.there l))

pub same_apart_line : (fs : List (List ℕ)) (f g h i : List ℕ) → IsApart fs f g → IsApart fs h i → apart_line f g ≡ apart_line h i
same_apart_line fs f g h i a b =
    let e : h ≡ f = same_least fs h f b.begins a.begins in
    let P : List ℕ → Type 0 = λ x. IsApart fs x i in
    let o : g ≡ i = same_other fs f g i a (subst P e b) in
    ap (λ x. apart_line x g) (sym e) ∙ ap (λ x. apart_line h x) o

pub not_strong : (fs : List (List ℕ)) (f g : List ℕ) → StronglyConnected fs → IsApart fs f g → ⊥
not_strong fs f g s a = a.apart (s.joined f g a.begins.there a.there)
