-- The order of rows.
use Rattle.std.proofs.Common.{◌≡◌, ℕ, ◌&&◌, nat_eq, List, sym, ◌∙◌, refl, arith}
use Rattle.std.specs.Ordering.{nat_cmp, ordering_then, is_eq}
use Rattle.std.specs.declared.cmp.Ordering.{Ordering}
use Rattle.std.specs.declared.cmp.Ordering.TheVariants.{Less, Equal, Greater}
use Rattle.std.specs.Cmp.Lexicographic.{pointwise, texts_ties}
use Rattle.std.proofs.lemmas.Bool.Decides.{nat_tests}
use Rattle.complex_core.specs.Labels.{face_cmp}
use Rattle.cert_replay.specs.Rows.{row_cmp}

tied_is : (x y : ℕ) → is_eq (nat_cmp x y) ≡ nat_eq x y
tied_is x y = grind (arith, nat_tests)

both_tied : (r s : Ordering) → is_eq (ordering_then r s) ≡ (is_eq r && is_eq s)
both_tied Less s = refl
both_tied Equal s = refl
both_tied Greater s = refl

-- two rows tie where they have the same label and the same facet
pub same_row : (y x : ℕ) (g f : List ℕ) → is_eq (row_cmp (y, g) (x, f)) ≡ (nat_eq y x && pointwise nat_eq g f)
same_row y x g f = both_tied (nat_cmp y x) (face_cmp g f) ∙ (λ i. tied_is y x i && sym (texts_ties g f) i)
