-- The order of the table's keys.
use Rattle.std.proofs.Common.{◌≡◌, ◌∙◌, ℕ, List, sym, ap}
use Rattle.std.specs.Ordering.{nat_cmp, is_eq}
use Rattle.std.specs.Cmp.{IsTotalOrder}
use Rattle.std.specs.Cmp.Lexicographic.{nat_list_cmp_total}
use Rattle.std.specs.declared.cmp.Ordering.TheVariants.{Equal}
use Rattle.std.proofs.Common.{true}
use Rattle.std.proofs.lemmas.Cmp.{nat_cmp_total, on_total, then_total, tied_itself}
use Rattle.std.proofs.lemmas.Map.Lookups.{exact_unsigned, exact_bytes, exact_pairs}
use Rattle.complex_core.specs.Labels.{face_cmp}
use Rattle.flip_options.specs.Candidates.{key_cmp}
use Rattle.descent_laws.proofs.Candidates.{equal_is}

pub key_total : IsTotalOrder key_cmp
key_total = then_total (on_total (λ (p : ℕ × List ℕ). p.0) nat_cmp_total) (on_total (λ (p : ℕ × List ℕ). p.1) nat_list_cmp_total)

pub key_exact : (p q : ℕ × List ℕ) → key_cmp p q ≡ Equal → p ≡ q
key_exact p q h = exact_pairs nat_cmp face_cmp exact_unsigned exact_bytes p q h

-- a key that ties is the same
pub tied_key : (p q : ℕ × List ℕ) → is_eq (key_cmp p q) ≡ true → p ≡ q
tied_key p q h = key_exact p q (equal_is (key_cmp p q) h)

pub own_key : (p : ℕ × List ℕ) → is_eq (key_cmp p p) ≡ true
own_key p = ap is_eq (tied_itself key_total p)

pub same_key : (p q : ℕ × List ℕ) → p ≡ q → is_eq (key_cmp p q) ≡ true
same_key p q e = ap (λ r. is_eq (key_cmp p r)) (sym e) ∙ own_key p
