-- A face whose least label is above a wanted one doesn't hold it.
use Rattle.std.proofs.Common.{◌≡◌, ℕ, ◌<◌, false, ◌&&◌, List, ◌∷◌, ap}
use Rattle.std.specs.List.Sorted.{IsStrictlySortedBy}
use Rattle.std.specs.Ordering.{nat_cmp}
use Rattle.std.specs.declared.cmp.Ordering.TheVariants.{Less}
use Rattle.std.proofs.lemmas.Cmp.{nat_cmp_total}
use Rattle.complex_core.specs.Labels.{holds}
use Rattle.complex_core.proofs.Sets.{above_head, above_lower}
use Rattle.complex_core.proofs.Faces.{cmp_less}
use Rattle.complex_core.proofs.Laws.{above_not}

pub next_missing : (x y : ℕ) (xs ys : List ℕ) → IsStrictlySortedBy nat_cmp (x ∷ xs) → y < x → holds (x ∷ xs) (y ∷ ys) ≡ false
next_missing x y xs ys s h =
    let l : nat_cmp y x ≡ Less = cmp_less y x h in
    ap (λ b. b && holds (x ∷ xs) ys) (above_not y (x ∷ xs) (l, above_lower nat_cmp_total y x xs l (above_head nat_cmp x xs s)))
