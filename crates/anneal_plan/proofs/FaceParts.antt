-- The faces of a star that have its vertex, without the vertex.
use Rattle.std.proofs.Common.{◌≡◌, inl, inr, ℕ, ◌≤◌, true, false, not, nat_eq, ◌||◌, List, [], ◌∷◌, length, sym, ◌∙◌, ap, refl, arith}
use Rattle.std.specs.List.{AllByRecursion, list_any, flat_map}
use Rattle.std.specs.List.Sorted.{IsStrictlySortedBy}
use Rattle.std.specs.Cmp.Lexicographic.{nat_list_cmp_total}
use Rattle.std.specs.Ordering.{nat_cmp}
use Rattle.complex_core.specs.Labels.{IsFace, has, without, face_cmp}
use Rattle.complex_core.specs.Rising.{rising}
use Rattle.complex_core.specs.Subsets.{subsets_of}
use Rattle.complex_core.proofs.Sets.{above_tail, sorted_rising}
use Rattle.complex_core.proofs.Faces.{face_filter}
use Rattle.complex_core.proofs.Laws.{holds_has, listed, listed-rising, length-without, sorted_without}
use Rattle.complex_core.proofs.SubsetLists.{two, clash, Chosen, chosen_is, fewer, part_is_face}
use Rattle.anneal_plan.specs.Faces.{IsRow, AreRows}
use Rattle.complex_core.proofs.Members.{without_gone}
use Rattle.complex_core.proofs.SetLists.{listed-flat_map}

-- the sets of n labels of the rows, each without the vertex, rising
unfoldable pub parts_of : List (List ℕ) → ℕ → ℕ → List (List ℕ)
parts_of rows p n = rising face_cmp (flat_map (λ row. subsets_of n (without row p)) rows)

pub sorted_row : (p : ℕ) (row : List ℕ) → IsRow p row → IsStrictlySortedBy nat_cmp (without row p)
sorted_row p row h = sorted_without row p (above_tail nat_cmp 0 row h.face.rising)

-- ---- what a part is

pub record IsPart (p n : ℕ) (s : List ℕ) : Type 0 where
  pub face : IsFace s
  pub size : length s ≡ n
  pub apart : has s p ≡ false
  pub few : length s ≤ 6

pub part_row : (p n : ℕ) (row s : List ℕ) → IsRow p row → listed (subsets_of n (without row p)) s ≡ true → IsPart p n s
part_row p n row s h t =
    let c : Chosen n (without row p) s = chosen_is n (without row p) s (sorted_row p row h) t in
    record {
      face = part_is_face (without row p) s (face_filter (λ y. not (nat_eq y p)) row h.face) c.rises c.part;
      size = c.size;
      apart = elim (two (has s p)) [ inl e ↦ clash (has (without row p) p) (holds_has (without row p) s p c.part e) (without_gone row p) | inr e ↦ e ];
      few = omega (arith, fewer s (without row p) c.rises (sorted_row p row h) c.part, length-without row p (above_tail nat_cmp 0 row h.face.rising) h.held, h.few);
    }

some_row : (p n : ℕ) (rows : List (List ℕ)) (s : List ℕ) → AllByRecursion (IsRow p) rows → list_any (λ row. listed (subsets_of n (without row p)) s) rows ≡ true → IsPart p n s
some_row p n [] s h t = clash true refl (sym t)
some_row p n (row ∷ rows) s h t = elim (two (listed (subsets_of n (without row p)) s)) [
  | inl e ↦ part_row p n row s h.0 e
  | inr e ↦ some_row p n rows s h.1 (sym (ap (λ b. b || list_any (λ w. listed (subsets_of n (without w p)) s) rows) e) ∙ t)
]

pub listed-parts_of : (rows : List (List ℕ)) (p n : ℕ) (s : List ℕ) → listed (parts_of rows p n) s ≡ list_any (λ row. listed (subsets_of n (without row p)) s) rows
unfolding parts_of
listed-parts_of rows p n s =
    listed-rising (flat_map (λ row. subsets_of n (without row p)) rows) s ∙ listed-flat_map (λ row. subsets_of n (without row p)) rows s

pub part_of : (p n : ℕ) (rows : List (List ℕ)) (s : List ℕ) → AreRows p rows → listed (parts_of rows p n) s ≡ true → IsPart p n s
part_of p n rows s h t = some_row p n rows s h.1 (sym (listed-parts_of rows p n s) ∙ t)

pub sorted_parts : (rows : List (List ℕ)) (p n : ℕ) → IsStrictlySortedBy face_cmp (parts_of rows p n)
unfolding parts_of
sorted_parts rows p n = sorted_rising nat_list_cmp_total (flat_map (λ row. subsets_of n (without row p)) rows)
