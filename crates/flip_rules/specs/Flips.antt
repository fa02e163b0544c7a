-- A flip (A, B) on a pure complex: when it is legal, the first rule that it breaks, and what it makes.
use Rattle.std.specs.Prelude.{◌≡◌, ◌≢◌, true, false, ℕ, ◌+◌, ◌<◌, ◌≤◌, ◌&&◌, Bool, not, nat_eq, if◌then◌else◌, List, [], ◌∷◌, ◌++◌, length, map, Result, Ok, Err, Option, Some, None}
use Rattle.std.specs.List.{list_any, AllByRecursion}
use Rattle.std.specs.Cmp.Lexicographic.{pointwise}
use Rattle.complex_core.specs.Labels.{IsFace, has, union, without, face_cmp}
use Rattle.complex_core.specs.Rising.{rising}
use Rattle.complex_core.specs.Complexes.{ComplexView, IsComplex, IsFacet, over, beside, is_held}
use Rattle.flip_rules.specs.declared.flip.Flip.{Flip}
use Rattle.flip_rules.specs.declared.flip.FlipFault.{FlipFault}
use Rattle.flip_rules.specs.declared.flip.FlipFault.TheVariants as fault
use Rattle.flip_rules.specs.declared.flip.Illegal.{Illegal}
use Rattle.flip_rules.specs.declared.flip.Illegal.TheVariants.{Shape, NotAFace, LinkDiffers, BIsFace}

-- A ∪ (B less b), one for each b in B
abbrev pub join_boundary : List ℕ → List ℕ → List (List ℕ)
join_boundary a b = map (λ x. union a (without b x)) b

-- A and B aren't empty, share no label, and have d + 2 labels together
abbrev pub has_shape : ℕ → List ℕ → List ℕ → Bool
has_shape d a b = not (nat_eq (length a) 0) && (not (nat_eq (length b) 0) && (not (list_any (λ x. has b x) a) && nat_eq (length a + length b) (d + 2)))

abbrev pub same_sets : List (List ℕ) → List (List ℕ) → Bool
same_sets = pointwise (pointwise nat_eq)

-- the facets that contain A are exactly the A ∪ (B less b)
abbrev pub link_is : List (List ℕ) → List ℕ → List ℕ → Bool
link_is facets a b = same_sets (over facets a) (rising face_cmp (join_boundary a b))

-- the first rule that the facets near A break: some contain A, and they are exactly the A ∪ (B less b)
abbrev pub link_fault : List (List ℕ) → List ℕ → List ℕ → Result (Unit {0}) Illegal
link_fault near_a a b = if is_held near_a a then (if link_is near_a a b then Ok tt else Err LinkDiffers) else Err NotAFace

-- the first rule that the flip breaks, seen from lists of facets that have all those that contain A, and all those that contain B
abbrev pub broken_rule_near : ℕ → List (List ℕ) → List (List ℕ) → List ℕ → List ℕ → Result (Unit {0}) Illegal
broken_rule_near d near_a near_b a b =
    if has_shape d a b then
    (if is_held near_a a then
    (if link_is near_a a b then
    (if is_held near_b b then Err BIsFace else Ok tt)
    else Err LinkDiffers)
    else Err NotAFace)
    else Err Shape

-- the first rule that the flip breaks
abbrev pub broken_rule : ComplexView → List ℕ → List ℕ → Result (Unit {0}) Illegal
broken_rule k a b = broken_rule_near k.dim k.facets k.facets a b

-- these lists have all facets of the complex that contain A, and all that contain B
pub record IsNear (k : ComplexView) (d : ℕ) (near_a near_b : List (List ℕ)) (a b : List ℕ) : Type 0 where
  pub dim : k.dim ≡ d
  pub first : over near_a a ≡ over k.facets a
  pub second : over near_b b ≡ over k.facets b

-- the facets that contain A are taken out, and the (A less a) ∪ B are put in
abbrev pub flipped : ComplexView → List ℕ → List ℕ → ComplexView
flipped k a b = record { dim = k.dim; facets = rising face_cmp (beside k.facets a ++ join_boundary b a) }

abbrev pub if_legal : Result (Unit {0}) Illegal → Option ComplexView → Option ComplexView
if_legal (Ok u) after = after
if_legal (Err e) after = None

-- A and B are sets of labels, as those of each flip of the program are
pub record OfFaces (f : Flip) : Type 0 where
  pub first : IsFace f.a
  pub second : IsFace f.b

-- the flips one after another, each legal where it stands
abbrev pub replay : ComplexView → List Flip → Option ComplexView
replay k [] = Some k
replay k (f ∷ fs) = if_legal (broken_rule k f.a f.b) (replay (flipped k f.a f.b) fs)

-- why a flip isn't made
abbrev pub FlipRefused : Result (Unit {0}) Illegal → FlipFault → Type 0
FlipRefused reason (fault.Illegal e) = reason ≡ Err e
FlipRefused reason fault.Memory = Unit {0}

-- after the flip (A, B), wherever it is legal, (C, D) is legal too, and makes the complex that was before
abbrev pub LeadsBack : List ℕ → List ℕ → List ℕ → List ℕ → Type 0
LeadsBack a b c d = (k : ComplexView) → IsComplex k → broken_rule k a b ≡ Ok tt → (broken_rule (flipped k a b) c d ≡ Ok tt) × (flipped (flipped k a b) c d ≡ k)

-- the sides of B with A can be put in
pub record CanPut (d : ℕ) (a b : List ℕ) : Type 0 where
  pub few : length b + length a ≤ 8
  pub some : 0 < length (join_boundary b a)
  pub pure : AllByRecursion (IsFacet d) (join_boundary b a)

-- ---- the same rule by rule

pub record Shaped (d : ℕ) (a b : List ℕ) : Type 0 where
  pub first : length a ≢ 0
  pub second : length b ≢ 0
  pub apart : (x : ℕ) → has a x ≡ true → has b x ≡ false
  pub sizes : length a + length b ≡ d + 2

pub record Legal (k : ComplexView) (a b : List ℕ) : Type 0 where
  pub shape : Shaped k.dim a b
  pub face : is_held k.facets a ≡ true
  pub link : over k.facets a ≡ rising face_cmp (join_boundary a b)
  pub free : is_held k.facets b ≡ false
