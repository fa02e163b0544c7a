-- The facets that contain A, against the sets that they should be.
use Rattle.std.proofs.Common.{◌≡◌, ◌<◌, ℕ, Bool, true, false, not, cond, filter, nat_eq, if◌then◌else◌, Result, Ok, Err, ◌||◌, ◌&&◌, List, [], ◌∷◌, ◌++◌, map, length, sym, ◌∙◌, ap, refl, arith}
use Rattle.std.specs.List.{list_any, list_all}
use Rattle.std.specs.List.Sorted.{IsStrictlySortedBy}
use Rattle.std.specs.Cmp.{first_so, second_so}
use Rattle.std.specs.Cmp.Derive.{both_true}
use Rattle.std.specs.Cmp.Lexicographic.{pointwise, nat_list_cmp_total, nat_list_eq_equiv, lists_equiv}
use Rattle.std.proofs.lemmas.List.Kept.{IsStrictlySortedBy-filter}
use Rattle.complex_core.specs.Rising.{rising}
use Rattle.complex_core.specs.Labels.{has, holds, union, without, face_cmp}
use Rattle.complex_core.specs.Complexes.{ComplexView, over, beside, staying, is_held}
use Rattle.complex_core.proofs.Sets.{sorted_rising}
use Rattle.complex_core.proofs.Laws.{both_ways, has-union, holds_each, or_left, or_right, listed, listed-append, same_sets_is, same_set_itself, listed-filter, listed-rising, same_lists, passes_listed, each_listed, found, some_listed}
use Rattle.flip_rules.specs.Flips.{join_boundary, same_sets, link_is, link_fault, flipped}
use Rattle.flip_rules.specs.declared.flip.Illegal.{Illegal}
use Rattle.flip_rules.specs.declared.flip.Illegal.TheVariants.{NotAFace, LinkDiffers}

abbrev pub side : List ℕ → List ℕ → ℕ → List ℕ
side a b x = union a (without b x)

-- a side, as a test over the labels
pub listed-join_boundary : (a b c : List ℕ) (f : List ℕ) → listed (map (side a c) b) f ≡ list_any (λ x. pointwise nat_eq (side a c x) f) b
listed-join_boundary a [] c f = refl
listed-join_boundary a (y ∷ ys) c f = ap (λ t. pointwise nat_eq (side a c y) f || t) (listed-join_boundary a ys c f)

pub same_lists_is : (fs gs : List (List ℕ)) → same_sets fs gs ≡ true → fs ≡ gs
same_lists_is [] [] h = refl
same_lists_is [] (g ∷ gs) h = let e : false ≡ true = h in cc
same_lists_is (f ∷ fs) [] h = let e : false ≡ true = h in cc
same_lists_is (f ∷ fs) (g ∷ gs) h = let p : f ≡ g = same_sets_is f g (first_so (pointwise nat_eq f g) (same_sets fs gs) h) in let q : fs ≡ gs = same_lists_is fs gs (second_so (pointwise nat_eq f g) (same_sets fs gs) h) in λ i. p i ∷ q i

pub same_lists_from : (fs gs : List (List ℕ)) → fs ≡ gs → same_sets fs gs ≡ true
same_lists_from fs gs e = ap (λ hs. same_sets hs gs) e ∙ (lists_equiv nat_list_eq_equiv).refl gs

pub side_holds : (a b : List ℕ) (x : ℕ) → holds (side a b x) a ≡ true
side_holds a b x = holds_each (side a b x) a (λ z t. has-union a (without b x) z ∙ or_left (has a z) (has (without b x) z) t)

-- the two tests of a program: each facet that contains A is one of some sets, and each of these is a facet
abbrev pub are_sides : List (List ℕ) → List ℕ → List (List ℕ) → Bool
are_sides facets a sets = list_all (λ f. not (holds f a) || listed sets f) facets

abbrev pub have_sides : List (List ℕ) → List (List ℕ) → Bool
have_sides facets sets = list_all (λ s. listed facets s) sets

not_or : (a b : Bool) → (not a || b) ≡ true → a ≡ true → b ≡ true
not_or true b h e = h
not_or false b h e = cc

or_not : (a b : Bool) → (a ≡ true → b ≡ true) → (not a || b) ≡ true
or_not true b h = h refl
or_not false b h = refl

both_parts : (a b : Bool) → a ≡ true → b ≡ true → (a && b) ≡ true
both_parts a b h g = both_true h g

-- each of these sets contains A
abbrev pub EachHolds : List (List ℕ) → List ℕ → Type 0
EachHolds sets a = (f : List ℕ) → listed sets f ≡ true → holds f a ≡ true

-- a side that is listed is made of some label
pub side_of : (a b : List ℕ) (f : List ℕ) → listed (join_boundary a b) f ≡ true → (x : ℕ) × (has b x ≡ true) × (f ≡ side a b x)
side_of a b f t =
    let r : (x : ℕ) × (has b x ≡ true) × (pointwise nat_eq (side a b x) f ≡ true) = found (λ x. pointwise nat_eq (side a b x) f) b (sym (listed-join_boundary a b b f) ∙ t) in
    (r.0, r.1, sym (same_sets_is (side a b r.0) f r.2))

-- each side contains A
pub sides_hold : (a b : List ℕ) → EachHolds (join_boundary a b) a
sides_hold a b f t = let r : (x : ℕ) × (has b x ≡ true) × (f ≡ side a b x) = side_of a b f t in ap (λ g. holds g a) r.2 ∙ side_holds a b r.0

link_from : (facets sets : List (List ℕ)) (a : List ℕ) → IsStrictlySortedBy face_cmp facets → EachHolds sets a → are_sides facets a sets ≡ true → have_sides facets sets ≡ true → over facets a ≡ rising face_cmp sets
link_from facets sets a s hold are have =
    same_lists (over facets a) (rising face_cmp sets) (IsStrictlySortedBy-filter face_cmp (λ f. holds f a) facets s) (sorted_rising nat_list_cmp_total sets) (λ f.
    listed-filter (λ g. holds g a) facets f
    ∙ both_ways (listed facets f && holds f a) (listed sets f)
    (λ t. not_or (holds f a) (listed sets f) (passes_listed (λ g. not (holds g a) || listed sets g) facets f are (first_so (listed facets f) (holds f a) t)) (second_so (listed facets f) (holds f a) t))
    (λ t. both_parts (listed facets f) (holds f a) (passes_listed (λ g. listed facets g) sets f have t) (hold f t))
    ∙ sym (listed-rising sets f))

link_are : (facets sets : List (List ℕ)) (a : List ℕ) → over facets a ≡ rising face_cmp sets → are_sides facets a sets ≡ true
link_are facets sets a e = each_listed (λ g. not (holds g a) || listed sets g) facets (λ f t.
    or_not (holds f a) (listed sets f) (λ h.
    sym (listed-rising sets f) ∙ ap (λ fs. listed fs f) (sym e) ∙ listed-filter (λ g. holds g a) facets f ∙ both_parts (listed facets f) (holds f a) t h))

link_have : (facets sets : List (List ℕ)) (a : List ℕ) → over facets a ≡ rising face_cmp sets → have_sides facets sets ≡ true
link_have facets sets a e = each_listed (λ g. listed facets g) sets (λ f t.
    first_so (listed facets f) (holds f a) (sym (listed-filter (λ g. holds g a) facets f) ∙ ap (λ fs. listed fs f) e ∙ listed-rising sets f ∙ t))

-- the two tests together are the link condition
pub link_tested : (facets : List (List ℕ)) (a b : List ℕ) → IsStrictlySortedBy face_cmp facets → (have_sides facets (join_boundary a b) && are_sides facets a (join_boundary a b)) ≡ link_is facets a b
link_tested facets a b s = both_ways (have_sides facets (join_boundary a b) && are_sides facets a (join_boundary a b)) (link_is facets a b)
    (λ t. same_lists_from (over facets a) (rising face_cmp (join_boundary a b)) (link_from facets (join_boundary a b) a s (sides_hold a b) (second_so (have_sides facets (join_boundary a b)) (are_sides facets a (join_boundary a b)) t) (first_so (have_sides facets (join_boundary a b)) (are_sides facets a (join_boundary a b)) t)))
    (λ t. let e : over facets a ≡ rising face_cmp (join_boundary a b) = same_lists_is (over facets a) (rising face_cmp (join_boundary a b)) t in
    both_parts (have_sides facets (join_boundary a b)) (are_sides facets a (join_boundary a b)) (link_have facets (join_boundary a b) a e) (link_are facets (join_boundary a b) a e))

-- where all sides are there, and B has a label, A is held
pub sides_held : (facets : List (List ℕ)) (a b : List ℕ) → 0 < length b → have_sides facets (join_boundary a b) ≡ true → is_held facets a ≡ true
sides_held facets a [] n have = absurd (omega (arith, n))
sides_held facets a (x ∷ xs) n have =
    some_listed (λ f. holds f a) facets (side a (x ∷ xs) x) (first_so (listed facets (side a (x ∷ xs) x)) (list_all (λ s. listed facets s) (map (side a (x ∷ xs)) xs)) have) (side_holds a (x ∷ xs) x)

-- the rule that fails, from whether A is held and whether its link is that of the flip
abbrev pub fault_of : Bool → Bool → Result (Unit {0}) Illegal
fault_of held link = if held then (if link then Ok tt else Err LinkDiffers) else Err NotAFace

-- the same, of the sides and answers that a program has
pub link_by_tests : (facets first second : List (List ℕ)) (a b : List ℕ) (have are : Bool) → IsStrictlySortedBy face_cmp facets → first ≡ join_boundary a b → second ≡ join_boundary a b → have_sides facets first ≡ have → are_sides facets a second ≡ are → link_is facets a b ≡ (have && are)
link_by_tests facets first second a b have are s p q h r =
    sym (link_tested facets a b s) ∙ (λ i. have_sides facets (sym p i) && are_sides facets a (sym q i)) ∙ (λ i. h i && r i)

pub held_by_tests : (facets first : List (List ℕ)) (a b : List ℕ) → 0 < length b → first ≡ join_boundary a b → have_sides facets first ≡ true → is_held facets a ≡ true
held_by_tests facets first a b n p h = sides_held facets a b n (ap (have_sides facets) (sym p) ∙ h)

pub fault_told : (facets : List (List ℕ)) (a b : List ℕ) (held link : Bool) → is_held facets a ≡ held → link_is facets a b ≡ link → fault_of held link ≡ link_fault facets a b
fault_told facets a b held link p q = λ i. fault_of (sym p i) (sym q i)

-- the facets after a flip: those that don't contain A, and the sides of B with A
pub listed-flipped : (k : ComplexView) (a b : List ℕ) (f : List ℕ) → listed (flipped k a b).facets f ≡ ((listed k.facets f && not (holds f a)) || listed (join_boundary b a) f)
listed-flipped k a b f = listed-rising (beside k.facets a ++ join_boundary b a) f ∙ listed-append (beside k.facets a) (join_boundary b a) f ∙ ap (λ c. c || listed (join_boundary b a) f) (listed-filter (λ g. not (holds g a)) k.facets f)

filter_same : (p q : List ℕ → Bool) (fs : List (List ℕ)) → ((f : List ℕ) → listed fs f ≡ true → p f ≡ q f) → filter p fs ≡ filter q fs
filter_same p q [] h = refl
filter_same p q (f ∷ fs) h =
    ap (λ t. cond t (f ∷ filter p fs) (filter p fs)) (h f (or_left (pointwise nat_eq f f) (listed fs f) (same_set_itself f)))
    ∙ ap (λ gs. cond (q f) (f ∷ gs) gs) (filter_same p q fs (λ g t. h g (or_right (pointwise nat_eq f g) (listed fs g) t)))

-- to take out the sides is to take out the facets that contain A
pub staying_sides : (facets : List (List ℕ)) (a b : List ℕ) → over facets a ≡ rising face_cmp (join_boundary a b) → staying facets (join_boundary a b) ≡ beside facets a
staying_sides facets a b e = filter_same (λ f. not (listed (join_boundary a b) f)) (λ f. not (holds f a)) facets (λ f t.
    ap not (sym (listed-rising (join_boundary a b) f) ∙ ap (λ fs. listed fs f) (sym e) ∙ listed-filter (λ g. holds g a) facets f ∙ ap (λ c. c && holds f a) t))

-- the facets with the sides of A taken out and those of B put in
abbrev pub with_facets : ComplexView → List (List ℕ) → ComplexView
with_facets k facets = record { dim = k.dim; facets = facets }

pub flipped_by_sides : (k : ComplexView) (a b : List ℕ) (out more : List (List ℕ)) → out ≡ join_boundary a b → more ≡ join_boundary b a → over k.facets a ≡ rising face_cmp (join_boundary a b) → with_facets k (rising face_cmp (staying k.facets out ++ more)) ≡ flipped k a b
flipped_by_sides k a b out more p q e =
    ap (λ (fs : List (List ℕ)). with_facets k (rising face_cmp (staying k.facets fs ++ more))) p
    ∙ ap (λ (fs : List (List ℕ)). with_facets k (rising face_cmp (staying k.facets (join_boundary a b) ++ fs))) q
    ∙ ap (λ (fs : List (List ℕ)). with_facets k (rising face_cmp (fs ++ join_boundary b a))) (staying_sides k.facets a b e)
