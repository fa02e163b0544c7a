-- The places and the names of their labels.
use Rattle.std.proofs.Common.{◌≡◌, ℕ, ◌+◌, ◌<◌, ◌≤◌, zero, suc, get_or, Bool, true, false, nat_eq, cond, ◌||◌, ◌&&◌, List, [], ◌∷◌, ◌++◌, length, length-append, Some, sym, ◌∙◌, ap, refl, subst, arith}
use Rattle.std.specs.List.{AllByRecursion, list_all, flat_map}
use Rattle.std.specs.List.Sorted.{IsStrictlySortedBy}
use Rattle.std.specs.Ordering.{nat_cmp}
use Rattle.std.specs.Cmp.{first_so, second_so}
use Rattle.std.specs.Cmp.Derive.{both_true}
use Rattle.std.specs.declared.cmp.Ordering.TheVariants.{Less}
use Rattle.std.proofs.lemmas.Bool.{true≢false}
use Rattle.std.proofs.lemmas.Cmp.{nat_cmp_total}
use Rattle.std.proofs.lemmas.List.Folds.{list_any-append}
use Rattle.complex_core.specs.Labels.{has}
use Rattle.complex_core.specs.Complexes.{ComplexView, IsComplex}
use Rattle.complex_core.specs.Maps.{takes, at, turned, takes_all, names_of, used, greatest, next_after}
use Rattle.core_laws.specs.declared.event.Event.{Event}
use Rattle.core_laws.specs.declared.event.Event.TheVariants as event
use Rattle.trace_text.specs.Traces.{Trace, names, is_name, IsTraceEvent}
use Rattle.job_trace.specs.TraceRuns.{HasPlaces}
use Rattle.flip_rules.specs.Flips.{replay}
use Rattle.flip_rules.specs.declared.flip.Flip.{Flip}
use Rattle.star_laws.specs.Stars.{Rises, star, flips_touch}
use Rattle.star_laws.proofs.ReplayStars.{others_replay}
use Rattle.complex_core.proofs.Sets.{above_cons, above_head, above_tail, above_lower, sorted_none}
use Rattle.complex_core.proofs.Pairs.{takes-turned}
use Rattle.complex_core.proofs.Places.{length_numbered, length_next, few_used, place_named}
use Rattle.complex_core.proofs.Renaming.{Named, named, each_label}
use Rattle.complex_core.proofs.Members.{passes_has}

pub none_at : (ps : List (ℕ × ℕ)) (x : ℕ) → (takes ps x ≡ true → ⊥) → 0 ≡ at ps x
none_at [] x h = refl
none_at (p ∷ ps) x h =
    elim (nat_eq p.0 x) as (λ b. ((b || takes ps x) ≡ true → ⊥) → 0 ≡ cond b p.1 (at ps x)) [
      | true ↦ λ g. absurd (g refl)
      | false ↦ λ g. none_at ps x g
    ] h

-- ---- events on places

label_has_place : (t : Trace) (xs : List ℕ) → AllByRecursion (λ x. is_name t x ≡ true) xs → list_all (takes (turned (names t))) xs ≡ true
label_has_place t [] h = refl
label_has_place t (x ∷ xs) h = both_true (takes-turned (names t) x ∙ h.0) (label_has_place t xs h.1)

event_has_places : (t : Trace) (e : Event) → IsTraceEvent t e → HasPlaces (turned (names t)) e
event_has_places t (event.Claim worker place) h = tt
event_has_places t (event.Flip worker f) h = (label_has_place t f.a h.named.0.known, label_has_place t f.b h.named.1.known)
event_has_places t (event.Rollback worker) h = tt
event_has_places t (event.Commit worker) h = tt
event_has_places t (event.Release worker place) h = tt

each_at : {X : Type 0} (P : X → Type 0) (xs : List X) (i : ℕ) (x : X) → AllByRecursion P xs → i < length xs → x ≡ get_or xs i x → P x
each_at P [] i x h l e = absurd (omega (arith, l))
each_at P (y ∷ ys) zero x h l e = subst P (sym e) h.0
each_at P (y ∷ ys) (suc i) x h l e = each_at P ys i x h.1 (omega arith) e

pub has_places : (t : Trace) (ns places : List (ℕ × ℕ)) (shown : List Event) (i : ℕ) (e : Event) → ns ≡ names t → places ≡ turned ns → shown ≡ t.events → i < length shown → e ≡ get_or shown i e → AllByRecursion (IsTraceEvent t) t.events → HasPlaces places e
has_places t ns places shown i e en ep es l is all =
    let P : List Event → Type 0 = λ events. AllByRecursion (IsTraceEvent t) events in
    let Q : List (ℕ × ℕ) → Type 0 = λ ps. HasPlaces ps e in
    subst Q (sym (ep ∙ ap turned en)) (event_has_places t e (each_at (IsTraceEvent t) shown i e (subst P (sym es) all) l is))

-- ---- how many places there are

front_rises : (low : ℕ) (xs ys : List ℕ) → IsStrictlySortedBy nat_cmp (low ∷ xs ++ ys) → IsStrictlySortedBy nat_cmp (low ∷ xs)
front_rises low [] ys s = above_cons nat_cmp low [] tt (sorted_none nat_cmp)
front_rises low (x ∷ xs) ys s =
    let rest : IsStrictlySortedBy nat_cmp (x ∷ xs) = front_rises x xs ys (above_tail nat_cmp low (x ∷ xs ++ ys) s) in
    let first : nat_cmp low x ≡ Less = (above_head nat_cmp low (x ∷ xs ++ ys) s).0 in
    above_cons nat_cmp low (x ∷ xs) (first, above_lower nat_cmp_total low x xs first (above_head nat_cmp x xs rest)) rest

pub few_names : (k : ComplexView) (room : ℕ) (ns shown : List (ℕ × ℕ)) → IsComplex k → greatest (used k.facets) + room ≤ 65535 → ns ≡ names_of k.facets room → shown ≡ ns → length shown ≤ 65535
few_names k room ns shown h l en es =
    let n : Named k room = named k room h in
    omega (arith, ap (λ (ps : List (ℕ × ℕ)). length ps) (es ∙ en), length_numbered 1 (used k.facets ++ next_after (greatest (used k.facets)) room), length-append (used k.facets) (next_after (greatest (used k.facets)) room), length_next (greatest (used k.facets)) room, few_used (used k.facets) (front_rises 0 (used k.facets) _ n.labels), l)

-- ---- each place has a name

pub name_taken : (fs : List (List ℕ)) (room p : ℕ) → 0 < p → p ≤ length (names_of fs room) → takes (names_of fs room) p ≡ true
name_taken fs room p low high = let xs = used fs ++ next_after (greatest (used fs)) room in place_named 1 xs p low (omega (arith, high, length_numbered 1 xs))

-- ---- the labels that a list of facets uses

-- whether a list has a member
abbrev is_more : {X : Type 0} → List X → Bool
is_more [] = false
is_more (x ∷ xs) = true

-- a label is used where its star isn't empty
used_star : (fs : List (List ℕ)) (x : ℕ) → has (flat_map (λ f. f) fs) x ≡ is_more (star fs x)
used_star [] x = refl
used_star (f ∷ fs) x =
    list_any-append (λ y. nat_eq y x) f (flat_map (λ g. g) fs)
    ∙ elim (has f x) as (λ b. (b || has (flat_map (λ g. g) fs) x) ≡ is_more (cond (b && true) (f ∷ star fs x) (star fs x))) [
      | true ↦ refl
      | false ↦ used_star fs x
    ]

used_passes : (q : ℕ → Bool) (fs : List (List ℕ)) (x : ℕ) → list_all (λ f. list_all q f) fs ≡ true → has (flat_map (λ f. f) fs) x ≡ true → q x ≡ true
used_passes q [] x all h = absurd (true≢false (sym h))
used_passes q (f ∷ fs) x all h =
    elim (has f x) as (λ b. has f x ≡ b → (b || has (flat_map (λ g. g) fs) x) ≡ true → q x ≡ true) [
      | true ↦ λ e _. passes_has q f x (first_so (list_all q f) (list_all (λ g. list_all q g) fs) all) e
      | false ↦ λ _ g. used_passes q fs x (second_so (list_all q f) (list_all (λ g. list_all q g) fs) all) g
    ] refl (sym (list_any-append (λ y. nat_eq y x) f (flat_map (λ g. g) fs)) ∙ h)

-- where the labels of a complex and of flips have names, so have those of the complex after the flips
pub replay_named : (ns : List (ℕ × ℕ)) (k m : ComplexView) (flips : List Flip) → Rises k → replay k flips ≡ Some m → takes_all ns k.facets ≡ true → ((p : ℕ) → flips_touch p flips ≡ true → takes ns p ≡ true) → takes_all ns m.facets ≡ true
replay_named ns k m flips r e all touched = each_label (takes ns) m.facets (λ x h.
    elim (flips_touch x flips) as (λ b. flips_touch x flips ≡ b → takes ns x ≡ true) [
      | true ↦ λ t. touched x t
      | false ↦ λ t. used_passes (takes ns) k.facets x all (used_star k.facets x ∙ ap (λ fs. is_more fs) (sym (others_replay k m flips x r e t)) ∙ sym (used_star m.facets x) ∙ h)
    ] refl)
