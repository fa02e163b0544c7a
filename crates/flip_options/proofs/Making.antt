-- The options of a complex, made from nothing and after a flip.
use Rattle.std.proofs.Common.{◌≡◌, ℕ, ◌+◌, ◌-◌, ◌<◌, ◌≤◌, true, nat_eq, List, [], ◌∷◌, length, Option, Some, None, sym, ◌∙◌, ap, refl, subst, arith, ◌⊎◌, inl, inr}
use Rattle.std.specs.Prelude.{MatchOption}
use Rattle.std.specs.List.{list_all, slice_get}
use Rattle.std.specs.Map.{lookup}
use Rattle.std.specs.Ordering.{nat_cmp}
use Rattle.std.specs.BTreeMap.{get, is_at, IsOrdered}
use Rattle.std.proofs.lemmas.Option.{none-some, same_Some}
use Rattle.complex_core.specs.Labels.{has, holds, union}
use Rattle.complex_core.specs.Complexes.{ComplexView}
use Rattle.complex_core.proofs.Sets.{above_tail}
use Rattle.complex_core.proofs.Laws.{holds_has, length-union_apart, listed, or_left, nat_eq_same}
use Rattle.flip_rules.specs.Flips.{flipped, Legal}
use Rattle.flip_rules.specs.declared.flip.Flip.{Flip}
use Rattle.flip_rules.proofs.Legal.{legal}
use Rattle.stars.specs.StarViews.{StarList, IsStarListOf, places_in}
use Rattle.descent_laws.specs.Descents.{IsReducing, IsMinimal, IsBest, AreCandidates}
use Rattle.descent_laws.proofs.Candidates.{first_is_best, none_is_minimal}
use Rattle.flip_options.specs.Candidates.{Candidates, key_cmp, key_of, flip_from, flips_of, is_sized, Refreshed, FirstLook, IsPart, MeetsSide}
use Rattle.flip_options.specs.OptionViews.{AreOptions, IsStep}
use Rattle.flip_options.proofs.Entries.{right_from, candidates_made}
use Rattle.flip_options.proofs.Refreshing.{refreshed_then}
use Rattle.flip_options.proofs.Flipping.{flip_right}
use Rattle.flip_options.proofs.Looking.{PlacedBelow}
use Rattle.flip_options.proofs.Places.{place_high, place_low}
use Rattle.std.proofs.lemmas.Bool.{false_from_ne_true}
use Rattle.complex_core.proofs.SubsetLists.{clash}
use Rattle.complex_core.proofs.SetLists.{found_set}

some_first : (f : List ℕ) → 0 < length f → (p : ℕ) × (slice_get f 0 ≡ Some p) × (has f p ≡ true)
some_first [] n = absurd (omega (arith, n))
some_first (p ∷ rest) n = (p, refl, or_left (nat_eq p p) (has rest p) (nat_eq_same p))

-- the A of a candidate is a face that is looked at
placed : (k : ComplexView) (s : StarList) (a b : List ℕ) → IsStarListOf k s → IsReducing k (flip_from a b) → PlacedBelow (places_in s) k a
placed k s a b h r =
    let l : Legal k a b = legal k a b r.legal in
    let x : (x : ℕ) × (slice_get a 0 ≡ Some x) × (has a x ≡ true) = some_first a (omega (arith, l.shape.first)) in
    let f : (f : List ℕ) × (listed k.facets f ≡ true) × (holds f a ≡ true) = found_set (λ f. holds f a) k.facets l.face in
    let there : has f.0 x.0 ≡ true = holds_has f.0 a x.0 f.2 x.2 in
    let low : 0 < x.0 = place_low k f.0 x.0 h.complex f.1 there in
    let e : x.0 ≡ x.0 - 1 + 1 = omega (arith, low) in
    record {
      at = x.0 - 1;
      high = omega (arith, low, place_high k s f.0 x.0 h f.1 there);
      is = record { first = x.1 ∙ ap Some e; face = r.faces.first; held = l.face; few = omega (arith, l.shape.sizes, r.high) };
    }

none_at : (m : Candidates) (q : ℕ × List ℕ) → m.entries ≡ [] → get key_cmp m q ≡ None
none_at m q e = ap (lookup (is_at (key_cmp q))) e

pub of_made : (s : StarList) (m n : Candidates) (place : ℕ) → m.entries ≡ [] → FirstLook s m n (λ k a. PlacedBelow place k a) → places_in s ≤ place → IsOrdered key_cmp n → (k : ComplexView) → IsStarListOf k s → AreOptions k (Some (flips_of n))
of_made s m n place e r l o k h = record {
  flips = flips_of n;
  kept = refl;
  all = candidates_made k n o (r.sized (ap (λ es. list_all (λ q. nat_eq q.0.0 (length q.0.1)) es) e)) (λ a. elim (r.each k h a) [
    | inr right ↦ right
    | inl same ↦ record {
      sound = λ b g. absurd (none-some b (sym (same ∙ none_at m (key_of a) e) ∙ g));
      complete = λ b g. (r.done k h a (wider (placed k s a b h g)) (none_at m (key_of a) e)).complete b g;
    }
  ]);
}
  where
    wider : {a : List ℕ} → PlacedBelow (places_in s) k a → PlacedBelow place k a
    wider p = record { at = p.at; high = omega (arith, p.high, l); is = p.is }

-- ---- after a flip

pub step_fits : (k : ComplexView) (o : Option (List Flip)) (s : StarList) (f : Flip) → IsStep k o s f → length (union f.a f.b) ≤ 8
step_fits k o s f h =
    let l : Legal k f.a f.b = legal k f.a f.b h.legal in
    omega (arith, length-union_apart f.a f.b (above_tail nat_cmp 0 f.b h.faces.second.rising) (λ z t. false_from_ne_true (has f.a z) (λ u. clash {P = ⊥} (has f.b z) t (l.shape.apart z u))), l.shape.sizes, h.complex.low)

candidates_of : (k : ComplexView) (o : Option (List Flip)) (flips : List Flip) → AreOptions k o → o ≡ Some flips → AreCandidates k flips
candidates_of k o flips h e = let P : List Flip → Type 0 = λ fs. AreCandidates k fs in subst P (same_Some h.flips flips (sym h.kept ∙ e)) h.all

pub after_made : (s : StarList) (f : Flip) (o : Option (List Flip)) (was mid next now : Candidates) (all : List ℕ) → o ≡ Some (flips_of was) → is_sized was ≡ true → all ≡ union f.a f.b → Refreshed s was mid (λ k a. IsPart k all a) → Refreshed s mid next (λ k a. MeetsSide k f.a a) → Refreshed s next now (λ k a. MeetsSide k f.b a) → IsOrdered key_cmp now → (k : ComplexView) → IsStep k o s f → AreOptions (flipped k f.a f.b) (Some (flips_of now))
after_made s f o was mid next now all e sized is_union p q r order k h =
    let c : AreCandidates k (flips_of was) = candidates_of k o (flips_of was) h.had e in
    let Sides : ComplexView → List ℕ → Type 0 = λ l a. MeetsSide l f.a a ⊎ MeetsSide l f.b a in
    let sides : Refreshed s mid now Sides = refreshed_then s mid next now (λ l a. MeetsSide l f.a a) (λ l a. MeetsSide l f.b a) Sides q r (λ l i a t. t) in
    let whole : Refreshed s was now (λ l a. IsPart l all a ⊎ Sides l a) = refreshed_then s was mid now (λ l a. IsPart l all a) Sides (λ l a. IsPart l all a ⊎ Sides l a) p sides (λ l i a t. t) in
    record {
      flips = flips_of now;
      kept = refl;
      all = candidates_made (flipped k f.a f.b) now order (whole.sized sized) (λ a.
          let P : List ℕ → Type 0 = λ w. IsPart (flipped k f.a f.b) w a in
          flip_right k f a was now h.complex h.faces h.legal (right_from k was sized c a) (whole.each (flipped k f.a f.b) h.after a)
          (λ t. whole.done (flipped k f.a f.b) h.after a (inl (subst P (sym is_union) t)))
          (λ t. whole.done (flipped k f.a f.b) h.after a (inr (inl t)))
          (λ t. whole.done (flipped k f.a f.b) h.after a (inr (inr t))));
    }

-- ---- the best

-- what the first of the candidates is
pub best_of : (k : ComplexView) (flips : List Flip) (r : Option Flip) → AreCandidates k flips → r ≡ slice_get flips 0 → MatchOption r (IsMinimal k) (IsBest k)
best_of k [] r c e = let P : Option Flip → Type 0 = λ q. MatchOption q (IsMinimal k) (IsBest k) in subst P (sym e) (none_is_minimal k c)
best_of k (f ∷ fs) r c e = let P : Option Flip → Type 0 = λ q. MatchOption q (IsMinimal k) (IsBest k) in subst P (sym e) (first_is_best k f fs c)

pub first_best : (k : ComplexView) (m : Candidates) (o : Option (List Flip)) (r : Option Flip) → o ≡ Some (flips_of m) → r ≡ slice_get (flips_of m) 0 → AreOptions k o → MatchOption r (IsMinimal k) (IsBest k)
first_best k m o r e is h = best_of k (flips_of m) r (candidates_of k o (flips_of m) h e) is

-- ---- a step
