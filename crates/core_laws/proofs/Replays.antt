-- Replays of one list after another, and what they keep of the complex.
use Rattle.std.proofs.Common.{◌≡◌, ℕ, Bool, true, false, ◌||◌, List, [], ◌∷◌, ◌++◌, Ok, Option, Some, None, IsSome, unwrap_or, sym, ◌∙◌, ap, refl, subst}
use Rattle.std.proofs.lemmas.Grind.{flat_map-append}
use Rattle.std.proofs.lemmas.List.{append-nil}
use Rattle.std.proofs.lemmas.List.Folds.{list_any-append}
use Rattle.complex_core.specs.Complexes.{ComplexView}
use Rattle.flip_rules.specs.Flips.{broken_rule, flipped, replay}
use Rattle.flip_rules.specs.Entries.{JournalEntry}
use Rattle.flip_rules.specs.Journals.{flip_touches, flat}
use Rattle.flip_rules.specs.declared.flip.Flip.{Flip}
use Rattle.star_laws.specs.Stars.{Rises, EndAlikeOn, flips_touch}
use Rattle.star_laws.proofs.FlipStars.{rises_flipped}
use Rattle.flip_rules.proofs.Replays.{first_flip}
use Rattle.core_laws.specs.Cores.{after}

pub some_same : (k m : ComplexView) → Some k ≡ Some m → k ≡ m
some_same k m e = cc

-- a replay that comes to an end comes to that one
pub replay_end : (k : ComplexView) (fs : List Flip) → IsSome (replay k fs) → replay k fs ≡ Some (after k fs)
replay_end k fs h = some_end (replay k fs) k h
  where
    some_end : (o : Option ComplexView) (k : ComplexView) → IsSome o → o ≡ Some (unwrap_or o k)
    some_end (Some m) k h = refl
    some_end None k h = let e : false ≡ true = h in cc

pub some_replay : (k m : ComplexView) (fs : List Flip) → replay k fs ≡ Some m → IsSome (replay k fs)
some_replay k m fs e = let P : Option ComplexView → Type 0 = λ o. IsSome o in subst P (sym e) refl

pub after_is : (k m : ComplexView) (fs : List Flip) → replay k fs ≡ Some m → after k fs ≡ m
after_is k m fs e = ap (λ o. unwrap_or o k) e

pub flat_push : (entries : List JournalEntry) (e : JournalEntry) → flat (entries ++ e ∷ []) ≡ flat entries ++ e.flips
flat_push entries e = flat_map-append (λ (e : JournalEntry). e.flips) entries (e ∷ []) ∙ ap (λ fs. flat entries ++ fs) (append-nil e.flips)

pub touch-append : (p : ℕ) (fs gs : List Flip) → flips_touch p (fs ++ gs) ≡ (flips_touch p fs || flips_touch p gs)
touch-append p fs gs = list_any-append (flip_touches p) fs gs

-- the facets stay in order
pub rises_replay : (k m : ComplexView) (fs : List Flip) → Rises k → replay k fs ≡ Some m → Rises m
rises_replay k m [] s e = let P : ComplexView → Type 0 = λ n. Rises n in subst P (some_same k m e) s
rises_replay k m (f ∷ fs) s e =
    let r : (broken_rule k f.a f.b ≡ Ok tt) × (replay (flipped k f.a f.b) fs ≡ Some m) = first_flip k m f fs e in
    rises_replay (flipped k f.a f.b) m fs (rises_flipped k f.a f.b) r.1

-- where one of two replays that end alike comes to an end, the other one does
pub other_end : (held : ℕ → Bool) (x y : Option ComplexView) → EndAlikeOn held x y → IsSome x → IsSome y
other_end held (Some m) (Some n) h s = refl
other_end held (Some m) None h s = absurd h
other_end held None (Some n) h s = absurd h
other_end held None None h s = s
