-- The first illegal flip is the same one under each naming of the labels.
use Rattle.std.proofs.Common.{◌≡◌, ℕ, ◌+◌, true, ◌&&◌, List, [], ◌∷◌, ◌++◌, sym, ◌∙◌, ap, subst, inl, inr}
use Rattle.std.specs.List.{AllByRecursion}
use Rattle.std.specs.Cmp.{first_so, second_so}
use Rattle.std.proofs.lemmas.List.{map-append, length-map}
use Rattle.std.proofs.lemmas.List.Folds.{list_all-append}
use Rattle.complex_core.specs.Complexes.{ComplexView}
use Rattle.complex_core.specs.Maps.{renamed}
use Rattle.flip_rules.specs.declared.flip.Flip.{Flip}
use Rattle.flip_rules.specs.declared.flip.Illegal.{Illegal}
use Rattle.flip_rules.specs.Flips.{OfFaces}
use Rattle.flip_rules.specs.Certificates.{IsFirstIllegal}
use Rattle.flip_rules.proofs.Replays.{decides_replay, never_both, first_is_one}
use Rattle.flip_names.specs.Names.{named_flip, named_flips, takes_flip, takes_flips}
use Rattle.flip_names.specs.Laws.{RenamesAll, FirstIllegalIsKept}
use Rattle.flip_names.proofs.Flips.{broken_rule_commutes}
use Rattle.flip_names.proofs.Replays.{replay_stays_taken, leads_there}

each_front : {X : Type 0} (P : X → Type 0) (xs ys : List X) → AllByRecursion P (xs ++ ys) → AllByRecursion P xs
each_front P [] ys h = tt
each_front P (x ∷ xs) ys h = (h.0, each_front P xs ys h.1)

each_behind : {X : Type 0} (P : X → Type 0) (xs ys : List X) → AllByRecursion P (xs ++ ys) → AllByRecursion P ys
each_behind P [] ys h = h
each_behind P (x ∷ xs) ys h = each_behind P xs ys h.1

-- what holds of flips holds of those before one of them, and of this one
record Parts (m : List (ℕ × ℕ)) (k : ComplexView) (before : List Flip) (f : Flip) : Type 0 where
  front : RenamesAll m k before
  faces : OfFaces f
  taken : takes_flip m f ≡ true

parts : (m : List (ℕ × ℕ)) (k : ComplexView) (before : List Flip) (f : Flip) (after : List Flip) → RenamesAll m k (before ++ f ∷ after) → Parts m k before f
parts m k before f after r =
    let t : (takes_flips m before && takes_flips m (f ∷ after)) ≡ true = sym (list_all-append (takes_flip m) before (f ∷ after)) ∙ r.taken in
    let u : takes_flips m (f ∷ after) ≡ true = second_so (takes_flips m before) (takes_flips m (f ∷ after)) t in
    record {
      front = record {
        complex = r.complex;
        faces = each_front OfFaces before (f ∷ after) r.faces;
        taken = first_so (takes_flips m before) (takes_flips m (f ∷ after)) t;
      };
      faces = (each_behind OfFaces before (f ∷ after) r.faces).0;
      taken = first_so (takes_flip m f) (takes_flips m after) u;
    }

named_first : (m : List (ℕ × ℕ)) (k : ComplexView) (flips : List Flip) (n : ℕ) (e : Illegal) → RenamesAll m k flips → IsFirstIllegal k flips n e → IsFirstIllegal (renamed k m) (named_flips m flips) n e
named_first m k flips n e r i =
    let P : List Flip → Type 0 = λ fs. RenamesAll m k fs in
    let p : Parts m k i.before i.flip = parts m k i.before i.flip i.after (subst P i.are r) in
    record {
      before = named_flips m i.before;
      flip = named_flip m i.flip;
      after = named_flips m i.after;
      are = ap (named_flips m) i.are ∙ map-append (named_flip m) i.before (i.flip ∷ i.after);
      counted = i.counted ∙ ap (λ c. c + 1) (sym (length-map i.before (named_flip m)));
      there = renamed i.there m;
      replays = leads_there m k i.there i.before p.front i.replays;
      breaks = broken_rule_commutes m i.there i.flip (replay_stays_taken m k i.there i.before p.front i.replays) p.faces p.taken ∙ i.breaks;
    }

pub first_illegal_is_kept : FirstIllegalIsKept
first_illegal_is_kept m k flips n e r = (
  named_first m k flips n e r,
  λ i. elim (decides_replay k flips) [
    | inl q ↦ absurd (never_both (renamed k m) (renamed q.0 m) (named_flips m flips) n e i (leads_there m k q.0 flips r q.1))
    | inr q ↦
        let s : (q.0 ≡ n) × (q.1 ≡ e) = first_is_one (renamed k m) (named_flips m flips) q.0 n q.1 e (named_first m k flips q.0 q.1 r q.2) i in
        let P : ℕ → Type 0 = λ c. IsFirstIllegal k flips c q.1 in
        let Q : Illegal → Type 0 = λ x. IsFirstIllegal k flips n x in
        subst Q s.1 (subst P s.0 q.2)
  ],
)
