-- What is carried over a map leads to a complex that the map at the end takes to the end of the flips.
use Rattle.std.proofs.Common.{◌≡◌, ℕ, true, not, ◌||◌, ◌&&◌, Ok, List, [], ◌∷◌, Some, sym, ◌∙◌, ap, subst}
use Rattle.std.specs.List.{AllByRecursion, list_all}
use Rattle.std.specs.List.Sorted.{IsStrictlySortedBy}
use Rattle.std.specs.Ordering.{nat_cmp}
use Rattle.std.specs.Cmp.{second_so}
use Rattle.std.specs.Cmp.Derive.{both_true}
use Rattle.std.proofs.lemmas.Option.{same_Some}
use Rattle.complex_core.specs.Labels.{has}
use Rattle.complex_core.specs.Complexes.{ComplexView, IsComplex}
use Rattle.complex_core.specs.Maps.{IsMap, takes, takes_all, used, renamed}
use Rattle.complex_core.proofs.Sets.{above_tail}
use Rattle.complex_core.proofs.Laws.{each_has, each_listed, or_left, or_right}
use Rattle.complex_core.proofs.Members.{label_low}
use Rattle.complex_core.proofs.SetLists.{used_label}
use Rattle.flip_rules.specs.declared.flip.Flip.{Flip}
use Rattle.flip_rules.specs.Flips.{OfFaces, broken_rule, flipped, replay, Legal}
use Rattle.flip_rules.proofs.Legal.{legal}
use Rattle.flip_rules.proofs.Replays.{complex_flipped, first_flip, replay_legal}
use Rattle.flip_names.specs.Names.{named_flip, takes_flip}
use Rattle.flip_names.specs.Laws.{Renames}
use Rattle.flip_names.proofs.Flips.{broken_rule_commutes, flip_commutes}
use Rattle.flip_journal.specs.Carried.{vanishes, names_for, names_after, carried, names_at_end}
use Rattle.flip_journal.proofs.Labels.{first_used, labels_after}
use Rattle.flip_journal.proofs.Naming.{Grown, Left, grown, left, renamed_alike}

-- these are the names of the labels of a complex
pub record Names (names : List (ℕ × ℕ)) (k : ComplexView) : Type 0 where
  pub is_map : IsMap names
  pub complex : IsComplex k
  pub labels : (x : ℕ) → takes names x ≡ has (used k.facets) x

takes_used : (m : List (ℕ × ℕ)) (k : ComplexView) → ((x : ℕ) → has (used k.facets) x ≡ true → takes m x ≡ true) → takes_all m k.facets ≡ true
takes_used m k h = each_listed (λ f. list_all (takes m) f) k.facets (λ f t. each_has (takes m) f (λ x u. h x (used_label k.facets f x t u)))

pub names_rename : (names : List (ℕ × ℕ)) (k : ComplexView) → Names names k → Renames names k
names_rename names k n = record { is_map = n.is_map; complex = n.complex; taken = takes_used names k (λ x t. n.labels x ∙ t) }

-- ---- one flip

module _ (names : List (ℕ × ℕ)) (k : ComplexView) (f : Flip) (n : Names names k) (faces : OfFaces f) (e : broken_rule k f.a f.b ≡ Ok tt) where
  lawful : Legal k f.a f.b
  lawful = legal k f.a f.b e

  rises : IsStrictlySortedBy nat_cmp f.a
  rises = above_tail nat_cmp 0 f.a faces.first.rising

  grown_for : Grown names (names_for names f) f.b
  grown_for = grown names f.b n.is_map (λ x t. label_low f.b x faces.second t)

  wider : (x : ℕ) → has (used k.facets) x ≡ true → takes (names_for names f) x ≡ true
  wider x t = grown_for.takes_are x ∙ or_left (takes names x) (has f.b x) (n.labels x ∙ t)

  renames_for : Renames (names_for names f) k
  renames_for = record { is_map = grown_for.is_map; complex = n.complex; taken = takes_used (names_for names f) k wider }

  pub flip_taken : takes_flip (names_for names f) f ≡ true
  flip_taken = both_true
      (each_has (takes (names_for names f)) f.a (λ x t. wider x (first_used k f.a f.b lawful rises x t)))
      (each_has (takes (names_for names f)) f.b (λ x t. grown_for.takes_are x ∙ or_right (takes names x) (has f.b x) t))

  same_image : renamed k (names_for names f) ≡ renamed k names
  same_image = renamed_alike (names_for names f) names k (λ x t. grown_for.same x (n.labels x ∙ t))

  left_after : Left (names_for names f) (names_after names f) (λ x. not (vanishes f.a x))
  left_after = left (names_for names f) (λ x. not (vanishes f.a x)) grown_for.is_map

  pub names_next : Names (names_after names f) (flipped k f.a f.b)
  names_next = record {
    is_map = left_after.is_map;
    complex = complex_flipped k f.a f.b n.complex faces.first faces.second e;
    labels = λ x.
        left_after.takes_are x
        ∙ ap (λ c. c && not (vanishes f.a x)) (grown_for.takes_are x ∙ ap (λ c. c || has f.b x) (n.labels x))
        ∙ sym (labels_after k f.a f.b lawful rises x);
  }

  legal_named : broken_rule (renamed k names) (named_flip (names_for names f) f).a (named_flip (names_for names f) f).b ≡ Ok tt
  legal_named =
      ap (λ l. broken_rule l (named_flip (names_for names f) f).a (named_flip (names_for names f) f).b) (sym same_image)
      ∙ broken_rule_commutes (names_for names f) k f renames_for faces flip_taken ∙ e

  after_named : flipped (renamed k names) (named_flip (names_for names f) f).a (named_flip (names_for names f) f).b ≡ renamed (flipped k f.a f.b) (names_after names f)
  after_named =
      ap (λ l. flipped l (named_flip (names_for names f) f).a (named_flip (names_for names f) f).b) (sym same_image)
      ∙ sym (flip_commutes (names_for names f) k f renames_for flip_taken)
      ∙ sym (renamed_alike (names_after names f) (names_for names f) (flipped k f.a f.b) (λ x t. left_after.same x (second_so (has (used k.facets) x || has f.b x) (not (vanishes f.a x)) (sym (labels_after k f.a f.b lawful rises x) ∙ t))))

  replay_named : (fs : List Flip) → replay (renamed k names) (named_flip (names_for names f) f ∷ fs) ≡ replay (renamed (flipped k f.a f.b) (names_after names f)) fs
  replay_named fs = replay_legal (renamed k names) (named_flip (names_for names f) f) fs legal_named ∙ ap (λ l. replay l fs) after_named

-- ---- flips one after another

-- after the flips these are the names of the labels of their end, and the carried flips lead to the end under its names
pub record Carries (names : List (ℕ × ℕ)) (k l : ComplexView) (flips : List Flip) : Type 0 where
  pub names_are : Names (names_at_end names flips) l
  pub leads : replay (renamed k names) (carried names flips) ≡ Some (renamed l (names_at_end names flips))

pub carries : (names : List (ℕ × ℕ)) (k l : ComplexView) (flips : List Flip) → Names names k → AllByRecursion OfFaces flips → replay k flips ≡ Some l → Carries names k l flips
carries names k l [] n faces e =
    let p : k ≡ l = same_Some k l e in
    let P : ComplexView → Type 0 = λ m. Names names m in
    record { names_are = subst P p n; leads = ap (λ m. Some (renamed m names)) p }
carries names k l (f ∷ fs) n faces e =
    let p : (broken_rule k f.a f.b ≡ Ok tt) × (replay (flipped k f.a f.b) fs ≡ Some l) = first_flip k l f fs e in
    let c : Carries (names_after names f) (flipped k f.a f.b) l fs = carries (names_after names f) (flipped k f.a f.b) l fs (names_next names k f n faces.0 p.0) faces.1 p.1 in
    record { names_are = c.names_are; leads = replay_named names k f n faces.0 p.0 (carried (names_after names f) fs) ∙ c.leads }
