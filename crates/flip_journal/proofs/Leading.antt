-- The laws of lists of flips: what is carried leads, and inverse lists lead back.
use Rattle.std.proofs.Common.{◌≡◌, ℕ, ◌+◌, ◌<◌, ◌≤◌, get_or, take, drop, filter, not, Ok, true, List, [], ◌∷◌, ◌++◌, length, map, Some, sym, ◌∙◌, ap, refl, arith, subst}
use Rattle.std.specs.List.{AllByRecursion, flat_map}
use Rattle.std.proofs.lemmas.List.{drop_more, take-append-drop, take_all}
use Rattle.std.proofs.lemmas.Cmp.{nat_cmp_total}
use Rattle.std.proofs.lemmas.List.{length-append}
use Rattle.std.proofs.lemmas.Option.{same_Some}
use Rattle.complex_core.specs.Labels.{has}
use Rattle.complex_core.specs.Complexes.{ComplexView, IsComplex}
use Rattle.complex_core.specs.Maps.{IsMap, Differ, takes, reaches, at, face_image, image, turned, used, renamed}
use Rattle.complex_core.proofs.Sets.{sorted_rising}
use Rattle.complex_core.proofs.Images.{reaches_at}
use Rattle.complex_core.proofs.Laws.{both_ways, listed, same_labels}
use Rattle.complex_core.proofs.Pairs.{reaches-turned, takes-rising, takes-turned}
use Rattle.complex_core.proofs.Places.{at_back}
use Rattle.complex_core.proofs.SetLists.{used_label}
use Rattle.flip_rules.specs.declared.flip.Flip.{Flip}
use Rattle.flip_rules.specs.Flips.{OfFaces, broken_rule, flipped, replay}
use Rattle.flip_rules.proofs.Replays.{complex_replayed, first_flip, replay-append, replay_split, replays_back}
use Rattle.flip_names.specs.Names.{named_flip, takes_flip}
use Rattle.complex_core.proofs.Members.{each_push, taken_more}
use Rattle.flip_rules.specs.Laws.{inverse_list}
use Rattle.flip_names.specs.Laws.{map_back}
use Rattle.flip_names.proofs.Back.{back_is_map, renamed_back}
use Rattle.flip_names.proofs.Faces.{renamed_is_complex}
use Rattle.flip_names.proofs.Images.{in_image, image_has, image_listed, listed_image}
use Rattle.flip_journal.specs.Carried.{NamesLabels, IsLegalList, LeadsTo, carried, vanishes, names_for, names_after, names_at_end, carried_over, map_at_end}
use Rattle.flip_journal.specs.Laws.{InverseIsAsLong, CarriedJoins, CarriedLeads}
use Rattle.flip_journal.proofs.Kept.{has-firsts, firsts_rise}
use Rattle.flip_journal.proofs.Labels.{used_found}
use Rattle.flip_journal.proofs.Carrying.{Names, Carries, carries, flip_taken, names_rename}

-- ---- the labels of a complex

pub names_labels : (m : List (ℕ × ℕ)) (k : ComplexView) → IsMap m → ((x : ℕ) → takes m x ≡ has (used k.facets) x) → NamesLabels m k
names_labels m k h e = same_labels (map (λ p. p.0) m) (used k.facets) (firsts_rise m h.differ h.rising) (sorted_rising nat_cmp_total (flat_map (λ f. f) k.facets)) (λ z. has-firsts m z ∙ e z)

pub labels_named : (m : List (ℕ × ℕ)) (k : ComplexView) → NamesLabels m k → (x : ℕ) → takes m x ≡ has (used k.facets) x
labels_named m k e x = sym (has-firsts m x) ∙ ap (λ xs. has xs x) e

-- ---- the map turned round

reached_from : (m : List (ℕ × ℕ)) (y : ℕ) → Differ m → reaches m y ≡ true → (x : ℕ) × (takes m x ≡ true) × (at m x ≡ y)
reached_from m y d t =
    let x : ℕ = at (turned m) y in
    (x, sym (reaches-turned m x) ∙ reaches_at (turned m) y (takes-turned m y ∙ t), at_back m y d t)

-- the names of the labels of an image are the pairs turned round
pub turned_names : (m : List (ℕ × ℕ)) (k : ComplexView) → Names m k → Names (map_back m) (renamed k m)
turned_names m k n = record {
  is_map = back_is_map m n.is_map;
  complex = renamed_is_complex m k (names_rename m k n);
  labels = λ y. takes-rising (turned m) y ∙ takes-turned m y ∙ both_ways (reaches m y) (has (used (image m k.facets)) y)
      (λ t.
      let q : (x : ℕ) × (takes m x ≡ true) × (at m x ≡ y) = reached_from m y n.is_map.differ t in
      let r : (f : List ℕ) × (listed k.facets f ≡ true) × (has f q.0 ≡ true) = used_found k.facets q.0 (sym (n.labels q.0) ∙ q.1) in
      used_label (image m k.facets) (face_image m r.0) y (listed_image m k.facets r.0 r.1) (ap (has (face_image m r.0)) (sym q.2) ∙ in_image m r.0 q.0 r.2))
      (λ t.
      let r : (g : List ℕ) × (listed (image m k.facets) g ≡ true) × (has g y ≡ true) = used_found (image m k.facets) y t in
      let q : (f : List ℕ) × (listed k.facets f ≡ true) × (r.0 ≡ face_image m f) = image_listed m k.facets r.0 r.1 in
      let s : (x : ℕ) × (has q.0 x ≡ true) × (y ≡ at m x) = image_has m q.0 y (ap (λ g. has g y) (sym q.2) ∙ r.2) in
      ap (reaches m) s.2 ∙ reaches_at m s.0 (n.labels s.0 ∙ used_label k.facets q.0 s.0 q.1 s.1));
}

-- ---- the laws

pub start_names : (k : ComplexView) (m : List (ℕ × ℕ)) → IsComplex k → IsMap m → NamesLabels m k → Names m k
start_names k m c h e = record { is_map = h; complex = c; labels = labels_named m k e }

pub carried_leads : CarriedLeads
carried_leads k m flips c h e faces lawful =
    let n : Names m k = start_names k m c h e in
    let r : Carries (map_back m) (renamed k m) lawful.0 flips = carries (map_back m) (renamed k m) lawful.0 flips (turned_names m k n) faces lawful.1 in
    let names : List (ℕ × ℕ) = names_at_end (map_back m) flips in
    let last : Names (map_back names) (renamed lawful.0 names) = turned_names names lawful.0 r.names_are in
    record {
      there = renamed lawful.0 names;
      end = lawful.0;
      given = lawful.1;
      carried = ap (λ l. replay l (carried_over m flips)) (sym (renamed_back m k (names_rename m k n))) ∙ r.leads;
      is_map = last.is_map;
      labels = names_labels (map_back names) (renamed lawful.0 names) last.is_map last.labels;
      image = renamed_back names lawful.0 (names_rename names lawful.0 r.names_are);
    }

pub inverse_is_as_long : InverseIsAsLong
inverse_is_as_long [] = refl
inverse_is_as_long (f ∷ fs) = length-append (inverse_list fs) (record { a = f.b; b = f.a } ∷ []) ∙ omega (arith, inverse_is_as_long fs)

inverse_faces : (fs : List Flip) → AllByRecursion OfFaces fs → AllByRecursion OfFaces (inverse_list fs)
inverse_faces [] h = tt
inverse_faces (f ∷ fs) h = each_push OfFaces (inverse_list fs) (record { a = f.b; b = f.a }) (inverse_faces fs h.1) (record { first = h.0.second; second = h.0.first })

pub carried_joins : CarriedJoins
carried_joins k l end last m flips others ck cl faces more e f h labels image =
    let back : replay (renamed end m) (inverse_list others) ≡ Some l = ap (λ n. replay n (inverse_list others)) image ∙ replays_back l last others cl more f in
    let r : LeadsTo end m (inverse_list others) (carried_over m (inverse_list others)) (map_at_end m (inverse_list others)) =
    carried_leads end m (inverse_list others) (complex_replayed k end flips ck faces e) h labels (inverse_faces others more) (l, back) in
    record {
      there = r.there;
      replays = replay-append k end flips (carried_over m (inverse_list others)) e ∙ r.carried;
      is_map = r.is_map;
      labels = r.labels;
      image = r.image ∙ same_Some r.end l (sym r.given ∙ back);
    }

-- ---- flips so far

carried_more : (names : List (ℕ × ℕ)) (fs : List Flip) (f : Flip) → carried names (fs ++ f ∷ []) ≡ carried names fs ++ named_flip (names_for (names_at_end names fs) f) f ∷ []
carried_more names [] f = refl
carried_more names (g ∷ fs) f = ap (λ gs. named_flip (names_for names g) g ∷ gs) (carried_more (names_after names g) fs f)

names_more : (names : List (ℕ × ℕ)) (fs : List Flip) (f : Flip) → names_at_end names (fs ++ f ∷ []) ≡ names_after (names_at_end names fs) f
names_more names [] f = refl
names_more names (g ∷ fs) f = names_more (names_after names g) fs f

-- what is so before the flip at this position
pub record SoFar (m : List (ℕ × ℕ)) (flips : List Flip) (i : ℕ) (out : List Flip) (names : List (ℕ × ℕ)) : Type 0 where
  pub carried_are : out ≡ carried_over m (take i flips)
  pub names_are : names ≡ names_at_end (map_back m) (take i flips)
  pub faces : AllByRecursion OfFaces (take i flips)

-- the flip's labels have names
pub taken_here : (k : ComplexView) (m : List (ℕ × ℕ)) (flips : List Flip) (i : ℕ) (f : Flip) (out : List Flip) (names more : List (ℕ × ℕ)) → IsComplex k → IsMap m → NamesLabels m k → IsLegalList (renamed k m) flips → SoFar m flips i out names → i < length flips → f ≡ get_or flips i f → OfFaces f → more ≡ names_for names f → takes_flip more f ≡ true
taken_here k m flips i f out names more c h e lawful s l is faces grown =
    let split : replay (renamed k m) (take i flips ++ drop i flips) ≡ Some lawful.0 = ap (replay (renamed k m)) (take-append-drop i flips) ∙ lawful.1 in
    let r : (n : ComplexView) × (replay (renamed k m) (take i flips) ≡ Some n) × (replay n (drop i flips) ≡ Some lawful.0) = replay_split (renamed k m) lawful.0 (take i flips) (drop i flips) split in
    let next : drop i flips ≡ f ∷ drop (i + 1) flips = drop_more flips i f l ∙ ap (λ g. g ∷ drop (i + 1) flips) (sym is) in
    let p : (broken_rule r.0 f.a f.b ≡ Ok tt) × (replay (flipped r.0 f.a f.b) (drop (i + 1) flips) ≡ Some lawful.0) = first_flip r.0 lawful.0 f (drop (i + 1) flips) (ap (replay r.0) (sym next) ∙ r.2) in
    let q : Carries (map_back m) (renamed k m) r.0 (take i flips) = carries (map_back m) (renamed k m) r.0 (take i flips) (turned_names m k (start_names k m c h e)) s.faces r.1 in
    ap (λ ns. takes_flip ns f) (grown ∙ ap (λ ns. names_for ns f) s.names_are) ∙ flip_taken (names_at_end (map_back m) (take i flips)) r.0 f q.names_are faces p.0

-- one flip more
pub one_more : (m : List (ℕ × ℕ)) (flips : List Flip) (i : ℕ) (f : Flip) (out now : List Flip) (names more after : List (ℕ × ℕ)) (g : Flip) → SoFar m flips i out names → i < length flips → f ≡ get_or flips i f → OfFaces f → more ≡ names_for names f → g ≡ named_flip more f → now ≡ out ++ g ∷ [] → after ≡ filter (λ p. not (vanishes f.a p.0)) more → SoFar m flips (i + 1) now after
one_more m flips i f out now names more after g s l is faces grown named pushed left =
    let next : take (i + 1) flips ≡ take i flips ++ f ∷ [] = taken_more flips i f l is in
    let same : more ≡ names_for (names_at_end (map_back m) (take i flips)) f = grown ∙ ap (λ ns. names_for ns f) s.names_are in
    record {
      carried_are = pushed ∙ (λ j. s.carried_are j ++ (named ∙ ap (λ ns. named_flip ns f) same) j ∷ []) ∙ sym (ap (carried_over m) next ∙ carried_more (map_back m) (take i flips) f);
      names_are = left ∙ ap (filter (λ p. not (vanishes f.a p.0))) same ∙ sym (ap (names_at_end (map_back m)) next ∙ names_more (map_back m) (take i flips) f);
      faces = subst (λ fs. AllByRecursion OfFaces fs) (sym next) (each_push OfFaces (take i flips) f s.faces faces);
    }

-- all flips
pub all_so_far : (m : List (ℕ × ℕ)) (flips : List Flip) (i : ℕ) (out : List Flip) (names last : List (ℕ × ℕ)) → SoFar m flips i out names → length flips ≤ i → last ≡ map_back names → (out ≡ carried_over m flips) × (last ≡ map_at_end m flips) × AllByRecursion OfFaces flips
all_so_far m flips i out names last s l e =
    let all : take i flips ≡ flips = take_all i flips l in
    (s.carried_are ∙ ap (carried_over m) all, e ∙ ap map_back s.names_are ∙ ap (map_at_end m) all, subst (λ fs. AllByRecursion OfFaces fs) all s.faces)

pub all_leads : (k : ComplexView) (m : List (ℕ × ℕ)) (flips : List Flip) (i : ℕ) (out : List Flip) (names last : List (ℕ × ℕ)) → IsComplex k → IsMap m → NamesLabels m k → IsLegalList (renamed k m) flips → SoFar m flips i out names → length flips ≤ i → last ≡ map_back names → LeadsTo k m flips out last
all_leads k m flips i out names last c h e lawful s l is =
    let r : (out ≡ carried_over m flips) × (last ≡ map_at_end m flips) × AllByRecursion OfFaces flips = all_so_far m flips i out names last s l is in
    subst (λ n. LeadsTo k m flips out n) (sym r.1) (subst (λ fs. LeadsTo k m flips fs (map_at_end m flips)) (sym r.0) (carried_leads k m flips c h e r.2 lawful))
