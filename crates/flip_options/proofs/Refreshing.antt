-- Looking at faces again, one after another.
use Rattle.std.proofs.Common.{◌≡◌, ℕ, Bool, true, false, cond, nat_eq, List, [], ◌∷◌, length, Option, Some, None, sym, ◌∙◌, ap, refl, subst, ◌⊎◌, inl, inr}
use Rattle.std.specs.List.{list_all}
use Rattle.std.specs.Cmp.{first_so, second_so}
use Rattle.std.specs.Cmp.Derive.{both_true}
use Rattle.std.specs.Ordering.{is_eq, match_ordering}
use Rattle.std.specs.Map.{remove_entry}
use Rattle.std.specs.BTreeMap.{get, is_at, insert_entry}
use Rattle.std.specs.declared.cmp.Ordering.TheVariants.{Less, Equal, Greater}
use Rattle.std.proofs.lemmas.Option.{none-some, same_Some}
use Rattle.complex_core.specs.Complexes.{ComplexView}
use Rattle.complex_core.proofs.Laws.{nat_eq_same}
use Rattle.flip_rules.specs.declared.flip.Flip.{Flip}
use Rattle.stars.specs.StarViews.{StarList, IsStarListOf}
use Rattle.descent_laws.specs.Descents.{IsReducing}
use Rattle.descent_laws.proofs.Reducing.{first_determines}
use Rattle.flip_options.specs.Candidates.{Candidates, key_cmp, key_of, flip_from, is_sized, Decides, IsRight, Refreshed, FirstLook}
use Rattle.flip_options.proofs.Keys.{tied_key, same_key}
use Rattle.complex_core.proofs.SubsetLists.{two}

right_moved : (k : ComplexView) (m n : Candidates) (a : List ℕ) → IsRight k m a → get key_cmp n (key_of a) ≡ get key_cmp m (key_of a) → IsRight k n a
right_moved k m n a r e = record { sound = λ b g. r.sound b (sym e ∙ g); complete = λ b g. e ∙ r.complete b g }

-- one look after another
pub refreshed_then : (s : StarList) (m n o : Candidates) (P Q R : ComplexView → List ℕ → Type 0) → Refreshed s m n P → Refreshed s n o Q → ((k : ComplexView) → IsStarListOf k s → (a : List ℕ) → R k a → P k a ⊎ Q k a) → Refreshed s m o R
refreshed_then s m n o P Q R p q h = record {
  sized = λ t. q.sized (p.sized t);
  each = λ k i a. elim (q.each k i a) [
    | inr right ↦ inr right
    | inl same ↦ elim (p.each k i a) [ inl before ↦ inl (same ∙ before) | inr right ↦ inr (right_moved k n o a right same) ]
  ];
  done = λ k i a r. elim (h k i a r) [
    | inl t ↦ elim (q.each k i a) [ inl same ↦ right_moved k n o a (p.done k i a t) same | inr right ↦ right ]
    | inr t ↦ q.done k i a t
  ];
}

-- what is done includes this
pub refreshed_so : (s : StarList) (m n : Candidates) (P R : ComplexView → List ℕ → Type 0) → Refreshed s m n P → ((k : ComplexView) → IsStarListOf k s → (a : List ℕ) → R k a → P k a) → Refreshed s m n R
refreshed_so s m n P R p h = record { sized = p.sized; each = p.each; done = λ k i a r. p.done k i a (h k i a r) }

-- ---- for the first time

pub first_then : (s : StarList) (m n o : Candidates) (P Q R : ComplexView → List ℕ → Type 0) → FirstLook s m n P → FirstLook s n o Q → ((k : ComplexView) → IsStarListOf k s → (a : List ℕ) → R k a → P k a ⊎ Q k a) → FirstLook s m o R
first_then s m n o P Q R p q h = record {
  sized = λ t. q.sized (p.sized t);
  each = λ k i a. elim (q.each k i a) [
    | inr right ↦ inr right
    | inl same ↦ elim (p.each k i a) [ inl before ↦ inl (same ∙ before) | inr right ↦ inr (right_moved k n o a right same) ]
  ];
  done = λ k i a r none. elim (h k i a r) [
    | inl t ↦ kept k i a (p.done k i a t none)
    | inr t ↦ elim (p.each k i a) [ inl same ↦ q.done k i a t (same ∙ none) | inr right ↦ kept k i a right ]
  ];
}
  where
    kept : (k : ComplexView) → IsStarListOf k s → (a : List ℕ) → IsRight k n a → IsRight k o a
    kept k i a right = elim (q.each k i a) [ inl same ↦ right_moved k n o a right same | inr now ↦ now ]

pub first_look_so : (s : StarList) (m n : Candidates) (P R : ComplexView → List ℕ → Type 0) → FirstLook s m n P → ((k : ComplexView) → IsStarListOf k s → (a : List ℕ) → R k a → P k a) → FirstLook s m n R
first_look_so s m n P R p h = record { sized = p.sized; each = p.each; done = λ k i a r. p.done k i a (h k i a r) }

-- no look, where no flip reduces
pub none_looked : (s : StarList) (m : Candidates) (R : ComplexView → List ℕ → Type 0) → ((k : ComplexView) → IsStarListOf k s → (a b : List ℕ) → R k a → IsReducing k (flip_from a b) → ⊥) → FirstLook s m m R
none_looked s m R h = record {
  sized = λ t. t;
  each = λ k i a. inl refl;
  done = λ k i a r none. record { sound = λ b g. absurd (none-some b (sym none ∙ g)); complete = λ b red. absurd (h k i a b r red) };
}

-- ---- one face

abbrev sizes : List ((ℕ × List ℕ) × List ℕ) → Bool
sizes es = list_all (λ e. nat_eq e.0.0 (length e.0.1)) es

sizes_put : (es : List ((ℕ × List ℕ) × List ℕ)) (face b : List ℕ) → sizes es ≡ true → sizes (insert_entry key_cmp es (key_of face) b) ≡ true
sizes_put [] face b s = both_true (nat_eq_same (length face)) refl
sizes_put (e ∷ es) face b s =
    let p : nat_eq e.0.0 (length e.0.1) ≡ true = first_so (nat_eq e.0.0 (length e.0.1)) (sizes es) s in
    let q : sizes es ≡ true = second_so (nat_eq e.0.0 (length e.0.1)) (sizes es) s in
    elim (key_cmp (key_of face) e.0) as (λ o. sizes (match_ordering o ((key_of face, b) ∷ e ∷ es) ((e.0, b) ∷ es) (e ∷ insert_entry key_cmp es (key_of face) b)) ≡ true) [
      | Less ↦ both_true (nat_eq_same (length face)) s
      | Equal ↦ both_true p q
      | Greater ↦ both_true p (sizes_put es face b q)
    ]

sizes_out : (test : ℕ × List ℕ → Bool) (es : List ((ℕ × List ℕ) × List ℕ)) → sizes es ≡ true → sizes (remove_entry test es) ≡ true
sizes_out test [] s = s
sizes_out test (e ∷ es) s =
    let p : nat_eq e.0.0 (length e.0.1) ≡ true = first_so (nat_eq e.0.0 (length e.0.1)) (sizes es) s in
    let q : sizes es ≡ true = second_so (nat_eq e.0.0 (length e.0.1)) (sizes es) s in
    elim (test e.0) as (λ c. sizes (cond c es (e ∷ remove_entry test es)) ≡ true) [ true ↦ q | false ↦ both_true p (sizes_out test es q) ]

abbrev Puts : Candidates → Candidates → List ℕ → Option (List ℕ) → Type 0
Puts m n face w = (q : ℕ × List ℕ) → get key_cmp n q ≡ cond (is_eq (key_cmp (key_of face) q)) w (get key_cmp m q)

right_at : (k : ComplexView) (n : Candidates) (face : List ℕ) (w : Option (List ℕ)) → Decides k face w → get key_cmp n (key_of face) ≡ w → IsRight k n face
right_at k n face (Some b) d e = record {
  sound = λ c g. let same : b ≡ c = same_Some b c (sym e ∙ g) in let P : List ℕ → Type 0 = λ x. IsReducing k (flip_from face x) in subst P same d;
  complete = λ c r. e ∙ ap Some (ap (λ (f : Flip). f.b) (first_determines k (flip_from face b) (flip_from face c) d r refl));
}
right_at k n face None d e = record { sound = λ c g. absurd (none-some c (sym e ∙ g)); complete = λ c r. absurd (d c r) }

refreshed_put : (s : StarList) (m n : Candidates) (face : List ℕ) (w : Option (List ℕ)) → (is_sized m ≡ true → is_sized n ≡ true) → ((k : ComplexView) → IsStarListOf k s → Decides k face w) → Puts m n face w → Refreshed s m n (λ k a. a ≡ face)
refreshed_put s m n face w sized d puts = record {
  sized = sized;
  each = λ k i a. elim (two (is_eq (key_cmp (key_of face) (key_of a)))) [
    | inl t ↦ let e : face ≡ a = ap (λ (q : ℕ × List ℕ). q.1) (tied_key (key_of face) (key_of a) t) in let P : List ℕ → Type 0 = λ x. IsRight k n x in inr (subst P e (here k i))
    | inr f ↦ inl (puts (key_of a) ∙ ap (λ c. cond c w (get key_cmp m (key_of a))) f)
  ];
  done = λ k i a e. let P : List ℕ → Type 0 = λ x. IsRight k n x in subst P (sym e) (here k i);
}
  where
    here : (k : ComplexView) → IsStarListOf k s → IsRight k n face
    here k i = right_at k n face w (d k i) (puts (key_of face) ∙ ap (λ c. cond c w (get key_cmp m (key_of face))) (same_key (key_of face) (key_of face) refl))

pub refreshed_in : (s : StarList) (m n : Candidates) (face b : List ℕ) (c : Option (List ℕ)) → c ≡ Some b → ((k : ComplexView) → IsStarListOf k s → Decides k face c) → n.entries ≡ insert_entry key_cmp m.entries (key_of face) b → Puts m n face (Some b) → Refreshed s m n (λ k a. a ≡ face)
refreshed_in s m n face b c is d e puts = refreshed_put s m n face (Some b) (λ t. ap sizes e ∙ sizes_put m.entries face b t) (λ k i. let P : Option (List ℕ) → Type 0 = λ w. Decides k face w in subst P is (d k i)) puts

pub refreshed_out : (s : StarList) (m n : Candidates) (face : List ℕ) (c : Option (List ℕ)) → c ≡ None → ((k : ComplexView) → IsStarListOf k s → Decides k face c) → n.entries ≡ remove_entry (is_at (key_cmp (key_of face))) m.entries → Puts m n face None → Refreshed s m n (λ k a. a ≡ face)
refreshed_out s m n face c is d e puts = refreshed_put s m n face None (λ t. ap sizes e ∙ sizes_out (is_at (key_cmp (key_of face))) m.entries t) (λ k i. let P : Option (List ℕ) → Type 0 = λ w. Decides k face w in subst P is (d k i)) puts

-- the same, of the key as the program has it
pub refreshed_some : (s : StarList) (m n : Candidates) (face b : List ℕ) (size : ℕ) → size ≡ length face → ((k : ComplexView) → IsStarListOf k s → IsReducing k (flip_from face b)) → n.entries ≡ insert_entry key_cmp m.entries (size, face) b → ((q : ℕ × List ℕ) → get key_cmp n q ≡ cond (is_eq (key_cmp (size, face) q)) (Some b) (get key_cmp m q)) → Refreshed s m n (λ k a. a ≡ face)
refreshed_some s m n face b size e d entries puts = refreshed_in s m n face b (Some b) refl d (entries ∙ ap (λ (z : ℕ). insert_entry key_cmp m.entries (z, face) b) e) (λ q. puts q ∙ ap (λ (z : ℕ). cond (is_eq (key_cmp (z, face) q)) (Some b) (get key_cmp m q)) e)

pub refreshed_gone : (s : StarList) (m n : Candidates) (face : List ℕ) (size : ℕ) → size ≡ length face → ((k : ComplexView) → IsStarListOf k s → (b : List ℕ) → IsReducing k (flip_from face b) → ⊥) → n.entries ≡ remove_entry (is_at (key_cmp (size, face))) m.entries → ((q : ℕ × List ℕ) → get key_cmp n q ≡ cond (is_eq (key_cmp (size, face) q)) None (get key_cmp m q)) → Refreshed s m n (λ k a. a ≡ face)
refreshed_gone s m n face size e d entries puts = refreshed_out s m n face None refl d (entries ∙ ap (λ (z : ℕ). remove_entry (is_at (key_cmp (z, face))) m.entries) e) (λ q. puts q ∙ ap (λ (z : ℕ). cond (is_eq (key_cmp (z, face) q)) None (get key_cmp m q)) e)
