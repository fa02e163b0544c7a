-- The candidates of a complex, as the entries of a table.
use Rattle.std.proofs.Common.{◌≡◌, ℕ, ◌+◌, ◌<◌, zero, suc, Bool, true, false, cond, nat_eq, List, [], ◌∷◌, length, map, get_or, Some, sym, ◌∙◌, ap, refl, subst, arith, inl, inr}
use Rattle.std.specs.Prelude.{Contains}
use Rattle.std.specs.List.{AllByRecursion, list_all, slice_get}
use Rattle.std.specs.List.Sorted.{IsStrictlySortedBy}
use Rattle.std.specs.Ordering.{nat_cmp, ordering_then, is_eq}
use Rattle.std.specs.Cmp.{first_so, second_so}
use Rattle.std.specs.Map.{lookup, keys_of}
use Rattle.std.specs.BTreeMap.{get, IsOrdered, is_at}
use Rattle.std.specs.declared.cmp.Ordering.{Ordering}
use Rattle.std.specs.declared.cmp.Ordering.TheVariants.{Less, Equal, Greater}
use Rattle.std.proofs.lemmas.Bool.Decides.{nat_tests}
use Rattle.std.proofs.lemmas.Option.{none-some, same_Some}
use Rattle.std.proofs.lemmas.Map.Entries.{btree_map_get_place}
use Rattle.complex_core.specs.Labels.{face_cmp}
use Rattle.complex_core.specs.Complexes.{ComplexView}
use Rattle.complex_core.proofs.Sets.{Above, above_head, above_tail, above_cons, sorted_none}
use Rattle.complex_core.proofs.Laws.{nat_eq_is}
use Rattle.flip_rules.specs.Flips.{Legal}
use Rattle.flip_rules.specs.declared.flip.Flip.{Flip}
use Rattle.flip_rules.proofs.Legal.{legal}
use Rattle.descent_laws.specs.Descents.{IsReducing, AreCandidates, best_cmp}
use Rattle.descent_laws.proofs.Reducing.{first_determines}
use Rattle.flip_options.specs.Candidates.{Candidates, key_cmp, key_of, flip_from, flips_of, is_sized, IsRight}
use Rattle.flip_options.proofs.Keys.{key_total, tied_key, same_key}
use Rattle.complex_core.proofs.SubsetLists.{two}

abbrev Entry : Type 0
Entry = (ℕ × List ℕ) × List ℕ

abbrev flip_in : Entry → Flip
flip_in e = flip_from e.0.1 e.1

abbrev sizes : List Entry → Bool
sizes es = list_all (λ e. nat_eq e.0.0 (length e.0.1)) es

-- what is found at a key is an entry
found_entry : (P : Entry → Type 0) (q : ℕ × List ℕ) (b : List ℕ) (es : List Entry) → AllByRecursion P es → lookup (is_at (key_cmp q)) es ≡ Some b → P (q, b)
found_entry P q b [] a h = absurd (none-some b h)
found_entry P q b (e ∷ es) a h =
    elim (is_eq (key_cmp q e.0)) as (λ c. is_eq (key_cmp q e.0) ≡ c → cond c (Some e.1) (lookup (is_at (key_cmp q)) es) ≡ Some b → P (q, b)) [
      | true ↦ λ t g. let k : q ≡ e.0 = tied_key q e.0 t in let v : e.1 ≡ b = same_Some e.1 b g in subst P (λ i. (sym k i, v i)) a.0
      | false ↦ λ t g. found_entry P q b es a.1 g
    ] refl h

each_flip : (Q : Flip → Type 0) (es : List Entry) → AllByRecursion Q (map flip_in es) → AllByRecursion (λ e. Q (flip_in e)) es
each_flip Q [] a = tt
each_flip Q (e ∷ es) a = (a.0, each_flip Q es a.1)

flip_each : (Q : Flip → Type 0) (es : List Entry) → AllByRecursion (λ e. Q (flip_in e)) es → AllByRecursion Q (map flip_in es)
flip_each Q [] a = tt
flip_each Q (e ∷ es) a = (a.0, flip_each Q es a.1)

-- a flip that is listed is found at its key
some_found : (a b : List ℕ) (es : List Entry) → sizes es ≡ true → Contains (map flip_in es) (flip_from a b) → (v : List ℕ) × (lookup (is_at (key_cmp (key_of a))) es ≡ Some v)
some_found a b [] s c = absurd (omega (arith, c.1))
some_found a b (e ∷ es) s c = at (some_found a b es (second_so (nat_eq e.0.0 (length e.0.1)) (sizes es) s)) c.0 c.1 c.2
  where
    at : (Contains (map flip_in es) (flip_from a b) → (v : List ℕ) × (lookup (is_at (key_cmp (key_of a))) es ≡ Some v)) → (i : ℕ) → i < length (map flip_in (e ∷ es)) → get_or (map flip_in (e ∷ es)) i (flip_from a b) ≡ flip_from a b → (v : List ℕ) × (lookup (is_at (key_cmp (key_of a))) (e ∷ es) ≡ Some v)
    at later zero l g =
        let p : e.0.1 ≡ a = ap (λ (f : Flip). f.a) g in
        let n : e.0.0 ≡ length a = nat_eq_is e.0.0 (length e.0.1) (first_so (nat_eq e.0.0 (length e.0.1)) (sizes es) s) ∙ ap length p in
        let k : key_of a ≡ e.0 = λ i. (sym n i, sym p i) in
        (e.1, ap (λ c. cond c (Some e.1) (lookup (is_at (key_cmp (key_of a))) es)) (same_key (key_of a) e.0 k))
    at later (suc i) l g = elim (two (is_eq (key_cmp (key_of a) e.0))) [
      | inl t ↦ (e.1, ap (λ c. cond c (Some e.1) (lookup (is_at (key_cmp (key_of a))) es)) t)
      | inr f ↦ let r : (v : List ℕ) × (lookup (is_at (key_cmp (key_of a))) es ≡ Some v) = later (i, omega (arith, l), g) in (r.0, ap (λ c. cond c (Some e.1) (lookup (is_at (key_cmp (key_of a))) es)) f ∙ r.1)
    ]

-- a table whose flips are the candidates is right at each face
pub right_from : (k : ComplexView) (m : Candidates) → is_sized m ≡ true → AreCandidates k (flips_of m) → (a : List ℕ) → IsRight k m a
right_from k m s c a = record {
  sound = sound;
  complete = λ b r.
      let v : (v : List ℕ) × (get key_cmp m (key_of a) ≡ Some v) = some_found a b m.entries s (c.all (flip_from a b) r) in
      v.1 ∙ ap Some (ap (λ (f : Flip). f.b) (first_determines k (flip_from a v.0) (flip_from a b) (sound v.0 v.1) r refl));
}
  where
    sound : (b : List ℕ) → get key_cmp m (key_of a) ≡ Some b → IsReducing k (flip_from a b)
    sound b h = found_entry (λ e. IsReducing k (flip_in e)) (key_of a) b m.entries (each_flip (IsReducing k) m.entries c.reduce) h

-- ---- the other way round

-- what holds at each place
each_place : (P : Entry → Type 0) (es : List Entry) → sizes es ≡ true → ((i : ℕ) (e : Entry) → slice_get es i ≡ Some e → e.0.0 ≡ length e.0.1 → P e) → AllByRecursion P es
each_place P [] s h = tt
each_place P (e ∷ es) s h = (h 0 e refl (nat_eq_is e.0.0 (length e.0.1) (first_so (nat_eq e.0.0 (length e.0.1)) (sizes es) s)), each_place P es (second_so (nat_eq e.0.0 (length e.0.1)) (sizes es) s) (λ i. h (suc i)))

-- the entry of a flip that reduces, with the number of labels of its A
record IsEntry (k : ComplexView) (e : Entry) : Type 0 where
  pub size : e.0.0 ≡ length e.0.1
  pub reduces : IsReducing k (flip_in e)

entries_are : (k : ComplexView) (m : Candidates) → IsOrdered key_cmp m → is_sized m ≡ true → ((a : List ℕ) → IsRight k m a) → AllByRecursion (IsEntry k) m.entries
entries_are k m o s r = each_place (IsEntry k) m.entries s (λ i e at n. record {
  size = n;
  reduces = (r e.0.1).sound e.1 (ap (λ q. get key_cmp m q) (λ j. (sym n j, e.0.1)) ∙ btree_map_get_place key_total m i e.0 e.1 o at);
})

nat_turn : (m n p q s : ℕ) → m + p ≡ s → n + q ≡ s → nat_cmp q p ≡ nat_cmp m n
nat_turn m n p q s h g = grind (arith, nat_tests)

then_more : (o p q : Ordering) → ordering_then o p ≡ Less → ordering_then o (ordering_then p q) ≡ Less
then_more Less p q h = refl
then_more Equal Less q h = refl
then_more Equal Equal q h = cc
then_more Equal Greater q h = cc
then_more Greater p q h = h

-- a lesser key is a better flip
better : (k : ComplexView) (e g : Entry) → IsEntry k e → IsEntry k g → key_cmp e.0 g.0 ≡ Less → best_cmp (flip_in e) (flip_in g) ≡ Less
better k e g p q h =
    let l : Legal k e.0.1 e.1 = legal k e.0.1 e.1 p.reduces.legal in
    let m : Legal k g.0.1 g.1 = legal k g.0.1 g.1 q.reduces.legal in
    let t : nat_cmp (length g.1) (length e.1) ≡ nat_cmp e.0.0 g.0.0 = nat_turn e.0.0 g.0.0 (length e.1) (length g.1) (k.dim + 2) (omega (arith, p.size, l.shape.sizes)) (omega (arith, q.size, m.shape.sizes)) in
    ap (λ o. ordering_then o (ordering_then (face_cmp e.0.1 g.0.1) (face_cmp e.1 g.1))) t ∙ then_more (nat_cmp e.0.0 g.0.0) (face_cmp e.0.1 g.0.1) (face_cmp e.1 g.1) h

flips_sorted : (k : ComplexView) (es : List Entry) → AllByRecursion (IsEntry k) es → IsStrictlySortedBy key_cmp (keys_of es) → IsStrictlySortedBy best_cmp (map flip_in es)
flips_sorted k [] a s = sorted_none best_cmp
flips_sorted k (e ∷ es) a s = above_cons best_cmp (flip_in e) (map flip_in es) (all es a.1 (above_head key_cmp e.0 (keys_of es) s)) (flips_sorted k es a.1 (above_tail key_cmp e.0 (keys_of es) s))
  where
    all : (gs : List Entry) → AllByRecursion (IsEntry k) gs → Above key_cmp e.0 (keys_of gs) → Above best_cmp (flip_in e) (map flip_in gs)
    all [] b h = tt
    all (g ∷ gs) b h = (better k e g a.0 b.0 h.0, all gs b.1 h.1)

found_contains : (q : ℕ × List ℕ) (b : List ℕ) (es : List Entry) → lookup (is_at (key_cmp q)) es ≡ Some b → Contains (map flip_in es) (flip_from q.1 b)
found_contains q b [] h = absurd (none-some b h)
found_contains q b (e ∷ es) h =
    elim (is_eq (key_cmp q e.0)) as (λ c. is_eq (key_cmp q e.0) ≡ c → cond c (Some e.1) (lookup (is_at (key_cmp q)) es) ≡ Some b → Contains (map flip_in (e ∷ es)) (flip_from q.1 b)) [
      | true ↦ λ t g. let k : q ≡ e.0 = tied_key q e.0 t in let v : e.1 ≡ b = same_Some e.1 b g in (0, omega arith, λ i. flip_from (sym k i).1 (v i))
      | false ↦ λ t g. let r : Contains (map flip_in es) (flip_from q.1 b) = found_contains q b es g in (suc r.0, omega (arith, r.1), r.2)
    ] refl h

-- a table that is right at each face has the candidates
pub candidates_made : (k : ComplexView) (m : Candidates) → IsOrdered key_cmp m → is_sized m ≡ true → ((a : List ℕ) → IsRight k m a) → AreCandidates k (flips_of m)
candidates_made k m o s r =
    let a : AllByRecursion (IsEntry k) m.entries = entries_are k m o s r in
    record {
      ordered = flips_sorted k m.entries a o;
      reduce = flip_each (IsReducing k) m.entries (reduce_each m.entries a);
      all = λ f g. found_contains (key_of f.a) f.b m.entries ((r f.a).complete f.b g);
    }
  where
    reduce_each : (es : List Entry) → AllByRecursion (IsEntry k) es → AllByRecursion (λ e. IsReducing k (flip_in e)) es
    reduce_each [] a = tt
    reduce_each (e ∷ es) a = (a.0.reduces, reduce_each es a.1)
