-- Which sets the subsets of a size are, and their order.
use Rattle.std.proofs.Common.{not, ◌≡◌, ◌⊎◌, ℕ, ◌≤◌, zero, suc, inl, inr, Bool, true, false, nat_eq, ◌||◌, ◌&&◌, List, [], ◌∷◌, ◌++◌, length, map, sym, ◌∙◌, ap, refl, subst, arith}
use Rattle.std.specs.List.{AllByRecursion}
use Rattle.std.specs.List.Sorted.{IsStrictlySortedBy}
use Rattle.std.specs.Ordering.{nat_cmp, ordering_then}
use Rattle.std.specs.declared.cmp.Ordering.TheVariants.{Less}
use Rattle.std.specs.Cmp.{first_so, second_so}
use Rattle.std.specs.Cmp.Derive.{both_true}
use Rattle.std.specs.Cmp.Lexicographic.{pointwise}
use Rattle.std.proofs.lemmas.Cmp.{nat_cmp_total}
use Rattle.complex_core.specs.Labels.{IsFace, has, holds, without, face_cmp}
use Rattle.complex_core.specs.Subsets.{IsSubset, lists, subsets_of}
use Rattle.complex_core.proofs.Sets.{Above, above_head, above_tail, above_cons, above_lower, sorted_none}
use Rattle.complex_core.proofs.Faces.{cmp_equal}
use Rattle.complex_core.proofs.Laws.{or_left, or_right, holds_has, holds_each, nat_eq_is, nat_eq_same, listed, listed-append, same_sets_is, same_set_itself, above_not, length-without, sorted_without, has-without}

pub two : (c : Bool) → (c ≡ true) ⊎ (c ≡ false)
two true = inl refl
two false = inr refl

pub clash : {P : Type 0} (c : Bool) → c ≡ true → c ≡ false → P
clash c t f = let e : true ≡ false = sym t ∙ f in cc

-- ---- sets that are begun by one more label

pub map_from : (g : List ℕ → List ℕ) (xs : List (List ℕ)) (s : List ℕ) → listed xs s ≡ true → listed (map g xs) (g s) ≡ true
map_from g [] s t = t
map_from g (x ∷ xs) s t = elim (two (pointwise nat_eq x s)) [
  | inl e ↦ or_left (pointwise nat_eq (g x) (g s)) (listed (map g xs) (g s)) (ap (λ m. pointwise nat_eq (g m) (g s)) (same_sets_is x s e) ∙ same_set_itself (g s))
  | inr e ↦ or_right (pointwise nat_eq (g x) (g s)) (listed (map g xs) (g s)) (map_from g xs s (sym (ap (λ c. c || listed xs s) e) ∙ t))
]

pub map_back : (g : List ℕ → List ℕ) (xs : List (List ℕ)) (s : List ℕ) → listed (map g xs) s ≡ true → (r : List ℕ) × (listed xs r ≡ true) × (s ≡ g r)
map_back g [] s t = clash true refl (sym t)
map_back g (x ∷ xs) s t = elim (two (pointwise nat_eq (g x) s)) [
  | inl e ↦ (x, or_left (pointwise nat_eq x x) (listed xs x) (same_set_itself x), sym (same_sets_is (g x) s e))
  | inr e ↦ let p : (r : List ℕ) × (listed xs r ≡ true) × (s ≡ g r) = map_back g xs s (sym (ap (λ c. c || listed (map g xs) s) e) ∙ t) in (p.0, or_right (pointwise nat_eq x p.0) (listed xs p.0) p.1, p.2)
]

pub above_at : (x y : ℕ) (xs : List ℕ) → Above nat_cmp x xs → has xs y ≡ true → nat_cmp x y ≡ Less
above_at x y [] a t = clash true refl (sym t)
above_at x y (z ∷ zs) a t = elim (two (nat_eq z y)) [
  | inl e ↦ ap (nat_cmp x) (sym (nat_eq_is z y e)) ∙ a.0
  | inr e ↦ above_at x y zs a.1 (sym (ap (λ c. c || has zs y) e) ∙ t)
]

pub wider : (x : ℕ) (xs s : List ℕ) → holds xs s ≡ true → holds (x ∷ xs) s ≡ true
wider x xs s h = holds_each (x ∷ xs) s (λ z t. or_right (nat_eq x z) (has xs z) (holds_has xs s z h t))

pub narrower : (x : ℕ) (xs s : List ℕ) → holds (x ∷ xs) s ≡ true → has s x ≡ false → holds xs s ≡ true
narrower x xs s h f = holds_each xs s (λ z t. elim (two (nat_eq x z)) [
  | inl e ↦ clash (has s z) t (ap (has s) (sym (nat_eq_is x z e)) ∙ f)
  | inr e ↦ sym (ap (λ c. c || has xs z) e) ∙ holds_has (x ∷ xs) s z h t
])

-- ---- which sets they are

-- below xs, so below a part of it
pub above_from : (x : ℕ) (xs t : List ℕ) → Above nat_cmp x xs → holds xs t ≡ true → Above nat_cmp x t
above_from x xs [] a h = tt
above_from x xs (y ∷ t) a h = (above_at x y xs a (first_so (has xs y) (holds xs t) h), above_from x xs t a (second_so (has xs y) (holds xs t) h))

-- n labels of xs, rising
pub record Chosen (n : ℕ) (xs s : List ℕ) : Type 0 where
  pub rises : IsStrictlySortedBy nat_cmp s
  pub part : holds xs s ≡ true
  pub size : length s ≡ n

pub chosen_is : (n : ℕ) (xs s : List ℕ) → IsStrictlySortedBy nat_cmp xs → listed (subsets_of n xs) s ≡ true → Chosen n xs s
chosen_is zero xs [] r t = record { rises = sorted_none nat_cmp; part = refl; size = refl }
chosen_is zero xs (y ∷ s) r t = clash true refl (sym t)
chosen_is (suc n) [] s r t = clash true refl (sym t)
chosen_is (suc n) (x ∷ xs) s r t = elim (two (listed (subsets_of (suc n) xs) s)) [
  | inl e ↦ let p : Chosen (suc n) xs s = chosen_is (suc n) xs s (above_tail nat_cmp x xs r) e in record { rises = p.rises; part = wider x xs s p.part; size = p.size }
  | inr e ↦
      let q : (m : List ℕ) × (listed (subsets_of n xs) m ≡ true) × (s ≡ x ∷ m) = map_back (λ m. x ∷ m) (subsets_of n xs) s (one_of (listed (map (λ m. x ∷ m) (subsets_of n xs)) s) (listed (subsets_of (suc n) xs) s) e (sym (listed-append (map (λ m. x ∷ m) (subsets_of n xs)) (subsets_of (suc n) xs) s) ∙ t)) in
      let p : Chosen n xs q.0 = chosen_is n xs q.0 (above_tail nat_cmp x xs r) q.1 in
      let c : Chosen (suc n) (x ∷ xs) (x ∷ q.0) = record {
        rises = above_cons nat_cmp x q.0 (above_from x xs q.0 (above_head nat_cmp x xs r) p.part) p.rises;
        part = both_true (or_left (nat_eq x x) (has xs x) (nat_eq_same x)) (wider x xs q.0 p.part);
        size = ap suc p.size;
      } in
      let P : List ℕ → Type 0 = λ m. Chosen (suc n) (x ∷ xs) m in subst P (sym q.2) c
]
  where
    one_of : (a b : Bool) → b ≡ false → (a || b) ≡ true → a ≡ true
    one_of true b f t = refl
    one_of false b f t = clash b t f

no_size : {P : Type 0} (n : ℕ) → length {A = ℕ} [] ≡ suc n → P
no_size n e = absurd (omega (arith, e))

pub chosen_from : (n : ℕ) (xs s : List ℕ) → IsStrictlySortedBy nat_cmp xs → Chosen n xs s → listed (subsets_of n xs) s ≡ true
chosen_from zero xs [] r c = refl
chosen_from zero xs (y ∷ s) r c = absurd (omega (arith, c.size))
chosen_from (suc n) [] [] r c = no_size n c.size
chosen_from (suc n) [] (y ∷ s) r c = clash true refl (sym c.part)
chosen_from (suc n) (x ∷ xs) [] r c = no_size n c.size
chosen_from (suc n) (x ∷ xs) (y ∷ s) r c =
    listed-append (map (λ m. x ∷ m) (subsets_of n xs)) (subsets_of (suc n) xs) (y ∷ s) ∙ elim (two (nat_eq x y)) [
      | inl e ↦
          let p : x ≡ y = nat_eq_is x y e in
          let out : has s x ≡ false = ap (has s) p ∙ above_not y s (above_head nat_cmp y s c.rises) in
          let t : listed (subsets_of n xs) s ≡ true = chosen_from n xs s (above_tail nat_cmp x xs r) (record { rises = above_tail nat_cmp y s c.rises; part = narrower x xs s (second_so (has (x ∷ xs) y) (holds (x ∷ xs) s) c.part) out; size = omega (arith, c.size) }) in
          or_left (listed (map (λ m. x ∷ m) (subsets_of n xs)) (y ∷ s)) (listed (subsets_of (suc n) xs) (y ∷ s)) (ap (λ z. listed (map (λ m. x ∷ m) (subsets_of n xs)) (z ∷ s)) (sym p) ∙ map_from (λ m. x ∷ m) (subsets_of n xs) s t)
      | inr e ↦
          let there : has xs y ≡ true = sym (ap (λ b. b || has xs y) e) ∙ first_so (has (x ∷ xs) y) (holds (x ∷ xs) s) c.part in
          let l : nat_cmp x y ≡ Less = above_at x y xs (above_head nat_cmp x xs r) there in
          let out : has (y ∷ s) x ≡ false = above_not x (y ∷ s) (l, above_lower nat_cmp_total x y s l (above_head nat_cmp y s c.rises)) in
          or_right (listed (map (λ m. x ∷ m) (subsets_of n xs)) (y ∷ s)) (listed (subsets_of (suc n) xs) (y ∷ s)) (chosen_from (suc n) xs (y ∷ s) (above_tail nat_cmp x xs r) (record { rises = c.rises; part = narrower x xs (y ∷ s) c.part out; size = c.size }))
    ]

-- a part of a set has no more labels
pub fewer : (xs ys : List ℕ) → IsStrictlySortedBy nat_cmp xs → IsStrictlySortedBy nat_cmp ys → holds ys xs ≡ true → length xs ≤ length ys
fewer [] ys s t h = omega arith
fewer (x ∷ xs) ys s t h =
    let p : has ys x ≡ true = first_so (has ys x) (holds ys xs) h in
    let q : holds ys xs ≡ true = second_so (has ys x) (holds ys xs) h in
    let g : has xs x ≡ false = above_not x xs (above_head nat_cmp x xs s) in
    omega (arith, length-without ys x t p, fewer xs (without ys x) (above_tail nat_cmp x xs s) (sorted_without ys x t) (holds_less ys xs x q g))
  where
    keeps : (w : List ℕ) (x z : ℕ) → has w z ≡ true → nat_eq z x ≡ false → has (without w x) z ≡ true
    keeps w x z t f = has-without w x z ∙ (λ i. t i && not (f i))

    holds_less : (w r : List ℕ) (x : ℕ) → holds w r ≡ true → has r x ≡ false → holds (without w x) r ≡ true
    holds_less w r x h f = holds_each (without w x) r (λ z t. elim (two (nat_eq z x)) [
      | inl e ↦ clash (has r z) t (ap (has r) (nat_eq_is z x e) ∙ f)
      | inr e ↦ keeps w x z (holds_has w r z h t) e
    ])

-- labels of a face, rising, are a face
pub part_is_face : (xs s : List ℕ) → IsFace xs → IsStrictlySortedBy nat_cmp s → holds xs s ≡ true → IsFace s
part_is_face xs s h r t = record {
  few = omega (arith, h.few, fewer s xs r (above_tail nat_cmp 0 xs h.rising) t);
  rising = above_cons nat_cmp 0 s (above_from 0 xs s (above_head nat_cmp 0 xs h.rising) t) r;
}

pub subset_is : (n : ℕ) (xs s : List ℕ) → IsFace xs → lists (subsets_of n xs) s ≡ true → IsSubset xs n s
subset_is n xs s h t =
    let c : Chosen n xs s = chosen_is n xs s (above_tail nat_cmp 0 xs h.rising) t in
    record { face = part_is_face xs s h c.rises c.part; part = c.part; size = c.size }

pub subset_from : (n : ℕ) (xs s : List ℕ) → IsFace xs → IsSubset xs n s → lists (subsets_of n xs) s ≡ true
subset_from n xs s h c = chosen_from n xs s (above_tail nat_cmp 0 xs h.rising) (record { rises = above_tail nat_cmp 0 s c.face.rising; part = c.part; size = c.size })

-- ---- their order

-- a set whose first label is above x
abbrev Begins : ℕ → List ℕ → Type 0
Begins x [] = ⊥
Begins x (y ∷ s) = nat_cmp x y ≡ Less

begin_all : (x y : ℕ) (ss : List (List ℕ)) → nat_cmp x y ≡ Less → AllByRecursion (Begins x) (map (λ s. y ∷ s) ss)
begin_all x y [] l = tt
begin_all x y (s ∷ ss) l = (l, begin_all x y ss l)

begin_both : (x : ℕ) (ss ts : List (List ℕ)) → AllByRecursion (Begins x) ss → AllByRecursion (Begins x) ts → AllByRecursion (Begins x) (ss ++ ts)
begin_both x [] ts a b = b
begin_both x (s ∷ ss) ts a b = (a.0, begin_both x ss ts a.1 b)

begins : (x n : ℕ) (xs : List ℕ) → IsStrictlySortedBy nat_cmp (x ∷ xs) → AllByRecursion (Begins x) (subsets_of (suc n) xs)
begins x n [] r = tt
begins x n (y ∷ ys) r =
    let rest : IsStrictlySortedBy nat_cmp (x ∷ ys) = above_cons nat_cmp x ys (above_head nat_cmp x (y ∷ ys) r).1 (above_tail nat_cmp y ys (above_tail nat_cmp x (y ∷ ys) r)) in
    begin_both x (map (λ s. y ∷ s) (subsets_of n ys)) (subsets_of (suc n) ys) (begin_all x y (subsets_of n ys) (above_head nat_cmp x (y ∷ ys) r).0) (begins x n ys rest)

same_head : (x : ℕ) (s t : List ℕ) → face_cmp (x ∷ s) (x ∷ t) ≡ face_cmp s t
same_head x s t = ap (λ r. ordering_then r (face_cmp s t)) (cmp_equal x x refl)

pub above_map : (x : ℕ) (s : List ℕ) (ss : List (List ℕ)) → Above face_cmp s ss → Above face_cmp (x ∷ s) (map (λ t. x ∷ t) ss)
above_map x s [] a = tt
above_map x s (t ∷ ts) a = (same_head x s t ∙ a.0, above_map x s ts a.1)

above_begun : (x : ℕ) (s : List ℕ) (ts : List (List ℕ)) → AllByRecursion (Begins x) ts → Above face_cmp (x ∷ s) ts
above_begun x s [] a = tt
above_begun x s ([] ∷ ts) a = elim a.0 [ ]
above_begun x s ((y ∷ t) ∷ ts) a = (ap (λ r. ordering_then r (face_cmp s t)) a.0, above_begun x s ts a.1)

pub above_both : (s : List ℕ) (ss ts : List (List ℕ)) → Above face_cmp s ss → Above face_cmp s ts → Above face_cmp s (ss ++ ts)
above_both s [] ts a b = b
above_both s (r ∷ ss) ts a b = (a.0, above_both s ss ts a.1 b)

rise_both : (x : ℕ) (ss ts : List (List ℕ)) → IsStrictlySortedBy face_cmp ss → IsStrictlySortedBy face_cmp ts → AllByRecursion (Begins x) ts → IsStrictlySortedBy face_cmp (map (λ s. x ∷ s) ss ++ ts)
rise_both x [] ts r q b = q
rise_both x (s ∷ ss) ts r q b =
    above_cons face_cmp (x ∷ s) (map (λ t. x ∷ t) ss ++ ts)
    (above_both (x ∷ s) (map (λ t. x ∷ t) ss) ts (above_map x s ss (above_head face_cmp s ss r)) (above_begun x s ts b))
    (rise_both x ss ts (above_tail face_cmp s ss r) q b)

pub subsets_rise : (n : ℕ) (xs : List ℕ) → IsStrictlySortedBy nat_cmp xs → IsStrictlySortedBy face_cmp (subsets_of n xs)
subsets_rise zero xs r = above_cons face_cmp [] [] tt (sorted_none face_cmp)
subsets_rise (suc n) [] r = sorted_none face_cmp
subsets_rise (suc n) (x ∷ xs) r =
    let rest : IsStrictlySortedBy nat_cmp xs = above_tail nat_cmp x xs r in
    rise_both x (subsets_of n xs) (subsets_of (suc n) xs) (subsets_rise n xs rest) (subsets_rise (suc n) xs rest) (begins x n xs r)
