-- The subsets of one size are among all subsets those of that size.
use Rattle.std.proofs.Common.{◌≡◌, ℕ, zero, suc, Bool, true, false, nat_eq, ◌||◌, ◌&&◌, List, [], ◌∷◌, length, map, sym, ◌∙◌, ap, refl, arith}
use Rattle.std.specs.List.{list_any}
use Rattle.std.proofs.lemmas.Bool.Decides.{nat_tests}
use Rattle.complex_core.specs.Subsets.{subsets_of}
use Rattle.complex_core.proofs.Laws.{listed, listed-append, or_left}
use Rattle.face_counts.specs.Faces.{subsets}
use Rattle.complex_core.proofs.Booleans.{and_false}
use Rattle.complex_core.proofs.SetLists.{listed-begun}

shared : (a b c : Bool) → ((a && b) || (a && c)) ≡ (a && (b || c))
shared true b c = refl
shared false b c = refl

by_size : (a b c d : Bool) → ((a && (b && c)) || (d && c)) ≡ ((d || (a && b)) && c)
by_size true true true true = refl
by_size true true true false = refl
by_size true true false true = refl
by_size true true false false = refl
by_size true false c true = refl
by_size true false c false = refl
by_size false b c true = refl
by_size false b c false = refl

none_begun : (x : ℕ) (ss : List (List ℕ)) → listed (map (λ s. x ∷ s) ss) [] ≡ false
none_begun x [] = refl
none_begun x (s ∷ ss) = none_begun x ss

empty_listed : (xs : List ℕ) → listed (subsets xs) [] ≡ true
empty_listed [] = refl
empty_listed (x ∷ xs) = listed-append (subsets xs) (map (λ s. x ∷ s) (subsets xs)) [] ∙ or_left (listed (subsets xs) []) (listed (map (λ s. x ∷ s) (subsets xs)) []) (empty_listed xs)

no_zero : (y : ℕ) (t : List ℕ) → nat_eq (length (y ∷ t)) 0 ≡ false
no_zero y t = grind (arith, nat_tests)

zero_no : (n : ℕ) → nat_eq (length {A = ℕ} []) (suc n) ≡ false
zero_no n = grind (arith, nat_tests)

one_less : (y : ℕ) (t : List ℕ) (n : ℕ) → nat_eq (length (y ∷ t)) (suc n) ≡ nat_eq (length t) n
one_less y t n = grind (arith, nat_tests)

pub listed-subsets_of : (n : ℕ) (xs s : List ℕ) → listed (subsets_of n xs) s ≡ (listed (subsets xs) s && nat_eq (length s) n)
listed-subsets_of zero xs [] = sym (ap (λ b. b && nat_eq (length {A = ℕ} []) 0) (empty_listed xs))
listed-subsets_of zero xs (y ∷ t) = sym (ap (λ b. listed (subsets xs) (y ∷ t) && b) (no_zero y t) ∙ and_false (listed (subsets xs) (y ∷ t)))
listed-subsets_of (suc n) [] [] = sym (zero_no n)
listed-subsets_of (suc n) [] (y ∷ t) = refl
listed-subsets_of (suc n) (x ∷ xs) [] =
    listed-append (map (λ s. x ∷ s) (subsets_of n xs)) (subsets_of (suc n) xs) []
    ∙ (λ i. none_begun x (subsets_of n xs) i || listed-subsets_of (suc n) xs [] i)
    ∙ ap (λ b. listed (subsets xs) [] && b) (zero_no n) ∙ and_false (listed (subsets xs) [])
    ∙ sym (ap (λ b. listed (subsets (x ∷ xs)) [] && b) (zero_no n) ∙ and_false (listed (subsets (x ∷ xs)) []))
listed-subsets_of (suc n) (x ∷ xs) (y ∷ t) =
    listed-append (map (λ s. x ∷ s) (subsets_of n xs)) (subsets_of (suc n) xs) (y ∷ t)
    ∙ (λ i. (listed-begun x y t (subsets_of n xs) ∙ ap (λ b. nat_eq x y && b) (listed-subsets_of n xs t)) i || (listed-subsets_of (suc n) xs (y ∷ t) ∙ ap (λ b. listed (subsets xs) (y ∷ t) && b) (one_less y t n)) i)
    ∙ by_size (nat_eq x y) (listed (subsets xs) t) (nat_eq (length t) n) (listed (subsets xs) (y ∷ t))
    ∙ sym ((λ i. (listed-append (subsets xs) (map (λ s. x ∷ s) (subsets xs)) (y ∷ t) ∙ ap (λ b. listed (subsets xs) (y ∷ t) || b) (listed-begun x y t (subsets xs))) i && one_less y t n i))

pub any_both : (p q : List ℕ → Bool) (c : Bool) (fs : List (List ℕ)) → ((f : List ℕ) → p f ≡ (q f && c)) → list_any p fs ≡ (list_any q fs && c)
any_both p q c [] h = refl
any_both p q c (f ∷ fs) h = (λ i. h f i || any_both p q c fs h i) ∙ both (q f) (list_any q fs) c
  where
    both : (a b c : Bool) → ((a && c) || (b && c)) ≡ ((a || b) && c)
    both true b true = refl
    both true true false = refl
    both true false false = refl
    both false b c = refl
