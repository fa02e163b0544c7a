-- Flips that come one after another, as a page of them.
use Rattle.std.proofs.Common.{◌≡◌, inl, inr, ℕ, zero, suc, ◌+◌, ◌<◌, ◌≤◌, true, false, nat_le, nat_lt, ◌&&◌, if◌then◌else◌, Some, None, List, [], ◌∷◌, ◌++◌, length, take, drop, fold, slice_get, sym, ◌∙◌, ap, refl, arith, length-append}
use Rattle.std.proofs.lemmas.Bool.Decides.{nat_tests}
use Rattle.complex_core.proofs.SubsetLists.{two}
use Rattle.flip_rules.specs.declared.flip.Flip.{Flip}
use Rattle.anneal_plan.specs.Paging.{Flips, no_flips, added, page_of}

pub fold-append : (page : Flips) (fs gs : List Flip) → fold added page (fs ++ gs) ≡ fold added (fold added page fs) gs
fold-append page [] gs = refl
fold-append page (f ∷ fs) gs = fold-append (added page f) fs gs

pub count-fold : (page : Flips) (fs : List Flip) → (fold added page fs).count ≡ page.count + length fs
count-fold page [] = omega arith
count-fold page (f ∷ fs) = omega (arith, count-fold (added page f) fs)

-- ---- one flip more

drop_near : (n : ℕ) (xs : List Flip) (x : Flip) → n ≤ length xs → drop n (xs ++ x ∷ []) ≡ drop n xs ++ x ∷ []
drop_near zero xs x l = refl
drop_near (suc n) [] x l = absurd (omega (arith, l))
drop_near (suc n) (y ∷ xs) x l = drop_near n xs x (omega (arith, l))

drop_far : (n : ℕ) (xs : List Flip) (x : Flip) → length xs < n → drop n (xs ++ x ∷ []) ≡ drop n xs
drop_far zero xs x l = absurd (omega (arith, l))
drop_far (suc zero) [] x l = refl
drop_far (suc (suc n)) [] x l = refl
drop_far (suc n) (y ∷ xs) x l = drop_far n xs x (omega (arith, l))

take_room : (n : ℕ) (xs : List Flip) (x : Flip) → length (take n xs) < n → take n (xs ++ x ∷ []) ≡ take n xs ++ x ∷ []
take_room zero xs x l = absurd (omega (arith, l))
take_room (suc zero) [] x l = refl
take_room (suc (suc n)) [] x l = refl
take_room (suc n) (y ∷ xs) x l = ap (λ zs. y ∷ zs) (take_room n xs x (omega (arith, l)))

take_full : (n : ℕ) (xs : List Flip) (x : Flip) → n ≤ length (take n xs) → take n (xs ++ x ∷ []) ≡ take n xs
take_full zero xs x l = refl
take_full (suc n) [] x l = absurd (omega (arith, l))
take_full (suc n) (y ∷ xs) x l = ap (λ zs. y ∷ zs) (take_full n xs x (omega (arith, l)))

abbrev kept_of : ℕ → List Flip → List Flip
kept_of from fs = take 64 (drop from fs)

kept_more : (from : ℕ) (fs : List Flip) (f : Flip) → (if nat_le from (length fs) && nat_lt (length (kept_of from fs)) 64 then kept_of from fs ++ f ∷ [] else kept_of from fs) ≡ kept_of from (fs ++ f ∷ [])
kept_more from fs f = elim (two (nat_le from (length fs))) [
  | inl l ↦ elim (two (nat_lt (length (kept_of from fs)) 64)) [
    | inl r ↦ (λ i. if l i && r i then kept_of from fs ++ f ∷ [] else kept_of from fs) ∙ sym (ap (take 64) (drop_near from fs f (at_most l)) ∙ take_room 64 (drop from fs) f (below r))
    | inr r ↦ (λ i. if l i && r i then kept_of from fs ++ f ∷ [] else kept_of from fs) ∙ sym (ap (take 64) (drop_near from fs f (at_most l)) ∙ take_full 64 (drop from fs) f (not_below r))
  ]
  | inr l ↦ ap (λ b. if b && nat_lt (length (kept_of from fs)) 64 then kept_of from fs ++ f ∷ [] else kept_of from fs) l ∙ sym (ap (take 64) (drop_far from fs f (beyond l)))
]
  where
    at_most : nat_le from (length fs) ≡ true → from ≤ length fs
    at_most e = grind (arith, nat_tests)

    beyond : nat_le from (length fs) ≡ false → length fs < from
    beyond e = grind (arith, nat_tests)

    below : nat_lt (length (kept_of from fs)) 64 ≡ true → length (kept_of from fs) < 64
    below e = grind (arith, nat_tests)

    not_below : nat_lt (length (kept_of from fs)) 64 ≡ false → 64 ≤ length (kept_of from fs)
    not_below e = grind (arith, nat_tests)

page_more : (from : ℕ) (fs : List Flip) (f : Flip) → added (page_of fs from) f ≡ page_of (fs ++ f ∷ []) from
page_more from fs f = λ i. record { from = from; count = count i; kept = kept_more from fs f i }
  where
    count : length fs + 1 ≡ length (fs ++ f ∷ [])
    count = omega (arith, length-append fs (f ∷ []))

pages : (from : ℕ) (done fs : List Flip) → fold added (page_of done from) fs ≡ page_of (done ++ fs) from
pages from done [] = ap (λ gs. page_of gs from) (sym (nil done))
  where
    nil : (xs : List Flip) → xs ++ [] ≡ xs
    nil [] = refl
    nil (x ∷ xs) = ap (λ ys. x ∷ ys) (nil xs)
pages from done (f ∷ fs) = ap (λ page. fold added page fs) (page_more from done f) ∙ pages from (done ++ f ∷ []) fs ∙ ap (λ gs. page_of gs from) (over done)
  where
    over : (xs : List Flip) → (xs ++ f ∷ []) ++ fs ≡ xs ++ (f ∷ fs)
    over [] = refl
    over (x ∷ xs) = ap (λ ys. x ∷ ys) (over xs)

nothing_kept : (from : ℕ) → kept_of from [] ≡ []
nothing_kept zero = refl
nothing_kept (suc from) = refl

pub paged : (from : ℕ) (fs : List Flip) → fold added (no_flips from) fs ≡ page_of fs from
paged from fs = ap (λ kept. fold added (record { from = from; count = 0; kept = kept }) fs) (sym (nothing_kept from)) ∙ pages from [] fs

-- ---- the flip at a place

take_get : (n : ℕ) (fs : List Flip) (k : ℕ) (f : Flip) → Some f ≡ slice_get (take n fs) k → Some f ≡ slice_get fs k
take_get zero fs k f e = let z : Some f ≡ None = e in cc
take_get (suc n) [] k f e = e
take_get (suc n) (x ∷ fs) zero f e = e
take_get (suc n) (x ∷ fs) (suc k) f e = take_get n fs k f e

pub got_first : (fs : List Flip) (k : ℕ) (f : Flip) → Some f ≡ slice_get (take 64 (drop 0 fs)) k → Some f ≡ slice_get fs k
got_first fs k f e = take_get 64 fs k f e

pub got_later : (fs : List Flip) (k : ℕ) → slice_get (take 64 (drop k fs)) 0 ≡ slice_get fs k
got_later [] zero = refl
got_later [] (suc k) = refl
got_later (x ∷ fs) zero = refl
got_later (x ∷ fs) (suc k) = got_later fs k
