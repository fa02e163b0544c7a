-- Beginnings of a journal in which so many entries touch a place.
use Rattle.std.proofs.Common.{◌≡◌, ◌≢◌, ℕ, ◌+◌, ◌≤◌, zero, suc, Bool, true, false, cond, ◌⊎◌, inl, inr, List, [], ◌∷◌, ◌++◌, length, filter, get_or, drop, Some, sym, ◌∙◌, ap, refl, subst, append_assoc, arith}
use Rattle.std.proofs.lemmas.List.{append-nil}
use Rattle.std.proofs.lemmas.Option.{same_Some}
use Rattle.complex_core.specs.Complexes.{ComplexView}
use Rattle.flip_rules.specs.Flips.{replay}
use Rattle.flip_rules.specs.Entries.{JournalEntry}
use Rattle.flip_rules.specs.Journals.{flat, entry_touches, touches, star_of, IsShortest, ShortestExists, ShortestIsOne, StarsExist, StarIsOne, StarStays}
use Rattle.flip_rules.proofs.Replays.{replay_split}

pub flat-append : (es more : List JournalEntry) → flat (es ++ more) ≡ flat es ++ flat more
flat-append [] more = refl
flat-append (e ∷ es) more = ap (λ fs. e.flips ++ fs) (flat-append es more) ∙ sym (append_assoc e.flips (flat es) (flat more))

-- 1 where the entry touches the place, else 0
abbrev pub one_touch : JournalEntry → ℕ → ℕ
one_touch e place = cond (entry_touches place e) 1 0

pub touches-cons : (e : JournalEntry) (es : List JournalEntry) (place : ℕ) → touches (e ∷ es) place ≡ one_touch e place + touches es place
touches-cons e es place = elim (entry_touches place e) as (λ b. length (cond b (e ∷ filter (entry_touches place) es) (filter (entry_touches place) es)) ≡ cond b 1 0 + touches es place) [ true ↦ omega arith | false ↦ omega arith ]

pub touches-append : (es more : List JournalEntry) (place : ℕ) → touches (es ++ more) place ≡ touches es place + touches more place
touches-append [] more place = omega arith
touches-append (e ∷ es) more place = omega (arith, touches-cons e (es ++ more) place, touches-cons e es place, touches-append es more place)

same_entry : (e f : JournalEntry) (es fs : List JournalEntry) → e ∷ es ≡ f ∷ fs → e ≡ f
same_entry e f es fs h = ap (λ gs. get_or gs 0 e) h

same_entries : (e f : JournalEntry) (es fs : List JournalEntry) → e ∷ es ≡ f ∷ fs → es ≡ fs
same_entries e f es fs h = ap (λ gs. drop 1 gs) h

none_left : (xs ys : List JournalEntry) → [] ≡ xs ++ ys → ys ≡ []
none_left [] ys h = sym h
none_left (x ∷ xs) ys h = cc

-- ---- the shortest beginning

-- the empty beginning has no touches
shortest_none : (es : List JournalEntry) (place : ℕ) → IsShortest es place 0 []
shortest_none es place = record { rest = es; splits = refl; touched = refl; least = λ short more h t. none_left short more h }

-- one entry in front, of a beginning that has to touch the place
shortest_cons : (e : JournalEntry) (es front : List JournalEntry) (place n : ℕ) → one_touch e place + n ≢ 0 → IsShortest es place n front → IsShortest (e ∷ es) place (one_touch e place + n) (e ∷ front)
shortest_cons e es front place n some h = record {
  rest = h.rest;
  splits = ap (λ gs. e ∷ gs) h.splits;
  touched = omega (arith, touches-cons e front place, h.touched);
  least = least_of;
}
  where
    least_of : (short more : List JournalEntry) → e ∷ front ≡ short ++ more → touches short place ≡ one_touch e place + n → more ≡ []
    least_of [] more s t = absurd (some (sym t))
    least_of (f ∷ short) more s t =
        let same : one_touch e place ≡ one_touch f place = ap (λ g. one_touch g place) (same_entry e f front (short ++ more) s) in
        h.least short more (same_entries e f front (short ++ more) s) (omega (arith, t, touches-cons f short place, same))

-- the first entry touches the place, or it doesn't
shortest_by : (e : JournalEntry) (es : List JournalEntry) (place n : ℕ) (b : Bool) → entry_touches place e ≡ b → ((count : ℕ) → count ≤ touches es place → (front : List JournalEntry) × IsShortest es place count front) → suc n ≤ touches (e ∷ es) place → (front : List JournalEntry) × IsShortest (e ∷ es) place (suc n) front
shortest_by e es place n true t from h =
    let one : one_touch e place ≡ 1 = ap (λ c. cond c 1 0) t in
    let r : (front : List JournalEntry) × IsShortest es place n front = from n (omega (arith, h, one, touches-cons e es place)) in
    let P : ℕ → Type 0 = λ c. IsShortest (e ∷ es) place c (e ∷ r.0) in
    let count : one_touch e place + n ≡ suc n = omega (arith, one) in
    (e ∷ r.0, subst P count (shortest_cons e es r.0 place n (λ z. omega (arith, z, count)) r.1))
shortest_by e es place n false t from h =
    let one : one_touch e place ≡ 0 = ap (λ c. cond c 1 0) t in
    let r : (front : List JournalEntry) × IsShortest es place (suc n) front = from (suc n) (omega (arith, h, one, touches-cons e es place)) in
    let P : ℕ → Type 0 = λ c. IsShortest (e ∷ es) place c (e ∷ r.0) in
    let count : one_touch e place + suc n ≡ suc n = omega (arith, one) in
    (e ∷ r.0, subst P count (shortest_cons e es r.0 place (suc n) (λ z. omega (arith, z, count)) r.1))

pub shortest_exists : ShortestExists
shortest_exists es place zero h = ([], shortest_none es place)
shortest_exists [] place (suc n) h = absurd (omega (arith, h))
shortest_exists (e ∷ es) place (suc n) h = shortest_by e es place n (entry_touches place e) refl (shortest_exists es place) h

-- one of two beginnings goes on as the other
abbrev GoesOn : List JournalEntry → List JournalEntry → Type 0
GoesOn xs ys = ((zs : List JournalEntry) × (ys ≡ xs ++ zs)) ⊎ ((zs : List JournalEntry) × (xs ≡ ys ++ zs))

goes_on_cons : (x y : JournalEntry) (xs ys : List JournalEntry) → x ≡ y → GoesOn xs ys → GoesOn (x ∷ xs) (y ∷ ys)
goes_on_cons x y xs ys e (inl r) = inl (r.0, λ i. sym e i ∷ r.1 i)
goes_on_cons x y xs ys e (inr r) = inr (r.0, λ i. e i ∷ r.1 i)

goes_on : (xs ys rest others : List JournalEntry) → xs ++ rest ≡ ys ++ others → GoesOn xs ys
goes_on [] ys rest others h = inl (ys, refl)
goes_on (x ∷ xs) [] rest others h = inr (x ∷ xs, refl)
goes_on (x ∷ xs) (y ∷ ys) rest others h = goes_on_cons x y xs ys (same_entry x y (xs ++ rest) (ys ++ others) h) (goes_on xs ys rest others (same_entries x y (xs ++ rest) (ys ++ others) h))

shortest_from : (es front other : List JournalEntry) (place n : ℕ) → IsShortest es place n front → IsShortest es place n other → GoesOn front other → front ≡ other
shortest_from es front other place n h g (inl r) = sym (r.1 ∙ ap (λ zs. front ++ zs) (g.least front r.0 r.1 h.touched) ∙ append-nil front)
shortest_from es front other place n h g (inr r) = r.1 ∙ ap (λ zs. other ++ zs) (h.least other r.0 r.1 g.touched) ∙ append-nil other

pub shortest_is_one : ShortestIsOne
shortest_is_one es front other place n h g = shortest_from es front other place n h g (goes_on front other h.rest g.rest (sym h.splits ∙ g.splits))

-- ---- the star after it

pub stars_exist : StarsExist
stars_exist k m es place n h le =
    let f : (front : List JournalEntry) × IsShortest es place n front = shortest_exists es place n le in
    let r : (l : ComplexView) × (replay k (flat f.0) ≡ Some l) × (replay l (flat f.1.rest) ≡ Some m) = replay_split k m (flat f.0) (flat f.1.rest) (ap (replay k) (sym (ap flat f.1.splits ∙ flat-append f.0 f.1.rest)) ∙ h) in
    (star_of r.0 place, record { front = f.0; shortest = f.1; there = r.0; replays = r.1; star = refl })

pub star_is_one : StarIsOne
star_is_one k es place n facets others h g =
    let same : h.there ≡ g.there = same_Some h.there g.there (sym h.replays ∙ ap (λ fs. replay k (flat fs)) (shortest_is_one es h.front g.front place n h.shortest g.shortest) ∙ g.replays) in
    h.star ∙ ap (λ l. star_of l place) same ∙ sym g.star

pub star_stays : StarStays
star_stays k es more place n facets h = record {
  front = h.front;
  shortest = record {
    rest = h.shortest.rest ++ more;
    splits = ap (λ gs. gs ++ more) h.shortest.splits ∙ append_assoc h.front h.shortest.rest more;
    touched = h.shortest.touched;
    least = h.shortest.least;
  };
  there = h.there;
  replays = h.replays;
  star = h.star;
}
