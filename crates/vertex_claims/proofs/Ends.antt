-- A board at its start and at its end.
use Rattle.std.proofs.Common.{◌≡◌, ℕ, zero, suc, ◌+◌, ◌-◌, ◌<◌, ◌≤◌, List, [], ◌∷◌, ◌++◌, map, length, get_or, replicate, sym, refl, ap, ◌∙◌, subst, arith}
use mathlib.Core.Option.{some, some-injective}
use lib.ListN.{get_elem?}
use Rattle.complex_core.specs.Complexes.{ComplexView, IsComplex}
use Rattle.flip_rules.specs.Entries.{JournalEntry}
use Rattle.star_laws.specs.Stars.{star}
use Rattle.stars.specs.StarViews.{VertexStar, StarList, numbered, all_stars, places_in, UsesUpTo, IsStarListOf}
use Rattle.stars.specs.Building.{stars_of}
use Rattle.board_rule.specs.Books.{Book}
use Rattle.board_rule.specs.Views.{home, home_at}
use Rattle.board_rule.specs.Ends.{Opens, Closes}
use Rattle.board_rule.specs.declared.setup.Setup.{Setup}
use Rattle.board_rule.specs.Homes.{VersionedStar}
use Rattle.board_rule.specs.declared.data.Slot.{Slot}
use Rattle.board_rule.specs.declared.data.Slot.TheVariants.{Journal, Home}
use Rattle.board_rule.specs.declared.view.MainView.{MainView}
use Rattle.vertex_claims.specs.Ended.{IsEnd}

-- ---- at the start

abbrev slot_of : VertexStar → Slot
slot_of s = Home (home s 0)

numbered_slot : (d n p : ℕ) (rows : List (List (List ℕ))) (k : ℕ) → k < length rows → p ≡ n + k + 1 → get_elem? (map slot_of (numbered d n rows)) k ≡ some (Home (home (record { vertex = p; dim = d; rows = get_or rows k [] }) 0))
numbered_slot d n p [] k h is = absurd (omega arith)
numbered_slot d n p (x ∷ xs) zero h is = let e : n + 1 ≡ p = omega arith in λ i. some (Home (home (record { vertex = e i; dim = d; rows = x }) 0))
numbered_slot d n p (x ∷ xs) (suc k) h is = numbered_slot d (n + 1) p xs k (omega arith) (omega arith)

first_at : (k : ComplexView) (m : StarList) (b : Book) (p : ℕ) → IsStarListOf k m → 0 < p → p ≤ places_in m → get_elem? (Journal b ∷ map slot_of (all_stars m)) p ≡ some (Home (home_at k [] p))
first_at k m b zero l pos near = absurd (omega arith)
first_at k m b (suc j) l pos near =
    let back : suc j - 1 ≡ j = omega arith in
    let e : suc j ≡ 0 + j + 1 = omega arith in
    let rows : get_or m.stars j [] ≡ star k.facets (suc j) = ap (λ (i : ℕ). get_or m.stars i []) (sym back) ∙ l.stars (suc j) pos near in
    let dim = l.dim in
    numbered_slot m.dim 0 (suc j) m.stars j (omega arith) e ∙ (λ i. some (Home (home (record { vertex = suc j; dim = dim i; rows = rows i }) 0)))

-- a board may be opened with these words and slots
pub may_open : (setup : Setup) (words : List ℕ) (slots : List Slot) (m : StarList) (stars : List VertexStar) (b : Book) → IsStarListOf setup.start.value m → places_in m ≡ setup.places → stars ≡ all_stars m → b.entries ≡ [] → words ≡ replicate (setup.places + 1) 0
    → slots ≡ Journal b ∷ map slot_of stars → UsesUpTo setup.start.value setup.places → Opens setup words slots
may_open setup words slots m stars b l long same none_yet zeros are within =
    let all : slots ≡ Journal b ∷ map slot_of (all_stars m) = are ∙ ap (λ (ss : List VertexStar). Journal b ∷ map slot_of ss) same in
    record {
      complex = l.complex;
      within = within;
      free = zeros;
      room = b.room;
      journal = ap (λ (s : List Slot). get_elem? s 0) all ∙ ap (λ (es : List JournalEntry). some (Journal record { entries = es; room = b.room })) none_yet;
      stars = λ p pos near. ap (λ (s : List Slot). get_elem? s p) all ∙ first_at setup.start.value m b p l pos (omega arith);
    }

-- ---- at the end

same_book : (a b : Book) → some (Journal a) ≡ some (Journal b) → a ≡ b
same_book a b h = let e : Journal a ≡ Journal b = some-injective (Journal a) (Journal b) h in cc

pub same_home : (a b : VersionedStar) → some (Home a) ≡ some (Home b) → a ≡ b
same_home a b h = let e : Home a ≡ Home b = some-injective (Home a) (Home b) h in cc

-- one place more
pub stars_next : (d : ℕ) (facets : List (List ℕ)) (n count p : ℕ) → p ≡ n + count + 1 → stars_of d facets n (suc count) ≡ stars_of d facets n count ++ record { vertex = p; dim = d; rows = star facets p } ∷ []
stars_next d facets n zero p e = let g : n + 1 ≡ p = omega arith in λ i. record { vertex = g i; dim = d; rows = star facets (g i) } ∷ []
stars_next d facets n (suc count) p e = ap (λ (ss : List VertexStar). record { vertex = n + 1; dim = d; rows = star facets (n + 1) } ∷ ss) (stars_next d facets (n + 1) count p (omega arith))

-- they are the stars of the places from 1
pub numbered_stars : (d : ℕ) (facets : List (List ℕ)) (n count : ℕ) → stars_of d facets n count ≡ numbered d n (map (λ s. s.rows) (stars_of d facets n count))
numbered_stars d facets n zero = refl
numbered_stars d facets n (suc count) = ap (λ (ss : List VertexStar). record { vertex = n + 1; dim = d; rows = star facets (n + 1) } ∷ ss) (numbered_stars d facets (n + 1) count)

one_more : (facets : List (List ℕ)) (n count : ℕ) (x : List (List ℕ)) (xs : List (List (List ℕ))) → x ≡ star facets (n + 1) → ((i p : ℕ) → i < count → p ≡ n + 1 + i + 1 → get_or xs i [] ≡ star facets p)
    → (i p : ℕ) → i < suc count → p ≡ n + i + 1 → get_or (x ∷ xs) i [] ≡ star facets p
one_more facets n count x xs head others zero p low is = let g : n + 1 ≡ p = omega arith in head ∙ ap (star facets) g
one_more facets n count x xs head others (suc i) p low is = others i p (omega arith) (omega arith)

-- each place has the star of these facets
each_star : (d e : ℕ) (facets : List (List ℕ)) (n count : ℕ) (rows : List (List (List ℕ))) → numbered d n rows ≡ stars_of e facets n count → (length rows ≡ count) × ((i p : ℕ) → i < count → p ≡ n + i + 1 → get_or rows i [] ≡ star facets p)
each_star d e facets n zero [] h = (refl, λ i p low is. absurd (omega arith))
each_star d e facets n (suc count) [] h = absurd (cc)
each_star d e facets n zero (x ∷ xs) h = absurd (cc)
each_star d e facets n (suc count) (x ∷ xs) h =
    let head : record { vertex = n + 1; dim = d; rows = x } ≡ record { vertex = n + 1; dim = e; rows = star facets (n + 1) } = cc in
    let tail : numbered d (n + 1) xs ≡ stars_of e facets (n + 1) count = cc in
    let t = each_star d e facets (n + 1) count xs tail in
    (ap suc t.0, one_more facets n count x xs (ap (λ (s : VertexStar). s.rows) head) t.1)

pub are_stars : (k : ComplexView) (m : StarList) (count : ℕ) → IsComplex k → UsesUpTo k count → m.dim ≡ k.dim → all_stars m ≡ stars_of k.dim k.facets 0 count → IsStarListOf k m × (places_in m ≡ count)
are_stars k m count complex within dim all =
    let t = each_star m.dim k.dim k.facets 0 count m.stars all in (
      record {
        complex = complex;
        dim = dim;
        within = subst (UsesUpTo k) (sym t.0) within;
        stars = λ p pos near. let long = t.0 in t.1 (p - 1) p (omega arith) (omega arith);
      },
      t.0,
    )

-- what a board tells when it is closed
pub is_end : (setup : Setup) (c : MainView) (slots : List Slot) (x : Closes setup c slots) (book : Book) (journal : List JournalEntry) (m : StarList) → get_elem? slots 0 ≡ some (Journal book) → journal ≡ book.entries → m.dim ≡ setup.start.value.dim
    → all_stars m ≡ stars_of x.now.dim x.now.facets 0 setup.places → x.now.dim ≡ setup.start.value.dim → IsEnd setup c journal m
is_end setup c slots x book journal m first same dim all now_dim =
    let book_is : x.book ≡ book = same_book x.book book (sym x.journal ∙ first) in
    let journal_is : x.book.entries ≡ journal = ap (λ (b : Book). b.entries) book_is ∙ sym same in
    subst (λ (es : List JournalEntry). IsEnd setup c es m) journal_is (
    let w = x.closed.written in
    let stars = are_stars x.now m setup.places w.complex w.within (dim ∙ sym now_dim) all in
    record {
      now = x.now;
      replays = w.replays;
      stars_are = stars.0;
      places_are = stars.1;
      serial = w.serial;
      written = w.entries;
      past = λ n k pos at. let p = x.closed.past n k pos at in record { entries = p.entries; names = p.names; notes = p.notes; marks = p.marks; few = p.few; blames = p.blames };
    })
