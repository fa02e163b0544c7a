-- Stars that are lent: their order, what is true of each, and their rooms.
use Rattle.std.proofs.Common.{◌≡◌, ◌≢◌, ◌⊎◌, inl, inr, ℕ, zero, suc, ◌+◌, ◌<◌, ◌≤◌, Bool, true, false, nat_eq, nat_lt, ◌||◌, List, [], ◌∷◌, ◌++◌, length, map, take, drop, get_or, Some, sym, ◌∙◌, ap, refl, subst, arith}
use Rattle.std.specs.List.{AllByRecursion, insert}
use Rattle.std.specs.Ordering.{nat_cmp}
use Rattle.std.specs.List.Sorted.{IsStrictlySortedBy, IsPartitionPoint}
use Rattle.std.proofs.lemmas.Bool.{ltb-true, ltb-false}
use Rattle.std.proofs.lemmas.Cmp.{nat_cmp_total}
use Rattle.std.proofs.lemmas.Map.Keys.{below_from_sorted}
use mathlib.Core.Option.{some, some-injective}
use Rattle.complex_core.specs.Labels.{IsRising, has}
use Rattle.complex_core.specs.Complexes.{ComplexView}
use Rattle.complex_core.proofs.Faces.{cmp_less}
use Rattle.complex_core.proofs.Laws.{or_left, or_right, nat_eq_same}
use Rattle.complex_core.proofs.Members.{has_place}
use Rattle.complex_core.proofs.Sets.{above_cons, above_head, above_tail, above_lower}
use Rattle.star_laws.specs.Stars.{star}
use Rattle.stars.specs.StarViews.{VertexStar, KeptStar, vertices, shown, rooms, counts, EachAtMost, IsStarOf}
use Rattle.stars.proofs.Finding.{vertex_at, shown_at, length-shown, length-vertices}
use Rattle.board_rule.specs.Homes.{VersionedStar}
use Rattle.board_rule.specs.Views.{star_in}
use Rattle.board_rule.specs.declared.data.Slot.TheVariants.{Home}
use Rattle.board_rule.proofs.Items.{off}
use Rattle.vertex_claims.specs.Passes.{IsSame}
use Rattle.vertex_claims.specs.declared.pass.Pass.{Pass}
use Rattle.held_stars.specs.Holding.{FitsRoom, Lends, HaveRoom}

pub same_passes : (a b c : Pass) → IsSame a b → IsSame b c → IsSame a c
same_passes a b c f g = record { table = g.table ∙ f.table; worker = g.worker ∙ f.worker; places = g.places ∙ f.places; limit = g.limit ∙ f.limit }

-- ---- labels

pub positive_at : (xs : List ℕ) (i : ℕ) → IsRising xs → i < length xs → 0 < get_or xs i 0
positive_at xs i r l = below_from_sorted (0 ∷ xs) 0 (suc i) 0 r (omega arith) (omega (arith, l))

pub take_all : (xs : List ℕ) (i : ℕ) → length xs ≤ i → take i xs ≡ xs
take_all [] zero l = refl
take_all [] (suc i) l = refl
take_all (x ∷ xs) zero l = absurd (omega (arith, l))
take_all (x ∷ xs) (suc i) l = ap (λ (ys : List ℕ). x ∷ ys) (take_all xs i (omega (arith, l)))

or_swap : (a b c : Bool) → (a || (b || c)) ≡ (b || (a || c))
or_swap true true c = refl
or_swap true false c = refl
or_swap false b c = refl

pub has_inserted : (xs : List ℕ) (i x q : ℕ) → has (insert xs i x) q ≡ (nat_eq x q || has xs q)
has_inserted [] zero x q = refl
has_inserted [] (suc i) x q = refl
has_inserted (y ∷ ys) zero x q = refl
has_inserted (y ∷ ys) (suc i) x q = ap (λ (b : Bool). nat_eq y q || b) (has_inserted ys i x q) ∙ or_swap (nat_eq y q) (nat_eq x q) (has ys q)

-- a label between those below it and those above it
pub rising_inserted : (low : ℕ) (xs : List ℕ) (i p : ℕ) → IsStrictlySortedBy nat_cmp (low ∷ xs) → low < p → ((j : ℕ) → j < i → j < length xs → get_or xs j 0 < p) → ((j : ℕ) → i ≤ j → j < length xs → p < get_or xs j 0) → IsStrictlySortedBy nat_cmp (low ∷ insert xs i p)
rising_inserted low [] zero p s l below above = above_cons nat_cmp low (p ∷ []) (cmp_less low p l, tt) (above_cons nat_cmp p [] tt (above_tail nat_cmp low [] s))
rising_inserted low [] (suc i) p s l below above = above_cons nat_cmp low (p ∷ []) (cmp_less low p l, tt) (above_cons nat_cmp p [] tt (above_tail nat_cmp low [] s))
rising_inserted low (y ∷ ys) zero p s l below above =
    let tail : IsStrictlySortedBy nat_cmp (y ∷ ys) = above_tail nat_cmp low (y ∷ ys) s in
    let first : p < y = above 0 (omega arith) (omega arith) in
    above_cons nat_cmp low (p ∷ y ∷ ys) (cmp_less low p l, above_head nat_cmp low (y ∷ ys) s) (above_cons nat_cmp p (y ∷ ys) (cmp_less p y first, above_lower nat_cmp_total p y ys (cmp_less p y first) (above_head nat_cmp y ys tail)) tail)
rising_inserted low (y ∷ ys) (suc i) p s l below above =
    let tail : IsStrictlySortedBy nat_cmp (y ∷ ys) = above_tail nat_cmp low (y ∷ ys) s in
    let first : y < p = below 0 (omega arith) (omega arith) in
    let rest : IsStrictlySortedBy nat_cmp (y ∷ insert ys i p) = rising_inserted y ys i p tail first (λ j a b. below (suc j) (omega (arith, a)) (omega (arith, b))) (λ j a b. above (suc j) (omega (arith, a)) (omega (arith, b))) in
    let less = (above_head nat_cmp low (y ∷ ys) s).0 in
    above_cons nat_cmp low (y ∷ insert ys i p) (less, above_lower nat_cmp_total low y (insert ys i p) less (above_head nat_cmp y (insert ys i p) rest)) rest

-- ---- lists

pub length_inserted : (near : List KeptStar) (i : ℕ) (t : KeptStar) → length (insert near i t) ≡ length near + 1
length_inserted [] zero t = refl
length_inserted [] (suc i) t = refl
length_inserted (s ∷ near) zero t = omega arith
length_inserted (s ∷ near) (suc i) t = let e = length_inserted near i t in omega (arith, e)

pub vertices_inserted : (near : List KeptStar) (i : ℕ) (t : KeptStar) → vertices (shown (insert near i t)) ≡ insert (vertices (shown near)) i t.star.vertex
vertices_inserted [] zero t = refl
vertices_inserted [] (suc i) t = refl
vertices_inserted (s ∷ near) zero t = refl
vertices_inserted (s ∷ near) (suc i) t = ap (λ (vs : List ℕ). s.star.vertex ∷ vs) (vertices_inserted near i t)

pub vertices_snoc : (near : List VertexStar) (s : VertexStar) → vertices (near ++ s ∷ []) ≡ vertices near ++ s.vertex ∷ []
vertices_snoc [] s = refl
vertices_snoc (n ∷ near) s = ap (λ (l : List ℕ). n.vertex ∷ l) (vertices_snoc near s)

pub shown_snoc : (near : List KeptStar) (s : KeptStar) → shown (near ++ s ∷ []) ≡ shown near ++ s.star ∷ []
shown_snoc [] s = refl
shown_snoc (n ∷ near) s = ap (λ (l : List VertexStar). n.star ∷ l) (shown_snoc near s)

module _ {X : Type 0} (P : X → Type 0) where
  pub each_inserted : (xs : List X) (i : ℕ) (x : X) → AllByRecursion P xs → P x → AllByRecursion P (insert xs i x)
  each_inserted [] zero x h p = (p, tt)
  each_inserted [] (suc i) x h p = (p, tt)
  each_inserted (y ∷ ys) zero x h p = (p, h)
  each_inserted (y ∷ ys) (suc i) x h p = (h.0, each_inserted ys i x h.1 p)

  pub each_front : (xs : List X) (y : X) → AllByRecursion P (xs ++ y ∷ []) → AllByRecursion P xs × P y
  each_front [] y h = (tt, h.0)
  each_front (x ∷ xs) y h = let r : AllByRecursion P xs × P y = each_front xs y h.1 in ((h.0, r.0), r.1)

-- what is true of each star is said of stars that are lent, and back
pub each_shown : (P : VertexStar → Type 0) (near : List KeptStar) → AllByRecursion (λ s. P s.star) near → AllByRecursion P (shown near)
each_shown P [] h = tt
each_shown P (s ∷ near) h = (h.0, each_shown P near h.1)

pub each_kept : (P : VertexStar → Type 0) (near : List KeptStar) → AllByRecursion P (shown near) → AllByRecursion (λ s. P s.star) near
each_kept P [] h = tt
each_kept P (s ∷ near) h = (h.0, each_kept P near h.1)

-- what is true of each star whose vertex is there
pub each_there : {P Q : KeptStar → Type 0} (near : List KeptStar) → AllByRecursion P near → ((s : KeptStar) → has (vertices (shown near)) s.star.vertex ≡ true → P s → Q s) → AllByRecursion Q near
each_there [] h f = tt
each_there (s ∷ near) h f = (
  f s (or_left (nat_eq s.star.vertex s.star.vertex) (has (vertices (shown near)) s.star.vertex) (nat_eq_same s.star.vertex)) h.0,
  each_there near h.1 (λ t u. f t (or_right (nat_eq s.star.vertex t.star.vertex) (has (vertices (shown near)) t.star.vertex) u)),
)

pub each_star_there : {P Q : VertexStar → Type 0} (near : List VertexStar) → AllByRecursion P near → ((s : VertexStar) → has (vertices near) s.vertex ≡ true → P s → Q s) → AllByRecursion Q near
each_star_there [] h f = tt
each_star_there (s ∷ near) h f = (
  f s (or_left (nat_eq s.vertex s.vertex) (has (vertices near) s.vertex) (nat_eq_same s.vertex)) h.0,
  each_star_there near h.1 (λ t u. f t (or_right (nat_eq s.vertex t.vertex) (has (vertices near) t.vertex) u)),
)

-- ---- stars of a complex

pub is_star : (k : ComplexView) (s : VertexStar) → IsStarOf k s → s ≡ star_in k s.vertex
is_star k s h = λ i. record { vertex = s.vertex; dim = h.dim i; rows = h.rows i }

pub star_is : (k : ComplexView) (p : ℕ) (s : VertexStar) → s ≡ star_in k p → IsStarOf k s
star_is k p s e = subst (IsStarOf k) (sym e) record { dim = refl; rows = refl }

-- ---- rooms

-- stars of a complex that have room for their rows
pub room_counts : (k : ComplexView) (near : List KeptStar) (stars : List VertexStar) → vertices stars ≡ vertices (shown near) → AllByRecursion (IsStarOf k) stars → HaveRoom k near → EachAtMost (counts stars) (rooms near)
room_counts k [] [] vs of room = λ i. omega arith
room_counts k (s ∷ near) [] vs of room = absurd (let e = ap length vs in omega (arith, e))
room_counts k [] (t ∷ stars) vs of room = absurd (let e = ap length vs in omega (arith, e))
room_counts k (s ∷ near) (t ∷ stars) vs of room =
    let v : t.vertex ≡ s.star.vertex = ap (λ (xs : List ℕ). get_or xs 0 0) vs in
    let rest : vertices stars ≡ vertices (shown near) = ap (λ (xs : List ℕ). drop 1 xs) vs in
    let here : length t.rows ≤ s.room = omega (arith, ap length of.0.rows, ap (λ (n : ℕ). length (star k.facets n)) v, room.0) in
    λ i. by i here (room_counts k near stars rest of.1 room.1)
  where
    by : (i : ℕ) → length t.rows ≤ s.room → EachAtMost (counts stars) (rooms near) → get_or (counts (t ∷ stars)) i 0 ≤ get_or (rooms (s ∷ near)) i 0
    by zero here rest = here
    by (suc i) here rest = rest i

pub fits_room : (k : ComplexView) (near : List KeptStar) → AllByRecursion (IsStarOf k) (shown near) → AllByRecursion FitsRoom near → HaveRoom k near
fits_room k [] of few = tt
fits_room k (s ∷ near) of few = ((let e = ap length of.0.rows in let h = few.0 in omega (arith, h, e)), fits_room k near of.1 few.1)

-- no star of these lost room
pub more_room : (k : ComplexView) (old new : List KeptStar) → vertices (shown new) ≡ vertices (shown old) → EachAtMost (rooms old) (rooms new) → HaveRoom k old → HaveRoom k new
more_room k [] [] vs more room = tt
more_room k (s ∷ old) [] vs more room = absurd (let e = ap length vs in omega (arith, e))
more_room k [] (t ∷ new) vs more room = absurd (let e = ap length vs in omega (arith, e))
more_room k (s ∷ old) (t ∷ new) vs more room =
    let v : t.star.vertex ≡ s.star.vertex = ap (λ (xs : List ℕ). get_or xs 0 0) vs in (
      (let m = more 0 in let e = ap (λ (n : ℕ). length (star k.facets n)) v in omega (arith, m, e, room.0)),
      more_room k old new (ap (λ (xs : List ℕ). drop 1 xs) vs) (λ i. more (suc i)) room.1,
    )

-- ---- one star more

-- a star is lent at the place among the others where its vertex parts them
pub lends_at : (near new : List KeptStar) (at p : ℕ) (t : KeptStar) (s : VertexStar) → IsRising (vertices (shown near)) → 0 < p → has (vertices (shown near)) p ≡ false → at ≤ length near
    → IsPartitionPoint (λ u. nat_lt u.star.vertex p ≡ true) (λ u. nat_lt u.star.vertex p ≡ false) near at → t.star ≡ s → s.vertex ≡ p → FitsRoom t → new ≡ insert near at t → Lends near new s
lends_at near new at p t s r low fresh le parts is vertex fits now =
    let none : KeptStar = record { star = record { vertex = 0; dim = 0; rows = [] }; room = 0 } in
    let long : length (vertices (shown near)) ≡ length near = length-vertices (shown near) ∙ length-shown near in
    let at_place : (j : ℕ) → j < length near → get_or (vertices (shown near)) j 0 ≡ (get_or near j none).star.vertex = λ j l.
    vertex_at (shown near) j none.star (omega (arith, l, length-shown near)) ∙ ap (λ (u : VertexStar). u.vertex) (shown_at near j none none.star l) in
    let below : (j : ℕ) → j < at → j < length (vertices (shown near)) → get_or (vertices (shown near)) j 0 < p = λ j l in_list.
    let b : (get_or near j none).star.vertex < p = ltb-true (get_or near j none).star.vertex p (parts.0 j none (omega arith) l) in
    let e = at_place j (omega (arith, in_list, long)) in omega (arith, b, e) in
    let above : (j : ℕ) → at ≤ j → j < length (vertices (shown near)) → p < get_or (vertices (shown near)) j 0 = λ j l in_list.
    let in_near : j < length near = omega (arith, in_list, long) in
    let b : p ≤ (get_or near j none).star.vertex = ltb-false (get_or near j none).star.vertex p (parts.1 j none l in_near) in
    let e = at_place j in_near in
    let ne : get_or (vertices (shown near)) j 0 ≢ p = λ z. off (sym fresh ∙ (ap (has (vertices (shown near))) (sym z) ∙ has_place (vertices (shown near)) j in_list)) in
    let differs : p ≢ get_or (vertices (shown near)) j 0 = λ z. ne (sym z) in
    omega (arith, b, e, differs) in
    record {
      at = at;
      kept = t;
      star = is;
      fits = subst (λ (u : VertexStar). length u.rows ≤ t.room) is fits;
      now = now;
      rising = subst IsRising (sym (ap (λ (l : List KeptStar). vertices (shown l)) now ∙ (vertices_inserted near at t ∙ ap (insert (vertices (shown near)) at) (ap (λ (u : VertexStar). u.vertex) is ∙ vertex))))
          (rising_inserted 0 (vertices (shown near)) at p r low below above);
    }

-- what lies in one slot is one star
pub one_home : (x y : VersionedStar) {p : ℕ} → some (Home x) ≡ some (Home y) → y.star.vertex ≡ p → x.star.vertex ≡ p
one_home x y e v =
    let h : Home x ≡ Home y = some-injective (Home x) (Home y) e in
    let same : x ≡ y = cc in
    ap (λ (z : VersionedStar). z.star.vertex) same ∙ v

-- what is true of each star is true of one more
pub each_lent : (P : KeptStar → Type 0) (old new : List KeptStar) (s : VertexStar) (l : Lends old new s) → AllByRecursion P old → P l.kept → AllByRecursion P new
each_lent P old new s l h p = subst (AllByRecursion P) (sym l.now) (each_inserted P old l.at l.kept h p)
