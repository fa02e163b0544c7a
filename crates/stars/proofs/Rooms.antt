-- Stars that get more room.
use Rattle.std.proofs.Common.{◌≡◌, ℕ, ◌+◌, ◌<◌, ◌≤◌, true, false, nat_eq, ◌||◌, Bool, List, ◌∷◌, length, get_or, set, sym, ◌∙◌, ap, refl, subst, arith, eq-eqb}
use Rattle.std.proofs.Math.Seq.{map-set_same}
use Rattle.std.proofs.lemmas.Bool.{true≢false}
use Rattle.std.proofs.lemmas.List.{length-map, length-set, map-set, get_or-map, get_or-set_same, get_or-set_other}
use Rattle.complex_core.specs.Labels.{IsRising, has}
use Rattle.complex_core.proofs.Laws.{nat_eq_is}
use Rattle.stars.specs.StarViews.{VertexStar, KeptStar, shown, rooms, vertices, EachAtMost}
use Rattle.stars.specs.Changes.{HasSpare}
use Rattle.stars.proofs.Finding.{one_place, shown_at, length-shown}

pub same_rooms : (ms ns : List ℕ) → ns ≡ ms → EachAtMost ms ns
same_rooms ms ns e = λ i. let g : get_or ns i 0 ≡ get_or ms i 0 = ap (λ ks. get_or ks i 0) e in omega (arith, g)

-- the stars are the same, and none has less room
pub record Roomier (near last : List KeptStar) : Type 0 where
  pub stars : shown last ≡ shown near
  pub rooms : EachAtMost (rooms near) (rooms last)

pub roomier : (near : List KeptStar) (i : ℕ) (s u : KeptStar) → i < length near → s ≡ get_or near i s → u.star ≡ s.star → s.room ≤ u.room → Roomier near (set near i u)
roomier near i s u l es eu le = record {
  stars = map-set_same (λ (t : KeptStar). t.star) near i u s (eu ∙ ap (λ (t : KeptStar). t.star) es);
  rooms = λ k. each k;
}
  where
    long : length (rooms near) ≡ length near
    long = length-map near (λ (t : KeptStar). t.room)

    was : get_or (rooms near) i 0 ≡ s.room
    was = get_or-map (λ (t : KeptStar). t.room) near i s 0 l ∙ ap (λ (t : KeptStar). t.room) (sym es)

    is : rooms (set near i u) ≡ set (rooms near) i u.room
    is = map-set (λ (t : KeptStar). t.room) near i u

    each : (k : ℕ) → get_or (rooms near) k 0 ≤ get_or (rooms (set near i u)) k 0
    each k = elim (nat_eq k i) as (λ b. nat_eq k i ≡ b → get_or (rooms near) k 0 ≤ get_or (rooms (set near i u)) k 0) [
      | true ↦ λ e.
          let g : k ≡ i = nat_eq_is k i e in
          let now : get_or (rooms (set near i u)) i 0 ≡ u.room = ap (λ ks. get_or ks i 0) is ∙ get_or-set_same (rooms near) i u.room 0 (omega (arith, l, long)) in
          let P : ℕ → Type 0 = λ m. get_or (rooms near) m 0 ≤ get_or (rooms (set near i u)) m 0 in
          subst P (sym g) (omega (arith, was, now, le))
      | false ↦ λ e.
          let other : get_or (rooms (set near i u)) k 0 ≡ get_or (rooms near) k 0 = ap (λ ks. get_or ks k 0) is ∙ get_or-set_other (rooms near) i k u.room 0 (λ g. true≢false (sym (eq-eqb k i g) ∙ e)) in
          omega (arith, other)
    ] refl

pub roomier_then : (near mid last : List KeptStar) → Roomier near mid → shown last ≡ shown mid → EachAtMost (rooms mid) (rooms last) → Roomier near last
roomier_then near mid last m e le = record {
  stars = e ∙ m.stars;
  rooms = λ i. let a = m.rooms i in let b = le i in omega (arith, a, b);
}

-- the first label's star has the room, and those of the others have it
pub spare_made : (near last : List KeptStar) (i x n : ℕ) (s u : KeptStar) (labels others : List ℕ) → labels ≡ x ∷ others → IsRising (vertices (shown near)) → i < length near → s ≡ get_or near i s → s.star.vertex ≡ x → u.star ≡ s.star → length s.star.rows + n ≤ u.room → Roomier near (set near i u) → shown last ≡ shown (set near i u) → EachAtMost (rooms (set near i u)) (rooms last) → HasSpare last others n → HasSpare last labels n
spare_made near last i x n s u labels others el r l es ex eu enough made same more spare k d lk t = by_first (nat_eq x (get_or last k d).star.vertex) refl
  where
    stars : shown last ≡ shown near
    stars = same ∙ made.stars

    long : length last ≡ length near
    long = sym (length-shown last) ∙ ap length stars ∙ length-shown near

    rises : IsRising (vertices (shown last))
    rises = subst (λ ss. IsRising (vertices ss)) (sym stars) r

    star_here : (e : KeptStar) → (get_or last i e).star ≡ s.star
    star_here e =
        sym (shown_at last i e s.star (omega (arith, l, long)))
        ∙ ap (λ ss. get_or ss i s.star) stars
        ∙ shown_at near i s s.star l
        ∙ ap (λ (t : KeptStar). t.star) (sym es)

    room_here : (e : KeptStar) → u.room ≤ (get_or last i e).room
    room_here e =
        let a : get_or (rooms (set near i u)) i 0 ≡ u.room = get_or-map (λ (t : KeptStar). t.room) (set near i u) i e 0 (omega (arith, l, length-set near i u)) ∙ ap (λ (t : KeptStar). t.room) (get_or-set_same near i u e l) in
        let b : get_or (rooms last) i 0 ≡ (get_or last i e).room = get_or-map (λ (t : KeptStar). t.room) last i e 0 (omega (arith, l, long)) in
        let c = more i in
        omega (arith, a, b, c)

    by_first : (b : Bool) → nat_eq x (get_or last k d).star.vertex ≡ b → length (get_or last k d).star.rows + n ≤ (get_or last k d).room
    by_first true e =
        let v : x ≡ (get_or last k d).star.vertex = nat_eq_is x (get_or last k d).star.vertex e in
        let at_k : (get_or (shown last) k d.star).vertex ≡ (get_or last k d).star.vertex = ap (λ (t : VertexStar). t.vertex) (shown_at last k d d.star lk) in
        let at_i : (get_or (shown last) i d.star).vertex ≡ s.star.vertex = ap (λ (t : VertexStar). t.vertex) (shown_at last i d d.star (omega (arith, l, long)) ∙ star_here d) in
        let g : k ≡ i = one_place (shown last) k i d.star rises (omega (arith, lk, length-shown last)) (omega (arith, l, long, length-shown last)) (at_k ∙ sym v ∙ sym ex ∙ sym at_i) in
        let P : ℕ → Type 0 = λ m. length (get_or last m d).star.rows + n ≤ (get_or last m d).room in
        let rows : length (get_or last i d).star.rows ≡ length s.star.rows = ap (λ (t : VertexStar). length t.rows) (star_here d) in
        subst P (sym g) (omega (arith, rows, enough, room_here d))
    by_first false e = spare k d lk (sym (ap (λ b. b || has others (get_or last k d).star.vertex) e) ∙ sym (ap (λ xs. has xs (get_or last k d).star.vertex) el) ∙ t)
