-- Flips that are made on the stars that are lent, and taken back.
use Rattle.std.proofs.Common.{◌≡◌, ◌≢◌, ◌⊎◌, inl, inr, ⊎_elim, ℕ, ◌+◌, ◌<◌, ◌≤◌, Bool, true, false, ◌||◌, List, [], ◌∷◌, ◌++◌, length, take, drop, append_assoc, Result, Ok, Err, Some, sym, ◌∙◌, ap, refl, subst, arith}
use Rattle.std.specs.List.{AllByRecursion}
use Rattle.std.proofs.lemmas.List.{append-nil, length-map}
use mathlib.Core.Option.{some}
use Rattle.complex_core.specs.Labels.{IsRising, has, union}
use Rattle.complex_core.specs.Complexes.{ComplexView, IsComplex}
use Rattle.complex_core.proofs.Laws.{has-union, holds_each, holds_has, length_union_le, or_left, or_right, or_assoc}
use Rattle.complex_core.proofs.Booleans.{or_none}
use Rattle.complex_core.proofs.Members.{each_push}
use Rattle.flip_rules.specs.Flips.{broken_rule, flipped, replay, OfFaces, Shaped}
use Rattle.flip_rules.specs.Journals.{flip_touches}
use Rattle.flip_rules.specs.declared.flip.Flip.{Flip}
use Rattle.flip_rules.proofs.Back.{undoes}
use Rattle.flip_rules.proofs.Replays.{replay_then, replay_split, first_flip, replay_dim, complex_replayed}
use Rattle.star_laws.specs.Stars.{flips_touch, LabelsPass}
use Rattle.star_laws.proofs.ReplayStars.{others_replay}
use Rattle.stars.specs.StarViews.{VertexStar, KeptStar, vertices, shown, rooms, counts, EachAtMost, IsStarOf, AreStarsOf, HasLabels}
use Rattle.stars.specs.FlipsHere.{star_flipped, stars_flipped}
use Rattle.stars.proofs.Finding.{length-shown}
use Rattle.stars.proofs.Shown.{refilled}
use Rattle.stars.proofs.Flipping.{same_vertices, stars_of_flipped}
use Rattle.board_rule.specs.Homes.{VersionedStar}
use Rattle.board_rule.specs.Items.{item, has_item}
use Rattle.board_rule.specs.Views.{star_in}
use Rattle.board_rule.proofs.Items.{some_of}
use Rattle.vertex_claims.specs.Passes.{know, slot}
use Rattle.vertex_claims.specs.declared.pass.Pass.{Pass}
use Rattle.held_stars.specs.Holding.{AreOf, FitsRoom, HaveRoom, IsMade, Settles}
use Rattle.held_stars.proofs.LentStars.{each_front, each_star_there, is_star, room_counts, fits_room, more_room}

-- ---- labels of flips

by_or : (a b c : Bool) → (a ≡ true → c ≡ true) → (b ≡ true → c ≡ true) → (a || b) ≡ true → c ≡ true
by_or true b c f g h = f refl
by_or false b c f g h = g h

pub touch_both : (q : ℕ) (fs gs : List Flip) → flips_touch q (fs ++ gs) ≡ (flips_touch q fs || flips_touch q gs)
touch_both q [] gs = refl
touch_both q (f ∷ fs) gs = ap (λ (b : Bool). flip_touches q f || b) (touch_both q fs gs) ∙ or_assoc (flip_touches q f) (flips_touch q fs) (flips_touch q gs)

pub touch_snoc : (q : ℕ) (fs : List Flip) (f : Flip) → flips_touch q (fs ++ f ∷ []) ≡ (flips_touch q fs || flip_touches q f)
touch_snoc q fs f = touch_both q fs (f ∷ []) ∙ ap (λ (b : Bool). flips_touch q fs || b) (or_none (flip_touches q f))

pub touch_one : (q : ℕ) (f : Flip) → flip_touches q f ≡ true → flips_touch q (f ∷ []) ≡ true
touch_one q f h = or_left (flip_touches q f) false h

-- the labels of a flip are those of the union
pub union_touches : (labels : List ℕ) (f : Flip) (q : ℕ) → labels ≡ union f.a f.b → has labels q ≡ flip_touches q f
union_touches labels f q is = ap (λ (l : List ℕ). has l q) is ∙ has-union f.a f.b q

pub union_few : (d : ℕ) (f : Flip) → d ≤ 6 → Shaped d f.a f.b → length (union f.a f.b) ≤ 8
union_few d f l s = omega (arith, l, s.sizes, length_union_le f.a f.b)

-- the stars of all labels of a flip are lent where its labels are held, and only there
pub labels_lent : (items : List (ℕ × VersionedStar)) (stars : List VertexStar) (f : Flip) → AreOf items stars → LabelsPass (has_item items) (f ∷ []) → HasLabels stars f
labels_lent items stars f held pass = record {
  first = holds_each (vertices stars) f.a (λ z h. held.each z ∙ pass z (touch_one z f (or_left (has f.a z) (has f.b z) h)));
  second = holds_each (vertices stars) f.b (λ z h. held.each z ∙ pass z (touch_one z f (or_right (has f.a z) (has f.b z) h)));
}

label_held : (items : List (ℕ × VersionedStar)) (stars : List VertexStar) (f : Flip) → AreOf items stars → HasLabels stars f → (q : ℕ) → flip_touches q f ≡ true → has_item items q ≡ true
label_held items stars f held labels q t =
    by_or (has f.a q) (has f.b q) (has_item items q) (λ h. sym (held.each q) ∙ holds_has (vertices stars) f.a q labels.first h) (λ h. sym (held.each q) ∙ holds_has (vertices stars) f.b q labels.second h) t

-- ---- the complex now

pub are_stars : (pass : Pass) (flips : List Flip) (lent : List KeptStar) (now : ComplexView) → IsMade pass flips lent now → AreStarsOf now (shown lent)
are_stars pass flips lent now m = record {
  complex = complex_replayed (know pass).seen now flips pass.sees.complex m.faces m.replays;
  rising = m.held.rising;
  each = m.stars;
}

-- the same of the slice that shows them
pub near_stars : (pass : Pass) (flips : List Flip) (lent near : List KeptStar) (now : ComplexView) → IsMade pass flips lent now → near ≡ lent → AreStarsOf now (shown near)
near_stars pass flips lent near now m is = subst (λ (l : List KeptStar). AreStarsOf now (shown l)) (sym is) (are_stars pass flips lent now m)

-- a star of a label that no flip has is that of the complex before
pub untouched : (k m : ComplexView) (flips : List Flip) (q : ℕ) → IsComplex k → replay k flips ≡ Some m → flips_touch q flips ≡ false → star_in m q ≡ star_in k q
untouched k m flips q c e u = λ i. record { vertex = q; dim = replay_dim k m flips e i; rows = others_replay k m flips q c.rising e u i }

-- the same stars where a pass knows the same of them
pub made_moved : (a b : Pass) (flips : List Flip) (lent : List KeptStar) (now : ComplexView) → IsMade a flips lent now → (know b).seen ≡ (know a).seen → (know b).items ≡ (know a).items → (know b).has_journal ≡ false → ((q : ℕ) → q ≢ 0 → slot b q ≡ slot a q) → IsMade b flips lent now
made_moved a b flips lent now m seen items free slots = record {
  replays = ap (λ (k : ComplexView). replay k flips) seen ∙ m.replays;
  faces = m.faces;
  labels = λ q t. ap (λ (l : List (ℕ × VersionedStar)). has_item l q) items ∙ m.labels q t;
  held = subst (λ (l : List (ℕ × VersionedStar)). AreOf l (shown lent)) (sym items) m.held;
  stars = m.stars;
  room = λ front rest k e r. m.room front rest k e (ap (λ (j : ComplexView). replay j front) (sym seen) ∙ r);
  slots = λ q x at.
      let old : item (know a).items q ≡ some x = ap (λ (l : List (ℕ × VersionedStar)). item l q) (sym items) ∙ at in
      let low : 0 < q = (a.sees.stars q x old).0 in
      let s = m.slots q x old in
      (s.0, s.1, slots q (λ e. absurd (omega (arith, low, e))) ∙ s.2, s.3);
  free = free;
}

-- ---- one more flip

-- flips of which one more is the last begin as they did, or are all of them
split_last : (fs : List Flip) (f : Flip) (front rest : List Flip) → fs ++ f ∷ [] ≡ front ++ rest → (rest ≡ []) ⊎ ((more : List Flip) × (fs ≡ front ++ more))
split_last fs f [] rest e = inr (fs, refl)
split_last [] f (g ∷ front) rest e = inl (none front rest (ap tail e))
  where
    tail : List Flip → List Flip
    tail [] = []
    tail (x ∷ xs) = xs

    none : (front rest : List Flip) → [] ≡ front ++ rest → rest ≡ []
    none [] rest e = sym e
    none (x ∷ xs) rest e = cc
split_last (h ∷ fs) f (g ∷ front) rest e =
    let both : (h ≡ g) × (fs ++ f ∷ [] ≡ front ++ rest) = (cc, cc) in
    ⊎_elim (λ (z : rest ≡ []). inl z) (λ (s : (more : List Flip) × (fs ≡ front ++ more)). inr (s.0, (λ i. both.0 i ∷ s.1 i))) (split_last fs f front rest both.1)

pub made : (pass : Pass) (flips after : List Flip) (old new : List KeptStar) (now : ComplexView) (f : Flip) → IsMade pass flips old now → HasLabels (shown old) f → OfFaces f → broken_rule now f.a f.b ≡ Ok tt → shown new ≡ stars_flipped (shown old) f.a f.b
    → AreStarsOf (flipped now f.a f.b) (shown new) → EachAtMost (rooms old) (rooms new) → AllByRecursion FitsRoom new → after ≡ flips ++ f ∷ [] → IsMade pass after new (flipped now f.a f.b)
made pass flips after old new now f m labels faces ok is are more fits then =
    let end = flipped now f.a f.b in
    let vs : vertices (shown new) ≡ vertices (shown old) = ap vertices is ∙ same_vertices (shown old) f.a f.b in
    let here : HaveRoom end new = fits_room end new are.each fits in
    let replays : replay (know pass).seen after ≡ Some end = ap (replay (know pass).seen) then ∙ replay_then (know pass).seen now flips f m.replays ok in
    record {
      replays = replays;
      faces = subst (AllByRecursion OfFaces) (sym then) (each_push OfFaces flips f m.faces faces);
      labels = λ q t. by_or (flips_touch q flips) (flip_touches q f) (has_item (know pass).items q) (m.labels q) (label_held (know pass).items (shown old) f m.held labels q) (sym (ap (flips_touch q) then ∙ touch_snoc q flips f) ∙ t);
      held = record { rising = are.rising; each = λ q. ap (λ (l : List ℕ). has l q) vs ∙ m.held.each q };
      stars = are.each;
      room = λ front rest k e r. ⊎_elim
          (λ (z : rest ≡ []).
          let all : after ≡ front = e ∙ (ap (λ (l : List Flip). front ++ l) z ∙ append-nil front) in
          let same : Some k ≡ Some end = sym r ∙ (ap (replay (know pass).seen) (sym all) ∙ replays) in
          let last : end ≡ k = cc in
          subst (λ (j : ComplexView). HaveRoom j new) last here)
          (λ (s : (rest : List Flip) × (flips ≡ front ++ rest)). more_room k old new vs more (m.room front s.0 k s.1 r))
          (split_last flips f front rest (sym then ∙ e));
      slots = m.slots;
      free = m.free;
    }

-- the stars after a flip, as they stand in their vector
pub flip_made : (pass : Pass) (flips after : List Flip) (items near next known : List KeptStar) (len : ℕ) (now : ComplexView) (f : Flip) → IsMade pass flips items now → HasLabels (shown items) f → OfFaces f → broken_rule now f.a f.b ≡ Ok tt → near ≡ items
    → shown next ≡ stars_flipped (shown near) f.a f.b → AreStarsOf (flipped now f.a f.b) (shown next) → EachAtMost (rooms near) (rooms next) → len ≡ length items → AllByRecursion FitsRoom known → known ≡ take len (next ++ drop (length next) items) → after ≡ flips ++ f ∷ []
    → IsMade pass after (take len (next ++ drop (length next) items)) (flipped now f.a f.b)
flip_made pass flips after items near next known len now f m labels faces ok is flips_so are more long fits told then =
    let made_so : shown next ≡ stars_flipped (shown items) f.a f.b = flips_so ∙ ap (λ (l : List KeptStar). stars_flipped (shown l) f.a f.b) is in
    let count : length next ≡ length items = sym (length-shown next) ∙ (ap length made_so ∙ (length-map (shown items) (star_flipped f.a f.b) ∙ length-shown items)) in
    let whole : take len (next ++ drop (length next) items) ≡ next = refilled len items next long count in
    subst (λ (l : List KeptStar). IsMade pass after l (flipped now f.a f.b)) (sym whole)
    (made pass flips after items next now f m labels faces ok made_so are (subst (λ (l : List KeptStar). EachAtMost (rooms l) (rooms next)) is more) (subst (AllByRecursion FitsRoom) (told ∙ whole) fits) then)

-- where no flip was made some stars may have more room
pub none_made : (pass : Pass) (flips : List Flip) (items near next : List KeptStar) (len : ℕ) (now : ComplexView) → IsMade pass flips items now → near ≡ items → shown next ≡ shown near → EachAtMost (rooms near) (rooms next) → len ≡ length items → IsMade pass flips (take len (next ++ drop (length next) items)) now
none_made pass flips items near next len now m is stays more long =
    let same : shown next ≡ shown items = stays ∙ ap shown is in
    let count : length next ≡ length items = sym (length-shown next) ∙ (ap length same ∙ length-shown items) in
    subst (λ (l : List KeptStar). IsMade pass flips l now) (sym (refilled len items next long count)) record {
      replays = m.replays;
      faces = m.faces;
      labels = m.labels;
      held = subst (AreOf (know pass).items) (sym same) m.held;
      stars = subst (AllByRecursion (IsStarOf now)) (sym same) m.stars;
      room = λ front rest k e r. more_room k items next (ap vertices same) (subst (λ (l : List KeptStar). EachAtMost (rooms l) (rooms next)) is more) (m.room front rest k e r);
      slots = m.slots;
      free = m.free;
    }

-- ---- one flip less

-- how things stood before the last flip, and that it can be taken back
pub record Before (pass : Pass) (front : List Flip) (f : Flip) (lent : List KeptStar) (now : ComplexView) : Type 0 where
  pub complex : ComplexView
  pub replays : replay (know pass).seen front ≡ Some complex
  pub legal : broken_rule now f.b f.a ≡ Ok tt
  pub faces : AllByRecursion OfFaces front
  pub stars : AllByRecursion (IsStarOf complex) (stars_flipped (shown lent) f.b f.a)
  pub labels : HasLabels (shown lent) f
  pub room : EachAtMost (counts (stars_flipped (shown lent) f.b f.a)) (rooms lent)

pub before : (pass : Pass) (flips front : List Flip) (f : Flip) (lent : List KeptStar) (now : ComplexView) → IsMade pass flips lent now → flips ≡ front ++ f ∷ [] → Before pass front f lent now
before pass flips front f lent now m is =
    let seen = (know pass).seen in
    let faces : AllByRecursion OfFaces front × OfFaces f = each_front OfFaces front f (subst (AllByRecursion OfFaces) is m.faces) in
    let s : (k : ComplexView) × (replay seen front ≡ Some k) × (replay k (f ∷ []) ≡ Some now) = replay_split seen now front (f ∷ []) (ap (replay seen) (sym is) ∙ m.replays) in
    let k = s.0 in
    let one : (broken_rule k f.a f.b ≡ Ok tt) × (replay (flipped k f.a f.b) [] ≡ Some now) = first_flip k now f [] s.2 in
    let same : Some (flipped k f.a f.b) ≡ Some now = one.1 in
    let made : flipped k f.a f.b ≡ now = cc in
    let back = undoes k f.a f.b (complex_replayed seen k front pass.sees.complex faces.0 s.1).rising one.0 in
    let legal : broken_rule now f.b f.a ≡ Ok tt = subst (λ (j : ComplexView). broken_rule j f.b f.a ≡ Ok tt) made back.0 in
    let leads : flipped now f.b f.a ≡ k = subst (λ (j : ComplexView). flipped j f.b f.a ≡ k) made back.1 in
    let inverse : Flip = record { a = f.b; b = f.a } in
    let each : AllByRecursion (IsStarOf k) (stars_flipped (shown lent) f.b f.a) = subst (λ (j : ComplexView). AllByRecursion (IsStarOf j) (stars_flipped (shown lent) f.b f.a)) leads
    (stars_of_flipped now (shown lent) inverse (record { first = faces.1.second; second = faces.1.first }) legal (are_stars pass flips lent now m)).each in
    record {
      complex = k;
      replays = s.1;
      legal = legal;
      faces = faces.0;
      stars = each;
      labels = labels_lent (know pass).items (shown lent) f m.held (λ q t. m.labels q (ap (flips_touch q) is ∙ (touch_both q front (f ∷ []) ∙ or_right (flips_touch q front) (flips_touch q (f ∷ [])) t)));
      room = room_counts k lent (stars_flipped (shown lent) f.b f.a) (same_vertices (shown lent) f.b f.a) each (m.room front (f ∷ []) k is s.1);
    }

pub undone : (pass : Pass) (flips front : List Flip) (f : Flip) (old new : List KeptStar) (now : ComplexView) → IsMade pass flips old now → flips ≡ front ++ f ∷ [] → shown new ≡ stars_flipped (shown old) f.b f.a → EachAtMost (rooms old) (rooms new) → (k : ComplexView) × IsMade pass front new k
undone pass flips front f old new now m is stars more =
    let b : Before pass front f old now = before pass flips front f old now m is in
    let vs : vertices (shown new) ≡ vertices (shown old) = ap vertices stars ∙ same_vertices (shown old) f.b f.a in (
      b.complex,
      record {
        replays = b.replays;
        faces = b.faces;
        labels = λ q t. m.labels q (ap (flips_touch q) is ∙ (touch_both q front (f ∷ []) ∙ or_left (flips_touch q front) (flips_touch q (f ∷ [])) t));
        held = record { rising = subst IsRising (sym vs) m.held.rising; each = λ q. ap (λ (l : List ℕ). has l q) vs ∙ m.held.each q };
        stars = subst (AllByRecursion (IsStarOf b.complex)) (sym stars) b.stars;
        room = λ begun rest k e r. more_room k old new vs more (m.room begun (rest ++ f ∷ []) k (is ∙ (ap (λ (l : List Flip). l ++ f ∷ []) e ∙ append_assoc begun rest (f ∷ []))) r);
        slots = m.slots;
        free = m.free;
      },
    )

-- the stars then, as they stand in their vector
pub flip_undone : (pass : Pass) (flips front : List Flip) (f : Flip) (items near next : List KeptStar) (len : ℕ) (now : ComplexView) → IsMade pass flips items now → flips ≡ front ++ f ∷ [] → near ≡ items → shown next ≡ stars_flipped (shown near) f.b f.a → EachAtMost (rooms near) (rooms next) → len ≡ length items
    → (k : ComplexView) × IsMade pass front (take len (next ++ drop (length next) items)) k
flip_undone pass flips front f items near next len now m last is stars more long =
    let made_so : shown next ≡ stars_flipped (shown items) f.b f.a = stars ∙ ap (λ (l : List KeptStar). stars_flipped (shown l) f.b f.a) is in
    let count : length next ≡ length items = sym (length-shown next) ∙ (ap length made_so ∙ (length-map (shown items) (star_flipped f.b f.a) ∙ length-shown items)) in
    let u = undone pass flips front f items next now m last made_so (subst (λ (l : List KeptStar). EachAtMost (rooms l) (rooms next)) is more) in
    (u.0, subst (λ (l : List KeptStar). IsMade pass front l u.0) (sym (refilled len items next long count)) u.1)

-- without flips the stars are as they are known
pub settled : (pass : Pass) (flips : List Flip) (lent : List KeptStar) (now : ComplexView) → IsMade pass flips lent now → flips ≡ [] → Settles pass [] (shown lent)
settled pass flips lent now m none =
    let same : Some (know pass).seen ≡ Some now = ap (replay (know pass).seen) (sym none) ∙ m.replays in
    let start : (know pass).seen ≡ now = cc in
    record {
      held = m.held;
      known = each_star_there (shown lent) m.stars (λ s there of.
          let x = some_of (know pass).items s.vertex (sym (m.held.each s.vertex) ∙ there) in
          (x.0, x.1, is_star now s of ∙ (ap (λ (k : ComplexView). star_in k s.vertex) (sym start) ∙ sym (pass.sees.stars s.vertex x.0 x.1).1)));
      slots = m.slots;
    }
