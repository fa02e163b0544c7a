-- The stars of some labels changed one after another.
use Rattle.std.proofs.Common.{◌≡◌, ◌≢◌, ℕ, ◌<◌, ◌≤◌, true, false, cond, not, nat_eq, if◌then◌else◌, ◌||◌, ◌&&◌, List, [], ◌∷◌, ◌++◌, length, map, get_or, set, sym, ◌∙◌, ap, refl, subst, arith, eq-eqb}
use Rattle.std.specs.List.{AllByRecursion}
use Rattle.std.specs.List.Sorted.{IsStrictlySortedBy}
use Rattle.std.specs.Ordering.{nat_cmp}
use Rattle.std.specs.Cmp.{first_so, second_so}
use Rattle.std.specs.Cmp.Lexicographic.{nat_list_cmp_total}
use Rattle.std.proofs.Math.Seq.{map-set_same}
use Rattle.std.proofs.lemmas.Bool.{true≢false, ne_eqb}
use Rattle.std.proofs.lemmas.List.{same_lists, get_or-map, length-map, length-set, map-set, get_or-set_same, get_or-set_other, get_or_default}
use Rattle.complex_core.specs.Labels.{IsRising, has, holds, face_cmp}
use Rattle.complex_core.specs.Rising.{rising}
use Rattle.complex_core.specs.Complexes.{IsFacet, staying, is_facet}
use Rattle.complex_core.proofs.Sets.{above_head, above_tail, each_rising, sorted_rising}
use Rattle.complex_core.proofs.Sorting.{each_append, each_filter}
use Rattle.complex_core.proofs.Laws.{above_not, nat_eq_is, or_left, or_right}
use Rattle.star_laws.specs.Stars.{star}
use Rattle.stars.specs.StarViews.{VertexStar, KeptStar, IsStar, shown, rooms, vertices}
use Rattle.stars.specs.Changes.{star_changed, stars_changed, CanChange, HasRoom}
use Rattle.stars.proofs.Finding.{one_place, each_at, shown_at, length-shown}

-- the star of the first label is changed
pub changed_vertices : (near : List VertexStar) (i : ℕ) (s : VertexStar) (out more : List (List ℕ)) → s ≡ get_or near i s → vertices (set near i (star_changed out more s)) ≡ vertices near
changed_vertices near i s out more es = map-set_same (λ (t : VertexStar). t.vertex) near i (star_changed out more s) s (ap (λ (t : VertexStar). t.vertex) es)

changed_dims : (near : List VertexStar) (i : ℕ) (s : VertexStar) (out more : List (List ℕ)) → s ≡ get_or near i s → map (λ (t : VertexStar). t.dim) (set near i (star_changed out more s)) ≡ map (λ (t : VertexStar). t.dim) near
changed_dims near i s out more es = map-set_same (λ (t : VertexStar). t.dim) near i (star_changed out more s) s (ap (λ (t : VertexStar). t.dim) es)

-- then the others can be changed
others_can : (near : List VertexStar) (i x : ℕ) (s : VertexStar) (labels others : List ℕ) (out more : List (List ℕ)) → CanChange near labels more → labels ≡ x ∷ others → s ≡ get_or near i s → CanChange (set near i (star_changed out more s)) others more
others_can near i x s labels others out more can e es =
    let P : List ℕ → Type 0 = λ vs. IsRising vs in
    let Q : List ℕ → Type 0 = λ xs. IsStrictlySortedBy nat_cmp xs in
    let D : List ℕ → Type 0 = λ ds. AllByRecursion (λ d. AllByRecursion (IsFacet d) more) ds in
    let vs : vertices (set near i (star_changed out more s)) ≡ vertices near = changed_vertices near i s out more es in
    record {
      rising = subst P (sym vs) can.rising;
      labels_rise = above_tail nat_cmp x others (subst Q e can.labels_rise);
      held = ap (λ ys. holds ys others) vs ∙ second_so (has (vertices near) x) (holds (vertices near) others) (ap (holds (vertices near)) (sym e) ∙ can.held);
      few = can.few;
      pure = subst D (sym (changed_dims near i s out more es)) can.pure;
    }

pub first_held : (near : List VertexStar) (x : ℕ) (labels others : List ℕ) (more : List (List ℕ)) → CanChange near labels more → labels ≡ x ∷ others → has (vertices near) x ≡ true
first_held near x labels others more can e = first_so (has (vertices near) x) (holds (vertices near) others) (ap (holds (vertices near)) (sym e) ∙ can.held)

pub not_again : (near : List VertexStar) (x : ℕ) (labels others : List ℕ) (more : List (List ℕ)) → CanChange near labels more → labels ≡ x ∷ others → has others x ≡ false
not_again near x labels others more can e = let Q : List ℕ → Type 0 = λ xs. IsStrictlySortedBy nat_cmp xs in above_not x others (above_head nat_cmp x others (subst Q e can.labels_rise))

-- a star as the change has it
abbrev changed_if : List ℕ → List (List ℕ) → List (List ℕ) → VertexStar → VertexStar
changed_if labels out more s = if has labels s.vertex then star_changed out more s else s

pub length-changed : (near : List VertexStar) (labels : List ℕ) (out more : List (List ℕ)) → length (stars_changed near labels out more) ≡ length near
length-changed near labels out more = length-map near (changed_if labels out more)

pub changed_at : (near : List VertexStar) (labels : List ℕ) (out more : List (List ℕ)) (i : ℕ) (d : VertexStar) → i < length near → get_or (stars_changed near labels out more) i d ≡ changed_if labels out more (get_or near i d)
changed_at near labels out more i d l = get_or-map (changed_if labels out more) near i d d l

pub star_held : (fs : List (List ℕ)) (x : ℕ) → AllByRecursion (λ f. has f x ≡ true) (star fs x)
star_held [] x = tt
star_held (f ∷ fs) x =
    elim (has f x) as (λ b. has f x ≡ b → AllByRecursion (λ g. has g x ≡ true) (cond (b && true) (f ∷ star fs x) (star fs x))) [
      | true ↦ λ e. (e, star_held fs x)
      | false ↦ λ _. star_held fs x
    ] refl

-- what the rows become is a star
pub changed_is_star : (s : VertexStar) (out more : List (List ℕ)) → IsStar s → AllByRecursion (IsFacet s.dim) more → IsStar (star_changed out more s)
changed_is_star s out more h pure = record {
  vertex = h.vertex;
  low = h.low;
  rising = sorted_rising nat_list_cmp_total (staying s.rows out ++ star more s.vertex);
  pure = each_rising face_cmp (IsFacet s.dim) (staying s.rows out ++ star more s.vertex) (each_append (IsFacet s.dim) (staying s.rows out) (star more s.vertex) (each_filter (IsFacet s.dim) (λ f. not (is_facet out f)) s.rows h.pure) (each_filter (IsFacet s.dim) (λ f. holds f (s.vertex ∷ [])) more pure));
  held = each_rising face_cmp (λ f. has f s.vertex ≡ true) (staying s.rows out ++ star more s.vertex) (each_append (λ f. has f s.vertex ≡ true) (staying s.rows out) (star more s.vertex) (each_filter (λ f. has f s.vertex ≡ true) (λ f. not (is_facet out f)) s.rows h.held) (star_held more s.vertex));
}

-- the star as its rows become
pub changed_whole : (old : VertexStar) (rows taken here out more : List (List ℕ)) → rows ≡ rising face_cmp (taken ++ here) → taken ≡ staying old.rows out → here ≡ star more old.vertex → star_changed out more old ≡ record old { rows = rows }
changed_whole old rows taken here out more er et eh = λ i. record old { rows = sym (er ∙ (λ j. rising face_cmp (et j ++ eh j))) i }

-- the other labels are changed after the first one
others_changed : (near : List VertexStar) (i x : ℕ) (s : VertexStar) (labels others : List ℕ) (out more : List (List ℕ)) → CanChange near labels more → labels ≡ x ∷ others → i < length near → s ≡ get_or near i s → s.vertex ≡ x → stars_changed (set near i (star_changed out more s)) others out more ≡ stars_changed near labels out more
others_changed near i x s labels others out more can el l es ex =
    same_lists (stars_changed (set near i u) others out more) (stars_changed near labels out more) long each
  where
    u : VertexStar
    u = star_changed out more s

    n : has others x ≡ false
    n = not_again near x labels others more can el

    long : length (stars_changed (set near i (star_changed out more s)) others out more) ≡ length (stars_changed near labels out more)
    long = length-changed (set near i (star_changed out more s)) others out more ∙ length-set near i (star_changed out more s) ∙ sym (length-changed near labels out more)

    here : (d : VertexStar) → get_or (stars_changed (set near i (star_changed out more s)) others out more) i d ≡ get_or (stars_changed near labels out more) i d
    here d =
        changed_at (set near i (star_changed out more s)) others out more i d (omega (arith, l, length-set near i (star_changed out more s)))
        ∙ ap (changed_if others out more) (get_or-set_same near i (star_changed out more s) d l)
        ∙ ap (λ b. cond b (star_changed out more (star_changed out more s)) (star_changed out more s)) (ap (has others) ex ∙ n)
        ∙ sym (changed_at near labels out more i d l
        ∙ ap (changed_if labels out more) (get_or_default near i d s l ∙ sym es)
        ∙ ap (λ b. cond b (star_changed out more s) s) (ap (has labels) ex ∙ ap (λ xs. has xs x) el ∙ or_left (nat_eq x x) (has others x) (eq-eqb x x refl)))

    other : (k : ℕ) (d : VertexStar) → k ≢ i → k < length near → get_or (stars_changed (set near i (star_changed out more s)) others out more) k d ≡ get_or (stars_changed near labels out more) k d
    other k d ne lk =
        let t : VertexStar = get_or near k d in
        let apart : x ≢ t.vertex = λ e. ne (one_place near k i d can.rising lk l (sym e ∙ sym (ap (λ (r : VertexStar). r.vertex) (get_or_default near i d s l ∙ sym es) ∙ ex))) in
        changed_at (set near i (star_changed out more s)) others out more k d (omega (arith, lk, length-set near i (star_changed out more s)))
        ∙ ap (changed_if others out more) (get_or-set_other near i k (star_changed out more s) d ne)
        ∙ sym (changed_at near labels out more k d lk
        ∙ ap (λ b. cond b (star_changed out more t) t) (ap (λ xs. has xs t.vertex) el ∙ ap (λ b. b || has others t.vertex) (ne_eqb x t.vertex apart)))

    each : (k : ℕ) (d : VertexStar) → k < length (stars_changed (set near i (star_changed out more s)) others out more) → get_or (stars_changed (set near i (star_changed out more s)) others out more) k d ≡ get_or (stars_changed near labels out more) k d
    each k d lk =
        let inside : k < length near = omega (arith, lk, length-changed (set near i (star_changed out more s)) others out more, length-set near i (star_changed out more s)) in
        elim (nat_eq k i) as (λ b. nat_eq k i ≡ b → get_or (stars_changed (set near i (star_changed out more s)) others out more) k d ≡ get_or (stars_changed near labels out more) k d) [
          | true ↦ λ e. let g : k ≡ i = nat_eq_is k i e in let P : ℕ → Type 0 = λ m. get_or (stars_changed (set near i (star_changed out more s)) others out more) m d ≡ get_or (stars_changed near labels out more) m d in subst P (sym g) (here d)
          | false ↦ λ e. other k d (λ g. true≢false (sym (eq-eqb k i g) ∙ e)) inside
        ] refl

-- no label, no change
pub changed_none : (near : List VertexStar) (labels : List ℕ) (out more : List (List ℕ)) → labels ≡ [] → near ≡ stars_changed near labels out more
changed_none near labels out more e = sym (ap (λ xs. stars_changed near xs out more) e ∙ same near)
  where
    same : (near : List VertexStar) → stars_changed near [] out more ≡ near
    same [] = refl
    same (s ∷ near) = ap (λ xs. s ∷ xs) (same near)

-- an element that an index gave, as its own default
pub own : {X : Type 0} (xs : List X) (i : ℕ) (d : X) → i < length xs → get_or xs i d ≡ get_or xs i (get_or xs i d)
own xs i d l = get_or_default xs i d (get_or xs i d) l

pub nil_from : (xs : List ℕ) → length xs ≡ 0 → xs ≡ []
nil_from [] e = refl
nil_from (x ∷ xs) e = absurd (omega (arith, e))

pub pure_at : (near : List VertexStar) (labels : List ℕ) (more : List (List ℕ)) (i : ℕ) (d : VertexStar) → CanChange near labels more → i < length near → AllByRecursion (IsFacet (get_or near i d).dim) more
pure_at near labels more i d can l =
    let P : ℕ → Type 0 = λ n. AllByRecursion (IsFacet n) more in
    subst P (get_or-map (λ (t : VertexStar). t.dim) near i d 0 l) (each_at P (map (λ (t : VertexStar). t.dim) near) i 0 can.pure (omega (arith, l, length-map near (λ (t : VertexStar). t.dim))))

-- ---- with their rooms

-- the star of the first label, which is changed to u
pub record FirstChanged (near last : List KeptStar) (labels others : List ℕ) (out more : List (List ℕ)) : Type 0 where
  pub can : CanChange (shown last) others more
  pub room : HasRoom last others out more
  pub stars : stars_changed (shown last) others out more ≡ stars_changed (shown near) labels out more
  pub rooms : rooms last ≡ rooms near

pub first_changed : (near : List KeptStar) (i x : ℕ) (s u : KeptStar) (labels others : List ℕ) (out more : List (List ℕ)) → CanChange (shown near) labels more → HasRoom near labels out more → labels ≡ x ∷ others → i < length near → s ≡ get_or near i s → s.star.vertex ≡ x → u ≡ record { star = star_changed out more s.star; room = s.room } → FirstChanged near (set near i u) labels others out more
first_changed near i x s u labels others out more can room el l es ex eu = record {
  can = subst (λ ns. CanChange ns others more) (sym stars) (others_can (shown near) i x s.star labels others out more can el shown_is);
  room = λ k d lk t. fits k d (omega (arith, lk, length-set near i u)) t;
  stars = ap (λ ns. stars_changed ns others out more) stars ∙ others_changed (shown near) i x s.star labels others out more can el (omega (arith, l, length-shown near)) shown_is ex;
  rooms = map-set_same (λ (t : KeptStar). t.room) near i u s (ap (λ (t : KeptStar). t.room) (eu ∙ (λ j. record { star = star_changed out more (es j).star; room = (es j).room })));
}
  where
    shown_is : s.star ≡ get_or (shown near) i s.star
    shown_is = ap (λ (t : KeptStar). t.star) es ∙ sym (shown_at near i s s.star l)

    stars : shown (set near i u) ≡ set (shown near) i (star_changed out more s.star)
    stars = map-set (λ (t : KeptStar). t.star) near i u ∙ ap (λ (t : KeptStar). set (shown near) i t.star) eu

    n : has others x ≡ false
    n = not_again (shown near) x labels others more can el

    fits : (k : ℕ) (d : KeptStar) → k < length near → has others (get_or (set near i u) k d).star.vertex ≡ true → length (star_changed out more (get_or (set near i u) k d).star).rows ≤ (get_or (set near i u) k d).room
    fits k d lk =
        let P : KeptStar → Type 0 = λ r. has others r.star.vertex ≡ true → length (star_changed out more r.star).rows ≤ r.room in
        elim (nat_eq k i) as (λ b. nat_eq k i ≡ b → P (get_or (set near i u) k d)) [
          | true ↦ λ e. subst P (sym (ap (λ m. get_or (set near i u) m d) (nat_eq_is k i e) ∙ get_or-set_same near i u d l)) (λ t. absurd (true≢false (sym t ∙ ap (λ (r : KeptStar). has others r.star.vertex) eu ∙ ap (has others) ex ∙ n)))
          | false ↦ λ e. subst P (sym (get_or-set_other near i k u d (λ g. true≢false (sym (eq-eqb k i g) ∙ e)))) (λ t. room k d lk (ap (λ xs. has xs (get_or near k d).star.vertex) el ∙ or_right (nat_eq x (get_or near k d).star.vertex) (has others (get_or near k d).star.vertex) t))
        ] refl

-- what the star of the first label needs
pub first_pure : (near : List KeptStar) (i : ℕ) (d : KeptStar) (labels : List ℕ) (more : List (List ℕ)) → CanChange (shown near) labels more → i < length near → AllByRecursion (IsFacet (get_or near i d).star.dim) more
first_pure near i d labels more can l =
    let P : VertexStar → Type 0 = λ s. AllByRecursion (IsFacet s.dim) more in
    subst P (shown_at near i d d.star l) (pure_at (shown near) labels more i d.star can (omega (arith, l, length-shown near)))

pub first_room : (near : List KeptStar) (i x : ℕ) (d : KeptStar) (labels others : List ℕ) (out more : List (List ℕ)) → HasRoom near labels out more → labels ≡ x ∷ others → i < length near → (get_or near i d).star.vertex ≡ x → length (star_changed out more (get_or near i d).star).rows ≤ (get_or near i d).room
first_room near i x d labels others out more room el l ex = room i d l (ap (has labels) ex ∙ ap (λ xs. has xs x) el ∙ or_left (nat_eq x x) (has others x) (eq-eqb x x refl))
