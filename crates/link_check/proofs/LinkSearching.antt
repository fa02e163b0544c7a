-- Searches of the links of all vertices: what is known so far, and a link of dimension 0.
use Rattle.std.proofs.Common.{◌≡◌, ℕ, suc, ◌+◌, ◌<◌, ◌≤◌, Bool, true, false, not, nat_eq, cond, ◌||◌, List, [], ◌∷◌, ◌++◌, length, length-append, map, take, drop, get_or, Result, Ok, Err, IfOk, sym, ◌∙◌, ap, refl, subst, arith, inl, inr}
use Rattle.std.specs.Prelude.{◌↔◌, slice_index}
use Rattle.std.specs.List.{AllByRecursion, flat_map}
use Rattle.std.specs.List.Sorted.{IsStrictlySortedBy}
use Rattle.std.specs.Ordering.{nat_cmp, ordering_then, match_ordering}
use Rattle.std.specs.Cmp.Lexicographic.{pointwise}
use Rattle.std.specs.Global.{Vec}
use Rattle.std.specs.declared.cmp.Ordering.TheVariants.{Less, Equal, Greater}
use Rattle.std.proofs.lemmas.Cmp.{nat_cmp_total}
use Rattle.complex_core.specs.Labels.{IsFace, has, holds, with, without, face_cmp}
use Rattle.complex_core.specs.Rising.{rising}
use Rattle.complex_core.specs.Complexes.{ComplexView, IsComplex, IsFacet, over}
use Rattle.complex_core.specs.Maps.{used}
use Rattle.complex_core.proofs.Sets.{above_head, above_tail, above_cons, sorted_none, sorted_front, sorted_rising}
use Rattle.complex_core.proofs.Faces.{cmp_greater, less_cmp, cmp_less}
use Rattle.complex_core.proofs.Laws.{nat_eq_is, nat_eq_same, same_set_itself, listed, or_left, or_right}
use Rattle.complex_core.proofs.Members.{has_snoc, each_push, each_member, label_low, taken_more, without_has}
use Rattle.complex_core.proofs.SubsetLists.{two, clash, above_at}
use Rattle.complex_core.proofs.SetLists.{found_set, used_label}
use Rattle.complex_core.proofs.Booleans.{left_off, right_off}
use Rattle.std.specs.Cmp.{first_so}
use Rattle.flip_rules.specs.Boundaries.{IsBoundary}
use Rattle.flip_rules.specs.declared.flip.Flip.{Flip}
use Rattle.pseudo_test.specs.Ridges.{Closed}
use Rattle.sphere_search.specs.Searches.{UsesAtMost, ShowsSphere, Answers}
use Rattle.sphere_search.proofs.Labels.{all_below, labels_are_few}
use Rattle.sphere_search.specs.declared.search.Searched.{Searched}
use Rattle.sphere_search.specs.declared.search.Searched.TheVariants.{Found, Gave}
use Rattle.link_check.specs.declared.link_search.Links.{Links}
use Rattle.link_check.specs.declared.link_search.Links.TheVariants.{Manifold, Open}
use Rattle.link_check.specs.Vertices.{vertex_link}
use Rattle.link_check.proofs.Vertices.{from_facet, has_used, vertex_has, link_closed}
use Rattle.link_check.proofs.Flagged.{rising_flags}
use Rattle.link_check.specs.Flags.{flag_cmp, flags_of, flags, flags_at}
use Rattle.link_check.specs.Sizes.{AreFlagsAt}
use Rattle.complex_core.specs.Links.{link}
use Rattle.std.proofs.lemmas.List.{take-append-drop}
use Rattle.std.proofs.lemmas.List.Folds.{list_any_at}
use Rattle.link_check.specs.LinkSearches.{HasFlags, ShowsLink, ShowsLinks, LeavesOpen, LinksAre, all_quits, flips_of, Files, Ends}

-- ---- a link of dimension 0

nat_less : (x y : ℕ) → face_cmp (x ∷ []) (y ∷ []) ≡ Less → nat_cmp x y ≡ Less
nat_less x y l =
    elim (nat_cmp x y) as (λ o. ordering_then o (face_cmp [] []) ≡ Less → o ≡ Less) [
      | Less ↦ λ _. refl
      | Equal ↦ λ g. let t : Equal ≡ Less = g in cc
      | Greater ↦ λ g. g
    ] l

-- two points are the boundary of an edge
two_points : (x y : ℕ) → 0 < x → x < y → ((x ∷ []) ∷ (y ∷ []) ∷ []) ≡ rising face_cmp (map (λ z. without (x ∷ y ∷ []) z) (x ∷ y ∷ []))
two_points x y low lt =
    let xx : nat_eq x x ≡ true = nat_eq_same x in
    let yy : nat_eq y y ≡ true = nat_eq_same y in
    let xy : nat_eq x y ≡ false = other x y lt in
    let yx : nat_eq y x ≡ false = another x y lt in
    let first : without (x ∷ y ∷ []) x ≡ y ∷ [] = (λ i. cond (not (xx i)) (x ∷ cond (not (yx i)) (y ∷ []) []) (cond (not (yx i)) (y ∷ []) [])) in
    let second : without (x ∷ y ∷ []) y ≡ x ∷ [] = (λ i. cond (not (xy i)) (x ∷ cond (not (yy i)) (y ∷ []) []) (cond (not (yy i)) (y ∷ []) [])) in
    let above : face_cmp (y ∷ []) (x ∷ []) ≡ Greater = ap (λ o. ordering_then o (face_cmp [] [])) (cmp_greater y x lt) in
    sym ((λ i. rising face_cmp (first i ∷ second i ∷ [])) ∙ ap (λ o. match_ordering o ((y ∷ []) ∷ (x ∷ []) ∷ []) ((x ∷ []) ∷ []) ((x ∷ []) ∷ (y ∷ []) ∷ [])) above)
  where
    other : (x y : ℕ) → x < y → nat_eq x y ≡ false
    other x y l = search (arith, l)

    another : (x y : ℕ) → x < y → nat_eq y x ≡ false
    another x y l = search (arith, l)

-- the points of a complex of dimension 0 are no more than its empty ridge has facets
points : (fs : List (List ℕ)) → length (over fs []) ≡ length fs
points [] = refl
points (f ∷ fs) = ap suc (points fs)

pub point_boundary : (k : ComplexView) → IsComplex k → k.dim ≡ 0 → Closed k.facets → IsBoundary k
point_boundary k c d closed = pair k.facets c.some c.rising c.pure (λ f t u. closed.two [] (record { facet = f; label = slice_index f 0; there = t; used = u.0; is = u.1 })) refl
  where
    one_label : (f : List ℕ) → IsFacet k.dim f → (x : ℕ) × (f ≡ x ∷ [])
    one_label [] h = absurd (omega (arith, h.size))
    one_label (x ∷ []) h = (x, refl)
    one_label (x ∷ y ∷ f) h = absurd (omega (arith, h.size, d))

    two_of : (f : List ℕ) (fs : List (List ℕ)) → AllByRecursion (IsFacet k.dim) (f ∷ fs) → ((g : List ℕ) → listed (f ∷ fs) g ≡ true → (has g (slice_index g 0) ≡ true) × ([] ≡ without g (slice_index g 0)) → length (over (f ∷ fs) []) ≡ 2) → length (f ∷ fs) ≡ 2
    two_of f fs pure two = sym (points (f ∷ fs)) ∙ two f (or_left (pointwise nat_eq f f) (listed fs f) (same_set_itself f)) (label_of f (one_label f pure.0))
      where
        label_of : (f : List ℕ) → (x : ℕ) × (f ≡ x ∷ []) → (has f (slice_index f 0) ≡ true) × ([] ≡ without f (slice_index f 0))
        label_of f x =
            let P : List ℕ → Type 0 = λ s. (has s (slice_index s 0) ≡ true) × ([] ≡ without s (slice_index s 0)) in
            subst P (sym x.1) (or_left (nat_eq x.0 x.0) false (nat_eq_same x.0), sym (ap (λ b. cond (not b) (x.0 ∷ []) []) (nat_eq_same x.0)))

    pair : (fs : List (List ℕ)) → 0 < length fs → IsStrictlySortedBy face_cmp fs → AllByRecursion (IsFacet k.dim) fs → ((f : List ℕ) → listed fs f ≡ true → (has f (slice_index f 0) ≡ true) × ([] ≡ without f (slice_index f 0)) → length (over fs []) ≡ 2) → k.facets ≡ fs → IsBoundary k
    pair [] some rises pure two e = absurd (omega (arith, some))
    pair (f ∷ []) some rises pure two e = absurd (omega (arith, two_of f [] pure two))
    pair (f ∷ g ∷ []) some rises pure two e =
        let x : (x : ℕ) × (f ≡ x ∷ []) = one_label f pure.0 in
        let y : (y : ℕ) × (g ≡ y ∷ []) = one_label g pure.1.0 in
        let low : 0 < x.0 = let face : IsFace (x.0 ∷ []) = let P : List ℕ → Type 0 = λ s. IsFace s in subst P x.1 pure.0.face in less_cmp 0 x.0 (above_head nat_cmp 0 (x.0 ∷ []) face.rising).0 in
        let lt : nat_cmp x.0 y.0 ≡ Less = nat_less x.0 y.0 ((λ i. face_cmp (sym x.1 i) (sym y.1 i)) ∙ (above_head face_cmp f (g ∷ []) rises).0) in (
          x.0 ∷ y.0 ∷ [],
          record {
            rises = above_cons nat_cmp 0 (x.0 ∷ y.0 ∷ []) (cmp_less 0 x.0 low, (cmp_less 0 y.0 (omega (arith, low, less_cmp x.0 y.0 lt)), tt)) (above_cons nat_cmp x.0 (y.0 ∷ []) (lt, tt) (above_cons nat_cmp y.0 [] tt (sorted_none nat_cmp)));
            many = omega (arith, d);
            all = e ∙ (λ i. x.1 i ∷ y.1 i ∷ []) ∙ two_points x.0 y.0 low (less_cmp x.0 y.0 lt);
          },
        )
    pair (f ∷ g ∷ h ∷ fs) some rises pure two e = absurd (omega (arith, two_of f (g ∷ h ∷ fs) pure two))

pub points_show : (k : ComplexView) → IsComplex k → k.dim ≡ 0 → Closed k.facets → ShowsSphere k []
points_show k c d closed = record {
  faces = tt;
  leads = record { end = k; replays = refl; boundary = point_boundary k c d closed };
  few = omega arith;
  labels = tt;
}

-- ---- what is known of one vertex

member_is : (P : ℕ → Type 0) (xs : List ℕ) (x : ℕ) → AllByRecursion P xs → has xs x ≡ true → P x
member_is P [] x h t = clash true refl (sym t)
member_is P (y ∷ ys) x h t = elim (two (nat_eq y x)) [
  | inl e ↦ subst P (nat_eq_is y x e) h.0
  | inr e ↦ member_is P ys x h.1 (sym (ap (λ b. b || has ys x) e) ∙ t)
]

-- the labels of a link are labels of the complex
pub link_labels : (k : ComplexView) (v n : ℕ) → IsComplex k → UsesAtMost n k → UsesAtMost n (vertex_link k v)
link_labels k v n c h = each_member (λ x. x ≤ n) (used (vertex_link k v).facets) (λ x t. member_is (λ y. y ≤ n) (used k.facets) x h (used_too x t))
  where
    used_too : (x : ℕ) → has (used (vertex_link k v).facets) x ≡ true → has (used k.facets) x ≡ true
    used_too x t =
        let g : (g : List ℕ) × (listed (vertex_link k v).facets g ≡ true) × (holds g (x ∷ []) ≡ true) = found_set (λ g. holds g (x ∷ [])) (vertex_link k v).facets (sym (has_used (vertex_link k v).facets x) ∙ t) in
        let f : (f : List ℕ) × (listed k.facets f ≡ true) × (has f v ≡ true) × (g.0 ≡ without f v) = from_facet k c v g.0 g.1 in
        used_label k.facets f.0 x f.1 (without_has f.0 v x (ap (λ s. has s x) (sym f.3) ∙ first_so (has g.0 x) true g.2))

shows_link : (k : ComplexView) (v : ℕ) (flips : List Flip) → IsComplex k → UsesAtMost 60000 k → ShowsSphere (vertex_link k v) flips → ShowsLink k v flips
shows_link k v flips c h s = record {
  faces = s.faces;
  leads = s.leads;
  few = s.few;
  labels = labels_are_few 60001 (vertex_link k v) flips (all_below 60000 60001 (used (vertex_link k v).facets) (omega arith) (link_labels k v 60000 c h)) s;
}

-- ---- what is known of the vertices so far

pub record SoFar {R : Type 0} (k : ComplexView) (spends spends_now : ComplexView → R → Type 0) (quits : R → ℕ → ℕ) (count count_now : ℕ → ℕ) (done : List ℕ) (lists : List (ℕ × Vec Flip)) (left : List (ℕ × R)) : Type 0 where
  pub vertices : length left ≡ 0 → map (λ p. p.0) (map flips_of lists) ≡ done
  pub links : AllByRecursion (λ p. ShowsLink k p.0 p.1) (map flips_of lists)
  pub rising : IsStrictlySortedBy nat_cmp (map (λ p. p.0) left)
  pub within : AllByRecursion (λ p. has done p.0 ≡ true) left
  pub spent : AllByRecursion (λ p. spends (vertex_link k p.0) p.1) left
  pub others : (v : ℕ) → has done v ≡ true → has (map (λ p. p.0) left) v ≡ false → (flips : List Flip) × ShowsLink k v flips
  pub quit : (w : ℕ) → all_quits quits left w + count w ≤ count_now w
  pub same : (l : ComplexView) (r : R) → spends l r ↔ spends_now l r

pub begin_search : {R : Type 0} (k : ComplexView) (spends : ComplexView → R → Type 0) (quits : R → ℕ → ℕ) (count : ℕ → ℕ) (done : List ℕ) (lists : List (ℕ × Vec Flip)) (left : List (ℕ × R)) → done ≡ [] → lists ≡ [] → left ≡ [] → SoFar k spends spends quits count count done lists left
begin_search {R} k spends quits count done lists left a b d =
    let P : List ℕ → List (ℕ × Vec Flip) → List (ℕ × R) → Type 0 = λ ds ls os. SoFar k spends spends quits count count ds ls os in
    let start : P [] [] [] = record {
      vertices = λ _. refl;
      links = tt;
      rising = sorted_none nat_cmp;
      within = tt;
      spent = tt;
      others = λ v t _. clash true refl (sym t);
      quit = λ w. omega arith;
      same = λ l r. (λ h. h, λ h. h);
    } in
    subst (λ (ds : List ℕ). P ds lists left) (sym a) (subst (λ (ls : List (ℕ × Vec Flip)). P [] ls left) (sym b) (subst (λ (os : List (ℕ × R)). P [] [] os) (sym d) start))

map_snoc : {X Y : Type 0} (h : X → Y) (xs : List X) (x : X) → map h (xs ++ x ∷ []) ≡ map h xs ++ h x ∷ []
map_snoc h [] x = refl
map_snoc h (y ∷ xs) x = ap (λ ys. h y ∷ ys) (map_snoc h xs x)

sorted_snoc : (xs : List ℕ) (v : ℕ) → IsStrictlySortedBy nat_cmp xs → ((u : ℕ) → has xs u ≡ true → nat_cmp u v ≡ Less) → IsStrictlySortedBy nat_cmp (xs ++ v ∷ [])
sorted_snoc [] v s h = above_cons nat_cmp v [] tt (sorted_none nat_cmp)
sorted_snoc (x ∷ xs) v s h =
    above_cons nat_cmp x (xs ++ v ∷ []) (each_push (λ y. nat_cmp x y ≡ Less) xs v (above_head nat_cmp x xs s) (h x (or_left (nat_eq x x) (has xs x) (nat_eq_same x))))
    (sorted_snoc xs v (above_tail nat_cmp x xs s) (λ u t. h u (or_right (nat_eq x u) (has xs u) t)))

less_last : (done : List ℕ) (v u : ℕ) → IsStrictlySortedBy nat_cmp (done ++ v ∷ []) → has done u ≡ true → nat_cmp u v ≡ Less
less_last [] v u s t = clash true refl (sym t)
less_last (x ∷ done) v u s t = elim (two (nat_eq x u)) [
  | inl e ↦ ap (λ y. nat_cmp y v) (sym (nat_eq_is x u e)) ∙ above_at x v (done ++ v ∷ []) (above_head nat_cmp x (done ++ v ∷ []) s) (has_snoc done v v ∙ or_right (has done v) (nat_eq v v) (nat_eq_same v))
  | inr e ↦ less_last done v u (above_tail nat_cmp x (done ++ v ∷ []) s) (sym (ap (λ b. b || has done u) e) ∙ t)
]

widen : {R : Type 0} (done : List ℕ) (v : ℕ) (left : List (ℕ × R)) → AllByRecursion (λ p. has done p.0 ≡ true) left → AllByRecursion (λ p. has (done ++ v ∷ []) p.0 ≡ true) left
widen done v [] h = tt
widen done v (p ∷ left) h = (has_snoc done v p.0 ∙ or_left (has done p.0) (nat_eq v p.0) h.0, widen done v left h.1)

of_left : {R : Type 0} (done : List ℕ) (left : List (ℕ × R)) (u : ℕ) → AllByRecursion (λ p. has done p.0 ≡ true) left → has (map (λ p. p.0) left) u ≡ true → has done u ≡ true
of_left done [] u h t = clash true refl (sym t)
of_left done (p ∷ left) u h t = elim (two (nat_eq p.0 u)) [
  | inl e ↦ ap (has done) (sym (nat_eq_is p.0 u e)) ∙ h.0
  | inr e ↦ of_left done left u h.1 (sym (ap (λ b. b || has (map (λ q. q.0) left) u) e) ∙ t)
]

pub quits_snoc : {R : Type 0} (quits : R → ℕ → ℕ) (left : List (ℕ × R)) (p : ℕ × R) (w : ℕ) → all_quits quits (left ++ p ∷ []) w ≡ all_quits quits left w + quits p.1 w
quits_snoc quits [] p w = omega arith
quits_snoc quits (q ∷ left) p w = omega (arith, quits_snoc quits left p w)

-- one vertex more
pub next_link : {R : Type 0} (k : ComplexView) (spends spends_now spends_then : ComplexView → R → Type 0) (quits : R → ℕ → ℕ) (count count_now count_then : ℕ → ℕ) (done : List ℕ) (lists now_lists : List (ℕ × Vec Flip)) (left now_left : List (ℕ × R)) (v : ℕ) (l : ComplexView) (searched : Searched R)
    → IsComplex k → UsesAtMost 60000 k → IsStrictlySortedBy nat_cmp (done ++ v ∷ []) → l ≡ vertex_link k v → SoFar k spends spends_now quits count count_now done lists left
    → Answers (ShowsSphere l) (spends_now l) searched → Answers (λ _. Unit {0}) (λ r. (w : ℕ) → quits r w + count_now w ≤ count_then w) searched → ((m : ComplexView) (r : R) → spends_now m r ↔ spends_then m r) → ((w : ℕ) → count_now w ≤ count_then w)
    → Files v searched lists now_lists left now_left → SoFar k spends spends_then quits count count_then (done ++ v ∷ []) now_lists now_left
next_link {R} k spends spends_now spends_then quits count count_now count_then done lists now_lists left now_left v l (Found flips) c small rises e h shown gave same grows filed =
    let P : List (ℕ × Vec Flip) → List (ℕ × R) → Type 0 = λ ls os. SoFar k spends spends_then quits count count_then (done ++ v ∷ []) ls os in
    let here : ShowsLink k v flips.items = shows_link k v flips.items c small (let Q : ComplexView → Type 0 = λ m. ShowsSphere m flips.items in subst Q e shown) in
    let grown : P (lists ++ (v, flips) ∷ []) left = record {
      vertices = λ none. ap (map (λ p. p.0)) (map_snoc flips_of lists (v, flips)) ∙ map_snoc (λ p. p.0) (map flips_of lists) (v, flips.items) ∙ ap (λ vs. vs ++ v ∷ []) (h.vertices none);
      links = let Q : List (ℕ × List Flip) → Type 0 = λ ps. AllByRecursion (λ p. ShowsLink k p.0 p.1) ps in subst Q (sym (map_snoc flips_of lists (v, flips))) (each_push (λ p. ShowsLink k p.0 p.1) (map flips_of lists) (v, flips.items) h.links here);
      rising = h.rising;
      within = widen done v left h.within;
      spent = h.spent;
      others = λ u t out. elim (two (has done u)) [
        | inl d ↦ h.others u d out
        | inr d ↦
            let same_label : v ≡ u = nat_eq_is v u (sym (ap (λ b. b || nat_eq v u) d) ∙ sym (has_snoc done v u) ∙ t) in
            let Q : ℕ → Type 0 = λ x. ShowsLink k x flips.items in (flips.items, subst Q same_label here)
      ];
      quit = λ w. omega (arith, h.quit w, grows w);
      same = λ m r. (λ s. (same m r).0 ((h.same m r).0 s), λ s. (h.same m r).1 ((same m r).1 s));
    } in
    subst (λ (ls : List (ℕ × Vec Flip)). P ls now_left) (sym filed.0) (subst (λ (os : List (ℕ × R)). P (lists ++ (v, flips) ∷ []) os) (sym filed.1) grown)
next_link {R} k spends spends_now spends_then quits count count_now count_then done lists now_lists left now_left v l (Gave r) c small rises e h shown gave same grows filed =
    let P : List (ℕ × Vec Flip) → List (ℕ × R) → Type 0 = λ ls os. SoFar k spends spends_then quits count count_then (done ++ v ∷ []) ls os in
    let firsts : map (λ p. p.0) (left ++ (v, r) ∷ []) ≡ map (λ p. p.0) left ++ v ∷ [] = map_snoc (λ p. p.0) left (v, r) in
    let grown : P lists (left ++ (v, r) ∷ []) = record {
      vertices = λ none. absurd (omega (arith, none, length-append left ((v, r) ∷ [])));
      links = h.links;
      rising = let Q : List ℕ → Type 0 = λ vs. IsStrictlySortedBy nat_cmp vs in subst Q (sym firsts) (sorted_snoc (map (λ p. p.0) left) v h.rising (λ u t. less_last done v u rises (of_left done left u h.within t)));
      within = each_push (λ p. has (done ++ v ∷ []) p.0 ≡ true) left (v, r) (widen done v left h.within) (has_snoc done v v ∙ or_right (has done v) (nat_eq v v) (nat_eq_same v));
      spent = each_push (λ p. spends (vertex_link k p.0) p.1) left (v, r) h.spent (let Q : ComplexView → Type 0 = λ m. spends_now m r in (h.same (vertex_link k v) r).1 (subst Q e shown));
      others = λ u t out.
          let apart : (has (map (λ p. p.0) left) u || nat_eq v u) ≡ false = sym (has_snoc (map (λ p. p.0) left) v u) ∙ ap (λ vs. has vs u) (sym firsts) ∙ out in
          let other : nat_eq v u ≡ false = right_off (has (map (λ p. p.0) left) u) (nat_eq v u) apart in
          h.others u (one_of (has done u) (nat_eq v u) other (sym (has_snoc done v u) ∙ t)) (left_off (has (map (λ p. p.0) left) u) (nat_eq v u) apart);
      quit = λ w. omega (arith, h.quit w, gave w, quits_snoc quits left (v, r) w);
      same = λ m r. (λ s. (same m r).0 ((h.same m r).0 s), λ s. (h.same m r).1 ((same m r).1 s));
    } in
    subst (λ (ls : List (ℕ × Vec Flip)). P ls now_left) (sym filed.0) (subst (λ (os : List (ℕ × R)). P lists os) (sym filed.1) grown)
  where
    one_of : (a b : Bool) → b ≡ false → (a || b) ≡ true → a ≡ true
    one_of true b f t = refl
    one_of false b f t = clash b t f

-- all vertices
pub end_search : {R : Type 0} (k : ComplexView) (spends spends_now : ComplexView → R → Type 0) (quits : R → ℕ → ℕ) (count count_now : ℕ → ℕ) (done : List ℕ) (lists : List (ℕ × Vec Flip)) (left : List (ℕ × R)) (links : Links R)
    → done ≡ used k.facets → SoFar k spends spends_now quits count count_now done lists left → Ends lists left links → LinksAre (ShowsLinks k) (LeavesOpen k spends) links
end_search {R} k spends spends_now quits count count_now done lists left (Manifold shown) all h e =
    let P : List (ℕ × Vec Flip) → Type 0 = λ ls. ShowsLinks k (map flips_of ls) in
    subst P (sym e.0) (record { vertices = h.vertices e.1 ∙ all; links = h.links })
end_search {R} k spends spends_now quits count count_now done lists left (Open records) all h e =
    let P : List (ℕ × R) → Type 0 = λ os. LeavesOpen k spends os in
    let Q : List ℕ → Type 0 = λ vs. AllByRecursion (λ p. has vs p.0 ≡ true) left in
    subst P (sym e.0) (record {
      some = e.1;
      rising = h.rising;
      vertices = subst Q all h.within;
      spent = h.spent;
      others = λ v t out. h.others v (ap (λ vs. has vs v) all ∙ t) out;
    })

-- ---- the link of a vertex, by the flags of all vertices

pub vertex_fits : (k : ComplexView) (v : ℕ) (all : List (List ℕ × List ℕ)) (none : List ℕ) → HasFlags k v all → none ≡ [] → (0 < v) × (length (with none v) ≤ 8)
vertex_fits k v all none a e = (label_low (v ∷ []) v a.has.labels (or_left (nat_eq v v) false (nat_eq_same v)), omega (arith, ap (λ s. length (with s v)) e))

pub vertex_flags_rise : (k : ComplexView) (v : ℕ) (all : List (List ℕ × List ℕ)) → HasFlags k v all → IsStrictlySortedBy flag_cmp all
vertex_flags_rise k v all a = rising_flags (flat_map (flags_of 1) k.facets) all a.are

pub near_vertex : (k : ComplexView) (v : ℕ) (face : List ℕ) (near all : List (List ℕ × List ℕ)) → HasFlags k v all → face ≡ v ∷ [] → near ≡ flags_at all face → AreFlagsAt k face near
near_vertex k v face near all a e f =
    let P : List ℕ → Type 0 = λ s. near ≡ flags_at all s → AreFlagsAt k s near in
    let here : P (v ∷ []) = λ h. record { complex = a.complex; has = a.has; are = h ∙ ap (λ ps. flags_at ps (v ∷ [])) a.are } in
    subst P (sym e) here f

pub vertex_made : {E : Type 0} (v : ℕ) (face : List ℕ) (near all : List (List ℕ × List ℕ)) (r : Result ComplexView E) → face ≡ v ∷ [] → near ≡ flags_at all face → IfOk r (λ l. (k : ComplexView) → AreFlagsAt k face near → l ≡ link k face) → IfOk r (λ l. (k : ComplexView) → HasFlags k v all → l ≡ vertex_link k v)
vertex_made v face near all (Ok l) e f h = λ k a. h k (near_vertex k v face near all a e f) ∙ ap (link k) e
vertex_made v face near all (Err x) e f h = tt

-- a used label at a place, with its flags
pub has_flags : (k : ComplexView) (v i : ℕ) (vertices items : List ℕ) (all shown : List (List ℕ × List ℕ)) → IsComplex k → 0 < k.dim → vertices ≡ used k.facets → items ≡ vertices → i < length items → v ≡ get_or items i v → shown ≡ all → all ≡ flags 1 k.facets → HasFlags k v shown
has_flags k v i vertices items all shown c d e f l at g h = record {
  complex = c;
  has = vertex_has k v c (omega (arith, d)) (ap (λ xs. has xs v) (sym (f ∙ e)) ∙ list_any_at (λ y. nat_eq y v) items i v l (ap (λ y. nat_eq y v) (sym at) ∙ nat_eq_same v));
  are = g ∙ h;
}

-- the vertices up to a place, and one more, rise
pub rise_to : (k : ComplexView) (v i : ℕ) (items : List ℕ) → items ≡ used k.facets → i < length items → v ≡ get_or items i v → IsStrictlySortedBy nat_cmp (take i items ++ v ∷ [])
rise_to k v i items e l at =
    let P : List ℕ → Type 0 = λ xs. IsStrictlySortedBy nat_cmp xs in
    let whole : IsStrictlySortedBy nat_cmp items = subst P (sym e) (sorted_rising nat_cmp_total (flat_map (λ f. f) k.facets)) in
    subst P (taken_more items i v l at) (sorted_front nat_cmp (take (i + 1) items) (drop (i + 1) items) (subst P (sym (take-append-drop (i + 1) items)) whole))

-- the link of a vertex can be searched
pub link_is_closed : (k l : ComplexView) (v : ℕ) → IsComplex k → Closed k.facets → l ≡ vertex_link k v → Closed l.facets
link_is_closed k l v c closed e = let P : ComplexView → Type 0 = λ m. Closed m.facets in subst P (sym e) (link_closed k c v closed)

pub link_is_small : (k l : ComplexView) (v : ℕ) → IsComplex k → UsesAtMost 60000 k → l ≡ vertex_link k v → UsesAtMost 60000 l
link_is_small k l v c h e = let P : ComplexView → Type 0 = λ m. UsesAtMost 60000 m in subst P (sym e) (link_labels k v 60000 c h)
