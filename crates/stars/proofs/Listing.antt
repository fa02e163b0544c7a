-- The list of a star's candidates after a change of its rows.
use Rattle.std.proofs.Common.{◌≡◌, inl, inr, ℕ, ◌+◌, ◌-◌, Bool, true, false, not, nat_eq, ◌||◌, ◌&&◌, List, [], ◌∷◌, ◌++◌, length, filter, sym, ◌∙◌, ap, refl, subst, arith}
use Rattle.std.specs.List.{AllByRecursion, list_any, flat_map}
use Rattle.std.specs.List.Sorted.{IsStrictlySortedBy}
use Rattle.std.specs.Ordering.{nat_cmp}
use Rattle.std.specs.Cmp.{first_so, second_so}
use Rattle.std.specs.Cmp.Derive.{both_true}
use Rattle.std.specs.Cmp.Lexicographic.{nat_list_cmp_total}
use Rattle.std.proofs.lemmas.List.Kept.{IsStrictlySortedBy-filter}
use Rattle.complex_core.specs.Labels.{has, holds, face_cmp}
use Rattle.complex_core.specs.Rising.{rising}
use Rattle.complex_core.specs.Complexes.{IsFacet, over, is_held}
use Rattle.complex_core.specs.Subsets.{subsets_of}
use Rattle.complex_core.proofs.Sets.{above_tail, sorted_rising}
use Rattle.complex_core.proofs.Laws.{both_ways, nat_eq_is, or_left, or_right, listed, listed-append, listed-filter, listed-rising, same_lists}
use Rattle.complex_core.proofs.Runs.{held_alike}
use Rattle.complex_core.proofs.SubsetLists.{two, clash, Chosen, chosen_is, chosen_from}
use Rattle.flip_rules.specs.Flips.{join_boundary, link_is, same_sets}
use Rattle.flip_rules.proofs.Links.{have_sides, are_sides, link_tested, sides_held}
use Rattle.complex_core.specs.Maps.{used}
use Rattle.complex_core.specs.Links.{less}
use Rattle.complex_core.proofs.SetLists.{listed-flat_map}
use Rattle.stars.specs.StarViews.{VertexStar, IsStar}
use Rattle.stars.specs.Candidates.{opposite, is_candidate, faces_at, candidate_faces}
use Rattle.stars.specs.CandidateLists.{candidates_within, not_within, list_after, ChangedWithin}

-- a candidate is seen in the rows over it
candidate_alike : (near rows : List (List ℕ)) (n : ℕ) (a : List ℕ) → over near a ≡ over rows a → is_candidate near n a ≡ is_candidate rows n a
candidate_alike near rows n a e = ap (λ fs. nat_eq (length (less (used fs) a)) n && same_sets fs (rising face_cmp (join_boundary a (less (used fs) a)))) e

-- ---- which faces a star has

-- n labels with p, rising, that lie in a row
pub record Stands (rows : List (List ℕ)) (p n : ℕ) (set : List ℕ) : Type 0 where
  pub rises : IsStrictlySortedBy nat_cmp set
  pub size : length set ≡ n
  pub vertex : has set p ≡ true
  pub held : is_held rows set ≡ true

abbrev in_row : ℕ → ℕ → List ℕ → List ℕ → Bool
in_row p n set row = listed (filter (λ s. has s p) (subsets_of n row)) set

row_of : (d p n : ℕ) (set row : List ℕ) → IsFacet d row → in_row p n set row ≡ true → Chosen n row set × (has set p ≡ true)
row_of d p n set row h t =
    let both : (listed (subsets_of n row) set && has set p) ≡ true = sym (listed-filter (λ s. has s p) (subsets_of n row) set) ∙ t in
    (chosen_is n row set (above_tail nat_cmp 0 row h.face.rising) (first_so (listed (subsets_of n row) set) (has set p) both), second_so (listed (subsets_of n row) set) (has set p) both)

some_row : (d p n : ℕ) (set : List ℕ) (rows : List (List ℕ)) → AllByRecursion (IsFacet d) rows → list_any (in_row p n set) rows ≡ true → Stands rows p n set
some_row d p n set [] h t = clash true refl (sym t)
some_row d p n set (row ∷ rows) h t = elim (two (in_row p n set row)) [
  | inl e ↦
      let c : Chosen n row set × (has set p ≡ true) = row_of d p n set row h.0 e in
      record { rises = c.0.rises; size = c.0.size; vertex = c.1; held = or_left (holds row set) (is_held rows set) c.0.part }
  | inr e ↦
      let c : Stands rows p n set = some_row d p n set rows h.1 (sym (ap (λ b. b || list_any (in_row p n set) rows) e) ∙ t) in
      record { rises = c.rises; size = c.size; vertex = c.vertex; held = or_right (holds row set) (is_held rows set) c.held }
]

in_some_row : (d p n : ℕ) (set : List ℕ) (rows : List (List ℕ)) → AllByRecursion (IsFacet d) rows → Stands rows p n set → list_any (in_row p n set) rows ≡ true
in_some_row d p n set [] h c = c.held
in_some_row d p n set (row ∷ rows) h c = elim (two (holds row set)) [
  | inl e ↦ or_left (in_row p n set row) (list_any (in_row p n set) rows)
      (listed-filter (λ s. has s p) (subsets_of n row) set
      ∙ both_true (chosen_from n row set (above_tail nat_cmp 0 row h.0.face.rising) (record { rises = c.rises; part = e; size = c.size })) c.vertex)
  | inr e ↦ or_right (in_row p n set row) (list_any (in_row p n set) rows)
      (in_some_row d p n set rows h.1 (record { rises = c.rises; size = c.size; vertex = c.vertex; held = sym (ap (λ b. b || is_held rows set) e) ∙ c.held }))
]

listed-faces_at : (rows : List (List ℕ)) (p n : ℕ) (set : List ℕ) → listed (faces_at rows p n) set ≡ list_any (in_row p n set) rows
unfolding faces_at
listed-faces_at rows p n set =
    listed-rising (flat_map (λ row. filter (λ s. has s p) (subsets_of n row)) rows) set ∙ listed-flat_map (λ row. filter (λ s. has s p) (subsets_of n row)) rows set

faces_rise : (rows : List (List ℕ)) (p n : ℕ) → IsStrictlySortedBy face_cmp (faces_at rows p n)
unfolding faces_at
faces_rise rows p n = sorted_rising nat_list_cmp_total (flat_map (λ row. filter (λ s. has s p) (subsets_of n row)) rows)

pub stands : (d : ℕ) (rows : List (List ℕ)) (p n : ℕ) (set : List ℕ) → AllByRecursion (IsFacet d) rows → listed (faces_at rows p n) set ≡ true → Stands rows p n set
stands d rows p n set h t = some_row d p n set rows h (sym (listed-faces_at rows p n set) ∙ t)

stands_from : (d : ℕ) (rows : List (List ℕ)) (p n : ℕ) (set : List ℕ) → AllByRecursion (IsFacet d) rows → Stands rows p n set → listed (faces_at rows p n) set ≡ true
stands_from d rows p n set h c = listed-faces_at rows p n set ∙ in_some_row d p n set rows h c

-- a candidate lies in a row
held_candidate : (rows : List (List ℕ)) (i : ℕ) (set : List ℕ) → IsStrictlySortedBy face_cmp rows → is_candidate rows (i + 1) set ≡ true → is_held rows set ≡ true
held_candidate rows i set r t =
    let b : List ℕ = opposite rows set in
    let size : length b ≡ i + 1 = nat_eq_is (length b) (i + 1) (first_so (nat_eq (length b) (i + 1)) (link_is rows set b) t) in
    let link : link_is rows set b ≡ true = second_so (nat_eq (length b) (i + 1)) (link_is rows set b) t in
    sides_held rows set b (omega (arith, size)) (first_so (have_sides rows (join_boundary set b)) (are_sides rows set (join_boundary set b)) (link_tested rows set b r ∙ link))

-- ---- members of the two lists

by_within : (new now old before within part : Bool) → (within ≡ true → (new && now) ≡ (part && now)) → (within ≡ false → (new && now) ≡ (old && before)) → (within ≡ false → part ≡ false) → (new && now) ≡ (((old && before) && not within) || (part && now))
by_within new now old before true part h g n = h refl ∙ sym (none_left (old && before) (part && now))
  where
    none_left : (x y : Bool) → ((x && false) || y) ≡ y
    none_left true y = refl
    none_left false y = refl
by_within new now old before false part h g n = g refl ∙ sym ((λ i. ((old && before) && true) || (n refl i && now)) ∙ all_left (old && before))
  where
    all_left : (x : Bool) → ((x && true) || false) ≡ x
    all_left true = refl
    all_left false = refl

-- the rows before and after, of which those over sets outside of some labels are the same
pub record Alike (d : ℕ) (labels : List ℕ) (now rows : List (List ℕ)) : Type 0 where
  pub labels_rise : IsStrictlySortedBy nat_cmp labels
  pub rise : IsStrictlySortedBy face_cmp now
  pub pure_now : AllByRecursion (IsFacet d) now
  pub pure : AllByRecursion (IsFacet d) rows
  pub stays : (set : List ℕ) → holds labels set ≡ false → over now set ≡ over rows set

module _ (d p n i : ℕ) (labels : List ℕ) (now rows : List (List ℕ)) (h : Alike d labels now rows) (f : List ℕ) where
  abbrev new_face : Bool
  new_face = listed (faces_at now p n) f

  abbrev old_face : Bool
  old_face = listed (faces_at rows p n) f

  abbrev part_face : Bool
  part_face = listed (subsets_of n labels) f && has f p

  abbrev is_now : Bool
  is_now = is_candidate now (i + 1) f

  abbrev was : Bool
  was = is_candidate rows (i + 1) f

  inside : holds labels f ≡ true → (new_face && is_now) ≡ (part_face && is_now)
  inside w = both_ways (new_face && is_now) (part_face && is_now)
      (λ t.
      let c : Stands now p n f = stands d now p n f h.pure_now (first_so new_face is_now t) in
      both_true (both_true (chosen_from n labels f h.labels_rise (record { rises = c.rises; part = w; size = c.size })) c.vertex) (second_so new_face is_now t))
      (λ t.
      let part : part_face ≡ true = first_so part_face is_now t in
      let cand : is_now ≡ true = second_so part_face is_now t in
      let c : Chosen n labels f = chosen_is n labels f h.labels_rise (first_so (listed (subsets_of n labels) f) (has f p) part) in
      both_true (stands_from d now p n f h.pure_now (record { rises = c.rises; size = c.size; vertex = second_so (listed (subsets_of n labels) f) (has f p) part; held = held_candidate now i f h.rise cand })) cand)

  outside : holds labels f ≡ false → (new_face && is_now) ≡ (old_face && was)
  outside w =
      let e : over now f ≡ over rows f = h.stays f w in
      let held : is_held now f ≡ is_held rows f = held_alike now rows f e in
      let faces : new_face ≡ old_face = both_ways new_face old_face
      (λ t. let c : Stands now p n f = stands d now p n f h.pure_now t in stands_from d rows p n f h.pure (record { rises = c.rises; size = c.size; vertex = c.vertex; held = sym held ∙ c.held }))
      (λ t. let c : Stands rows p n f = stands d rows p n f h.pure t in stands_from d now p n f h.pure_now (record { rises = c.rises; size = c.size; vertex = c.vertex; held = held ∙ c.held })) in
      λ j. faces j && candidate_alike now rows (i + 1) f e j

  no_part : holds labels f ≡ false → part_face ≡ false
  no_part w = elim (two part_face) [
    | inl t ↦ clash (holds labels f) (chosen_is n labels f h.labels_rise (first_so (listed (subsets_of n labels) f) (has f p) t)).part w
    | inr e ↦ e
  ]

  pub member_after : (new_face && is_now) ≡ (((old_face && was) && not (holds labels f)) || (part_face && is_now))
  member_after = by_within new_face is_now old_face was (holds labels f) part_face inside outside no_part

-- ---- the two lists

pub listed_after : (s now : VertexStar) (i : ℕ) (labels : List ℕ) → now.vertex ≡ s.vertex → now.dim ≡ s.dim → Alike s.dim labels now.rows s.rows → candidate_faces now i ≡ list_after (candidate_faces s i) now i labels
unfolding candidate_faces candidates_within
listed_after s now i labels v e h =
    let n : ℕ = now.dim + 1 - i in
    let olds : List (List ℕ) = filter (is_candidate s.rows (i + 1)) (faces_at s.rows s.vertex (s.dim + 1 - i)) in
    let news : List (List ℕ) = filter (is_candidate now.rows (i + 1)) (filter (λ f. has f now.vertex) (subsets_of n labels)) in
    let same : olds ≡ filter (is_candidate s.rows (i + 1)) (faces_at s.rows now.vertex n) = λ j. filter (is_candidate s.rows (i + 1)) (faces_at s.rows (sym v j) (sym e j + 1 - i)) in
    same_lists (filter (is_candidate now.rows (i + 1)) (faces_at now.rows now.vertex n)) (list_after olds now i labels)
    (IsStrictlySortedBy-filter face_cmp (is_candidate now.rows (i + 1)) (faces_at now.rows now.vertex n) (faces_rise now.rows now.vertex n))
    (sorted_rising nat_list_cmp_total (not_within labels olds ++ news))
    (λ f.
    listed-filter (is_candidate now.rows (i + 1)) (faces_at now.rows now.vertex n) f
    ∙ member_after s.dim now.vertex n i labels now.rows s.rows h f
    ∙ sym (listed-rising (not_within labels olds ++ news) f
    ∙ listed-append (not_within labels olds) news f
    ∙ (λ j. (listed-filter (λ g. not (holds labels g)) olds f
    ∙ ap (λ c. c && not (holds labels f)) (ap (λ fs. listed fs f) same ∙ listed-filter (is_candidate s.rows (i + 1)) (faces_at s.rows now.vertex n) f)) j
    || (listed-filter (is_candidate now.rows (i + 1)) (filter (λ g. has g now.vertex) (subsets_of n labels)) f
    ∙ ap (λ c. c && is_candidate now.rows (i + 1) f) (listed-filter (λ g. has g now.vertex) (subsets_of n labels) f)) j)))

-- the list of a star that changed within some labels
pub kept_up : (old now : VertexStar) (i : ℕ) (labels : List ℕ) (list made : List (List ℕ)) → IsStar old → IsStar now → IsStrictlySortedBy nat_cmp labels → ChangedWithin labels old now → list ≡ candidate_faces old i → made ≡ list_after list now i labels → made ≡ candidate_faces now i
kept_up old now i labels list made h g r c is e =
    e
    ∙ ap (λ fs. list_after fs now i labels) is
    ∙ sym (listed_after old now i labels c.vertex c.dim (record {
      labels_rise = r;
      rise = g.rising;
      pure_now = (let P : ℕ → Type 0 = λ d. AllByRecursion (IsFacet d) now.rows in subst P c.dim g.pure);
      pure = h.pure;
      stays = c.rest;
    }))

-- it rises
pub list_rises : (s : VertexStar) (i : ℕ) → IsStrictlySortedBy face_cmp (candidate_faces s i)
unfolding candidate_faces
list_rises s i = IsStrictlySortedBy-filter face_cmp (is_candidate s.rows (i + 1)) (faces_at s.rows s.vertex (s.dim + 1 - i)) (faces_rise s.rows s.vertex (s.dim + 1 - i))
