-- A face with one label more, and then with the labels behind it.
use Rattle.std.proofs.Common.{◌≡◌, ℕ, zero, suc, ◌+◌, ◌-◌, ◌*◌, ◌^◌, ◌<◌, ◌≤◌, ◌≢◌, true, false, Bool, if◌then◌else◌, Option, Some, None, List, [], ◌∷◌, ◌++◌, length, filter, fold, sym, ◌∙◌, ap, refl, subst, arith, length-append}
use Rattle.std.specs.List.{AllByRecursion, flat_map, cons_option}
use Rattle.std.specs.List.Sorted.{IsStrictlySortedBy}
use Rattle.std.specs.Option.{SomeIff, IsSome}
use Rattle.std.specs.Ordering.{nat_cmp}
use Rattle.std.proofs.lemmas.List.Elements.{filter_map-append}
use Rattle.std.proofs.lemmas.List.Kept.{IsStrictlySortedBy-filter}
use Rattle.complex_core.specs.Labels.{has, holds, with, face_cmp}
use Rattle.complex_core.specs.Complexes.{over}
use Rattle.complex_core.proofs.Sets.{above_tail}
use Rattle.complex_core.proofs.Laws.{length_put_le}
use Rattle.flip_rules.specs.declared.flip.Flip.{Flip}
use Rattle.stars.specs.Candidates.{flip_at, faces_at}
use Rattle.anneal_plan.specs.Faces.{IsRow, AreRows, flips_at}
use Rattle.anneal_plan.specs.Growth.{next_labels, grown}
use Rattle.anneal_plan.specs.Nearest.{Next, nearest}
use Rattle.anneal_plan.specs.Paging.{Flips, no_flips, added, page_of}
use Rattle.anneal_plan.proofs.AllFaces.{few_faces}
use Rattle.anneal_plan.proofs.Nearing.{IsNearest, Leads, nearest_is, no_labels, label_first, label_above}
use Rattle.anneal_plan.proofs.Growing.{over_with, grown_alike, grown_flips}
use Rattle.anneal_plan.proofs.Pages.{fold-append, count-fold, paged}
use Rattle.complex_core.proofs.Sorting.{each_filter}
use Rattle.complex_core.proofs.SetLists.{over_twice}

-- ---- the facets that are kept for a label

abbrev pub Ordered : List (List ℕ) → Type 0
Ordered rows = IsStrictlySortedBy face_cmp rows

rises : (p : ℕ) (rows : List (List ℕ)) → AllByRecursion (IsRow p) rows → AllByRecursion (IsStrictlySortedBy nat_cmp) rows
rises p [] h = tt
rises p (r ∷ rows) h = (above_tail nat_cmp 0 r h.0.face.rising, rises p rows h.1)

-- ---- one label more

-- the flips of the faces with one label more, found among the facets that are kept for it, and then those of the labels behind it
pub record Splits (d p n last x : ℕ) (rows near : List (List ℕ)) (a more : List ℕ) : Type 0 where
  pub above : last < x
  pub ordered : Ordered near
  pub kept : AreRows p near
  pub fits : length more + (n - 1) ≤ 8
  pub all : flips_at d rows (grown rows p n last a) ≡ flips_at d near (grown near p (n - 1) x more) ++ flips_at d rows (grown rows p n x a)

-- what is kept are facets of the star, and all those over the face with the label
record Keeps (p x : ℕ) (rows near : List (List ℕ)) (a : List ℕ) : Type 0 where
  ordered : Ordered near
  kept : AreRows p near
  same : over near (with a x) ≡ over rows (with a x)

keeps : (p last x : ℕ) (rows : List (List ℕ)) (a : List ℕ) (s : Next) → AreRows p rows → Ordered rows → Leads (over rows a) p last x s → (whole : Bool) → s.whole ≡ whole → Keeps p x rows (if whole then s.rows else rows) a
keeps p last x rows a s h o l false w = record { ordered = o; kept = h; same = refl }
keeps p last x rows a s h o l true w =
    let is : filter (λ r. has r x) (over rows a) ≡ s.rows = sym (l.all w) in
    let P : List (List ℕ) → Type 0 = λ near. Keeps p x rows near a in
    subst P is (record {
      ordered = IsStrictlySortedBy-filter face_cmp (λ r. has r x) (over rows a) (IsStrictlySortedBy-filter face_cmp (λ r. holds r a) rows o);
      kept = (h.0, each_filter (IsRow p) (λ r. has r x) (over rows a) (each_filter (IsRow p) (λ r. holds r a) rows h.1));
      same = ap (λ near. over near (with a x)) (sym (over_with rows a x)) ∙ over_twice rows (with a x);
    })

one_more : (d p n last x : ℕ) (rows near : List (List ℕ)) (a : List ℕ) → n ≢ 0 → next_labels rows p last a ≡ x ∷ next_labels rows p x a → over near (with a x) ≡ over rows (with a x)
    → flips_at d rows (grown rows p n last a) ≡ flips_at d near (grown near p (n - 1) x (with a x)) ++ flips_at d rows (grown rows p n x a)
one_more d p zero last x rows near a some first e = absurd (some refl)
one_more d p (suc m) last x rows near a some first e =
    ap (λ ls. flips_at d rows (flat_map (λ y. grown rows p m y (with a y)) ls)) first
    ∙ filter_map-append (flip_at d rows) (grown rows p m x (with a x)) (grown rows p (suc m) x a)
    ∙ ap (λ fs. fs ++ flips_at d rows (grown rows p (suc m) x a)) (sym (grown_alike d near rows p m x (with a x) e))
    ∙ ap (λ k. flips_at d near (grown near p k x (with a x)) ++ flips_at d rows (grown rows p (suc m) x a)) (let k : m ≡ suc m - 1 = omega arith in k)

found_label : (p last x : ℕ) (rows : List (List ℕ)) (a : List ℕ) (s : Next) → AreRows p rows → s ≡ nearest rows p last a → Some x ≡ s.label → Leads (over rows a) p last x s
found_label p last x rows a s h is label =
    let P : Next → Type 0 = λ t. IsNearest (over rows a) p last t t.label in
    let Q : Option ℕ → Type 0 = λ l. IsNearest (over rows a) p last s l in
    subst Q (sym label) (subst P (sym is) (nearest_is rows p last a (rises p rows h.1)))

label_fits : (p n last x : ℕ) (rows : List (List ℕ)) (a : List ℕ) (s : Next) → AreRows p rows → n ≢ 0 → length a + n ≤ 8 → s ≡ nearest rows p last a → Some x ≡ s.label → (0 < x) × (length (with a x) ≤ 8)
label_fits p n last x rows a s h some small is label =
    let above : last < x = label_above (over rows a) p last x s (found_label p last x rows a s h is label) in
    (omega (arith, above), omega (arith, length_put_le x a, small, some))

pub some_is : {P : Type 0} (r : Option (List ℕ)) (v : List ℕ) → SomeIff r P v → P → r ≡ Some v
some_is None v s h = absurd (s h)
some_is (Some w) v s h = ap Some s.1

pub with_label : (p n last x : ℕ) (rows : List (List ℕ)) (a : List ℕ) (s : Next) (r : Option (List ℕ)) → AreRows p rows → n ≢ 0 → length a + n ≤ 8 → s ≡ nearest rows p last a → Some x ≡ s.label → SomeIff r ((0 < x) × (length (with a x) ≤ 8)) (with a x) → r ≡ Some (with a x)
with_label p n last x rows a s r h some small is label w = some_is r (with a x) w (label_fits p n last x rows a s h some small is label)

pub is_some_of : (r : Option (List ℕ)) (v : List ℕ) → r ≡ Some v → IsSome r
is_some_of None v e = cc
is_some_of (Some w) v e = refl

pub unwrapped : (P : Type 0) (r : Option (List ℕ)) (v w : List ℕ) → r ≡ Some w → SomeIff r P v → w ≡ v
unwrapped P None v w e s = cc
unwrapped P (Some u) v w e s = let is : u ≡ w = cc in sym is ∙ s.1

pub splits : (d p n last x : ℕ) (rows near : List (List ℕ)) (a more : List ℕ) (s : Next) → AreRows p rows → Ordered rows → n ≢ 0 → length a + n ≤ 8 → s ≡ nearest rows p last a → Some x ≡ s.label → near ≡ (if s.whole then s.rows else rows) → more ≡ with a x → Splits d p n last x rows near a more
splits d p n last x rows near a more s h o some small is label kept e =
    let found : Leads (over rows a) p last x s = found_label p last x rows a s h is label in
    let P : List (List ℕ) → Type 0 = λ rs. Keeps p x rows rs a in
    let q : Keeps p x rows near a = subst P (sym kept) (keeps p last x rows a s h o found s.whole refl) in
    record {
      above = label_above (over rows a) p last x s found;
      ordered = q.ordered;
      kept = q.kept;
      fits = omega (arith, ap length e, length_put_le x a, small, some);
      all = one_more d p n last x rows near a some (label_first rows p last x a s found) q.same ∙ ap (λ b. flips_at d near (grown near p (n - 1) x b) ++ flips_at d rows (grown rows p n x a)) (sym e);
    }

no_more : (d p n last : ℕ) (rows : List (List ℕ)) (a : List ℕ) → n ≢ 0 → next_labels rows p last a ≡ [] → flips_at d rows (grown rows p n last a) ≡ []
no_more d p zero last rows a some e = absurd (some refl)
no_more d p (suc m) last rows a some e = ap (λ ls. flips_at d rows (flat_map (λ y. grown rows p m y (with a y)) ls)) e

-- ---- in the loop over the labels

-- what the page becomes by all flips, from here
pub record Left (page start : Flips) (whole fs : List Flip) : Type 0 where
  pub all : fold added start whole ≡ fold added page fs
  pub few : page.count + length fs < 2 ^ 64

pub first_few : (page start : Flips) (all whole first rest : List Flip) → Left page start all whole → whole ≡ first ++ rest → page.count + length first < 2 ^ 64
first_few page start all whole first rest h e = omega (arith, h.few, ap length e, length-append first rest)

pub goes_on : (page next start : Flips) (all whole first rest : List Flip) → Left page start all whole → whole ≡ first ++ rest → next ≡ fold added page first → Left next start all rest
goes_on page next start all whole first rest h e is = record {
  all = h.all ∙ ap (fold added page) e ∙ fold-append page first rest ∙ ap (λ g. fold added g rest) (sym is);
  few = omega (arith, h.few, ap length e, length-append first rest, count-fold page first, ap (λ g. g.count) is);
}

pub ends : (d p n last : ℕ) (rows : List (List ℕ)) (a : List ℕ) (s : Next) (page start : Flips) (all : List Flip) → AreRows p rows → n ≢ 0 → s ≡ nearest rows p last a → None ≡ s.label → Left page start all (flips_at d rows (grown rows p n last a)) → page ≡ fold added start all
ends d p n last rows a s page start all h some is label left =
    let P : Next → Type 0 = λ t. IsNearest (over rows a) p last t t.label in
    let Q : Option ℕ → Type 0 = λ l. IsNearest (over rows a) p last s l in
    let found : IsNearest (over rows a) p last s None = subst Q (sym label) (subst P (sym is) (nearest_is rows p last a (rises p rows h.1))) in
    sym (left.all ∙ ap (fold added page) (no_more d p n last rows a some (no_labels rows p last a s found)))

-- ---- from the vertex

few_flips : (d : ℕ) (rows fs : List (List ℕ)) → length (flips_at d rows fs) ≤ length fs
few_flips d rows [] = omega arith
few_flips d rows (x ∷ xs) = one (flip_at d rows x) (few_flips d rows xs)
  where
    one : (o : Option Flip) → length (flips_at d rows xs) ≤ length xs → length (cons_option o (flips_at d rows xs)) ≤ length (x ∷ xs)
    one None h = omega (arith, h)
    one (Some f) h = omega (arith, h)

pub all_few : (d p others from : ℕ) (rows : List (List ℕ)) (a : List ℕ) (page : Flips) → AreRows p rows → a ≡ p ∷ [] → page ≡ no_flips from → page.count + length (flips_at d rows (grown rows p others 0 a)) ≤ 32 * length rows
all_few d p others from rows a page h e is =
    omega (
      arith,
      ap (λ g. g.count) is,
      ap length (ap (λ b. flips_at d rows (grown rows p others 0 b)) e ∙ grown_flips d rows p others h),
      few_flips d rows (faces_at rows p (others + 1)),
      few_faces rows p others h,
    )

pub all_paged : (d p others from : ℕ) (rows : List (List ℕ)) (a : List ℕ) (page end : Flips) → AreRows p rows → a ≡ p ∷ [] → page ≡ no_flips from → end ≡ fold added page (flips_at d rows (grown rows p others 0 a)) → end ≡ page_of (flips_at d rows (faces_at rows p (others + 1))) from
all_paged d p others from rows a page end h e is all =
    all
    ∙ (λ i. fold added (is i) (flips_at d rows (grown rows p others 0 (e i))))
    ∙ ap (fold added (no_flips from)) (grown_flips d rows p others h)
    ∙ paged from (flips_at d rows (faces_at rows p (others + 1)))
