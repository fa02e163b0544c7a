-- The lists of a manifold, one after another.
use Rattle.std.proofs.Common.{◌≡◌, ℕ, ◌+◌, ◌<◌, ◌≤◌, zero, suc, take, drop, get_or, Bool, true, false, ◌||◌, ◌&&◌, nat_eq, Option, Some, None, List, [], ◌∷◌, ◌++◌, length, map, sym, ◌∙◌, ap, refl, subst, arith, IsTrue}
use Rattle.std.specs.List.{AllByRecursion, flat_map}
use Rattle.std.specs.Option.{SomeIff}
use Rattle.std.specs.Global.{Vec}
use Rattle.std.specs.Ordering.{nat_cmp}
use Rattle.std.specs.Cmp.Lexicographic.{pointwise}
use Rattle.std.proofs.lemmas.List.Folds.{list_any-append}
use Rattle.complex_core.specs.Labels.{has}
use Rattle.complex_core.specs.Maps.{used}
use Rattle.complex_core.specs.Complexes.{ComplexView, IsComplex, IsFacet, is_held, is_face}
use Rattle.complex_core.proofs.Sets.{any-rising, above_head}
use Rattle.complex_core.proofs.Faces.{equal_cmp, less_cmp}
use Rattle.complex_core.proofs.Laws.{nat_eq_same, or_left, or_right}
use Rattle.complex_core.proofs.SubsetLists.{above_at}
use Rattle.flip_rules.specs.Boundaries.{IsBoundary}
use Rattle.flip_rules.specs.declared.flip.Flip.{Flip}
use Rattle.flip_rules.specs.declared.flip.Illegal.{Illegal}
use Rattle.flip_rules.proofs.Links.{same_lists_is, same_lists_from}
use Rattle.cert_text.specs.Statements.{OfVertex, of_vertex}
use Rattle.cert_replay.specs.Answers.{link_at, ShowsLink, NamesVertices, IsListAnswer, all_flips, LinksShown, LinkBreaks, LinkEndsElsewhere}
use Rattle.cert_replay.specs.declared.judge.Replayed.{Replayed}
use Rattle.cert_replay.specs.declared.judge.Replayed.TheVariants.{Valid, Bad, WrongEnd}
use Rattle.cert_replay.proofs.RowSteps.{taken_all}
use Rattle.cert_replay.proofs.Runs.{split_there}
use Rattle.complex_core.proofs.Sorting.{each_append}
use Rattle.complex_core.proofs.Members.{taken_more}

-- ---- two complexes are one

pub same_complexes : (k l : ComplexView) (d e : ℕ) (fs gs : List (List ℕ)) (t : Bool) → d ≡ k.dim → e ≡ l.dim → d ≡ e → fs ≡ k.facets → gs ≡ l.facets → t ≡ pointwise (pointwise nat_eq) fs gs → (IsTrue t → k ≡ l) × (k ≡ l → IsTrue t)
same_complexes k l d e fs gs t p q s u v w =
    let dims : k.dim ≡ l.dim = sym p ∙ s ∙ q in (
      λ h. let f : k.facets ≡ l.facets = sym u ∙ same_lists_is fs gs (sym w ∙ h) ∙ v in λ i. record { dim = dims i; facets = f i },
      λ h. w ∙ same_lists_from fs gs (u ∙ ap (λ (m : ComplexView). m.facets) h ∙ sym v),
    )

-- ---- a used label

held_by : (fs : List (List ℕ)) (x : ℕ) → has (flat_map (λ f. f) fs) x ≡ is_held fs (x ∷ [])
held_by [] x = refl
held_by (f ∷ fs) x = list_any-append (λ y. nat_eq y x) f (flat_map (λ g. g) fs) ∙ (λ i. with_true (has f x) i || held_by fs x i)
  where
    with_true : (b : Bool) → b ≡ (b && true)
    with_true true = refl
    with_true false = refl

used_held : (fs : List (List ℕ)) (x : ℕ) → has (used fs) x ≡ true → is_held fs (x ∷ []) ≡ true
used_held fs x h = sym (held_by fs x) ∙ sym (any-rising nat_cmp equal_cmp (λ y. nat_eq y x) (flat_map (λ f. f) fs)) ∙ h

-- it is a face
pub used_face : (fs : List (List ℕ)) (x : ℕ) → has (used fs) x ≡ true → is_face fs (x ∷ []) ≡ true
used_face fs x h = used_held fs x h

held_positive : (d x : ℕ) (fs : List (List ℕ)) → AllByRecursion (IsFacet d) fs → is_held fs (x ∷ []) ≡ true → 0 < x
held_positive d x [] a h = let e : false ≡ true = h in cc
held_positive d x (f ∷ fs) a h = by_case (has f x) refl (held_positive d x fs a.1) h
  where
    by_case : (b : Bool) → has f x ≡ b → (is_held fs (x ∷ []) ≡ true → 0 < x) → ((b && true) || is_held fs (x ∷ [])) ≡ true → 0 < x
    by_case true e rest _ = less_cmp 0 x (above_at 0 x f (above_head nat_cmp 0 f a.0.face.rising) e)
    by_case false e rest t = rest t

-- and at least 1
pub used_positive : (k : ComplexView) (x : ℕ) → IsComplex k → has (used k.facets) x ≡ true → 0 < x
used_positive k x h t = held_positive k.dim x k.facets h.pure (used_held k.facets x t)

pub none_where : {T : Type 0} (r : Option T) (P : Type 0) (v : T) → SomeIff r P v → r ≡ None → P → ⊥
none_where (Some t) P v h e p = cc
none_where None P v h e p = h p

-- ---- a position in the lists

abbrev pub Entry : Type 0
Entry = ℕ × Vec Flip

pub named_at : (lists : List Entry) (labels : List ℕ) (i y : ℕ) (x : Entry) → map (λ v. v.0) (map of_vertex lists) ≡ labels → i < length lists → x ≡ get_or lists i x → y ≡ get_or labels i y → x.0 ≡ y
named_at [] labels i y x e h p q = absurd (omega (arith, h))
named_at (v ∷ vs) [] i y x e h p q = cc
named_at (v ∷ vs) (l ∷ ls) zero y x e h p q = let a : v.0 ≡ l = cc in ap (λ (z : Entry). z.0) p ∙ a ∙ sym q
named_at (v ∷ vs) (l ∷ ls) (suc i) y x e h p q = let a : map (λ v. v.0) (map of_vertex vs) ≡ ls = cc in named_at vs ls i y x a (omega arith) p q

pub vertex_used : (lists : List Entry) (labels : List ℕ) (i : ℕ) (x : Entry) → map (λ v. v.0) (map of_vertex lists) ≡ labels → i < length lists → x ≡ get_or lists i x → has labels x.0 ≡ true
vertex_used [] labels i x e h p = absurd (omega (arith, h))
vertex_used (v ∷ vs) [] i x e h p = cc
vertex_used (v ∷ vs) (l ∷ ls) zero x e h p = let a : v.0 ≡ l = cc in or_left _ _ (ap (λ z. nat_eq z x.0) (sym a ∙ sym (ap (λ (z : Entry). z.0) p)) ∙ nat_eq_same x.0)
vertex_used (v ∷ vs) (l ∷ ls) (suc i) x e h p = let a : map (λ v. v.0) (map of_vertex vs) ≡ ls = cc in or_right _ _ (vertex_used vs ls i x a (omega arith) p)

map_append : {X Y : Type 0} (f : X → Y) (xs ys : List X) → map f (xs ++ ys) ≡ map f xs ++ map f ys
map_append f [] ys = refl
map_append f (x ∷ xs) ys = ap (λ zs. f x ∷ zs) (map_append f xs ys)

split_lists : (lists : List Entry) (i : ℕ) (x : Entry) → i < length lists → x ≡ get_or lists i x → map of_vertex lists ≡ map of_vertex (take i lists) ++ of_vertex x ∷ map of_vertex (drop (i + 1) lists)
split_lists lists i x h e = ap (map of_vertex) (split_there lists i x h e) ∙ map_append of_vertex (take i lists) (x ∷ drop (i + 1) lists)

more_lists : (lists : List Entry) (i : ℕ) (x : Entry) → i < length lists → x ≡ get_or lists i x → map of_vertex (take (i + 1) lists) ≡ map of_vertex (take i lists) ++ of_vertex x ∷ []
more_lists lists i x h e = ap (map of_vertex) (taken_more lists i x h e) ∙ map_append of_vertex (take i lists) (x ∷ [])

length_append : {X : Type 0} (xs ys : List X) → length (xs ++ ys) ≡ length xs + length ys
length_append [] ys = omega arith
length_append (x ∷ xs) ys = let e : length (xs ++ ys) ≡ length xs + length ys = length_append xs ys in omega (arith, e)

all_flips-push : (vs : List OfVertex) (v : OfVertex) → all_flips (vs ++ v ∷ []) ≡ all_flips vs + length v.1
all_flips-push [] v = length_append v.1 [] ∙ omega arith
all_flips-push (w ∷ ws) v =
    let e : all_flips (ws ++ v ∷ []) ≡ all_flips ws + length v.1 = all_flips-push ws v in
    let p : all_flips (w ∷ ws ++ v ∷ []) ≡ length w.1 + all_flips (ws ++ v ∷ []) = length_append w.1 (flat_map (λ u. u.1) (ws ++ v ∷ [])) in
    let q : all_flips (w ∷ ws) ≡ length w.1 + all_flips ws = length_append w.1 (flat_map (λ u. u.1) ws) in
    omega (arith, e, p, q)

-- ---- one list is judged

-- the lists before this one show what they state, and have so many flips
pub record ShownSoFar (k : ComplexView) (lists : List Entry) (i flips : ℕ) : Type 0 where
  pub shown : AllByRecursion (ShowsLink k) (map of_vertex (take i lists))
  pub counted : flips ≡ all_flips (map of_vertex (take i lists))

-- what a program has when it has judged the list at a position
pub record Judged (k : ComplexView) (lists : List Entry) (i : ℕ) (x : Entry) (r : Replayed) : Type 0 where
  pub inside : i < length lists
  pub there : x ≡ get_or lists i x
  pub answer : IsListAnswer IsBoundary (link_at k x.0) x.1.items r

pub judged : (k link : ComplexView) (lists : List Entry) (i : ℕ) (x : Entry) (flips : List Flip) (r : Replayed) → i < length lists → x ≡ get_or lists i x → link ≡ link_at k x.0 → flips ≡ x.1.items → IsListAnswer IsBoundary link flips r → Judged k lists i x r
judged k link lists i x flips r h e p q a =
    let P : ComplexView → Type 0 = λ l. IsListAnswer IsBoundary l flips r in
    let Q : List Flip → Type 0 = λ fs. IsListAnswer IsBoundary (link_at k x.0) fs r in
    record { inside = h; there = e; answer = subst Q q (subst P p a) }

answered : (k : ComplexView) (flips : List Flip) (r s : Replayed) → r ≡ s → IsListAnswer IsBoundary k flips r → IsListAnswer IsBoundary k flips s
answered k flips r s e a = let P : Replayed → Type 0 = λ t. IsListAnswer IsBoundary k flips t in subst P e a

pub shown_more : (k : ComplexView) (lists : List Entry) (i : ℕ) (x : Entry) (r : Replayed) (so_far more facets new : ℕ) → ShownSoFar k lists i so_far → Judged k lists i x r → r ≡ Valid more facets → new ≡ so_far + more → ShownSoFar k lists (i + 1) new
shown_more k lists i x r so_far more facets new s j e n =
    let a : IsListAnswer IsBoundary (link_at k x.0) x.1.items (Valid more facets) = answered (link_at k x.0) x.1.items r (Valid more facets) e j.answer in
    let l : map of_vertex (take (i + 1) lists) ≡ map of_vertex (take i lists) ++ of_vertex x ∷ [] = more_lists lists i x j.inside j.there in
    let P : List OfVertex → Type 0 = λ vs. AllByRecursion (ShowsLink k) vs in
    let c : new ≡ all_flips (map of_vertex (take i lists)) + length x.1.items = n ∙ (λ t. s.counted t + a.counted t) in
    record {
      shown = subst P (sym l) (each_append (ShowsLink k) (map of_vertex (take i lists)) (of_vertex x ∷ []) s.shown (record { end = a.end; replays = a.replays; boundary = a.stated }, tt));
      counted = c ∙ sym (all_flips-push (map of_vertex (take i lists)) (of_vertex x)) ∙ ap all_flips (sym l);
    }

pub link_breaks : (k : ComplexView) (lists : List Entry) (i : ℕ) (x : Entry) (r : Replayed) (so_far index number : ℕ) (fault : Illegal) → NamesVertices k (map of_vertex lists) → ShownSoFar k lists i so_far → Judged k lists i x r → r ≡ Bad index fault → number ≡ so_far + index → LinkBreaks k (map of_vertex lists) number fault
link_breaks k lists i x r so_far index number fault v s j e n = record {
  before = map of_vertex (take i lists);
  list = of_vertex x;
  fails = record { vertices = v; after = map of_vertex (drop (i + 1) lists); are = split_lists lists i x j.inside j.there; shown = s.shown };
  position = index;
  breaks = answered (link_at k x.0) x.1.items r (Bad index fault) e j.answer;
  counted = n ∙ ap (λ m. m + index) s.counted;
}

pub link_elsewhere : (k : ComplexView) (lists : List Entry) (i : ℕ) (x : Entry) (r : Replayed) (so_far : ℕ) → NamesVertices k (map of_vertex lists) → ShownSoFar k lists i so_far → Judged k lists i x r → r ≡ WrongEnd → LinkEndsElsewhere k (map of_vertex lists)
link_elsewhere k lists i x r so_far v s j e = record {
  before = map of_vertex (take i lists);
  list = of_vertex x;
  fails = record { vertices = v; after = map of_vertex (drop (i + 1) lists); are = split_lists lists i x j.inside j.there; shown = s.shown };
  ends = answered (link_at k x.0) x.1.items r WrongEnd e j.answer;
}

map_length : {X Y : Type 0} (f : X → Y) (xs : List X) → length xs ≡ length (map f xs)
map_length f [] = refl
map_length f (x ∷ xs) = let e : length xs ≡ length (map f xs) = map_length f xs in omega (arith, e)

pub links_shown : (k : ComplexView) (lists : List Entry) (i flips : ℕ) → NamesVertices k (map of_vertex lists) → length lists ≤ i → ShownSoFar k lists i flips → LinksShown k (map of_vertex lists) flips (length lists)
links_shown k lists i flips v h s =
    let e : take i lists ≡ lists = taken_all lists i h in
    let P : List Entry → Type 0 = λ vs. AllByRecursion (ShowsLink k) (map of_vertex vs) in
    record {
      certificate = record { vertices = v; links = subst P e s.shown };
      counted = s.counted ∙ ap (λ (vs : List Entry). all_flips (map of_vertex vs)) e;
      listed = map_length of_vertex lists;
    }
