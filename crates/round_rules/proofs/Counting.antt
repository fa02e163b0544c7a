-- How many facets flips add.
use Rattle.std.proofs.Common.{◌≡◌, ℕ, ◌+◌, ◌*◌, ◌≤◌, true, false, not, nat_eq, ◌||◌, ◌&&◌, ℤ, pos, ◌+ℤ◌, ◌≤ℤ◌, List, [], ◌∷◌, ◌++◌, length, map, Ok, Some, sym, refl, ap, ◌∙◌, subst, arith, length-append}
use Rattle.std.specs.List.{AllByRecursion}
use Rattle.std.specs.List.Sorted.{IsStrictlySortedBy}
use Rattle.std.specs.Ordering.{nat_cmp}
use Rattle.std.specs.Cmp.Lexicographic.{pointwise, nat_list_cmp_total}
use Rattle.std.proofs.Math.Nat.{mul-suc}
use Rattle.std.proofs.lemmas.Int.{ints}
use Rattle.std.proofs.lemmas.List.{length-map}
use Rattle.std.proofs.lemmas.List.Filters.{length-filter_both}
use Rattle.std.proofs.lemmas.Option.{same_Some}
use Rattle.complex_core.specs.Labels.{has, holds, without, face_cmp}
use Rattle.complex_core.specs.Rising.{rising}
use Rattle.complex_core.specs.Complexes.{ComplexView, over, beside}
use Rattle.complex_core.proofs.Sets.{above_head, above_tail, among, among-rising, length-put_new}
use Rattle.complex_core.proofs.Laws.{has-union, has-without, or_left, or_right, listed, listed-among, same_sets_is, both_false, above_not, nat_eq_same, nat_eq_swap}
use Rattle.flip_rules.specs.Flips.{OfFaces, join_boundary, broken_rule, flipped, replay}
use Rattle.flip_rules.specs.Entries.{JournalEntry}
use Rattle.flip_rules.specs.Journals.{flat}
use Rattle.flip_rules.specs.declared.flip.Flip.{Flip}
use Rattle.flip_rules.proofs.Legal.{legal}
use Rattle.flip_rules.proofs.Links.{side}
use Rattle.flip_rules.proofs.Replays.{first_flip, replay_split, replay_dim}
use Rattle.board_rule.specs.Rule.{IsEntry}
use Rattle.round_rules.specs.Laws.{RoundGrows}
use Rattle.round_rules.specs.Tasks.{change, changes}
use Rattle.round_rules.proofs.Gaining.{Gains}
use Rattle.std.proofs.lemmas.Bool.{or_parts}
use Rattle.complex_core.proofs.SetLists.{rising_length}

-- ---- a set of facets has no more members than the list that it is made of

-- ---- there is one side for each label of B

-- the side without a label of B has the others, and not this one
side_has : (a b : List ℕ) (y x : ℕ) → has a x ≡ false → has b x ≡ true → has (side a b y) x ≡ not (nat_eq x y)
side_has a b y x out inside = has-union a (without b y) x ∙ (ap (λ c. has a x || c) (has-without b y x) ∙ (λ i. out i || (inside i && not (nat_eq x y))))

other_side : (a b : List ℕ) (y x : ℕ) → has a x ≡ false → has b x ≡ true → nat_eq x y ≡ false → pointwise nat_eq (side a b y) (side a b x) ≡ false
other_side a b y x out inside other = elim (pointwise nat_eq (side a b y) (side a b x)) as (λ c. pointwise nat_eq (side a b y) (side a b x) ≡ c → c ≡ false) [
  | true ↦ λ e. sym (side_has a b y x out inside ∙ ap not other) ∙ (ap (λ g. has g x) (same_sets_is (side a b y) (side a b x) e) ∙ (side_has a b x x out inside ∙ ap not (nat_eq_same x)))
  | false ↦ λ e. refl
] refl

new_side : (a b c : List ℕ) (x : ℕ) → has a x ≡ false → has b x ≡ true → has c x ≡ false → listed (map (side a b) c) (side a b x) ≡ false
new_side a b [] x out inside new = refl
new_side a b (y ∷ ys) x out inside new =
    let n = or_parts (nat_eq y x) (has ys x) new in
    both_false (other_side a b y x out inside (nat_eq_swap x y ∙ n.0)) (new_side a b ys x out inside n.1)

apart_back : (a b : List ℕ) (x : ℕ) → (has a x ≡ true → has b x ≡ false) → has b x ≡ true → has a x ≡ false
apart_back a b x apart inside = elim (has a x) as (λ c. has a x ≡ c → c ≡ false) [ true ↦ λ e. sym inside ∙ apart e | false ↦ λ e. refl ] refl

many_sides : (a b c : List ℕ) → ((x : ℕ) → has a x ≡ true → has b x ≡ false) → IsStrictlySortedBy nat_cmp c → ((x : ℕ) → has c x ≡ true → has b x ≡ true) → length (rising face_cmp (map (side a b) c)) ≡ length c
many_sides a b [] apart sorted part = refl
many_sides a b (x ∷ xs) apart sorted part =
    let inside = part x (or_left (nat_eq x x) (has xs x) (nat_eq_same x)) in
    let new : among face_cmp (side a b x) (rising face_cmp (map (side a b) xs)) ≡ false = among-rising nat_list_cmp_total (side a b x) (map (side a b) xs)
    ∙ (listed-among (map (side a b) xs) (side a b x) ∙ new_side a b xs x (apart_back a b x (apart x) inside) inside (above_not x xs (above_head nat_cmp x xs sorted))) in
    let longer = length-put_new face_cmp (side a b x) (rising face_cmp (map (side a b) xs)) new in
    let i = many_sides a b xs apart (above_tail nat_cmp x xs sorted) (λ z t. part z (or_right (nat_eq x z) (has xs z) t)) in
    omega (arith, longer, i)

-- ---- flips

-- a legal flip adds at most its change
flip_adds : (k : ComplexView) (f : Flip) → OfFaces f → broken_rule k f.a f.b ≡ Ok tt → pos (length (flipped k f.a f.b).facets) ≤ℤ (pos (length k.facets) +ℤ change k.dim f)
flip_adds k f faces is =
    let l = legal k f.a f.b is in
    let out : length (over k.facets f.a) ≡ length f.b = ap length l.link ∙ many_sides f.a f.b f.b l.shape.apart (above_tail nat_cmp 0 f.b faces.second.rising) (λ x t. t) in
    let both = length-filter_both (λ g. holds g f.a) (λ g. not (holds g f.a)) (λ g. refl) k.facets in
    let more = length-append (beside k.facets f.a) (join_boundary f.b f.a) in
    let most = rising_length (beside k.facets f.a ++ join_boundary f.b f.a) in
    let new = length-map f.a (side f.b f.a) in
    let sizes = l.shape.sizes in
    let some = l.shape.second in
    omega (arith, ints, out, both, more, most, new, sizes, some)

sum_of : (x y z : ℤ) (m c : ℤ) → y ≤ℤ (x +ℤ m) → z ≤ℤ (y +ℤ c) → z ≤ℤ (x +ℤ (m +ℤ c))
sum_of x y z m c h g = omega (arith, ints, h, g)

-- flips one after another add at most their changes
replay_adds : (k m : ComplexView) (fs : List Flip) → AllByRecursion OfFaces fs → replay k fs ≡ Some m → pos (length m.facets) ≤ℤ (pos (length k.facets) +ℤ changes k.dim fs)
replay_adds k m [] faces r = let same : length k.facets ≡ length m.facets = ap (λ (l : ComplexView). length l.facets) (same_Some k m r) in omega (arith, ints, same)
replay_adds k m (f ∷ fs) faces r =
    let p = first_flip k m f fs r in
    sum_of (pos (length k.facets)) (pos (length (flipped k f.a f.b).facets)) (pos (length m.facets)) (change k.dim f) (changes k.dim fs) (flip_adds k f faces.0 p.0) (replay_adds (flipped k f.a f.b) m fs faces.1 p.1)

-- entries that each add at most d facets
entries_add : (d round places seats : ℕ) (k m : ComplexView) (es : List JournalEntry) → k.dim ≡ d → AllByRecursion (IsEntry round places seats) es → AllByRecursion (Gains d) es → replay k (flat es) ≡ Some m → length m.facets ≤ length k.facets + d * length es
entries_add d round places seats k m [] is h gains r = let same : length k.facets ≡ length m.facets = ap (λ (l : ComplexView). length l.facets) (same_Some k m r) in omega (arith, same)
entries_add d round places seats k m (e ∷ es) is h gains r =
    let p = replay_split k m e.flips (flat es) r in
    let one = replay_adds k p.0 e.flips h.0.faces p.1 in
    let gain : changes k.dim e.flips ≤ℤ pos d = subst (λ (x : ℕ). changes x e.flips ≤ℤ pos d) (sym is) gains.0 in
    let rest = entries_add d round places seats p.0 m es (replay_dim k p.0 e.flips p.1 ∙ is) h.1 gains.1 p.2 in
    let product = mul-suc d (length es) in
    omega (arith, ints, one, gain, rest, product)

pub round_grows : RoundGrows
round_grows s r end complex ok = entries_add s.start.dim s.round s.places (s.plan.workers + 1) s.start end r.entries refl ok.entries ok.gains ok.replays
