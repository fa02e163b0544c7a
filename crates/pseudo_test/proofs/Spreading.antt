-- How chains spread over ridges.
use Rattle.std.proofs.Common.{IsTrue, ◌↔◌, cond, ◌≡◌, ℕ, ◌+◌, ◌<◌, ◌≤◌, zero, suc, Bool, true, false, not, nat_eq, ◌||◌, ◌&&◌, List, [], ◌∷◌, ◌++◌, ◌-◌, length, map, take, drop, get_or, sym, ◌∙◌, ap, refl, arith, inl, inr, subst, length-append}
use Rattle.std.specs.List.{AllByRecursion}
use Rattle.std.specs.List.Sorted.{IsStrictlySortedBy}
use Rattle.std.specs.Cmp.{first_so, second_so}
use Rattle.std.specs.Cmp.Derive.{both_true}
use Rattle.std.specs.Cmp.Lexicographic.{pointwise, nat_list_cmp_total, texts_ties}
use Rattle.std.specs.declared.cmp.Ordering.TheVariants.{Less, Greater}
use Rattle.std.specs.Ordering.{nat_cmp, is_eq, is_gt, ordering_reverse, match_ordering}
use Rattle.std.specs.BTreeSet.{BTreeSet, contains, insert_key}
use Rattle.std.proofs.lemmas.Bool.{cases_lt, not-true, false_from_ne_true}
use Rattle.std.proofs.lemmas.List.{take_more, get_or_default}
use Rattle.complex_core.proofs.Runs.{sorted_run}
use Rattle.complex_core.proofs.Faces.{less_cmp}
use Rattle.complex_core.specs.Labels.{has, holds, with, without, face_cmp, IsFace}
use Rattle.complex_core.specs.Complexes.{ComplexView, IsComplex, IsFacet, over, is_facet}
use Rattle.complex_core.proofs.Sets.{Above, among, sorted_drop, above_head, above_tail, above_lower, not_among}
use Rattle.complex_core.proofs.Laws.{has-with, nat_eq_is, nat_eq_same, or_left, or_right, same_sets_is, same_set_itself, listed-append, listed-filter, listed-among}
use Rattle.pseudo_test.specs.Ridges.{IsRidge}
use Rattle.pseudo_test.specs.Chains.{Near, Linked, Joined, StronglyConnected, IsLeast, IsApart}
use Rattle.pseudo_test.specs.Spreads.{Moved, over_new}
use Rattle.pseudo_test.proofs.Subsets.{holds_without}
use Rattle.pseudo_test.proofs.Incident.{dropped, tail_rest, run_is}
use Rattle.pseudo_test.specs.Incidences.{incidences, facet_of, run_of}
use Rattle.complex_core.proofs.SubsetLists.{two, clash}
use Rattle.complex_core.proofs.Booleans.{and_false}
use Rattle.complex_core.proofs.Members.{place_of_label}

-- ---- chains

linked_on : (fs : List (List ℕ)) (f g h : List ℕ) (cs ds : List (List ℕ)) → Linked fs f cs g → Linked fs g ds h → Linked fs f (cs ++ ds) h
linked_on fs f g h [] ds p q = let P : List ℕ → Type 0 = λ m. Linked fs m ds h in subst P (sym p) q
linked_on fs f g h (c ∷ cs) ds p q = (p.0, p.1, linked_on fs c g h cs ds p.2 q)

pub here : (fs : List (List ℕ)) (f g : List ℕ) → f ≡ g → Joined fs f g
here fs f g e = record { chain = []; linked = e }

pub step : (fs : List (List ℕ)) (f g : List ℕ) → is_facet fs g ≡ true → Near fs f g → Joined fs f g
step fs f g t n = record { chain = g ∷ []; linked = (t, n, refl) }

pub join : (fs : List (List ℕ)) (f g h : List ℕ) → Joined fs f g → Joined fs g h → Joined fs f h
join fs f g h p q = record { chain = p.chain ++ q.chain; linked = linked_on fs f g h p.chain q.chain p.linked q.linked }

pub near_back : (fs : List (List ℕ)) (f g : List ℕ) → Near fs f g → Near fs g f
near_back fs f g n = record { ridge = n.ridge; is = n.is; first = n.second; second = n.first }

linked_back : (fs : List (List ℕ)) (f g : List ℕ) (cs : List (List ℕ)) → is_facet fs f ≡ true → Linked fs f cs g → Joined fs g f
linked_back fs f g [] t l = here fs g f (sym l)
linked_back fs f g (c ∷ cs) t l = join fs g c f (linked_back fs c g cs l.0 l.2) (step fs c f t (near_back fs f c l.1))

pub turn_joined : (fs : List (List ℕ)) (f g : List ℕ) → is_facet fs f ≡ true → Joined fs f g → Joined fs g f
turn_joined fs f g t j = linked_back fs f g j.chain t j.linked

inside : (fs : List (List ℕ)) (part : List ℕ → Bool) → ((f g : List ℕ) → part f ≡ true → is_facet fs g ≡ true → Near fs f g → part g ≡ true) → (f g : List ℕ) (chain : List (List ℕ)) → part f ≡ true → Linked fs f chain g → part g ≡ true
inside fs part h f g [] t l = ap part (sym l) ∙ t
inside fs part h f g (c ∷ chain) t l = inside fs part h c g chain (h f c t l.0 l.1) l.2

-- what is closed under sharing a ridge has all facets that are joined to one of its own
pub apart_law : (fs : List (List ℕ)) (part : List ℕ → Bool) → ((f g : List ℕ) → part f ≡ true → is_facet fs g ≡ true → Near fs f g → part g ≡ true) → (f g : List ℕ) → part f ≡ true → part g ≡ false → Joined fs f g → ⊥
apart_law fs part h f g t u j = clash {P = ⊥} (part g) (inside fs part h f g j.chain t j.linked) u

-- ---- spreading

-- what is reached is joined to the first facet, and over a ridge that was seen nothing is left
pub record Spread (fs : List (List ℕ)) (first : List ℕ) (reached left : List (List ℕ)) (seen : List ℕ → Bool) : Type 0 where
  pub begins : is_facet reached first ≡ true
  pub joined : (g : List ℕ) → is_facet reached g ≡ true → Joined fs first g
  pub all : (g : List ℕ) → is_facet fs g ≡ (is_facet reached g || is_facet left g)
  pub apart : (g : List ℕ) → is_facet left g ≡ true → is_facet reached g ≡ false
  pub clear : (r g : List ℕ) → seen r ≡ true → is_facet left g ≡ true → holds g r ≡ false
  pub total : length reached + length left ≡ length fs

-- the ridges of the facets before a position were seen
abbrev pub Done : List (List ℕ) → (List ℕ → Bool) → ℕ → Type 0
Done reached seen next = (k : ℕ) (x : ℕ) → k < next → has (get_or reached k []) x ≡ true → seen (without (get_or reached k []) x) ≡ true

pub spread_in : (fs : List (List ℕ)) (first : List ℕ) (reached left : List (List ℕ)) (seen : List ℕ → Bool) → Spread fs first reached left seen → (f : List ℕ) → is_facet reached f ≡ true → is_facet fs f ≡ true
spread_in fs first reached left seen s f t = s.all f ∙ or_left (is_facet reached f) (is_facet left f) t

split_table : (p q n : Bool) → (p || q) ≡ ((p || (q && n)) || (q && not n))
split_table true q n = refl
split_table false true true = refl
split_table false true false = refl
split_table false false n = refl

either : {P : Type 0} (a b : Bool) → (a || b) ≡ true → (a ≡ true → P) → (b ≡ true → P) → P
either true b t f g = f refl
either false b t f g = g t

-- the facets over one more ridge of a facet that was reached
pub spread_over : (k : ComplexView) (first f : List ℕ) (x : ℕ) (run reached left now_reached now_left : List (List ℕ)) (seen now_seen : List ℕ → Bool) → IsComplex k → Spread k.facets first reached left seen → is_facet reached f ≡ true → has f x ≡ true → run ≡ over k.facets (without f x) → Moved (over_new (seen (without f x)) run) reached left now_reached now_left → ((r : List ℕ) → now_seen r ≡ (seen r || pointwise nat_eq (without f x) r)) → Spread k.facets first now_reached now_left now_seen
spread_over k first f x run reached left now_reached now_left seen now_seen c s t u er m n = record {
  begins = now first ∙ or_left (is_facet reached first) (is_facet left first && new first) s.begins;
  joined = λ g v. either (is_facet reached g) (is_facet left g && new g) (sym (now g) ∙ v) (s.joined g) (λ w.
      let gk : is_facet k.facets g ≡ true = s.all g ∙ or_right (is_facet reached g) (is_facet left g) (first_so (is_facet left g) (new g) w) in
      let gr : holds g (without f x) ≡ true = second_so (is_facet k.facets g) (holds g (without f x)) (only g (second_so (is_facet left g) (new g) w)) in
      join k.facets first f g (s.joined f t) (step k.facets f g gk (record { ridge = without f x; is = ridge; first = holds_without f x; second = gr })));
  all = λ g. s.all g ∙ split_table (is_facet reached g) (is_facet left g) (new g) ∙ sym (λ i. now g i || m.gone g i);
  apart = λ g v.
      let w : (is_facet left g && not (new g)) ≡ true = sym (m.gone g) ∙ v in
      now g ∙ ap (λ b. b || (is_facet left g && new g)) (s.apart g (first_so (is_facet left g) (not (new g)) w))
      ∙ ap (λ b. is_facet left g && b) (not-true (new g) (second_so (is_facet left g) (not (new g)) w)) ∙ and_false (is_facet left g);
  clear = λ r g v w.
      let l : (is_facet left g && not (new g)) ≡ true = sym (m.gone g) ∙ w in
      let lg : is_facet left g ≡ true = first_so (is_facet left g) (not (new g)) l in
      let out : new g ≡ false = not-true (new g) (second_so (is_facet left g) (not (new g)) l) in
      either (seen r) (pointwise nat_eq (without f x) r) (sym (n r) ∙ v) (λ old. s.clear r g old lg) (λ e.
      ap (holds g) (sym (same_sets_is (without f x) r e)) ∙ false_from_ne_true (holds g (without f x)) (λ h. elim (two (seen (without f x))) [
        | inl old ↦ clash {P = ⊥} (holds g (without f x)) h (s.clear (without f x) g old lg)
        | inr fresh ↦ clash {P = ⊥} (new g) (ap (λ b. is_facet (over_new b run) g) fresh ∙ in_run g ∙ both_true (s.all g ∙ or_right (is_facet reached g) (is_facet left g) lg) h) out
      ]));
  total = m.total ∙ s.total;
}
  where
    new : List ℕ → Bool
    new g = is_facet (over_new (seen (without f x)) run) g

    now : (g : List ℕ) → is_facet now_reached g ≡ (is_facet reached g || (is_facet left g && new g))
    now g = ap (λ xs. is_facet xs g) m.grows ∙ listed-append reached m.more g ∙ ap (λ b. is_facet reached g || b) (m.comes g)

    in_run : (g : List ℕ) → is_facet run g ≡ (is_facet k.facets g && holds g (without f x))
    in_run g = ap (λ xs. is_facet xs g) er ∙ listed-filter (λ h. holds h (without f x)) k.facets g

    only : (g : List ℕ) → new g ≡ true → (is_facet k.facets g && holds g (without f x)) ≡ true
    only g h = sym (in_run g) ∙ within (seen (without f x)) h
      where
        within : (b : Bool) → is_facet (over_new b run) g ≡ true → is_facet run g ≡ true
        within true q = clash true refl (sym q)
        within false q = q

    ridge : IsRidge k.facets (without f x)
    ridge = record { facet = f; label = x; there = s.all f ∙ or_left (is_facet reached f) (is_facet left f) t; used = u; is = refl }

get_front : (xs ys : List (List ℕ)) (i : ℕ) (d : List ℕ) → i < length xs → get_or (xs ++ ys) i d ≡ get_or xs i d
get_front [] ys i d h = absurd (omega (arith, h))
get_front (x ∷ xs) ys zero d h = refl
get_front (x ∷ xs) ys (suc i) d h = get_front xs ys i d (omega arith)

-- at the end what was reached is closed under sharing a ridge
pub not_reached : (k : ComplexView) (first : List ℕ) (reached left : List (List ℕ)) (seen : List ℕ → Bool) (next : ℕ) → IsComplex k → Spread k.facets first reached left seen → Done reached seen next → length reached ≤ next → (g : List ℕ) → is_facet left g ≡ true → Joined k.facets first g → ⊥
not_reached k first reached left seen next c s d l g t = apart_law k.facets (is_facet reached)
    (λ f h p q n. elim (two (is_facet reached h)) [
      | inl r ↦ r
      | inr r ↦
          let i : (i : ℕ) × (i < length reached) × (get_or reached i [] ≡ f) = place_of reached f p in
          let x : (x : ℕ) × (has f x ≡ true) × (n.ridge ≡ without f x) = dropped k c n.ridge f n.is (spread_in k.facets first reached left seen s f p) n.first in
          let done : seen n.ridge ≡ true = ap seen (x.2 ∙ ap (λ m. without m x.0) (sym i.2)) ∙ d i.0 x.0 (omega (arith, i.1, l)) (ap (λ m. has m x.0) i.2 ∙ x.1) in
          let hl : is_facet left h ≡ true = sym (s.all h ∙ ap (λ b. b || is_facet left h) r) ∙ q in
          clash (holds h n.ridge) n.second (s.clear n.ridge h done hl)
    ]) first g s.begins (s.apart g t)
  where
    place_of : (xs : List (List ℕ)) (r : List ℕ) → is_facet xs r ≡ true → (j : ℕ) × (j < length xs) × (get_or xs j [] ≡ r)
    place_of [] r t = clash true refl (sym t)
    place_of (x ∷ xs) r t = elim (two (pointwise nat_eq x r)) [
      | inl e ↦ (0, omega arith, same_sets_is x r e)
      | inr e ↦ let p : (j : ℕ) × (j < length xs) × (get_or xs j [] ≡ r) = place_of xs r (sym (ap (λ b. b || is_facet xs r) e) ∙ t) in (suc p.0, omega (arith, p.1), p.2)
    ]

pub strong_end : (k : ComplexView) (first : List ℕ) (reached : List (List ℕ)) (seen : List ℕ → Bool) → Spread k.facets first reached [] seen → StronglyConnected k.facets
strong_end k first reached seen s = record {
  joined = λ f g t u.
      let p : Joined k.facets first f = s.joined f (all_in f t) in
      let q : Joined k.facets first g = s.joined g (all_in g u) in
      join k.facets f first g (turn_joined k.facets first f (spread_in k.facets first reached [] seen s first s.begins) p) q;
}
  where
    drop_none : (c : Bool) → (c || false) ≡ true → c ≡ true
    drop_none true h = refl
    drop_none false h = h

    all_in : (f : List ℕ) → is_facet k.facets f ≡ true → is_facet reached f ≡ true
    all_in f t = drop_none (is_facet reached f) (sym (s.all f) ∙ t)

pub apart_end : (k : ComplexView) (first other : List ℕ) (reached left : List (List ℕ)) (seen : List ℕ → Bool) (next : ℕ) → IsComplex k → IsLeast k.facets first → Spread k.facets first reached left seen → Done reached seen next → length reached ≤ next → is_facet left other ≡ true → ((g : List ℕ) → is_facet left g ≡ true → face_cmp g other ≡ Less → ⊥) → IsApart k.facets first other
apart_end k first other reached left seen next c b s d l t below = record {
  begins = b;
  there = s.all other ∙ or_right (is_facet reached other) (is_facet left other) t;
  apart = not_reached k first reached left seen next c s d l other t;
  least = λ g u less. either (is_facet reached g) (is_facet left g) (sym (s.all g) ∙ u) (s.joined g) (λ v. absurd (below g v less));
}

-- the first of a rising list is the least
pub least_first : (k : ComplexView) (fs : List (List ℕ)) (first : List ℕ) → IsComplex k → fs ≡ k.facets → first ≡ get_or fs 0 first → IsLeast k.facets first
least_first k fs first c e at = let P : List (List ℕ) → Type 0 = λ gs. IsLeast gs first in let Q : List (List ℕ) → Type 0 = λ gs. IsStrictlySortedBy face_cmp gs in let R : List (List ℕ) → Type 0 = λ gs. 0 < length gs in subst P e (go fs (subst R (sym e) c.some) (subst Q (sym e) c.rising) at)
  where
    go : (gs : List (List ℕ)) → 0 < length gs → IsStrictlySortedBy face_cmp gs → first ≡ get_or gs 0 first → IsLeast gs first
    go [] l s e = absurd (omega (arith, l))
    go (g ∷ gs) l s e = let P : List ℕ → Type 0 = λ f. IsLeast (g ∷ gs) f in subst P (sym e) (record {
      there = or_left (pointwise nat_eq g g) (is_facet gs g) (same_set_itself g);
      least = λ h t less.
          let below : among face_cmp h (g ∷ gs) ≡ false = not_among nat_list_cmp_total h (g ∷ gs) (less, above_lower nat_list_cmp_total h g gs less (above_head face_cmp g gs s)) in
          clash {P = ⊥} (is_facet (g ∷ gs) h) t (sym (listed-among (g ∷ gs) h) ∙ below);
    })

-- at the start the first facet is reached, and no ridge was seen
pub spread_start : (k : ComplexView) (fs reached left : List (List ℕ)) (first : List ℕ) (seen : List ℕ → Bool) → IsComplex k → fs ≡ k.facets → first ≡ get_or fs 0 first → reached ≡ take 1 fs → left ≡ take (length fs - 1) (drop 1 fs) → ((r : List ℕ) → seen r ≡ false) → Spread k.facets first reached left seen
spread_start k fs reached left first seen c e at er el none = let P : List (List ℕ) → Type 0 = λ gs. Spread gs first reached left seen in let Q : List (List ℕ) → Type 0 = λ gs. IsStrictlySortedBy face_cmp gs in let R : List (List ℕ) → Type 0 = λ gs. 0 < length gs in subst P e (go fs (subst R (sym e) c.some) (subst Q (sym e) c.rising) at er el)
  where
    or_none : (b : Bool) → (b || false) ≡ b
    or_none true = refl
    or_none false = refl

    go : (gs : List (List ℕ)) → 0 < length gs → IsStrictlySortedBy face_cmp gs → first ≡ get_or gs 0 first → reached ≡ take 1 gs → left ≡ take (length gs - 1) (drop 1 gs) → Spread gs first reached left seen
    go [] l s a p q = absurd (omega (arith, l))
    go (g ∷ gs) l s a p q =
        let r : reached ≡ g ∷ [] = p in
        let t : left ≡ gs = q ∙ tail_rest (g ∷ gs) 1 in
        record {
          begins = ap (λ us. is_facet us first) r ∙ ap (λ h. pointwise nat_eq g h || false) a ∙ or_left (pointwise nat_eq g g) false (same_set_itself g);
          joined = λ h u. here (g ∷ gs) first h (a ∙ same_sets_is g h (sym (or_none (pointwise nat_eq g h)) ∙ sym (ap (λ us. is_facet us h) r) ∙ u));
          all = λ h. (λ i. sym (or_none (pointwise nat_eq g h)) i || is_facet (sym t i) h) ∙ ap (λ us. is_facet us h || is_facet left h) (sym r);
          apart = λ h u. ap (λ us. is_facet us h) r ∙ or_none (pointwise nat_eq g h) ∙ false_from_ne_true (pointwise nat_eq g h) (λ v. clash {P = ⊥} (is_facet left h) u (ap (λ us. is_facet us h) t ∙ ap (is_facet gs) (sym (same_sets_is g h v)) ∙ sym (listed-among gs g) ∙ not_among nat_list_cmp_total g gs (above_head face_cmp g gs s)));
          clear = λ q h u. clash (seen q) u (none q);
          total = omega (arith, ap length r, ap length t);
        }

-- ---- what is reached over a run

append_none : (xs : List (List ℕ)) → xs ≡ xs ++ []
append_none [] = refl
append_none (x ∷ xs) = ap (λ ys. x ∷ ys) (append_none xs)

and_true : (b : Bool) → b ≡ (b && not false)
and_true true = refl
and_true false = refl

pub moved_none : (reached left : List (List ℕ)) → Moved [] reached left reached left
moved_none reached left = record {
  more = [];
  grows = append_none reached;
  gone = λ f. and_true (is_facet left f);
  comes = λ f. sym (and_false (is_facet left f));
  total = refl;
}

pub moved_left : (f : List ℕ) (reached left now_left : List (List ℕ)) → is_facet left f ≡ false → now_left ≡ left → Moved (f ∷ []) reached left reached now_left
moved_left f reached left now_left h e = let P : List (List ℕ) → Type 0 = λ us. Moved (f ∷ []) reached left reached us in subst P (sym e) (record {
  more = [];
  grows = append_none reached;
  gone = λ g. elim (two (pointwise nat_eq f g)) [
    | inl t ↦ ap (is_facet left) (sym (same_sets_is f g t)) ∙ h ∙ sym (ap (λ b. b && not (pointwise nat_eq f g || false)) (ap (is_facet left) (sym (same_sets_is f g t)) ∙ h))
    | inr t ↦ and_true (is_facet left g) ∙ ap (λ b. is_facet left g && not (b || false)) (sym t)
  ];
  comes = λ g. elim (two (pointwise nat_eq f g)) [
    | inl t ↦ sym (ap (λ b. b && (pointwise nat_eq f g || false)) (ap (is_facet left) (sym (same_sets_is f g t)) ∙ h))
    | inr t ↦ sym (and_false (is_facet left g)) ∙ ap (λ b. is_facet left g && (b || false)) (sym t)
  ];
  total = refl;
})

pub moved_taken : (f : List ℕ) (reached left now_reached now_left : List (List ℕ)) → is_facet left f ≡ true → now_reached ≡ reached ++ f ∷ [] → ((g : List ℕ) → is_facet now_left g ≡ cond (pointwise nat_eq f g) false (is_facet left g)) → length now_left + 1 ≡ length left → Moved (f ∷ []) reached left now_reached now_left
moved_taken f reached left now_reached now_left h e s n = record {
  more = f ∷ [];
  grows = e;
  gone = λ g. s g ∙ table (pointwise nat_eq f g) (is_facet left g);
  comes = λ g. elim (two (pointwise nat_eq f g)) [
    | inl t ↦ ap (λ b. b || false) t ∙ sym (λ i. (ap (is_facet left) (sym (same_sets_is f g t)) ∙ h) i && (t i || false))
    | inr t ↦ ap (λ b. b || false) t ∙ sym (and_false (is_facet left g)) ∙ ap (λ b. is_facet left g && (b || false)) (sym t)
  ];
  total = omega (arith, ap length e, length-append reached (f ∷ []), n);
}
  where
    table : (p q : Bool) → cond p false q ≡ (q && not (p || false))
    table true true = refl
    table true false = refl
    table false true = refl
    table false false = refl

pub moved_more : (run one reached left mid_reached mid_left now_reached now_left : List (List ℕ)) → Moved run reached left mid_reached mid_left → Moved one mid_reached mid_left now_reached now_left → Moved (run ++ one) reached left now_reached now_left
moved_more run one reached left mid_reached mid_left now_reached now_left m n = record {
  more = m.more ++ n.more;
  grows = n.grows ∙ ap (λ us. us ++ n.more) m.grows ∙ append_assoc reached m.more n.more;
  gone = λ g. n.gone g ∙ ap (λ b. b && not (is_facet one g)) (m.gone g) ∙ gone_table (is_facet left g) (is_facet run g) (is_facet one g) ∙ ap (λ b. is_facet left g && not b) (sym (listed-append run one g));
  comes = λ g. listed-append m.more n.more g ∙ (λ i. m.comes g i || (n.comes g ∙ ap (λ b. b && is_facet one g) (m.gone g)) i) ∙ comes_table (is_facet left g) (is_facet run g) (is_facet one g) ∙ ap (λ b. is_facet left g && b) (sym (listed-append run one g));
  total = n.total ∙ m.total;
}
  where
    append_assoc : (xs ys zs : List (List ℕ)) → (xs ++ ys) ++ zs ≡ xs ++ (ys ++ zs)
    append_assoc [] ys zs = refl
    append_assoc (x ∷ xs) ys zs = ap (λ us. x ∷ us) (append_assoc xs ys zs)

    gone_table : (p q r : Bool) → ((p && not q) && not r) ≡ (p && not (q || r))
    gone_table true true r = refl
    gone_table true false r = refl
    gone_table false q r = refl

    comes_table : (p q r : Bool) → ((p && q) || ((p && not q) && r)) ≡ (p && (q || r))
    comes_table true true r = refl
    comes_table true false r = refl
    comes_table false q r = refl

-- ---- sets as trees

pub in_tree : (s : BTreeSet (List ℕ)) (f : List ℕ) → contains face_cmp s f ≡ is_facet s.keys f
in_tree s f = listed-among s.keys f

pub seen_more : (old new : List ℕ → Bool) (r : List ℕ) → ((q : List ℕ) → new q ≡ cond (is_eq (face_cmp r q)) true (old q)) → (q : List ℕ) → new q ≡ (old q || pointwise nat_eq r q)
seen_more old new r h q = h q ∙ ap (λ b. cond b true (old q)) (sym (texts_ties r q)) ∙ table (pointwise nat_eq r q) (old q)
  where
    table : (p q : Bool) → cond p true q ≡ (q || p)
    table true true = refl
    table true false = refl
    table false true = refl
    table false false = refl

-- a greater key goes behind the others
insert_last : (xs : List (List ℕ)) (k : List ℕ) → IsStrictlySortedBy face_cmp (xs ++ k ∷ []) → insert_key face_cmp xs k ≡ xs ++ k ∷ []
insert_last [] k s = refl
insert_last (x ∷ xs) k s =
    let g : face_cmp k x ≡ Greater = nat_list_cmp_total.antisymm k x ∙ ap ordering_reverse (last_of xs (above_head face_cmp x (xs ++ k ∷ []) s)) in
    ap (λ o. match_ordering o (k ∷ x ∷ xs) (x ∷ xs) (x ∷ insert_key face_cmp xs k)) g ∙ ap (λ us. x ∷ us) (insert_last xs k (above_tail face_cmp x (xs ++ k ∷ []) s))
  where
    last_of : (ys : List (List ℕ)) → Above face_cmp x (ys ++ k ∷ []) → face_cmp x k ≡ Less
    last_of [] a = a.0
    last_of (y ∷ ys) a = last_of ys a.1

pub insert_next : (fs keys new : List (List ℕ)) (i : ℕ) (f : List ℕ) → IsStrictlySortedBy face_cmp fs → keys ≡ take i fs → i < length fs → f ≡ get_or fs i f → new ≡ insert_key face_cmp keys f → new ≡ take (i + 1) fs
insert_next fs keys new i f s e l at n =
    let more : take (i + 1) fs ≡ take i fs ++ f ∷ [] = take_more fs i f l ∙ ap (λ v. take i fs ++ v ∷ []) (sym at) in
    let P : List (List ℕ) → Type 0 = λ gs. IsStrictlySortedBy face_cmp gs in
    n ∙ ap (λ us. insert_key face_cmp us f) e ∙ insert_last (take i fs) f (subst P more (sorted_run fs fs (i + 1) refl s)) ∙ sym more

-- a face has no label 0, and at most eight labels
pub with_can : (s : List ℕ × ℕ) → IsFace (facet_of s) → (0 < s.1) × (length (with s.0 s.1) ≤ 8)
with_can s h = (positive (with s.0 s.1) s.1 (above_head nat_cmp 0 (with s.0 s.1) h.rising) (has-with s.0 s.1 s.1 ∙ or_left (nat_eq s.1 s.1) (has s.0 s.1) (nat_eq_same s.1)), h.few)
  where
    positive : (xs : List ℕ) (x : ℕ) → Above nat_cmp 0 xs → has xs x ≡ true → 0 < x
    positive [] x a t = clash true refl (sym t)
    positive (y ∷ ys) x a t = elim (two (nat_eq y x)) [
      | inl e ↦ let q : y ≡ x = nat_eq_is y x e in omega (arith, less_cmp 0 y a.0, q)
      | inr e ↦ positive ys x a.1 (sym (ap (λ b. b || has ys x) e) ∙ t)
    ]

pub left_one : (s : List ℕ × ℕ) (facet : List ℕ) (reached : List (List ℕ)) (left now_left : BTreeSet (List ℕ)) → facet ≡ facet_of s → contains face_cmp left facet ≡ false → now_left.keys ≡ left.keys → Moved (facet_of s ∷ []) reached left.keys reached now_left.keys
left_one s facet reached left now_left e h n = let P : List ℕ → Type 0 = λ f. Moved (f ∷ []) reached left.keys reached now_left.keys in subst P e (moved_left facet reached left.keys now_left.keys (sym (in_tree left facet) ∙ h) n)

pub taken_one : (s : List ℕ × ℕ) (facet : List ℕ) (reached now_reached : List (List ℕ)) (left now_left : BTreeSet (List ℕ)) → facet ≡ facet_of s → contains face_cmp left facet ≡ true → now_reached ≡ reached ++ facet ∷ [] → ((g : List ℕ) → contains face_cmp now_left g ≡ cond (is_eq (face_cmp facet g)) false (contains face_cmp left g)) → length now_left.keys + 1 ≡ length left.keys → Moved (facet_of s ∷ []) reached left.keys now_reached now_left.keys
taken_one s facet reached now_reached left now_left e h g u n = let P : List ℕ → Type 0 = λ f. Moved (f ∷ []) reached left.keys now_reached now_left.keys in subst P e (moved_taken facet reached left.keys now_reached now_left.keys (sym (in_tree left facet) ∙ h) g
    (λ q. sym (in_tree now_left q) ∙ u q ∙ (λ i. cond (sym (texts_ties facet q) i) false (in_tree left q i))) n)

pub each_at : (P : List ℕ → Type 0) (run : List (List ℕ × ℕ)) (i : ℕ) (s : List ℕ × ℕ) → AllByRecursion P (map facet_of run) → i < length run → s ≡ get_or run i s → P (facet_of s)
each_at P [] i s h l e = absurd (omega (arith, l))
each_at P (t ∷ run) zero s h l e = let Q : List ℕ × ℕ → Type 0 = λ u. P (facet_of u) in subst Q (sym e) h.0
each_at P (t ∷ run) (suc i) s h l e = each_at P run i s h.1 (omega arith) e

pub moved_next : (run : List (List ℕ × ℕ)) (i : ℕ) (s : List ℕ × ℕ) (reached left mid_reached mid_left now_reached now_left : List (List ℕ)) → i < length run → s ≡ get_or run i s → Moved (map facet_of (take i run)) reached left mid_reached mid_left → Moved (facet_of s ∷ []) mid_reached mid_left now_reached now_left → Moved (map facet_of (take (i + 1) run)) reached left now_reached now_left
moved_next run i s reached left mid_reached mid_left now_reached now_left l at m n =
    let e : map facet_of (take i run) ++ facet_of s ∷ [] ≡ map facet_of (take (i + 1) run) = sym (map_append (take i run)) ∙ ap (map facet_of) (ap (λ v. take i run ++ v ∷ []) at ∙ sym (take_more run i s l)) in
    let P : List (List ℕ) → Type 0 = λ fs. Moved fs reached left now_reached now_left in
    subst P e (moved_more (map facet_of (take i run)) (facet_of s ∷ []) reached left mid_reached mid_left now_reached now_left m n)
  where
    map_append : (ss : List (List ℕ × ℕ)) → map facet_of (ss ++ s ∷ []) ≡ map facet_of ss ++ facet_of s ∷ []
    map_append [] = refl
    map_append (t ∷ ss) = ap (λ fs. facet_of t ∷ fs) (map_append ss)

pub taken_len : (b : Bool) (n m : ℕ) → b ≡ true → n + cond b 1 0 ≡ m → n + 1 ≡ m
taken_len true n m e h = h
taken_len false n m e h = clash true refl (sym e)

-- ---- the loop

pub moved_fresh : (old : Bool) (run : List (List ℕ)) (reached left now_reached now_left : List (List ℕ)) → old ≡ false → Moved run reached left now_reached now_left → Moved (over_new old run) reached left now_reached now_left
moved_fresh old run reached left now_reached now_left e m = let P : Bool → Type 0 = λ b. Moved (over_new b run) reached left now_reached now_left in subst P (sym e) m

pub moved_old : (old : Bool) (run : List (List ℕ)) (reached left now_left : List (List ℕ)) → old ≡ true → now_left ≡ left → Moved (over_new old run) reached left reached now_left
moved_old old run reached left now_left e n = let P : Bool → Type 0 = λ b. Moved (over_new b run) reached left reached now_left in let Q : List (List ℕ) → Type 0 = λ us. Moved [] reached left reached us in subst P (sym e) (subst Q (sym n) (moved_none reached left))

-- the facets over a ridge are faces
pub faces_over : (k : ComplexView) (incidences_now : List (List ℕ × ℕ)) (f : List ℕ) (x : ℕ) → IsComplex k → incidences_now ≡ incidences k.facets → is_facet k.facets f ≡ true → has f x ≡ true → (map facet_of (run_of incidences_now (without f x)) ≡ over k.facets (without f x)) × AllByRecursion IsFace (map facet_of (run_of incidences_now (without f x)))
faces_over k incidences_now f x c e t u =
    let same : map facet_of (run_of incidences_now (without f x)) ≡ over k.facets (without f x) = ap (λ ss. map facet_of (run_of ss (without f x))) e ∙ run_is k c (without f x) (record { facet = f; label = x; there = t; used = u; is = refl }) in
    let P : List (List ℕ) → Type 0 = λ fs. AllByRecursion IsFace fs in
    (same, subst P (sym same) (kept k.facets c.pure))
  where
    kept : (fs : List (List ℕ)) → AllByRecursion (IsFacet k.dim) fs → AllByRecursion IsFace (over fs (without f x))
    kept [] h = tt
    kept (g ∷ gs) h = elim (holds g (without f x)) as (λ b. AllByRecursion IsFace (cond b (g ∷ over gs (without f x)) (over gs (without f x)))) [
      | true ↦ (h.0.face, kept gs h.1)
      | false ↦ kept gs h.1
    ]

pub has_at : (xs : List ℕ) (i x : ℕ) → i < length xs → x ≡ get_or xs i x → has xs x ≡ true
has_at [] i x l e = absurd (omega (arith, l))
has_at (y ∷ ys) zero x l e = or_left (nat_eq y x) (has ys x) (ap (nat_eq y) e ∙ nat_eq_same y)
has_at (y ∷ ys) (suc i) x l e = or_right (nat_eq y x) (has ys x) (has_at ys i x (omega arith) e)

pub listed_at : (xs : List (List ℕ)) (i : ℕ) (d : List ℕ) → i < length xs → is_facet xs (get_or xs i d) ≡ true
listed_at [] i d h = absurd (omega (arith, h))
listed_at (x ∷ xs) zero d h = or_left (pointwise nat_eq x x) (is_facet xs x) (same_set_itself x)
listed_at (x ∷ xs) (suc i) d h = or_right (pointwise nat_eq x (get_or xs i d)) (is_facet xs (get_or xs i d)) (listed_at xs i d (omega arith))

-- the state within the loop over the labels of the facet at a position
pub record Within (k : ComplexView) (first : List ℕ) (reached left : List (List ℕ)) (seen : List ℕ → Bool) (next : ℕ) (labels : List ℕ) (so_far : ℕ) : Type 0 where
  pub spread : Spread k.facets first reached left seen
  pub done : Done reached seen next
  pub inside : next < length reached
  pub is : labels ≡ get_or reached next []
  pub before : (j : ℕ) → j < so_far → seen (without labels (get_or labels j 0)) ≡ true

pub within_start : (k : ComplexView) (first facet labels : List ℕ) (reached left : List (List ℕ)) (seen : List ℕ → Bool) (next : ℕ) → Spread k.facets first reached left seen → Done reached seen next → next < length reached → facet ≡ get_or reached next facet → labels ≡ facet → Within k first reached left seen next labels 0
within_start k first facet labels reached left seen next s d l at e = record {
  spread = s;
  done = d;
  inside = l;
  is = e ∙ at ∙ get_or_default reached next facet [] l;
  before = λ j h. absurd (omega (arith, h));
}

-- the facet whose ridges are looked at
pub within_facet : (k : ComplexView) (first : List ℕ) (reached left : List (List ℕ)) (seen : List ℕ → Bool) (next : ℕ) (labels : List ℕ) (i : ℕ) → Within k first reached left seen next labels i → is_facet reached labels ≡ true
within_facet k first reached left seen next labels i w = ap (is_facet reached) w.is ∙ listed_at reached next [] w.inside

pub within_faces : (k : ComplexView) (first : List ℕ) (reached left : List (List ℕ)) (seen : List ℕ → Bool) (next : ℕ) (facet labels ridge : List ℕ) (i x : ℕ) (items shown : List (List ℕ × ℕ)) → IsComplex k → Within k first reached left seen next labels i → i < length labels → x ≡ get_or labels i x → labels ≡ facet → ridge ≡ without facet x → items ≡ incidences k.facets → shown ≡ items → (map facet_of (run_of shown ridge) ≡ over k.facets (without labels x)) × AllByRecursion IsFace (map facet_of (run_of shown ridge))
within_faces k first reached left seen next facet labels ridge i x items shown c w l at ef er e es =
    let r : without labels x ≡ ridge = ap (λ f. without f x) ef ∙ sym er in
    let p = faces_over k shown labels x c (es ∙ e) (spread_in k.facets first reached left seen w.spread labels (within_facet k first reached left seen next labels i w)) (has_at labels i x l at) in
    let P : List ℕ → Type 0 = λ m. (map facet_of (run_of shown m) ≡ over k.facets (without labels x)) × AllByRecursion IsFace (map facet_of (run_of shown m)) in
    subst P r p

pub within_next : (k : ComplexView) (first : List ℕ) (reached left now_reached now_left : List (List ℕ)) (seen now_seen : List ℕ → Bool) (next : ℕ) (facet labels ridge : List ℕ) (i x : ℕ) (items shown : List (List ℕ × ℕ)) → IsComplex k → Within k first reached left seen next labels i → i < length labels → x ≡ get_or labels i x → labels ≡ facet → ridge ≡ without facet x → items ≡ incidences k.facets → shown ≡ items → Moved (over_new (seen ridge) (map facet_of (run_of shown ridge))) reached left now_reached now_left → ((r : List ℕ) → now_seen r ≡ (seen r || pointwise nat_eq ridge r)) → Within k first now_reached now_left now_seen next labels (i + 1)
within_next k first reached left now_reached now_left seen now_seen next facet labels ridge i x items shown c w l at ef er e es m n =
    let r : ridge ≡ without labels x = er ∙ ap (λ f. without f x) (sym ef) in
    let M : List ℕ → Type 0 = λ q. Moved (over_new (seen q) (map facet_of (run_of shown q))) reached left now_reached now_left in
    let N : List ℕ → Type 0 = λ q. (v : List ℕ) → now_seen v ≡ (seen v || pointwise nat_eq q v) in
    let O : List ℕ → Type 0 = λ q. (map facet_of (run_of shown q) ≡ over k.facets (without labels x)) × AllByRecursion IsFace (map facet_of (run_of shown q)) in
    let run : (map facet_of (run_of shown (without labels x)) ≡ over k.facets (without labels x)) × AllByRecursion IsFace (map facet_of (run_of shown (without labels x))) = subst O r (within_faces k first reached left seen next facet labels ridge i x items shown c w l at ef er e es) in
    let ahead : (v : List ℕ) → seen v ≡ true → now_seen v ≡ true = λ v t. n v ∙ or_left (seen v) (pointwise nat_eq ridge v) t in
    record {
      spread = spread_over k first labels x (map facet_of (run_of shown (without labels x))) reached left now_reached now_left seen now_seen c w.spread (within_facet k first reached left seen next labels i w) (has_at labels i x l at) run.0 (subst M r m) (subst N r n);
      done = λ j y h t.
          let same : get_or now_reached j [] ≡ get_or reached j [] = ap (λ us. get_or us j []) m.grows ∙ get_front reached m.more j [] (omega (arith, h, w.inside)) in
          ap (λ f. now_seen (without f y)) same ∙ ahead (without (get_or reached j []) y) (w.done j y h (ap (λ f. has f y) (sym same) ∙ t));
      inside = omega (arith, w.inside, ap length m.grows, length-append reached m.more);
      is = w.is ∙ sym (ap (λ us. get_or us next []) m.grows ∙ get_front reached m.more next [] w.inside);
      before = λ j h. elim (cases_lt j i) [
        | inl lt ↦ ahead (without labels (get_or labels j 0)) (w.before j lt)
        | inr ge ↦
            let same : x ≡ get_or labels j 0 = at ∙ get_or_default labels i x 0 l ∙ ap (λ v. get_or labels v 0) (omega (arith, h, ge)) in
            ap (λ v. now_seen (without labels v)) (sym same) ∙ n (without labels x) ∙ or_right (seen (without labels x)) (pointwise nat_eq ridge (without labels x)) (ap (pointwise nat_eq ridge) (sym r) ∙ same_set_itself ridge)
      ];
    }

pub within_end : (k : ComplexView) (first : List ℕ) (reached left : List (List ℕ)) (seen : List ℕ → Bool) (next : ℕ) (labels : List ℕ) (i : ℕ) → Within k first reached left seen next labels i → length labels ≤ i → Done reached seen (next + 1)
within_end k first reached left seen next labels i w l j x h t = elim (cases_lt j next) [
  | inl lt ↦ w.done j x lt t
  | inr ge ↦
      let e : j ≡ next = omega (arith, h, ge) in
      let f : get_or reached j [] ≡ labels = ap (λ v. get_or reached v []) e ∙ sym w.is in
      let p : (v : ℕ) × (v < length labels) × (get_or labels v 0 ≡ x) = place_of_label labels x (ap (λ m. has m x) (sym f) ∙ t) in
      ap (λ m. seen (without m x)) f ∙ ap (λ v. seen (without labels v)) (sym p.2) ∙ w.before p.0 (omega (arith, p.1, l))
]

pub not_all : (k : ComplexView) (first : List ℕ) (reached left : List (List ℕ)) (seen : List ℕ → Bool) → Spread k.facets first reached left seen → length reached ≤ length k.facets
not_all k first reached left seen s = omega (arith, s.total)

pub none_seen : (s : BTreeSet (List ℕ)) (r : List ℕ) → s.keys ≡ [] → contains face_cmp s r ≡ false
none_seen s r e = in_tree s r ∙ ap (λ fs. is_facet fs r) e

pub none_left : (s : BTreeSet (List ℕ)) → (false ≡ true) ↔ (0 < length s.keys) → s.keys ≡ []
none_left s h = empty s.keys h.1
  where
    empty : (xs : List (List ℕ)) → (0 < length xs → false ≡ true) → xs ≡ []
    empty [] f = refl
    empty (x ∷ xs) f = clash true refl (sym (f (omega arith)))

pub no_less : (s : BTreeSet (List ℕ)) (other : List ℕ) → ((q : List ℕ) → IsTrue (contains face_cmp s q) → is_gt (face_cmp other q) ≡ false) → (g : List ℕ) → is_facet s.keys g ≡ true → face_cmp g other ≡ Less → ⊥
no_less s other h g t less = clash {P = ⊥} (is_gt (face_cmp other g)) (ap is_gt (nat_list_cmp_total.antisymm other g ∙ ap ordering_reverse less)) (h g (in_tree s g ∙ t))

pub rest_sorted : (k : ComplexView) (fs : List (List ℕ)) → IsComplex k → fs ≡ k.facets → IsStrictlySortedBy face_cmp (take (length fs - 1) (drop 1 fs))
rest_sorted k fs c e = let P : List (List ℕ) → Type 0 = λ gs. IsStrictlySortedBy face_cmp gs in subst P (sym (tail_rest fs 1)) (sorted_drop face_cmp 1 fs (subst P (sym e) c.rising))
