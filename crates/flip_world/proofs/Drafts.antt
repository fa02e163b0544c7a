-- A list of flips is one exchange of facets.
use Rattle.std.proofs.Common.{◌≡◌, ℕ, ◌<◌, Bool, true, false, not, ◌||◌, ◌&&◌, List, [], ◌∷◌, ◌++◌, length, Ok, Err, Some, None, IsSome, sym, ◌∙◌, ap, refl, subst, arith, length-append}
use Rattle.std.specs.List.{AllByRecursion}
use Rattle.std.specs.List.Sorted.{IsStrictlySortedBy}
use Rattle.std.specs.Cmp.Lexicographic.{nat_list_cmp_total}
use Rattle.std.proofs.lemmas.List.Kept.{IsStrictlySortedBy-filter}
use Rattle.complex_core.specs.Labels.{IsFace, holds, face_cmp}
use Rattle.complex_core.specs.Rising.{rising}
use Rattle.complex_core.specs.Complexes.{ComplexView, IsComplex, IsFacet, over, staying, is_facet}
use Rattle.complex_core.proofs.Sets.{sorted_none, sorted_rising, each_rising, some_rising}
use Rattle.complex_core.proofs.Laws.{listed, listed-append, listed-filter, listed-rising, same_lists}
use Rattle.flip_rules.specs.Flips.{join_boundary, broken_rule, flipped, if_legal, replay, Legal, CanPut, IsNear}
use Rattle.flip_rules.specs.declared.flip.Flip.{Flip}
use Rattle.flip_rules.proofs.Legal.{legal, can_put}
use Rattle.flip_rules.proofs.Links.{staying_sides}
use Rattle.flip_world.specs.Drafts.{Exchanges, IsDraft, SeenOver}
use Rattle.core_laws.specs.Cores.{after}
use Rattle.core_laws.proofs.Replays.{replay_end, some_same}
use Rattle.flip_rules.proofs.Replays.{replay_dim, complex_flipped}
use Rattle.complex_core.proofs.Sorting.{each_append, each_filter}

-- the last of some flips, made where the ones before it end
pub record LastFlip (k m : ComplexView) (fs : List Flip) (f : Flip) : Type 0 where
  pub there : ComplexView
  pub before : replay k fs ≡ Some there
  pub legal : broken_rule there f.a f.b ≡ Ok tt
  pub made : m ≡ flipped there f.a f.b

pub last_flip : (k m : ComplexView) (fs : List Flip) (f : Flip) → replay k (fs ++ f ∷ []) ≡ Some m → LastFlip k m fs f
last_flip k m [] f e =
    elim (broken_rule k f.a f.b) as (λ r. broken_rule k f.a f.b ≡ r → if_legal r (Some (flipped k f.a f.b)) ≡ Some m → LastFlip k m [] f) [
      | Ok u ↦ λ t g. record { there = k; before = refl; legal = t; made = sym (some_same (flipped k f.a f.b) m g) }
      | Err x ↦ λ t g. absurd (none_some m g)
    ] refl e
  where
    none_some : (m : ComplexView) → None ≡ Some m → ⊥
    none_some m f = cc
last_flip k m (g ∷ gs) f e =
    elim (broken_rule k g.a g.b) as (λ r. broken_rule k g.a g.b ≡ r → if_legal r (replay (flipped k g.a g.b) (gs ++ f ∷ [])) ≡ Some m → LastFlip k m (g ∷ gs) f) [
      | Ok u ↦ λ t h.
          let l : LastFlip (flipped k g.a g.b) m gs f = last_flip (flipped k g.a g.b) m gs f h in
          record { there = l.there; before = ap (λ r. if_legal r (replay (flipped k g.a g.b) gs)) t ∙ l.before; legal = l.legal; made = l.made }
      | Err x ↦ λ t h. absurd (none_some m h)
    ] refl e
  where
    none_some : (m : ComplexView) → None ≡ Some m → ⊥
    none_some m f = cc

-- ---- facts of each set of a list

-- ---- the exchange

-- what is left of K when sets go out, and with others put in
listed_left : (fs out more : List (List ℕ)) (f : List ℕ) → listed (rising face_cmp (staying fs out ++ more)) f ≡ ((listed fs f && not (listed out f)) || listed more f)
listed_left fs out more f = listed-rising (staying fs out ++ more) f ∙ listed-append (staying fs out) more f ∙ ap (λ c. c || listed more f) (listed-filter (λ g. not (is_facet out g)) fs f)

-- two exchanges in a row are one
in_a_row : (k o m g s : Bool) → ((((k && not o) || m) && not g) || s) ≡ ((k && not (o || g)) || ((m && not g) || s))
in_a_row true true true true true = refl
in_a_row true true true true false = refl
in_a_row true true true false true = refl
in_a_row true true true false false = refl
in_a_row true true false true true = refl
in_a_row true true false true false = refl
in_a_row true true false false true = refl
in_a_row true true false false false = refl
in_a_row true false true true true = refl
in_a_row true false true true false = refl
in_a_row true false true false true = refl
in_a_row true false true false false = refl
in_a_row true false false true true = refl
in_a_row true false false true false = refl
in_a_row true false false false true = refl
in_a_row true false false false false = refl
in_a_row false true true true true = refl
in_a_row false true true true false = refl
in_a_row false true true false true = refl
in_a_row false true true false false = refl
in_a_row false true false true true = refl
in_a_row false true false true false = refl
in_a_row false true false false true = refl
in_a_row false true false false false = refl
in_a_row false false true true true = refl
in_a_row false false true true false = refl
in_a_row false false true false true = refl
in_a_row false false true false false = refl
in_a_row false false false true true = refl
in_a_row false false false true false = refl
in_a_row false false false false true = refl
in_a_row false false false false false = refl

pub two_exchanges : (fs out more off on : List (List ℕ)) → rising face_cmp (staying (rising face_cmp (staying fs out ++ more)) off ++ on) ≡ rising face_cmp (staying fs (rising face_cmp (out ++ off)) ++ rising face_cmp (staying more off ++ on))
two_exchanges fs out more off on = same_lists _ _ (sorted_rising nat_list_cmp_total (staying (rising face_cmp (staying fs out ++ more)) off ++ on)) (sorted_rising nat_list_cmp_total (staying fs (rising face_cmp (out ++ off)) ++ rising face_cmp (staying more off ++ on))) (λ f.
    listed_left (rising face_cmp (staying fs out ++ more)) off on f
    ∙ ap (λ c. (c && not (listed off f)) || listed on f) (listed_left fs out more f)
    ∙ in_a_row (listed fs f) (listed out f) (listed more f) (listed off f) (listed on f)
    ∙ sym (listed_left fs (rising face_cmp (out ++ off)) (rising face_cmp (staying more off ++ on)) f
    ∙ (λ i. (listed fs f && not ((listed-rising (out ++ off) f ∙ listed-append out off f) i)) || listed_left more off on f i)))

pub no_draft : IsDraft [] [] []
no_draft = record {
  out_rises = sorted_none face_cmp;
  more_rises = sorted_none face_cmp;
  exchanges = λ k m h e. let g : k ≡ m = some_same k m e in nothing k m h g;
}
  where
    all_stay : (fs : List (List ℕ)) → IsStrictlySortedBy face_cmp fs → fs ≡ rising face_cmp (staying fs [] ++ [])
    all_stay fs s = same_lists fs (rising face_cmp (staying fs [] ++ [])) s (sorted_rising nat_list_cmp_total (staying fs [] ++ [])) (λ f. sym (listed_left fs [] [] f ∙ stays (listed fs f)))
      where
        stays : (c : Bool) → ((c && true) || false) ≡ c
        stays true = refl
        stays false = refl

    nothing : (k m : ComplexView) → IsComplex k → k ≡ m → Exchanges k m [] [] []
    nothing k m h g =
        let P : ComplexView → Type 0 = λ n. Exchanges k n [] [] [] in
        subst P g (record { facets = all_stay k.facets h.rising; dim = refl; complex = h; pure = tt; some = λ l. absurd (omega (arith, l)) })

pub draft_push : (fs : List Flip) (out more : List (List ℕ)) (f : Flip) → IsDraft fs out more → IsFace f.a → IsFace f.b → IsDraft (fs ++ f ∷ []) (rising face_cmp (out ++ join_boundary f.a f.b)) (rising face_cmp (staying more (join_boundary f.a f.b) ++ join_boundary f.b f.a))
draft_push fs out more f d fa fb = record {
  out_rises = sorted_rising nat_list_cmp_total (out ++ join_boundary f.a f.b);
  more_rises = sorted_rising nat_list_cmp_total (staying more (join_boundary f.a f.b) ++ join_boundary f.b f.a);
  exchanges = λ k m h e. pushed k m h (last_flip k m fs f e);
}
  where
    pushed : (k m : ComplexView) → IsComplex k → LastFlip k m fs f → Exchanges k m (fs ++ f ∷ []) (rising face_cmp (out ++ join_boundary f.a f.b)) (rising face_cmp (staying more (join_boundary f.a f.b) ++ join_boundary f.b f.a))
    pushed k m h l =
        let x : Exchanges k l.there fs out more = d.exchanges k l.there h l.before in
        let p : CanPut l.there.dim f.a f.b = can_put l.there f.a f.b x.complex fa fb l.legal in
        let pure : AllByRecursion (IsFacet k.dim) (join_boundary f.b f.a) = (let P : ℕ → Type 0 = λ n. AllByRecursion (IsFacet n) (join_boundary f.b f.a) in subst P x.dim p.pure) in
        let law : Legal l.there f.a f.b = legal l.there f.a f.b l.legal in
        record {
          facets =
              ap (λ (n : ComplexView). n.facets) l.made
              ∙ ap (λ gs. rising face_cmp (gs ++ join_boundary f.b f.a)) (sym (staying_sides l.there.facets f.a f.b law.link))
              ∙ ap (λ gs. rising face_cmp (staying gs (join_boundary f.a f.b) ++ join_boundary f.b f.a)) x.facets
              ∙ two_exchanges k.facets out more (join_boundary f.a f.b) (join_boundary f.b f.a);
          dim = ap (λ (n : ComplexView). n.dim) l.made ∙ x.dim;
          complex = (let P : ComplexView → Type 0 = λ n. IsComplex n in subst P (sym l.made) (complex_flipped l.there f.a f.b x.complex fa fb l.legal));
          pure = each_rising face_cmp (IsFacet k.dim) _ (each_append (IsFacet k.dim) _ _ (each_filter (IsFacet k.dim) _ more x.pure) pure);
          some = λ _. some_rising face_cmp (staying more (join_boundary f.a f.b) ++ join_boundary f.b f.a) (omega (arith, length-append (staying more (join_boundary f.a f.b)) (join_boundary f.b f.a), p.some));
        }

-- ---- what is seen over a set

seen_row : (k o m t : Bool) → ((((k && t) && not o) || (m && t)) && t) ≡ (((k && not o) || m) && t)
seen_row true true true true = refl
seen_row true true true false = refl
seen_row true true false true = refl
seen_row true true false false = refl
seen_row true false true true = refl
seen_row true false true false = refl
seen_row true false false true = refl
seen_row true false false false = refl
seen_row false true true true = refl
seen_row false true true false = refl
seen_row false true false true = refl
seen_row false true false false = refl
seen_row false false true true = refl
seen_row false false true false = refl
seen_row false false false true = refl
seen_row false false false false = refl

pub near_seen : (fs : List Flip) (out more run : List (List ℕ)) (set : List ℕ) → IsDraft fs out more → SeenOver fs run set (rising face_cmp (staying (over run set) out ++ over more set))
near_seen fs out more run set d k m h e run_over =
    let x : Exchanges k m fs out more = d.exchanges k m h e in
    same_lists _ _
    (IsStrictlySortedBy-filter face_cmp (λ f. holds f set) _ (sorted_rising nat_list_cmp_total (staying (over run set) out ++ over more set)))
    (IsStrictlySortedBy-filter face_cmp (λ f. holds f set) m.facets x.complex.rising)
    (λ f.
    listed-filter (λ g. holds g set) (rising face_cmp (staying (over run set) out ++ over more set)) f
    ∙ ap (λ c. c && holds f set) (listed_left (over run set) out (over more set) f
    ∙ (λ i. ((ap (λ gs. listed gs f) run_over ∙ listed-filter (λ g. holds g set) k.facets f) i && not (listed out f)) || listed-filter (λ g. holds g set) more f i))
    ∙ seen_row (listed k.facets f) (listed out f) (listed more f) (holds f set)
    ∙ ap (λ c. c && holds f set) (sym (listed_left k.facets out more f) ∙ ap (λ gs. listed gs f) (sym x.facets))
    ∙ sym (listed-filter (λ g. holds g set) m.facets f))

-- ---- the same, where each list is a variable

pub record Near (fs : List Flip) (run : List (List ℕ)) (set : List ℕ) (near : List (List ℕ)) : Type 0 where
  pub over : SeenOver fs run set near
  pub rising : IsStrictlySortedBy face_cmp near

-- a draft of a list that is this one
pub draft_of : (fs gs : List Flip) (out more : List (List ℕ)) → fs ≡ gs → IsDraft fs out more → IsDraft gs out more
draft_of fs gs out more e d = let P : List Flip → Type 0 = λ hs. IsDraft hs out more in subst P e d

pub made_near : (fs : List Flip) (out more run : List (List ℕ)) (set : List ℕ) (held left added near : List (List ℕ)) → IsDraft fs out more → held ≡ over run set → left ≡ staying held out → added ≡ over more set → near ≡ rising face_cmp (left ++ added) → Near fs run set near
made_near fs out more run set held left added near d e1 e2 e3 e4 =
    let e : near ≡ rising face_cmp (staying (over run set) out ++ over more set) =
    e4 ∙ ap (λ gs. rising face_cmp (gs ++ added)) (e2 ∙ ap (λ gs. staying gs out) e1) ∙ ap (λ gs. rising face_cmp (staying (over run set) out ++ gs)) e3 in
    let P : List (List ℕ) → Type 0 = λ gs. Near fs run set gs in
    subst P (sym e) (record { over = near_seen fs out more run set d; rising = sorted_rising nat_list_cmp_total (staying (over run set) out ++ over more set) })

pub made_push : (fs : List Flip) (out more : List (List ℕ)) (f : Flip) (olds news outs left mores : List (List ℕ)) (flips : List Flip) → IsDraft fs out more → IsFace f.a → IsFace f.b → olds ≡ join_boundary f.a f.b → news ≡ join_boundary f.b f.a → outs ≡ rising face_cmp (out ++ olds) → left ≡ staying more olds → mores ≡ rising face_cmp (left ++ news) → flips ≡ fs ++ f ∷ [] → IsDraft flips outs mores
made_push fs out more f olds news outs left mores flips d fa fb e1 e2 e3 e4 e5 e6 =
    let p : outs ≡ rising face_cmp (out ++ join_boundary f.a f.b) = e3 ∙ ap (λ gs. rising face_cmp (out ++ gs)) e1 in
    let q : mores ≡ rising face_cmp (staying more (join_boundary f.a f.b) ++ join_boundary f.b f.a) =
    e5 ∙ ap (λ gs. rising face_cmp (gs ++ news)) (e4 ∙ ap (λ gs. staying more gs) e1) ∙ ap (λ gs. rising face_cmp (staying more (join_boundary f.a f.b) ++ gs)) e2 in
    let P : List Flip → Type 0 = λ gs. IsDraft gs outs mores in
    let Q : List (List ℕ) → Type 0 = λ gs. IsDraft (fs ++ f ∷ []) gs mores in
    let R : List (List ℕ) → Type 0 = λ gs. IsDraft (fs ++ f ∷ []) (rising face_cmp (out ++ join_boundary f.a f.b)) gs in
    subst P (sym e6) (subst Q (sym p) (subst R (sym q) (draft_push fs out more f d fa fb)))

pub made_none : (fs : List Flip) (out more : List (List ℕ)) → fs ≡ [] → out ≡ [] → more ≡ [] → IsDraft fs out more
made_none fs out more e f g =
    let P : List Flip → Type 0 = λ gs. IsDraft gs out more in
    let Q : List (List ℕ) → Type 0 = λ gs. IsDraft [] gs more in
    let R : List (List ℕ) → Type 0 = λ gs. IsDraft [] [] gs in
    subst P (sym e) (subst Q (sym f) (subst R (sym g) no_draft))

-- the flips made on a complex on which they replay
pub record Made (k : ComplexView) (fs : List Flip) (out more : List (List ℕ)) : Type 0 where
  pub is : record k { facets = rising face_cmp (staying k.facets out ++ more) } ≡ after k fs
  pub pure : AllByRecursion (IsFacet k.dim) more
  pub some : 0 < length more

pub made_flips : (k : ComplexView) (fs : List Flip) (out more outs mores : List (List ℕ)) → IsDraft fs out more → IsComplex k → IsSome (replay k fs) → 0 < length fs → outs ≡ out → mores ≡ more → Made k fs outs mores
made_flips k fs out more outs mores d h s l e g =
    let x : Exchanges k (after k fs) fs out more = d.exchanges k (after k fs) h (replay_end k fs s) in
    let P : List (List ℕ) → Type 0 = λ gs. Made k fs gs mores in
    let Q : List (List ℕ) → Type 0 = λ gs. Made k fs out gs in
    subst P (sym e) (subst Q (sym g) (record { is = (λ i. record { dim = sym x.dim i; facets = sym x.facets i }); pure = x.pure; some = x.some l }))

-- the facets near A and near B, after the flips
pub draft_near : (k : ComplexView) (fs : List Flip) (run_a run_b near_a near_b ones others : List (List ℕ)) (a b : List ℕ) (d : ℕ) → IsComplex k → IsSome (replay k fs) → SeenOver fs run_a a near_a → SeenOver fs run_b b near_b → over run_a a ≡ over k.facets a → over run_b b ≡ over k.facets b → ones ≡ near_a → others ≡ near_b → d ≡ k.dim → IsNear (after k fs) d ones others a b
draft_near k fs run_a run_b near_a near_b ones others a b d h s seen_a seen_b ra rb ea eb ed =
    let e : replay k fs ≡ Some (after k fs) = replay_end k fs s in
    record {
      dim = replay_dim k (after k fs) fs e ∙ sym ed;
      first = ap (λ gs. over gs a) ea ∙ seen_a k (after k fs) h e ra;
      second = ap (λ gs. over gs b) eb ∙ seen_b k (after k fs) h e rb;
    }
