-- A replay is one exchange of facets.
use Rattle.std.proofs.Common.{◌≡◌, ◌<◌, ℕ, Bool, true, false, not, ◌||◌, ◌&&◌, List, [], ◌∷◌, ◌++◌, length, Ok, Some, sym, ◌∙◌, ap, refl, subst, append_assoc, length-append, arith}
use Rattle.std.specs.List.{AllByRecursion}
use Rattle.std.specs.List.Sorted.{IsStrictlySortedBy}
use Rattle.std.specs.Cmp.Lexicographic.{nat_list_cmp_total}
use Rattle.std.proofs.lemmas.List.{append-nil}
use Rattle.std.proofs.lemmas.Option.{same_Some}
use Rattle.complex_core.specs.Labels.{holds, face_cmp}
use Rattle.complex_core.specs.Rising.{rising}
use Rattle.complex_core.specs.Complexes.{ComplexView, IsComplex, IsFacet, beside, staying}
use Rattle.complex_core.proofs.Sets.{sorted_rising}
use Rattle.complex_core.proofs.Laws.{listed, listed-append, listed-filter, listed-rising, same_lists}
use Rattle.flip_rules.specs.Flips.{join_boundary, broken_rule, flipped, replay, OfFaces, Legal, CanPut}
use Rattle.flip_rules.specs.Exchanges.{taken_out, put_in, put_in_after, exchanged_by}
use Rattle.flip_rules.specs.Laws.{ReplayIsExchange, PutInIsPure}
use Rattle.flip_rules.specs.declared.flip.Flip.{Flip}
use Rattle.flip_rules.proofs.Legal.{legal, can_put}
use Rattle.flip_rules.proofs.Links.{listed-flipped}
use Rattle.flip_rules.proofs.Replays.{first_flip, complex_flipped}
use Rattle.complex_core.proofs.Sorting.{each_append, each_filter}

-- the second complex is the first one with some facets taken out and others put in
pub record IsExchange (k : ComplexView) (out more : List (List ℕ)) (l : ComplexView) : Type 0 where
  pub dim : l.dim ≡ k.dim
  pub rises : IsStrictlySortedBy face_cmp l.facets
  pub same : (f : List ℕ) → listed l.facets f ≡ ((listed k.facets f && not (listed out f)) || listed more f)

pub no_exchange : (k : ComplexView) → IsStrictlySortedBy face_cmp k.facets → IsExchange k [] [] k
no_exchange k s = record { dim = refl; rises = s; same = λ f. sym (kept (listed k.facets f)) }
  where
    kept : (b : Bool) → ((b && not false) || false) ≡ b
    kept true = refl
    kept false = refl

listed-staying : (fs out : List (List ℕ)) (f : List ℕ) → listed (staying fs out) f ≡ (listed fs f && not (listed out f))
listed-staying fs out f = listed-filter (λ g. not (listed out g)) fs f

-- where A's link is that of the flip, the facets that contain A are its sides
listed_over : (l : ComplexView) (a b f : List ℕ) → Legal l a b → (listed l.facets f && holds f a) ≡ listed (join_boundary a b) f
listed_over l a b f h = sym (listed-filter (λ g. holds g a) l.facets f) ∙ ap (λ fs. listed fs f) h.link ∙ listed-rising (join_boundary a b) f

-- a legal flip after an exchange is one exchange with it
pub exchange_then : (k l : ComplexView) (out more : List (List ℕ)) (a b : List ℕ) → IsExchange k out more l → broken_rule l a b ≡ Ok tt → IsExchange k (out ++ join_boundary a b) (staying more (join_boundary a b) ++ join_boundary b a) (flipped l a b)
exchange_then k l out more a b h e = record {
  dim = h.dim;
  rises = sorted_rising nat_list_cmp_total (beside l.facets a ++ join_boundary b a);
  same = λ f.
      listed-flipped l a b f
      ∙ ap (λ t. t || listed (join_boundary b a) f) (without_sides (listed l.facets f) (holds f a) (listed (join_boundary a b) f) (listed_over l a b f (legal l a b e)))
      ∙ ap (λ t. (t && not (listed (join_boundary a b) f)) || listed (join_boundary b a) f) (h.same f)
      ∙ regrouped (listed k.facets f) (listed out f) (listed more f) (listed (join_boundary a b) f) (listed (join_boundary b a) f)
      ∙ sym (λ i. (listed k.facets f && not (listed-append out (join_boundary a b) f i)) || (listed-append (staying more (join_boundary a b)) (join_boundary b a) f ∙ ap (λ t. t || listed (join_boundary b a) f) (listed-staying more (join_boundary a b) f)) i);
}
  where
    without_sides : (p q r : Bool) → (p && q) ≡ r → (p && not q) ≡ (p && not r)
    without_sides true q r h = ap not h
    without_sides false q r h = refl

    regrouped : (k o m s t : Bool) → ((((k && not o) || m) && not s) || t) ≡ ((k && not (o || s)) || ((m && not s) || t))
    regrouped true true true true t = refl
    regrouped true true true false t = refl
    regrouped true true false true t = refl
    regrouped true true false false t = refl
    regrouped true false true true t = refl
    regrouped true false true false t = refl
    regrouped true false false true t = refl
    regrouped true false false false t = refl
    regrouped false o true true t = refl
    regrouped false o true false t = refl
    regrouped false o false s t = refl

-- so is a replay
pub exchange_all : (k l m : ComplexView) (out more : List (List ℕ)) (fs : List Flip) → IsExchange k out more l → replay l fs ≡ Some m → IsExchange k (out ++ taken_out fs) (put_in_after more fs) m
exchange_all k l m out more [] h r =
    let P : List (List ℕ) → Type 0 = λ o. IsExchange k o more m in
    subst P (sym (append-nil out)) (subst (λ (n : ComplexView). IsExchange k out more n) (same_Some l m r) h)
exchange_all k l m out more (f ∷ fs) h r =
    let p : (broken_rule l f.a f.b ≡ Ok tt) × (replay (flipped l f.a f.b) fs ≡ Some m) = first_flip l m f fs r in
    let P : List (List ℕ) → Type 0 = λ o. IsExchange k o (put_in_after more (f ∷ fs)) m in
    subst P (append_assoc out (join_boundary f.a f.b) (taken_out fs))
    (exchange_all k (flipped l f.a f.b) m (out ++ join_boundary f.a f.b) (staying more (join_boundary f.a f.b) ++ join_boundary f.b f.a) fs (exchange_then k l out more f.a f.b h p.0) p.1)

-- what was exchanged is the exchange
pub exchange_is : (k l : ComplexView) (out more : List (List ℕ)) → IsExchange k out more l → l ≡ exchanged_by k out more
exchange_is k l out more h =
    let e : l.facets ≡ rising face_cmp (staying k.facets out ++ more) =
    same_lists l.facets (rising face_cmp (staying k.facets out ++ more)) h.rises (sorted_rising nat_list_cmp_total (staying k.facets out ++ more))
    (λ f. h.same f ∙ sym (listed-rising (staying k.facets out ++ more) f ∙ listed-append (staying k.facets out) more f ∙ ap (λ t. t || listed more f) (listed-staying k.facets out f))) in
    λ i. record { dim = h.dim i; facets = e i }

pub replay_is_exchange : ReplayIsExchange
replay_is_exchange k m fs h r = exchange_is k m (taken_out fs) (put_in fs) (exchange_all k k m [] [] fs (no_exchange k h.rising) r)

-- ---- the lists grow with the flips

-- ---- what is put in are facets

pure_after : (k m : ComplexView) (more : List (List ℕ)) (fs : List Flip) → IsComplex k → AllByRecursion (IsFacet k.dim) more → AllByRecursion OfFaces fs → replay k fs ≡ Some m → AllByRecursion (IsFacet k.dim) (put_in_after more fs)
pure_after k m more [] h pure faces r = pure
pure_after k m more (f ∷ fs) h pure faces r =
    let p : (broken_rule k f.a f.b ≡ Ok tt) × (replay (flipped k f.a f.b) fs ≡ Some m) = first_flip k m f fs r in
    let c : CanPut k.dim f.a f.b = can_put k f.a f.b h faces.0.first faces.0.second p.0 in
    pure_after (flipped k f.a f.b) m (staying more (join_boundary f.a f.b) ++ join_boundary f.b f.a) fs (complex_flipped k f.a f.b h faces.0.first faces.0.second p.0)
    (each_append (IsFacet k.dim) (staying more (join_boundary f.a f.b)) (join_boundary f.b f.a) (each_filter (IsFacet k.dim) (λ g. not (listed (join_boundary f.a f.b) g)) more pure) c.pure)
    faces.1 p.1

-- what the last flip puts in stays
some_after : (k m : ComplexView) (more : List (List ℕ)) (fs : List Flip) → IsComplex k → AllByRecursion OfFaces fs → replay k fs ≡ Some m → 0 < length more → 0 < length (put_in_after more fs)
some_after k m more [] h faces r some = some
some_after k m more (f ∷ fs) h faces r some =
    let p : (broken_rule k f.a f.b ≡ Ok tt) × (replay (flipped k f.a f.b) fs ≡ Some m) = first_flip k m f fs r in
    let c : CanPut k.dim f.a f.b = can_put k f.a f.b h faces.0.first faces.0.second p.0 in
    some_after (flipped k f.a f.b) m (staying more (join_boundary f.a f.b) ++ join_boundary f.b f.a) fs (complex_flipped k f.a f.b h faces.0.first faces.0.second p.0) faces.1 p.1
    (omega (arith, c.some, length-append (staying more (join_boundary f.a f.b)) (join_boundary f.b f.a)))

pub put_in_pure : PutInIsPure
put_in_pure k m [] h faces r some = absurd (omega (arith, some))
put_in_pure k m (f ∷ fs) h faces r some =
    let p : (broken_rule k f.a f.b ≡ Ok tt) × (replay (flipped k f.a f.b) fs ≡ Some m) = first_flip k m f fs r in
    let c : CanPut k.dim f.a f.b = can_put k f.a f.b h faces.0.first faces.0.second p.0 in
    record {
      some = some_after (flipped k f.a f.b) m (join_boundary f.b f.a) fs (complex_flipped k f.a f.b h faces.0.first faces.0.second p.0) faces.1 p.1 c.some;
      pure = pure_after k m [] (f ∷ fs) h tt faces r;
    }
