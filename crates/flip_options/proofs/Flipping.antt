-- Which legal flips stay so after a flip.
use Rattle.std.proofs.Common.{◌≡◌, ℕ, true, false, ◌&&◌, List, Ok, sym, ◌∙◌, ap, refl, subst, arith, ◌⊎◌, inl, inr}
use Rattle.std.specs.Cmp.{first_so, second_so}
use Rattle.std.specs.Cmp.Derive.{both_true}
use Rattle.std.specs.BTreeMap.{get}
use Rattle.std.specs.List.Sorted.{IsStrictlySortedBy}
use Rattle.std.specs.Ordering.{nat_cmp}
use Rattle.std.proofs.lemmas.List.Kept.{IsStrictlySortedBy-filter}
use Rattle.complex_core.specs.Labels.{has, holds, union, without, face_cmp}
use Rattle.complex_core.specs.Complexes.{ComplexView, IsComplex, over, is_held, is_facet}
use Rattle.complex_core.proofs.Sets.{above_tail}
use Rattle.complex_core.proofs.Runs.{held_alike}
use Rattle.complex_core.proofs.Laws.{both_ways, holds_has, listed, listed-filter, same_labels, same_lists, some_listed}
use Rattle.flip_rules.specs.Flips.{OfFaces, broken_rule, flipped, Legal}
use Rattle.flip_rules.specs.declared.flip.Flip.{Flip}
use Rattle.flip_rules.proofs.Links.{side}
use Rattle.flip_rules.proofs.Legal.{legal, legal_from}
use Rattle.pseudo_test.proofs.Subsets.{holds_without, holds_through, holds_less, lacking}
use Rattle.pseudo_test.proofs.Incident.{found_set}
use Rattle.flip_laws.proofs.Exchange.{Exchange, turned, made_exchange}
use Rattle.descent_laws.specs.Descents.{IsReducing}
use Rattle.descent_laws.proofs.Reducing.{side_there}
use Rattle.flip_options.specs.Candidates.{Candidates, key_cmp, key_of, flip_from, IsRight, IsPart, IsLinked, MeetsSide}
use Rattle.flip_options.specs.Changes.{StayBeside, FlipsStay}
use Rattle.flip_options.proofs.Joining.{holds_itself, union_second}
use Rattle.std.proofs.lemmas.Bool.{false_from_ne_true}
use Rattle.complex_core.proofs.SubsetLists.{two, clash}

module _ (fs gs : List (List ℕ)) (a b w : List ℕ) (e : Exchange fs gs a b w) where
  -- a facet that contains a set outside the changed part stays
  stays_over : (s f : List ℕ) → holds w s ≡ false → listed fs f ≡ true → holds f s ≡ true → listed gs f ≡ true
  stays_over s f out t h = elim (two (holds f a)) [
    | inl p ↦ let x : (x : ℕ) × (has b x ≡ true) × (f ≡ without w x) = e.old.outs f t p in clash (holds w s) (holds_through w (without w x.0) s (holds_without w x.0) (ap (λ g. holds g s) (sym x.2) ∙ h)) out
    | inr p ↦ sym (e.stays f p (e.old.free f t)) ∙ t
  ]

  over_into : (s f : List ℕ) → holds w s ≡ false → (listed fs f && holds f s) ≡ true → (listed gs f && holds f s) ≡ true
  over_into s f out t = let p : listed fs f ≡ true = first_so (listed fs f) (holds f s) t in let q : holds f s ≡ true = second_so (listed fs f) (holds f s) t in both_true (stays_over s f out p q) q

  -- a set that is held stays so, unless it lies in the changed part and has all of A
  pub held_stays : (s : List ℕ) → is_held fs s ≡ true → (holds w s && holds s a) ≡ false → is_held gs s ≡ true
  held_stays s h n =
      let f : (f : List ℕ) × (is_facet fs f ≡ true) × (holds f s ≡ true) = found_set (λ f. holds f s) fs h in
      elim (two (holds f.0 a)) [
        | inr p ↦ some_listed (λ g. holds g s) gs f.0 (sym (e.stays f.0 p (e.old.free f.0 f.1)) ∙ f.1) f.2
        | inl p ↦
            let x : (x : ℕ) × (has b x ≡ true) × (f.0 ≡ without w x) = e.old.outs f.0 f.1 p in
            let in_w : holds w s ≡ true = holds_through w (without w x.0) s (holds_without w x.0) (ap (λ g. holds g s) (sym x.2) ∙ f.2) in
            let z : (z : ℕ) × (has a z ≡ true) × (has s z ≡ false) = lacking s a (ap (λ c. c && holds s a) (sym in_w) ∙ n) in
            some_listed (λ g. holds g s) gs (without w z.0) (e.new.was z.0 z.1) (holds_less w s z.0 in_w z.2)
      ]

-- the facets over a set outside the changed part are the same
pub over_stays : (fs gs : List (List ℕ)) (a b w s : List ℕ) → Exchange fs gs a b w → holds w s ≡ false → over fs s ≡ over gs s
over_stays fs gs a b w s e out = same_lists (over fs s) (over gs s) (IsStrictlySortedBy-filter face_cmp (λ f. holds f s) fs e.old.rises) (IsStrictlySortedBy-filter face_cmp (λ f. holds f s) gs e.new.rises) (λ f.
    listed-filter (λ g. holds g s) fs f
    ∙ both_ways (listed fs f && holds f s) (listed gs f && holds f s) (over_into fs gs a b w e s f out) (over_into gs fs b a w (turned fs gs a b w e) s f out)
    ∙ sym (listed-filter (λ g. holds g s) gs f))

-- a legal flip stays legal, unless its A lies in the changed part, or its B does and has all of what came in
legal_stays : (k l : ComplexView) (a b w c d : List ℕ) → Exchange k.facets l.facets a b w → k.dim ≡ l.dim → holds w c ≡ false → (holds w d && holds d b) ≡ false → Legal k c d → Legal l c d
legal_stays k l a b w c d e n out free h = record {
  shape = record { first = h.shape.first; second = h.shape.second; apart = h.shape.apart; sizes = omega (arith, h.shape.sizes, n) };
  face = sym (held_alike k.facets l.facets c same) ∙ h.face;
  link = sym same ∙ h.link;
  free = false_from_ne_true (is_held l.facets d) (λ t. clash {P = ⊥} (is_held k.facets d) (held_stays l.facets k.facets b a w (turned k.facets l.facets a b w e) d t free) h.free);
}
  where
    same : over k.facets c ≡ over l.facets c
    same = over_stays k.facets l.facets a b w c e out

reducing_stays : (k l : ComplexView) (a b w c d : List ℕ) → Exchange k.facets l.facets a b w → k.dim ≡ l.dim → holds w c ≡ false → (holds w d && holds d b) ≡ false → IsReducing k (flip_from c d) → IsReducing l (flip_from c d)
reducing_stays k l a b w c d e n out free r = record {
  faces = r.faces;
  legal = legal_from l c d (legal_stays k l a b w c d e n out free (legal k c d r.legal));
  high = omega (arith, r.high, n);
}

-- the sides of a flip that is legal before or after are there, where A lies outside
pub linked : (k l : ComplexView) (c d : List ℕ) → over k.facets c ≡ over l.facets c → IsReducing k (flip_from c d) → IsLinked l c d
linked k l c d same r =
    let h : Legal k c d = legal k c d r.legal in
    record {
      rising = above_tail nat_cmp 0 c r.faces.first.rising;
      apart = h.shape.apart;
      there = λ x t. first_so (listed l.facets (side c d x)) (holds (side c d x) c) (sym (listed-filter (λ g. holds g c) l.facets (side c d x)) ∙ ap (λ fs. listed fs (side c d x)) (sym same) ∙ side_there k c d x h t);
    }

part_of : (k l : ComplexView) (w c d : List ℕ) → k.dim ≡ l.dim → holds w c ≡ true → IsReducing k (flip_from c d) → IsPart l w c
part_of k l w c d n t r =
    let h : Legal k c d = legal k c d r.legal in
    record { face = r.faces.first; part = t; some = omega (arith, h.shape.first); few = omega (arith, h.shape.sizes, r.high, n) }

-- a B that has a set which is no face is that set, since the labels of B but one are in a facet
only_side : (k : ComplexView) (c d b : List ℕ) → IsReducing k (flip_from c d) → ((f : List ℕ) → listed k.facets f ≡ true → holds f b ≡ false) → IsStrictlySortedBy nat_cmp b → holds d b ≡ true → d ≡ b
only_side k c d b r free s t = same_labels d b (above_tail nat_cmp 0 d r.faces.second.rising) s (λ z. both_ways (has d z) (has b z) (λ u. inside z u (two (has b z))) (λ u. holds_has d b z t u))
  where
    inside : (z : ℕ) → has d z ≡ true → (has b z ≡ true) ⊎ (has b z ≡ false) → has b z ≡ true
    inside z u (inl p) = p
    inside z u (inr out) = clash (holds (side c d z) b) (holds_through (side c d z) (without d z) b (union_second c (without d z)) (holds_less d b z t out)) (free (side c d z) ((linked k k c d refl r).there z u))

-- so a flip outside the changed part goes only where its B is what came in
stays_beside : (k l : ComplexView) (a b w c d : List ℕ) → Exchange k.facets l.facets a b w → k.dim ≡ l.dim → IsStrictlySortedBy nat_cmp b → holds w c ≡ false → IsReducing k (flip_from c d) → (d ≡ b → ⊥) → IsReducing l (flip_from c d)
stays_beside k l a b w c d e n s out r other = reducing_stays k l a b w c d e n out (false_from_ne_true (holds w d && holds d b) (λ t. other (only_side k c d b r e.old.free s (second_so (holds w d) (holds d b) t)))) r

pub flips_stay : FlipsStay
flips_stay k f h faces t =
    let e : Exchange k.facets (flipped k f.a f.b).facets f.a f.b (union f.a f.b) = made_exchange k f.a f.b h faces.first faces.second (legal k f.a f.b t) in
    record {
      goes = λ c d out r other. stays_beside k (flipped k f.a f.b) f.a f.b (union f.a f.b) c d e refl (above_tail nat_cmp 0 f.b faces.second.rising) out r other;
      comes = λ c d out r other. stays_beside (flipped k f.a f.b) k f.b f.a (union f.a f.b) c d (turned k.facets (flipped k f.a f.b).facets f.a f.b (union f.a f.b) e) refl (above_tail nat_cmp 0 f.a faces.first.rising) out r other;
    }

meets_of : (k l : ComplexView) (b c d : List ℕ) → k.dim ≡ l.dim → over k.facets c ≡ over l.facets c → d ≡ b → IsReducing k (flip_from c d) → MeetsSide l b c
meets_of k l b c d n same q r =
    let h : Legal k c d = legal k c d r.legal in
    let P : List ℕ → Type 0 = λ s. MeetsSide l s c in
    subst P q (record { linked = linked k l c d same r; few = omega (arith, h.shape.sizes, r.high, n); sizes = omega (arith, h.shape.sizes, n) })

not_side : (d b : List ℕ) → holds d b ≡ false → d ≡ b → ⊥
not_side d b f q = clash (holds d b) (ap (λ s. holds s b) q ∙ holds_itself b) f

-- a table that was right before the flip is right after it, where the parts of the changed part and what meets the sides were looked at
step_right : (k l : ComplexView) (a b c : List ℕ) (was now : Candidates) → Exchange k.facets l.facets a b (union a b) → k.dim ≡ l.dim → IsStrictlySortedBy nat_cmp a → IsStrictlySortedBy nat_cmp b → StayBeside k l a b → IsRight k was c → (get key_cmp now (key_of c) ≡ get key_cmp was (key_of c)) ⊎ IsRight l now c → (IsPart l (union a b) c → IsRight l now c) → (MeetsSide l a c → IsRight l now c) → (MeetsSide l b c → IsRight l now c) → IsRight l now c
step_right k l a b c was now e n sa sb stay before (inr right) parts first second = right
step_right k l a b c was now e n sa sb stay before (inl same) parts first second = record {
  sound = λ d g.
      let r : IsReducing k (flip_from c d) = before.sound d (sym same ∙ g) in
      elim (two (holds (union a b) c)) [
        | inl t ↦ (parts (part_of k l (union a b) c d n t r)).sound d g
        | inr out ↦ elim (two (holds d b)) [
          | inl t ↦ (second (meets_of k l b c d n (over_stays k.facets l.facets a b (union a b) c e out) (only_side k c d b r e.old.free sb t) r)).sound d g
          | inr f ↦ stay.goes c d out r (not_side d b f)
        ]
      ];
  complete = λ d r.
      elim (two (holds (union a b) c)) [
        | inl t ↦ (parts (part_of l l (union a b) c d refl t r)).complete d r
        | inr out ↦ elim (two (holds d a)) [
          | inl t ↦ (first (meets_of l l a c d refl refl (only_side l c d a r e.new.free sa t) r)).complete d r
          | inr f ↦ same ∙ before.complete d (stay.comes c d out r (not_side d a f))
        ]
      ];
}

pub flip_right : (k : ComplexView) (f : Flip) (c : List ℕ) (was now : Candidates) → IsComplex k → OfFaces f → broken_rule k f.a f.b ≡ Ok tt → IsRight k was c → (get key_cmp now (key_of c) ≡ get key_cmp was (key_of c)) ⊎ IsRight (flipped k f.a f.b) now c → (IsPart (flipped k f.a f.b) (union f.a f.b) c → IsRight (flipped k f.a f.b) now c) → (MeetsSide (flipped k f.a f.b) f.a c → IsRight (flipped k f.a f.b) now c) → (MeetsSide (flipped k f.a f.b) f.b c → IsRight (flipped k f.a f.b) now c) → IsRight (flipped k f.a f.b) now c
flip_right k f c was now h faces t before each parts first second = step_right k (flipped k f.a f.b) f.a f.b c was now (made_exchange k f.a f.b h faces.first faces.second (legal k f.a f.b t)) refl (above_tail nat_cmp 0 f.a faces.first.rising) (above_tail nat_cmp 0 f.b faces.second.rising) (flips_stay k f h faces t) before each parts first second
