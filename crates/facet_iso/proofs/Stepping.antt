-- A step of a trial: the images of the facets so far determine the next one's.
use Rattle.std.proofs.Common.{zero, suc, ◌≡◌, ◌≢◌, ℕ, ◌<◌, ◌≤◌, true, false, cond, nat_eq, ◌||◌, List, [], ◌∷◌, ◌++◌, length, map, get_or, sym, ◌∙◌, ap, refl, subst, arith, inl, inr, Option, Some, None, is_some, IfSome}
use Rattle.std.proofs.lemmas.Bool.{cases_lt}
use Rattle.std.proofs.lemmas.List.{get_or_default, length-append}
use Rattle.complex_core.specs.Labels.{IsFace, has, with, without}
use Rattle.complex_core.specs.Complexes.{ComplexView, is_facet}
use Rattle.complex_core.specs.Maps.{at, face_image}
use Rattle.complex_core.proofs.Laws.{has-with, nat_eq_is, nat_eq_same, or_left, or_right}
use Rattle.complex_core.proofs.Members.{label_low, without_has}
use Rattle.complex_core.proofs.SetLists.{pure_at}
use Rattle.complex_core.proofs.SubsetLists.{two, clash}
use Rattle.pseudo_test.specs.Incidences.{incidences, run_of}
use Rattle.pseudo_test.proofs.Spreading.{listed_at}
use Rattle.facet_iso.specs.Isomorphisms.{Takes, least_facet, ordered_image}
use Rattle.facet_iso.specs.Searches.{alike, IsSearch}
use Rattle.facet_iso.specs.Trials.{Agrees, image_in, IsAcross, IsGiven, IsNext, IsSpread, NoneOrdered}
use Rattle.facet_iso.specs.declared.search.Search.{Search}
use Rattle.facet_iso.specs.declared.walk.Step.{Step}
use Rattle.facet_iso.proofs.Images.{facet_to, in_image}
use Rattle.facet_iso.proofs.Neighbours.{across_is, next_image}
use Rattle.facet_iso.proofs.Counted.{images_alike}

module _ (k l : ComplexView) (s : Search) (order : List ℕ) (reached faces : List (List ℕ)) (images : ℕ → Option ℕ) (step : Step) (h : IsSearch k l s) (n : IsNext k reached faces step) (g : IsSpread k l order reached (length faces) images faces) where
  abbrev from : List ℕ
  from = get_or reached step.from []

  abbrev next : List ℕ
  next = with (without from step.left) step.taken

  next_is : get_or reached (length faces) [] ≡ next
  next_is = ap (λ p. get_or reached p []) n.here ∙ n.leads.to

  from_facet : is_facet k.facets from ≡ true
  from_facet = n.facets from (listed_at reached step.from [] (omega (arith, n.leads.earlier, n.here, n.inside)))

  next_facet : is_facet k.facets next ≡ true
  next_facet = ap (is_facet k.facets) (sym next_is) ∙ n.facets (get_or reached (length faces) []) (listed_at reached (length faces) [] n.inside)

  next_other : next ≢ from
  next_other e = n.leads.other (n.leads.to ∙ e)

  taken_used : has next step.taken ≡ true
  taken_used = has-with (without from step.left) step.taken step.taken ∙ or_left (nat_eq step.taken step.taken) (has (without from step.left) step.taken) (nat_eq_same step.taken)

  -- what was found over the image of the ridge
  module _ (left : ℕ) (face ridge : List ℕ) (shown : List (List ℕ × ℕ)) (result : Option ℕ) (el : images step.left ≡ Some left) (ef : face ≡ get_or faces step.from face) (er : ridge ≡ without face left) (es : shown ≡ s.incidences.items) (a : IsAcross (run_of shown ridge) left result) where
    module _ (m : List (ℕ × ℕ)) (t : Takes k l m) (o : ordered_image k m ≡ order) where
      left_is : at m step.left ≡ left
      left_is = g.agrees m t o step.left left el

      ridge_is : ridge ≡ without (face_image m from) (at m step.left)
      ridge_is = er ∙ ap (λ f. without f left) (ef ∙ get_or_default faces step.from face [] before ∙ g.onto m t o step.from before) ∙ ap (without (face_image m from)) (sym left_is)
        where
          before : step.from < length faces
          before = omega (arith, n.leads.earlier, n.here)

      found : result ≡ Some (at m step.taken)
      found =
          let P : List ℕ → ℕ → List (List ℕ × ℕ) → Type 0 = λ r x ss. IsAcross (run_of ss r) x result in
          let b : P (without (face_image m from) (at m step.left)) left shown = let Q : List ℕ → Type 0 = λ r. P r left shown in subst Q ridge_is a in
          let d : P (without (face_image m from) (at m step.left)) (at m step.left) shown = let Q : ℕ → Type 0 = λ x. P (without (face_image m from) (at m step.left)) x shown in subst Q (sym left_is) b in
          let e : P (without (face_image m from) (at m step.left)) (at m step.left) (incidences l.facets) = let Q : List (List ℕ × ℕ) → Type 0 = λ ss. P (without (face_image m from) (at m step.left)) (at m step.left) ss in subst Q (es ∙ h.incidences) d in
          across_is k l h.first m t from step.left step.taken from_facet n.leads.used next_facet next_other h.second h.thin result e

      found_is : (z : ℕ) → result ≡ Some z → at m step.taken ≡ z
      found_is z e = let q : Some (at m step.taken) ≡ Some z = sym found ∙ e in cc

      image_is : (z : ℕ) → result ≡ Some z → with ridge z ≡ face_image m next
      image_is z e = (λ i. with (ridge_is i) (sym (found_is z e) i)) ∙ next_image k l h.first m t from step.left step.taken from_facet n.leads.used next_facet next_other h.second

      image_face : IsFace (face_image m next)
      image_face = (pure_at l.dim l.facets (face_image m next) h.second.pure (facet_to k l m t next next_facet)).face

    pub none_across : result ≡ None → NoneOrdered k l order
    none_across e m t o = let q : Some (at m step.taken) ≡ None = sym (found m t o) ∙ e in cc

    pub none_with : (z : ℕ) → result ≡ Some z → ((0 < z) × (length (with ridge z) ≤ 8) → ⊥) → NoneOrdered k l order
    none_with z e f m t o =
        let i : with ridge z ≡ face_image m next = image_is m t o z e in
        let p : 0 < at m step.taken = label_low (face_image m next) (at m step.taken) (image_face m t o) (in_image m next step.taken taken_used) in
        f (omega (arith, p, found_is m t o z e), omega (arith, ap length i, (image_face m t o).few))

    pub none_agrees : (z : ℕ) → result ≡ Some z → ((p : ℕ → ℕ) → Agrees p images → p step.taken ≡ z → alike s step.taken (p step.taken) ≡ false) → NoneOrdered k l order
    none_agrees z e f m t o =
        let i : at m step.taken ≡ z = found_is m t o z e in
        clash (alike s step.taken (at m step.taken)) (images_alike k l s m next step.taken h t next_facet taken_used) (f (at m) (g.agrees m t o) i)

    -- with one more image
    module _ (z : ℕ) (e : result ≡ Some z) (made : List ℕ) (em : made ≡ with ridge z) (low : 0 < z) (now : ℕ → Option ℕ) (given : IsGiven images step.taken z now) (again : IfSome (images step.taken) (λ known. known ≡ z)) where
      is_taken : (w v : ℕ) → nat_eq step.taken w ≡ true → images w ≡ Some v → v ≡ z
      is_taken w v b q = same (images step.taken) again (ap images (nat_eq_is step.taken w b) ∙ q)
        where
          same : (o : Option ℕ) → IfSome o (λ known. known ≡ z) → o ≡ Some v → v ≡ z
          same None p r = cc
          same (Some u) p r = cc

      new_at : (w : ℕ) → nat_eq step.taken w ≡ true → now w ≡ Some z
      new_at w b = given w ∙ ap (λ c. cond c (Some z) (images w)) b

      old_at : (w : ℕ) → nat_eq step.taken w ≡ false → now w ≡ images w
      old_at w b = given w ∙ ap (λ c. cond c (Some z) (images w)) b

      keeps : (w v : ℕ) → images w ≡ Some v → now w ≡ Some v
      keeps w v q = elim (two (nat_eq step.taken w)) [
        | inl b ↦ new_at w b ∙ ap Some (sym (is_taken w v b q))
        | inr b ↦ old_at w b ∙ q
      ]

      still : (w : ℕ) → is_some (images w) ≡ true → is_some (now w) ≡ true
      still w q = elim (two (nat_eq step.taken w)) [
        | inl b ↦ ap is_some (new_at w b)
        | inr b ↦ ap is_some (old_at w b) ∙ q
      ]

      known_next : (w : ℕ) → has next w ≡ true → is_some (now w) ≡ true
      known_next w q = elim (two (nat_eq step.taken w)) [
        | inl b ↦ ap is_some (new_at w b)
        | inr b ↦ still w (g.known step.from w (omega (arith, n.leads.earlier, n.here)) (without_has from step.left w (sym (ap (λ c. c || has (without from step.left) w) b) ∙ sym (has-with (without from step.left) step.taken w) ∙ q)))
      ]

      same_images : (ws : List ℕ) → ((w : ℕ) → has ws w ≡ true → is_some (images w) ≡ true) → map (image_in now) ws ≡ map (image_in images) ws
      same_images [] f = refl
      same_images (w ∷ ws) f = λ i. same w (f w (or_left (nat_eq w w) (has ws w) (nat_eq_same w))) i ∷ same_images ws (λ v q. f v (or_right (nat_eq w v) (has ws v) q)) i
        where
          same : (w : ℕ) → is_some (images w) ≡ true → image_in now w ≡ image_in images w
          same w q = elim (images w) as (λ o. images w ≡ o → is_some o ≡ true → image_in now w ≡ image_in images w) [
            | None ↦ λ _ r. clash true refl (sym r)
            | Some v ↦ λ r _. let a : now w ≡ Some v = keeps w v r in let b : now w ≡ images w = a ∙ sym r in ap (λ o. image_in (λ x. o) 0) b
          ] refl q

      pub spread_on : (grown : List (List ℕ)) → grown ≡ faces ++ made ∷ [] → IsSpread k l order reached (length grown) now grown
      spread_on grown eg = record {
        known = λ j w b q. elim (cases_lt j (length faces)) [
          | inl lt ↦ still w (g.known j w lt q)
          | inr ge ↦ known_next w (ap (λ f. has f w) (sym next_is ∙ ap (λ p. get_or reached p []) (last j b ge)) ∙ q)
        ];
        positive = λ w v q. elim (two (nat_eq step.taken w)) [
          | inl b ↦ let r : Some z ≡ Some v = sym (new_at w b) ∙ q in let r2 : z ≡ v = cc in omega (arith, r2, low)
          | inr b ↦ g.positive w v (sym (old_at w b) ∙ q)
        ];
        starts = same_images (least_facet k) (λ w q. g.known 0 w (omega (arith, n.here)) (ap (λ f. has f w) n.begins ∙ q)) ∙ g.starts;
        agrees = λ m t o w v q. elim (two (nat_eq step.taken w)) [
          | inl b ↦ let r : Some z ≡ Some v = sym (new_at w b) ∙ q in let r2 : z ≡ v = cc in ap (at m) (sym (nat_eq_is step.taken w b)) ∙ found_is m t o z e ∙ r2
          | inr b ↦ g.agrees m t o w v (sym (old_at w b) ∙ q)
        ];
        onto = λ m t o j b. elim (cases_lt j (length faces)) [
          | inl lt ↦ ap (λ fs. get_or fs j []) eg ∙ get_front faces made j lt ∙ g.onto m t o j lt
          | inr ge ↦ ap (λ fs. get_or fs j []) eg ∙ ap (λ p. get_or (faces ++ made ∷ []) p []) (sym (last j b ge)) ∙ get_last faces made ∙ em ∙ image_is m t o z e ∙ ap (face_image m) (sym next_is ∙ ap (λ p. get_or reached p []) (last j b ge))
        ];
      }
        where
          last : (j : ℕ) → j < length grown → length faces ≤ j → length faces ≡ j
          last j b ge = omega (arith, b, ge, ap length eg, length-append faces (made ∷ []))

          get_front : (xs : List (List ℕ)) (x : List ℕ) (j : ℕ) → j < length xs → get_or (xs ++ x ∷ []) j [] ≡ get_or xs j []
          get_front [] x j b = absurd (omega (arith, b))
          get_front (y ∷ ys) x zero b = refl
          get_front (y ∷ ys) x (suc j) b = get_front ys x j (omega (arith, b))

          get_last : (xs : List (List ℕ)) (x : List ℕ) → get_or (xs ++ x ∷ []) (length xs) [] ≡ x
          get_last [] x = refl
          get_last (y ∷ ys) x = get_last ys x
