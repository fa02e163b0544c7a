-- Stars as they are shown, in the places that they have.
use Rattle.std.proofs.Common.{◌≡◌, ℕ, ◌-◌, ◌<◌, ◌≤◌, List, [], ◌∷◌, ◌++◌, length, take, drop, get_or, set, sym, ◌∙◌, ap, arith}
use Rattle.std.specs.List.{flat_map}
use Rattle.std.proofs.lemmas.List.{map-append, map-set, take_all}
use Rattle.std.proofs.lemmas.List.Folds.{flat_map-map}
use Rattle.std.proofs.Math.Seq.{take-append_seam}
use Rattle.stars.specs.StarViews.{KeptStar, StarList, shown, all_stars, places_in}
use Rattle.stars.specs.Building.{first_rows}
use Rattle.stars.proofs.Finding.{shown_at, length-shown}
use Rattle.stars.proofs.Numbering.{length-numbered}

pub shown_more : (near new : List KeptStar) (s : KeptStar) → new ≡ near ++ s ∷ [] → shown new ≡ shown near ++ s.star ∷ []
shown_more near new s e = ap shown e ∙ map-append (λ (t : KeptStar). t.star) near (s ∷ [])

pub shown_here : (near : List KeptStar) (i : ℕ) (s : KeptStar) → i < length near → s ≡ get_or near i s → s.star ≡ get_or (shown near) i s.star
shown_here near i s l e = ap (λ (t : KeptStar). t.star) e ∙ sym (shown_at near i s s.star l)

pub shown_set : (near : List KeptStar) (i : ℕ) (s : KeptStar) → shown (set near i s) ≡ set (shown near) i s.star
shown_set near i s = map-set (λ (t : KeptStar). t.star) near i s

-- what all of them begin with
pub gathered_all : (m : StarList) (near : List KeptStar) (facets : List (List ℕ)) (j : ℕ) → shown near ≡ all_stars m → length near ≤ j → facets ≡ flat_map (λ s. first_rows s.star) (take j near) → facets ≡ flat_map first_rows (all_stars m)
gathered_all m near facets j es l e = e ∙ ap (flat_map (λ (s : KeptStar). first_rows s.star)) (take_all j near l) ∙ sym (flat_map-map first_rows (λ (s : KeptStar). s.star) near) ∙ ap (flat_map first_rows) es

-- a vector that was lent as a slice
pub refilled : (len : ℕ) (items new : List KeptStar) → len ≡ length items → length new ≡ length items → take len (new ++ drop (length new) items) ≡ new
refilled len items new e g = ap (λ n. take n (new ++ drop (length new) items)) (e ∙ sym g) ∙ take-append_seam new (drop (length new) items)

pub place_inside : (m : StarList) (near : List KeptStar) (place : ℕ) → shown near ≡ all_stars m → 0 < place → place ≤ places_in m → place - 1 < length near
place_inside m near place e low high = omega (arith, low, high, length-shown near, ap length e, length-numbered m.dim 0 m.stars)
