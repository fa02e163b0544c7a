-- Flips one after another and another naming of the labels commute.
use Rattle.std.proofs.Common.{◌≡◌, ℕ, true, List, [], ◌∷◌, Result, Ok, Err, Option, Some, None, sym, ◌∙◌, ap, refl, subst}
use Rattle.std.specs.Option.{option_map}
use Rattle.std.specs.Cmp.{first_so, second_so}
use Rattle.std.proofs.lemmas.Option.{none-some, same_Some}
use Rattle.complex_core.specs.Complexes.{ComplexView}
use Rattle.complex_core.specs.Maps.{renamed}
use Rattle.flip_rules.specs.declared.flip.Flip.{Flip}
use Rattle.flip_rules.specs.declared.flip.Illegal.{Illegal}
use Rattle.flip_rules.specs.Flips.{broken_rule, flipped, if_legal, replay}
use Rattle.flip_rules.specs.Boundaries.{IsBoundary}
use Rattle.flip_rules.proofs.Replays.{first_flip, complex_flipped}
use Rattle.flip_names.specs.Names.{named_flip, named_flips, takes_flip, takes_flips}
use Rattle.flip_names.specs.Laws.{Renames, RenamesAll, ReplayCommutes, ReplayStaysTaken, ReplayIsKept, CertificateIsKept}
use Rattle.flip_names.proofs.Flips.{broken_rule_commutes, flip_commutes, flip_stays_taken}
use Rattle.flip_names.proofs.Back.{one_complex}
use Rattle.flip_names.proofs.Boundaries.{boundary_is_kept}

takes_here : (m : List (ℕ × ℕ)) (f : Flip) (fs : List Flip) → takes_flips m (f ∷ fs) ≡ true → takes_flip m f ≡ true
takes_here m f fs t = first_so (takes_flip m f) (takes_flips m fs) t

-- after a legal flip the map takes the labels of the complex, and of the flips that are left
pub renames_next : (m : List (ℕ × ℕ)) (k : ComplexView) (f : Flip) (fs : List Flip) → RenamesAll m k (f ∷ fs) → broken_rule k f.a f.b ≡ Ok tt → RenamesAll m (flipped k f.a f.b) fs
renames_next m k f fs r e = record {
  complex = record {
    is_map = r.complex.is_map;
    complex = complex_flipped k f.a f.b r.complex.complex r.faces.0.first r.faces.0.second e;
    taken = flip_stays_taken m k f r.complex.taken (takes_here m f fs r.taken);
  };
  faces = r.faces.1;
  taken = second_so (takes_flip m f) (takes_flips m fs) r.taken;
}

-- a flip by the first rule that it breaks, and those behind it
by_rule : (m : List (ℕ × ℕ)) (r : Result (Unit {0}) Illegal) (rest : Option ComplexView) (named : Option ComplexView) → (r ≡ Ok tt → named ≡ option_map (λ l. renamed l m) rest) → if_legal r named ≡ option_map (λ l. renamed l m) (if_legal r rest)
by_rule m (Ok u) rest named h = h refl
by_rule m (Err e) rest named h = refl

pub replay_commutes : ReplayCommutes
replay_commutes m k [] r = refl
replay_commutes m k (f ∷ fs) r =
    let t : takes_flip m f ≡ true = takes_here m f fs r.taken in
    ap (λ w. if_legal w (replay (flipped (renamed k m) (named_flip m f).a (named_flip m f).b) (named_flips m fs))) (broken_rule_commutes m k f r.complex r.faces.0 t)
    ∙ by_rule m (broken_rule k f.a f.b) (replay (flipped k f.a f.b) fs) (replay (flipped (renamed k m) (named_flip m f).a (named_flip m f).b) (named_flips m fs))
    (λ e. ap (λ l. replay l (named_flips m fs)) (sym (flip_commutes m k f r.complex t)) ∙ replay_commutes m (flipped k f.a f.b) fs (renames_next m k f fs r e))

pub replay_stays_taken : ReplayStaysTaken
replay_stays_taken m k l [] r e = let P : ComplexView → Type 0 = λ n. Renames m n in subst P (same_Some k l e) r.complex
replay_stays_taken m k l (f ∷ fs) r e =
    let p : (broken_rule k f.a f.b ≡ Ok tt) × (replay (flipped k f.a f.b) fs ≡ Some l) = first_flip k l f fs e in
    replay_stays_taken m (flipped k f.a f.b) l fs (renames_next m k f fs r p.0) p.1

-- the named flips lead to the renamed end
pub leads_there : (m : List (ℕ × ℕ)) (k l : ComplexView) (fs : List Flip) → RenamesAll m k fs → replay k fs ≡ Some l → replay (renamed k m) (named_flips m fs) ≡ Some (renamed l m)
leads_there m k l fs r e = replay_commutes m k fs r ∙ ap (option_map (λ n. renamed n m)) e

-- and to no other one
came_from : (m : List (ℕ × ℕ)) (n : ComplexView) (o : Option ComplexView) → option_map (λ l. renamed l m) o ≡ Some n → (l : ComplexView) × (o ≡ Some l) × (renamed l m ≡ n)
came_from m n None e = absurd (none-some n e)
came_from m n (Some l) e = (l, refl, same_Some (renamed l m) n e)

pub leads_back : (m : List (ℕ × ℕ)) (k n : ComplexView) (fs : List Flip) → RenamesAll m k fs → replay (renamed k m) (named_flips m fs) ≡ Some n → (l : ComplexView) × (replay k fs ≡ Some l) × (renamed l m ≡ n)
leads_back m k n fs r e = came_from m n (replay k fs) (sym (replay_commutes m k fs r) ∙ e)

pub replay_is_kept : ReplayIsKept
replay_is_kept m k l fs r rl = (
  leads_there m k l fs r,
  λ e.
      let q : (n : ComplexView) × (replay k fs ≡ Some n) × (renamed n m ≡ renamed l m) = leads_back m k (renamed l m) fs r e in
      q.1 ∙ ap Some (one_complex m q.0 l (replay_stays_taken m k q.0 fs r q.1) rl q.2),
)

pub certificate_is_kept : CertificateIsKept
certificate_is_kept m k fs r = (
  λ c. record {
    end = renamed c.end m;
    replays = leads_there m k c.end fs r c.replays;
    boundary = (boundary_is_kept m c.end (replay_stays_taken m k c.end fs r c.replays)).0 c.boundary;
  },
  λ c.
      let q : (l : ComplexView) × (replay k fs ≡ Some l) × (renamed l m ≡ c.end) = leads_back m k c.end fs r c.replays in
      let P : ComplexView → Type 0 = λ l. IsBoundary l in
      record {
        end = q.0;
        replays = q.1;
        boundary = (boundary_is_kept m q.0 (replay_stays_taken m k q.0 fs r q.1)).1 (subst P (sym q.2) c.boundary);
      },
)
