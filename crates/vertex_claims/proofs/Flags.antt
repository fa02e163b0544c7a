-- The flags of a pass, one for each place.
use Rattle.std.proofs.Common.{◌≡◌, ◌≢◌, ℕ, ◌≤◌, Bool, false, List, get_or, set, sym, ap, ◌∙◌, subst, arith, length-set, get_or-set_same, get_or-set_other}
use mathlib.Core.Logic.{dite}
use native.Mathlib.Decide.{ℕ_discrete}
use Rattle.board_rule.specs.Views.{keeps, pass_view_of}
use Rattle.board_rule.specs.Plays.{Seated}
use Rattle.board_rule.specs.declared.view.View.{View}
use Rattle.vertex_claims.specs.Held.{Flagged, knows}

-- the same places are held
pub flags_same : (m n : Seated) (flags : List Bool) (places : ℕ) → ((q : ℕ) → keeps (knows n) q ≡ keeps (knows m) q) → Flagged m flags places → Flagged n flags places
flags_same m n flags places same f = record { long = f.long; each = λ p near. f.each p near ∙ sym (same p) }

pub flags_view : (m n : Seated) (flags : List Bool) (places : ℕ) → n.0 ≡ m.0 → Flagged m flags places → Flagged n flags places
flags_view m n flags places view f = flags_same m n flags places (λ q. ap (λ (v : View). keeps (pass_view_of v) q) view) f

-- one place comes or goes
pub flags_set : (m n : Seated) (flags : List Bool) (places p k : ℕ) (b : Bool) → Flagged m flags places → k ≡ p → p ≤ places → keeps (knows n) p ≡ b → ((q : ℕ) → q ≢ p → keeps (knows n) q ≡ keeps (knows m) q) → Flagged n (set flags k b) places
flags_set m n flags places p k b f same near now others = subst (λ (j : ℕ). Flagged n (set flags j b) places) (sym same) (
    let long = f.long in
    record {
      long = length-set flags p b ∙ long;
      each = λ q close. dite (ℕ_discrete q p)
          (λ e. subst (λ (j : ℕ). get_or (set flags p b) j false ≡ keeps (knows n) j) (sym e) (get_or-set_same flags p b false (omega arith) ∙ sym now))
          (λ ne. get_or-set_other flags p q b false ne ∙ (f.each q close ∙ sym (others q ne)));
    })
