-- From the stars that a try noted to the complex after a beginning of the journal.
use Rattle.std.proofs.Common.{◌≡◌, ℕ, Bool, List, length, Option, Some, None, sym, refl, ap, ◌∙◌, subst}
use mathlib.Core.Option.{some}
use Rattle.complex_core.specs.Complexes.{ComplexView}
use Rattle.flip_rules.specs.Flips.{replay}
use Rattle.flip_rules.specs.Entries.{JournalEntry}
use Rattle.flip_rules.specs.Journals.{flat, mine}
use Rattle.flip_rules.specs.declared.flip.Flip.{Flip}
use Rattle.star_laws.specs.Stars.{AlikeOn, EndAlikeOn, LabelsPass}
use Rattle.star_laws.proofs.ReplayStars.{replay_alike}
use Rattle.stars.specs.StarViews.{VertexStar}
use Rattle.board_rule.specs.Items.{item, has_item}
use Rattle.board_rule.specs.Tries.{Try}
use Rattle.board_rule.specs.Views.{home_at}
use Rattle.board_rule.specs.Homes.{VersionedStar}
use Rattle.board_rule.proofs.Items.{some_of}
use Rattle.round_rules.specs.Own.{HasStars}

-- after this beginning of a round's journal each noted place has the noted star and version, and the worker has as many entries in it as the note says
pub record FitsAfter (start : ComplexView) (round : ℕ) (before : List JournalEntry) (w : ℕ) (t : Try) : Type 0 where
  pub there : ComplexView
  pub replays : replay start (flat before) ≡ Some there
  pub items : (p : ℕ) (x : VersionedStar) → item t.note p ≡ some x → x ≡ home_at there before p
  pub count : length (mine before round w) ≡ t.count

-- a complex that has the noted stars is like the one after the beginning
pub alike : (d : ℕ) (note : List (ℕ × VersionedStar)) (before : List JournalEntry) (k there : ComplexView) → HasStars d note k → there.dim ≡ d → ((p : ℕ) (x : VersionedStar) → item note p ≡ some x → x ≡ home_at there before p) → AlikeOn (has_item note) k there
alike d note before k there h dim items = record {
  dim = h.dim ∙ sym dim;
  stars = λ p has. let x = some_of note p has in ap (λ (s : VertexStar). s.rows) (sym (h.stars p x.0 x.1) ∙ ap (λ (y : VersionedStar). y.star) (items p x.0 x.1));
}

-- flips replayed on one of two complexes that are alike
pub record Replayed (held : ℕ → Bool) (l m : ComplexView) (flips : List Flip) : Type 0 where
  pub end : ComplexView
  pub replays : replay l flips ≡ Some end
  pub alike : AlikeOn held m end

-- replay on the other one too
pub replayed : (held : ℕ → Bool) (k l m : ComplexView) (flips : List Flip) → AlikeOn held k l → LabelsPass held flips → replay k flips ≡ Some m → Replayed held l m flips
replayed held k l m flips a labels h = by (replay l flips) refl (subst (λ (o : Option ComplexView). EndAlikeOn held o (replay l flips)) h (replay_alike held k l flips a labels))
  where
    by : (o : Option ComplexView) → replay l flips ≡ o → EndAlikeOn held (Some m) o → Replayed held l m flips
    by (Some n) is e = record { end = n; replays = is; alike = e }
    by None is e = absurd (e)
