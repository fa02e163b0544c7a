-- Where the entries of a round lead.
use Rattle.std.proofs.Common.{◌≡◌, ℕ, ◌+◌, ◌≤◌, Bool, true, false, ◌||◌, List, [], ◌∷◌, sym, refl, ◌∙◌}
use Rattle.std.specs.List.{AllByRecursion}
use Rattle.std.proofs.lemmas.List.Folds.{list_any-append}
use Rattle.complex_core.proofs.Sorting.{each_append}
use Rattle.flip_rules.specs.Flips.{OfFaces}
use Rattle.flip_rules.specs.Entries.{JournalEntry}
use Rattle.flip_rules.specs.Journals.{flat, flip_touches}
use Rattle.flip_rules.proofs.Replays.{replay_dim, complex_replayed}
use Rattle.star_laws.specs.Stars.{flips_touch}
use Rattle.board_rule.specs.Rule.{IsEntry}
use Rattle.board_rule.proofs.Writing.{uses_after}
use Rattle.round_rules.specs.Laws.{RoundReplays}

-- the flips of entries are of faces
pub faces_in : (round places seats : ℕ) (es : List JournalEntry) → AllByRecursion (IsEntry round places seats) es → AllByRecursion OfFaces (flat es)
faces_in round places seats [] h = tt
faces_in round places seats (e ∷ es) h = each_append OfFaces e.flips (flat es) h.0.faces (faces_in round places seats es h.1)

-- and their labels are places
labels_in : (round places seats : ℕ) (es : List JournalEntry) (p : ℕ) → AllByRecursion (IsEntry round places seats) es → flips_touch p (flat es) ≡ true → p ≤ places
labels_in round places seats [] p h t = let g : false ≡ true = t in absurd (cc)
labels_in round places seats (e ∷ es) p h t =
    either (flips_touch p e.flips) (h.0.labels p) (labels_in round places seats es p h.1) (sym (list_any-append (flip_touches p) e.flips (flat es)) ∙ t)
  where
    either : (b : Bool) → (b ≡ true → p ≤ places) → (flips_touch p (flat es) ≡ true → p ≤ places) → (b || flips_touch p (flat es)) ≡ true → p ≤ places
    either true here there g = here refl
    either false here there g = there g

pub round_replays : RoundReplays
round_replays s r end complex within ok = (
  complex_replayed s.start end (flat r.entries) complex (faces_in s.round s.places (s.plan.workers + 1) r.entries ok.entries) ok.replays,
  replay_dim s.start end (flat r.entries) ok.replays,
  uses_after s.start end (flat r.entries) s.places complex ok.replays (λ p t. labels_in s.round s.places (s.plan.workers + 1) r.entries p ok.entries t) within,
)
