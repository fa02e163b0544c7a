-- Beginnings of a journal: what a star is after each of them.
use Rattle.std.proofs.Common.{◌≡◌, ℕ, ◌+◌, Bool, true, false, cond, ◌||◌, List, [], ◌∷◌, ◌++◌, Some, sym, refl, ap, ◌∙◌, subst, arith}
use Rattle.std.proofs.lemmas.List.Folds.{list_any-append}
use Rattle.std.proofs.lemmas.Option.{same_Some}
use Rattle.complex_core.specs.Complexes.{ComplexView}
use Rattle.flip_rules.specs.Flips.{replay}
use Rattle.flip_rules.specs.Entries.{JournalEntry}
use Rattle.flip_rules.specs.Journals.{flat, flip_touches, entry_touches, touches, star_of, At}
use Rattle.flip_rules.proofs.Replays.{replay_split}
use Rattle.flip_rules.proofs.Journals.{flat-append, touches-append, touches-cons, stars_exist, star_stays}
use Rattle.star_laws.specs.Stars.{Rises, flips_touch}
use Rattle.star_laws.proofs.ReplayStars.{others_replay}
use Rattle.core_laws.proofs.Replays.{rises_replay}

-- where no entry touches the place, no flip of theirs does
untouched_by : (e : JournalEntry) (es : List JournalEntry) (place : ℕ) (b : Bool) → entry_touches place e ≡ b → cond b 1 0 + touches es place ≡ 0 → (touches es place ≡ 0 → flips_touch place (flat es) ≡ false) → (b || flips_touch place (flat es)) ≡ false
untouched_by e es place true is t more = absurd (omega (arith, t))
untouched_by e es place false is t more = more (omega (arith, t))

untouched : (entries : List JournalEntry) (place : ℕ) → touches entries place ≡ 0 → flips_touch place (flat entries) ≡ false
untouched [] place h = refl
untouched (e ∷ es) place h =
    list_any-append (flip_touches place) e.flips (flat es)
    ∙ untouched_by e es place (entry_touches place e) refl (sym (touches-cons e es place) ∙ h) (untouched es place)

-- the star of a place after a beginning is the one that its number of touches tells
pub star_after_beginning : (start there : ComplexView) (before next : List JournalEntry) (place : ℕ) → Rises start → replay start (flat before) ≡ Some there → At start (before ++ next) place (touches before place) (star_of there place)
star_after_beginning start there before next place rises h =
    let found : (facets : List (List ℕ)) × At start before place (touches before place) facets = stars_exist start there before place (touches before place) h (omega arith) in
    let at : At start before place (touches before place) found.0 = found.1 in
    let rest = at.shortest.rest in
    let parts : (m : ComplexView) × (replay start (flat at.front) ≡ Some m) × (replay m (flat rest) ≡ Some there) = replay_split start there (flat at.front) (flat rest) (ap (replay start) (sym (ap flat at.shortest.splits ∙ flat-append at.front rest)) ∙ h) in
    let same : parts.0 ≡ at.there = same_Some parts.0 at.there (sym parts.1 ∙ at.replays) in
    let none : touches rest place ≡ 0 = omega (arith, ap (λ (l : List JournalEntry). touches l place) at.shortest.splits, touches-append at.front rest place, at.shortest.touched) in
    let stays : star_of there place ≡ star_of parts.0 place = others_replay parts.0 there (flat rest) place (rises_replay start parts.0 (flat at.front) rises parts.1) parts.2 (untouched rest place none) in
    let is : found.0 ≡ star_of there place = at.star ∙ ap (λ (k : ComplexView). star_of k place) (sym same) ∙ sym stays in
    subst (λ (facets : List (List ℕ)). At start (before ++ next) place (touches before place) facets) is (star_stays start before next place (touches before place) found.0 at)
