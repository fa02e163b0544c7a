use Rattle.std.proofs.Common.{◌≡◌, ℕ, true, take}
use Rattle.facet_iso.specs.Trials.{leads_to}
use Rattle.facet_iso.proofs.trial.across.Given as goal

abbrev pub invariant-loop-incidence : goal.invariant-loop-incidence
invariant-loop-incidence l = (y : ℕ) → leads_to (take l.incidence-index l.incidence-items) y ≡ true → y ≡ l.label
