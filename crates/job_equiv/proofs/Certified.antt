-- A Yes of `equiv` is a certificate, to which `replay` says Yes.
use Rattle.std.proofs.Common.{◌≡◌, ℕ, inl, inr, List, length, sym, ◌∙◌, ap, refl, subst}
use Rattle.complex_core.specs.Complexes.{ComplexView}
use Rattle.facet_text.specs.Writing.{KeepsLimits as KeepsTextLimits}
use Rattle.cert_text.specs.Statements.{Equal}
use Rattle.flip_rules.specs.declared.flip.Flip.{Flip}
use Rattle.cert_replay.specs.Answers.{EqualCert}
use Rattle.equal_text.specs.Lists.{MayBeWritten, joined, map_left}
use Rattle.equal_text.specs.Texts.{IsReadAgain, certified}
use Rattle.equal_text.proofs.Fits.{list_fits}
use Rattle.equal_text.proofs.Lengths.{certified_is_short}
use Rattle.equal_text.proofs.ReadAgain.{certified_is_read}
use Rattle.equal_search.specs.Comparing.{AreEqual}
use Rattle.anneal_plan.specs.Numbers.{Numbers, KeepsLimits}
use Rattle.round_run.specs.Reports.{ReportView}
use Rattle.job_answer.specs.declared.status.Status.{Status}
use Rattle.job_answer.specs.declared.status.Status.TheVariants.{Yes, Undecided}
use Rattle.job_replay.specs.Answers.{TellsCertified}
use Rattle.job_replay.specs.Readings.{behind, stated}
use Rattle.job_equiv.specs.Texts.{found_text}
use Rattle.job_equiv.specs.Answers.{ComesTo, IsOneList}

-- the list and the map are what they state
shown : (k l : ComplexView) (plan : Numbers) (r s : ReportView) (flips : List Flip) (pairs : List (ℕ × ℕ)) → AreEqual k l plan r s flips pairs → EqualCert k flips pairs l
shown k l plan r s flips pairs h =
    let P : ComplexView → Type 0 = λ x. EqualCert x flips pairs s.input in
    let Q : ComplexView → Type 0 = λ y. EqualCert k flips pairs y in
    subst Q h.compared.second.ok.input (subst P h.compared.first.ok.input h.joined.certificate)

-- they keep the limits of a text, and are few
written : (k l : ComplexView) (plan : Numbers) (r s : ReportView) (flips : List Flip) (pairs : List (ℕ × ℕ)) → KeepsTextLimits k → KeepsTextLimits l → KeepsLimits plan → AreEqual k l plan r s flips pairs → MayBeWritten flips pairs
written k l plan r s flips pairs near far numbers h =
    let fits : MayBeWritten (joined r s h.between) (map_left s h.between) =
    list_fits k l plan r s h.between near far numbers h.compared.first.ok h.compared.second.ok h.least.takes.is_map h.least.labels h.least.takes.image in
    subst (λ (fs : List Flip). MayBeWritten fs pairs) (sym h.joined.flips_are) (subst (MayBeWritten (joined r s h.between)) (sym h.joined.pairs_are) fits)

-- the first complex with the certificate behind it tells the equivalence
abbrev certified_tells : (k l : ComplexView) (flips : List Flip) (pairs : List (ℕ × ℕ)) → KeepsTextLimits k → KeepsTextLimits l → MayBeWritten flips pairs → EqualCert k flips pairs l → TellsCertified (certified k l flips pairs)
certified_tells k l flips pairs near far w shows =
    let i : IsReadAgain k l flips pairs = certified_is_read k l flips pairs near (far, w.flips_keep, w.pairs_keep) in
    record {
      short = certified_is_short k l flips pairs near (far, w.flips_keep, w.pairs_keep) w.few;
      start = k;
      statement = Equal l flips pairs;
      input = ap (behind (certified k l flips pairs)) i.complex ∙ ap (stated k) i.certificate;
      shows = shows;
    }

one_list : (k l : ComplexView) (plan : Numbers) (r s : ReportView) (flips : List Flip) (pairs : List (ℕ × ℕ)) (xs : List ℕ) → KeepsTextLimits k → KeepsTextLimits l → KeepsLimits plan → AreEqual k l plan r s flips pairs → xs ≡ found_text (length r.rounds) l flips pairs → IsOneList k l plan r s xs
one_list k l plan r s flips pairs xs near far numbers h says = record {
  flips = flips;
  pairs = pairs;
  equal = h;
  says = says;
  shows = shown k l plan r s flips pairs h;
  valid = certified_tells k l flips pairs near far (written k l plan r s flips pairs near far numbers h) (shown k l plan r s flips pairs h);
  of_equal = refl;
}

pub certified_coming : (k l : ComplexView) (plan : Numbers) (r s : ReportView) (status : Status) (xs : List ℕ) → KeepsTextLimits k → KeepsTextLimits l → KeepsLimits plan → ComesTo k l plan r s status xs → status ≡ Yes → IsOneList k l plan r s xs
certified_coming k l plan r s status xs near far numbers (inl a) y = one_list k l plan r s a.flips a.pairs xs near far numbers a.equal a.says
certified_coming k l plan r s status xs near far numbers (inr a) y = let z : Undecided ≡ Yes = sym a.is_undecided ∙ y in cc
