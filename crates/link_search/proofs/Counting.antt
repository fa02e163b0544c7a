-- The counts of gates over the searches of several links.
use Rattle.std.proofs.Common.{◌≡◌, ℕ, List, [], sym, ◌∙◌, ap, refl, subst, arith}
use Rattle.std.specs.Global.{Vec}
use mathlib.Core.Option.{some-injective}
use Rattle.flip_rules.specs.declared.flip.Flip.{Flip}
use Rattle.sphere_search.specs.declared.search.Searched.{Searched}
use Rattle.sphere_search.specs.declared.search.Searched.TheVariants.{Found, Gave}
use Rattle.link_check.specs.LinkSearches.{all_quits, Files, Ends}
use Rattle.link_check.specs.declared.link_search.Links.{Links}
use Rattle.link_check.specs.declared.link_search.Links.TheVariants.{Manifold, Open}
use Rattle.link_check.proofs.LinkSearching.{quits_snoc}
use Rattle.round_run.specs.Gates.{Rise}
use Rattle.round_run.specs.Reports.{ReportView}
use Rattle.round_run.proofs.Counts.{rise_less, rise_then}
use Rattle.link_search.specs.Counts.{report_quits, searched_quits, links_quits}

module _ {A : Type 0} (count : A → ℕ) where
  -- no gate was asked
  pub at_rest : (gates : List A) → Rise count gates gates (λ _. 0)
  at_rest gates = record { same = refl; rise = λ i a b e f. omega (arith, ap count (some-injective a b (sym e ∙ f))) }

  pub none_left : (gates : List A) (left : List (ℕ × ReportView)) → left ≡ [] → Rise count gates gates (all_quits report_quits left)
  none_left gates left h = record { same = refl; rise = λ i a b e f. omega (arith, ap count (some-injective a b (sym e ∙ f)), ap (λ (os : List (ℕ × ReportView)). all_quits report_quits os i) h) }

  -- one link more
  pub one_more : (was mid now : List A) (v : ℕ) (searched : Searched ReportView) (lists now_lists : List (ℕ × Vec Flip)) (left now_left : List (ℕ × ReportView)) → Rise count was mid (all_quits report_quits left) → Rise count mid now (searched_quits searched) → Files v searched lists now_lists left now_left
      → Rise count was now (all_quits report_quits now_left)
  one_more was mid now v (Found flips) lists now_lists left now_left r s f =
      rise_then count was mid now (all_quits report_quits left) (λ _. 0) (all_quits report_quits now_left) (λ i. omega (arith, ap (λ (os : List (ℕ × ReportView)). all_quits report_quits os i) f.1)) r s
  one_more was mid now v (Gave p) lists now_lists left now_left r s f =
      rise_then count was mid now (all_quits report_quits left) (report_quits p) (all_quits report_quits now_left)
      (λ i. omega (arith, ap (λ (os : List (ℕ × ReportView)). all_quits report_quits os i) f.1, quits_snoc report_quits left (v, p) i)) r s

  -- a search that was given up
  pub given_up : (was mid now : List A) (said : ℕ → ℕ) → Rise count was mid said → Rise count mid now (λ _. 0) → Rise count was now (λ _. 0)
  given_up was mid now said r s = rise_then count was mid now said (λ _. 0) (λ _. 0) (λ i. omega arith) r s

  -- all links
  pub at_end : (was now : List A) (lists : List (ℕ × Vec Flip)) (left : List (ℕ × ReportView)) (links : Links ReportView) → Rise count was now (all_quits report_quits left) → Ends lists left links → Rise count was now (links_quits links)
  at_end was now lists left (Manifold shown) r e = rise_less count was now (all_quits report_quits left) r
  at_end was now lists left (Open records) r e = let P : List (ℕ × ReportView) → Type 0 = λ os. Rise count was now (all_quits report_quits os) in subst P (sym e.0) r
