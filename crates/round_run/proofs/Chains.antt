-- Chains of descents and rounds.
use Rattle.std.proofs.Common.{◌≡◌, ℕ, ◌+◌, ◌<◌, List, [], ◌∷◌, ◌++◌, length, sym, ap, refl, subst, arith, length-append}
use Rattle.complex_core.specs.Complexes.{ComplexView}
use Rattle.flip_rules.specs.declared.flip.Flip.{Flip}
use Rattle.descent_laws.specs.Descents.{IsDescent}
use Rattle.anneal_plan.specs.Numbers.{Numbers}
use Rattle.round_rules.specs.Rounds.{RoundView, RoundOk}
use Rattle.round_run.specs.Reports.{Chain, scene}

-- a chain with an end of a descent has a descent
pub chain_some : (plan : Numbers) (places n : ℕ) (k : ComplexView) (ds : List (List Flip)) (lows : List ComplexView) (rs : List RoundView) (end : ComplexView) → Chain plan places n k ds lows rs end → 0 < length lows → 0 < length ds
chain_some plan places n k [] [] rs end c l = absurd (omega (arith, l))
chain_some plan places n k [] (low ∷ lows) rs end c l = absurd c
chain_some plan places n k (d ∷ ds) lows rs end c l = omega arith

-- and one descent more than rounds
pub chain_long : (plan : Numbers) (places n : ℕ) (k : ComplexView) (ds : List (List Flip)) (lows : List ComplexView) (rs : List RoundView) (end : ComplexView) → Chain plan places n k ds lows rs end → 0 < length ds → length ds ≡ length rs + 1
chain_long plan places n k [] lows rs end c l = absurd (omega (arith, l))
chain_long plan places n k (d ∷ ds) [] rs end c l = absurd c
chain_long plan places n k (d ∷ ds) (low ∷ lows) [] end c l = omega (arith, ap length c.2)
chain_long plan places n k (d ∷ ds) (low ∷ lows) (r ∷ rs) end c l = omega (arith, c.3)

-- a round from the end, and a descent behind it
pub chain_more : (plan : Numbers) (places n : ℕ) (k : ComplexView) (ds : List (List Flip)) (lows : List ComplexView) (rs : List RoundView) (low : ComplexView) (r : RoundView) (next : ComplexView) (d : List Flip) (end : ComplexView) → 0 < length ds → Chain plan places n k ds lows rs low → RoundOk (scene low places (n + length rs) plan) r next → IsDescent next d end → Chain plan places n k (ds ++ d ∷ []) (lows ++ end ∷ []) (rs ++ r ∷ []) end
chain_more plan places n k [] lows rs low r next d end some c made leads = absurd (omega (arith, some))
chain_more plan places n k (e ∷ ds) [] rs low r next d end some c made leads = absurd c
chain_more plan places n k (e ∷ ds) (l ∷ lows) [] low r next d end some c made leads =
    let P : ComplexView → Type 0 = λ m. RoundOk (scene m places n plan) r next in
    let Q : ℕ → Type 0 = λ i. RoundOk (scene low places i plan) r next in
    let T : List (List Flip) → Type 0 = λ xs. Chain plan places (n + 1) next (xs ++ d ∷ []) (lows ++ end ∷ []) [] end in
    let U : List ComplexView → Type 0 = λ ys. Chain plan places (n + 1) next (d ∷ []) (ys ++ end ∷ []) [] end in
    let same : n + 0 ≡ n = omega arith in
    (next, c.0, subst P c.1 (subst Q same made), omega (arith, length-append ds (d ∷ []), ap length c.2), subst T (sym c.2) (subst U (sym c.3) (leads, refl, refl, refl)))
chain_more plan places n k (e ∷ ds) (l ∷ lows) (q ∷ rs) low r next d end some c made leads =
    let Q : ℕ → Type 0 = λ i. RoundOk (scene low places i plan) r next in
    let same : n + length (q ∷ rs) ≡ n + 1 + length rs = omega arith in
    let many : 0 < length ds = omega (arith, c.3) in
    let long : length (ds ++ d ∷ []) ≡ length (rs ++ r ∷ []) + 1 = omega (arith, c.3, length-append ds (d ∷ []), length-append rs (r ∷ [])) in
    (c.0, c.1, c.2, long, chain_more plan places (n + 1) c.0 ds lows rs low r next d end many c.4 (subst Q same made) leads)
