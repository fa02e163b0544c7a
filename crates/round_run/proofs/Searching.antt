-- A search stands behind descent 0, and behind each descent after it.
use Rattle.std.proofs.Common.{◌≡◌, ◌≢◌, ℕ, ◌+◌, ◌-◌, ◌<◌, ◌≤◌, ◌↔◌, Bool, true, false, true≢false, IsTrue, List, [], ◌∷◌, ◌++◌, length, sym, ◌∙◌, ap, refl, subst, arith, length-append}
use Rattle.std.specs.List.{AllByRecursion}
use Rattle.complex_core.specs.Maps.{IsMap, turned, renamed, names_of, takes_all, used, greatest}
use Rattle.complex_core.specs.Complexes.{ComplexView, IsComplex}
use Rattle.flip_rules.specs.Boundaries.{IsBoundary}
use Rattle.flip_rules.specs.Journals.{flat}
use Rattle.flip_rules.specs.declared.flip.Flip.{Flip}
use Rattle.flip_names.specs.Laws.{Renames}
use Rattle.flip_names.specs.Names.{takes_flips}
use Rattle.stars.specs.StarViews.{UsesUpTo}
use Rattle.descent_laws.specs.Descents.{IsDescent}
use Rattle.anneal_plan.specs.Numbers.{Numbers}
use Rattle.round_rules.specs.Rounds.{RoundView, RoundOk}
use Rattle.round_run.specs.Reports.{ReportView, ReportOk, Chain, IsElsewhere, IsSphere, IsUndecided, history, scene}
use Rattle.round_run.specs.Searches.{Advanced, Descended, IsOpened, IsPlaced, IsSeeking, Stands, StandsSomewhere}
use Rattle.round_run.proofs.Chains.{chain_long, chain_more, chain_some}
use Rattle.round_run.proofs.Names.{IsNamed, chain_named, names_places, places_few, uses_places}
use Rattle.complex_core.proofs.Sorting.{each_append}

-- ---- what is known where it stands

-- where descents ended, a report stands behind one
ends_some : (lows earlier : List ComplexView) (end : ComplexView) → lows ≡ earlier ++ end ∷ [] → 0 < length lows
ends_some lows earlier end e = omega (arith, ap length e, length-append earlier (end ∷ []))

named_so_far : (given : ComplexView) (plan : Numbers) (r : ReportView) → IsPlaced given r → (ok : ReportOk given plan r) → IsNamed r.names (renamed given (turned r.names)) (flat (history r)) r.end
named_so_far given plan r p ok = chain_named r.names plan 0 (renamed given (turned r.names)) r.descents ok.lows r.rounds r.end (names_places given.facets plan.room r.names ok.names) p.start ok.chain

-- each label of its flips has a name
placed_taken : (given : ComplexView) (plan : Numbers) (r : ReportView) → IsPlaced given r → (ok : ReportOk given plan r) → takes_flips r.names (flat (history r)) ≡ true
placed_taken given plan r p ok = (named_so_far given plan r p ok).taken

pub opened_taken : (given : ComplexView) (plan : Numbers) (r : ReportView) → IsOpened given plan r → takes_flips r.names (flat (history r)) ≡ true
opened_taken given plan r o = placed_taken given plan r o.placed o.ok

pub stands_taken : (given : ComplexView) (plan : Numbers) (earlier : List ComplexView) (r : ReportView) → Stands given plan earlier r → takes_flips r.names (flat (history r)) ≡ true
stands_taken given plan earlier r s = placed_taken given plan r s.placed s.ok

-- a round can be made, also where the report is seen by its parts
pub stands_dim : (given : ComplexView) (plan : Numbers) (earlier : List ComplexView) (r a : ReportView) → a ≡ r → Stands given plan earlier r → 1 ≤ a.end.dim
stands_dim given plan earlier r a e s = omega (arith, s.placed.dim, (named_so_far given plan r s.placed s.ok).dim, ap (λ (x : ReportView). x.end.dim) e)

pub stands_places : (given : ComplexView) (plan : Numbers) (earlier : List ComplexView) (shown : List (ℕ × ℕ)) (r a : ReportView) → a ≡ r → shown ≡ a.names → Stands given plan earlier r → UsesUpTo a.end (length shown)
stands_places given plan earlier shown r a e f s =
    let P : ReportView → Type 0 = λ x. UsesUpTo x.end (length x.names) in
    let h : P r = uses_places r.names r.end (names_places given.facets plan.room r.names s.ok.names) (named_so_far given plan r s.placed s.ok).end_named in
    subst (λ (xs : List (ℕ × ℕ)). UsesUpTo a.end (length xs)) (sym f) (subst P (sym e) h)

-- there is one descent more than there are rounds
stands_some : (given : ComplexView) (plan : Numbers) (earlier : List ComplexView) (r : ReportView) → Stands given plan earlier r → 0 < length r.descents
stands_some given plan earlier r s = chain_some plan (length r.names) 0 (renamed given (turned r.names)) r.descents s.ok.lows r.rounds r.end s.ok.chain (ends_some s.ok.lows earlier r.end s.ends)

pub stands_long : (given : ComplexView) (plan : Numbers) (earlier : List ComplexView) (r : ReportView) → Stands given plan earlier r → length r.descents ≡ length r.rounds + 1
stands_long given plan earlier r s = chain_long plan (length r.names) 0 (renamed given (turned r.names)) r.descents s.ok.lows r.rounds r.end s.ok.chain (stands_some given plan earlier r s)

-- ---- the beginning

-- the parts from which it begins
pub record Opens (given : ComplexView) (plan : Numbers) (start : ComplexView) (r : ReportView) : Type 0 where
  pub dim : 1 ≤ given.dim
  pub labels : greatest (used given.facets) + plan.room ≤ 65535
  pub input : r.input ≡ given
  pub names : r.names ≡ names_of given.facets plan.room
  pub is_map : IsMap r.names
  pub complex : IsComplex start
  pub dense : start ≡ renamed given (turned r.names)
  pub taken : takes_all r.names start.facets ≡ true
  pub descents : r.descents ≡ []
  pub rounds : r.rounds ≡ []
  pub end_is : r.end ≡ start

pub opened : (given : ComplexView) (plan : Numbers) (start : ComplexView) (r : ReportView) → Opens given plan start r → IsOpened given plan r
opened given plan start r o =
    let C : List (List Flip) → List RoundView → Type 0 = λ ds rs. Chain plan (length r.names) 0 (renamed given (turned r.names)) ds [] rs r.end in
    let at_start : Renames r.names start = record { is_map = o.is_map; complex = o.complex; taken = o.taken } in
    record {
      placed = record {
        dim = o.dim;
        start = subst (Renames r.names) o.dense at_start;
        few = places_few given.facets plan.room r.names o.is_map o.names o.labels;
      };
      ok = record {
        input = o.input;
        names = o.names;
        few = omega (arith, ap length o.rounds);
        lows = [];
        chain = subst (λ (rs : List RoundView). C r.descents rs) (sym o.rounds) (subst (λ (ds : List (List Flip)). C ds []) (sym o.descents) (o.end_is ∙ o.dense));
      };
      descents = o.descents;
      rounds = o.rounds;
    }

-- ---- behind descent 0

-- a chain without descents ends where it begins
pub chain_none : (plan : Numbers) (places n : ℕ) (k : ComplexView) (ds : List (List Flip)) (lows : List ComplexView) (rs : List RoundView) (end : ComplexView) → ds ≡ [] → Chain plan places n k ds lows rs end → end ≡ k
chain_none plan places n k [] [] [] end e c = c
chain_none plan places n k [] [] (r ∷ rs) end e c = absurd c
chain_none plan places n k [] (low ∷ lows) rs end e c = absurd c
chain_none plan places n k (d ∷ ds) lows rs end e c = absurd (omega (arith, ap length e))

-- the parts with which it descends
pub record GoesDown (d : List Flip) (a b : ReportView) : Type 0 where
  pub descent : IsDescent a.end d b.end
  pub input : b.input ≡ a.input
  pub names : b.names ≡ a.names
  pub descents : b.descents ≡ a.descents ++ d ∷ []
  pub rounds : b.rounds ≡ a.rounds

gone_down : (given : ComplexView) (plan : Numbers) (d : List Flip) (a b : ReportView) → IsOpened given plan a → GoesDown d a b → Stands given plan [] b
gone_down given plan d a b o g =
    let start : a.end ≡ renamed given (turned a.names) = chain_none plan (length a.names) 0 (renamed given (turned a.names)) a.descents o.ok.lows a.rounds a.end o.descents o.ok.chain in
    let C : List (ℕ × ℕ) → List (List Flip) → List RoundView → Type 0 = λ m ds rs. Chain plan (length m) 0 (renamed given (turned m)) ds (b.end ∷ []) rs b.end in
    let one : C a.names (d ∷ []) [] = (subst (λ (k : ComplexView). IsDescent k d b.end) start g.descent, refl, refl, refl) in
    let none : b.rounds ≡ [] = g.rounds ∙ o.rounds in
    let alone : b.descents ≡ d ∷ [] = g.descents ∙ ap (λ ds. ds ++ d ∷ []) o.descents in
    record {
      placed = record {
        dim = o.placed.dim;
        start = subst (λ (m : List (ℕ × ℕ)). Renames m (renamed given (turned m))) (sym g.names) o.placed.start;
        few = omega (arith, o.placed.few, ap length g.names);
      };
      ok = record {
        input = g.input ∙ o.ok.input;
        names = g.names ∙ o.ok.names;
        few = omega (arith, ap length none);
        lows = b.end ∷ [];
        chain = subst (λ (m : List (ℕ × ℕ)). C m b.descents b.rounds) (sym g.names) (subst (λ (rs : List RoundView). C a.names b.descents rs) (sym none) (subst (λ (ds : List (List Flip)). C a.names ds []) (sym alone) one));
      };
      ends = refl;
    }

-- the same where the report before it is seen by its parts
pub descended : (plan : Numbers) (d : List Flip) (r a b : ReportView) → a ≡ r → IsOpened r.input plan r → GoesDown d a b → Descended plan r b
descended plan d r a b e o g = record {
  stands = λ given p. gone_down given plan d a b (subst (IsOpened given plan) (sym e) p) g;
  rounds = g.rounds ∙ (ap (λ (x : ReportView). x.rounds) e ∙ o.rounds);
}

pub descended_taken : (plan : Numbers) (r b : ReportView) → IsOpened r.input plan r → Descended plan r b → takes_flips b.names (flat (history b)) ≡ true
descended_taken plan r b o d = stands_taken r.input plan [] b (d.stands r.input o)

-- ---- behind a round and the descent after it

-- the parts with which it goes on
pub record GoesOn (plan : Numbers) (places number : ℕ) (round : RoundView) (next : ComplexView) (d : List Flip) (a b : ReportView) : Type 0 where
  pub places_are : places ≡ length a.names
  pub number_is : number ≡ length a.rounds
  pub made : RoundOk (scene a.end places number plan) round next
  pub descent : IsDescent next d b.end
  pub input : b.input ≡ a.input
  pub names : b.names ≡ a.names
  pub descents : b.descents ≡ a.descents ++ d ∷ []
  pub rounds : b.rounds ≡ a.rounds ++ round ∷ []

gone : (given : ComplexView) (plan : Numbers) (earlier : List ComplexView) (places number : ℕ) (round : RoundView) (next : ComplexView) (d : List Flip) (a b : ReportView) → Stands given plan earlier a → length a.rounds < plan.rounds → GoesOn plan places number round next d a b → Stands given plan (earlier ++ a.end ∷ []) b
gone given plan earlier places number round next d a b s left g =
    let C : List (ℕ × ℕ) → List (List Flip) → List RoundView → Type 0 = λ m ds rs. Chain plan (length m) 0 (renamed given (turned m)) ds (s.ok.lows ++ b.end ∷ []) rs b.end in
    let same : number ≡ 0 + length a.rounds = omega (arith, g.number_is) in
    let made : RoundOk (scene a.end (length a.names) (0 + length a.rounds) plan) round next = subst (λ (n : ℕ). RoundOk (scene a.end (length a.names) n plan) round next) same (subst (λ (n : ℕ). RoundOk (scene a.end n number plan) round next) g.places_are g.made) in
    let more : C a.names (a.descents ++ d ∷ []) (a.rounds ++ round ∷ []) =
    chain_more plan (length a.names) 0 (renamed given (turned a.names)) a.descents s.ok.lows a.rounds a.end round next d b.end (stands_some given plan earlier a s) s.ok.chain made g.descent in
    record {
      placed = record {
        dim = s.placed.dim;
        start = subst (λ (m : List (ℕ × ℕ)). Renames m (renamed given (turned m))) (sym g.names) s.placed.start;
        few = omega (arith, s.placed.few, ap length g.names);
      };
      ok = record {
        input = g.input ∙ s.ok.input;
        names = g.names ∙ s.ok.names;
        few = omega (arith, left, ap length g.rounds, length-append a.rounds (round ∷ []));
        lows = s.ok.lows ++ b.end ∷ [];
        chain = subst (λ (m : List (ℕ × ℕ)). C m b.descents b.rounds) (sym g.names) (subst (λ (rs : List RoundView). C a.names b.descents rs) (sym g.rounds) (subst (λ (ds : List (List Flip)). C a.names ds (a.rounds ++ round ∷ [])) (sym g.descents) more));
      };
      ends = ap (λ lows. lows ++ b.end ∷ []) s.ends;
    }

-- the same where the report before it is seen by its parts
pub advanced : (plan : Numbers) (places number : ℕ) (round : RoundView) (next : ComplexView) (d : List Flip) (r a b : ReportView) → a ≡ r → length r.rounds < plan.rounds → GoesOn plan places number round next d a b → Advanced plan r b
advanced plan places number round next d r a b e left g given earlier s =
    subst (λ (x : ReportView). Stands given plan (earlier ++ x.end ∷ []) b) e (gone given plan earlier places number round next d a b (subst (Stands given plan earlier) (sym e) s) (omega (arith, left, ap (λ (x : ReportView). length x.rounds) e)) g)

pub advanced_taken : (plan : Numbers) (r b : ReportView) → StandsSomewhere r.input plan r → Advanced plan r b → takes_flips b.names (flat (history b)) ≡ true
advanced_taken plan r b s h = stands_taken r.input plan (s.0 ++ r.end ∷ []) b (h r.input s.0 s.1)

-- where not all rounds were made, there are fewer
pub not_spent : (given : ComplexView) (plan : Numbers) (earlier : List ComplexView) (r : ReportView) (t : Bool) → Stands given plan earlier r → IsTrue t ↔ (length r.rounds ≡ plan.rounds) → t ≡ false → length r.rounds < plan.rounds
not_spent given plan earlier r t s h e = let n : length r.rounds ≢ plan.rounds = λ q. true≢false (sym (h.1 q) ∙ e) in omega (arith, s.ok.few)

-- and one fewer are left after one more
pub fewer_left : (given : ComplexView) (plan : Numbers) (earlier : List ComplexView) (rs : List RoundView) (r : ReportView) (round : RoundView) → Stands given plan earlier r → r.rounds ≡ rs ++ round ∷ [] → plan.rounds - length r.rounds < plan.rounds - length rs
fewer_left given plan earlier rs r round s e = omega (arith, s.ok.few, ap length e, length-append rs (round ∷ []))

-- ---- a search for a sphere

pub seeking_first : (given : ComplexView) (plan : Numbers) (r a : ReportView) → IsOpened given plan r → Descended plan r a → IsSeeking given plan a
seeking_first given plan r a o d = record { earlier = []; stands = d.stands given o; first = tt }

-- it stands, as its input has it
pub seeking_stands : (given : ComplexView) (plan : Numbers) (r : ReportView) → IsSeeking given plan r → StandsSomewhere r.input plan r
seeking_stands given plan r s = (s.earlier, subst (λ k. Stands k plan s.earlier r) (sym s.stands.ok.input) s.stands)

pub seeking_on : (given : ComplexView) (plan : Numbers) (r a : ReportView) → IsSeeking given plan r → IsElsewhere r.end → Advanced plan r a → IsSeeking given plan a
seeking_on given plan r a s elsewhere h = record {
  earlier = s.earlier ++ r.end ∷ [];
  stands = h given s.earlier s.stands;
  first = each_append IsElsewhere s.earlier (r.end ∷ []) s.first (elsewhere, tt);
}

pub sphere_found : (given : ComplexView) (plan : Numbers) (r : ReportView) (t : Bool) → IsSeeking given plan r → IsTrue t ↔ IsBoundary r.end → t ≡ true → IsSphere given plan r
sphere_found given plan r t s h e = record { ok = s.stands.ok; earlier = s.earlier; ends = s.stands.ends; boundary = h.0 e; first = s.first }

pub elsewhere_by : (end : ComplexView) (t : Bool) → IsTrue t ↔ IsBoundary end → t ≡ false → IsElsewhere end
elsewhere_by end t h e b = true≢false (sym (h.1 b) ∙ e)

pub undecided : (given : ComplexView) (plan : Numbers) (r : ReportView) → IsSeeking given plan r → IsElsewhere r.end → length r.rounds ≡ plan.rounds → IsUndecided given plan r
undecided given plan r s elsewhere all = record {
  ok = s.stands.ok;
  spent = record { rounds = all; descents = omega (arith, all, stands_long given plan s.earlier r s.stands) };
  none = subst (AllByRecursion IsElsewhere) (sym s.stands.ends) (each_append IsElsewhere s.earlier (r.end ∷ []) s.first (elsewhere, tt));
}
