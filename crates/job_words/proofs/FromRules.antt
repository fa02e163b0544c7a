-- What the rules of a command say of its arguments.
use Rattle.std.proofs.Common.{zero, suc, ◌≡◌, ◌∙◌, ◌<◌, ◌≤◌, ap, ◌&&◌, ℕ, Bool, true, false, List, [], ◌∷◌, length, is_some, Option, Some, None, refl, arith, map}
use Rattle.std.specs.List.{All, slice_index_or, list_all}
use Rattle.std.specs.Prelude.{slice_get}
use Rattle.std.proofs.lemmas.Bool.{true≢false, eqb-true, not-true, and_parts}
use Rattle.std.proofs.lemmas.List.{nil_from_length, length-map}
use Rattle.clap.specs.Facts.{args_of, least_values, unwrap_or_range}
use Rattle.clap.specs.Built.{IsPlainArg}
use Rattle.clap.specs.Walk.{is_simple_arg, is_free_arg, is_empty}
use Rattle.clap.specs.Words.{Rule, Text, app_of, items_of, rule_of}
use Rattle.clap.specs.declared.builder.action.ArgAction.TheVariants.{Set}
use Rattle.clap.specs.declared.builder.value_parser.ValueParser.{ValueParser}
use Rattle.clap.specs.declared.builder.range.ValueRange.{ValueRange}
use Rattle.clap.specs.declared.builder.arg.Arg.{Arg}
use Rattle.clap.specs.declared.builder.command.Command.{Command}
use Rattle.clap.specs.declared.builder.command.Command.TheViews.{out-Command}
use Rattle.job_words.proofs.Options.{HasOption, HasWanted, IsSimpleCommand, only_at}

none_from : {X : Type 0} (o : Option X) → is_some o ≡ false → o ≡ None
none_from None e = refl
none_from (Some x) e = absurd (true≢false e)

nil_from : {X : Type 0} (xs : List X) → is_empty xs ≡ true → xs ≡ []
nil_from xs e = nil_from_length xs (eqb-true _ _ e)

-- what the two tests of an argument say
record IsBare (a : Arg) : Type 0 where
  pub overrides : a.overrides.items ≡ []
  pub default_ifs : a.default_vals_ifs.items ≡ []
  pub groups : a.groups.items ≡ []
  pub delim : a.val_delim ≡ None
  pub exclusive : a.exclusive ≡ false
  pub conflicts : a.conflicts.items ≡ []

bare : (a : Arg) → is_simple_arg a ≡ true → is_free_arg a ≡ true → IsBare a
bare a simple free =
    let s1 = and_parts _ _ simple in
    let s2 = and_parts _ _ s1.1 in
    let s3 = and_parts _ _ s2.1 in
    let s4 = and_parts _ _ s3.1 in
    let f1 = and_parts _ _ free in
    let f2 = and_parts _ _ f1.1 in
    record {
      overrides = nil_from _ s1.0;
      default_ifs = nil_from _ s2.0;
      groups = nil_from _ s3.0;
      delim = none_from _ (not-true _ s4.0);
      exclusive = not-true _ f1.0;
      conflicts = nil_from _ f2.0;
    }

-- the argument at the place of a rule
pub record HasRule (xs : List Arg) (k : ℕ) (r : Rule) : Type 0 where
  pub arg : Arg
  pub inside : k < length xs
  pub at : (d : Arg) → slice_index_or xs k d ≡ arg
  pub rule : rule_of arg ≡ r

module _ {X Y : Type 0} (f : X → Y) where
  some_is : (x y : Y) → Some x ≡ Some y → x ≡ y
  some_is x y e = cc

  -- the element whose image stands at a place
  at_map : (xs : List X) (k : ℕ) (y : Y) → slice_get (map f xs) k ≡ Some y → (x : X) × (k < length xs) × ((d : X) → slice_index_or xs k d ≡ x) × (f x ≡ y)
  at_map [] k y h = cc
  at_map (x ∷ xs) zero y h = (x, omega arith, (λ d. refl), some_is (f x) y h)
  at_map (x ∷ xs) (suc k) y h =
      let rest = at_map xs k y h in
      (rest.0, omega (arith, rest.1), rest.2, rest.3)

pub rule_at : (xs : List Arg) (rs : List Rule) (k : ℕ) (r : Rule) → map rule_of xs ≡ rs → slice_get rs k ≡ Some r → HasRule xs k r
rule_at xs rs k r e at =
    let got = at_map rule_of xs k r (ap (λ (l : List Rule). slice_get l k) e ∙ at) in
    record { arg = got.0; inside = got.1; at = got.2; rule = got.3 }

pub ids_from : (xs : List Arg) (rs : List Rule) → map rule_of xs ≡ rs → map (λ a. a.id.now) xs ≡ map (λ r. r.id) rs
ids_from xs rs e = go xs ∙ ap (map (λ (r : Rule). r.id)) e
  where
    go : (xs : List Arg) → map (λ a. a.id.now) xs ≡ map (λ (r : Rule). r.id) (map rule_of xs)
    go [] = refl
    go (x ∷ xs) = ap (λ (l : List Text). x.id.now ∷ l) (go xs)

-- no argument excludes anything
abbrev is_bare : Rule → Bool
is_bare r = r.is_simple && r.is_free

pub all_plain : (xs : List Arg) (rs : List Rule) → map rule_of xs ≡ rs → list_all is_bare rs ≡ true → All IsPlainArg xs
all_plain xs rs e h = go xs (ap (list_all is_bare) e ∙ h)
  where
    go : (xs : List Arg) → list_all is_bare (map rule_of xs) ≡ true → All IsPlainArg xs
    go [] t k d lt = absurd (omega arith)
    go (x ∷ xs) t zero d lt =
        let one = and_parts _ _ (and_parts (is_bare (rule_of x)) _ t).0 in
        let b = bare x one.0 one.1 in
        (b.exclusive, b.conflicts, b.overrides, b.groups)
    go (x ∷ xs) t (suc k) d lt = go xs (and_parts (is_bare (rule_of x)) _ t).1 k d (omega arith)

least_one : (a : Arg) → a.num_vals ≡ None → 1 ≤ least_values a
least_one a e = ap_le (ap (λ (o : Option ValueRange). (unwrap_or_range o).start_inclusive) e)
  where
    ap_le : least_values a ≡ 1 → 1 ≤ least_values a
    ap_le e = omega arith

some_default : (a : Arg) (r : Rule) → rule_of a ≡ r → 0 < length r.defaults → 0 < length (items_of a.default_vals)
some_default a r e lt =
    let same : length (rule_of a).defaults ≡ length r.defaults = ap (λ (x : Rule). length x.defaults) e in
    let len : length (rule_of a).defaults ≡ length (items_of a.default_vals) = length-map _ _ in
    omega arith

pub option_from : (c : Command) (rs : List Rule) (k : ℕ) (r : Rule) (q : ValueParser) → map rule_of (args_of c) ≡ rs → slice_get rs k ≡ Some r
    → is_bare r ≡ true → r.action ≡ Some Set → r.range ≡ None → r.parser ≡ Some q → 0 < length r.defaults → only_at r.id k (map (λ r. r.id) rs) ≡ true
    → HasOption c k r.id q
option_from c rs k r q rules at tests set range parser default only =
    let h = rule_at (args_of c) rs k r rules at in
    let a = h.arg in
    let b = bare a (ap (λ (x : Rule). x.is_simple) h.rule ∙ (and_parts _ _ tests).0) (ap (λ (x : Rule). x.is_free) h.rule ∙ (and_parts _ _ tests).1) in
    record {
      arg = a;
      inside = h.inside;
      at = h.at;
      is = record {
        id = ap (λ (x : Rule). x.id) h.rule;
        set = ap (λ (x : Rule). x.action) h.rule ∙ set;
        delim = b.delim;
        least = least_one a (ap (λ (x : Rule). x.range) h.rule ∙ range);
        parser = ap (λ (x : Rule). x.parser) h.rule ∙ parser;
        default = (b.default_ifs, some_default a r h.rule default);
      };
      alone = ap (only_at r.id k) (ids_from (args_of c) rs rules) ∙ only;
    }

pub wanted_from : (c : Command) (rs : List Rule) (k : ℕ) (r : Rule) → map rule_of (args_of c) ≡ rs → slice_get rs k ≡ Some r
    → is_bare r ≡ true → r.action ≡ Some Set → r.range ≡ None → r.required ≡ true → only_at r.id k (map (λ r. r.id) rs) ≡ true
    → (out-Command c).subcommand_negates_reqs ≡ false → HasWanted c k r.id
wanted_from c rs k r rules at tests set range wanted only negates =
    let h = rule_at (args_of c) rs k r rules at in
    let a = h.arg in
    let b = bare a (ap (λ (x : Rule). x.is_simple) h.rule ∙ (and_parts _ _ tests).0) (ap (λ (x : Rule). x.is_free) h.rule ∙ (and_parts _ _ tests).1) in
    record {
      arg = a;
      inside = h.inside;
      at = h.at;
      is = record {
        id = ap (λ (x : Rule). x.id) h.rule;
        set = ap (λ (x : Rule). x.action) h.rule ∙ set;
        delim = b.delim;
        least = least_one a (ap (λ (x : Rule). x.range) h.rule ∙ range);
        wanted = ap (λ (x : Rule). x.required) h.rule ∙ wanted;
      };
      alone = ap (only_at r.id k) (ids_from (args_of c) rs rules) ∙ only;
      negates = negates;
    }

pub simple_from : (c : Command) (rs : List Rule) → map rule_of (args_of c) ≡ rs → list_all is_bare rs ≡ true → (app_of c).top.is_plain ≡ true → IsSimpleCommand c
simple_from c rs rules bare plain =
    let p1 = and_parts _ _ plain in
    let p2 = and_parts _ _ p1.1 in
    let p3 = and_parts _ _ p2.1 in
    record { plain = (all_plain (args_of c) rs rules bare, nil_from _ p1.0); globals = not-true _ p3.0 }
