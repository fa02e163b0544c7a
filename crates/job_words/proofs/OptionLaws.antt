-- After a parse an option with a default has a value, which its parser takes.
use Rattle.std.proofs.Common.{zero, suc, ◌≡◌, ◌∙◌, subst, ◌<◌, ◌≤◌, ap, ◌||◌, ℕ, Bool, true, false, not, List, [], ◌∷◌, length, is_some, Option, Some, None, refl, sym, inl, inr, arith, map, codes}
use Rattle.std.specs.List.{All, slice_index_or, list_any}
use Rattle.std.specs.Str.{bytes_eq}
use Rattle.std.specs.Prelude.{find, option_and_then, option_map, slice_get}
use Rattle.std.specs.Borrow.{Bor}
use Rattle.std.proofs.lemmas.Bool.{true≢false, not-true, or_parts, and_parts}
use Rattle.std.proofs.lemmas.Slice.Eq.{bytes_eq-Decides}
use Rattle.clap.specs.declared.builder.action.ArgAction.TheVariants.{Count, Set}
use Rattle.clap.specs.declared.builder.value_parser.ValueParser.{ValueParser}
use Rattle.clap.specs.declared.builder.value_parser.Reading.{Reading}
use Rattle.clap.specs.Facts.{args_of, groups_of, IsParsed, IsCountArg, IsFilledEntry, AllowsNone, WantsDefault, Entry, EntryPasses, ValuesPass, PassesArg, HasReading, least_values, parser_of, parser_of_value}
use Rattle.clap.specs.Built.{IsParsedFrom, SameRules, IsAuto}
use Rattle.clap.specs.Matches.{matched_of, first_value, one_text, found_of, has_subcommand}
use Rattle.clap.specs.Values.{Accepts, read_as, reading_of}
use Rattle.clap.proofs.CallerLemmas.{default_present, required_has_value, entry_by_id, same_rules_by_id}
use Rattle.clap.specs.declared.parser.matches.MatchedArg.{MatchedArg}
use Rattle.clap.specs.declared.parser.matches.Found.{Found}
use Rattle.clap.specs.declared.parser.matches.ArgMatches.{ArgMatches}
use Rattle.clap.specs.declared.builder.arg.Arg.{Arg}
use Rattle.clap.specs.declared.builder.command.Command.{Command}
use Rattle.clap.specs.Words.{Text}
use Rattle.job_words.specs.Reads.{HasText, IsRead}
use Rattle.job_words.proofs.Options.{HasOption, HasWanted, IsOption, IsOwn, IsSimpleCommand, only_at}

-- an id that stands alone stands at its place
not_any : (id : Text) (xs : List Arg) (j : ℕ) (e : Arg) → j < length xs → list_any (λ y. bytes_eq y id) (map (λ a. a.id.now) xs) ≡ false
    → bytes_eq (slice_index_or xs j e).id.now id ≡ true → true ≡ false
not_any id [] j e lt none same = absurd (omega arith)
not_any id (x ∷ xs) zero e lt none same = sym same ∙ (or_parts (bytes_eq x.id.now id) _ none).0
not_any id (x ∷ xs) (suc j) e lt none same = not_any id xs j e (omega arith) (or_parts (bytes_eq x.id.now id) _ none).1 same

pub at_place : (id : Text) (k : ℕ) (xs : List Arg) (j : ℕ) (e : Arg) → j < length xs → only_at id k (map (λ a. a.id.now) xs) ≡ true
    → bytes_eq (slice_index_or xs j e).id.now id ≡ true → j ≡ k
at_place id k [] j e lt only same = absurd (omega arith)
at_place id zero (x ∷ xs) zero e lt only same = refl
at_place id zero (x ∷ xs) (suc j) e lt only same = absurd (true≢false (not_any id xs j e (omega arith) (not-true _ only) same))
at_place id (suc k) (x ∷ xs) zero e lt only same = absurd (true≢false (sym same ∙ not-true _ (and_parts _ _ only).0))
at_place id (suc k) (x ∷ xs) (suc j) e lt only same = ap suc (at_place id k xs j e (omega arith) (and_parts (not (bytes_eq x.id.now id)) _ only).1 same)

-- an entry with an id is found
found_at : (xs : List Entry) (id : Text) (i : ℕ) → i < length xs → ((d : Entry) → bytes_eq (slice_index_or xs i d).0.now id ≡ true)
    → is_some (option_map (λ e. e.1) (find (λ e. bytes_eq e.0.now id) xs)) ≡ true
found_at [] id i lt same = absurd (omega arith)
found_at (x ∷ xs) id i lt same = go (bytes_eq x.0.now id) refl i lt same (λ j. found_at xs id j)
  where
    go : (t : Bool) → bytes_eq x.0.now id ≡ t → (i : ℕ) → i < length (x ∷ xs) → ((d : Entry) → bytes_eq (slice_index_or (x ∷ xs) i d).0.now id ≡ true)
        → ((j : ℕ) → j < length xs → ((d : Entry) → bytes_eq (slice_index_or xs j d).0.now id ≡ true) → is_some (option_map (λ e. e.1) (find (λ e. bytes_eq e.0.now id) xs)) ≡ true)
        → is_some (option_map (λ e. e.1) (find (λ e. bytes_eq e.0.now id) (x ∷ xs))) ≡ true
    go true t i lt same rest = rw t refl
    go false t zero lt same rest = absurd (true≢false (sym (same x) ∙ t))
    go false t (suc i) lt same rest = rw t (rest i (omega arith) same)

-- the first value, with what holds of each
head_passes : (P : Bor (List ℕ) → Type 0) (vs : List (Bor (List ℕ))) → 0 < length vs → All P vs → (v : Bor (List ℕ)) × (slice_get vs 0 ≡ Some v) × P v
head_passes P [] lt all = absurd (omega arith)
head_passes P (v ∷ vs) lt all = (v, refl, all 0 v (omega arith))

-- an argument of the built command with the option's id has its rules
rules : (old : Command) (m : ArgMatches) (p : IsParsedFrom old m) (k : ℕ) (id : Text) (q : ValueParser) (has : HasOption old k id q) → IsOwn id
    → (j : ℕ) (y : Arg) → j < length (args_of p.built) → slice_index_or (args_of p.built) j y ≡ y → bytes_eq y.id.now id ≡ true
    → SameRules has.arg y
rules old m p k id q has own j y high at same =
    let a = slice_index_or (args_of old) k has.arg in
    let is : a ≡ has.arg = has.at has.arg in
    let id_is : a.id.now ≡ id = ap (λ (z : Arg). z.id.now) is ∙ has.is.id in
    let unique : (i : ℕ) (e : Arg) → i < length (args_of old) → bytes_eq (slice_index_or (args_of old) i e).id.now a.id.now ≡ true → i ≡ k =
    λ i e lt h. at_place id k (args_of old) i e lt has.alone (subst (λ (t : Text). bytes_eq (slice_index_or (args_of old) i e).id.now t ≡ true) id_is h) in
    let auto : IsAuto a → ⊥ = λ h. elim h [ inl e ↦ own.help (sym id_is ∙ e) | inr e ↦ own.version (sym id_is ∙ e) ] in
    let s = same_rules_by_id old m p k has.arg has.inside unique auto j y high at (subst (λ (t : Text). bytes_eq y.id.now t ≡ true) (sym id_is) same) in
    subst (λ (z : Arg). SameRules z y) is s

parser_is : (a y : Arg) (q : ValueParser) → SameRules a y → a.value_parser ≡ Some q → parser_of y ≡ q
parser_is a y q s e = ap parser_of_value (s.parser q e)

one_at : (f : Found) (id : Text) (x : MatchedArg) (how : Reading) (v : Bor (List ℕ)) → matched_of f id ≡ Some x → x.reading ≡ how → slice_get x.vals.items 0 ≡ Some v
    → one_text f id ≡ Some (read_as how v.now)
one_at f id x how v found is first =
    ap (option_and_then (λ (a : MatchedArg). option_map (λ (s : Bor (List ℕ)). read_as a.reading s.now) (slice_get a.vals.items 0))) found
    ∙ ap (option_map (λ (s : Bor (List ℕ)). read_as x.reading s.now)) first
    ∙ ap (λ (h : Reading). Some (read_as h v.now)) is

first_at : (f : Found) (id : Text) (x : MatchedArg) (v : Bor (List ℕ)) → matched_of f id ≡ Some x → slice_get x.vals.items 0 ≡ Some v → first_value f id ≡ Some v.now
first_at f id x v found first =
    ap (option_and_then (λ (a : MatchedArg). option_map (λ (s : Bor (List ℕ)). s.now) (slice_get a.vals.items 0))) found
    ∙ ap (option_map (λ (s : Bor (List ℕ)). s.now)) first

-- each argument of the command with this id has the rules of a
record KeepsRules (c : Command) (a : Arg) (id : Text) : Type 0 where
  pub rule : (j : ℕ) (y : Arg) → j < length (args_of c) → slice_index_or (args_of c) j y ≡ y → bytes_eq y.id.now id ≡ true → SameRules a y

not_group : (c : Command) (e : Entry) (id : Text) → groups_of c ≡ [] → e.0.now ≡ id → IsOwn id → EntryPasses c e → e.1.is_group ≡ true → ⊥
not_group c e id none key own pass g = elim (pass.3 g) [
  | inl empty ↦ own.some (sym key ∙ empty)
  | inr lots ↦
      let bad : 0 < 0 = rw none at lots in
      absurd (omega arith)
]

not_count : (c : Command) (a : Arg) (id : Text) (q : ValueParser) → IsOption a id q → KeepsRules c a id → IsCountArg c id → ⊥
not_count c a id q is keeps any =
    let s = keeps.rule any.0 any.1 any.2 any.3 any.4.0 in
    let is_set : any.1.action ≡ Some Set = s.action Set is.set in
    let bad : Set ≡ Count = rw is_set at any.4.1 in
    cc

not_none : (c : Command) (a : Arg) (id : Text) (q : ValueParser) → IsOption a id q → KeepsRules c a id → AllowsNone c id → ⊥
not_none c a id q is keeps h =
    let s = keeps.rule h.0 h.1 h.2 h.3 h.4.0 in
    elim h.4.1 [
      | inl none ↦
          let one = s.least is.set is.least in
          omega arith
      | inr delim ↦
          let bad : false ≡ true = rw (s.val_delim, is.delim) at delim in
          cc
    ]

filled : (c : Command) (a : Arg) (e : Entry) (id : Text) (q : ValueParser) → IsOption a id q → KeepsRules c a id → (e.1.is_group ≡ true → ⊥) → e.0.now ≡ id
    → IsFilledEntry c e → 0 < length e.1.vals.items
filled c a e id q is keeps group key h = elim h [
  | inl g ↦ absurd (group g.0)
  | inr (inl v) ↦ v
  | inr (inr (inl counts)) ↦ absurd (not_count c a id q is keeps (subst (IsCountArg c) key counts.1))
  | inr (inr (inr none)) ↦ absurd (not_none c a id q is keeps (subst (AllowsNone c) key none))
]

reading_is : (c : Command) (a : Arg) (id : Text) (q : ValueParser) (r : Reading) → IsOption a id q → KeepsRules c a id → HasReading c id r → r ≡ reading_of q
reading_is c a id q r is keeps h =
    let s = keeps.rule h.0 h.1 h.2 h.3 h.4.0 in
    sym h.4.1 ∙ ap reading_of (parser_is a h.1 q s is.parser)

passed : (c : Command) (a : Arg) (id : Text) (q : ValueParser) (v : Text) → IsOption a id q → KeepsRules c a id → PassesArg c id v → (ignore : Bool) × Accepts ignore q v
passed c a id q v is keeps h =
    let s = keeps.rule h.0 h.1 h.2 h.3 h.4.0 in
    (h.1.ignore_case, subst (λ (w : ValueParser). Accepts h.1.ignore_case w v) (parser_is a h.1 q s is.parser) h.4.1)

-- what the entry of an option holds
record IsGood (e : MatchedArg) (q : ValueParser) : Type 0 where
  pub value : Bor (List ℕ)
  pub first : slice_get e.vals.items 0 ≡ Some value
  pub reading : e.reading ≡ reading_of q
  pub good : (ignore : Bool) × Accepts ignore q value.now

is_good : (c : Command) (a : Arg) (e : Entry) (id : Text) (q : ValueParser) → groups_of c ≡ [] → IsOwn id → IsOption a id q → KeepsRules c a id → e.0.now ≡ id
    → EntryPasses c e → IsGood e.1 q
is_good c a e id q none own is keeps key pass =
    let group = not_group c e id none key own pass in
    finish group (filled c a e id q is keeps group key pass.1)
  where
    values : (e.1.is_group ≡ true → ⊥) → All (λ v. PassesArg c id v.now) e.1.vals.items
    values group = elim pass.0 [ inl g ↦ absurd (group g) | inr vals ↦ subst (λ (w : Text). All (λ v. PassesArg c w v.now) e.1.vals.items) key vals ]

    how : (e.1.is_group ≡ true → ⊥) → e.1.reading ≡ reading_of q
    how group = elim pass.4 [ inl g ↦ absurd (group g) | inr h ↦ reading_is c a id q e.1.reading is keeps (subst (λ (w : Text). HasReading c w e.1.reading) key h) ]

    finish : (e.1.is_group ≡ true → ⊥) → 0 < length e.1.vals.items → IsGood e.1 q
    finish group some =
        let first = head_passes (λ v. PassesArg c id v.now) e.1.vals.items some (values group) in
        record { value = first.0; first = first.1; reading = how group; good = passed c a id q first.0.now is keeps first.2 }

entry : (c : Command) (f : Found) (a : Arg) (id : Text) (q : ValueParser) → groups_of c ≡ [] → IsOwn id → IsOption a id q → KeepsRules c a id → ValuesPass c f
    → (x : MatchedArg) → matched_of f id ≡ Some x → IsGood x q
entry c f a id q none own is keeps values x found =
    let got = entry_by_id (EntryPasses c) f.entries.items id x values found in
    subst (λ (y : MatchedArg). IsGood y q) got.1 (is_good c a got.0 id q none own is keeps ((bytes_eq-Decides got.0.0.now id).0 got.2) got.3)

pub option_read : (old : Command) (m : ArgMatches) → IsParsedFrom old m → (k : ℕ) (id : Text) (q : ValueParser) → IsSimpleCommand old → HasOption old k id q → IsOwn id
    → IsRead m id q
option_read old m p k id q simple has own =
    let parsed = p.parsed (p.from.globals ∙ simple.globals) in
    let wants : WantsDefault (slice_index_or (args_of old) k has.arg) = subst WantsDefault (sym (has.at has.arg)) has.is.default in
    let there = default_present old m p simple.globals k has.arg has.inside wants in
    let id_is : (slice_index_or (args_of old) k has.arg).id.now ≡ id = ap (λ (z : Arg). z.id.now) (has.at has.arg) ∙ has.is.id in
    let some : is_some (matched_of (found_of m) id) ≡ true =
    found_at (found_of m).entries.items id there.0 there.1 (λ d. subst (λ (t : Text). bytes_eq (slice_index_or (found_of m).entries.items there.0 d).0.now t ≡ true) id_is (there.2 d)) in
    go (matched_of (found_of m) id) refl some parsed
  where
    go : (o : Option MatchedArg) → matched_of (found_of m) id ≡ o → is_some (matched_of (found_of m) id) ≡ true → IsParsed p.built (found_of m) (has_subcommand m) → IsRead m id q
    go None e some parsed = let none : false ≡ true = rw e at some in cc
    go (Some x) e some parsed =
        let keeps : KeepsRules p.built has.arg id = record { rule = rules old m p k id q has own } in
        let got = entry p.built (found_of m) has.arg id q (p.from.plain simple.plain).1 own has.is keeps parsed.values x e in
        record { text = got.value.now; first = first_at (found_of m) id x got.value e got.first; one = one_at (found_of m) id x (reading_of q) got.value e got.reading got.first; good = got.good }

text_of : (o : Option Text) → is_some o ≡ true → (t : Text) × (o ≡ Some t)
text_of None e = absurd (true≢false (sym e))
text_of (Some t) e = (t, refl)

pub wanted_read : (old : Command) (m : ArgMatches) → IsParsedFrom old m → (k : ℕ) (id : Text) → IsSimpleCommand old → HasWanted old k id → IsOwn id → HasText m id
wanted_read old m p k id simple has own =
    let a = slice_index_or (args_of old) k has.arg in
    let is : a ≡ has.arg = has.at has.arg in
    let id_is : a.id.now ≡ id = ap (λ (z : Arg). z.id.now) is ∙ has.is.id in
    let unique : (i : ℕ) (e : Arg) → i < length (args_of old) → bytes_eq (slice_index_or (args_of old) i e).id.now a.id.now ≡ true → i ≡ k =
    λ i e lt h. at_place id k (args_of old) i e lt has.alone (subst (λ (t : Text). bytes_eq (slice_index_or (args_of old) i e).id.now t ≡ true) id_is h) in
    let auto : IsAuto a → ⊥ = λ h. elim h [ inl e ↦ own.help (sym id_is ∙ e) | inr e ↦ own.version (sym id_is ∙ e) ] in
    let some = required_has_value old m p simple.plain simple.globals has.negates k has.arg has.inside (ap (λ (z : Arg). z.required) is ∙ has.is.wanted)
    (ap (λ (z : Arg). z.action) is ∙ has.is.set) (ap (λ (z : Arg). z.val_delim) is ∙ has.is.delim) (subst (λ (z : Arg). 1 ≤ least_values z) (sym is) has.is.least)
    unique (λ e. own.some (sym id_is ∙ e)) auto in
    text_of (first_value (found_of m) id) (subst (λ (t : Text). is_some (first_value (found_of m) t) ≡ true) id_is some)

same_bytes : (a b : Text) → a ≡ b → bytes_eq a b ≡ true
same_bytes a b e = (bytes_eq-Decides a b).1 e

-- the test of it
pub own_by_test : (id : Text) → (bytes_eq id [] || (bytes_eq id (codes "help") || bytes_eq id (codes "version"))) ≡ false → IsOwn id
own_by_test id h =
    let first = or_parts _ _ h in
    let rest = or_parts _ _ first.1 in
    record {
      some = λ e. absurd (true≢false (sym (same_bytes id [] e) ∙ first.0));
      help = λ e. absurd (true≢false (sym (same_bytes id (codes "help") e) ∙ rest.0));
      version = λ e. absurd (true≢false (sym (same_bytes id (codes "version") e) ∙ rest.1));
    }
