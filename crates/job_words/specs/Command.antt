-- The command of the program's words, as clap reads it.
use Rattle.std.specs.Prelude.{◌==◌, ℕ, Bool, true, List, [], ◌∷◌, ◌++◌, Some, codes, fold, length, pos, unwrap_or}
use Rattle.std.specs.Str.Parse.{digits_value, without_leading_plus}
use Rattle.clap.specs.Words.{App, Row, Rule, Text, fault_of, first_of, matches_of, new_app, new_rule, one_of, with_rule}
use Rattle.clap.specs.declared.builder.action.ArgAction.TheVariants.{Set}
use Rattle.clap.specs.declared.builder.value_parser.ValueParser.TheVariants as parser

-- an option that takes a whole number from low to high
abbrev pub number_rule : Text → ℕ → ℕ → Text → Rule
number_rule id low high default = record (new_rule id) {
  long = Some id;
  action = Some Set;
  parser = Some (parser.Signed (pos low) (pos high));
  defaults = default ∷ [];
}

-- an option that takes a text
abbrev pub text_rule : Text → Text → Rule
text_rule id default = record (new_rule id) {
  long = Some id;
  action = Some Set;
  parser = Some parser.String;
  defaults = default ∷ [];
}

-- a word that has to be there
abbrev pub wanted_rule : Text → Rule
wanted_rule id = record (new_rule id) { action = Some Set; required = true }

-- the options of a search's size
abbrev pub size_rules : List Rule
size_rules = number_rule (codes "workers") 1 16 (codes "4")
    ∷ number_rule (codes "seed") 0 4294967295 (codes "1")
    ∷ number_rule (codes "rounds") 0 10000 (codes "40")
    ∷ number_rule (codes "tries") 1 1000 (codes "200")
    ∷ []

-- the options of its phases and tries
abbrev pub phase_rules : List Rule
phase_rules = number_rule (codes "heat") 0 1000 (codes "6")
    ∷ number_rule (codes "relax") 0 1000 (codes "40")
    ∷ number_rule (codes "depth") 1 4 (codes "2")
    ∷ number_rule (codes "room") 1 1024 (codes "16")
    ∷ []

-- the options of a complex that is made
abbrev pub complex_rules : List Rule
complex_rules = text_rule (codes "kind") (codes "simplex")
    ∷ number_rule (codes "dim") 1 6 (codes "2")
    ∷ number_rule (codes "draws") 0 100000 (codes "0")
    ∷ []

-- the job, and all options
abbrev pub the_rules : List Rule
the_rules = wanted_rule (codes "job") ∷ size_rules ++ phase_rules ++ complex_rules

-- the words are those after the program's name
abbrev pub without_name : App → App
without_name a = record a { top = record a.top { no_binary_name = true } }

-- the command
unfoldable pub the_app : App
the_app = fold with_rule (without_name (new_app (codes "bistellar"))) the_rules

-- the command finds no fault in the words
unfoldable pub is_taken : List Text → Bool
is_taken words = length (fault_of the_app words) == 0

-- what the command finds in the words, by arguments
unfoldable pub rows : List Text → List Row
rows words = matches_of the_app words

-- the number that was found for an option
abbrev pub number_in : List Row → Text → ℕ
number_in found id = digits_value 10 (without_leading_plus (unwrap_or (one_of id found) []))

-- the text that was found for an argument
abbrev pub text_in : List Row → Text → Text
text_in found id = unwrap_or (first_of id found) []
