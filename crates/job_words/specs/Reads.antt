-- What is known of the arguments after the command has taken the words.
use Rattle.std.specs.Prelude.{◌≡◌, Bool, Some, codes, pos}
use Rattle.clap.specs.Words.{Text, found_of, first_value, one_text, read_as, reading_of, Accepts}
use Rattle.clap.specs.declared.parser.matches.ArgMatches.{ArgMatches}
use Rattle.clap.specs.declared.builder.value_parser.ValueParser.{ValueParser}
use Rattle.clap.specs.declared.builder.value_parser.ValueParser.TheVariants as parser

-- the option has a value, which its parser took
pub record IsRead (m : ArgMatches) (id : Text) (q : ValueParser) : Type 0 where
  pub text : Text
  pub first : first_value (found_of m) id ≡ Some text
  pub one : one_text (found_of m) id ≡ Some (read_as (reading_of q) text)
  pub good : (ignore : Bool) × Accepts ignore q text

-- the argument has a text
abbrev pub HasText : ArgMatches → Text → Type 0
HasText m id = (text : Text) × (first_value (found_of m) id ≡ Some text)

-- each argument of the command has a value, which its parser took
pub record AreRead (m : ArgMatches) : Type 0 where
  pub job : HasText m (codes "job")
  pub workers : IsRead m (codes "workers") (parser.Signed (pos 1) (pos 16))
  pub seed : IsRead m (codes "seed") (parser.Signed (pos 0) (pos 4294967295))
  pub rounds : IsRead m (codes "rounds") (parser.Signed (pos 0) (pos 10000))
  pub tries : IsRead m (codes "tries") (parser.Signed (pos 1) (pos 1000))
  pub heat : IsRead m (codes "heat") (parser.Signed (pos 0) (pos 1000))
  pub relax : IsRead m (codes "relax") (parser.Signed (pos 0) (pos 1000))
  pub depth : IsRead m (codes "depth") (parser.Signed (pos 1) (pos 4))
  pub room : IsRead m (codes "room") (parser.Signed (pos 1) (pos 1024))
  pub kind : HasText m (codes "kind")
  pub dim : IsRead m (codes "dim") (parser.Signed (pos 1) (pos 6))
  pub draws : IsRead m (codes "draws") (parser.Signed (pos 0) (pos 100000))
