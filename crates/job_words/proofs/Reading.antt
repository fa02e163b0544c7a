-- After a parse of the command each argument is read.
use Rattle.std.proofs.Common.{◌≡◌, ap, refl, true, false, ◌||◌, ℕ, List, [], codes, map, pos, arith}
use Rattle.std.specs.Prelude.{Some, slice_get}
use Rattle.std.specs.Str.{bytes_eq}
use Rattle.clap.specs.Facts.{args_of}
use Rattle.clap.specs.Built.{IsParsedFrom}
use Rattle.clap.specs.Words.{App, Rule, Text, app_of, is_simple, is_simple_and_free, rule_of}
use Rattle.clap.specs.declared.builder.command.Command.{Command}
use Rattle.clap.specs.declared.builder.command.Command.TheViews.{out-Command}
use Rattle.clap.specs.declared.builder.value_parser.ValueParser.TheVariants as parser
use Rattle.clap.specs.declared.parser.matches.ArgMatches.{ArgMatches}
use Rattle.clap.proofs.OnLiterals.{clap_on_literals}
use Rattle.job_words.specs.Command.{number_rule, text_rule, the_app, the_rules, wanted_rule}
use Rattle.job_words.specs.Reads.{AreRead, HasText, IsRead}
use Rattle.job_words.proofs.Options.{IsSimpleCommand, only_at}
use Rattle.job_words.proofs.FromRules.{option_from, simple_from, wanted_from}
use Rattle.job_words.proofs.OptionLaws.{option_read, own_by_test, wanted_read}

pub simple_app : is_simple the_app ≡ true
unfolding the_app clap_on_literals
simple_app = refl

pub free_app : is_simple_and_free the_app ≡ true
unfolding the_app clap_on_literals
free_app = refl

abbrev ids : List Text
ids = map (λ (r : Rule). r.id) the_rules

record IsOurs (c : Command) (m : ArgMatches) : Type 0 where
  pub rules_are : map rule_of (args_of c) ≡ the_rules
  pub simple : IsSimpleCommand c
  pub parsed : IsParsedFrom c m

number_read : (c : Command) (m : ArgMatches) → IsOurs c m → (k : ℕ) (id : Text) (low high : ℕ) (default : Text) → slice_get the_rules k ≡ Some (number_rule id low high default)
    → only_at id k ids ≡ true → (bytes_eq id [] || (bytes_eq id (codes "help") || bytes_eq id (codes "version"))) ≡ false
    → IsRead m id (parser.Signed (pos low) (pos high))
number_read c m ours k id low high default at only own =
    option_read c m ours.parsed k id (parser.Signed (pos low) (pos high)) ours.simple
    (option_from c the_rules k (number_rule id low high default) (parser.Signed (pos low) (pos high)) ours.rules_are at refl refl refl refl (omega arith) only)
    (own_by_test id own)

word_read : (c : Command) (m : ArgMatches) → IsOurs c m → (out-Command c).subcommand_negates_reqs ≡ false → HasText m (codes "job")
word_read c m ours negates =
    wanted_read c m ours.parsed 0 (codes "job") ours.simple (wanted_from c the_rules 0 (wanted_rule (codes "job")) ours.rules_are refl refl refl refl refl refl negates) (own_by_test (codes "job") refl)

kind_read : (c : Command) (m : ArgMatches) → IsOurs c m → HasText m (codes "kind")
kind_read c m ours =
    let read = option_read c m ours.parsed 9 (codes "kind") parser.String ours.simple
    (option_from c the_rules 9 (text_rule (codes "kind") (codes "simplex")) parser.String ours.rules_are refl refl refl refl refl (omega arith) refl) (own_by_test (codes "kind") refl) in
    (read.text, read.first)

our_negates : (c : Command) → app_of c ≡ the_app → (out-Command c).subcommand_negates_reqs ≡ false
unfolding the_app
our_negates c e = ap (λ (a : App). a.top.subcommand_negates_reqs) e

our_rules : (c : Command) → app_of c ≡ the_app → map rule_of (args_of c) ≡ the_rules
unfolding the_app
our_rules c e = ap (λ (a : App). a.top.rules) e

our_command : (c : Command) → app_of c ≡ the_app → IsSimpleCommand c
unfolding the_app
our_command c e = simple_from c the_rules (ap (λ (a : App). a.top.rules) e) refl (ap (λ (a : App). a.top.is_plain) e)

pub are_read : (c : Command) (m : ArgMatches) → app_of c ≡ the_app → IsParsedFrom c m → AreRead m
are_read c m e parsed =
    let ours : IsOurs c m = record { rules_are = our_rules c e; simple = our_command c e; parsed = parsed } in
    record {
      job = word_read c m ours (our_negates c e);
      workers = number_read c m ours 1 (codes "workers") 1 16 (codes "4") refl refl refl;
      seed = number_read c m ours 2 (codes "seed") 0 4294967295 (codes "1") refl refl refl;
      rounds = number_read c m ours 3 (codes "rounds") 0 10000 (codes "40") refl refl refl;
      tries = number_read c m ours 4 (codes "tries") 1 1000 (codes "200") refl refl refl;
      heat = number_read c m ours 5 (codes "heat") 0 1000 (codes "6") refl refl refl;
      relax = number_read c m ours 6 (codes "relax") 0 1000 (codes "40") refl refl refl;
      depth = number_read c m ours 7 (codes "depth") 1 4 (codes "2") refl refl refl;
      room = number_read c m ours 8 (codes "room") 1 1024 (codes "16") refl refl refl;
      kind = kind_read c m ours;
      dim = number_read c m ours 10 (codes "dim") 1 6 (codes "2") refl refl refl;
      draws = number_read c m ours 11 (codes "draws") 0 100000 (codes "0") refl refl refl;
    }
