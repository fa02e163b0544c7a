-- The arguments of a command, as the caller made them.
use Rattle.std.specs.Prelude.{◌≡◌, ◌≤◌, ◌<◌, ◌&&◌, ℕ, zero, suc, Bool, true, false, not, List, [], ◌∷◌, length, map, Some, None, codes}
use Rattle.std.specs.List.{slice_index_or, list_any}
use Rattle.std.specs.Str.{bytes_eq}
use Rattle.clap.specs.Words.{Text, IsPlain, args_of}
use Rattle.clap.specs.Facts.{WantsDefault, least_values}
use Rattle.clap.specs.declared.builder.arg.Arg.{Arg}
use Rattle.clap.specs.declared.builder.action.ArgAction.TheVariants.{Set}
use Rattle.clap.specs.declared.builder.command.Command.{Command}
use Rattle.clap.specs.declared.builder.command.Command.TheViews.{out-Command}
use Rattle.clap.specs.declared.builder.value_parser.ValueParser.{ValueParser}

-- an option that takes one value, which this parser reads, and has a default
pub record IsOption (a : Arg) (name : Text) (q : ValueParser) : Type 0 where
  pub id : a.id.now ≡ name
  pub set : a.action ≡ Some Set
  pub delim : a.val_delim ≡ None
  pub least : 1 ≤ least_values a
  pub parser : a.value_parser ≡ Some q
  pub default : WantsDefault a

abbrev pub ids_of : Command → List Text
ids_of c = map (λ a. a.id.now) (args_of c)

-- the id stands at place k alone
abbrev pub only_at : Text → ℕ → List Text → Bool
only_at id k [] = true
only_at id zero (x ∷ xs) = not (list_any (λ y. bytes_eq y id) xs)
only_at id (suc k) (x ∷ xs) = not (bytes_eq x id) && only_at id k xs

-- the command has such an option at place k
pub record HasOption (c : Command) (k : ℕ) (id : Text) (q : ValueParser) : Type 0 where
  pub arg : Arg
  pub inside : k < length (args_of c)
  pub at : (d : Arg) → slice_index_or (args_of c) k d ≡ arg
  pub is : IsOption arg id q
  pub alone : only_at id k (ids_of c) ≡ true

-- nothing in the command excludes anything, and no argument is global
pub record IsSimpleCommand (c : Command) : Type 0 where
  pub plain : IsPlain c
  pub globals : (out-Command c).has_globals ≡ false

-- the id is no one of clap's own
pub record IsOwn (id : Text) : Type 0 where
  pub some : id ≡ [] → ⊥
  pub help : id ≡ codes "help" → ⊥
  pub version : id ≡ codes "version" → ⊥

-- an argument that is required and takes one value
pub record IsWanted (a : Arg) (name : Text) : Type 0 where
  pub id : a.id.now ≡ name
  pub set : a.action ≡ Some Set
  pub delim : a.val_delim ≡ None
  pub least : 1 ≤ least_values a
  pub wanted : a.required ≡ true

pub record HasWanted (c : Command) (k : ℕ) (id : Text) : Type 0 where
  pub arg : Arg
  pub inside : k < length (args_of c)
  pub at : (d : Arg) → slice_index_or (args_of c) k d ≡ arg
  pub is : IsWanted arg id
  pub alone : only_at id k (ids_of c) ≡ true
  pub negates : (out-Command c).subcommand_negates_reqs ≡ false
