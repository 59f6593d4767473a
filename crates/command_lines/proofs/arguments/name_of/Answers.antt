-- The name is the text of the argument with this id.
use Rattle.std.proofs.Common.{◌≡◌, ◌∙◌, sym, refl, List, ℕ, Option, Some, None, IfSome, IsSome, option_map, Bor}
use Rattle.clap.specs.Words.{Text, first_of, first_value, found_of, rows_of}
use Rattle.clap.specs.declared.parser.matches.Found.{Found}
use Rattle.clap.proofs.WalkLemmas.{first_value-rows}
use Rattle.command_lines.proofs.arguments.name_of.Goals as goal

named : (r : Option (Bor (List ℕ))) (f : Found) (id : Text) → option_map (λ s. s.now) r ≡ first_value f id → IfSome r (λ name. first_of id (rows_of f) ≡ Some name.now)
named None f id e = tt
named (Some s) f id e = sym (first_value-rows f id) ∙ sym e

there : (r : Option (Bor (List ℕ))) (f : Found) (id : Text) → option_map (λ s. s.now) r ≡ first_value f id → IsSome (first_of id (rows_of f)) → IsSome r
there None f id e some = let lacks : first_of id (rows_of f) ≡ None = sym (first_value-rows f id) ∙ sym e in rw lacks at some
there (Some s) f id e some = refl

pub returns-clause-given : goal.returns-clause-given
returns-clause-given c = named c.get_str.result (found_of c.args.given.now) c.args.id.now c.get_str.ensures

pub returns-clause-taken : goal.returns-clause-taken
returns-clause-taken c = there c.get_str.result (found_of c.args.given.now) c.args.id.now c.get_str.ensures
