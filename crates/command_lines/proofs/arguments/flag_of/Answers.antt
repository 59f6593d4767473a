-- The flag is what clap reads from the text of the option.
use Rattle.std.proofs.Common.{◌≡◌, ◌∙◌, Bool, Some, None, codes, false, true}
use Rattle.clap.specs.Words.{Text, found_of, one_text, rows_of}
use Rattle.clap.specs.declared.parser.matches.Found.{Found}
use Rattle.clap.proofs.WalkLemmas.{one_text-rows}
use Rattle.command_lines.specs.CommandLine.{GivesFlag}
use Rattle.command_lines.proofs.arguments.flag_of.Goals as goal

flag_read : (f : Found) (id : Text) (flag : Bool) → (one_text f id ≡ None → flag ≡ false) → (one_text f id ≡ Some (codes "true") → flag ≡ true)
    → (one_text f id ≡ Some (codes "false") → flag ≡ false) → GivesFlag (rows_of f) id flag
flag_read f id flag none value other = record {
  set = λ is. value (one_text-rows f id ∙ is);
  unset = λ is. other (one_text-rows f id ∙ is);
  missing = λ is. none (one_text-rows f id ∙ is);
}

pub returns : goal.returns
returns c = flag_read (found_of c.args.given.now) c.args.id.now c.get_flag.result c.get_flag.ensures.none c.get_flag.ensures.value c.get_flag.ensures.other
