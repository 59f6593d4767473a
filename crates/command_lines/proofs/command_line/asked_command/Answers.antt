-- The rows of the parsed command are the arguments that it was given.
use Rattle.std.proofs.Common.{codes, refl}
use Rattle.command_lines.specs.CommandLine.{check_app, list_app, over_app, play_app, prepare_app, show_app}
use Rattle.command_lines.proofs.AskedLemmas.{asked_by, none_right, other_met, right_rows}
use Rattle.command_lines.proofs.command_line.asked_command.Goals as goal

pub returns-in-Some-clause-asked : goal.returns-in-Some-clause-asked
returns-in-Some-clause-asked c = asked_by _ (codes "show") _ c.asked_show.result (c.in-Some.ensures.found.0 refl) c.in-Some.ensures.rows c.asked_show.ensures.name c.asked_show.ensures.gives

pub returns-in-Some-clause-taken : goal.returns-in-Some-clause-taken
returns-in-Some-clause-taken c = λ right other. c.asked_show.ensures.taken (right_rows _ (codes "show") show_app.top _ right (c.in-Some.ensures.found.0 refl) c.in-Some.ensures.rows refl)

pub returns-in-Some-subcommand_matches-clause-asked : goal.returns-in-Some-subcommand_matches-clause-asked
returns-in-Some-subcommand_matches-clause-asked c = asked_by _ (codes "prepare") _ c.asked_prepare.result (c.in-Some-subcommand_matches.ensures.found.0 refl) c.in-Some-subcommand_matches.ensures.rows c.asked_prepare.ensures.name c.asked_prepare.ensures.gives

pub returns-in-Some-subcommand_matches-clause-taken : goal.returns-in-Some-subcommand_matches-clause-taken
returns-in-Some-subcommand_matches-clause-taken c = λ right other. c.asked_prepare.ensures.taken (right_rows _ (codes "prepare") prepare_app.top _ right (c.in-Some-subcommand_matches.ensures.found.0 refl) c.in-Some-subcommand_matches.ensures.rows refl)

pub returns-in-Some-subcommand_matches-2-clause-asked : goal.returns-in-Some-subcommand_matches-2-clause-asked
returns-in-Some-subcommand_matches-2-clause-asked c = asked_by _ (codes "check") _ c.asked_check.result (c.in-Some-subcommand_matches-2.ensures.found.0 refl) c.in-Some-subcommand_matches-2.ensures.rows c.asked_check.ensures.name c.asked_check.ensures.gives

pub returns-in-Some-subcommand_matches-2-clause-taken : goal.returns-in-Some-subcommand_matches-2-clause-taken
returns-in-Some-subcommand_matches-2-clause-taken c = λ right other. c.asked_check.ensures.taken (right_rows _ (codes "check") check_app.top _ right (c.in-Some-subcommand_matches-2.ensures.found.0 refl) c.in-Some-subcommand_matches-2.ensures.rows refl).all

pub returns-in-Some-subcommand_matches-3-clause-asked : goal.returns-in-Some-subcommand_matches-3-clause-asked
returns-in-Some-subcommand_matches-3-clause-asked c = asked_by _ (codes "play") _ c.asked_play.result (c.in-Some-subcommand_matches-3.ensures.found.0 refl) c.in-Some-subcommand_matches-3.ensures.rows c.asked_play.ensures.name c.asked_play.ensures.gives

pub returns-in-Some-subcommand_matches-3-clause-taken : goal.returns-in-Some-subcommand_matches-3-clause-taken
returns-in-Some-subcommand_matches-3-clause-taken c = λ right other. c.asked_play.ensures.taken (right_rows _ (codes "play") play_app.top _ right (c.in-Some-subcommand_matches-3.ensures.found.0 refl) c.in-Some-subcommand_matches-3.ensures.rows refl).all

pub returns-in-Some-subcommand_matches-4-clause-asked : goal.returns-in-Some-subcommand_matches-4-clause-asked
returns-in-Some-subcommand_matches-4-clause-asked c = asked_by _ (codes "over") _ c.asked_over.result (c.in-Some-subcommand_matches-4.ensures.found.0 refl) c.in-Some-subcommand_matches-4.ensures.rows c.asked_over.ensures.name c.asked_over.ensures.gives

pub returns-in-Some-subcommand_matches-4-clause-taken : goal.returns-in-Some-subcommand_matches-4-clause-taken
returns-in-Some-subcommand_matches-4-clause-taken c = λ right other. c.asked_over.ensures.taken (right_rows _ (codes "over") over_app.top _ right (c.in-Some-subcommand_matches-4.ensures.found.0 refl) c.in-Some-subcommand_matches-4.ensures.rows refl).all

pub returns-in-Some-subcommand_matches-5-clause-asked : goal.returns-in-Some-subcommand_matches-5-clause-asked
returns-in-Some-subcommand_matches-5-clause-asked c = asked_by _ (codes "list") _ c.asked_list.result (c.in-Some-subcommand_matches-5.ensures.found.0 refl) c.in-Some-subcommand_matches-5.ensures.rows c.asked_list.ensures.name c.asked_list.ensures.gives

pub returns-in-Some-subcommand_matches-5-clause-taken : goal.returns-in-Some-subcommand_matches-5-clause-taken
returns-in-Some-subcommand_matches-5-clause-taken c = λ right other. c.asked_list.ensures.taken (right_rows _ (codes "list") list_app.top _ right (c.in-Some-subcommand_matches-5.ensures.found.0 refl) c.in-Some-subcommand_matches-5.ensures.rows refl)

pub returns-clause-taken : goal.returns-clause-taken
returns-clause-taken c = λ right other.
    absurd (none_right _ right (
      c.in_default.ensures.found.1,
      (
        c.in_default-subcommand_matches.ensures.found.1,
        (
          c.in_default-subcommand_matches-2.ensures.found.1,
          (
            c.in_default-subcommand_matches-3.ensures.found.1,
            (c.in_default-subcommand_matches-4.ensures.found.1, (c.in_default-subcommand_matches-5.ensures.found.1, (other_met _ (codes "info") other.0, (other_met _ (codes "certify") other.1, tt)))),
          ),
        ),
      ),
    ))
