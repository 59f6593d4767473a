-- The information about a file is in its line, and whether it plays decides how the work ends.
use Rattle.commands.proofs.FileLineLemmas.{read_line}
use Rattle.commands.proofs.file_line.line_of_bytes.Goals as goal

pub returns-in-Ok-info_text : goal.returns-in-Ok-info_text
returns-in-Ok-info_text c = read_line _ _ _ _ c.in-Ok.info _ c.in-Ok.ensures.info c.in-Ok.ensures.plays c.in-Ok-info_text.ensures c.end_of.ensures
