-- A file has the line of its bytes, or that of a file that wasn't read.
use Rattle.std.proofs.lemmas.Result.{IfOk-weaker}
use Rattle.commands.proofs.FileLineLemmas.{line_by, unread_by}
use Rattle.commands.proofs.file_line.file_line.Goals as goal

pub returns-in-Ok-clause-line : goal.returns-in-Ok-clause-line
returns-in-Ok-clause-line g c =
    IfOk-weaker c.line_of_bytes.result _ _ (λ line is. line_by _ _ c.as_slice.result.now _ _ _ (rw c.as_slice.ensures.value c.in-Ok.ensures.read) is) c.line_of_bytes.ensures

pub returns-in-Err-clause-line : goal.returns-in-Err-clause-line
returns-in-Err-clause-line g c = IfOk-weaker c.unread.result _ _ (λ line is. unread_by _ _ _ _ _ is) c.unread.ensures
