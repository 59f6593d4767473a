-- A name without a mark has the line of its file.
use Rattle.std.proofs.Common.{None}
use Rattle.std.proofs.lemmas.Result.{IfOk-weaker}
use Rattle.commands.proofs.batch_line.batch_line.Goals as goal

pub returns-in-None-clause-line : goal.returns-in-None-clause-line
returns-in-None-clause-line g c =
    let marked = rw c.in-None.is at c.shown_if_marked.ensures in
    IfOk-weaker c.line_of.result _ _ (λ it is. record { shown = None; marked = marked; line = is }) c.line_of.ensures.line
