-- What is told of a record's meaning stands behind its head.
use Rattle.std.proofs.Common.{◌++◌, codes}
use Rattle.draw_ops.specs.RecordOf.{record_of}
use Rattle.draw_ops.specs.Results.{result_map}
use Rattle.draw_ops.specs.StepOf.{step_value_of}
use Rattle.listing.specs.Line.{head_of, decoded_text}
use Rattle.listing.proofs.TextLemmas.{joined}
use Rattle.listing.proofs.line.put_line.Goals as goal

pub returns : goal.returns
returns c =
    let given = c.args.given.now in
    let head = head_of c.args.format given.number given.place (record_of given.record) in
    let decoded = decoded_text c.args.run (result_map step_value_of c.args.decoded.now) in
    joined c.args.buffer.now (head ++ decoded) (codes "\n") (joined c.args.buffer.now head decoded c.put_head.ensures.text c.put_decoded.ensures.text) c.put.ensures
