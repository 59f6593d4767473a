-- A text that fits isn't cut.
use Rattle.std.proofs.Common.{◌∙◌, arith}
use Rattle.std.proofs.lemmas.List.{length-append}
use Rattle.std.specs.Fmt.InlineText.{inline_text}
use Rattle.commands.proofs.TextLemmas.{whole}
use Rattle.commands.proofs.reporting.joined.Goals as goal

pub returns : goal.returns
returns g c =
    let capacity = c.requires in
    let long = length-append (inline_text c.args.text) c.args.more.now in
    c.and_str.ensures.to_end (omega arith) ∙ whole _ _ (omega (arith, capacity, long))
