use Rattle.std.proofs.Common.{◌≡◌, length, rules, ◌∙◌}
use Rattle.std.proofs.lemmas.List.{take_at}
use Rattle.canvas.proofs.PartLemmas.{all_one}
use Rattle.canvas.proofs.splat.same_colours.Goals as goal

pub returns : goal.returns
returns c =
    let part = c.fill_with.new.part in
    let count = c.args.count in
    let all : c.in-Ok.colours.len ≡ count = c.in-Ok.ensures.len in
    let long : length part ≡ c.in-Ok.colours.len = search rules in
    take_at part _ c.in-Ok.colours.len long ∙ all_one part count c.args.colour (long ∙ all) (search (all, rules))
