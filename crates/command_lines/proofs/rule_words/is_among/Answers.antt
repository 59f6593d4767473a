-- A name is among borrowed names if it is among their texts.
use Rattle.std.proofs.Common.{◌∙◌, Bor, List, ℕ}
use Rattle.std.specs.Str.{bytes_eq}
use Rattle.clap.proofs.WalkLemmas.{list_any-map}
use Rattle.command_lines.proofs.rule_words.is_among.Goals as goal

pub returns : goal.returns
returns c = c.contains.ensures.value ∙ list_any-map (λ (other : List ℕ). bytes_eq other c.args.name.now) (λ (name : Bor (List ℕ)). name.now) c.args.names.now
