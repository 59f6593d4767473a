-- The strips that have the row are at it, and the others have nothing from there on.
use Rattle.std.proofs.Common.{rules, pos, ap, ◌∙◌}
use Rattle.std.proofs.lemmas.Fn.{filter_same}
use Rattle.std.proofs.lemmas.List.Elements.{All-same}
use Rattle.span_fill.specs.StrokeRows.{IsActive, wide_edges_have}
use Rattle.span_fill.proofs.StrokeLemmas.{goes_on, retired_active, retired_have}
use Rattle.span_fill.proofs.stroke_rows.retire.Goals as goal

pub returns-clause-active : goal.returns-clause-active
returns-clause-active c =
    All-same (IsActive c.args.nib (pos c.args.row) (pos 8192)) _ _ (filter_same _ (goes_on (pos c.args.row)) _ (λ x b f' k. search rules) _ _ c.retain.ensures.filtered)
    (retired_active c.args.nib (pos c.args.row) (pos 8192) c.args.active.now.items c.requires.passed)

pub returns-clause-have : goal.returns-clause-have
returns-clause-have c = λ x y h k.
    ap (λ l. wide_edges_have c.args.nib l x y) (filter_same _ (goes_on (pos c.args.row)) _ (λ x b f' k. search rules) _ _ c.retain.ensures.filtered)
    ∙ retired_have c.args.nib c.args.row c.args.active.now.items x y c.requires.passed h k
