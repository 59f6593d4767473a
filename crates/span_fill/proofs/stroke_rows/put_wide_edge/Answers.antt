-- One strip more.
use Rattle.std.proofs.Common.{pos, ap, ◌∙◌, ◌||◌, ◌∷◌, [], ◌++◌}
use Rattle.std.proofs.lemmas.List.Elements.{All-push, All-same}
use Rattle.span_fill.specs.StrokeRows.{IsWaiting, wide_edges_have}
use Rattle.span_fill.specs.WideStrokes.{on_wide_line}
use Rattle.span_fill.proofs.StrokeLemmas.{have_more}
use Rattle.span_fill.proofs.stroke_rows.put_wide_edge.Goals as goal

pub returns-clause-waiting : goal.returns-clause-waiting
returns-clause-waiting c =
    let from = c.rows_from.ensures.from in
    let to = c.rows_from.ensures.to in
    All-same (IsWaiting c.args.nib (pos c.args.row) (pos 8192)) _ (c.args.wide_edges.now.items ++ c.in-Some.edge ∷ []) c.push_reserved.ensures.items
    (All-push (IsWaiting c.args.nib (pos c.args.row) (pos 8192)) c.args.wide_edges.now.items c.in-Some.edge c.requires.waiting (rw (from, to) at c.in-Some.ensures.waiting))

pub returns-clause-have : goal.returns-clause-have
returns-clause-have c = λ x y h k.
    ap (λ l. wide_edges_have c.args.nib l x y) c.push_reserved.ensures.items
    ∙ have_more c.args.nib c.args.wide_edges.now.items c.in-Some.edge x y
    ∙ ap (λ l. wide_edges_have c.args.nib c.args.wide_edges.now.items x y || on_wide_line c.args.nib l x (pos y)) c.in-Some.ensures.line_is
