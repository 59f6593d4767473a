-- The only span lies between the two edges.
use Rattle.std.proofs.Common.{◌≡◌, ◌&&◌, ℕ, true, List, ap, get_or, rules, subst, sym, ◌∙◌, arith}
use Rattle.std.proofs.lemmas.List.{get_or_read}
use Rattle.span_fill.specs.LonePairs.{is_between, is_lone_pair}
use Rattle.span_fill.specs.RowFields.{IsFilling}
use Rattle.span_fill.specs.RowState.{FillsLoneSpan, IsFillingWork, RowState}
use Rattle.span_fill.specs.Spans.{in_span}
use Rattle.span_fill.specs.declared.edge.ActiveEdge.{ActiveEdge}
use Rattle.span_fill.proofs.LonePairLemmas.{filled_lone, lone_over, lone_unused, two_edges, two_long}
use Rattle.span_fill.proofs.row_buf.RowBuf.next_lone_span.Goals as goal

pub returns : goal.returns
returns c =
    let old = c.self.inside in
    let active = old.active.items in
    let work = subst (λ (s : RowState). IsFillingWork s.work) (sym c.self.view_is) c.requires.filling in
    let found : c.is_lone_pair.result ≡ true = search rules in
    let lone : is_lone_pair old.rule active ≡ true = ap (is_lone_pair old.rule) (sym c.as_slice.ensures.value) ∙ sym c.is_lone_pair.ensures ∙ found in
    let one = c.index.result.now in
    let other = c.index-2.result.now in
    let long = two_long old.rule active lone in
    let first : one ≡ get_or active 0 one = get_or_read active 0 one (omega (arith, long)) c.index.ensures one in
    let second : other ≡ get_or active 1 one = get_or_read active 1 other (omega (arith, long)) c.index-2.ensures one in
    let filling = c.self.invariant.filling work (lone_unused old.rule old.table.is_used active old.is_sorted old.event lone c.self.invariant.counted) in
    let two = subst (λ (es : List ActiveEdge). IsFilling old.lines.items old.next old.capacity old.edges.items old.begun es old.is_sorted old.event) (two_edges old.rule active one lone) filling in
    let between : (x : ℕ) → in_span c.span_between-span.result x ≡ (in_span c.args.interval x && is_between (get_or active 0 one) (get_or active 1 one) x) =
    λ x. c.span_between-span.ensures x ∙ ap (λ (e : ActiveEdge). in_span c.args.interval x && is_between e other x) first ∙ ap (λ (e : ActiveEdge). in_span c.args.interval x && is_between (get_or active 0 one) e x) second in
    record {
      filled = subst (λ (s : RowState). FillsLoneSpan s.work s.lines s.next c.args.interval c.span_between-span.result) c.self.view_is
          (filled_lone old.work old.rule old.strokes.nib old.next old.capacity old.lines.items old.edges.items old.begun (get_or active 0 one) (get_or active 1 one) old.is_sorted old.event c.args.interval c.span_between-span.result work c.self.invariant.near two c.requires.end (lone_over old.rule active one lone) between);
      next = c.step.ensures.next;
      spans = c.step.ensures.spans;
      same = c.step.ensures.same;
    }
