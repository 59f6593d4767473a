use Rattle.std.proofs.Common.{ℕ, sym, ◌∙◌}
use Rattle.std.proofs.lemmas.Bool.{true≢false}
use Rattle.mapping.specs.declared.geometry.Colour.{Colour}
use Rattle.dc_stack.specs.Values.{placed_value}
use Rattle.painting.proofs.DotLemmas.{dot_there, no_dot_there, no_indexes}
use Rattle.painting.proofs.dots.put.Goals as goal

pub returns-in_default-clause-pixels : goal.returns-in_default-clause-pixels
returns-in_default-clause-pixels c =
    no_indexes c.writing_law.ensures (placed_value c.args.clip.now) c.args.point c.args.canvas.now c.whole_law.ensures.whole (λ (x y : ℕ) (old : Colour). c.args.colour) (sym c.indexes.ensures ∙ c.in_default.is)

pub returns-then-not-has_pixel-clause-pixels : goal.returns-then-not-has_pixel-clause-pixels
returns-then-not-has_pixel-clause-pixels c =
    no_dot_there c.writing_law.ensures (placed_value c.args.clip.now) c.args.point c.args.canvas.now c.whole_law.ensures.whole (λ (x y : ℕ) (old : Colour). c.args.colour) c.in-Some.x c.in-Some.y (sym c.indexes.ensures ∙ c.in-Some.is)
    (λ held has. true≢false (sym (c.if-not-has_pixel.ensures.pixel.1 held)))

pub returns-then-has-clause-pixels : goal.returns-then-has-clause-pixels
returns-then-has-clause-pixels c =
    dot_there c.writing_law.ensures (placed_value c.args.clip.now) c.args.point c.args.canvas.now c.whole_law.ensures.whole (λ (x y : ℕ) (old : Colour). c.args.colour) c.in-Some.x c.in-Some.y (sym c.indexes.ensures ∙ c.in-Some.is) c.put.new.self (sym c.if-has.ensures) c.put.ensures.repaints

pub returns-else-has-clause-pixels : goal.returns-else-has-clause-pixels
returns-else-has-clause-pixels c =
    no_dot_there c.writing_law.ensures (placed_value c.args.clip.now) c.args.point c.args.canvas.now c.whole_law.ensures.whole (λ (x y : ℕ) (old : Colour). c.args.colour) c.in-Some.x c.in-Some.y (sym c.indexes.ensures ∙ c.in-Some.is)
    (λ held has. true≢false (sym has ∙ sym c.has.ensures ∙ c.if-has.false))
