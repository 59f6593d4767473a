use Rattle.std.proofs.Common.{◌≡◌, ◌+◌, ◌-◌, ◌*◌, ℤ, pos, ◌≤ℤ◌, ap, rules, subst, sym, ◌∙◌, FitsSigned, to_z, of_z}
use Rattle.std.specs.Int.{w64}
use Rattle.std.proofs.lemmas.Int.{to_z-of_z}
use Rattle.painting.proofs.LinePixelLemmas.{gives_step, none_to_step, place_is}
use Rattle.span_fill.specs.declared.grid.Grid.{Grid}
use Rattle.painting.proofs.line_pixels.LinePixelsPixelSource.step.Goals as goal

-- a number in its 64 bits
in_bits : (z : ℤ) → FitsSigned w64 z → to_z w64 (of_z w64 z) ≡ z
in_bits z fits = simp to_z-of_z

pub place_of-requires : goal.place_of-requires
place_of-requires c =
    let step = c.in-Some.ensures in
    let fits : FitsSigned w64 c.in-Some.numbered.number = search rules in
    subst (λ (n : ℤ). pos 0 ≤ℤ n) (sym (in_bits c.in-Some.numbered.number fits))
    (place_is c.args.self.now.steps c.in-Some.numbered c.args.self.now.below step.takes.given.inside step.number).0

pub returns-in-Some-clause-pixel : goal.returns-in-Some-clause-pixel
returns-in-Some-clause-pixel c =
    let step = c.in-Some.ensures in
    let takes = step.takes in
    let fits : FitsSigned w64 c.in-Some.numbered.number = search rules in
    gives_step c.line_law.ensures c.args.self.now.steps c.next_numbered.new.self _ takes.given.on takes.given.at takes.given.inside takes.more takes.next takes.same.line takes.same.region takes.same.end
    ((place_is c.args.self.now.steps c.in-Some.numbered c.args.self.now.below takes.given.inside step.number).1 c.place_of.result (c.place_of.ensures ∙ in_bits c.in-Some.numbered.number fits))

-- the numbers of the pixels stay
pub returns-in-Some-clause-places : goal.returns-in-Some-clause-places
returns-in-Some-clause-places c = λ x y. ap (λ (grid : Grid). (y - grid.first) * grid.stride + x) c.in-Some.ensures.takes.same.grid

pub returns-in-None-clause-pixel : goal.returns-in-None-clause-pixel
returns-in-None-clause-pixel c = none_to_step c.args.self.now.steps c.in-None.ensures.0

pub returns-in-Some-clause-end : goal.returns-in-Some-clause-end
returns-in-Some-clause-end c = λ end h. h

pub returns-in-None-clause-end : goal.returns-in-None-clause-end
returns-in-None-clause-end c = rw c.in-None.ensures.1 (none_to_step c.args.self.now.steps c.in-None.ensures.0)
