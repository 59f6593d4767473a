use Rattle.std.proofs.Common.{◌≡◌, refl, rules, vec_capacity}
use Rattle.mapping.specs.PageMap.{map_numbers}
use Rattle.mapping.specs.PlaceOf.{surface_of}
use Rattle.dc_stack.specs.Mapped.{mapped_point}
use Rattle.dc_stack.specs.declared.path.PathPhase.TheVariants.{BetweenFigures, InFigure}
use Rattle.dc_stack.proofs.AdditionLemmas.{answer_between, answer_within, gathered_between, gathered_within, of_ok, of_three, path_between, path_within}
use Rattle.dc_stack.proofs.path.GatheredPath.add_lines.Goals as goal

pub returns-then-eq-clause-answer : goal.returns-then-eq-clause-answer
returns-then-eq-clause-answer c =
    let map = c.args.by.now.map in
    let start = mapped_point (map_numbers map) c.args.position in
    let at : c.args.self.now.phase ≡ InFigure = search rules in
    answer_within c.args.self.now c.add.new.self start c.args.points map c.requires.some c.requires.as_they_are c.requires.gathered at c.add.result (surface_of c.args.by.now.place) (vec_capacity c.args.self.now.pieces) c.add.ensures.answer

pub returns-then-eq-clause-path : goal.returns-then-eq-clause-path
returns-then-eq-clause-path c =
    let map = c.args.by.now.map in
    let start = mapped_point (map_numbers map) c.args.position in
    let at : c.args.self.now.phase ≡ InFigure = search rules in
    of_ok c.add.result (path_within c.args.self.now c.add.new.self start c.args.points map c.requires.some c.requires.as_they_are c.requires.gathered at) c.add.ensures.pieces c.add.ensures.phase

pub returns-then-eq-clause-gathered : goal.returns-then-eq-clause-gathered
returns-then-eq-clause-gathered c =
    let map = c.args.by.now.map in
    let start = mapped_point (map_numbers map) c.args.position in
    let at : c.args.self.now.phase ≡ InFigure = search rules in
    of_three c.add.result (gathered_within c.args.self.now c.add.new.self start c.args.points map c.requires.some c.requires.as_they_are c.requires.gathered at) c.add.ensures.pieces c.add.ensures.phase c.add.ensures.few

pub returns-else-eq-clause-answer : goal.returns-else-eq-clause-answer
returns-else-eq-clause-answer c =
    let map = c.args.by.now.map in
    let start = mapped_point (map_numbers map) c.args.position in
    let at : c.args.self.now.phase ≡ BetweenFigures = search rules in
    answer_between c.args.self.now c.add_from.new.self start c.args.points map c.requires.some c.requires.as_they_are c.requires.gathered at c.add_from.result (surface_of c.args.by.now.place) (vec_capacity c.args.self.now.pieces) c.add_from.ensures.answer

pub returns-else-eq-clause-path : goal.returns-else-eq-clause-path
returns-else-eq-clause-path c =
    let map = c.args.by.now.map in
    let start = mapped_point (map_numbers map) c.args.position in
    let at : c.args.self.now.phase ≡ BetweenFigures = search rules in
    of_ok c.add_from.result (path_between c.args.self.now c.add_from.new.self start c.args.points map c.requires.some c.requires.as_they_are c.requires.gathered at c.args.position refl) c.add_from.ensures.pieces c.add_from.ensures.phase

pub returns-else-eq-clause-gathered : goal.returns-else-eq-clause-gathered
returns-else-eq-clause-gathered c =
    let map = c.args.by.now.map in
    let start = mapped_point (map_numbers map) c.args.position in
    let at : c.args.self.now.phase ≡ BetweenFigures = search rules in
    of_three c.add_from.result (gathered_between c.args.self.now c.add_from.new.self start c.args.points map c.requires.some c.requires.as_they_are c.requires.gathered at c.args.position refl) c.add_from.ensures.pieces c.add_from.ensures.phase c.add_from.ensures.few
