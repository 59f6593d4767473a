use Rattle.std.proofs.Common.{refl}
use Rattle.dc_stack.specs.GatheredPath.{open_piece}
use Rattle.dc_stack.proofs.AdditionLemmas.{gathered_with, of_ok, of_three, path_with}
use Rattle.dc_stack.proofs.path.GatheredPath.add_lists.Goals as goal

pub returns-clause-path : goal.returns-clause-path
returns-clause-path c =
    let piece = open_piece c.args.points c.args.by.now.map c.args.verb in
    of_ok c.add.result (λ items phase. path_with c.args.self.now c.add.new.self piece items phase c.requires.some refl c.requires.«open») c.add.ensures.pieces c.add.ensures.phase

pub returns-clause-gathered : goal.returns-clause-gathered
returns-clause-gathered c =
    let piece = open_piece c.args.points c.args.by.now.map c.args.verb in
    of_three c.add.result (λ items phase few. gathered_with c.args.self.now c.add.new.self piece items phase c.requires.some refl few) c.add.ensures.pieces c.add.ensures.phase c.add.ensures.few
