use Rattle.draw_ops.proofs.TableLemmas.{fault_table, note_table}
use Rattle.draw_ops.proofs.laws.table_law.Goals as goal

pub returns-clause-faults : goal.returns-clause-faults
returns-clause-faults c = fault_table

pub returns-clause-notes : goal.returns-clause-notes
returns-clause-notes c = note_table
