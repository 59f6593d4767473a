use Rattle.std.proofs.Common.{◌*◌, refl, arith}
use Rattle.point_views.specs.declared.numbers.NumberWidth.TheVariants.{Short}
use Rattle.point_views.proofs.CountLemmas.{counts_in-taken}
use Rattle.point_views.proofs.counts.Counts.new16.Goals as goal

pub returns-clause-counts : goal.returns-clause-counts
returns-clause-counts c = counts_in-taken Short c.args.n (2 * c.args.n) c.args.bytes.now refl (omega arith)
