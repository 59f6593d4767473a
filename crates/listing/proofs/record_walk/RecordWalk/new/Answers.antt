-- All bytes are left.
use Rattle.listing.proofs.WalkLemmas.{all_left}
use Rattle.listing.proofs.record_walk.RecordWalk.new.Goals as goal

pub returns-clause-framed : goal.returns-clause-framed
returns-clause-framed g c = all_left g.F.Format.framing c.args.bytes.now
