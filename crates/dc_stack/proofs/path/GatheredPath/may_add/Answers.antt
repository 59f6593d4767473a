use Rattle.std.proofs.Common.{◌≡◌, ◌+◌, nat_le, length, ap, arith}
use Rattle.dc_stack.specs.Path.{piece_limit}
use Rattle.dc_stack.proofs.path.GatheredPath.may_add.Goals as goal

pub returns : goal.returns
unfolding piece_limit
returns c =
    let count = c.len.ensures in
    let same : c.len.result ≡ length c.args.self.now.pieces.items = omega (arith, count) in
    ap (λ n. nat_le (n + c.args.more) 65536) same
