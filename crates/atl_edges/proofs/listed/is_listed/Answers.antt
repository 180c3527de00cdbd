use Rattle.std.proofs.Common.{◌≡◌, ◌+◌, ◌^◌, sym, arith}
use Rattle.atl_edges.proofs.Lookups.{is_listed_past}
use Rattle.atl_edges.proofs.listed.is_listed.Goals as goal

-- the call after 2^64 - 1 others has a number past every one of the list
pub returns-in-None : goal.returns-in-None
returns-in-None c =
    let past : c.args.calls + 1 ≡ 2 ^ 64 = omega (arith, c.in-None.ensures) in
    sym (is_listed_past c.args.failing.now (c.args.calls + 1) (λ k within. omega (arith, c.type_inv.failing k)))
