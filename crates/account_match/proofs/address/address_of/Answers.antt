use Rattle.std.proofs.Common.{[], Some, ap, append-nil, lit≤}
use Rattle.std.specs.Net.Addr.{ipv4_bits}
use Rattle.std.proofs.NetLemmas.Ipv4.{read_ipv4_complete}
use Rattle.account_match.proofs.Addresses.{no_address}
use Rattle.account_match.specs.Address.{address_of}
use Rattle.account_match.proofs.address.address_of.Goals as goal

pub returns-in-Ok : goal.returns-in-Ok
unfolding address_of ipv4_bits
returns-in-Ok c =
    let read = rw append-nil at (read_ipv4_complete _ _ [] c.in-Ok.ensures (lit≤ tt)) in
    rw read (ap Some c.to_bits.ensures)

pub returns-in-Err : goal.returns-in-Err
returns-in-Err c = no_address _ c.in-Err.ensures
