use Rattle.account_match.proofs.Addresses.{address_read, address_spelled}
use Rattle.account_match.proofs.laws.addresses_are_spelled.Goals as goal

pub returns : goal.returns
returns c = record { read = address_read; only = address_spelled }
