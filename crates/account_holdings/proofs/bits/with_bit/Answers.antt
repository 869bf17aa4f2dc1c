use Rattle.account_holdings.proofs.BitSets.{bit_comes}
use Rattle.account_holdings.proofs.bits.with_bit.Goals as goal

pub returns : goal.returns
returns c = λ q. bit_comes c.args.set c.args.number q c.requires
