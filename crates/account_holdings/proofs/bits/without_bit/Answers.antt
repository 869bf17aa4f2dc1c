use Rattle.account_holdings.proofs.BitSets.{bit_goes, bit_stays}
use Rattle.account_holdings.proofs.bits.without_bit.Goals as goal

pub returns-then-number-lt32 : goal.returns-then-number-lt32
returns-then-number-lt32 c = λ q. bit_goes c.args.set c.args.number q c.ranges.set.fits c.if-number-lt32.true

pub returns-else-number-lt32 : goal.returns-else-number-lt32
returns-else-number-lt32 c = λ q. bit_stays c.args.set c.args.number q c.ranges.set.fits c.if-number-lt32.false
