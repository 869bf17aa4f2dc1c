use Rattle.std.proofs.Common.{◌∙◌, sym}
use Rattle.std.proofs.lemmas.Bool.{le-ltb}
use Rattle.account_holdings.proofs.BitSets.{no_bit}
use Rattle.account_holdings.proofs.bits.has_bit.Goals as goal

pub returns-else-number-lt32 : goal.returns-else-number-lt32
returns-else-number-lt32 c = le-ltb c.args.number 32 c.if-number-lt32.false ∙ sym (no_bit c.args.set c.args.number c.ranges.set.fits c.if-number-lt32.false)
