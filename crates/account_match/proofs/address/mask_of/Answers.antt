use Rattle.std.proofs.Common.{◌-◌, ◌<◌, arith}
use Rattle.std.proofs.lemmas.Nat.{one_shl}
use Rattle.account_match.specs.Address.{mask_of}
use Rattle.account_match.proofs.address.mask_of.Goals as goal

pub returns : goal.returns
unfolding mask_of
returns c = let below : 32 - c.args.length < 64 = omega arith in omega (arith, one_shl (32 - c.args.length) 64 below)
