use Rattle.std.proofs.Common.{arith, rules}
use Rattle.program_words.proofs.Numbers.{too_great}
use Rattle.program_words.proofs.number.number_between.Goals as goal

pub returns-in-Err : goal.returns-in-Err
returns-in-Err c =
    too_great c.args.least c.args.most c.args.text.now (omega arith) (search rules) c.in-Err.ensures.value.0
