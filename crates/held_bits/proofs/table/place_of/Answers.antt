use Rattle.std.proofs.Common.{arith}
use Rattle.std.proofs.lemmas.Grind.{common_steps}
use Rattle.held_bits.proofs.Tables.{fits_from}
use Rattle.held_bits.proofs.table.place_of.Goals as goal

pub returns-in_default-clause-fits : goal.returns-in_default-clause-fits
returns-in_default-clause-fits c =
    fits_from c.args.records.now c.args.holder c.args.thing c.rank_start-place.result c.requires (omega arith) c.rank_start-place.ensures.within
    (λ k d early. omega (arith, c.rank_start-place.ensures.before k d early, c.rank.ensures))
    (λ k d late below. omega (arith, c.rank_start-place.ensures.after k d late below, c.rank.ensures))
    (λ d there. grind (arith, common_steps))

pub returns-in_default-2-clause-fits : goal.returns-in_default-2-clause-fits
returns-in_default-2-clause-fits c =
    fits_from c.args.records.now c.args.holder c.args.thing c.rank_start-place.result c.requires (omega arith) c.rank_start-place.ensures.within
    (λ k d early. omega (arith, c.rank_start-place.ensures.before k d early, c.rank.ensures))
    (λ k d late below. omega (arith, c.rank_start-place.ensures.after k d late below, c.rank.ensures))
    (λ d there. grind (arith, common_steps))
