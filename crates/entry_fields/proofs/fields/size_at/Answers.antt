use Rattle.std.proofs.Common.{arith}
use Rattle.entry_fields.proofs.Fronts.{size_front, size_none}
use Rattle.entry_fields.proofs.fields.size_at.Goals as goal

pub returns-in_default-clause-none : goal.returns-in_default-clause-none
returns-in_default-clause-none c = λ _. size_none c.args.bytes.now c.in_default.len_below

pub returns-in-len2-up-clause-found : goal.returns-in-len2-up-clause-found
returns-in-len2-up-clause-found c =
    size_front c.args.bytes.now c.from_le_bytes.result c.in-len2-up.len_at_least (λ i. omega (arith, c.type_inv.bytes i)) c.from_le_bytes.ensures
