use Rattle.std.proofs.Common.{◌∙◌, ap, is_some, arith}
use Rattle.object_bits.proofs.Objects.{column_numbers}
use Rattle.object_bits.proofs.keys.take_key.Goals as goal

pub returns-in-Column-clause-known : goal.returns-in-Column-clause-known
returns-in-Column-clause-known c = λ key is.
    let names = c.args.names.now.names in
    let found = column_numbers names c.in-Column.schema c.in-Column.table c.in-Column.column key (rw c.in-Column.is at is) in
    let two = c.take_two-schema-in-Column in
    let first = two.ensures.known found.0 found.1 found.3 found.4 in
    let last = c.take.ensures.known found.2 (two.ensures.stood found.2 (ap is_some found.5) ∙ found.5) in
    omega (arith, first, last)
