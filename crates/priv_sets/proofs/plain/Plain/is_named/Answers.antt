use Rattle.priv_sets.specs.PlainNames.{plain_name}
use Rattle.priv_sets.proofs.Names.{capital_name, upper_from_lower, lower_from_upper}
use Rattle.priv_sets.proofs.plain.Plain.is_named.Goals as goal

pub returns : goal.returns
returns c =
    let text = c.args.words.now in
    let same = rw c.name.ensures at c.eq_ignore_ascii_case.ensures.test in
    (λ found. upper_from_lower text (plain_name c.args.self) (capital_name c.args.self) (same.0 found), λ named. same.1 (lower_from_upper text (plain_name c.args.self) named))
