use Rattle.priv_sets.specs.DynamicNames.{dynamic_name}
use Rattle.priv_sets.proofs.Names.{capital_dynamic_name, upper_from_lower, lower_from_upper}
use Rattle.priv_sets.proofs.dynamic.Dynamic.is_named.Goals as goal

pub returns : goal.returns
returns c =
    let text = c.args.words.now in
    let same = rw c.name.ensures at c.eq_ignore_ascii_case.ensures.test in
    (λ found. upper_from_lower text (dynamic_name c.args.self) (capital_dynamic_name c.args.self) (same.0 found), λ named. same.1 (lower_from_upper text (dynamic_name c.args.self) named))
