use Rattle.revoke_effects.proofs.Lawful.{given_kind, given_level, given_names}
use Rattle.revoke_effects.proofs.laws.given_rows_are_restrictions.Goals as goal

pub returns : goal.returns
returns c = record { kind = given_kind; names = given_names; level = given_level }
