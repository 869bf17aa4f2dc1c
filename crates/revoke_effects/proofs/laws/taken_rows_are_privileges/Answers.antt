use Rattle.revoke_effects.proofs.Lawful.{all_taken_kind, taken_kind, taken_option}
use Rattle.revoke_effects.proofs.laws.taken_rows_are_privileges.Goals as goal

pub returns : goal.returns
returns c = record { kind = taken_kind; option = taken_option; all_kind = all_taken_kind; all_option = λ accounts a d taken. taken }
