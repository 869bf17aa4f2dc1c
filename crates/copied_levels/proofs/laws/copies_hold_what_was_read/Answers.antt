use Rattle.copied_levels.proofs.Rights.{same_dynamic, same_grantable, same_plain, same_restricted, same_schema}
use Rattle.copied_levels.proofs.laws.copies_hold_what_was_read.Goals as goal

pub returns : goal.returns
returns c = record { plain = same_plain; dynamic = same_dynamic; grantable = same_grantable; restricted = same_restricted; schema = same_schema }
