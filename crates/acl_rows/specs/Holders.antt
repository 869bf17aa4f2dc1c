-- The rows beside the accounts that an account holds, and those that name it.
use Rattle.std.specs.Prelude.{Bool, ◌&&◌, not}
use Rattle.acl_names.specs.AuthId.{same_auth}
use Rattle.acl_names.specs.declared.auth.AuthId.{AuthId}
use Rattle.acl_model.specs.Rows.{holder, some_name}
use Rattle.acl_model.specs.declared.row.Row.{Row}
use Rattle.acl_rows.specs.Conditions.{is_account}

abbrev pub names_as_grant : AuthId → Row → Bool
names_as_grant a row = not (is_account row) && some_name (same_auth a) row

abbrev pub holds_as_grant : AuthId → Row → Bool
holds_as_grant a row = not (is_account row) && same_auth (holder row) a
