-- Worked examples: grants, partial revokes, columns and dynamic privileges.
use Rattle.std.specs.Prelude.{true, false, ◌≡◌, [], ◌∷◌, refl}
use Rattle.acl_model.specs.Effects.{becomes, changed}
use Rattle.acl_model_laws.specs.ExampleNames.{ann, area, backup, bob, city, delete, insert, insert_delete, next, no_pay, option_alone, pay, select, select_and_area, world}
use Rattle.acl_model.specs.State.{State, opening}
use Rattle.acl_model.specs.declared.row.Row.TheVariants.{Account, Column, Dynamic, DynamicGrant, Global, Restriction, Schema, Table}
use Rattle.acl_stmt.specs.declared.statement.Statement.TheVariants.{CreateRole, Grant, Revoke, RevokeAll}
use Rattle.acl_stmt.specs.declared.target.Target.TheVariants as on
use Rattle.priv_sets.specs.Levels.{grant_option, has_level}
use Rattle.priv_sets.specs.StaticSet.{holds}

abbrev two_accounts : State
two_accounts = next (CreateRole false (ann ∷ bob ∷ [])) opening

-- INSERT and DELETE everywhere, neither on `world`, and no INSERT on `pay`
abbrev restricted_twice : State
restricted_twice =
    next (Revoke insert (on.Schema pay) (ann ∷ []))
    (next (Revoke insert_delete (on.Schema world) (ann ∷ [])) (next (Grant insert_delete on.Global (ann ∷ []) false) two_accounts))

example-both_on_one_schema : restricted_twice.rows (Restriction ann 3 world) ≡ true
unfolding changed becomes holds
example-both_on_one_schema = refl

example-one_on_the_other : restricted_twice.rows (Restriction ann 1 pay) ≡ true
unfolding changed becomes holds
example-one_on_the_other = refl

example-not_what_was_not_revoked : restricted_twice.rows (Restriction ann 3 pay) ≡ false
unfolding changed becomes holds
example-not_what_was_not_revoked = refl

example-still_held_everywhere : restricted_twice.rows (Global ann 3) ≡ true
unfolding changed becomes holds
example-still_held_everywhere = refl

-- a grant on the schema gives the restriction back, and no schema privilege
abbrev given_back : State
given_back = next (Grant delete (on.Schema world) (ann ∷ []) false) restricted_twice

example-restriction_ends : given_back.rows (Restriction ann 3 world) ≡ false
unfolding changed becomes holds
example-restriction_ends = refl

example-no_schema_privilege : given_back.rows (Schema ann world 3) ≡ false
unfolding changed becomes holds
example-no_schema_privilege = refl

example-other_restriction_stays : given_back.rows (Restriction ann 1 world) ≡ true
unfolding changed becomes holds
example-other_restriction_stays = refl

-- a grant on `*.*` by one who is restricted on `pay` restricts a new holder there
abbrev granted_with_limits : State
granted_with_limits = changed no_pay (Grant select on.Global (ann ∷ []) false) two_accounts

example-limit_is_handed_on : granted_with_limits.rows (Restriction ann 0 pay) ≡ true
unfolding changed becomes holds
example-limit_is_handed_on = refl

-- but not one who holds the privilege on that schema
abbrev held_on_pay : State
held_on_pay = changed no_pay (Grant select on.Global (ann ∷ []) false) (next (Grant select (on.Schema pay) (ann ∷ []) false) two_accounts)

example-schema_privilege_counts : held_on_pay.rows (Restriction ann 0 pay) ≡ false
unfolding changed becomes holds
example-schema_privilege_counts = refl

-- a grant on `*.*` without limits ends the restrictions of its privileges
abbrev granted_again : State
granted_again = next (Grant select on.Global (ann ∷ []) false) granted_with_limits

example-unlimited_grant_ends_restrictions : granted_again.rows (Restriction ann 0 pay) ≡ false
unfolding changed becomes holds
example-unlimited_grant_ends_restrictions = refl

-- the restrictions go with the privilege
example-revoked_everywhere : (next (Revoke select on.Global (ann ∷ [])) granted_with_limits).rows (Restriction ann 0 pay) ≡ false
unfolding changed becomes holds has_level
example-revoked_everywhere = refl

-- a revoke on the table leaves the privilege on a column
abbrev columns_left : State
columns_left = next (Revoke select (on.Table world city) (ann ∷ [])) (next (Grant select_and_area (on.Table world city) (ann ∷ []) false) two_accounts)

example-table_privilege_goes : columns_left.rows (Table ann world city 0) ≡ false
unfolding changed becomes holds
example-table_privilege_goes = refl

example-column_privilege_stays : columns_left.rows (Column ann world city area 0) ≡ true
unfolding changed becomes holds
example-column_privilege_stays = refl

-- GRANT OPTION on `*.*` takes each dynamic grant option with it
abbrev backup_granted : State
backup_granted = next (Grant backup on.Global (ann ∷ []) true) two_accounts

example-dynamic_grant_option : backup_granted.rows (DynamicGrant ann 2) ≡ true
unfolding changed becomes holds
example-dynamic_grant_option = refl

example-no_static_grant_option : backup_granted.rows (Global ann grant_option) ≡ false
unfolding changed becomes holds
example-no_static_grant_option = refl

abbrev option_revoked : State
option_revoked = next (Revoke option_alone on.Global (ann ∷ [])) backup_granted

example-dynamic_grant_option_goes : option_revoked.rows (DynamicGrant ann 2) ≡ false
unfolding changed becomes holds
example-dynamic_grant_option_goes = refl

example-dynamic_privilege_stays : option_revoked.rows (Dynamic ann 2) ≡ true
unfolding changed becomes holds
example-dynamic_privilege_stays = refl

-- REVOKE ALL leaves the account alone
example-revoke_all_takes_columns : (next (RevokeAll (ann ∷ [])) columns_left).rows (Column ann world city area 0) ≡ false
unfolding changed becomes holds
example-revoke_all_takes_columns = refl

example-revoke_all_keeps_the_account : (next (RevokeAll (ann ∷ [])) columns_left).rows (Account ann) ≡ true
unfolding changed becomes holds
example-revoke_all_keeps_the_account = refl
