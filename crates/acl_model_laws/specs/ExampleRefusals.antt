-- Worked examples: each refusal once, and verdicts.
use Rattle.std.specs.Prelude.{true, false, ◌≡◌, IsTrue, [], ◌∷◌, Some, None, refl}
use Rattle.std.proofs.Common.{◌∙◌, lit<, sym}
use Rattle.std.proofs.Math.Bool.{or-false}
use Rattle.acl_names.specs.AuthId.{same_auth}
use Rattle.acl_model.specs.Acceptance.{HasNoLoop, HasNothingOn, IsFirstLoop}
use Rattle.acl_model.specs.Counts.{HasMoreThan}
use Rattle.acl_model.specs.Effects.{becomes, changed}
use Rattle.acl_model_laws.specs.ExampleNames.{ann, bob, cat, city, insert, insert_delete, next, pay, reader, select, select_and_area, select_columns, world, writer}
use Rattle.acl_model.specs.Refusals.{first_fault}
use Rattle.acl_model.specs.Roles.{Here, Onward, Reaches}
use Rattle.acl_model.specs.State.{State, opening, root, stands}
use Rattle.acl_model.specs.Verdict.{Reading, Readings, is_met, verdict_of}
use Rattle.acl_stmt.specs.declared.refusal.Refusal.TheVariants.{AccountExists, Mandatory, NoSuchAccount, NoSuchGrant, NotGranted}
use Rattle.acl_stmt.specs.declared.refusal.Why.TheVariants.{NoGrant, Restricted}
use Rattle.acl_stmt.specs.declared.roles.DefaultForm.TheVariants as form
use Rattle.acl_stmt.specs.declared.statement.Statement.TheVariants.{CreateRole, DropRole, DropUser, Grant, GrantRoles, RenameUser, Revoke, RevokeRoles, SetDefaultRole, SetMandatory}
use Rattle.acl_stmt.specs.declared.target.Target.TheVariants as on
use Rattle.priv_sets.specs.Levels.{has_level}
use Rattle.priv_sets.specs.StaticSet.{holds}
use Rattle.priv_sets.specs.declared.privilege.Privilege.TheVariants.{Plain}

abbrev accounts : State
accounts = next (CreateRole false (ann ∷ reader ∷ writer ∷ [])) opening

example-no_such_account : first_fault accounts (Grant select on.Global (ann ∷ bob ∷ []) false) ≡ Some (NoSuchAccount bob)
unfolding changed becomes first_fault
example-no_such_account = refl

-- dropped once, it is not there for a second time
example-dropped_twice : first_fault accounts (DropUser false (ann ∷ ann ∷ [])) ≡ Some (NoSuchAccount ann)
unfolding changed becomes first_fault
example-dropped_twice = refl

example-account_exists : first_fault accounts (CreateRole false (cat ∷ cat ∷ [])) ≡ Some (AccountExists cat)
unfolding changed becomes first_fault
example-account_exists = refl

example-passed_over : first_fault accounts (CreateRole true (cat ∷ cat ∷ ann ∷ [])) ≡ None
unfolding changed becomes first_fault
example-passed_over = refl

-- pair by pair on what the earlier pairs leave
example-name_is_free_again : first_fault accounts (RenameUser ((ann, cat) ∷ (reader, ann) ∷ [])) ≡ None
unfolding changed becomes first_fault
example-name_is_free_again = refl

example-new_name_exists : first_fault accounts (RenameUser ((ann, cat) ∷ (reader, cat) ∷ [])) ≡ Some (AccountExists cat)
unfolding changed becomes first_fault
example-new_name_exists = refl

abbrev reader_for_all : State
reader_for_all = next (SetMandatory (reader ∷ [])) accounts

example-mandatory_role_is_kept : first_fault reader_for_all (DropRole true (cat ∷ reader ∷ [])) ≡ Some (Mandatory reader)
unfolding changed becomes first_fault
example-mandatory_role_is_kept = refl

example-mandatory_role_is_not_revoked : first_fault reader_for_all (RevokeRoles (reader ∷ []) (ann ∷ [])) ≡ Some (Mandatory reader)
unfolding changed becomes first_fault
example-mandatory_role_is_not_revoked = refl

example-not_granted : first_fault accounts (RevokeRoles (reader ∷ []) (ann ∷ [])) ≡ Some (NotGranted reader ann)
unfolding changed becomes first_fault
example-not_granted = refl

example-default_is_granted : first_fault reader_for_all (SetDefaultRole (form.List (reader ∷ writer ∷ [])) (ann ∷ [])) ≡ Some (NotGranted writer ann)
unfolding changed becomes first_fault
example-default_is_granted = refl

example-no_such_grant : first_fault accounts (Revoke select (on.Schema world) (ann ∷ [])) ≡ Some (NoSuchGrant ann)
unfolding changed becomes first_fault holds
example-no_such_grant = refl

-- held on `*.*`, the privilege is restricted instead
example-partial_revoke : first_fault accounts (Revoke select (on.Schema world) (root ∷ [])) ≡ None
unfolding changed becomes first_fault holds
example-partial_revoke = refl

example-nothing_on_the_table : HasNothingOn accounts world city ann
unfolding changed becomes
example-nothing_on_the_table = record { no_table_row = λ p. refl; no_column_row = λ column p. refl }

-- a role reaches the account that it would be granted to
abbrev chain : State
chain = next (GrantRoles (reader ∷ []) (writer ∷ []) false) (next (GrantRoles (writer ∷ []) (ann ∷ []) false) accounts)

example-loop : Reaches chain.rows ann reader
unfolding changed becomes
example-loop = Onward writer reader (Onward ann writer Here refl) refl

-- what a session of one account reads at one moment, without roles
abbrev alone : State → Readings
alone state =
    let now : Reading = record { state = state; sources = ann ∷ [] } in
    record { at_login = now; at_use = now; at_present = now; current = None }

abbrev restricted : State
restricted = next (Revoke insert_delete (on.Schema world) (ann ∷ [])) (next (Grant insert_delete on.Global (ann ∷ []) false) accounts)

example-restricted : verdict_of (alone restricted) insert (on.Table world city) ≡ Some (record { privilege = Plain 1; on_target = true; column = None; why = Restricted })
unfolding changed becomes holds has_level verdict_of is_met
example-restricted = refl

example-not_restricted_elsewhere : verdict_of (alone restricted) insert (on.Table pay city) ≡ None
unfolding changed becomes holds has_level verdict_of is_met
example-not_restricted_elsewhere = refl

-- a request on `*.*` looks at no restriction
example-everywhere : verdict_of (alone restricted) insert on.Global ≡ None
unfolding changed becomes holds has_level verdict_of is_met
example-everywhere = refl

-- what is granted on `*.*` after the login does not count
example-not_since_the_login :
    verdict_of (record { at_login = (alone accounts).at_login; at_use = (alone restricted).at_use; at_present = (alone restricted).at_present; current = None }) insert on.Global
    ≡ Some (record { privilege = Plain 1; on_target = false; column = None; why = NoGrant })
unfolding changed becomes holds has_level verdict_of is_met
example-not_since_the_login = refl

-- the current schema is read at USE, another one at the request
abbrev granted_on_pay : State
granted_on_pay = next (Grant select (on.Schema pay) (ann ∷ []) false) accounts

abbrev used_before : Readings
used_before = record { at_login = (alone accounts).at_login; at_use = (alone accounts).at_use; at_present = (alone granted_on_pay).at_present; current = Some pay }

example-current_schema : verdict_of used_before select (on.Table pay city) ≡ Some (record { privilege = Plain 0; on_target = true; column = None; why = NoGrant })
unfolding changed becomes holds has_level verdict_of is_met
example-current_schema = refl

-- the first column that is missing, by its place
abbrev one_column : State
one_column = next (Grant select_and_area (on.Table world city) (ann ∷ []) false) accounts

abbrev columns_alone : State
columns_alone = next (Revoke select (on.Table world city) (ann ∷ [])) one_column

example-first_missing_column :
    verdict_of (alone columns_alone) select_columns (on.Table world city) ≡ Some (record { privilege = Plain 0; on_target = true; column = Some 0; why = NoGrant })
unfolding changed becomes holds has_level verdict_of is_met
example-first_missing_column = refl

example-table_privilege_counts_for_columns : verdict_of (alone one_column) select_columns (on.Table world city) ≡ None
unfolding changed becomes holds has_level verdict_of is_met
example-table_privilege_counts_for_columns = refl

no_loop_in_nothing : (state : State) → HasNoLoop state []
no_loop_in_nothing state [] pair later split path = cc
no_loop_in_nothing state (first ∷ earlier) pair later split path = cc

-- the last role of the chain reaches its first account, so it is not granted to it
example-first_loop : IsFirstLoop chain ((ann, reader) ∷ []) ann reader
unfolding changed becomes
example-first_loop = record { before = []; rest = []; split = refl; loops = Onward writer reader (Onward ann writer Here refl) refl; none_before = no_loop_in_nothing chain }

-- a role is not granted to itself
example-own_role : IsFirstLoop accounts ((reader, reader) ∷ []) reader reader
example-own_role = record { before = []; rest = []; split = refl; loops = Here; none_before = no_loop_in_nothing accounts }

-- one account is more than none
example-more_than_none : HasMoreThan same_auth (λ a. IsTrue (stands opening a)) 0
example-more_than_none = record {
  items = root ∷ [];
  all = record { once = refl; just_these = λ a. (λ listed. sym (or-false (same_auth a root)) ∙ listed, λ standing. or-false (same_auth a root) ∙ standing) };
  more = lit< tt;
}
