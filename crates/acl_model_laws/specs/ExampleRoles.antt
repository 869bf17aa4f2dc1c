-- Worked examples: names and roles.
use Rattle.std.specs.Prelude.{true, false, ◌≡◌, [], ◌∷◌, Some, None, refl}
use Rattle.acl_names.specs.declared.policy.Verifier.{Verifier}
use Rattle.acl_model.specs.Accounts.{new_account, with_verifier}
use Rattle.acl_model.specs.Effects.{becomes, changed}
use Rattle.acl_model_laws.specs.ExampleNames.{ann, bob, cat, next, pay, reader, select, world, writer}
use Rattle.acl_model.specs.Rights.{is_restricted}
use Rattle.acl_model.specs.Roles.{Here, Onward, Reaches, is_granted}
use Rattle.acl_model.specs.State.{State, opening}
use Rattle.acl_model.specs.declared.row.Row.TheVariants.{Account, Default, Edge, Schema}
use Rattle.acl_stmt.specs.declared.options.AccountOptions.{AccountOptions}
use Rattle.acl_stmt.specs.declared.roles.DefaultForm.TheVariants as form
use Rattle.acl_stmt.specs.declared.statement.Statement.TheVariants.{AlterUser, CreateRole, CreateUser, DropRole, Grant, GrantRoles, RenameUser, Revoke, RevokeRoles, SetDefaultRole, SetMandatory}
use Rattle.acl_stmt.specs.declared.target.Target.TheVariants as on
use Rattle.priv_sets.specs.StaticSet.{holds}

abbrev accounts : State
accounts = next (CreateRole false (ann ∷ bob ∷ reader ∷ writer ∷ [])) opening

-- a chain of renamings: the second pair takes the name that the first one left
abbrev renamed : State
renamed = next (RenameUser ((ann, cat) ∷ (bob, ann) ∷ [])) (next (Grant select (on.Schema world) (ann ∷ []) false) accounts)

example-new_name_stands : renamed.rows (Account cat) ≡ true
unfolding changed becomes holds
example-new_name_stands = refl

example-name_is_taken_again : renamed.rows (Account ann) ≡ true
unfolding changed becomes holds
example-name_is_taken_again = refl

example-old_name_is_gone : renamed.rows (Account bob) ≡ false
unfolding changed becomes holds
example-old_name_is_gone = refl

example-rows_follow : renamed.rows (Schema cat world 0) ≡ true
unfolding changed becomes holds
example-rows_follow = refl

example-rows_do_not_stay : renamed.rows (Schema ann world 0) ≡ false
unfolding changed becomes holds
example-rows_do_not_stay = refl

-- two sources hold SELECT everywhere, and one of them is restricted on `pay`
abbrev two_sources : State
two_sources = next (Revoke select (on.Schema pay) (reader ∷ [])) (next (Grant select on.Global (reader ∷ writer ∷ []) false) accounts)

example-each_source_counts : is_restricted two_sources (reader ∷ writer ∷ []) 0 pay ≡ false
unfolding changed becomes holds
example-each_source_counts = refl

example-restricted_alone : is_restricted two_sources (reader ∷ []) 0 pay ≡ true
unfolding changed becomes holds
example-restricted_alone = refl

-- cat holds reader along two paths, through ann and through bob
abbrev two_paths : State
two_paths =
    next (GrantRoles (ann ∷ bob ∷ []) (cat ∷ []) false) (next (GrantRoles (reader ∷ []) (ann ∷ bob ∷ []) false) (next (CreateRole false (cat ∷ [])) accounts))

-- one of them goes, and the other leads to the role still
abbrev one_path : State
one_path = next (RevokeRoles (reader ∷ []) (ann ∷ [])) two_paths

example-path_is_cut : one_path.rows (Edge reader ann) ≡ false
unfolding changed becomes
example-path_is_cut = refl

example-other_path : Reaches one_path.rows cat reader
unfolding changed becomes
example-other_path = Onward bob reader (Onward cat bob Here refl) refl

example-last_path_is_cut : (next (RevokeRoles (reader ∷ []) (bob ∷ [])) one_path).rows (Edge reader bob) ≡ false
unfolding changed becomes
example-last_path_is_cut = refl

-- a mandatory role counts for everybody, once it stands
abbrev reader_for_all : State
reader_for_all = next (SetMandatory (reader ∷ cat ∷ [])) accounts

example-mandatory_role_is_granted : is_granted reader_for_all ann reader ≡ true
unfolding changed becomes
example-mandatory_role_is_granted = refl

example-only_where_it_stands : is_granted reader_for_all ann cat ≡ false
unfolding changed becomes
example-only_where_it_stands = refl

example-not_before : is_granted accounts ann reader ≡ false
unfolding changed becomes
example-not_before = refl

-- a default role goes with the role
abbrev default_given : State
default_given = next (SetDefaultRole form.All (ann ∷ [])) (next (GrantRoles (reader ∷ []) (ann ∷ []) false) accounts)

example-all_granted_roles : default_given.rows (Default ann reader) ≡ true
unfolding changed becomes
example-all_granted_roles = refl

example-no_other_role : default_given.rows (Default ann writer) ≡ false
unfolding changed becomes
example-no_other_role = refl

example-default_goes_with_the_role : (next (RevokeRoles (reader ∷ []) (ann ∷ [])) default_given).rows (Default ann reader) ≡ false
unfolding changed becomes
example-default_goes_with_the_role = refl

-- a dropped role leaves no row that names it
example-dropped_role : (next (DropRole false (reader ∷ [])) default_given).rows (Edge reader ann) ≡ false
unfolding changed becomes
example-dropped_role = refl

abbrev first_digest : Verifier
first_digest = record { 0 = 1 ∷ [] }

abbrev second_digest : Verifier
second_digest = record { 0 = 2 ∷ [] }

abbrev no_options : AccountOptions
no_options = record { attempts = None; days = None; locked = None }

-- an account named twice: CREATE USER takes the first password, ALTER USER the last
abbrev named_twice : State
named_twice = next (CreateUser true ((cat, first_digest) ∷ (cat, second_digest) ∷ []) no_options) accounts

example-first_naming_counts : named_twice.account_data cat ≡ Some (with_verifier first_digest new_account)
unfolding changed becomes
example-first_naming_counts = refl

example-last_password_counts :
    (next (AlterUser ((cat, Some first_digest) ∷ (cat, Some second_digest) ∷ (cat, None) ∷ []) no_options) named_twice).account_data cat
    ≡ Some (with_verifier second_digest new_account)
unfolding changed becomes
example-last_password_counts = refl
