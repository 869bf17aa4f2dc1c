-- A statement that does not clear an account's failures keeps the account, and its policy.
use Rattle.std.proofs.Common.{◌≡◌, ◌∙◌, ℕ, Bool, true, false, not, ◌&&◌, ◌||◌, List, [], ◌∷◌, Option, Some, None, if◌then◌else◌, refl, ap}
use Rattle.std.specs.List.{list_any}
use Rattle.std.specs.Option.{option_map}
use Rattle.acl_model.specs.Accounts.{created, data_after, data_of_old, is_altered, last_verifier, with_options, with_verifier}
use Rattle.acl_model.specs.Effects.{becomes, changed}
use Rattle.acl_model.specs.Renames.{before_pair, name_before, then_before}
use Rattle.acl_model.specs.Rows.{lists}
use Rattle.acl_model.specs.State.{State, stands}
use Rattle.acl_model.specs.Words.{creates}
use Rattle.acl_model.specs.declared.account_data.AccountData.{AccountData}
use Rattle.acl_names.specs.AuthId.{same_auth}
use Rattle.acl_names.specs.declared.auth.AuthId.{AuthId}
use Rattle.acl_names.specs.declared.policy.LockTime.{LockTime}
use Rattle.acl_names.specs.declared.policy.Policy.{Policy}
use Rattle.acl_names.specs.declared.policy.Verifier.{Verifier}
use Rattle.acl_stmt.specs.declared.limit.Limit.{Limit}
use Rattle.acl_stmt.specs.declared.options.AccountOptions.{AccountOptions}
use Rattle.acl_stmt.specs.declared.statement.Statement.{Statement}
use Rattle.acl_stmt.specs.declared.statement.Statement.TheVariants.{CreateUser, AlterUser, DropUser, RenameUser, CreateRole, DropRole, SetPassword}
use Rattle.book_log.specs.Pasts.{clears, options_clear}

none_of_three : (x y z : Bool) → ((x || y) || z) ≡ false → (x ≡ false) × (y ≡ false) × (z ≡ false)
none_of_three false false false none = (refl, refl, refl)
none_of_three false false true none = (refl, refl, none)
none_of_three false true z none = absurd (cc)
none_of_three true y z none = absurd (cc)

neither : (old new name : AuthId) → same_auth name old ≡ false → same_auth name new ≡ false → before_pair old new name ≡ Some name
neither old new name not_old not_new = rw (not_new, not_old) refl

-- a name that no pair has is nobody's but its own
pub not_renamed : (pairs : List (AuthId × AuthId)) (name : AuthId) →
    list_any (λ pair. same_auth name pair.0 || same_auth name pair.1) pairs ≡ false → name_before pairs name ≡ Some name
not_renamed [] name none = refl
not_renamed (pair ∷ pairs) name none =
    let parts = none_of_three (same_auth name pair.0) (same_auth name pair.1) (list_any (λ pair. same_auth name pair.0 || same_auth name pair.1) pairs) none in
    ap (then_before pair.0 pair.1) (not_renamed pairs name parts.2) ∙ neither pair.0 pair.1 name parts.0 parts.1

still_there : (given stood dropped : Bool) → dropped ≡ false → stood ≡ true → (given || (stood && not (dropped || false))) ≡ true
still_there true stood dropped kept there = refl
still_there false true false kept there = refl
still_there false true true kept there = absurd (cc)
still_there false false dropped kept there = absurd (cc)

pub still_stands : (limits : List Limit) (statement : Statement) (before : State) (account : AuthId) → clears statement account ≡ false →
    stands before account ≡ true → stands (changed limits statement before) account ≡ true
unfolding changed becomes clears
still_stands limits (AlterUser accounts options) before account kept there = still_there false (stands before account) false refl there
still_stands limits (RenameUser pairs) before account kept there = rw (not_renamed pairs account kept) (still_there false (stands before account) false refl there)
still_stands limits (CreateUser if_not_exists accounts options) before account kept there =
    still_there (creates (CreateUser if_not_exists accounts options) account) (stands before account) false refl there
still_stands limits (CreateRole if_not_exists roles) before account kept there = still_there (lists roles account) (stands before account) false refl there
still_stands limits (DropUser if_exists accounts) before account kept there = still_there false (stands before account) (lists accounts account) kept there
still_stands limits (DropRole if_exists roles) before account kept there = still_there false (stands before account) (lists roles account) kept there
still_stands limits _ before account kept there = still_there false (stands before account) false refl there

policy_in : Option AccountData → Option Policy
policy_in account_data = option_map (λ (held : AccountData). held.policy) account_data

passed_over : (options : AccountOptions) (verifier : Option Verifier) (stood : Bool) (before : Option AccountData) → stood ≡ true → created options verifier stood before ≡ before
passed_over options None stood before there = refl
passed_over options (Some verifier) true before there = refl
passed_over options (Some verifier) false before there = absurd (cc)

not_made : (named stood : Bool) (made before : Option AccountData) → stood ≡ true → (if named && not stood then made else before) ≡ before
not_made false stood made before there = refl
not_made true true made before there = refl
not_made true false made before there = absurd (cc)

same_policy : (attempts : Option ℕ) (days : Option LockTime) (locked : Option Bool) (held : AccountData) →
    options_clear (record { attempts = attempts; days = days; locked = locked }) ≡ false →
    (with_options (record { attempts = attempts; days = days; locked = locked }) held).policy ≡ held.policy
same_policy None None locked held kept = refl
same_policy None (Some days) locked held kept = absurd (cc)
same_policy (Some attempts) days locked held kept = absurd (cc)

altered : (options : AccountOptions) (before : Option AccountData) (verifier : AccountData → Verifier) → options_clear options ≡ false →
    policy_in (option_map (λ old. with_options options (with_verifier (verifier old) old)) before) ≡ policy_in before
unfolding policy_in
altered options None verifier kept = refl
altered options (Some held) verifier kept =
    ap Some (same_policy options.attempts options.days options.locked (with_verifier (verifier held) held) kept)

altered_if : (options : AccountOptions) (before : Option AccountData) (verifier : AccountData → Verifier) (named : Bool) → (named && options_clear options) ≡ false →
    policy_in (if named then option_map (λ old. with_options options (with_verifier (verifier old) old)) before else before) ≡ policy_in before
unfolding policy_in
altered_if options before verifier true kept = altered options before verifier kept
altered_if options before verifier false kept = refl

verified_if : (verifier : Verifier) (before : Option AccountData) (named : Bool) →
    policy_in (if named then option_map (with_verifier verifier) before else before) ≡ policy_in before
unfolding policy_in
verified_if verifier before false = refl
verified_if verifier None true = refl
verified_if verifier (Some held) true = refl

not_dropped : (before : Option AccountData) (named : Bool) → named ≡ false → (if named then None else before) ≡ before
not_dropped before false kept = refl
not_dropped before true kept = absurd (cc)

pub keeps_policy : (statement : Statement) (before : State) (account : AuthId) → clears statement account ≡ false → stands before account ≡ true →
    option_map (λ (held : AccountData). held.policy) (data_after statement before account) ≡ option_map (λ (held : AccountData). held.policy) (before.account_data account)
unfolding clears policy_in
keeps_policy (CreateUser if_not_exists accounts options) before account kept there =
    ap policy_in (passed_over options _ (stands before account) (before.account_data account) there)
keeps_policy (CreateRole if_not_exists roles) before account kept there =
    ap policy_in (not_made (lists roles account) (stands before account) _ (before.account_data account) there)
keeps_policy (AlterUser accounts options) before account kept there =
    altered_if options (before.account_data account) (λ old. last_verifier account accounts old.verifier) (is_altered account accounts) kept
keeps_policy (DropUser if_exists accounts) before account kept there =
    ap policy_in (not_dropped (before.account_data account) (lists accounts account) kept)
keeps_policy (DropRole if_exists roles) before account kept there =
    ap policy_in (not_dropped (before.account_data account) (lists roles account) kept)
keeps_policy (RenameUser pairs) before account kept there = ap (λ name. policy_in (data_of_old before name)) (not_renamed pairs account kept)
keeps_policy (SetPassword (Some other) verifier) before account kept there = verified_if verifier (before.account_data account) (same_auth account other)
keeps_policy _ before account kept there = refl
