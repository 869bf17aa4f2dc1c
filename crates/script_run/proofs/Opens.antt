-- The statements that are run keep every account open to the empty password, and grant no role.
use Rattle.std.proofs.Common.{◌≡◌, ◌∙◌, ℕ, Bool, true, false, not, ◌&&◌, ◌||◌, List, [], ◌∷◌, Option, Some, None, if◌then◌else◌, refl, sym, ap}
use Rattle.std.proofs.lemmas.Bool.{and_parts}
use Rattle.std.specs.List.{list_all, list_any}
use Rattle.acl_model.specs.Accounts.{created, first_verifier, new_account, with_options, with_verifier}
use Rattle.acl_model.specs.Effects.{becomes, changed}
use Rattle.acl_model.specs.Renames.{name_before}
use Rattle.acl_model.specs.Rows.{lists}
use Rattle.acl_model.specs.State.{State, opening, root, stands}
use Rattle.acl_model.specs.declared.account_data.AccountData.{AccountData}
use Rattle.acl_model.specs.declared.row.Row.TheVariants.{Edge}
use Rattle.acl_names.proofs.SameAuth.{equal_from_text_eq}
use Rattle.acl_names.specs.AuthId.{same_auth}
use Rattle.acl_names.specs.Verifiers.{empty_verifier}
use Rattle.acl_names.specs.declared.auth.AuthId.{AuthId}
use Rattle.acl_names.specs.declared.policy.LockTime.{LockTime}
use Rattle.acl_names.specs.declared.policy.Verifier.{Verifier}
use Rattle.acl_stmt.specs.declared.options.AccountOptions.{AccountOptions}
use Rattle.acl_stmt.specs.declared.statement.Statement.{Statement}
use Rattle.acl_stmt.specs.declared.statement.Statement.TheVariants.{CreateUser, DropUser, Grant, RenameUser, Revoke, RevokeAll}
use Rattle.script_run.specs.Forms.{has_no_options, has_no_password, is_built_statement}
use Rattle.script_run.specs.Lines.{IsOpen}

-- an account that stands has the data of a new one
abbrev HasNewData : State → AuthId → Type 0
HasNewData state account = stands state account ≡ true → state.account_data account ≡ Some new_account

stood_if : (stood kept : Bool) → (stood && kept) ≡ true → stood ≡ true
stood_if true kept is = refl
stood_if false kept is = absurd (cc)

-- ---- CREATE USER

no_options : (attempts : Option ℕ) (days : Option LockTime) (locked : Option Bool) →
    has_no_options (record { attempts = attempts; days = days; locked = locked }) ≡ true →
    (made : AccountData) → with_options (record { attempts = attempts; days = days; locked = locked }) made ≡ made
no_options None None None is made = refl
no_options (Some attempts) days locked is made = absurd (cc)
no_options None (Some days) locked is made = absurd (cc)
no_options None None (Some locked) is made = absurd (cc)

no_password : (verifier : Verifier) → has_no_password verifier ≡ true → with_verifier verifier new_account ≡ new_account
no_password verifier is = λ i. record {
  verifier = record { 0 = equal_from_text_eq verifier.0 empty_verifier.0 is i };
  locked = false;
  policy = new_account.policy;
}

-- the password that is given is the empty one
first_is_empty : (account : AuthId) (accounts : List (AuthId × Verifier)) (verifier : Verifier) →
    list_all (λ (pair : AuthId × Verifier). has_no_password pair.1) accounts ≡ true → first_verifier account accounts ≡ Some verifier → has_no_password verifier ≡ true
first_is_empty account [] verifier all is = absurd (cc)
first_is_empty account (pair ∷ accounts) verifier all is =
    by (same_auth account pair.0) (and_parts (has_no_password pair.1) (list_all (λ (other : AuthId × Verifier). has_no_password other.1) accounts) all)
    (first_is_empty account accounts verifier) is
  where
    here : Some pair.1 ≡ Some verifier → has_no_password pair.1 ≡ true → has_no_password verifier ≡ true
    here same empty = let own : pair.1 ≡ verifier = cc in ap (λ (v : Verifier). has_no_password v) (sym own) ∙ empty

    by : (own : Bool) → (has_no_password pair.1 ≡ true) × (list_all (λ (other : AuthId × Verifier). has_no_password other.1) accounts ≡ true) →
        (list_all (λ (other : AuthId × Verifier). has_no_password other.1) accounts ≡ true → first_verifier account accounts ≡ Some verifier → has_no_password verifier ≡ true) →
        (if own then Some pair.1 else first_verifier account accounts) ≡ Some verifier → has_no_password verifier ≡ true
    by true parts rest same = here same parts.0
    by false parts rest same = rest parts.1 same

-- an account that is given no password is not named
not_named : (account : AuthId) (accounts : List (AuthId × Verifier)) → first_verifier account accounts ≡ None →
    list_any (λ (pair : AuthId × Verifier). same_auth account pair.0) accounts ≡ false
not_named account [] is = refl
not_named account (pair ∷ accounts) is = by (same_auth account pair.0) (not_named account accounts) is
  where
    by : (own : Bool) → (first_verifier account accounts ≡ None → list_any (λ (pair : AuthId × Verifier). same_auth account pair.0) accounts ≡ false) →
        (if own then Some pair.1 else first_verifier account accounts) ≡ None →
        (own || list_any (λ (pair : AuthId × Verifier). same_auth account pair.0) accounts) ≡ false
    by true rest none = absurd (cc)
    by false rest none = rest none

made_open : (options : AccountOptions) (given : Option Verifier) (named stood : Bool) (before : Option AccountData) → has_no_options options ≡ true →
    ((verifier : Verifier) → given ≡ Some verifier → has_no_password verifier ≡ true) → (given ≡ None → named ≡ false) →
    (stood ≡ true → before ≡ Some new_account) → (named || (stood && true)) ≡ true → created options given stood before ≡ Some new_account
made_open options None true stood before none empty unnamed opened there = let wrong = unnamed refl in absurd (cc)
made_open options None false stood before none empty unnamed opened there = opened (stood_if stood true there)
made_open options (Some verifier) named true before none empty unnamed opened there = opened refl
made_open options (Some verifier) named false before none empty unnamed opened there =
    ap Some (ap (with_options options) (no_password verifier (empty verifier refl))
    ∙ no_options options.attempts options.days options.locked none new_account)

-- ---- DROP USER, RENAME USER and the others

dropped : (named stood : Bool) (before : Option AccountData) → (stood ≡ true → before ≡ Some new_account) →
    (false || (stood && not (named || false))) ≡ true → (if named then None else before) ≡ Some new_account
dropped true true before opened there = absurd (cc)
dropped true false before opened there = absurd (cc)
dropped false true before opened there = opened refl
dropped false false before opened there = absurd (cc)

kept : (stood : Bool) (before : Option AccountData) → (stood ≡ true → before ≡ Some new_account) → (false || (stood && not (false || false))) ≡ true → before ≡ Some new_account
kept true before opened there = opened refl
kept false before opened there = absurd (cc)

-- the data go with the name
renamed_data : (pairs : List (AuthId × AuthId)) (before : State) (account : AuthId) (old : Option AuthId) → name_before pairs account ≡ old →
    ((other : AuthId) → HasNewData before other) → HasNewData (changed [] (RenameUser pairs) before) account
unfolding changed becomes
renamed_data pairs before account None is opened = rw is (λ there. absurd (cc))
renamed_data pairs before account (Some old) is opened = rw is (λ there. opened old (stood_if (stands before old) true there))

new_data : (statement : Statement) (before : State) (account : AuthId) → is_built_statement statement ≡ true → ((other : AuthId) → HasNewData before other) →
    HasNewData (changed [] statement before) account
unfolding changed becomes
new_data (CreateUser if_not_exists accounts options) before account built opened there =
    let parts = and_parts (list_all (λ (pair : AuthId × Verifier). has_no_password pair.1) accounts) (has_no_options options) built in
    made_open options (first_verifier account accounts) (list_any (λ (pair : AuthId × Verifier). same_auth account pair.0) accounts) (stands before account)
    (before.account_data account) parts.1 (λ verifier. first_is_empty account accounts verifier parts.0) (not_named account accounts) (opened account) there
new_data (DropUser if_exists accounts) before account built opened there =
    dropped (lists accounts account) (stands before account) (before.account_data account) (opened account) there
new_data (RenameUser pairs) before account built opened there = renamed_data pairs before account (name_before pairs account) refl opened there
new_data (Grant privileges target accounts option) before account built opened there = kept (stands before account) (before.account_data account) (opened account) there
new_data (Revoke privileges target accounts) before account built opened there = kept (stands before account) (before.account_data account) (opened account) there
new_data (RevokeAll accounts) before account built opened there = kept (stands before account) (before.account_data account) (opened account) there
new_data _ before account built opened there = absurd (cc)

-- ---- roles

not_there : (stood rest : Bool) → stood ≡ false → (false || (stood && rest)) ≡ false
not_there true rest gone = absurd (cc)
not_there false rest gone = refl

renamed_edge : (pairs : List (AuthId × AuthId)) (before : State) (role account : AuthId) (one other : Option AuthId) →
    name_before pairs role ≡ one → name_before pairs account ≡ other → ((r a : AuthId) → before.rows (Edge r a) ≡ false) →
    (changed [] (RenameUser pairs) before).rows (Edge role account) ≡ false
unfolding changed becomes
renamed_edge pairs before role account None other one_is other_is none = rw one_is refl
renamed_edge pairs before role account (Some one) None one_is other_is none = rw (one_is, other_is) refl
renamed_edge pairs before role account (Some one) (Some other) one_is other_is none =
    rw (one_is, other_is) (not_there (before.rows (Edge one other)) true (none one other))

no_new_edge : (statement : Statement) (before : State) (role account : AuthId) → is_built_statement statement ≡ true →
    ((r a : AuthId) → before.rows (Edge r a) ≡ false) → (changed [] statement before).rows (Edge role account) ≡ false
unfolding changed becomes
no_new_edge (RenameUser pairs) before role account built none = renamed_edge pairs before role account (name_before pairs role) (name_before pairs account) refl refl none
no_new_edge (CreateUser if_not_exists accounts options) before role account built none = rw (none role account) refl
no_new_edge (DropUser if_exists accounts) before role account built none = rw (none role account) refl
no_new_edge (Grant privileges target accounts option) before role account built none = rw (none role account) refl
no_new_edge (Revoke privileges target accounts) before role account built none = rw (none role account) refl
no_new_edge (RevokeAll accounts) before role account built none = rw (none role account) refl
no_new_edge _ before role account built none = absurd (cc)

same_mandatory : (statement : Statement) (before : State) → is_built_statement statement ≡ true → (changed [] statement before).mandatory ≡ before.mandatory
unfolding changed
same_mandatory (CreateUser if_not_exists accounts options) before built = refl
same_mandatory (DropUser if_exists accounts) before built = refl
same_mandatory (RenameUser pairs) before built = refl
same_mandatory (Grant privileges target accounts option) before built = refl
same_mandatory (Revoke privileges target accounts) before built = refl
same_mandatory (RevokeAll accounts) before built = refl
same_mandatory _ before built = absurd (cc)

pub stays_open : (statement : Statement) (before : State) → is_built_statement statement ≡ true → IsOpen before → IsOpen (changed [] statement before)
stays_open statement before built opened = record {
  accounts = λ account. new_data statement before account built opened.accounts;
  no_edges = λ role account. no_new_edge statement before role account built opened.no_edges;
  no_mandatory = same_mandatory statement before built ∙ opened.no_mandatory;
}

opening_data : (account : AuthId) (own : Bool) → own ≡ true → (if own then Some new_account else None) ≡ Some new_account
opening_data account true is = refl
opening_data account false is = absurd (cc)

pub opens_at_first : IsOpen opening
opens_at_first = record {
  accounts = λ account there. opening_data account (same_auth account root) there;
  no_edges = λ role account. refl;
  no_mandatory = refl;
}
