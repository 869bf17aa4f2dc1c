-- Statements that are spelled keep the rules of statements.
use Rattle.std.proofs.Common.{◌≡◌, ◌≢◌, ◌≤◌, ◌&&◌, is_some, arith, ℕ, nat_le, Bool, IsTrue, true, false, List, [], ◌∷◌, length, Option, Some, None, inl, inr, refl, sym, ◌∙◌, ap}
use Rattle.std.specs.Char.{is_ascii_digit}
use Rattle.std.specs.List.{list_all}
use Rattle.std.specs.Str.{str_to_ascii_lowercase}
use Rattle.acl_grammar.specs.Spelling.{repeated, separated, spells}
use Rattle.acl_names.specs.declared.auth.AuthId.{AuthId}
use Rattle.acl_names.specs.declared.policy.LockTime.{LockTime}
use Rattle.acl_names.specs.declared.policy.LockTime.TheVariants.{Days, Unbounded}
use Rattle.acl_stmt.specs.Lists.{is_some_list}
use Rattle.acl_stmt.specs.Statements.{are_options, are_roles, is_default_form, is_lock_time, is_named, is_option_number, is_statement}
use Rattle.acl_stmt.specs.declared.options.AccountOptions.{AccountOptions}
use Rattle.acl_stmt.specs.declared.roles.DefaultForm.{DefaultForm}
use Rattle.acl_stmt.specs.declared.statement.Statement.{Statement}
use Rattle.grant_words.proofs.Apart.{both_left, both_right}
use Rattle.grant_words.specs.Classes.{has_sort, is}
use Rattle.grant_words.specs.Classes.Sort.{name, plain_word, string}
use Rattle.grant_words.specs.Lists.{accounts, comma, roles}
use Rattle.grant_words.specs.Numbers.{number_of}
use Rattle.grant_words.specs.Names.{account, is_role_user, is_some_text, is_user, role}
use Rattle.grant_words.specs.Syntax.{grammar_of}
use Rattle.grant_words.specs.declared.lexeme.Lexeme.{Lexeme}
use Rattle.mandatory_roles.proofs.Lists.{in_found}
use Rattle.mandatory_roles.specs.Roles.{roles_in}
use Rattle.mandatory_roles.specs.Spelling.{SpellsRoles}
use Rattle.user_statements.proofs.Numbers.{same_number}
use Rattle.user_statements.specs.Options.{is_number_text, lock_time, no_options, number, options, setting, with_setting, with_settings}
use Rattle.user_statements.specs.Statements.{alter_user, altered_account, create, create_role, create_user, default_form, drop, drop_role, drop_user, grant_roles, is_role_list, new_account, on_grants, rename_user, renaming, revoke, revoke_all, revoke_roles, roles_or_none, set, set_activate_all, set_default_role, set_mandatory, set_password, set_persist, user_statement}
use Rattle.user_statements.specs.declared.setting.Setting.{Setting}
use Rattle.user_statements.specs.declared.setting.Setting.TheVariants.{Attempts, Lock, Locked}

both_true : (a b : Bool) → IsTrue a → IsTrue b → IsTrue (a && b)
both_true true b h k = k
both_true false b h k = absurd (cc)

some_text : (text : List ℕ) → IsTrue (is_some_text text) → IsTrue (is_some_list text)
some_text [] h = absurd (cc)
some_text (b ∷ rest) h = refl

named_role : (ts : List Lexeme) (a : AuthId) → spells (grammar_of role) ts a → IsTrue (is_named a)
unfolding role is
named_role ts a (pair, (us, ws, cut, (t, here, one, value), host), same) =
    let user : IsTrue (is_role_user t.value) = both_right (has_sort name t.kind t.value) (is_role_user t.value) here in
    let some : IsTrue (is_some_list t.value) = some_text t.value (both_left (is_some_text t.value) (is_user t.value) user) in
    ap is_named same ∙ ap is_some_list value ∙ some

-- each value of a list that is spelled passes a test that each spelled value passes
separated_pass : {A : Type 0} (mark : Lexeme → Bool) (P : List Lexeme → A → Type 0) (Q : A → Bool)
    → ((ts : List Lexeme) (v : A) → P ts v → IsTrue (Q v)) → (vs : List A) (ts : List Lexeme) → separated mark P ts vs → IsTrue (list_all Q vs)
separated_pass mark P Q f [] ts k = absurd k
separated_pass mark P Q f (v ∷ []) ts k = both_true (Q v) true (f ts v k) refl
separated_pass mark P Q f (v ∷ w ∷ vs) ts (us, t, ws, eq, h, k, more) =
    both_true (Q v) (list_all Q (w ∷ vs)) (f us v k) (separated_pass mark P Q f (w ∷ vs) ws more)

separated_some : {A : Type 0} (mark : Lexeme → Bool) (P : List Lexeme → A → Type 0) (vs : List A) (ts : List Lexeme) → separated mark P ts vs
    → IsTrue (is_some_list vs)
separated_some mark P [] ts k = absurd k
separated_some mark P (v ∷ vs) ts k = refl

pub some_accounts : (ts : List Lexeme) (vs : List AuthId) → spells (grammar_of accounts) ts vs → IsTrue (is_some_list vs)
unfolding accounts
some_accounts ts vs k = separated_some (is comma) (spells (grammar_of account)) vs ts k

some_roles : (ts : List Lexeme) (vs : List AuthId) → spells (grammar_of roles) ts vs → IsTrue (are_roles vs)
unfolding roles
some_roles ts vs k =
    both_true (is_some_list vs) (list_all is_named vs) (separated_some (is comma) (spells (grammar_of role)) vs ts k)
    (separated_pass (is comma) (spells (grammar_of role)) is_named named_role vs ts k)

-- a setting whose number is one of options
abbrev fits : Setting → Bool
fits (Attempts number) = nat_le number 32767
fits (Lock (Days number)) = nat_le number 32767
fits (Lock Unbounded) = true
fits (Locked locked) = true

number_fits : (ts : List Lexeme) (n : ℕ) → spells (grammar_of number) ts n → IsTrue (nat_le n 32767)
unfolding number is
number_fits ts n (t, here, one, value) =
    let low : IsTrue (is_number_text (str_to_ascii_lowercase t.value)) =
    both_right (has_sort plain_word t.kind t.value) (is_number_text (str_to_ascii_lowercase t.value)) here in
    let number : IsTrue (is_number_text t.value) = sym (same_number t.value) ∙ low in
    ap (λ m. nat_le m 32767) value
    ∙ both_right (nat_le 1 (length t.value) && nat_le (length t.value) 5 && list_all is_ascii_digit t.value) (nat_le (number_of t.value) 32767) number

time_fits : (ts : List Lexeme) (time : LockTime) → spells (grammar_of lock_time) ts time → IsTrue (fits (Lock time))
unfolding lock_time
time_fits ts time (inl (t, us, h, cut, (none, same))) = ap (λ x. fits (Lock x)) same
time_fits ts time (inr (n, k, same)) = ap (λ x. fits (Lock x)) same ∙ number_fits ts n k

setting_fits : (ts : List Lexeme) (v : Setting) → spells (grammar_of setting) ts v → IsTrue (fits v)
unfolding setting
setting_fits ts v (inl (t, us, h, cut, (n, k, same))) = ap fits same ∙ number_fits us n k
setting_fits ts v (inr (inl (t, us, h, cut, (time, k, same)))) = ap fits same ∙ time_fits us time k
setting_fits ts v (inr (inr (t, us, h, cut, (b, k, same)))) = ap fits same

with_setting_fits : (old : AccountOptions) (v : Setting) → IsTrue (fits v) → IsTrue (are_options old) → IsTrue (are_options (with_setting old v))
with_setting_fits old (Attempts n) h k = both_true (nat_le n 32767) (is_lock_time old.days) h (both_right (is_option_number old.attempts) (is_lock_time old.days) k)
with_setting_fits old (Lock (Days n)) h k =
    both_true (is_option_number old.attempts) (nat_le n 32767) (both_left (is_option_number old.attempts) (is_lock_time old.days) k) h
with_setting_fits old (Lock Unbounded) h k =
    both_true (is_option_number old.attempts) true (both_left (is_option_number old.attempts) (is_lock_time old.days) k) refl
with_setting_fits old (Locked b) h k = k

with_settings_fit : (vs : List Setting) (old : AccountOptions) → IsTrue (list_all fits vs) → IsTrue (are_options old)
    → IsTrue (are_options (with_settings old vs))
with_settings_fit [] old h k = k
with_settings_fit (v ∷ vs) old h k =
    with_settings_fit vs (with_setting old v) (both_right (fits v) (list_all fits vs) h)
    (with_setting_fits old v (both_left (fits v) (list_all fits vs) h) k)

repeated_pass : {A : Type 0} (P : List Lexeme → A → Type 0) (Q : A → Bool) → ((ts : List Lexeme) (v : A) → P ts v → IsTrue (Q v))
    → (vs : List A) (ts : List Lexeme) → repeated P ts vs → IsTrue (list_all Q vs)
repeated_pass P Q f [] ts k = refl
repeated_pass P Q f (v ∷ vs) ts (us, ws, eq, k, more) = both_true (Q v) (list_all Q vs) (f us v k) (repeated_pass P Q f vs ws more)

options_fit : (ts : List Lexeme) (v : AccountOptions) → spells (grammar_of options) ts v → IsTrue (are_options v)
unfolding options
options_fit ts v (vs, k, same) =
    ap are_options same ∙ with_settings_fit vs no_options (repeated_pass (spells (grammar_of setting)) fits setting_fits vs ts k) refl

create_user_kept : (ts : List Lexeme) (s : Statement) → spells (grammar_of create_user) ts s → IsTrue (is_statement s)
unfolding create_user is_statement
create_user_kept ts s (v, (us, ws, cut, flag, (xs, ys, cut', list, options)), same) =
    ap is_statement same
    ∙ both_true (is_some_list v.1.0) (are_options v.1.1) (separated_some (is comma) (spells (grammar_of new_account)) v.1.0 xs list)
    (options_fit ys v.1.1 options)

alter_user_kept : (ts : List Lexeme) (s : Statement) → spells (grammar_of alter_user) ts s → IsTrue (is_statement s)
unfolding alter_user is_statement
alter_user_kept ts s (v, (xs, ys, cut, list, options), same) =
    ap is_statement same
    ∙ both_true (is_some_list v.0) (are_options v.1) (separated_some (is comma) (spells (grammar_of altered_account)) v.0 xs list)
    (options_fit ys v.1 options)

drop_user_kept : (ts : List Lexeme) (s : Statement) → spells (grammar_of drop_user) ts s → IsTrue (is_statement s)
unfolding drop_user is_statement
drop_user_kept ts s (v, (xs, ys, cut, flag, list), same) = ap is_statement same ∙ some_accounts ys v.1 list

new_name_named : (ts : List Lexeme) (v : AuthId × AuthId) → spells (grammar_of renaming) ts v → IsTrue (is_named v.1)
unfolding renaming
new_name_named ts v (xs, ys, cut, old, (t, us, h, cut', new)) = named_role us v.1 new

rename_user_kept : (ts : List Lexeme) (s : Statement) → spells (grammar_of rename_user) ts s → IsTrue (is_statement s)
unfolding rename_user is_statement
rename_user_kept ts s (vs, list, same) =
    ap is_statement same
    ∙ both_true (is_some_list vs) (list_all (λ pair. is_named pair.1) vs) (separated_some (is comma) (spells (grammar_of renaming)) vs ts list)
    (separated_pass (is comma) (spells (grammar_of renaming)) (λ pair. is_named pair.1) new_name_named vs ts list)

create_role_kept : (ts : List Lexeme) (s : Statement) → spells (grammar_of create_role) ts s → IsTrue (is_statement s)
unfolding create_role is_statement
create_role_kept ts s (v, (xs, ys, cut, flag, list), same) = ap is_statement same ∙ some_roles ys v.1 list

drop_role_kept : (ts : List Lexeme) (s : Statement) → spells (grammar_of drop_role) ts s → IsTrue (is_statement s)
unfolding drop_role is_statement
drop_role_kept ts s (v, (xs, ys, cut, flag, list), same) = ap is_statement same ∙ some_roles ys v.1 list

grant_roles_kept : (ts : List Lexeme) (s : Statement) → spells (grammar_of grant_roles) ts s → IsTrue (is_statement s)
unfolding grant_roles is_statement
grant_roles_kept ts s (v, (xs, ys, cut, granted, (t, us, h, cut', (ws, zs, cut'', holders, option))), same) =
    ap is_statement same ∙ both_true (are_roles v.0) (is_some_list v.1.0) (some_roles xs v.0 granted) (some_accounts ws v.1.0 holders)

revoke_all_kept : (ts : List Lexeme) (s : Statement) → spells (grammar_of revoke_all) ts s → IsTrue (is_statement s)
unfolding revoke_all is_statement
revoke_all_kept ts s (v, (xs, ys, cut, word, (t1, u1, h1, c1, (t2, u2, h2, c2, (t3, u3, h3, c3, (t4, u4, h4, c4, list))))), same) =
    ap is_statement same ∙ some_accounts u4 v.1 list

revoke_roles_kept : (ts : List Lexeme) (s : Statement) → spells (grammar_of revoke_roles) ts s → IsTrue (is_statement s)
unfolding revoke_roles is_statement
revoke_roles_kept ts s (v, (xs, ys, cut, granted, (t, us, h, cut', holders)), same) =
    ap is_statement same ∙ both_true (are_roles v.0) (is_some_list v.1) (some_roles xs v.0 granted) (some_accounts us v.1 holders)

default_form_kept : (ts : List Lexeme) (v : DefaultForm) → spells (grammar_of default_form) ts v → IsTrue (is_default_form v)
unfolding default_form
default_form_kept ts v (inl (t, us, h, cut, (none, same))) = ap is_default_form same
default_form_kept ts v (inr (inl (t, us, h, cut, (none, same)))) = ap is_default_form same
default_form_kept ts v (inr (inr (vs, list, same))) = ap is_default_form same ∙ some_roles ts vs list

set_default_role_kept : (ts : List Lexeme) (s : Statement) → spells (grammar_of set_default_role) ts s → IsTrue (is_statement s)
unfolding set_default_role is_statement
set_default_role_kept ts s (v, (xs, ys, cut, form, (t, us, h, cut', holders)), same) =
    ap is_statement same ∙ both_true (is_default_form v.0) (is_some_list v.1) (default_form_kept xs v.0 form) (some_accounts us v.1 holders)

set_password_kept : (ts : List Lexeme) (s : Statement) → spells (grammar_of set_password) ts s → IsTrue (is_statement s)
unfolding set_password is_statement
set_password_kept ts s (v, k, same) = ap is_statement same

some_list : (user : List ℕ) → user ≢ [] → IsTrue (is_some_list user)
some_list [] h = absurd (h refl)
some_list (b ∷ rest) h = refl

roles_named : (text : List ℕ) (vs : List AuthId) → SpellsRoles text vs → IsTrue (list_all is_named vs)
roles_named text [] k = refl
roles_named text (v ∷ []) k = both_true (is_named v) true (some_list v.user k.spelled.some) refl
roles_named text (v ∷ w ∷ vs) (first, others, cut, k, more) =
    both_true (is_named v) (list_all is_named (w ∷ vs)) (some_list v.user k.spelled.some) (roles_named others (w ∷ vs) more)

few : (n : ℕ) → n ≤ 4096 → IsTrue (nat_le n 4096)
few n h = grind arith

listed_fit : (text : List ℕ) (o : Option (List AuthId)) → roles_in text ≡ o → IsTrue (is_some o)
    → IsTrue (nat_le (length (roles_or_none o)) 4096 && list_all is_named (roles_or_none o))
listed_fit text None e h = absurd (cc)
listed_fit text (Some vs) e h =
    both_true (nat_le (length vs) 4096) (list_all is_named vs) (few (length vs) (in_found text vs e).1) (roles_named text vs (in_found text vs e).0)

set_mandatory_kept : (ts : List Lexeme) (s : Statement) → spells (grammar_of set_mandatory) ts s → IsTrue (is_statement s)
unfolding set_mandatory is is_statement
set_mandatory_kept ts s (vs, (t, us, h, cut, (x, here, one, value)), same) =
    ap is_statement same ∙ ap (λ list. nat_le (length list) 4096 && list_all is_named list) value
    ∙ listed_fit x.value (roles_in x.value) refl (both_right (has_sort string x.kind x.value) (is_role_list x.value) here)

set_persist_kept : (ts : List Lexeme) (s : Statement) → spells (grammar_of set_persist) ts s → IsTrue (is_statement s)
unfolding set_persist set_activate_all is_statement
set_persist_kept ts s (inl (t, us, h, cut, k)) = set_mandatory_kept us s k
set_persist_kept ts s (inr (t, us, h, cut, (v, k, same))) = ap is_statement same

set_kept : (ts : List Lexeme) (s : Statement) → spells (grammar_of set) ts s → IsTrue (is_statement s)
unfolding set
set_kept ts s (inl (t, us, h, cut, (t', us', h', cut', k))) = set_default_role_kept us' s k
set_kept ts s (inr (inl (t, us, h, cut, k))) = set_password_kept us s k
set_kept ts s (inr (inr (t, us, h, cut, k))) = set_persist_kept us s k

on_grants_kept : (ts : List Lexeme) (s : Statement) → spells (grammar_of on_grants) ts s → IsTrue (is_statement s)
unfolding on_grants revoke
on_grants_kept ts s (inl (t, us, h, cut, k)) = grant_roles_kept us s k
on_grants_kept ts s (inr (inl (t, us, h, cut, (inl (t', us', h', cut', k))))) = revoke_all_kept us' s k
on_grants_kept ts s (inr (inl (t, us, h, cut, (inr k)))) = revoke_roles_kept us s k
on_grants_kept ts s (inr (inr (t, us, h, cut, k))) = set_kept us s k

-- a statement that names no privileges
pub statement_kept : (ts : List Lexeme) (s : Statement) → spells (grammar_of user_statement) ts s → IsTrue (is_statement s)
unfolding user_statement create drop
statement_kept ts s (inl (t, us, h, cut, (inl (t', us', h', cut', k)))) = create_user_kept us' s k
statement_kept ts s (inl (t, us, h, cut, (inr (t', us', h', cut', k)))) = create_role_kept us' s k
statement_kept ts s (inr (inl (t, us, h, cut, (t', us', h', cut', k)))) = alter_user_kept us' s k
statement_kept ts s (inr (inr (inl (t, us, h, cut, (inl (t', us', h', cut', k)))))) = drop_user_kept us' s k
statement_kept ts s (inr (inr (inl (t, us, h, cut, (inr (t', us', h', cut', k)))))) = drop_role_kept us' s k
statement_kept ts s (inr (inr (inr (inl (t, us, h, cut, (t', us', h', cut', k)))))) = rename_user_kept us' s k
statement_kept ts s (inr (inr (inr (inr k)))) = on_grants_kept ts s k
