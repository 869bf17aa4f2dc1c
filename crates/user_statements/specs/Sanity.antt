-- One token ahead decides how each rule goes on.
use Rattle.std.specs.Prelude.{refl}
use Rattle.std.specs.Str.{chars}
use Rattle.account_match.specs.Form.{form_of}
use Rattle.acl_grammar.specs.Reader.{Sample, Sane}
use Rattle.grant_words.proofs.Sanity.{sample, sane}
use Rattle.hex.proofs.OnLiterals.{hex_on_literals}
use Rattle.grant_words.specs.Classes.{is}
use Rattle.grant_words.specs.Lists.{accounts, roles}
use Rattle.grant_words.specs.Names.{account, at_host, role}
use Rattle.grant_words.specs.Syntax.{grammar_of}
use Rattle.mandatory_roles.specs.Roles.{roles_in}
use Rattle.grant_lex.specs.Reserved.{reserved_words}
use Rattle.user_statements.specs.Flags.{if_exists, if_not_exists, with_admin_option}
use Rattle.user_statements.specs.Options.{lock, lock_time, number, number_class, options, setting}
use Rattle.user_statements.specs.Secrets.{by_secret, digest_class, password_class, secret}
use Rattle.user_statements.specs.Statements.{alter_user, altered_account, create, create_role, create_user, default_form, drop, drop_role, drop_user, for_account, grant_roles, maybe_privileges, new_account, on_grants, on_or_off, rename_user, renaming, revoke, revoke_all, revoke_roles, set, set_activate_all, set_default_role, set_mandatory, set_password, set_persist, roles_class, user_statement}

pub setting_sane : Sane (grammar_of setting)
unfolding reserved_words is setting number lock_time lock
setting_sane = sane setting refl

pub new_account_sane : Sane (grammar_of new_account)
unfolding hex_on_literals chars form_of reserved_words is account at_host new_account by_secret secret
new_account_sane = sane new_account refl

pub altered_account_sane : Sane (grammar_of altered_account)
unfolding hex_on_literals chars form_of reserved_words is account at_host altered_account by_secret secret
altered_account_sane = sane altered_account refl

pub renaming_sane : Sane (grammar_of renaming)
unfolding chars form_of reserved_words is account role at_host renaming
renaming_sane = sane renaming refl

pub user_statement_sane : Sane (grammar_of user_statement)
unfolding hex_on_literals chars form_of reserved_words is account role at_host accounts roles if_not_exists if_exists with_admin_option secret by_secret number lock_time lock setting options new_account create_user altered_account alter_user drop_user renaming rename_user create_role drop_role grant_roles maybe_privileges revoke_all revoke_roles default_form set_default_role set_mandatory roles_in for_account set_password on_or_off set_activate_all create drop revoke set_persist set on_grants user_statement
user_statement_sane = sane user_statement refl

pub password_sample : Sample (is password_class)
unfolding is
password_sample = (sample password_class, refl)

pub digest_sample : Sample (is digest_class)
unfolding is hex_on_literals
digest_sample = (sample digest_class, refl)

pub number_sample : Sample (is number_class)
unfolding is
number_sample = (sample number_class, refl)

pub roles_sample : Sample (is roles_class)
unfolding is roles_in
roles_sample = (sample roles_class, refl)
