-- One token ahead decides how each rule goes on.
use Rattle.acl_grammar.specs.Reader.{Sane}
use Rattle.grant_words.proofs.Sanity.{sane}
use Rattle.grant_words.specs.Syntax.{grammar_of}
use Rattle.grant_parse.specs.Statements.{privilege_rule, semicolon, user_rule}
use Rattle.account_match.specs.Form.{form_of}
use Rattle.grant_words.specs.Classes.{is}
use Rattle.grant_words.specs.Lists.{accounts, roles}
use Rattle.grant_words.specs.Names.{account, at_host, ident, role}
use Rattle.hex.proofs.OnLiterals.{hex_on_literals}
use Rattle.mandatory_roles.specs.Roles.{roles_in}
use Rattle.priv_sets.specs.DynamicNames.{dynamic_names}
use Rattle.priv_sets.specs.PlainNames.{plain_names}
use Rattle.privilege_statements.specs.PrivilegeItems.{column_names, item, maybe_columns, maybe_privileges as granted_maybe_privileges, privilege_item, privileges, static_privilege}
use Rattle.privilege_statements.specs.PrivilegeNames.{alter_names, create_names, create_others, drop_names, dynamic_numbers, lone_numbers, other_name, replication_names, show_names, static_name}
use Rattle.privilege_statements.specs.Statements.{grant, privilege_statement, privileges_on_target, revoke as granted_revoke, with_grant_option}
use Rattle.privilege_statements.specs.Targets.{behind_star, dotted, escaped_target, long_target, marked_target, schema_target, star_or_table, target}
use Rattle.grant_lex.specs.Reserved.{reserved_words}
use Rattle.std.specs.Prelude.{refl}
use Rattle.std.specs.Str.{chars}
use Rattle.user_statements.specs.Flags.{if_exists, if_not_exists, with_admin_option}
use Rattle.user_statements.specs.Options.{lock, lock_time, number, options, setting}
use Rattle.user_statements.specs.Secrets.{by_secret, secret}
use Rattle.user_statements.specs.Statements.{alter_user, altered_account, create, create_role, create_user, default_form, drop, drop_role, drop_user, for_account, grant_roles, maybe_privileges, new_account, on_grants, on_or_off, rename_user, renaming, revoke, revoke_all, revoke_roles, set, set_activate_all, set_default_role, set_mandatory, set_password, set_persist, user_statement}

pub user_rule_sane : Sane (grammar_of user_rule)
unfolding user_rule semicolon hex_on_literals chars form_of reserved_words is account role at_host accounts roles if_not_exists if_exists with_admin_option secret by_secret number lock_time lock setting options new_account create_user altered_account alter_user drop_user renaming rename_user create_role drop_role grant_roles maybe_privileges revoke_all revoke_roles default_form set_default_role set_mandatory roles_in for_account set_password on_or_off set_activate_all create drop revoke set_persist set on_grants user_statement
user_rule_sane = sane user_rule refl

pub privilege_rule_sane : Sane (grammar_of privilege_rule)
unfolding privilege_rule semicolon chars form_of reserved_words plain_names lone_numbers dynamic_names dynamic_numbers is ident account at_host accounts column_names maybe_columns create_others create_names alter_names drop_names show_names replication_names other_name static_name static_privilege privilege_item item granted_maybe_privileges privileges dotted behind_star marked_target star_or_table escaped_target long_target schema_target target with_grant_option privileges_on_target grant granted_revoke privilege_statement
privilege_rule_sane = sane privilege_rule refl
