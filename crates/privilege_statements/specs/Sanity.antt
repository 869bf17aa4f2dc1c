-- One token ahead decides how each rule goes on.
use Rattle.std.specs.Prelude.{refl}
use Rattle.std.specs.Str.{chars}
use Rattle.account_match.specs.Form.{form_of}
use Rattle.acl_grammar.specs.Reader.{Sample, Sane}
use Rattle.grant_words.specs.Classes.{is}
use Rattle.grant_words.specs.Lists.{accounts}
use Rattle.grant_words.specs.Names.{account, at_host, ident}
use Rattle.grant_words.proofs.Sanity.{sample, sane}
use Rattle.grant_words.specs.Syntax.{grammar_of}
use Rattle.priv_sets.specs.DynamicNames.{dynamic_names}
use Rattle.priv_sets.specs.PlainNames.{plain_names}
use Rattle.grant_lex.specs.Reserved.{reserved_words}
use Rattle.privilege_statements.specs.PrivilegeItems.{column_names, item, maybe_columns, maybe_privileges, privilege_item, privileges, static_privilege}
use Rattle.privilege_statements.specs.PrivilegeNames.{alter_names, create_names, create_others, drop_names, dynamic_class, dynamic_numbers, lone_class, lone_numbers, other_name, replication_names, show_names, static_name}
use Rattle.privilege_statements.specs.Statements.{grant, privilege_statement, privileges_on_target, request, revoke, with_grant_option}
use Rattle.privilege_statements.specs.Targets.{behind_star, dotted, escaped_target, long_class, long_target, marked_target, plain_target, request_target, schema_target, star_or_table, target}

pub lone_sample : Sample (is lone_class)
unfolding plain_names lone_numbers is
lone_sample = (sample lone_class, refl)

pub dynamic_sample : Sample (is dynamic_class)
unfolding dynamic_names dynamic_numbers is
dynamic_sample = (sample dynamic_class, refl)

pub long_sample : Sample (is long_class)
unfolding chars reserved_words is
long_sample = (sample long_class, refl)

pub item_sane : Sane (grammar_of item)
unfolding chars reserved_words plain_names lone_numbers dynamic_names dynamic_numbers is ident column_names maybe_columns create_others create_names alter_names drop_names show_names replication_names other_name static_name static_privilege privilege_item item
item_sane = sane item refl

pub request_sane : Sane (grammar_of request)
unfolding chars reserved_words plain_names lone_numbers dynamic_names dynamic_numbers is ident column_names maybe_columns create_others create_names alter_names drop_names show_names replication_names other_name static_name static_privilege privilege_item item maybe_privileges privileges dotted behind_star marked_target star_or_table plain_target request_target request
request_sane = sane request refl

pub privilege_statement_sane : Sane (grammar_of privilege_statement)
unfolding chars form_of reserved_words plain_names lone_numbers dynamic_names dynamic_numbers is ident account at_host accounts column_names maybe_columns create_others create_names alter_names drop_names show_names replication_names other_name static_name static_privilege privilege_item item maybe_privileges privileges dotted behind_star marked_target star_or_table escaped_target long_target schema_target target with_grant_option privileges_on_target grant revoke privilege_statement
privilege_statement_sane = sane privilege_statement refl
