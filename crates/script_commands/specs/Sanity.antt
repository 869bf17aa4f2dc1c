-- One token ahead decides how each rule goes on.
use Rattle.std.specs.Prelude.{refl}
use Rattle.std.specs.Str.{chars}
use Rattle.account_match.specs.Form.{form_of}
use Rattle.acl_grammar.specs.Reader.{Sample, Sane}
use Rattle.grant_words.specs.Classes.{is}
use Rattle.grant_words.specs.Lists.{roles}
use Rattle.grant_words.specs.Names.{account, at_host, ident, role}
use Rattle.grant_words.proofs.Sanity.{sample, sane}
use Rattle.grant_words.specs.Syntax.{grammar_of}
use Rattle.priv_sets.specs.DynamicNames.{dynamic_names}
use Rattle.priv_sets.specs.PlainNames.{plain_names}
use Rattle.grant_lex.specs.Reserved.{reserved_words}
use Rattle.privilege_statements.specs.PrivilegeItems.{column_names, item, maybe_columns, maybe_privileges, privilege_item, privileges, static_privilege}
use Rattle.privilege_statements.specs.PrivilegeNames.{alter_names, create_names, create_others, drop_names, dynamic_numbers, lone_numbers, other_name, replication_names, show_names, static_name}
use Rattle.privilege_statements.specs.Statements.{request}
use Rattle.privilege_statements.specs.Targets.{behind_star, dotted, marked_target, plain_target, request_target, star_or_table}
use Rattle.script_commands.specs.Commands.{all_roles, awaited, client, client_class, client_name, client_text, command, connect, grants_of, connection, password, role_form, session_command, using_roles}
use Rattle.script_commands.specs.Numbers.{length_class, turns_class}

pub client_sample : Sample (is client_class)
unfolding chars is
client_sample = (sample client_class, refl)

pub length_sample : Sample (is length_class)
unfolding is
length_sample = (sample length_class, refl)

pub turns_sample : Sample (is turns_class)
unfolding is
turns_sample = (sample turns_class, refl)

pub connect_sane : Sane (grammar_of connect)
unfolding chars reserved_words is client_text client_name client password connection connect
connect_sane = sane connect refl

pub command_sane : Sane (grammar_of command)
unfolding chars form_of reserved_words plain_names lone_numbers dynamic_names dynamic_numbers is ident account role at_host roles column_names maybe_columns create_others create_names alter_names drop_names show_names replication_names other_name static_name static_privilege privilege_item item maybe_privileges privileges dotted behind_star marked_target star_or_table plain_target request_target request client_text client_name client password connection connect all_roles role_form using_roles grants_of awaited session_command command
command_sane = sane command refl
