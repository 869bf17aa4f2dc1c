-- Each class of names has a token, and one token ahead decides how each rule of names goes on.
use Rattle.std.proofs.Common.{codes, refl}
use Rattle.std.specs.Str.{chars}
use Rattle.account_match.specs.Form.{form_of}
use Rattle.acl_grammar.specs.Reader.{Sample, Sane}
use Rattle.grant_lex.specs.declared.sorts.Kind.TheVariants.{Backquoted, Mark}
use Rattle.grant_words.specs.Classes.{is}
use Rattle.grant_words.specs.Classes.Class.{identifier}
use Rattle.grant_words.specs.Names.{account, at_host, host_class, ident, role, role_class, user_class}
use Rattle.grant_words.specs.Syntax.{grammar_of}

pub user_sample : Sample (is user_class)
unfolding chars is
user_sample = (record { kind = Backquoted; value = codes "u" }, refl)

pub role_sample : Sample (is role_class)
unfolding chars is
role_sample = (record { kind = Backquoted; value = codes "r" }, refl)

pub host_sample : Sample (is host_class)
unfolding chars form_of is
host_sample = (record { kind = Backquoted; value = codes "h" }, refl)

pub identifier_sample : Sample (is identifier)
unfolding chars is
identifier_sample = (record { kind = Backquoted; value = codes "a" }, refl)

at_host_sane : Sane (grammar_of at_host)
unfolding is at_host
at_host_sane = (((record { kind = Mark 64; value = codes "@" }, refl), host_sample), tt, (λ token here further. cc), refl)

pub account_sane : Sane (grammar_of account)
unfolding account
account_sane = (user_sample, at_host_sane, λ token here further. cc)

pub role_sane : Sane (grammar_of role)
unfolding role
role_sane = (role_sample, at_host_sane, λ token here further. cc)

pub ident_sane : Sane (grammar_of ident)
unfolding ident
ident_sane = identifier_sample
