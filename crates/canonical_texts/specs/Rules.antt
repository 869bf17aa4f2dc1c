-- Accounts within their rules.
use Rattle.std.specs.Prelude.{◌≡◌, Bool, true, false, ◌&&◌, codes, refl}
use Rattle.std.specs.Str.{chars}
use Rattle.account_match.specs.Form.{form_of}
use Rattle.acl_names.specs.Text.{is_lower}
use Rattle.acl_names.specs.declared.auth.AuthId.{AuthId}
use Rattle.grant_words.specs.Names.{is_host, is_user}

-- a user and a host as a statement may name them, the host in lower case
abbrev pub account_keeps_rules : AuthId → Bool
account_keeps_rules account = is_user account.user && is_host account.host && is_lower account.host

example-account : account_keeps_rules (record { user = codes "u"; host = codes "%" }) ≡ true
unfolding chars form_of
example-account = refl

example-capitals : account_keeps_rules (record { user = codes "u"; host = codes "Host" }) ≡ false
unfolding chars form_of
example-capitals = refl
