-- Which clients an account admits. MySQL 8.0 Reference Manual, "Access Control, Stage 1: Connection Verification".
use Rattle.std.specs.Prelude.{ℕ, Bool, ◌&&◌, ◌||◌, List}
use Rattle.acl_names.specs.Text.{text_eq}
use Rattle.acl_names.specs.declared.auth.AuthId.{AuthId}
use Rattle.account_match.specs.Fits.{fits}
use Rattle.account_match.specs.Order.{is_blank}
use Rattle.account_match.specs.declared.client.Client.{Client}

-- the account's user is the given one, or blank
abbrev pub is_user : List ℕ → List ℕ → Bool
is_user named user = text_eq named user || is_blank named

-- its user is the given one or blank, and its host lets the client in
abbrev pub is_admitted : List ℕ → Client → AuthId → Bool
is_admitted user client account = is_user account.user user && fits account.host client
