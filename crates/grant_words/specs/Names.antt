-- Names of accounts and of what privileges are held on, as they stand in statements.
use Rattle.std.specs.Prelude.{ℕ, Bool, true, false, ◌&&◌, is_none, List, [], ◌∷◌, codes}
pub use Rattle.std.specs.Prelude.{is_some}
use Rattle.std.specs.Str.{str_to_ascii_lowercase}
use Rattle.account_match.specs.Form.{form_of}
use Rattle.acl_names.specs.Limits.{host_limit, user_limit}
use Rattle.acl_names.specs.Name.{name_fault}
use Rattle.acl_names.specs.declared.auth.AuthId.{AuthId}
use Rattle.grant_words.specs.Classes.{Class}
use Rattle.grant_words.specs.Classes.Class.{mark, identifier, valued}
use Rattle.grant_words.specs.Classes.Sort.{name, any_name}
use Rattle.grant_words.specs.Syntax.{Syntax}
use Rattle.grant_words.specs.Syntax.Syntax.{token, after, empty, both, to, choice}

abbrev pub same : List ℕ → List ℕ
same text = text

abbrev pub is_user : List ℕ → Bool
is_user text = is_none (name_fault user_limit text)

abbrev pub is_some_text : List ℕ → Bool
is_some_text [] = false
is_some_text (byte ∷ rest) = true

-- the user of a role is not empty
abbrev pub is_role_user : List ℕ → Bool
is_role_user text = is_some_text text && is_user text

-- a host within its limit, with an address and a mask where it has a `/`
abbrev pub is_host : List ℕ → Bool
is_host text = is_none (name_fault host_limit text) && is_some (form_of (str_to_ascii_lowercase text))

abbrev pub user_class : Class
user_class = valued name is_user (codes "u")

abbrev pub role_class : Class
role_class = valued name is_role_user (codes "r")

abbrev pub host_class : Class
host_class = valued any_name is_host []

abbrev pub auth_of : List ℕ × List ℕ → AuthId
auth_of v = record { user = v.0; host = v.1 }

-- [ @ host ], or `%`
unfoldable pub at_host : Syntax (List ℕ)
at_host = choice (after (mark 64) (token host_class str_to_ascii_lowercase)) (empty (codes "%"))

-- user [ @ host ]
unfoldable pub account : Syntax AuthId
account = to auth_of (both (token user_class same) at_host)

-- the same of a user that is not empty
unfoldable pub role : Syntax AuthId
role = to auth_of (both (token role_class same) at_host)

unfoldable pub ident : Syntax (List ℕ)
ident = token identifier same
