-- How a list of roles is written.
use Rattle.std.specs.Prelude.{◌≡◌, ◌≢◌, ℕ, List, [], ◌∷◌, ◌++◌, IsSome, None, codes, refl}
use Rattle.account_match.specs.Form.{form_of}
use Rattle.acl_names.specs.AuthId.{auth_text}
use Rattle.acl_names.specs.Limits.{host_limit, user_limit}
use Rattle.acl_names.specs.Name.{IsLowerName, name_fault}
use Rattle.acl_names.specs.declared.auth.AuthId.{AuthId}

-- an account that may be a role: its user is not empty, both names keep their rules, and its host can be compared
pub record IsRole (role : AuthId) : Type 0 where
  pub some : role.user ≢ []
  pub user : name_fault user_limit role.user ≡ None
  pub host : IsLowerName host_limit role.host
  pub comparable : IsSome (form_of role.host)

-- the accounts in backquotes, with commas between them
abbrev pub roles_text : List AuthId → List ℕ
roles_text [] = []
roles_text (role ∷ []) = auth_text role
roles_text (role ∷ second ∷ roles) = auth_text role ++ (codes "," ++ roles_text (second ∷ roles))

example-text : roles_text (record { user = codes "r1"; host = codes "%" } ∷ record { user = codes "a`b"; host = [] } ∷ []) ≡ codes "`r1`@`%`,`a``b`@``"
example-text = refl
