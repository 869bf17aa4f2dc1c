-- What a text that lists roles looks like. MySQL 8.0 Reference Manual, "mandatory_roles" and "Specifying Role Names".
use Rattle.std.specs.Prelude.{◌≡◌, ◌≢◌, ◌⊎◌, ◌≤◌, ℕ, true, false, List, [], ◌∷◌, ◌++◌, length, Option, Some, None, IsSome, codes}
use Rattle.std.specs.List.{AllByRecursion}
use Rattle.std.specs.Str.{str_to_ascii_lowercase}
use Rattle.account_match.specs.Form.{form_of}
use Rattle.acl_names.specs.Limits.{host_limit, user_limit}
use Rattle.acl_names.specs.Name.{name_fault}
use Rattle.acl_names.specs.Quoted.{quoted}
use Rattle.acl_names.specs.declared.auth.AuthId.{AuthId}
use Rattle.grant_lex.specs.Class.{is_blank, is_quote}
use Rattle.grant_lex.specs.Next.{BeginsWithout}
use Rattle.grant_lex.specs.Token.{IsWord}
use Rattle.grant_lex.specs.Reserved.{is_reserved}
use Rattle.mandatory_roles.specs.Runs.{is_host_byte}

-- spaces and tabs, or nothing
abbrev pub AreBlanks : List ℕ → Type 0
AreBlanks = AllByRecursion (λ b. is_blank b ≡ true)

-- a word that is not reserved
pub record IsFreeWord (text : List ℕ) : Type 0 where
  pub word : IsWord text []
  pub free : is_reserved text ≡ false

-- a host without quotes round it: no comma and no blank stands in it, and it does not begin with a quote of any sort
pub record IsPlainHost (text : List ℕ) : Type 0 where
  pub some : text ≢ []
  pub each : AllByRecursion (λ b. is_host_byte b ≡ true) text
  pub unquoted : BeginsWithout (λ b. is_quote b ≡ true) text

-- the word itself, or the name between backquotes, with each backquote in it twice
abbrev pub SpellsName : List ℕ → List ℕ → Type 0
SpellsName text name = (IsFreeWord text × (text ≡ name)) ⊎ (text ≡ quoted name)

abbrev pub SpellsHost : List ℕ → List ℕ → Type 0
SpellsHost text host = (IsPlainHost text × (text ≡ host)) ⊎ (text ≡ quoted host)

-- a name, `@` and a host, with blanks round the `@` or none
pub record SpellsBoth (text user host : List ℕ) : Type 0 where
  pub name : List ℕ
  pub before : List ℕ
  pub behind : List ℕ
  pub place : List ℕ
  pub whole : text ≡ name ++ (before ++ (codes "@" ++ (behind ++ place)))
  pub named : SpellsName name user
  pub blanks : AreBlanks before × AreBlanks behind
  pub placed : SpellsHost place host

-- where no host stands, it is `%`
abbrev pub SpellsAccount : List ℕ → List ℕ → List ℕ → Type 0
SpellsAccount text user host = (SpellsName text user × (host ≡ codes "%")) ⊎ SpellsBoth text user host

-- an account whose user is not empty, with both names within their rules, and with the host in lower case
pub record SpellsRole (text : List ℕ) (role : AuthId) : Type 0 where
  pub host : List ℕ
  pub spelled : SpellsAccount text role.user host
  pub lowered : role.host ≡ str_to_ascii_lowercase host
  pub some : role.user ≢ []
  pub user_rules : name_fault user_limit role.user ≡ None
  pub host_rules : name_fault host_limit host ≡ None
  pub comparable : IsSome (form_of role.host)

-- a role with blanks round it, or none
pub record SpellsPadded (text : List ℕ) (role : AuthId) : Type 0 where
  pub before : List ℕ
  pub inner : List ℕ
  pub behind : List ℕ
  pub whole : text ≡ before ++ (inner ++ behind)
  pub blanks : AreBlanks before × AreBlanks behind
  pub spelled : SpellsRole inner role

-- roles with commas between them; the empty text, and no other, spells none
abbrev pub SpellsRoles : List ℕ → List AuthId → Type 0
SpellsRoles text [] = text ≡ []
SpellsRoles text (role ∷ []) = SpellsPadded text role
SpellsRoles text (role ∷ second ∷ roles) =
    (first : List ℕ) × (others : List ℕ) × (text ≡ first ++ (codes "," ++ others)) × SpellsPadded first role × SpellsRoles others (second ∷ roles)

-- the roles that the text spells, which are at most 4,096; or none, and then it spells no such list
abbrev pub IsReadAs : List ℕ → Option (List AuthId) → Type 0
IsReadAs text (Some roles) = SpellsRoles text roles × (length roles ≤ 4096)
IsReadAs text None = (roles : List AuthId) → SpellsRoles text roles → length roles ≤ 4096 → ⊥
