-- The roles in a text, as a function from left to right: by law those that the text spells.
use Rattle.std.specs.Prelude.{◌≡◌, ℕ, zero, suc, ◌==◌, if◌then◌else◌, List, [], ◌∷◌, Option, Some, None, option_map, codes, refl}
use Rattle.std.specs.Str.{chars, str_to_ascii_lowercase}
use Rattle.account_match.specs.Form.{form_of}
use Rattle.acl_names.specs.declared.auth.AuthId.{AuthId}
use Rattle.grant_lex.specs.Value.{value_of, inside_value}
use Rattle.grant_lex.specs.Reserved.{reserved_words}
use Rattle.grant_words.specs.Names.{is_host, is_role_user}
use Rattle.mandatory_roles.specs.Cutting.{Written, closed_at, written_at}

abbrev pub user_of : List ℕ → Option (List ℕ)
user_of user = if is_role_user user then Some user else None

abbrev pub host_of : List ℕ → Option (List ℕ)
host_of host = if is_host host then Some (str_to_ascii_lowercase host) else None

-- the role of these two, where both are there
abbrev pub role_from : Option (List ℕ) → Option (List ℕ) → Option AuthId
role_from None host = None
role_from (Some user) None = None
role_from (Some user) (Some host) = Some (record { user = user; host = host })

-- the role whose name and host are written so
abbrev pub role_of : List ℕ → List ℕ → Option AuthId
role_of name host = role_from (user_of (value_of name)) (host_of (value_of host))

-- nothing follows the role, or a comma, of code 44, and more
abbrev pub roles_behind : (List ℕ → Option (List AuthId)) → List ℕ → Option (List AuthId)
roles_behind more [] = Some []
roles_behind more (b ∷ bs) = if b == 44 then more bs else None

abbrev pub with_role : (List ℕ → Option (List AuthId)) → List ℕ → Option AuthId → Option (List AuthId)
with_role more rest None = None
with_role more rest (Some role) = option_map (λ roles. role ∷ roles) (roles_behind more rest)

abbrev pub with_written : (List ℕ → Option (List AuthId)) → Option Written → Option (List AuthId)
with_written more None = None
with_written more (Some w) = with_role more w.rest (role_of w.name w.host)

-- one role or more, so many at most
unfoldable pub roles_up_to : ℕ → List ℕ → Option (List AuthId)
roles_up_to zero text = None
roles_up_to (suc n) text = with_written (roles_up_to n) (written_at text)

-- the roles that the text spells; the empty text spells none of them, and is a list as well
unfoldable pub roles_in : List ℕ → Option (List AuthId)
roles_in [] = Some []
roles_in (b ∷ bs) = roles_up_to 4096 (b ∷ bs)

example-two : roles_in (codes "r1,r3@%.Example.com") ≡ Some (record { user = codes "r1"; host = codes "%" } ∷ record { user = codes "r3"; host = codes "%.example.com" } ∷ [])
unfolding roles_in roles_up_to written_at closed_at reserved_words form_of chars
example-two = refl

example-quoted : roles_in (codes "`a``b`@ ``\t") ≡ Some (record { user = codes "a`b"; host = [] } ∷ [])
unfolding roles_in roles_up_to written_at closed_at reserved_words form_of chars inside_value
example-quoted = refl

example-blanks : roles_in (codes "  ") ≡ None
unfolding roles_in roles_up_to written_at closed_at
example-blanks = refl
