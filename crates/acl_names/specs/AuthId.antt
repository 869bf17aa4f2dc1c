-- Accounts, each the bytes of its user and of its host.
use Rattle.std.specs.Prelude.{◌≡◌, ℕ, Bool, ◌&&◌, List, ◌++◌, codes, refl}
use Rattle.std.specs.declared.cmp.Ordering.{Ordering}
use Rattle.std.specs.Ordering.{on, then_cmp}
use Rattle.acl_names.specs.declared.auth.AuthId.{AuthId}
use Rattle.acl_names.specs.Quoted.{quoted}
use Rattle.acl_names.specs.Text.{text_cmp, text_eq}

-- the same user and the same host
abbrev pub same_auth : AuthId → AuthId → Bool
same_auth a b = text_eq a.user b.user && text_eq a.host b.host

-- by the user, and by the host where the users are the same
abbrev pub auth_cmp : AuthId → AuthId → Ordering
auth_cmp = then_cmp (on (λ a. a.user) text_cmp) (on (λ a. a.host) text_cmp)

-- the printed account
abbrev pub auth_text : AuthId → List ℕ
auth_text a = quoted a.user ++ codes "@" ++ quoted a.host

example-auth_text : auth_text (record { user = codes "we`ird"; host = codes "%" }) ≡ codes "`we``ird`@`%`"
example-auth_text = refl
