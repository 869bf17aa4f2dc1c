-- `==` of names and of accounts holds exactly where they are the same value.
use Rattle.std.proofs.Common.{◌≡◌, ℕ, true, List, refl}
use Rattle.std.specs.Cmp.{first_so, second_so}
use Rattle.std.specs.Cmp.Lexicographic.{bytes_decides}
use Rattle.acl_names.specs.AuthId.{same_auth}
use Rattle.acl_names.specs.Text.{text_eq}
use Rattle.acl_names.specs.declared.auth.AuthId.{AuthId}

pub equal_from_text_eq : (a b : List ℕ) → text_eq a b ≡ true → a ≡ b
equal_from_text_eq a b = (bytes_decides a b).0

pub text_eq_itself : (a : List ℕ) → text_eq a a ≡ true
text_eq_itself a = (bytes_decides a a).1 refl

pub equal_from_same_auth : (a b : AuthId) → same_auth a b ≡ true → a ≡ b
equal_from_same_auth a b same =
    let user : a.user ≡ b.user = equal_from_text_eq a.user b.user (first_so (text_eq a.user b.user) (text_eq a.host b.host) same) in
    let host : a.host ≡ b.host = equal_from_text_eq a.host b.host (second_so (text_eq a.user b.user) (text_eq a.host b.host) same) in
    λ i. record { user = user i; host = host i }

pub same_auth_itself : (a : AuthId) → same_auth a a ≡ true
same_auth_itself a = rw (text_eq_itself a.user) (text_eq_itself a.host)
