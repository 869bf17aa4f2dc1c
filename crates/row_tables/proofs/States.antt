-- When two states are one.
use Rattle.std.proofs.Common.{◌≡◌, ◌∙◌, ap, Bool, true, false}
use Rattle.acl_names.specs.AuthId.{same_auth}
use Rattle.acl_names.specs.declared.auth.AuthId.{AuthId}
use Rattle.acl_names.proofs.SameAuth.{equal_from_same_auth, same_auth_itself}
pub use Rattle.numbered_rows.proofs.States.{account_is_no_grant, differ_back, same_state}

-- whether two accounts are the same, asked the other way
pub same_auth_back : (a b : AuthId) (t : Bool) → same_auth a b ≡ t → same_auth b a ≡ t
same_auth_back a b true same = ap (λ (x : AuthId). same_auth b x) (equal_from_same_auth a b same) ∙ same_auth_itself b
same_auth_back a b false differ = differ_back a b differ
