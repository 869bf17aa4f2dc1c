-- A list that is written account by account is read back.
use Rattle.std.proofs.Common.{◌≡◌, ◌≤◌, List, [], ◌∷◌, Some, length, refl, sym, append_assoc, append-nil, inr}
use Rattle.std.specs.List.{AllByRecursion}
use Rattle.std.specs.Prelude.{codes}
use Rattle.acl_names.specs.AuthId.{auth_text}
use Rattle.acl_names.specs.Quoted.{quoted}
use Rattle.acl_names.specs.declared.auth.AuthId.{AuthId}
use Rattle.mandatory_roles.specs.Roles.{roles_in}
use Rattle.mandatory_roles.specs.Spelling.{SpellsPadded, SpellsRole, SpellsRoles}
use Rattle.mandatory_roles.specs.Text.{IsRole, roles_text}
use Rattle.mandatory_roles.proofs.Lists.{in_only}

role_written : (role : AuthId) → IsRole role → SpellsRole (auth_text role) role
role_written role is = record {
  host = role.host;
  spelled = inr (record { name = quoted role.user; before = []; behind = []; place = quoted role.host; whole = append_assoc (quoted role.user) (codes "@") (quoted role.host); named = inr refl; blanks = (tt, tt); placed = inr refl });
  lowered = sym is.host.lowered;
  some = is.some;
  user_rules = is.user;
  host_rules = is.host.faultless;
  comparable = is.comparable;
}

padded : (role : AuthId) → IsRole role → SpellsPadded (auth_text role) role
padded role is = record {
  before = [];
  inner = auth_text role;
  behind = [];
  whole = sym (append-nil (auth_text role));
  blanks = (tt, tt);
  spelled = role_written role is;
}

pub roles_written : (roles : List AuthId) → AllByRecursion IsRole roles → SpellsRoles (roles_text roles) roles
roles_written [] each = refl
roles_written (role ∷ []) each = padded role each.0
roles_written (role ∷ second ∷ roles) each =
    (auth_text role, roles_text (second ∷ roles), refl, padded role each.0, roles_written (second ∷ roles) each.1)

pub written_read : (roles : List AuthId) → AllByRecursion IsRole roles → length roles ≤ 4096 → roles_in (roles_text roles) ≡ Some roles
written_read roles each few = in_only (roles_text roles) roles (roles_written roles each) few
