use Rattle.std.proofs.Common.{◌≡◌, ◌≤◌, ℕ, List, Option, Some, None, IsTrue, is_some, length, refl, ap}
use Rattle.acl_names.specs.declared.auth.AuthId.{AuthId}
use Rattle.mandatory_roles.proofs.Lists.{in_found, in_only}
use Rattle.mandatory_roles.specs.Roles.{roles_in}
use Rattle.mandatory_roles.specs.Spelling.{SpellsRoles}
use Rattle.user_statements.specs.Statements.{roles_or_none}
use Rattle.user_statements.proofs.laws.role_lists_are_spelled.Goals as goal

found : (text : List ℕ) (o : Option (List AuthId)) → roles_in text ≡ o → IsTrue (is_some o)
    → SpellsRoles text (roles_or_none o) × (length (roles_or_none o) ≤ 4096)
found text None e h = absurd (cc)
found text (Some roles) e h = in_found text roles e

pub returns : goal.returns
returns c = record {
  lists = λ text is. found text (roles_in text) refl is;
  spelled = λ text roles spells few. (ap is_some (in_only text roles spells few), ap roles_or_none (in_only text roles spells few));
}
