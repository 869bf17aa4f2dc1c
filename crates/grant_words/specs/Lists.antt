-- Lists of accounts and of roles.
use Rattle.std.specs.Prelude.{List}
use Rattle.acl_names.specs.declared.auth.AuthId.{AuthId}
use Rattle.grant_words.specs.Classes.{Class}
use Rattle.grant_words.specs.Classes.Class.{mark}
use Rattle.grant_words.specs.Names.{account, role}
use Rattle.grant_words.specs.Syntax.{Syntax}
use Rattle.grant_words.specs.Syntax.Syntax.{list}

-- `,`
abbrev pub comma : Class
comma = mark 44

unfoldable pub accounts : Syntax (List AuthId)
accounts = list comma account

unfoldable pub roles : Syntax (List AuthId)
roles = list comma role
