-- Small forms that a statement may have or not.
use Rattle.std.specs.Prelude.{Bool, true, false, codes}
use Rattle.grant_words.specs.Classes.{word}
use Rattle.grant_words.specs.Syntax.{Syntax}
use Rattle.grant_words.specs.Syntax.Syntax.{after, empty, choice}

-- [ IF NOT EXISTS ]
unfoldable pub if_not_exists : Syntax Bool
if_not_exists = choice (after (word (codes "IF")) (after (word (codes "NOT")) (after (word (codes "EXISTS")) (empty true)))) (empty false)

-- [ IF EXISTS ]
unfoldable pub if_exists : Syntax Bool
if_exists = choice (after (word (codes "IF")) (after (word (codes "EXISTS")) (empty true))) (empty false)

-- [ WITH ADMIN OPTION ]
unfoldable pub with_admin_option : Syntax Bool
with_admin_option = choice (after (word (codes "WITH")) (after (word (codes "ADMIN")) (after (word (codes "OPTION")) (empty true)))) (empty false)
