-- Texts that are read back.
use Rattle.std.specs.Prelude.{◌≤◌, ℕ, List, length}
use Rattle.acl_stmt.specs.declared.statement.Statement.{Statement}
use Rattle.grant_parse.specs.Meaning.{IsStatement}

-- the text is the statement, under any limit on its bytes that it keeps
abbrev pub IsReadBack : List ℕ → Statement → Type 0
IsReadBack text s = (room : ℕ) → length text ≤ room → IsStatement room text s
