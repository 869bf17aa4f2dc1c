-- Lines that are read as statements.
use Rattle.std.specs.Prelude.{◌≡◌, ◌≤◌, ℕ, List, [], ◌∷◌, length}
use Rattle.acl_stmt.specs.declared.entry.Entry.{Entry}
use Rattle.acl_stmt.specs.declared.statement.Statement.{Statement}
use Rattle.grant_parse.specs.Meaning.{IsStatement}

-- the text is the statement, under any limit on its bytes that it keeps
abbrev pub IsReadAs : List ℕ → Statement → Type 0
IsReadAs text statement = (most : ℕ) → length text ≤ most → IsStatement most text statement

-- the entries issue what these texts of at most so many bytes are, without limits, whoever issues them
abbrev pub AreIssued : ℕ → List (List ℕ) → List Entry → Type 0
AreIssued most [] [] = Unit {0}
AreIssued most (text ∷ texts) (entry ∷ entries) = IsStatement most text entry.statement × ((entry.limits ≡ []) × AreIssued most texts entries)
AreIssued most _ _ = ⊥
