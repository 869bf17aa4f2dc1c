-- A worked example: ``CREATE ROLE `r`@`%` ``, the call of number 1 of caller 0, by `root`@`localhost`.
use Rattle.std.specs.Prelude.{◌≡◌, [], ◌∷◌, ◌++◌, codes, true, false, refl}
use Rattle.acl_stmt.specs.Entries.{is_entry}
use Rattle.acl_stmt.specs.Statements.{is_statement}
use Rattle.acl_stmt.specs.declared.entry.Entry.{Entry}
use Rattle.acl_stmt.specs.declared.statement.Statement.{Statement}
use Rattle.acl_stmt.specs.declared.statement.Statement.TheVariants.{CreateRole}
use Rattle.canonical_texts.specs.Statements.{canonical_text}
use Rattle.entry_bytes.specs.Spelling.{bytes_of, number_bytes, size_bytes}

abbrev create_role : Statement
create_role = CreateRole false (record { user = codes "r"; host = codes "%" } ∷ [])

legal : is_entry [] create_role ≡ true
unfolding is_entry is_statement
legal = refl

abbrev entry : Entry
entry = record {
  caller = record { 0 = 0 };
  number = 1;
  by = record { user = codes "root"; host = codes "localhost" };
  limits = [];
  statement = create_role;
  legal = legal;
}

-- the text has 19 bytes, and the entry 52
example-create_role : bytes_of entry ≡
    0 ∷ 0 ∷ 0 ∷ 0 ∷ 1 ∷ 0 ∷ 0 ∷ 0 ∷ 4 ∷ 0 ∷ (codes "root" ++ (9 ∷ 0 ∷ (codes "localhost" ++ (0 ∷ 0 ∷ 0 ∷ 0 ∷ 19 ∷ 0 ∷ 0 ∷ 0 ∷ codes "CREATE ROLE `r`@`%`"))))
unfolding bytes_of number_bytes size_bytes canonical_text
example-create_role = refl
