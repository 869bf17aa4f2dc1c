-- A worked example: a journal of one entry, ``CREATE ROLE `r`@`%` ``, the call of number 1 of caller 0, by
-- `root`@`localhost`.
use Rattle.std.specs.Prelude.{◌≡◌, ℕ, List, [], ◌∷◌, ◌++◌, codes, length, true, false, refl}
use Rattle.acl_stmt.specs.Entries.{is_entry}
use Rattle.acl_stmt.specs.Statements.{is_statement}
use Rattle.acl_stmt.specs.declared.entry.Entry.{Entry}
use Rattle.acl_stmt.specs.declared.statement.Statement.{Statement}
use Rattle.acl_stmt.specs.declared.statement.Statement.TheVariants.{CreateRole}
use Rattle.canonical_texts.specs.Statements.{canonical_text}
use Rattle.entry_bytes.specs.Spelling.{bytes_of, number_bytes, size_bytes}
use Rattle.journal_bytes.specs.Files.{before_gate, file_size, header}

abbrev pub create_role : Statement
create_role = CreateRole false (record { user = codes "r"; host = codes "%" } ∷ [])

pub legal : is_entry [] create_role ≡ true
unfolding is_entry is_statement
legal = refl

abbrev pub first_entry : Entry
first_entry = record {
  caller = record { 0 = 0 };
  number = 1;
  by = record { user = codes "root"; host = codes "localhost" };
  limits = [];
  statement = create_role;
  legal = legal;
}

-- the 52 bytes of the entry
abbrev pub first_payload : List ℕ
first_payload =
    0 ∷ 0 ∷ 0 ∷ 0 ∷ 1 ∷ 0 ∷ 0 ∷ 0 ∷ 4 ∷ 0 ∷ (codes "root" ++ (9 ∷ 0 ∷ (codes "localhost" ++ (0 ∷ 0 ∷ 0 ∷ 0 ∷ 19 ∷ 0 ∷ 0 ∷ 0 ∷ codes "CREATE ROLE `r`@`%`"))))

-- the file before its last gate
abbrev pub first_front : List ℕ
first_front = codes "ACLBOOK1" ++ (1 ∷ 52 ∷ 0 ∷ 0 ∷ 0 ∷ first_payload)

example-bytes : bytes_of first_entry ≡ first_payload
unfolding bytes_of number_bytes size_bytes canonical_text
example-bytes = refl

-- with its last gate the file has 66 bytes, and that gate is at offset 65
example-front : before_gate (first_entry ∷ []) ≡ first_front
unfolding before_gate header bytes_of number_bytes size_bytes canonical_text
example-front = refl

example-size : file_size (first_entry ∷ []) ≡ 66
unfolding file_size bytes_of number_bytes size_bytes canonical_text
example-size = refl

-- a journal without entries has 9 bytes
example-empty : before_gate [] ≡ codes "ACLBOOK1"
unfolding before_gate header
example-empty = refl

example-empty_size : file_size [] ≡ 9
unfolding file_size
example-empty_size = refl
