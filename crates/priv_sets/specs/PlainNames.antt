-- The names of the static privileges and of GRANT OPTION.
use Rattle.std.specs.Prelude.{ℕ, Bool, true, false, ◌&&◌, ◌||◌, ◌==◌, nat_le, if◌then◌else◌, List, [], ◌∷◌, slice_index_or, codes}

-- the names, by the numbers of the privileges
unfoldable pub plain_names : List (List ℕ)
plain_names =
    codes "SELECT" ∷ codes "INSERT" ∷ codes "UPDATE" ∷ codes "DELETE" ∷ codes "CREATE" ∷
    codes "DROP" ∷ codes "RELOAD" ∷ codes "SHUTDOWN" ∷ codes "PROCESS" ∷ codes "FILE" ∷
    codes "REFERENCES" ∷ codes "INDEX" ∷ codes "ALTER" ∷ codes "SHOW DATABASES" ∷ codes "SUPER" ∷
    codes "CREATE TEMPORARY TABLES" ∷ codes "LOCK TABLES" ∷ codes "EXECUTE" ∷ codes "REPLICATION SLAVE" ∷ codes "REPLICATION CLIENT" ∷
    codes "CREATE VIEW" ∷ codes "SHOW VIEW" ∷ codes "CREATE ROUTINE" ∷ codes "ALTER ROUTINE" ∷ codes "CREATE USER" ∷
    codes "EVENT" ∷ codes "TRIGGER" ∷ codes "CREATE TABLESPACE" ∷ codes "CREATE ROLE" ∷ codes "DROP ROLE" ∷
    codes "GRANT OPTION" ∷ []

-- the name of the privilege of a number; the empty text from 31 on
abbrev pub plain_name : ℕ → List ℕ
plain_name number = slice_index_or plain_names number []

-- a letter from A to Z
abbrev pub is_capital : ℕ → Bool
is_capital byte = nat_le 65 byte && nat_le byte 90

-- a letter from A to Z, or a space
abbrev pub is_capital_or_space : ℕ → Bool
is_capital_or_space byte = is_capital byte || byte == 32

-- words of capitals with one space between two, where the text before ends in a letter or not
abbrev pub words_go_on : Bool → List ℕ → Bool
words_go_on after_letter [] = after_letter
words_go_on after_letter (byte ∷ rest) =
    if is_capital byte then words_go_on true rest else after_letter && byte == 32 && words_go_on false rest

-- one or more words of capitals, with one space between two
abbrev pub is_words : List ℕ → Bool
is_words text = words_go_on false text
