-- The words that are keywords of account statements everywhere, and so no name without quotes.
-- MySQL 8.0 Reference Manual, "Keywords and Reserved Words".
use Rattle.std.specs.Prelude.{◌≡◌, ℕ, Bool, true, false, List, [], ◌∷◌, codes, refl}
use Rattle.std.specs.List.{list_any}
use Rattle.std.specs.Str.{str_eq_ignore_ascii_case}

-- in capitals, by bytes
unfoldable pub reserved_words : List (List ℕ)
reserved_words =
    codes "ALL" ∷ codes "ALTER" ∷ codes "CREATE" ∷ codes "DEFAULT" ∷ codes "DELETE" ∷ codes "DROP" ∷ codes "EXCEPT" ∷ codes "EXISTS" ∷
    codes "FOR" ∷ codes "FROM" ∷ codes "FUNCTION" ∷ codes "GRANT" ∷ codes "IF" ∷ codes "INDEX" ∷ codes "INSERT" ∷ codes "LOCK" ∷
    codes "NONE" ∷ codes "NOT" ∷ codes "ON" ∷ codes "PROCEDURE" ∷ codes "REFERENCES" ∷ codes "REVOKE" ∷ codes "SELECT" ∷ codes "SET" ∷
    codes "TABLE" ∷ codes "TO" ∷ codes "TRIGGER" ∷ codes "UPDATE" ∷ codes "USAGE" ∷ codes "USING" ∷ codes "WITH" ∷ []

-- one of them, in upper or lower ASCII case or in both
abbrev pub is_reserved : List ℕ → Bool
is_reserved word = list_any (λ name. str_eq_ignore_ascii_case name word) reserved_words

example-reserved : is_reserved (codes "to") ≡ true
unfolding reserved_words
example-reserved = refl

example-mixed : is_reserved (codes "Usage") ≡ true
unfolding reserved_words
example-mixed = refl

example-free : is_reserved (codes "user") ≡ false
unfolding reserved_words
example-free = refl

example-longer : is_reserved (codes "tos") ≡ false
unfolding reserved_words
example-longer = refl
