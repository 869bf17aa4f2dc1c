-- The names of privileges, as GRANT and REVOKE spell them (MySQL 8.0 Reference Manual, "Privileges Provided by MySQL").
use Rattle.std.specs.Prelude.{◌≡◌, ℕ, zero, suc, List, [], ◌∷◌, Option, codes, find, map, unwrap_or, refl}
use Rattle.std.specs.Str.{str_eq_ignore_ascii_case}
use Rattle.grant_words.specs.Classes.{Class, word}
use Rattle.grant_words.specs.Classes.Class.{keyword}
use Rattle.grant_words.specs.Syntax.{Syntax}
use Rattle.grant_words.specs.Syntax.Syntax.{token, after, empty, choice}
use Rattle.priv_sets.specs.DynamicNames.{dynamic_name, dynamic_names}
use Rattle.priv_sets.specs.PlainNames.{plain_name, plain_names}

-- the first of these numbers whose name is the text, in any ASCII case
abbrev pub named_among : (ℕ → List ℕ) → List ℕ → List ℕ → Option ℕ
named_among name numbers text = find (λ number. str_eq_ignore_ascii_case (name number) text) numbers

-- the static privileges whose names are one word, with which no longer name begins
unfoldable pub lone_numbers : List ℕ
lone_numbers = 0 ∷ 1 ∷ 2 ∷ 3 ∷ 6 ∷ 7 ∷ 8 ∷ 9 ∷ 10 ∷ 11 ∷ 14 ∷ 17 ∷ 25 ∷ 26 ∷ []

example-lone_names : map plain_name lone_numbers ≡
    codes "SELECT" ∷ codes "INSERT" ∷ codes "UPDATE" ∷ codes "DELETE" ∷ codes "RELOAD" ∷ codes "SHUTDOWN" ∷ codes "PROCESS" ∷
    codes "FILE" ∷ codes "REFERENCES" ∷ codes "INDEX" ∷ codes "SUPER" ∷ codes "EXECUTE" ∷ codes "EVENT" ∷ codes "TRIGGER" ∷ []
unfolding plain_names lone_numbers
example-lone_names = refl

abbrev pub lone_class : Class
lone_class = keyword (map plain_name lone_numbers)

abbrev pub lone_number : List ℕ → ℕ
lone_number text = unwrap_or (named_among plain_name lone_numbers text) 0

-- CREATE, CREATE USER, CREATE TABLESPACE or CREATE ROLE
unfoldable pub create_others : Syntax ℕ
create_others =
    choice (after (word (codes "USER")) (empty 24))
    (choice (after (word (codes "TABLESPACE")) (empty 27)) (choice (after (word (codes "ROLE")) (empty 28)) (empty 4)))

-- CREATE, or a longer name that begins with it
unfoldable pub create_names : Syntax ℕ
create_names =
    choice (after (word (codes "TEMPORARY")) (after (word (codes "TABLES")) (empty 15)))
    (choice (after (word (codes "VIEW")) (empty 20)) (choice (after (word (codes "ROUTINE")) (empty 22)) create_others))

-- ALTER or ALTER ROUTINE
unfoldable pub alter_names : Syntax ℕ
alter_names = choice (after (word (codes "ROUTINE")) (empty 23)) (empty 12)

-- DROP or DROP ROLE
unfoldable pub drop_names : Syntax ℕ
drop_names = choice (after (word (codes "ROLE")) (empty 29)) (empty 5)

-- SHOW DATABASES or SHOW VIEW
unfoldable pub show_names : Syntax ℕ
show_names = choice (after (word (codes "DATABASES")) (empty 13)) (after (word (codes "VIEW")) (empty 21))

-- REPLICATION SLAVE or REPLICATION CLIENT
unfoldable pub replication_names : Syntax ℕ
replication_names = choice (after (word (codes "SLAVE")) (empty 18)) (after (word (codes "CLIENT")) (empty 19))

-- SHOW DATABASES, SHOW VIEW, LOCK TABLES, REPLICATION SLAVE, REPLICATION CLIENT, or a name of one word
unfoldable pub other_name : Syntax ℕ
other_name =
    choice (after (word (codes "SHOW")) show_names)
    (choice (after (word (codes "LOCK")) (after (word (codes "TABLES")) (empty 16)))
    (choice (after (word (codes "REPLICATION")) replication_names) (token lone_class lone_number)))

-- the name of a static privilege, the longest that fits
unfoldable pub static_name : Syntax ℕ
static_name =
    choice (after (word (codes "CREATE")) create_names)
    (choice (after (word (codes "ALTER")) alter_names) (choice (after (word (codes "DROP")) drop_names) other_name))

-- this many numbers from one on
abbrev pub numbers_from : ℕ → ℕ → List ℕ
numbers_from first zero = []
numbers_from first (suc count) = first ∷ numbers_from (suc first) count

unfoldable pub dynamic_numbers : List ℕ
dynamic_numbers = numbers_from 0 20

example-dynamic_names : map dynamic_name dynamic_numbers ≡ dynamic_names
unfolding dynamic_names dynamic_numbers
example-dynamic_names = refl

abbrev pub dynamic_class : Class
dynamic_class = keyword (map dynamic_name dynamic_numbers)

abbrev pub dynamic_number : List ℕ → ℕ
dynamic_number text = unwrap_or (named_among dynamic_name dynamic_numbers text) 0
