-- The tokens of the parts of statements, each with the blanks before it.
use Rattle.std.specs.Prelude.{ℕ, Bool, true, false, ◌==◌, if◌then◌else◌, List, [], ◌∷◌, ◌++◌, map, Option, Some, None, codes, decimal}
use Rattle.std.specs.List.{flat_map}
use Rattle.acl_names.specs.Quoted.{quoted}
use Rattle.acl_names.specs.declared.auth.AuthId.{AuthId}
use Rattle.acl_names.specs.declared.policy.LockTime.{LockTime}
use Rattle.acl_names.specs.declared.policy.LockTime.TheVariants.{Days, Unbounded}
use Rattle.acl_names.specs.declared.policy.Verifier.{Verifier}
use Rattle.acl_stmt.specs.declared.columns.ColumnPriv.{ColumnPriv}
use Rattle.acl_stmt.specs.declared.options.AccountOptions.{AccountOptions}
use Rattle.acl_stmt.specs.declared.privileges.PrivList.{PrivList}
use Rattle.acl_stmt.specs.declared.target.Target.{Target}
use Rattle.acl_stmt.specs.declared.target.Target.TheVariants as on
use Rattle.grant_lex.specs.Printed.{Printed}
use Rattle.grant_lex.specs.declared.sorts.Kind.TheVariants.{Word, Quoted, Backquoted, Mark}
use Rattle.hex.specs.Hex.{encode_lower}
use Rattle.priv_items.specs.Canonical.{PerItem, listed_by}
use Rattle.priv_items.specs.Escapes.{escaped}
use Rattle.priv_sets.specs.DynamicNames.{dynamic_name}
use Rattle.priv_sets.specs.PlainNames.{plain_name}

-- a word with a space before it
abbrev pub word : List ℕ → Printed
word text = record { blanks = codes " "; kind = Word; text = text }

-- the word that a statement begins with
abbrev pub opening_word : List ℕ → Printed
opening_word text = record { blanks = []; kind = Word; text = text }

abbrev pub mark : ℕ → Printed
mark b = record { blanks = []; kind = Mark b; text = b ∷ [] }

abbrev pub spaced_mark : ℕ → Printed
spaced_mark b = record { blanks = codes " "; kind = Mark b; text = b ∷ [] }

-- a name between backquotes, right behind what stands before it
abbrev pub name : List ℕ → Printed
name text = record { blanks = []; kind = Backquoted; text = quoted text }

abbrev pub spaced_name : List ℕ → Printed
spaced_name text = record { blanks = codes " "; kind = Backquoted; text = quoted text }

-- what stands between single quotes, these with it
abbrev pub string : List ℕ → Printed
string text = record { blanks = codes " "; kind = Quoted; text = text }

abbrev pub byte_onto : ℕ → List (List ℕ) → List (List ℕ)
byte_onto b [] = (b ∷ []) ∷ []
byte_onto b (part ∷ parts) = (b ∷ part) ∷ parts

-- the parts of a text between its spaces
abbrev pub parts_of : List ℕ → List (List ℕ)
parts_of [] = [] ∷ []
parts_of (b ∷ bs) = if b == 32 then [] ∷ parts_of bs else byte_onto b (parts_of bs)

-- the words of a text, with a space before each
unfoldable pub words_of : List ℕ → List Printed
words_of text = map word (parts_of text)

abbrev pub tokens_if : Bool → List Printed → List Printed
tokens_if test tokens = if test then tokens else []

-- the members with commas, of code 44, between them
abbrev pub list_tokens : {A : Type 0} → (A → List Printed) → List A → List Printed
list_tokens print [] = []
list_tokens print (first ∷ others) = print first ++ flat_map (λ other. mark 44 ∷ print other) others

-- `@` has the code 64
abbrev pub account_tokens : AuthId → List Printed
account_tokens account = spaced_name account.user ∷ mark 64 ∷ name account.host ∷ []

abbrev pub accounts_tokens : List AuthId → List Printed
accounts_tokens accounts = list_tokens account_tokens accounts

abbrev pub digits_token : Verifier → Printed
digits_token verifier = string (codes "'" ++ (encode_lower verifier.0 ++ codes "'"))

abbrev pub password_tokens : Verifier → List Printed
password_tokens verifier = words_of (codes "IDENTIFIED BY VERIFIER") ++ digits_token verifier ∷ []

abbrev pub new_tokens : AuthId × Verifier → List Printed
new_tokens (account, verifier) = account_tokens account ++ password_tokens verifier

abbrev pub altered_tokens : AuthId × Option Verifier → List Printed
altered_tokens (account, None) = account_tokens account
altered_tokens (account, Some verifier) = account_tokens account ++ password_tokens verifier

abbrev pub renamed_tokens : AuthId × AuthId → List Printed
renamed_tokens (old, new_name) = account_tokens old ++ word (codes "TO") ∷ account_tokens new_name

abbrev pub attempts_tokens : Option ℕ → List Printed
attempts_tokens None = []
attempts_tokens (Some attempts) = word (codes "FAILED_LOGIN_ATTEMPTS") ∷ word (decimal attempts) ∷ []

abbrev pub days_tokens : Option LockTime → List Printed
days_tokens None = []
days_tokens (Some (Days days)) = word (codes "PASSWORD_LOCK_TIME") ∷ word (decimal days) ∷ []
days_tokens (Some Unbounded) = words_of (codes "PASSWORD_LOCK_TIME UNBOUNDED")

abbrev pub locked_tokens : Option Bool → List Printed
locked_tokens None = []
locked_tokens (Some true) = words_of (codes "ACCOUNT LOCK")
locked_tokens (Some false) = words_of (codes "ACCOUNT UNLOCK")

abbrev pub options_tokens : AccountOptions → List Printed
options_tokens options = attempts_tokens options.attempts ++ (days_tokens options.days ++ locked_tokens options.locked)

-- `.` has the code 46, and `*` the code 42
abbrev pub target_tokens : Target → List Printed
target_tokens on.Global = spaced_mark 42 ∷ mark 46 ∷ mark 42 ∷ []
target_tokens (on.Schema schema) = spaced_name (escaped schema) ∷ mark 46 ∷ mark 42 ∷ []
target_tokens (on.Table schema table) = spaced_name schema ∷ mark 46 ∷ name table ∷ []
target_tokens (on.Function schema routine) = word (codes "FUNCTION") ∷ spaced_name schema ∷ mark 46 ∷ name routine ∷ []
target_tokens (on.Procedure schema routine) = word (codes "PROCEDURE") ∷ spaced_name schema ∷ mark 46 ∷ name routine ∷ []

-- the columns in parentheses, of codes 40 and 41
abbrev pub column_tokens : List (List ℕ) → List Printed
column_tokens [] = mark 41 ∷ []
column_tokens (first ∷ others) = spaced_mark 40 ∷ name first ∷ (flat_map (λ other. mark 44 ∷ spaced_name other ∷ []) others ++ mark 41 ∷ [])

abbrev pub columns_item_tokens : ColumnPriv → List Printed
columns_item_tokens columns = words_of (plain_name columns.privilege) ++ column_tokens columns.names

abbrev pub item_tokens : PerItem (List Printed)
item_tokens = record {
  plain = λ number. words_of (plain_name number);
  columns = columns_item_tokens;
  dynamic = λ number. words_of (dynamic_name number);
  usage = word (codes "USAGE") ∷ [];
}

abbrev pub same_tokens : List Printed → List Printed
same_tokens tokens = tokens

abbrev pub privileges_tokens : PrivList → List Printed
privileges_tokens privileges =
    if privileges.all then word (codes "ALL") ∷ [] else list_tokens same_tokens (listed_by item_tokens privileges)
