-- The one spelling of an entry: its fields in order, numbers with the least byte first.
use Rattle.std.specs.Prelude.{◌≡◌, ◌<◌, ◌^◌, ℕ, IsTrue, List, ◌++◌, length, None}
use Rattle.std.specs.Int.{to_le_bytes, w16, w32}
use Rattle.std.specs.List.{AllByRecursion, flat_map}
use Rattle.std.specs.Str.{IsUtf8}
use Rattle.acl_names.specs.Limits.{host_limit, ident_limit, user_limit}
use Rattle.acl_names.specs.Name.{IsLowerName, ident_fault, name_fault}
use Rattle.acl_stmt.specs.Entries.{is_complete, may_have_limits}
use Rattle.acl_stmt.specs.declared.entry.Entry.{Entry}
use Rattle.acl_stmt.specs.declared.limit.Limit.{Limit}
use Rattle.acl_stmt.specs.declared.statement.Statement.{Statement}
use Rattle.canonical_texts.specs.Statements.{canonical_text}
use Rattle.entry_codec.specs.ReadBack.{IsReadBack}
use Rattle.priv_sets.specs.StaticSet.{bits_of}
use Rattle.priv_sets.specs.declared.static_set.Static.{Static}

-- four bytes
unfoldable pub number_bytes : ℕ → List ℕ
number_bytes number = to_le_bytes w32 number

-- two bytes
unfoldable pub size_bytes : ℕ → List ℕ
size_bytes size = to_le_bytes w16 size

-- the length in two bytes, and the text
abbrev pub short_text : List ℕ → List ℕ
short_text text = size_bytes (length text) ++ text

-- the length in four bytes, and the text
abbrev pub long_text : List ℕ → List ℕ
long_text text = number_bytes (length text) ++ text

abbrev pub privileges_bytes : Static → List ℕ
privileges_bytes privileges = number_bytes (bits_of privileges)

abbrev pub schema_bytes : Limit → List ℕ
schema_bytes limit = short_text limit.schema

abbrev pub limit_bytes : Limit → List ℕ
limit_bytes limit = privileges_bytes limit.privileges ++ schema_bytes limit

abbrev pub statement_bytes : Statement → List ℕ
statement_bytes statement = long_text (canonical_text statement)

-- caller, number, user, host, the number of limits, the limits, the statement, and nothing else
unfoldable pub bytes_of : Entry → List ℕ
bytes_of entry =
    number_bytes entry.caller.0
    ++ (number_bytes entry.number
    ++ (short_text entry.by.user
    ++ (short_text entry.by.host
    ++ (number_bytes (length entry.limits)
    ++ (flat_map limit_bytes entry.limits
    ++ statement_bytes entry.statement)))))

abbrev pub IsNumber : ℕ → Type 0
IsNumber number = number < 2 ^ 32

pub record IsUser (user : List ℕ) : Type 0 where
  pub utf8 : IsUtf8 user
  pub within : name_fault user_limit user ≡ None

pub record IsHost (host : List ℕ) : Type 0 where
  pub utf8 : IsUtf8 host
  pub within : IsLowerName host_limit host

pub record IsSchema (schema : List ℕ) : Type 0 where
  pub utf8 : IsUtf8 schema
  pub within : ident_fault ident_limit schema ≡ None

-- the statement is what its canonical text is read as, and the length of that text fits four bytes
pub record HasText (statement : Statement) : Type 0 where
  pub utf8 : IsUtf8 (canonical_text statement)
  pub short : length (canonical_text statement) < 2 ^ 32
  pub read_back : IsReadBack (canonical_text statement) statement

-- the statement may stand beside these limits
pub record MayStand (limits : List Limit) (statement : Statement) : Type 0 where
  pub text : HasText statement
  pub complete : IsTrue (is_complete statement)
  pub limited : IsTrue (may_have_limits limits statement)

-- what an entry keeps for `bytes_of` to be the bytes from which it is read
pub record HasBytes (entry : Entry) : Type 0 where
  pub caller : IsNumber entry.caller.0
  pub number : IsNumber entry.number
  pub user : IsUser entry.by.user
  pub host : IsHost entry.by.host
  pub count : IsNumber (length entry.limits)
  pub schemas : AllByRecursion (λ limit. IsSchema limit.schema) entry.limits
  pub text : HasText entry.statement
