-- Where bytes are no entry: the first field that is cut short or out of its rules, or the first byte too many.
use Rattle.std.specs.Prelude.{◌≡◌, ◌≢◌, ◌⊎◌, ◌+◌, ℕ, zero, suc, IsTrue, List, [], ◌∷◌, ◌++◌, length}
use Rattle.acl_stmt.specs.Entries.{are_limits_in_order}
use Rattle.acl_stmt.specs.Limits.{is_limit}
use Rattle.acl_stmt.specs.declared.limit.Limit.{Limit}
use Rattle.priv_sets.specs.declared.static_set.Static.{Static}
use Rattle.entry_bytes.specs.Spelling.{IsHost, IsNumber, IsSchema, IsUser, MayStand, number_bytes, privileges_bytes, schema_bytes, short_text, statement_bytes}

-- the bytes begin with no value that keeps the field's rules
abbrev pub NoneBegins : {A : Type 0} → (A → List ℕ) → (A → Type 0) → List ℕ → Type 0
NoneBegins {A = A} spelling Fits bytes = (value : A) (rest : List ℕ) → Fits value → bytes ≢ spelling value ++ rest

-- a field, and what comes after it: `bad` is what is left of the bytes, from the first fault on
abbrev pub FieldThen : {A : Type 0} → (A → List ℕ) → (A → Type 0) → (A → List ℕ → List ℕ → Type 0) → List ℕ → List ℕ → Type 0
FieldThen {A = A} spelling Fits After bytes bad =
    (NoneBegins spelling Fits bytes × (bad ≡ bytes))
    ⊎ ((value : A) × (rest : List ℕ) × Fits value × (bytes ≡ spelling value ++ rest) × After value rest bad)

-- no byte comes any more
abbrev pub End : List ℕ → List ℕ → Type 0
End bytes bad = (bytes ≢ []) × (bad ≡ bytes)

-- the statement, whose limits these are
abbrev pub StatementField : List Limit → List ℕ → List ℕ → Type 0
StatementField limits = FieldThen statement_bytes (MayStand limits) (λ statement. End)

-- one privilege or more, each with the schema level
abbrev pub Restricts : Static → Type 0
Restricts privileges = IsTrue (is_limit privileges)

-- the limit on these privileges whose schema comes after those of the earlier limits
pub record ComesNext (limits : List Limit) (privileges : Static) (limit : Limit) : Type 0 where
  pub on : limit.privileges ≡ privileges
  pub schema : IsSchema limit.schema
  pub behind : IsTrue (are_limits_in_order (limits ++ limit ∷ []))

-- so many limits more, behind these, and the statement
abbrev pub LimitFields : ℕ → List Limit → List ℕ → List ℕ → Type 0
LimitFields zero limits bytes bad = StatementField limits bytes bad
LimitFields (suc more) limits bytes bad =
    FieldThen privileges_bytes Restricts (λ privileges. FieldThen schema_bytes (ComesNext limits privileges) (λ limit. LimitFields more (limits ++ limit ∷ []))) bytes bad

-- the fields of an entry: caller, number, user, host, the number of limits, the limits, the statement
unfoldable pub EntryFields : List ℕ → List ℕ → Type 0
EntryFields bytes bad =
    FieldThen number_bytes IsNumber (λ caller.
    FieldThen number_bytes IsNumber (λ number.
    FieldThen short_text IsUser (λ user.
    FieldThen short_text IsHost (λ host.
    FieldThen number_bytes IsNumber (λ count. LimitFields count []))))) bytes bad

-- the offset of the first fault
abbrev pub IsBadAt : List ℕ → ℕ → Type 0
IsBadAt bytes offset = (bad : List ℕ) × EntryFields bytes bad × (length bytes ≡ offset + length bad)
