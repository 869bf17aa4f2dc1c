-- The accepted statements of a log (MySQL 8.0 Reference Manual, "Account Management Statements", "Privilege Restriction Using
-- Partial Revokes").
use Rattle.std.specs.Prelude.{◌≡◌, ℕ, Bool, true, false, ◌-◌, ◌^◌, List, [], ◌∷◌, ◌++◌, Option, Some, None, Ok, bit_and, if◌then◌else◌, refl}
use Rattle.std.specs.List.{flat_map}
use Rattle.acl_names.specs.declared.auth.AuthId.{AuthId}
use Rattle.acl_stmt.specs.Entries.{is_entry}
use Rattle.acl_stmt.specs.Limits.{is_limit}
use Rattle.acl_stmt.specs.declared.entry.Entry.{Entry}
use Rattle.acl_stmt.specs.declared.limit.Limit.{Limit}
use Rattle.acl_stmt.specs.declared.privileges.PrivList.{PrivList}
use Rattle.acl_stmt.specs.declared.statement.Statement.{Statement}
use Rattle.acl_stmt.specs.declared.statement.Statement.TheVariants.{Grant}
use Rattle.acl_stmt.specs.declared.target.Target.TheVariants.{Global}
use Rattle.book_log.specs.Items.{Call, Item, Reply}
use Rattle.book_log.specs.Items.Call.{Asks}
use Rattle.book_log.specs.Items.Reply.{ToStatement}
use Rattle.book_log.specs.Rules.{Rules}
use Rattle.priv_map.specs.declared.acting.Acting.{Acting}
use Rattle.priv_sets.specs.Levels.{grant_option}
use Rattle.priv_sets.specs.StaticSet.{bits_of}
use Rattle.priv_sets.specs.declared.static_set.Static.{Static}

-- GRANT OPTION has the greatest number of all, so these are the bits of each other static privilege
abbrev pub below_grant_option : ℕ
below_grant_option = 2 ^ grant_option - 1

-- the static privileges that a grant on `*.*` names: ALL is each one but GRANT OPTION
abbrev pub granted_bits : PrivList → ℕ
granted_bits privileges = if privileges.all then below_grant_option else bits_of privileges.plain

-- those of them that are restricted
abbrev pub in_common : PrivList → Static → Static
in_common privileges restricted = record { 0 = bit_and (bits_of restricted) (granted_bits privileges) }

-- the limit on a schema, where there are privileges for one
abbrev pub limit_if : List ℕ → (privileges : Static) (lawful : Bool) → is_limit privileges ≡ lawful → List Limit
limit_if schema privileges true lawful = record { schema = schema; privileges = privileges; restricts = lawful } ∷ []
limit_if schema privileges false lawful = []

-- what a grant on `*.*` hands on of one restriction of the grantor
abbrev pub handed_on : PrivList → Limit → List Limit
handed_on privileges restriction =
    limit_if restriction.schema (in_common privileges restriction.privileges) (is_limit (in_common privileges restriction.privileges)) refl

-- the limits of a statement: a grant on `*.*` hands on the restrictions of the grantor's own global level
abbrev pub limits_of : Acting → Statement → List Limit
limits_of acting (Grant privileges Global accounts with_grant_option) = flat_map (handed_on privileges) acting.held.restrictions
limits_of acting _ = []

-- the limits under these rules
abbrev pub limits_by : Bool → Acting → Statement → List Limit
limits_by true acting statement = limits_of acting statement
limits_by false acting statement = []

abbrev pub entry_if : ℕ → ℕ → AuthId → (limits : List Limit) (statement : Statement) (lawful : Bool) → is_entry limits statement ≡ lawful → Option Entry
entry_if caller number by limits statement true lawful = Some (record {
  caller = record { 0 = caller };
  number = number;
  by = by;
  limits = limits;
  statement = statement;
  legal = lawful;
})
entry_if caller number by limits statement false lawful = None

-- what a statement is accepted as; none for one that no history may hold
abbrev pub entry_of : Rules → ℕ → ℕ → Acting → Statement → Option Entry
entry_of rules caller number acting statement =
    entry_if caller number acting.account (limits_by rules.hands_on acting statement) statement (is_entry (limits_by rules.hands_on acting statement) statement) refl

abbrev pub some_entry : Option Entry → List Entry
some_entry None = []
some_entry (Some entry) = entry ∷ []

-- the statement of a call, where it was accepted
abbrev pub stored : Rules → ℕ → ℕ → Call → Reply → List Entry
stored rules caller number (Asks acting statement) (ToStatement (Ok position)) = some_entry (entry_of rules caller number acting statement)
stored rules caller number _ _ = []

abbrev pub accepted_in : Rules → Item → List Entry
accepted_in rules item = stored rules item.caller item.number item.call item.reply

-- the statements that were there before the log, and those that it says were accepted
unfoldable pub history : Rules → List Entry → List Item → List Entry
history rules base log = base ++ flat_map (accepted_in rules) log
