-- What a session is, and what it makes of a line (MySQL 8.0 Reference Manual, "When Privilege Changes Take Effect").
use Rattle.std.specs.Prelude.{ℕ, max, List, [], ◌∷◌, Option, Some, None, Ok, take}
use Rattle.acl_names.specs.declared.auth.AuthId.{AuthId}
use Rattle.acl_stmt.specs.declared.entry.Entry.{Entry}
use Rattle.book_log.specs.Items.{Item, Login, Reply}
use Rattle.book_log.specs.Items.Reply.{ToLogin}
use Rattle.legal_runs.specs.Commands.{Answer, Command}
use Rattle.legal_runs.specs.Commands.Answer.{Bye, Roles, Schema}
use Rattle.legal_runs.specs.Commands.Command.{Connect, Disconnect, SetRole, UseSchema}

-- whom a connected session acts for
pub record Who : Type 0 where
  pub account : AuthId
  pub roles : List AuthId
  pub current : Option (List ℕ)

-- a session: its connection, how many statements it knew when it read its global level and its current schema, and how many
-- it knows
pub record Session : Type 0 where
  pub who : Option Who
  pub global : ℕ
  pub schema : ℕ
  pub now : ℕ

abbrev pub fresh : Session
fresh = record { who = None; global = 0; schema = 0; now = 0 }

-- what happens in the course of a line
pub data Part : Type 0 where
  -- a statement or a login was handed in and answered
  Called : Item → Part
  -- so many statements were seen as published
  Saw : ℕ → Part
  -- the session was told that so many are published
  Heard : ℕ → Part

-- how many statements the session knows after these
abbrev pub now_after : ℕ → List Part → ℕ
now_after now [] = now
now_after now (Called item ∷ parts) = now_after now parts
now_after now (Saw seen ∷ parts) = now_after seen parts
now_after now (Heard told ∷ parts) = now_after (max now told) parts

abbrev pub calls_in : List Part → List Item
calls_in [] = []
calls_in (Called item ∷ parts) = item ∷ calls_in parts
calls_in (Saw seen ∷ parts) = calls_in parts
calls_in (Heard told ∷ parts) = calls_in parts

abbrev pub login_by : Reply → Option Login
login_by (ToLogin (Ok login)) = Some login
login_by _ = None

abbrev pub login_in : List Item → Option Login
login_in [] = None
login_in (item ∷ items) = login_by item.reply

-- the accepted statements that a line reads: those known when the global level was read, when the current schema was, and now
pub record Views : Type 0 where
  pub level : List Entry
  pub schema : List Entry
  pub present : List Entry

abbrev pub views : List Entry → Session → List Part → Views
views entries session parts = record {
  level = take session.global entries;
  schema = take session.schema entries;
  present = take (now_after session.now parts) entries;
}

abbrev pub seen_to : ℕ → Session → Session
seen_to now session = record { who = session.who; global = session.global; schema = session.schema; now = now }

abbrev pub without : ℕ → Session → Session
without now session = record { who = None; global = session.global; schema = session.schema; now = now }

abbrev pub after_connect : ℕ → Option Login → Session → Session
after_connect now (Some login) session = record {
  who = Some (record { account = login.acting.account; roles = login.acting.roles; current = None });
  global = login.position;
  schema = login.position;
  now = now;
}
after_connect now None session = without now session

abbrev pub with_schema : List ℕ → Option Who → Option Who
with_schema schema (Some who) = Some (record { account = who.account; roles = who.roles; current = Some schema })
with_schema schema None = None

abbrev pub with_roles : List AuthId → Option Who → Option Who
with_roles roles (Some who) = Some (record { account = who.account; roles = roles; current = who.current })
with_roles roles None = None

abbrev pub after_disconnect : ℕ → Answer → Session → Session
after_disconnect now Bye session = without now session
after_disconnect now _ session = seen_to now session

-- the schema is read anew
abbrev pub after_use : ℕ → Answer → Session → Session
after_use now (Schema schema) session = record { who = with_schema schema session.who; global = session.global; schema = now; now = now }
after_use now _ session = seen_to now session

-- the global level and the schema are read anew
abbrev pub after_roles : ℕ → Answer → Session → Session
after_roles now (Roles roles) session = record { who = with_roles roles session.who; global = now; schema = now; now = now }
after_roles now _ session = seen_to now session

abbrev pub after_command : Command → ℕ → List Item → Answer → Session → Session
after_command (Connect knock) now items answer session = after_connect now (login_in items) session
after_command Disconnect now items answer session = after_disconnect now answer session
after_command (UseSchema schema) now items answer session = after_use now answer session
after_command (SetRole form) now items answer session = after_roles now answer session
after_command _ now items answer session = seen_to now session

-- a session after a line with these parts and this answer
unfoldable pub after_line : Command → List Part → Answer → Session → Session
after_line command parts answer session = after_command command (now_after session.now parts) (calls_in parts) answer session
