-- What a session has read, and in which states (MySQL 8.0 Reference Manual, "When Privilege Changes Take Effect").
use Rattle.std.specs.Prelude.{ℕ, ◌≡◌, ◌≤◌, List, Some, length, take}
use Rattle.acl_model.specs.Effects.{state_after}
use Rattle.acl_model.specs.State.{opening}
use Rattle.acl_model.specs.Verdict.{Reading, Readings}
use Rattle.acl_stmt.specs.declared.entry.Entry.{Entry}
use Rattle.line_answers.specs.declared.points.Points.{Points}
use Rattle.priv_map.specs.Readings.{IsReadAt, current_of, reading_of, readings_of}
use Rattle.priv_map.specs.declared.acting.Acting.{Acting}
use Rattle.session_check.specs.declared.session.SessionState.{SessionState}

abbrev pub acting_of : SessionState → Acting
acting_of session = session.acting

abbrev pub points_of : SessionState → Points
points_of session = session.points

-- what the session reads after these statements
abbrev pub read_after : SessionState → List Entry → Reading
read_after session entries = reading_of (state_after entries opening) (acting_of session)

-- the state of the last reading of the global level
abbrev pub login_reading : SessionState → List Entry → Reading
login_reading session entries = read_after session (take (points_of session).global entries)

-- the state of the last reading of the current schema
abbrev pub schema_reading : SessionState → List Entry → Reading
schema_reading session entries = read_after session (take (points_of session).schema entries)

-- the session's copies are what it would read after its first statements
pub record StandsFor (session : SessionState) (entries : List Entry) : Type 0 where
  pub global : (points_of session).global ≤ length entries
  pub schema : (points_of session).schema ≤ length entries
  pub read : IsReadAt (acting_of session) (login_reading session entries) (schema_reading session entries)

-- the three states of a check, where these statements are accepted by now
abbrev pub readings_after : SessionState → List Entry → Readings
readings_after session entries = readings_of (login_reading session entries) (schema_reading session entries) (state_after entries opening) (acting_of session)

-- the schema is the current one, read after so many statements, and the rest is as it was
pub record UsesSchema (old new : SessionState) (schema : List ℕ) (position : ℕ) : Type 0 where
  pub current : current_of (acting_of new) ≡ Some schema
  pub points : points_of new ≡ record { global = (points_of old).global; schema = position }
  pub account : (acting_of new).account ≡ (acting_of old).account
  pub roles : (acting_of new).roles ≡ (acting_of old).roles
  pub held : (acting_of new).held ≡ (acting_of old).held
