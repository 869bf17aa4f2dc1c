-- What a session's copies of its levels say, as rows of its account alone, and the check of a request by them (MySQL 8.0 Reference
-- Manual, "When Privilege Changes Take Effect").
use Rattle.std.specs.Prelude.{ℕ, Bool, false, ◌&&◌, List, [], ◌∷◌, Option, Some, None}
use Rattle.acl_model.specs.Verdict.{Reading, Readings, verdict_of}
use Rattle.acl_model.specs.Words.{limited}
use Rattle.acl_model.specs.declared.row.Row.{Row}
use Rattle.acl_model.specs.declared.row.Row.TheVariants.{Dynamic as DynamicRow, DynamicGrant, Global, Restriction, Schema}
use Rattle.acl_names.specs.AuthId.{same_auth}
use Rattle.acl_names.specs.Text.{text_eq}
use Rattle.acl_stmt.specs.declared.privileges.PrivList.{PrivList}
use Rattle.acl_stmt.specs.declared.refusal.Missing.{Missing}
use Rattle.acl_stmt.specs.declared.target.Target.{Target}
use Rattle.priv_map.specs.Readings.{current_of}
use Rattle.priv_map.specs.declared.acting.Acting.{Acting}
use Rattle.priv_map.specs.declared.schema_held.SchemaHeld.{SchemaHeld}
use Rattle.priv_sets.specs.DynamicSet.{grants_dynamic, holds_dynamic}
use Rattle.priv_sets.specs.StaticSet.{holds}

-- held on the schema by the copy of the current one
abbrev pub is_masked : Option SchemaHeld → List ℕ → ℕ → Bool
is_masked None schema p = false
is_masked (Some held) schema p = text_eq held.schema schema && holds held.mask p

-- the rows that say what the copies say
abbrev pub copied_rows : Acting → Row → Bool
copied_rows acting (Global account p) = same_auth account acting.account && holds acting.held.plain p
copied_rows acting (DynamicRow account d) = same_auth account acting.account && holds_dynamic acting.held.dynamic d
copied_rows acting (DynamicGrant account d) = same_auth account acting.account && grants_dynamic acting.held.dynamic d
copied_rows acting (Restriction account p schema) = same_auth account acting.account && limited acting.held.restrictions schema p
copied_rows acting (Schema account schema p) = same_auth account acting.account && is_masked acting.current schema p
copied_rows acting _ = false

-- the copies as a state that was read by the account alone
abbrev pub copied : Acting → Reading
copied acting = record {
  state = record { rows = copied_rows acting; account_data = λ account. None; mandatory = []; activate_all = false };
  sources = acting.account ∷ [];
}

abbrev pub readings_by : Reading → Reading → Reading → Acting → Readings
readings_by login used present acting = record { at_login = login; at_use = used; at_present = present; current = current_of acting }

-- the verdict of an acting: its copies where it has some, and everything else as it is read now
abbrev pub verdict_by : Acting → Reading → PrivList → Target → Option Missing
verdict_by acting present privileges target = verdict_of (readings_by (copied acting) (copied acting) present acting) privileges target
