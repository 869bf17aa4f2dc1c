-- The verdict by the copies is the verdict over the states where they were read.
use Rattle.std.proofs.Common.{◌≡◌, ◌∙◌, ap, sym, refl, ℕ, Bool, true, false, ◌&&◌, ◌||◌, not, List, [], Option, Some, None, if◌then◌else◌}
use Rattle.std.proofs.Math.Bool.{or-false}
use Rattle.std.specs.List.{find}
use Rattle.std.specs.Option.{option_map}
use Rattle.acl_model.specs.Rights.{holds_globally, holds_on_column, holds_on_function, holds_on_procedure, holds_on_schema, holds_on_table}
use Rattle.acl_model.specs.State.{State}
use Rattle.acl_model.specs.Verdict.{Need, Reading, is_met, is_restricted_at_login, met_below, met_by_object, met_by_schema, missing_of, needs_of, schema_of, schema_reading, verdict_of}
use Rattle.acl_model.specs.declared.row.Row.{Row}
use Rattle.acl_model.specs.declared.row.Row.TheVariants.{Column, Function, Procedure, Schema, Table}
use Rattle.acl_names.specs.Text.{text_eq}
use Rattle.acl_stmt.specs.declared.privileges.PrivList.{PrivList}
use Rattle.acl_stmt.specs.declared.request.Request.{Request}
use Rattle.acl_stmt.specs.declared.target.Target.{Target}
use Rattle.acl_stmt.specs.declared.target.Target.TheVariants as on
use Rattle.copied_levels.proofs.Rights.{read_from_copies}
use Rattle.copied_levels.specs.Copied.{copied, readings_by, verdict_by}
use Rattle.legal_runs.specs.Rules.{IsActing, IsCheckAnswer, IsReading, Setting, verdict_answer}
use Rattle.legal_runs.specs.Sessions.{Views, Who}
use Rattle.priv_map.proofs.Agreement.{verdict_agrees}
use Rattle.priv_map.specs.Readings.{IsReadAt, reading_of}
use Rattle.priv_map.specs.declared.acting.Acting.{Acting}
use Rattle.priv_sets.specs.declared.privilege.Privilege.{Privilege}
use Rattle.priv_sets.specs.declared.privilege.Privilege.TheVariants.{Dynamic, Plain}

-- what all sources of a reading hold on schemas and below, as rows of each account
gathered_rows : Reading → Row → Bool
gathered_rows present (Schema account schema p) = holds_on_schema present.state present.sources schema p
gathered_rows present (Table account schema table p) = holds_on_table present.state present.sources schema table p
gathered_rows present (Column account schema table column p) = holds_on_column present.state present.sources schema table column p
gathered_rows present (Function account schema name p) = holds_on_function present.state present.sources schema name p
gathered_rows present (Procedure account schema name p) = holds_on_procedure present.state present.sources schema name p
gathered_rows present _ = false

gathered : Reading → State
gathered present = record { rows = gathered_rows present; account_data = λ account. None; mandatory = []; activate_all = false }

module _ (acting : Acting) (login used present : Reading) where
  -- the same reading now, by one account
  abbrev alone : Reading
  alone = reading_of (gathered present) acting

  same_object : (target : Target) (p : ℕ) (column : Option (ℕ × List ℕ)) → met_by_object alone target p column ≡ met_by_object present target p column
  unfolding gathered gathered_rows
  same_object on.Global p column = refl
  same_object (on.Schema schema) p column = refl
  same_object (on.Table schema table) p None = or-false (holds_on_table present.state present.sources schema table p)
  same_object (on.Table schema table) p (Some column) =
      ap (λ b. b || (holds_on_column present.state present.sources schema table column.1 p || false)) (or-false (holds_on_table present.state present.sources schema table p))
      ∙ ap (λ b. holds_on_table present.state present.sources schema table p || b) (or-false (holds_on_column present.state present.sources schema table column.1 p))
  same_object (on.Function schema name) p column = or-false (holds_on_function present.state present.sources schema name p)
  same_object (on.Procedure schema name) p column = or-false (holds_on_procedure present.state present.sources schema name p)

  same_here : (schema : List ℕ) (p : ℕ) → holds_on_schema alone.state alone.sources schema p ≡ holds_on_schema present.state present.sources schema p
  unfolding gathered gathered_rows
  same_here schema p = or-false (holds_on_schema present.state present.sources schema p)

  held_at : List ℕ → ℕ → Reading → Bool
  held_at schema p reading = holds_on_schema reading.state reading.sources schema p

  same_schema_reading : (current : Option (List ℕ)) (schema : List ℕ) (p : ℕ) →
      held_at schema p (schema_reading current schema used alone) ≡ held_at schema p (schema_reading current schema used present)
  unfolding held_at
  same_schema_reading None schema p = same_here schema p
  same_schema_reading (Some current) schema p = by (text_eq current schema)
    where
      by : (own : Bool) → held_at schema p (if own then used else alone) ≡ held_at schema p (if own then used else present)
      by true = refl
      by false = same_here schema p

  same_by_schema : (schema : Option (List ℕ)) (p : ℕ) →
      met_by_schema (readings_by login used alone acting) schema p ≡ met_by_schema (readings_by login used present acting) schema p
  unfolding held_at
  same_by_schema None p = refl
  same_by_schema (Some schema) p = same_schema_reading (readings_by login used alone acting).current schema p

  same_below : (target : Target) (privilege : Privilege) (column : Option (ℕ × List ℕ)) →
      met_below (readings_by login used alone acting) target privilege column ≡ met_below (readings_by login used present acting) target privilege column
  same_below target (Plain p) column =
      ap (λ b. b || met_by_object alone target p column) (same_by_schema (schema_of target) p)
      ∙ ap (λ b. met_by_schema (readings_by login used present acting) (schema_of target) p || b) (same_object target p column)
  same_below target (Dynamic d) column = refl

  same_met : (target : Target) (need : Need) → is_met (readings_by login used alone acting) target need ≡ is_met (readings_by login used present acting) target need
  unfolding is_met
  same_met target need =
      ap (λ b.
      (holds_globally login.state login.sources need.privilege && not (is_restricted_at_login (readings_by login used present acting) need.privilege (schema_of target))) || b)
      (same_below target need.privilege need.column)

  same_now : (privileges : PrivList) (target : Target) →
      verdict_of (readings_by login used alone acting) privileges target ≡ verdict_of (readings_by login used present acting) privileges target
  unfolding verdict_of
  same_now privileges target = λ i. option_map (missing_of (readings_by login used present acting) target) (find (λ need. not (same_met target need i)) (needs_of privileges target))

pub same_verdict : (acting : Acting) (login used present : Reading) (request : Request) → IsReadAt acting login used →
    verdict_by acting present request.privileges request.target ≡ verdict_of (readings_by login used present acting) request.privileges request.target
same_verdict acting login used present request read =
    sym (same_now acting (copied acting) (copied acting) present request.privileges request.target)
    ∙ sym (verdict_agrees acting (copied acting) (copied acting) (gathered present) (read_from_copies acting login used read) request)
    ∙ verdict_agrees acting login used (gathered present) read request
    ∙ same_now acting login used present request.privileges request.target

pub answered_by_copies : (on : Setting) (at : Views) (who : Who) (acting : Acting) (present : Reading) (request : Request) →
    IsActing on who at.level at.schema acting → IsReading on who at.present present →
    IsCheckAnswer on at who request.privileges request.target (verdict_answer (verdict_by acting present request.privileges request.target))
answered_by_copies on at who acting present request acts now = record {
  readings = readings_by acts.at_login acts.at_use present acting;
  are_read = record { login_is = acts.login_is; use_is = acts.use_is; present_is = now; current_is = acts.current_is };
  answer_is = ap verdict_answer (same_verdict acting acts.at_login acts.at_use present request acts.is_read);
}
