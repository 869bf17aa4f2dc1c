-- What a line makes of what is stored of its session.
use Rattle.std.proofs.Common.{◌≡◌, ◌∙◌, ap, sym, subst, ℕ, inl, inr, List, [], ◌∷◌, length, Option, None, Some, refl, append-nil, arith}
use Rattle.std.proofs.Math.Seq.{take-length}
use Rattle.std.specs.Option.{option_map}
use Rattle.acl_model.specs.Effects.{state_after}
use Rattle.acl_model.specs.State.{opening}
use Rattle.acl_model.specs.Verdict.{verdict_of}
use Rattle.acl_stmt.specs.declared.entry.Entry.{Entry}
use Rattle.acl_stmt.specs.declared.privileges.PrivList.{PrivList}
use Rattle.acl_stmt.specs.declared.refusal.Missing.{Missing}
use Rattle.acl_stmt.specs.declared.target.Target.{Target}
use Rattle.legal_runs.specs.Commands.{Answer as answer}
use Rattle.legal_runs.specs.Commands.Command.{Check, Disconnect, UseSchema}
use Rattle.legal_runs.specs.Lines.{IsAnsweredAs, IsWhole}
use Rattle.legal_runs.specs.Rules.{IsCheckAnswer, verdict_answer}
use Rattle.legal_runs.specs.Sessions.{Part, Who, after_line, views, with_schema}
use Rattle.legal_runs.specs.Sessions.Part.{Saw}
use Rattle.line_answers.specs.declared.answer.Answer.{Answer as ToldAnswer}
use Rattle.line_answers.specs.declared.answer.Answer.TheVariants.{Bye, Schema, Refused}
use Rattle.line_answers.specs.declared.answer.LineRefusal.TheVariants.{NoMemory, NotConnected}
use Rattle.line_answers.specs.declared.points.Points.{Points}
use Rattle.serial_runs.specs.Serial.Doing.{Looks}
use Rattle.session_check.specs.Session.{StandsFor, UsesSchema, acting_of, points_of, readings_after}
use Rattle.session_check.specs.declared.session.SessionState.{SessionState}
use Rattle.session_rules.specs.Answers.{told_answer}
use Rattle.session_rules.specs.Setting.{serial_setting}
use Rattle.script_run.proofs.Lines.{alone, does_nothing, gives_up, login_read, schema_read, sound_of, state_as}
use Rattle.script_run.specs.Denials.{verdict_told}
use Rattle.script_run.specs.Seats.{IsSound, IsSoundState, OnlyAnswers, session_in, who_of}
use Rattle.script_run.specs.declared.seat.Seat.{Seat}

-- ---- DISCONNECT

pub not_connected : (entries : List Entry) (old : Seat) → old.state ≡ None → IsSound old entries → OnlyAnswers entries old old Disconnect (Refused NotConnected)
unfolding IsWhole after_line
not_connected entries old none sound = λ caller.
    does_nothing entries caller old old Disconnect answer.NotConnected (Refused NotConnected)
    (inl (subst (λ o. IsAnsweredAs serial_setting (views entries (session_in old) []) (option_map who_of o) Disconnect [] answer.NotConnected) (sym none) (refl, refl)))
    refl refl refl sound

pub disconnects : (entries : List Entry) (old : Seat) (st : SessionState) → old.state ≡ Some st → IsSound old entries →
    OnlyAnswers entries old (record { state = None; points = old.points; seen = old.seen; calls = old.calls }) Disconnect Bye
unfolding IsWhole after_line
disconnects entries old st is sound = λ caller.
    does_nothing entries caller old (record { state = None; points = old.points; seen = old.seen; calls = old.calls }) Disconnect answer.Bye Bye
    (inl (subst (λ o. IsAnsweredAs serial_setting (views entries (session_in old) []) (option_map who_of o) Disconnect [] answer.Bye) (sym is) (refl, refl)))
    refl refl refl (record { state = tt; seen = sound.seen })

-- ---- USE

pub not_connected_use : (entries : List Entry) (old : Seat) (schema : List ℕ) → old.state ≡ None → IsSound old entries →
    OnlyAnswers entries old old (UseSchema schema) (Refused NotConnected)
unfolding IsWhole after_line
not_connected_use entries old schema none sound = λ caller.
    does_nothing entries caller old old (UseSchema schema) answer.NotConnected (Refused NotConnected)
    (inl (subst (λ o. IsAnsweredAs serial_setting (views entries (session_in old) []) (option_map who_of o) (UseSchema schema) [] answer.NotConnected) (sym none) (refl, refl)))
    refl refl refl sound

pub no_memory_use : (entries : List Entry) (old new : Seat) (schema : List ℕ) → new ≡ old → IsSound old entries →
    OnlyAnswers entries old new (UseSchema schema) (Refused NoMemory)
unfolding IsWhole after_line
no_memory_use entries old new schema same sound = λ caller.
    does_nothing entries caller old new (UseSchema schema) answer.NoMemory (Refused NoMemory) (inr (gives_up (session_in old).who (UseSchema schema)))
    refl (ap session_in same) (ap (λ (seat : Seat). seat.calls) same) (subst (λ seat. IsSound seat entries) (sym same) sound)

pub uses : (entries : List Entry) (old : Seat) (st after : SessionState) (schema name : List ℕ) (points : Points) (seen : ℕ) → old.state ≡ Some st →
    IsSound old entries → name ≡ schema → UsesSchema st after schema (length entries) → (StandsFor st entries → StandsFor after entries) →
    points ≡ points_of after → seen ≡ length entries →
    OnlyAnswers entries old (record { state = Some after; points = points; seen = seen; calls = old.calls }) (UseSchema schema) (Schema name)
unfolding IsWhole after_line
uses entries old st after schema name points seen is sound same used later points_is seen_is = λ caller.
    let was = sound_of entries old st is sound in
    let saw : List Part = Saw (length entries) ∷ [] in
    let wanted : Who = record { account = (acting_of st).account; roles = (acting_of st).roles; current = Some schema } in
    let now_who : who_of after ≡ wanted = λ i. record { account = used.account i; roles = used.roles i; current = used.current i } in
    let who : Some (who_of after) ≡ with_schema schema (option_map who_of old.state) = ap Some now_who ∙ sym (ap (λ o. with_schema schema (option_map who_of o)) is) in
    let global : points.global ≡ old.points.global = ap (λ (p : Points). p.global) (points_is ∙ used.points) ∙ ap (λ (p : Points). p.global) was.points_are in
    let at : points.schema ≡ length entries = ap (λ (p : Points). p.schema) (points_is ∙ used.points) in
    record {
      doing = Looks 1;
      answer = answer.Schema schema;
      replied = tt;
      whole =
          inl (subst (λ o. IsAnsweredAs serial_setting (views entries (session_in old) saw) (option_map who_of o) (UseSchema schema) saw (answer.Schema schema)) (sym is)
          (record { seen = length entries; parts_are = refl }, refl));
      told_is = ap (λ (n : List ℕ). Some (Schema n)) (sym same);
      quiet = λ never. absurd (cc);
      more = sym (append-nil entries);
      session = λ i. record { who = who i; global = global i; schema = at i; now = seen_is i };
      calls = omega arith;
      sound = record {
        state = record { stands = later was.stands; points_are = sym points_is; no_roles = used.roles ∙ was.no_roles };
        seen = omega (arith, seen_is);
      };
      opened = λ opened. opened;
    }

-- ---- CHECK

pub not_connected_check : (entries : List Entry) (old : Seat) (privileges : PrivList) (target : Target) → old.state ≡ None → IsSound old entries →
    OnlyAnswers entries old old (Check privileges target) (Refused NotConnected)
unfolding IsWhole after_line
not_connected_check entries old privileges target none sound = λ caller.
    does_nothing entries caller old old (Check privileges target) answer.NotConnected (Refused NotConnected)
    (inl (subst (λ o. IsAnsweredAs serial_setting (views entries (session_in old) []) (option_map who_of o) (Check privileges target) [] answer.NotConnected) (sym none) (refl, refl)))
    refl refl refl sound

pub no_memory_check : (entries : List Entry) (old : Seat) (privileges : PrivList) (target : Target) → IsSound old entries →
    OnlyAnswers entries old old (Check privileges target) (Refused NoMemory)
unfolding IsWhole after_line
no_memory_check entries old privileges target sound = λ caller.
    does_nothing entries caller old old (Check privileges target) answer.NoMemory (Refused NoMemory)
    (inr (gives_up (session_in old).who (Check privileges target))) refl refl refl sound

verdict_is_told : (privileges : PrivList) (target : Target) (missing : Option Missing) →
    told_answer (Check privileges target) (verdict_answer missing) ≡ Some (verdict_told privileges target missing)
verdict_is_told privileges target None = refl
verdict_is_told privileges target (Some missing) = refl

never_want : (missing : Option Missing) → verdict_answer missing ≡ answer.NoMemory → ⊥
never_want None is = absurd (cc)
never_want (Some missing) is = absurd (cc)

check_answer : (entries : List Entry) (old : Seat) (st : SessionState) (privileges : PrivList) (target : Target) → IsSoundState st old entries →
    IsCheckAnswer serial_setting (views entries (session_in old) (Saw (length entries) ∷ [])) (who_of st) privileges target
    (verdict_answer (verdict_of (readings_after st entries) privileges target))
check_answer entries old st privileges target sound = record {
  readings = readings_after st entries;
  are_read = record {
    login_is = login_read entries old st sound;
    use_is = schema_read entries old st sound;
    present_is = record {
      state_is = ap (λ (these : List Entry). state_after these opening) (sym (take-length entries));
      sources_are = alone (state_after entries opening) (acting_of st).account (acting_of st).roles sound.no_roles;
    };
    current_is = refl;
  };
  answer_is = refl;
}

pub checks : (entries : List Entry) (old : Seat) (st : SessionState) (privileges : PrivList) (target : Target) (told : ToldAnswer) (seen : ℕ) →
    old.state ≡ Some st → IsSound old entries → told ≡ verdict_told privileges target (verdict_of (readings_after st entries) privileges target) → seen ≡ length entries →
    OnlyAnswers entries old (record { state = old.state; points = old.points; seen = seen; calls = old.calls }) (Check privileges target) told
unfolding IsWhole after_line
checks entries old st privileges target told seen is sound told_is seen_is = λ caller.
    let was = sound_of entries old st is sound in
    let saw : List Part = Saw (length entries) ∷ [] in
    let verdict : Option Missing = verdict_of (readings_after st entries) privileges target in
    record {
      doing = Looks 1;
      answer = verdict_answer verdict;
      replied = tt;
      whole =
          inl (subst (λ o. IsAnsweredAs serial_setting (views entries (session_in old) saw) (option_map who_of o) (Check privileges target) saw (verdict_answer verdict)) (sym is)
          (record { seen = length entries; parts_are = refl }, check_answer entries old st privileges target was));
      told_is = verdict_is_told privileges target verdict ∙ ap Some (sym told_is);
      quiet = λ never. absurd (never_want verdict never);
      more = sym (append-nil entries);
      session = λ i. record { who = option_map who_of old.state; global = old.points.global; schema = old.points.schema; now = seen_is i };
      calls = omega arith;
      sound = record {
        state = state_as old.state old (record { state = old.state; points = old.points; seen = seen; calls = old.calls }) entries refl sound.state;
        seen = omega (arith, seen_is);
      };
      opened = λ opened. opened;
    }
