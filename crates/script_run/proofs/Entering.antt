-- What a login makes of what is stored of its session.
use Rattle.std.proofs.Common.{◌≡◌, ◌∙◌, ap, sym, subst, ℕ, ℤ, ◌+◌, inl, inr, Bool, true, false, cond, max, IsTrue, List, [], ◌∷◌, length, take, Option, None, Some, Ok, Err, refl, append-nil, arith}
use Rattle.std.proofs.Math.Seq.{take-length}
use Rattle.std.specs.Option.{option_map}
use Rattle.std.specs.Prelude.{codes}
use Rattle.acl_model.specs.Accounts.{new_account}
use Rattle.acl_model.specs.Effects.{state_after}
use Rattle.acl_model.specs.Roles.{is_granted}
use Rattle.acl_model.specs.State.{State, no_policy, opening, stands}
use Rattle.acl_model.specs.Verdict.{Reading}
use Rattle.acl_names.proofs.SameAuth.{equal_from_text_eq, text_eq_itself}
use Rattle.acl_names.specs.Text.{text_eq}
use Rattle.acl_names.specs.Verifiers.{empty_verifier}
use Rattle.acl_names.specs.declared.auth.AuthId.{AuthId}
use Rattle.acl_names.specs.declared.policy.Verifier.{Verifier}
use Rattle.acl_stmt.specs.declared.entry.Entry.{Entry}
use Rattle.book_log.specs.Items.{Item, Knock, Login}
use Rattle.book_log.specs.Items.Call.{Knocks}
use Rattle.book_log.specs.Items.LoginRefusal.{NoAccount}
use Rattle.book_log.specs.Items.Reply.{ToLogin}
use Rattle.book_log.specs.Logins.{AreActiveAtLogin, IsAnswerTo, IsChosenBy, IsLogin, IsLoginReply, is_password, tried_at}
use Rattle.book_log.specs.Logs.{IsReply}
use Rattle.book_log.specs.Pasts.{events_of, moment_after, moment_of}
use Rattle.legal_runs.specs.Commands.{Answer as answer}
use Rattle.legal_runs.specs.Commands.Command.{Connect}
use Rattle.legal_runs.specs.Lines.{IsWhole}
use Rattle.legal_runs.specs.Sessions.{Who, after_line}
use Rattle.line_answers.specs.declared.answer.Answer.{Answer as ToldAnswer}
use Rattle.line_answers.specs.declared.answer.Answer.TheVariants.{Connected, Refused}
use Rattle.line_answers.specs.declared.answer.LineRefusal.TheVariants as refused
use Rattle.line_answers.specs.declared.answer.LoginRefusal.TheVariants as login
use Rattle.line_answers.specs.declared.points.Points.{Points}
use Rattle.login_throttle.specs.History.{Event, blocking_failure}
use Rattle.login_throttle.specs.Tracking.{answer_of}
use Rattle.login_throttle.specs.declared.tracking.Tried.TheVariants as tried
use Rattle.login_throttle.specs.declared.tracking.Tried.{Tried}
use Rattle.priv_map.specs.Readings.{IsReadAt, current_of, reading_of}
use Rattle.priv_map.specs.declared.acting.Acting.{Acting}
use Rattle.priv_map.specs.declared.schema_held.SchemaHeld.{SchemaHeld}
use Rattle.serial_runs.specs.Serial.Doing.{Calls}
use Rattle.session_check.specs.Session.{acting_of}
use Rattle.session_check.specs.declared.session.SessionState.{SessionState}
use Rattle.session_rules.specs.Setting.{at_host, chosen, rules}
use Rattle.script_run.proofs.Lines.{alone, does_nothing, gives_up}
use Rattle.script_run.specs.Forms.{has_no_password}
use Rattle.script_run.specs.Lines.{IsOpen, IsRepliedAfter, state_now}
use Rattle.script_run.specs.Seats.{IsEntered, IsSeated, IsSound, IsSoundIf, OnlyAnswers, session_in, who_of}
use Rattle.script_run.specs.declared.login.Entered.{Entered}
use Rattle.script_run.specs.declared.seat.Seat.{Seat}

-- ---- the account

abbrev local_host : List ℕ
local_host = codes "localhost"

abbrev any_host : List ℕ
any_host = codes "%"

same_name : (a : AuthId) (user host : List ℕ) → a.user ≡ user → a.host ≡ host → a ≡ at_host user host
same_name a user host u h = λ i. record { user = u i; host = h i }

pub chooses_local : (s : State) (user : List ℕ) (local : AuthId) → local.user ≡ user → local.host ≡ local_host → stands s local ≡ true → Some local ≡ chosen s user
chooses_local s user local u h there =
    let same = same_name local user local_host u h in
    ap Some same ∙ sym (ap (λ t. cond t (Some (at_host user local_host)) (cond (stands s (at_host user any_host)) (Some (at_host user any_host)) None)) (sym (ap (stands s) same) ∙ there))

pub chooses_anywhere : (s : State) (user : List ℕ) (local anywhere : AuthId) → local.user ≡ user → local.host ≡ local_host → stands s local ≡ false
    → anywhere.user ≡ user → anywhere.host ≡ any_host → stands s anywhere ≡ true → Some anywhere ≡ chosen s user
chooses_anywhere s user local anywhere u h gone v k there =
    let same = same_name anywhere user any_host v k in
    ap Some same
    ∙ sym (ap (λ t. cond t (Some (at_host user any_host)) None) (sym (ap (stands s) same) ∙ there))
    ∙ sym (ap (λ t. cond t (Some (at_host user local_host)) (cond (stands s (at_host user any_host)) (Some (at_host user any_host)) None)) (sym (ap (stands s) (same_name local user local_host u h)) ∙ gone))

pub chooses_none : (s : State) (user : List ℕ) (local anywhere : AuthId) → local.user ≡ user → local.host ≡ local_host → stands s local ≡ false
    → anywhere.user ≡ user → anywhere.host ≡ any_host → stands s anywhere ≡ false → None ≡ chosen s user
chooses_none s user local anywhere u h gone v k none =
    sym (ap (λ t. cond t (Some (at_host user any_host)) None) (sym (ap (stands s) (same_name anywhere user any_host v k)) ∙ none))
    ∙ sym (ap (λ t. cond t (Some (at_host user local_host)) (cond (stands s (at_host user any_host)) (Some (at_host user any_host)) None)) (sym (ap (stands s) (same_name local user local_host u h)) ∙ gone))

either_stands : (s : State) (one other : AuthId) (first second : Bool) (account : AuthId) → stands s one ≡ first → stands s other ≡ second →
    cond first (Some one) (cond second (Some other) None) ≡ Some account → stands s account ≡ true
either_stands s one other true second account is_first is_second is = let same : one ≡ account = cc in ap (stands s) (sym same) ∙ is_first
either_stands s one other false true account is_first is_second is = let same : other ≡ account = cc in ap (stands s) (sym same) ∙ is_second
either_stands s one other false false account is_first is_second is = absurd (cc)

-- what is chosen stands
chosen_there : (s : State) (user : List ℕ) (account : AuthId) → chosen s user ≡ Some account → stands s account ≡ true
chosen_there s user account is =
    either_stands s (at_host user local_host) (at_host user any_host) (stands s (at_host user local_host)) (stands s (at_host user any_host)) account refl refl is

-- ---- the reply

opens : (begun : Option ℤ) (moment : ℤ) (right : Bool) → right ≡ true → answer_of no_policy begun moment right ≡ tried.Open
opens None moment true is = refl
opens (Some since) moment true is = refl
opens begun moment false is = absurd (cc)

right_password : (verifier : Verifier) → has_no_password verifier ≡ true → is_password empty_verifier verifier ≡ true
right_password verifier is =
    ap (λ (text : List ℕ). text_eq empty_verifier.0 text) (equal_from_text_eq verifier.0 empty_verifier.0 is) ∙ text_eq_itself empty_verifier.0

-- no account has ever been blocked
always_open : (events : List Event) (moment : ℤ) (verifier : Verifier) → has_no_password verifier ≡ true → tried_at new_account events moment verifier ≡ tried.Open
always_open events moment verifier is = opens (blocking_failure no_policy events) moment (is_password empty_verifier verifier) (right_password verifier is)

none_granted : (state : State) (account role : AuthId) → IsOpen state → is_granted state account role ≡ false
none_granted state account role opened = rw (opened.no_edges role account, opened.no_mandatory) refl

no_roles_active : (state : State) (account : AuthId) (roles : List AuthId) → roles ≡ [] → IsOpen state → AreActiveAtLogin state account roles
no_roles_active state account roles none opened = subst (λ these. AreActiveAtLogin state account these) (sym none) (record {
  in_order = λ i j a order below. absurd (omega arith);
  just_these = λ role. rw (none_granted state account role opened) refl;
})

login_of : List Entry → Entered → Login
login_of entries entered = record { acting = acting_of entered.state; shown = entered.shown; position = length entries }

is_login : (entries : List Entry) (entered : Entered) → IsOpen (state_now entries) → IsEntered entries entered →
    IsLogin (state_now entries) (length entries) entered.shown (login_of entries entered)
unfolding login_of
is_login entries entered opened is = record {
  sources = entered.shown ∷ [];
  shown_is = refl;
  account_is = is.account;
  roles_are = no_roles_active (state_now entries) entered.shown (acting_of entered.state).roles is.roles opened;
  sources_are = alone (state_now entries) entered.shown (acting_of entered.state).roles is.roles;
  is_read =
      subst (λ (who : AuthId). IsReadAt (acting_of entered.state) (record { state = state_now entries; sources = who ∷ [] }) (record { state = state_now entries; sources = who ∷ [] }))
      is.account is.read;
  no_schema = is.no_schema;
  position_is = refl;
}

login_replied : (entries : List Entry) (caller number : ℕ) (knock : Knock) (entered : Entered) → IsOpen (state_now entries) → has_no_password knock.verifier ≡ true →
    chosen (state_now entries) knock.user ≡ Some entered.shown → IsEntered entries entered →
    IsRepliedAfter entries caller number (Calls (Some entered.shown) (Knocks knock) (ToLogin (Ok (login_of entries entered))))
unfolding IsReply
login_replied entries caller number knock entered opened empty chosen_is is = λ past entries_are.
    let there : stands (state_now entries) entered.shown ≡ true = chosen_there (state_now entries) knock.user entered.shown chosen_is in
    let events : AuthId → List Event = λ account. events_of account past in
    let moment : ℤ = moment_after (moment_of past) (Knocks knock) in
    subst (λ (es : List Entry).
    IsChosenBy rules.own_choice (state_after es opening) knock (Some entered.shown)
    × IsLoginReply (state_after es opening) (length es) events moment knock (Some entered.shown) (Ok (login_of entries entered)))
    (sym entries_are) (
      (sym chosen_is, λ who same. let own : entered.shown ≡ who = cc in ap (stands (state_now entries)) (sym own) ∙ there),
      (
        new_account,
        opened.accounts entered.shown there,
        subst (λ (t : Tried). IsAnswerTo (state_now entries) (length entries) entered.shown new_account t (Ok (login_of entries entered)))
            (sym (always_open (events entered.shown) moment knock.verifier empty)) (login_of entries entered, refl, is_login entries entered opened is),
      ),
    )

-- ---- CONNECT

pub enters : (entries : List Entry) (old between new : Seat) (user : List ℕ) (entered : Entered) (told : ToldAnswer) → IsOpen (state_now entries) →
    chosen (state_now entries) user ≡ Some entered.shown → told ≡ Connected entered.shown → IsEntered entries entered → IsSeated entries entered between new →
    between.calls ≡ old.calls → IsSound old entries →
    (knock : Knock) → knock.user ≡ user → IsTrue (has_no_password knock.verifier) → OnlyAnswers entries old new (Connect knock) told
unfolding IsWhole after_line login_of
enters entries old between new user entered told opened chosen_is told_is is seated same sound knock user_is empty = λ caller.
    let acting : Acting = acting_of entered.state in
    let item : Item = record { caller = caller; number = old.calls; call = Knocks knock; reply = ToLogin (Ok (login_of entries entered)) } in
    let wanted : Who = record { account = acting.account; roles = acting.roles; current = None } in
    let no_schema : current_of acting ≡ None = ap (λ (held : Option SchemaHeld). option_map (λ h. h.schema) held) is.no_schema in
    let who : option_map who_of new.state ≡ Some wanted =
    ap (option_map who_of) seated.state_is ∙ (λ i. Some (record { account = acting.account; roles = acting.roles; current = no_schema i })) in
    let few = sound.seen in
    let seen_is = seated.seen_is in
    let now : new.seen ≡ max old.seen (length entries) = omega (arith, few, seen_is) in
    record {
      doing = Calls (Some entered.shown) (Knocks knock) (ToLogin (Ok (login_of entries entered)));
      answer = answer.Connected entered.shown;
      replied = login_replied entries caller old.calls knock entered opened empty (ap (chosen (state_now entries)) user_is ∙ chosen_is) is;
      whole = inl (inl (record {
        item = item;
        login = login_of entries entered;
        told = length entries;
        parts_are = refl;
        call_is = refl;
        reply_is = refl;
        is_told = omega arith;
        answer_is = refl;
      }));
      told_is = ap Some (sym told_is);
      quiet = λ never. absurd (cc);
      more = sym (append-nil entries);
      session = λ i. record {
        who = who i;
        global = ap (λ (p : Points). p.global) seated.points_are i;
        schema = ap (λ (p : Points). p.schema) seated.points_are i;
        now = now i;
      };
      calls = seated.calls_are ∙ ap (λ n. n + 1) same;
      sound = record {
        state = subst (λ o. IsSoundIf o new entries) (sym seated.state_is)
            (record { stands = is.stands; points_are = is.points ∙ sym seated.points_are; no_roles = is.roles });
        seen = omega (arith, seen_is);
      };
      opened = λ still. still;
    }

nobody_replied : (entries : List Entry) (caller number : ℕ) (knock : Knock) → chosen (state_now entries) knock.user ≡ None →
    IsRepliedAfter entries caller number (Calls None (Knocks knock) (ToLogin (Err NoAccount)))
unfolding IsReply
nobody_replied entries caller number knock none = λ past entries_are.
    subst (λ (es : List Entry).
    IsChosenBy rules.own_choice (state_after es opening) knock None
    × IsLoginReply (state_after es opening) (length es) (λ account. events_of account past) (moment_after (moment_of past) (Knocks knock)) knock None (Err NoAccount))
    (sym entries_are) ((sym none, λ who never. absurd (cc)), refl)

pub finds_none : (entries : List Entry) (old : Seat) (user : List ℕ) → chosen (state_now entries) user ≡ None → IsSound old entries →
    (knock : Knock) → knock.user ≡ user →
    OnlyAnswers entries old (record { state = None; points = old.points; seen = old.seen; calls = old.calls + 1 }) (Connect knock) (Refused (refused.Login login.NoAccount))
unfolding IsWhole after_line
finds_none entries old user none sound knock user_is = λ caller.
    let item : Item = record { caller = caller; number = old.calls; call = Knocks knock; reply = ToLogin (Err NoAccount) } in
    record {
      doing = Calls None (Knocks knock) (ToLogin (Err NoAccount));
      answer = answer.RefusedLogin NoAccount;
      replied = nobody_replied entries caller old.calls knock (ap (chosen (state_now entries)) user_is ∙ none);
      whole = inl (inr (record { item = item; why = NoAccount; parts_are = refl; call_is = refl; reply_is = refl; answer_is = refl }));
      told_is = refl;
      quiet = λ never. absurd (cc);
      more = sym (append-nil entries);
      session = refl;
      calls = refl;
      sound = record { state = tt; seen = sound.seen };
      opened = λ opened. opened;
    }

pub no_memory_connect : (entries : List Entry) (old : Seat) → IsSound old entries → (knock : Knock) →
    OnlyAnswers entries old (record { state = None; points = old.points; seen = old.seen; calls = old.calls }) (Connect knock) (Refused refused.NoMemory)
unfolding IsWhole after_line
no_memory_connect entries old sound knock = λ caller.
    does_nothing entries caller old (record { state = None; points = old.points; seen = old.seen; calls = old.calls }) (Connect knock) answer.NoMemory (Refused refused.NoMemory)
    (inr (gives_up (session_in old).who (Connect knock))) refl refl refl (record { state = tt; seen = sound.seen })

-- ---- what a login reads

pub read_whole : (position : ℕ) (entries : List Entry) (acting : Acting) (s : State) → position ≡ length entries → s ≡ state_after entries opening
    → ((used : Reading) → IsReadAt acting (reading_of s acting) used)
    → IsReadAt acting (reading_of (state_after (take position entries) opening) acting) (reading_of (state_after (take position entries) opening) acting)
read_whole position entries acting s position_is state_is read =
    let all : take position entries ≡ entries = ap (λ n. take n entries) position_is ∙ take-length entries in
    let same : s ≡ state_after (take position entries) opening = state_is ∙ ap (λ es. state_after es opening) (sym all) in
    subst (λ st. IsReadAt acting (reading_of st acting) (reading_of (state_after (take position entries) opening) acting)) same (read (reading_of (state_after (take position entries) opening) acting))

pub read_now : (entries : List Entry) (acting : Acting) (made : SessionState) (s : State) → s ≡ state_after entries opening → acting_of made ≡ acting
    → ((used : Reading) → IsReadAt acting (reading_of s acting) used)
    → IsReadAt (acting_of made) (reading_of (state_now entries) (acting_of made)) (reading_of (state_now entries) (acting_of made))
read_now entries acting made s state_is made_is read =
    subst (λ (a : Acting). IsReadAt a (reading_of (state_now entries) a) (reading_of (state_now entries) a)) (sym made_is)
    (subst (λ (st : State). IsReadAt acting (reading_of st acting) (reading_of (state_now entries) acting)) state_is (read (reading_of (state_now entries) acting)))
