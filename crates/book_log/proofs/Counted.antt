-- What a log says happened to an account is a history by the account's policy.
use Rattle.std.proofs.Common.{◌≡◌, ◌∙◌, ℕ, ℤ, ◌≤ℤ◌, Bool, true, false, List, [], ◌∷◌, ◌++◌, length, Option, Some, None, Result, Ok, Err, if◌then◌else◌, refl, sym, ap, subst, arith}
use Rattle.std.proofs.lemmas.Bool.{true≢false}
use Rattle.std.proofs.lemmas.Int.{int_max_is, ints}
use Rattle.std.specs.Int.Signed.{≤ℤ_refl}
use Rattle.std.specs.Option.{option_map}
use Rattle.acl_model.specs.Effects.{after, changed, state_after}
use Rattle.acl_model.specs.State.{State, stands}
use Rattle.acl_model.specs.declared.account_data.AccountData.{AccountData}
use Rattle.acl_names.proofs.SameAuth.{equal_from_same_auth}
use Rattle.acl_names.specs.AuthId.{same_auth}
use Rattle.acl_names.specs.declared.auth.AuthId.{AuthId}
use Rattle.acl_names.specs.declared.policy.Policy.{Policy}
use Rattle.acl_stmt.specs.Entries.{is_entry}
use Rattle.acl_stmt.specs.declared.entry.Entry.{Entry}
use Rattle.acl_stmt.specs.declared.limit.Limit.{Limit}
use Rattle.acl_stmt.specs.declared.refusal.Refusal.{Refusal}
use Rattle.acl_stmt.specs.declared.statement.Statement.{Statement}
use Rattle.book_log.proofs.Grows.{state_more}
use Rattle.book_log.proofs.Kept.{keeps_policy, still_stands}
use Rattle.book_log.proofs.Standing.{chosen_by_stands}
use Rattle.book_log.specs.Histories.{entry_if, entry_of, limits_by, some_entry, stored}
use Rattle.book_log.specs.Items.{Call, Knock, Login, LoginRefusal, Reply}
use Rattle.book_log.specs.Items.Call.{Asks, Knocks}
use Rattle.book_log.specs.Items.Reply.{ToLogin, ToStatement}
use Rattle.book_log.specs.Logins.{IsAnswerTo, IsChosenBy, IsLoginReply, IsOpened, is_password, tried_at}
use Rattle.book_log.specs.Logs.{IsEndReply, IsLegalPast, IsReply, IsReplyWhere, Origin, entries_at, is_ended, state_at}
use Rattle.book_log.specs.Pasts.{Past, at_moment, clears, events_in, events_of, is_account, login_events, moment_after, moment_of}
use Rattle.book_log.specs.Rules.{Rules}
use Rattle.book_log.specs.Statements.{IsStatementReply}
use Rattle.login_throttle.specs.History.{Event, Follows, IsHistory, blocking_failure}
use Rattle.login_throttle.specs.History.Event.{Answered, Cleared}
use Rattle.login_throttle.specs.Tracking.{answer_of}
use Rattle.login_throttle.specs.declared.tracking.Tried.{Tried}
use Rattle.login_throttle.specs.declared.tracking.Tried.TheVariants as tried
use Rattle.priv_map.specs.declared.acting.Acting.{Acting}

-- nothing since the failures were last cleared
IsIdle : List Event → Type 0
IsIdle [] = Unit {0}
IsIdle (Answered moment answer ∷ events) = ⊥
IsIdle (Cleared ∷ events) = Unit {0}

-- an account that does not stand is idle, the events are a history by its policy, and no later than the moment
record IsTallied (state : State) (account : AuthId) (events : List Event) (moment : ℤ) : Type 0 where
  idle : stands state account ≡ false → IsIdle events
  counted : (policy : Policy) → option_map (λ (held : AccountData). held.policy) (state.account_data account) ≡ Some policy → IsHistory policy events
  follows : Follows events moment

idle_history : (policy : Policy) (events : List Event) → IsIdle events → IsHistory policy events
unfolding IsIdle
idle_history policy [] idle = tt
idle_history policy (Answered moment answer ∷ events) idle = absurd idle
idle_history policy (Cleared ∷ events) idle = tt

later_follows : (events : List Event) (moment later : ℤ) → moment ≤ℤ later → Follows events moment → Follows events later
later_follows [] moment later order follows = tt
later_follows (Answered earlier answer ∷ events) moment later order follows = omega (arith, ints)
later_follows (Cleared ∷ events) moment later order follows = tt

at_first : (state : State) (account : AuthId) (moment : ℤ) → IsTallied state account [] moment
unfolding IsIdle
at_first state account moment = record { idle = λ gone. tt; counted = λ policy is. tt; follows = tt }

cleared : (state : State) (account : AuthId) (events : List Event) (moment : ℤ) → IsTallied state account (Cleared ∷ events) moment
unfolding IsIdle
cleared state account events moment = record { idle = λ gone. tt; counted = λ policy is. tt; follows = tt }

later : (state : State) (account : AuthId) (events : List Event) (moment at : ℤ) → moment ≤ℤ at →
    IsTallied state account events moment → IsTallied state account events at
later state account events moment at order tallied =
    record { idle = tallied.idle; counted = tallied.counted; follows = later_follows events moment at order tallied.follows }

-- a statement that does not clear the account
statement_kept : (limits : List Limit) (statement : Statement) (state : State) (account : AuthId) (events : List Event) (moment : ℤ) →
    clears statement account ≡ false → IsTallied state account events moment → IsTallied (changed limits statement state) account events moment
unfolding changed
statement_kept limits statement state account events moment kept tallied =
    record { idle = idle (stands state account) refl; counted = λ policy. counted policy (stands state account) refl; follows = tallied.follows }
  where
    idle : (there : Bool) → stands state account ≡ there → stands (changed limits statement state) account ≡ false → IsIdle events
    idle false there gone = tallied.idle there
    idle true there gone = absurd (true≢false (sym (still_stands limits statement state account kept there) ∙ gone))

    counted : (policy : Policy) (there : Bool) → stands state account ≡ there →
        option_map (λ (held : AccountData). held.policy) ((changed limits statement state).account_data account) ≡ Some policy → IsHistory policy events
    counted policy false there is = idle_history policy events (tallied.idle there)
    counted policy true there is = tallied.counted policy (sym (keeps_policy statement state account kept there) ∙ is)

-- an attempt at the account
attempted : (state : State) (account : AuthId) (account_data : AccountData) (events : List Event) (moment at : ℤ) (right : Bool) (answer : Tried) →
    moment ≤ℤ at → stands state account ≡ true → state.account_data account ≡ Some account_data →
    answer ≡ answer_of account_data.policy (blocking_failure account_data.policy events) at right →
    IsTallied state account events moment → IsTallied state account (Answered at answer ∷ events) at
attempted state account account_data events moment at right answer order there is answered tallied =
    record { idle = λ gone. absurd (true≢false (sym there ∙ gone)); counted = counted; follows = ≤ℤ_refl at }
  where
    counted : (policy : Policy) → option_map (λ (held : AccountData). held.policy) (state.account_data account) ≡ Some policy →
        IsHistory policy (Answered at answer ∷ events)
    counted policy known =
        let mapped : option_map (λ (held : AccountData). held.policy) (state.account_data account) ≡ Some account_data.policy =
        ap (option_map (λ (held : AccountData). held.policy)) is in
        let same : account_data.policy ≡ policy = cc in
        let P : Policy → Type 0 = λ p. answer ≡ answer_of p (blocking_failure p events) at right in
        (tallied.counted policy known, later_follows events moment at order tallied.follows, (right, subst P same answered))

moment_up : (last : ℤ) (given : Option ℤ) → last ≤ℤ at_moment last given
moment_up last None = ≤ℤ_refl last
moment_up last (Some given) = let greatest = int_max_is last given in omega (arith, ints, greatest)

-- an accepted statement, whether it clears the account or not
statement_counts : (limits : List Limit) (statement : Statement) (state : State) (account : AuthId) (events : List Event) (moment : ℤ) (clear : Bool) →
    clears statement account ≡ clear → IsTallied state account events moment →
    IsTallied (changed limits statement state) account ((if clear then Cleared ∷ [] else []) ++ events) moment
statement_counts limits statement state account events moment true is tallied = cleared (changed limits statement state) account events moment
statement_counts limits statement state account events moment false is tallied = statement_kept limits statement state account events moment is tallied

accepted_counts : (rules : Rules) (entries : List Entry) (state : State) (account : AuthId) (events : List Event) (moment : ℤ) (acting : Acting)
    (caller number : ℕ) (limits : List Limit) (statement : Statement) (position : ℕ) (lawful : Bool) (is : is_entry limits statement ≡ lawful) →
    IsStatementReply rules entries state acting (entry_if caller number acting.account limits statement lawful is) (Ok position) →
    IsTallied state account events moment →
    IsTallied (state_after (some_entry (entry_if caller number acting.account limits statement lawful is)) state) account
    ((if clears statement account then Cleared ∷ [] else []) ++ events) moment
unfolding state_after after
accepted_counts rules entries state account events moment acting caller number limits statement position true is reply tallied =
    statement_counts limits statement state account events moment (clears statement account) refl tallied
accepted_counts rules entries state account events moment acting caller number limits statement position false is reply tallied = absurd reply

statement_step : (rules : Rules) (entries : List Entry) (state : State) (account : AuthId) (chosen : Option AuthId) (events : List Event) (moment : ℤ) (acting : Acting)
    (caller number : ℕ) (statement : Statement) (answer : Result ℕ Refusal) →
    IsStatementReply rules entries state acting (entry_of rules caller number acting statement) answer →
    IsTallied state account events moment →
    IsTallied (state_after (stored rules caller number (Asks acting statement) (ToStatement answer)) state) account
    (events_in account chosen moment (Asks acting statement) (ToStatement answer) ++ events) moment
unfolding state_after
statement_step rules entries state account chosen events moment acting caller number statement (Ok position) reply tallied =
    accepted_counts rules entries state account events moment acting caller number (limits_by rules.hands_on acting statement) statement position
    (is_entry (limits_by rules.hands_on acting statement) statement) refl reply tallied
statement_step rules entries state account chosen events moment acting caller number statement (Err why) reply tallied = tallied

-- a login at the account itself
own_login : (state : State) (position : ℕ) (account : AuthId) (events : List Event) (moment at : ℤ) (given : Bool) (account_data : AccountData)
    (told : Tried) (answer : Result Login LoginRefusal) → moment ≤ℤ at → stands state account ≡ true → state.account_data account ≡ Some account_data →
    told ≡ answer_of account_data.policy (blocking_failure account_data.policy events) at given →
    IsAnswerTo state position account account_data told answer →
    IsTallied state account events moment → IsTallied state account (login_events at answer ++ events) at
own_login state position account events moment at given account_data (tried.Blocked left) answer order there known is answered tallied =
    subst (λ (reply : Result Login LoginRefusal). IsTallied state account (login_events at reply ++ events) at) (sym answered)
    (attempted state account account_data events moment at given (tried.Blocked left) order there known is tallied)
own_login state position account events moment at given account_data tried.Wrong answer order there known is answered tallied =
    subst (λ (reply : Result Login LoginRefusal). IsTallied state account (login_events at reply ++ events) at) (sym answered)
    (attempted state account account_data events moment at given tried.Wrong order there known is tallied)
own_login state position account events moment at given account_data tried.Open answer order there known is answered tallied =
    by account_data.locked answered
  where
    by : (locked : Bool) → IsOpened state position account locked answer → IsTallied state account (login_events at answer ++ events) at
    by true opened =
        subst (λ (reply : Result Login LoginRefusal). IsTallied state account (login_events at reply ++ events) at) (sym opened)
        (attempted state account account_data events moment at given tried.Open order there known is tallied)
    by false opened =
        subst (λ (reply : Result Login LoginRefusal). IsTallied state account (login_events at reply ++ events) at) (sym opened.1)
        (cleared state account events at)

login_step : (choice : Option (State → Knock → Option AuthId)) (state : State) (position : ℕ) (account : AuthId) (chosen : Option AuthId)
    (events : AuthId → List Event) (moment at : ℤ) (knock : Knock) (answer : Result Login LoginRefusal) → moment ≤ℤ at → IsChosenBy choice state knock chosen → IsLoginReply state position events at knock chosen answer →
    IsTallied state account (events account) moment →
    IsTallied state account ((if is_account account chosen then login_events at answer else []) ++ events account) at
login_step choice state position account None events moment at knock answer order chose reply tallied = later state account (events account) moment at order tallied
login_step choice state position account (Some other) events moment at knock answer order chose reply tallied = by (same_auth account other) refl
  where
    by : (own : Bool) → same_auth account other ≡ own → IsTallied state account ((if own then login_events at answer else []) ++ events account) at
    by false foreign = later state account (events account) moment at order tallied
    by true own =
        let same : other ≡ account = sym (equal_from_same_auth account other own) in
        let own_chosen : IsChosenBy choice state knock (Some account) = subst (λ (who : AuthId). IsChosenBy choice state knock (Some who)) same chose in
        let own_reply : IsLoginReply state position events at knock (Some account) answer =
        subst (λ (who : AuthId). IsLoginReply state position events at knock (Some who) answer) same reply in
        own_login state position account (events account) moment at (is_password own_reply.0.verifier knock.verifier) own_reply.0
        (tried_at own_reply.0 (events account) at knock.verifier) answer order (chosen_by_stands choice state knock account own_chosen)
        own_reply.1 refl own_reply.2 tallied

end_step : (rules : Rules) (state : State) (account : AuthId) (chosen : Option AuthId) (events : List Event) (moment : ℤ) (caller number : ℕ) (call : Call) (reply : Reply) →
    chosen ≡ None → IsEndReply call reply → IsTallied state account events moment →
    IsTallied (state_after (stored rules caller number call reply) state) account (events_in account chosen (moment_after moment call) call reply ++ events) (moment_after moment call)
unfolding state_after
end_step rules state account chosen events moment caller number (Asks acting statement) (ToStatement (Err why)) none ended tallied = tallied
end_step rules state account chosen events moment caller number (Asks acting statement) (ToStatement (Ok position)) none ended tallied = absurd (cc)
end_step rules state account chosen events moment caller number (Asks acting statement) (ToLogin answer) none ended tallied = absurd ended
end_step rules state account chosen events moment caller number (Knocks knock) (ToStatement answer) none ended tallied = absurd ended
end_step rules state account chosen events moment caller number (Knocks knock) (ToLogin answer) none ended tallied =
    subst (λ (who : Option AuthId). IsTallied state account ((if is_account account who then login_events (at_moment moment knock.moment) answer else []) ++ events) (at_moment moment knock.moment))
    (sym none) (later state account events moment (at_moment moment knock.moment) (moment_up moment knock.moment) tallied)

step : (ended : Bool) (origin : Origin) (past : Past) (account : AuthId) (caller number : ℕ) (chosen : Option AuthId) (call : Call) (reply : Reply) →
    IsReplyWhere ended origin past caller number chosen call reply →
    IsTallied (state_at origin past) account (events_of account past) (moment_of past) →
    IsTallied (state_after (stored origin.rules caller number call reply) (state_at origin past)) account
    (events_in account chosen (moment_after (moment_of past) call) call reply ++ events_of account past) (moment_after (moment_of past) call)
unfolding state_after
step true origin past account caller number chosen call reply rule tallied =
    end_step origin.rules (state_at origin past) account chosen (events_of account past) (moment_of past) caller number call reply rule.0 rule.1 tallied
step false origin past account caller number chosen (Asks acting statement) (ToStatement answer) rule tallied =
    statement_step origin.rules (entries_at origin past) (state_at origin past) account chosen (events_of account past) (moment_of past) acting caller number statement
    answer rule.1 tallied
step false origin past account caller number chosen (Asks acting statement) (ToLogin answer) rule tallied = absurd rule
step false origin past account caller number chosen (Knocks knock) (ToStatement answer) rule tallied = absurd rule
step false origin past account caller number chosen (Knocks knock) (ToLogin answer) rule tallied =
    login_step origin.rules.own_choice (state_at origin past) (length (entries_at origin past)) account chosen (λ who. events_of who past) (moment_of past)
    (at_moment (moment_of past) knock.moment) knock answer (moment_up (moment_of past) knock.moment) rule.0 rule.1 tallied

tallied_after : (origin : Origin) (account : AuthId) (past : Past) → IsLegalPast origin past →
    IsTallied (state_at origin past) account (events_of account past) (moment_of past)
unfolding IsReply
tallied_after origin account [] legal = at_first (state_at origin []) account (moment_of [])
tallied_after origin account (noted ∷ past) legal =
    subst (λ (state : State). IsTallied state account (events_of account (noted ∷ past)) (moment_of (noted ∷ past))) (sym (state_more origin past noted))
    (step (is_ended origin.end (length past)) origin past account noted.item.caller noted.item.number noted.chosen noted.item.call noted.item.reply legal.1
    (tallied_after origin account past legal.0))

pub is_history : (origin : Origin) (past : Past) (account : AuthId) (account_data : AccountData) → IsLegalPast origin past →
    (state_at origin past).account_data account ≡ Some account_data → IsHistory account_data.policy (events_of account past)
is_history origin past account account_data legal known =
    (tallied_after origin account past legal).counted account_data.policy (ap (option_map (λ (held : AccountData). held.policy)) known)

pub is_followed : (origin : Origin) (past : Past) (account : AuthId) (at : ℤ) → IsLegalPast origin past → moment_of past ≤ℤ at → Follows (events_of account past) at
is_followed origin past account at legal order = later_follows (events_of account past) (moment_of past) at order (tallied_after origin account past legal).follows
