-- Worked examples: an account that wrong passwords block, that is open again a day later, and that a statement opens at once.
use Rattle.std.specs.Prelude.{◌≡◌, ℕ, pos, false, [], ◌∷◌, Some, None, Result, Ok, Err, codes, refl}
use Rattle.account_match.specs.declared.client.Client.TheVariants.{Local}
use Rattle.acl_model.specs.Effects.{changed}
use Rattle.acl_model.specs.State.{State, opening}
use Rattle.acl_model.specs.declared.account_data.AccountData.{AccountData}
use Rattle.acl_names.specs.declared.policy.LockTime.TheVariants.{Days}
use Rattle.acl_names.specs.declared.policy.Verifier.{Verifier}
use Rattle.acl_stmt.specs.declared.options.AccountOptions.{AccountOptions}
use Rattle.acl_stmt.specs.declared.statement.Statement.{Statement}
use Rattle.acl_stmt.specs.declared.statement.Statement.TheVariants.{AlterUser, CreateUser, RenameUser}
use Rattle.book_log.specs.ExampleLogs.{ann, as_root, bob, no_options, noted_as}
use Rattle.book_log.specs.Items.{Knock, Login, LoginRefusal, asked}
use Rattle.book_log.specs.Items.Call.{Knocks}
use Rattle.book_log.specs.Items.LoginRefusal.{BadPassword, Blocked}
use Rattle.book_log.specs.Items.Reply.{ToLogin}
use Rattle.book_log.specs.Logins.{IsLoginReply, tried_at}
use Rattle.book_log.specs.Pasts.{Noted, Past, clears, events_of, moment_after, moment_of}
use Rattle.login_throttle.specs.History.{failure_count}
use Rattle.login_throttle.specs.declared.tracking.Tried.TheVariants as tried
use Rattle.priv_map.specs.declared.held.Held.{Held}

abbrev right : Verifier
right = record { 0 = 1 ∷ [] }

abbrev wrong : Verifier
wrong = record { 0 = 2 ∷ [] }

-- three wrong passwords block the account for a day
abbrev three_of_a_day : AccountOptions
three_of_a_day = record { attempts = Some 3; days = Some (Days 1); locked = None }

abbrev with_ann : State
with_ann = changed [] (CreateUser false ((ann, right) ∷ []) three_of_a_day) opening

abbrev ann_data : AccountData
ann_data = record { verifier = right; locked = false; policy = record { attempts = 3; days = Days 1 } }

abbrev knock : Verifier → ℕ → Knock
knock verifier moment = record { user = codes "ann"; client = Local; verifier = verifier; moment = Some (pos moment) }

-- a login that chose ann
abbrev told : ℕ → Knock → Result Login LoginRefusal → Noted
told number asks answer = record { item = record { caller = 1; number = number; call = Knocks asks; reply = ToLogin answer }; chosen = Some ann }

abbrev wrong_thrice : Past
wrong_thrice = told 2 (knock wrong 20) (Err BadPassword) ∷ told 1 (knock wrong 10) (Err BadPassword) ∷ told 0 (knock wrong 0) (Err BadPassword) ∷ []

-- what the next login is answered by these items
abbrev IsNextReply : Past → Knock → Result Login LoginRefusal → Type 0
IsNextReply past asks answer =
    IsLoginReply with_ann 1 (λ account. events_of account past) (moment_after (moment_of past) (Knocks asks)) asks (Some ann) answer

example-blocked : IsNextReply wrong_thrice (knock right 43200) (Err (Blocked (Some 43220)))
unfolding changed clears
example-blocked = (ann_data, refl, refl)

abbrev blocked_once : Past
blocked_once = told 3 (knock right 43200) (Err (Blocked (Some 43220))) ∷ wrong_thrice

-- a moment before the last one is the last one, and a login that was blocked counts for nothing
example-moment_never_falls : IsNextReply blocked_once (knock right 21600) (Err (Blocked (Some 43220)))
unfolding changed clears
example-moment_never_falls = (ann_data, refl, refl)

example-last_second : IsNextReply blocked_once (knock right 86419) (Err (Blocked (Some 1)))
unfolding changed clears
example-last_second = (ann_data, refl, refl)

example-open_a_day_later : tried_at ann_data (events_of ann blocked_once) (moment_after (moment_of blocked_once) (Knocks (knock right 86420))) right ≡ tried.Open
unfolding clears
example-open_a_day_later = refl

-- the fourth wrong password is the first that counts anew
example-counted_anew : IsNextReply blocked_once (knock wrong 86420) (Err BadPassword)
unfolding changed clears
example-counted_anew = (ann_data, refl, refl)

abbrev unlock : Statement
unlock = AlterUser ((ann, None) ∷ []) (record { attempts = None; days = None; locked = Some false })

abbrev unlocked : Held → Past
unlocked held = noted_as (asked 0 0 (as_root held) unlock (Ok 2)) ∷ blocked_once

example-cleared : (held : Held) → failure_count (events_of ann (unlocked held)) ≡ 0
unfolding clears
example-cleared held = refl

example-open_at_once : (held : Held) → tried_at ann_data (events_of ann (unlocked held)) (moment_of (unlocked held)) right ≡ tried.Open
unfolding clears
example-open_at_once held = refl

-- another password, or another account, clears nothing
example-not_cleared : (held : Held) → failure_count (events_of ann (noted_as (asked 0 0 (as_root held) (AlterUser ((ann, Some right) ∷ []) no_options) (Ok 2)) ∷ blocked_once)) ≡ 3
unfolding clears
example-not_cleared held = refl

example-of_another : events_of bob blocked_once ≡ []
unfolding clears
example-of_another = refl

-- a name that goes to another account goes without failures
example-renamed : (held : Held) → failure_count (events_of ann (noted_as (asked 0 0 (as_root held) (RenameUser ((ann, bob) ∷ [])) (Ok 2)) ∷ blocked_once)) ≡ 0
unfolding clears
example-renamed held = refl
