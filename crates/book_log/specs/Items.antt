-- The items of a log: what an account system was asked, and what it answered (MySQL 8.0 Reference Manual, "Access Control and
-- Account Management").
use Rattle.std.specs.Prelude.{ℕ, ℤ, List, Option, Result}
use Rattle.account_match.specs.declared.client.Client.{Client}
use Rattle.acl_names.specs.declared.auth.AuthId.{AuthId}
use Rattle.acl_names.specs.declared.policy.Verifier.{Verifier}
use Rattle.acl_stmt.specs.declared.refusal.Refusal.{Refusal}
use Rattle.acl_stmt.specs.declared.statement.Statement.{Statement}
use Rattle.priv_map.specs.declared.acting.Acting.{Acting}

-- who asks to be let in, from where and with which password, and the moment where one is given, in seconds since
-- 1970-01-01T00:00:00Z
pub record Knock : Type 0 where
  pub user : List ℕ
  pub client : Client
  pub verifier : Verifier
  pub moment : Option ℤ

-- what a client is told that is let in: whom it acts for, its account as it is shown, and how many statements were accepted
pub record Login : Type 0 where
  pub acting : Acting
  pub shown : AuthId
  pub position : ℕ

-- why a client is not let in
pub data LoginRefusal : Type 0 where
  NoAccount : LoginRefusal
  -- the seconds until the account is open again, none for never
  Blocked : Option ℕ → LoginRefusal
  BadPassword : LoginRefusal
  Locked : AuthId → LoginRefusal
  -- the account system takes no more logins
  Ended : LoginRefusal

-- a statement on behalf of a session, or a login
pub data Call : Type 0 where
  Asks : Acting → Statement → Call
  Knocks : Knock → Call

-- an accepted statement is told its number, counted from 1
pub data Reply : Type 0 where
  ToStatement : Result ℕ Refusal → Reply
  ToLogin : Result Login LoginRefusal → Reply

-- a call, whose it is, its number among those of its caller, and its reply; a call that found no memory leaves no item
pub record Item : Type 0 where
  pub caller : ℕ
  pub number : ℕ
  pub call : Call
  pub reply : Reply

-- a statement that a caller asked for, and what it was answered
abbrev pub asked : ℕ → ℕ → Acting → Statement → Result ℕ Refusal → Item
asked caller number acting statement answer = record { caller = caller; number = number; call = Asks acting statement; reply = ToStatement answer }
