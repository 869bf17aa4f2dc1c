-- What the runs of the program stand on: a log from the very beginning, in which one account issues statements and local clients
-- are let in by two hosts (MySQL 8.0 Reference Manual, "Access Control and Account Management"; that `root`@`localhost` alone may
-- issue statements, that no grant hands on restrictions and that these two hosts alone count is this product's choice for now).
use Rattle.std.specs.Prelude.{ℕ, false, List, [], Option, Some, None, if◌then◌else◌, codes}
use Rattle.acl_model.specs.State.{State, opening, root, stands}
use Rattle.acl_names.specs.AuthId.{same_auth}
use Rattle.acl_names.specs.declared.auth.AuthId.{AuthId}
use Rattle.acl_stmt.specs.declared.refusal.Missing.{Missing}
use Rattle.acl_stmt.specs.declared.refusal.Why.TheVariants.{NoGrant}
use Rattle.book_log.specs.Logs.{Origin}
use Rattle.book_log.specs.Rules.{Rules}
use Rattle.legal_runs.specs.Commands.Shown.{NoSuchAccount}
use Rattle.legal_runs.specs.Rules.{Setting}
use Rattle.priv_sets.specs.declared.privilege.Privilege.TheVariants.{Plain}

-- an account of this user at a host
abbrev pub at_host : List ℕ → List ℕ → AuthId
at_host user host = record { user = user; host = host }

-- the account of a local client: that user at `localhost`, else at `%`
abbrev pub chosen : State → List ℕ → Option AuthId
chosen state user =
    if stands state (at_host user (codes "localhost")) then Some (at_host user (codes "localhost"))
    else if stands state (at_host user (codes "%")) then Some (at_host user (codes "%")) else None

-- what a session lacks that is not root's: CREATE USER
abbrev pub no_right : Missing
no_right = record { privilege = Plain 24; on_target = false; column = None; why = NoGrant }

abbrev pub lacked_by : AuthId → Option Missing
lacked_by account = if same_auth account root then None else Some no_right

abbrev pub rules : Rules
rules = record {
  lacked = λ state acting statement. lacked_by acting.account;
  hands_on = false;
  own_choice = Some (λ state knock. chosen state knock.user);
  is_full = λ entries entry. false;
}

abbrev pub origin : Origin
origin = record { rules = rules; start = opening; base = []; end = None }

-- no line shows grants yet
abbrev pub serial_setting : Setting
serial_setting = record { origin = origin; shown = λ state account roles. NoSuchAccount account }
