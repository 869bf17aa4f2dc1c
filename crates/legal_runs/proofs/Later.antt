-- What is legal over a history is legal over each one that goes on from it.
use Rattle.std.proofs.Common.{◌≡◌, ℕ, ◌≤◌, List, [], ◌∷◌, ◌++◌, length, take, sym, subst, arith, length-append}
use Rattle.std.proofs.lemmas.List.{take-append-le}
use Rattle.acl_stmt.specs.declared.entry.Entry.{Entry}
use Rattle.legal_runs.proofs.Onward.{onward_more, onward_up, onward_within}
use Rattle.legal_runs.proofs.Points.{IsFit, line_fits, line_now}
use Rattle.legal_runs.specs.Core.{Turn, session_after}
use Rattle.legal_runs.specs.Lines.{IsWhole}
use Rattle.legal_runs.specs.Report.{AreLegal, IsLegalTurn}
use Rattle.legal_runs.specs.Rules.{Setting}
use Rattle.legal_runs.specs.Sessions.{Part, Session, Views, now_after, views}

pub views_later : (entries more : List Entry) (session : Session) (parts : List Part) →
    session.global ≤ length entries → session.schema ≤ length entries → now_after session.now parts ≤ length entries →
    views (entries ++ more) session parts ≡ views entries session parts
views_later entries more session parts global schema now =
    let level : take session.global (entries ++ more) ≡ take session.global entries = take-append-le session.global entries more global in
    let used : take session.schema (entries ++ more) ≡ take session.schema entries = take-append-le session.schema entries more schema in
    let present : take (now_after session.now parts) (entries ++ more) ≡ take (now_after session.now parts) entries =
    take-append-le (now_after session.now parts) entries more now in
    λ i. record { level = level i; schema = used i; present = present i }

-- a session after legal lines
pub record IsFitWithin (limit : ℕ) (session : Session) : Type 0 where
  pub fit : IsFit session
  pub within : session.now ≤ limit

pub legal_fits : (on : Setting) (entries : List Entry) (turns : List Turn) → AreLegal on entries turns → IsFitWithin (length entries) (session_after turns)
legal_fits on entries [] legal = record { fit = record { global = omega arith; schema = omega arith }; within = omega arith }
legal_fits on entries (turn ∷ turns) legal =
    let before = legal_fits on entries turns legal.0 in
    let session : Session = session_after turns in
    let within : now_after session.now turn.parts ≤ length entries = onward_within (length entries) session.now turn.parts legal.1.onward in
    let now = line_now turn.command turn.parts turn.answer session in
    record {
      fit =
          line_fits on (views entries session turn.parts) session turn.command turn.parts turn.answer before.fit
          (onward_more (length entries) session.now turn.parts legal.1.onward) legal.1.whole;
      within = omega (arith, now, within);
    }

pub turn_later : (on : Setting) (entries more : List Entry) (session : Session) (turn : Turn) → IsFitWithin (length entries) session →
    IsLegalTurn on entries session turn → IsLegalTurn on (entries ++ more) session turn
turn_later on entries more session turn before legal =
    let now : now_after session.now turn.parts ≤ length entries = onward_within (length entries) session.now turn.parts legal.onward in
    let global = before.fit.global in
    let schema = before.fit.schema in
    let within = before.within in
    let same : views (entries ++ more) session turn.parts ≡ views entries session turn.parts =
    views_later entries more session turn.parts (omega arith) (omega arith) now in
    let sum = length-append entries more in
    record {
      whole = subst (λ (at : Views). IsWhole on at session turn.command turn.parts turn.answer) (sym same) legal.whole;
      onward = onward_up (length entries) (length (entries ++ more)) session.now turn.parts (omega (arith, sum)) legal.onward;
    }

pub legal_later : (on : Setting) (entries more : List Entry) (turns : List Turn) → AreLegal on entries turns → AreLegal on (entries ++ more) turns
legal_later on entries more [] legal = tt
legal_later on entries more (turn ∷ turns) legal =
    (legal_later on entries more turns legal.0, turn_later on entries more (session_after turns) turn (legal_fits on entries turns legal.0) legal.1)
