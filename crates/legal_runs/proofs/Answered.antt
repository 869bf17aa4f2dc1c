-- What the answers of a legal session say.
use Rattle.std.proofs.Common.{◌≡◌, ◌∙◌, ℕ, ◌+◌, ◌≤◌, true, List, [], ◌∷◌, ◌++◌, length, Some, refl, sym, ap, subst, arith, append_assoc, length-append}
use Rattle.acl_stmt.specs.declared.entry.Entry.{Entry}
use Rattle.acl_stmt.specs.declared.statement.Statement.{Statement}
use Rattle.book_log.proofs.Fronts.{same_fronts}
use Rattle.book_log.specs.Items.{Item}
use Rattle.legal_runs.proofs.Calls.{calls_are_counted}
use Rattle.legal_runs.proofs.Told.{goes_onward, told_since}
use Rattle.legal_runs.specs.Commands.{Command}
use Rattle.legal_runs.specs.Commands.Answer.{Done}
use Rattle.legal_runs.specs.Commands.Command.{Issue}
use Rattle.legal_runs.specs.Core.{Turn, session_after}
use Rattle.legal_runs.specs.Report.{AreLegal, IsLegalSession, LineAnswer, answer_at, answers_of, call_count, calls_of, commands_of, items_of, told_of}
use Rattle.legal_runs.specs.Rules.{Setting}
use Rattle.legal_runs.specs.Sessions.{calls_in, views}

as_many : (turns : List Turn) → length (commands_of turns) ≡ length (answers_of turns)
as_many [] = refl
as_many (turn ∷ turns) =
    let before = as_many turns in
    let one = length-append (commands_of turns) (turn.command ∷ []) in
    let other = length-append (answers_of turns) (answer_at turn.answer (session_after (turn ∷ turns)) ∷ []) in omega (arith, before, one, other)

calls_of_more : (commands : List Command) (lines : List LineAnswer) (command : Command) (line : LineAnswer) → length commands ≡ length lines →
    calls_of (commands ++ command ∷ []) (lines ++ line ∷ []) ≡ calls_of commands lines + call_count command line.answer
calls_of_more [] [] command line same = omega arith
calls_of_more [] (other ∷ lines) command line same = absurd (omega arith)
calls_of_more (earlier ∷ commands) [] command line same = absurd (omega arith)
calls_of_more (earlier ∷ commands) (other ∷ lines) command line same =
    let rest = calls_of_more commands lines command line (omega (arith, same)) in omega (arith, rest)

turn_calls : (on : Setting) (entries : List Entry) (turns : List Turn) → AreLegal on entries turns →
    length (items_of turns) ≡ calls_of (commands_of turns) (answers_of turns)
turn_calls on entries [] legal = refl
turn_calls on entries (turn ∷ turns) legal =
    let before = turn_calls on entries turns legal.0 in
    let own = calls_are_counted on (views entries (session_after turns) turn.parts) (session_after turns) turn.command turn.parts turn.answer legal.1.whole in
    let sum = length-append (items_of turns) (calls_in turn.parts) in
    let more = calls_of_more (commands_of turns) (answers_of turns) turn.command (answer_at turn.answer (session_after (turn ∷ turns))) (as_many turns) in
    omega (arith, before, own, sum, more)

pub session_calls : (on : Setting) (entries : List Entry) (items : List Item) (commands : List Command) (answers : List LineAnswer) →
    IsLegalSession on entries items commands answers → length items ≡ calls_of commands answers
session_calls on entries items commands answers legal =
    ap length legal.items_are ∙ turn_calls on entries legal.turns legal.are_legal
    ∙ ap (λ these. calls_of these (answers_of legal.turns)) (sym legal.commands_are) ∙ ap (calls_of commands) (sym legal.answers_are)

-- the turns whose answers end so
pub record EndsSo (turns : List Turn) (one other : LineAnswer) : Type 0 where
  pub last : Turn
  pub first : Turn
  pub older : List Turn
  pub turns_are : turns ≡ last ∷ first ∷ older
  pub one_is : one ≡ answer_at first.answer (session_after (first ∷ older))
  pub other_is : other ≡ answer_at last.answer (session_after (last ∷ first ∷ older))

pub ends_so : (turns : List Turn) (before : List LineAnswer) (one other : LineAnswer) → before ++ one ∷ other ∷ [] ≡ answers_of turns → EndsSo turns one other
ends_so [] before one other is = let sum = length-append before (one ∷ other ∷ []) in let same = ap length is in absurd (omega (arith, sum, same))
ends_so (turn ∷ []) before one other is = let sum = length-append before (one ∷ other ∷ []) in let same = ap length is in absurd (omega (arith, sum, same))
ends_so (last ∷ first ∷ older) before one other is =
    let split : (before ++ one ∷ []) ++ other ∷ [] ≡ answers_of (last ∷ first ∷ older) = append_assoc before (one ∷ []) (other ∷ []) ∙ is in
    let outer = same_fronts (before ++ one ∷ []) (answers_of (first ∷ older)) other (answer_at last.answer (session_after (last ∷ first ∷ older))) split in
    let inner = same_fronts before (answers_of older) one (answer_at first.answer (session_after (first ∷ older))) outer.0 in
    record { last = last; first = first; older = older; turns_are = refl; one_is = inner.1; other_is = outer.1 }

pub never_falls : (on : Setting) (entries : List Entry) (items : List Item) (commands : List Command) (before : List LineAnswer) (one other : LineAnswer) →
    IsLegalSession on entries items commands (before ++ one ∷ other ∷ []) → (one.now ≤ other.now) × (other.now ≤ length entries)
never_falls on entries items commands before one other legal =
    let ends = ends_so legal.turns before one other legal.answers_are in
    let are_legal : AreLegal on entries (ends.last ∷ ends.first ∷ ends.older) = subst (λ (turns : List Turn). AreLegal on entries turns) ends.turns_are legal.are_legal in
    let onward = goes_onward on entries ends.last (ends.first ∷ ends.older) are_legal in
    let first = ap (λ (line : LineAnswer). line.now) ends.one_is in
    let last = ap (λ (line : LineAnswer). line.now) ends.other_is in
    (omega (arith, onward.0, first, last), omega (arith, onward.1, last))

issued_first : (last first : Turn) (older : List Turn) (earlier : List Command) (statement : Statement) (command : Command) →
    earlier ++ Issue statement ∷ command ∷ [] ≡ commands_of (last ∷ first ∷ older) → Issue statement ≡ first.command
issued_first last first older earlier statement command is =
    let split : (earlier ++ Issue statement ∷ []) ++ command ∷ [] ≡ commands_of (last ∷ first ∷ older) = append_assoc earlier (Issue statement ∷ []) (command ∷ []) ∙ is in
    let outer = same_fronts (earlier ++ Issue statement ∷ []) (commands_of (first ∷ older)) command last.command split in
    (same_fronts earlier (commands_of older) (Issue statement) first.command outer.0).1

-- the last command of such turns
pub ends_with : (last first : Turn) (older : List Turn) (earlier : List Command) (command : Command) → earlier ++ command ∷ [] ≡ commands_of (last ∷ first ∷ older) →
    command ≡ last.command
ends_with last first older earlier command is = (same_fronts earlier (commands_of (first ∷ older)) command last.command is).1

pub told_before : (on : Setting) (entries : List Entry) (items : List Item) (earlier : List Command) (statement : Statement) (command : Command)
    (before : List LineAnswer) (one other : LineAnswer) (position : ℕ) →
    IsLegalSession on entries items (earlier ++ Issue statement ∷ command ∷ []) (before ++ one ∷ other ∷ []) → one.answer ≡ Done position true → position ≤ other.now
told_before on entries items earlier statement command before one other position legal done =
    let ends = ends_so legal.turns before one other legal.answers_are in
    let are_legal : AreLegal on entries ((ends.last ∷ []) ++ ends.first ∷ ends.older) = subst (λ (turns : List Turn). AreLegal on entries turns) ends.turns_are legal.are_legal in
    let command_is : Issue statement ≡ ends.first.command =
    issued_first ends.last ends.first ends.older earlier statement command (legal.commands_are ∙ ap commands_of ends.turns_are) in
    let answer_is : ends.first.answer ≡ Done position true = sym (ap (λ (line : LineAnswer). line.answer) ends.one_is) ∙ done in
    let told : told_of ends.first.command (calls_in ends.first.parts) ends.first.answer ≡ Some position =
    ap (λ (c : Command). told_of c (calls_in ends.first.parts) ends.first.answer) (sym command_is) ∙ ap (told_of (Issue statement) (calls_in ends.first.parts)) answer_is in
    let within = told_since on entries (ends.last ∷ []) ends.first ends.older position are_legal told in
    let last = ap (λ (line : LineAnswer). line.now) ends.other_is in omega (arith, within, last)
